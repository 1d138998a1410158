use Rattle.std.proofs.Common.{◌≡◌, ◌∙◌, ◌+◌, ◌<◌, length, Some, sym, ap, subst, arith, length-append}
use Rattle.std.specs.Prelude.{option_and_then, slice_get}
use Rattle.pg_colour.specs.Shown.{part_in, state_of}
use Rattle.pg_colour.specs.Whole.{colour_in}
use Rattle.pg_top.specs.Coloured.{held_colour}
use Rattle.pg_dist.specs.Sharing.{Sharing, IsSharing}
use Rattle.pg_top.proofs.AnswerLemmas.{one_more, read_is_there}
use Rattle.pg_top.proofs.colours.colours_of.Goals as goal

pub colour_at-requires : goal.colour_at-requires
colour_at-requires g c =
    let s : Sharing = g.D.Distribution.sharing c.args.dist.now in
    let laws : IsSharing s = g.met.D.Distribution.laws c.args.dist.now in
    let owned : s.owner (c.loop-place.place + 1) < length c.args.programs.now = omega (arith, laws.owner_is_rank (c.loop-place.place + 1) (omega arith) (omega (arith, c.loop-place-test.true, c.n-n.ensures.value)), c.requires.ranks) in
    let there : slice_get c.args.programs.now (s.owner (c.loop-place.place + 1)) ≡ Some c.index-programs-owner.result
    = read_is_there c.args.programs.now (s.owner (c.loop-place.place + 1)) c.index-programs-owner.result owned (c.index-programs-owner.is ∙ search arith) in
    subst (λ i. i < length (part_in c.index-programs-owner.result).vertices) (sym c.local.ensures)
    (c.requires.places (c.loop-place.place + 1) c.index-programs-owner.result (omega arith) (omega (arith, c.loop-place-test.true, c.n-n.ensures.value)) there)

pub loop-place-preserved : goal.loop-place-preserved
loop-place-preserved g c =
    let s : Sharing = g.D.Distribution.sharing c.args.dist.now in
    let laws : IsSharing s = g.met.D.Distribution.laws c.args.dist.now in
    let owned : s.owner (c.loop-place.place + 1) < length c.args.programs.now = omega (arith, laws.owner_is_rank (c.loop-place.place + 1) (omega arith) (omega (arith, c.loop-place-test.true, c.n-n.ensures.value)), c.requires.ranks) in
    let there : slice_get c.args.programs.now (s.owner (c.loop-place.place + 1)) ≡ Some c.index-programs-owner.result
    = read_is_there c.args.programs.now (s.owner (c.loop-place.place + 1)) c.index-programs-owner.result owned (c.index-programs-owner.is ∙ search arith) in
    let pushed = c.push_reserved.ensures in
    record {
      count = omega (arith, ap length pushed.items ∙ length-append c.loop-place.of_vertices.items _, c.loop-place.invariant.count);
      room = search arith;
      each = one_more c.loop-place.of_vertices.items c.push_reserved.new.self.items c.colour_at.result c.loop-place.place
          (λ v answer. answer ≡ held_colour s c.args.programs.now (v + 1)) pushed.items c.loop-place.invariant.count c.loop-place.invariant.each
          (c.colour_at.ensures ∙ (ap (λ place. colour_in ((state_of c.index-programs-owner.result).own place)) c.local.ensures
          ∙ sym (ap (option_and_then (λ p. colour_in ((state_of p).own (s.local (c.loop-place.place + 1))))) there)));
    }

pub returns : goal.returns
returns g c = record { count = search arith; each = λ v h. c.loop-place.invariant.each v (search arith) }
