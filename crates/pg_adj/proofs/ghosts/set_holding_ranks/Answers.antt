use Rattle.std.proofs.Common.{ℕ, ◌-◌, ◌<◌, ◌==◌, ◌&&◌, not, Bool, List, length, ap, ◌∙◌, arith}
use Rattle.std.specs.List.{list_any}
use Rattle.pg_base.specs.Keyed.{row_of}
use Rattle.std.proofs.lemmas.List.{length-set}
use Rattle.pg_adj.specs.declared.arcs.Arc.{Arc}
use Rattle.pg_dist.specs.Sharing.{Sharing, IsSharing}
use Rattle.pg_adj.proofs.HomeSets.{sets_put, others_kept, row_by_key}
use Rattle.pg_adj.proofs.ghosts.set_holding_ranks.Goals as goal

pub loop-i-preserved : goal.loop-i-preserved
loop-i-preserved g c =
    let s : Sharing = g.D.Distribution.sharing c.args.dist.now in
    let laws : IsSharing s = g.met.D.Distribution.laws c.args.dist.now in
    let row : ℕ → List Arc = λ j. row_of c.args.own.now.bounds.items c.args.own.now.arcs.items j in
    let abroad : ℕ → Arc → Bool = λ r a. a.home.0 == r && not (a.home.0 == c.args.rank.0) in
    let place : c.loop-i.i < s.count c.args.rank.0 = omega (arith, c.count-i-end.ensures) in
    record {
      each = length-set c.loop-i.sets (c.global-v.result.0 - 1) c.foreign_homes.result ∙ c.loop-i.invariant.each;
      own = sets_put s laws c.args.rank.0 c.requires.rank c.loop-i.i place c.global-v.result.0 c.global-v.ensures c.loop-i.sets (length c.args.sets.now)
          c.requires.each c.loop-i.invariant.each c.foreign_homes.result
          (λ j r. list_any (abroad r) (row j))
          (λ r. c.foreign_homes.ensures r ∙ ap (λ (list : List Arc). list_any (abroad r) list) (c.row_at.ensures
          ∙ row_by_key c.args.own.now.bounds.items c.deref.result.now c.args.own.now.arcs.items c.deref-in-loop-i.result.now c.loop-i.i c.deref.ensures.value c.deref-in-loop-i.ensures.value))
          c.loop-i.invariant.own;
      others = others_kept s laws c.args.rank.0 c.requires.rank c.loop-i.i place c.global-v.result.0 c.global-v.ensures c.loop-i.sets (length c.args.sets.now)
          c.requires.each c.loop-i.invariant.each c.foreign_homes.result
          c.args.sets.now c.loop-i.invariant.others;
    }
