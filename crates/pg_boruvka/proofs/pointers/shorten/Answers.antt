use Rattle.std.proofs.Common.{◌≡◌, ◌<◌, ◌≤◌, ◌^◌, arith, subst, sym}
use Rattle.std.specs.Prelude.{All}
use Rattle.pg_base.specs.declared.TheConstants.{MAX_VERTICES}
use Rattle.pg_boruvka.proofs.PointerWalks.{shortening_none, shortening_more, shortened_far, shortened_at_ends, reached_to_end}
use Rattle.pg_boruvka.proofs.pointers.shorten.Goals as goal

pub loop-init : goal.loop-init
loop-init c = shortening_none c.args.pointers.now c.requires

pub double-requires : goal.double-requires
double-requires c = subst (λ n. All (λ l. l < n) c.loop.pointers) (sym c.loop.invariant.same_count) c.loop.invariant.within

pub returns-then-not-double-clause-shortened : goal.returns-then-not-double-clause-shortened
returns-then-not-double-clause-shortened c =
    let more = shortening_more c.args.pointers.now c.loop.pointers c.double.new.pointers c.loop.counter c.loop.invariant c.double.ensures.farther c.double.ensures.same_count c.double.ensures.within in
    reached_to_end c.args.pointers.now c.double.new.pointers MAX_VERTICES
    (shortened_at_ends c.args.pointers.now c.double.new.pointers _ MAX_VERTICES more (c.double.ensures.at_ends c.if-not-double.true))

pub loop-preserved : goal.loop-preserved
loop-preserved c = shortening_more c.args.pointers.now c.loop.pointers c.double.new.pointers c.loop.counter c.loop.invariant c.double.ensures.farther c.double.ensures.same_count c.double.ensures.within

pub returns-clause-shortened : goal.returns-clause-shortened
returns-clause-shortened c =
    let all : c.loop.counter ≡ 20 = omega arith in
    let far : MAX_VERTICES ≤ 2 ^ c.loop.counter = subst (λ k. MAX_VERTICES ≤ 2 ^ k) (sym all) (omega arith) in
    reached_to_end c.args.pointers.now c.loop.pointers MAX_VERTICES
    (shortened_far c.args.pointers.now c.loop.pointers c.loop.counter MAX_VERTICES far c.loop.invariant)

pub returns-clause-within : goal.returns-clause-within
returns-clause-within c = subst (λ n. All (λ l. l < n) c.loop.pointers) (sym c.loop.invariant.same_count) c.loop.invariant.within
