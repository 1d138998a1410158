use Rattle.std.proofs.Common.{◌≡◌, ℕ, [], ◌∷◌, ◌++◌, length, ap, arith, slice_index, vec_capacity, ◌+◌}
use Rattle.std.proofs.lemmas.List.{length_push}
use Rattle.pg_adj.specs.declared.holders.HolderRows.{HolderRows}
use Rattle.pg_adj.proofs.Sharings.{each_push}
use Rattle.pg_adj.proofs.holders.empty_rows.Goals as goal

pub loop-r-preserved : goal.loop-r-preserved
loop-r-preserved g c =
    let x : HolderRows = c.in_ok-no_rows.field-0 in
    let put : c.push.new.self.items ≡ c.loop-r.rows.items ++ x ∷ [] = c.in_ok-push.ensures.items in
    record {
      count = omega (arith, ap length put, length_push c.loop-r.rows.items x, c.loop-r.invariant.count);
      row = each_push (λ (r : ℕ) (y : HolderRows). y.bounds.items ≡ 0 ∷ []) c.loop-r.rows.items c.push.new.self.items x c.loop-r.r c.loop-r.invariant.count c.loop-r.invariant.row
          c.in_ok-no_rows.ensures.bounds put;
      empty = each_push (λ (r : ℕ) (y : HolderRows). y.holders.items ≡ []) c.loop-r.rows.items c.push.new.self.items x c.loop-r.r c.loop-r.invariant.count c.loop-r.invariant.empty
          c.in_ok-no_rows.ensures.holders put;
      places = each_push (λ (r : ℕ) (y : HolderRows). vec_capacity y.bounds ≡ (g.D.Distribution.sharing c.args.dist.now).count r + 1) c.loop-r.rows.items c.push.new.self.items x c.loop-r.r
          c.loop-r.invariant.count c.loop-r.invariant.places (omega (arith, c.in_ok-no_rows.ensures.places, c.count-places.ensures)) put;
      room = each_push (λ (r : ℕ) (y : HolderRows). vec_capacity y.holders ≡ slice_index c.args.counts.now r) c.loop-r.rows.items c.push.new.self.items x c.loop-r.r
          c.loop-r.invariant.count c.loop-r.invariant.room (omega (arith, c.in_ok-no_rows.ensures.room)) put;
    }
