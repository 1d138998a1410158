use Rattle.std.proofs.Common.{◌≡◌, ℕ, ◌<◌, [], ◌∷◌, length, slice_index, slice_index_or, vec_capacity, ◌+◌}
use Rattle.pg_adj.specs.declared.holders.HolderRows.{HolderRows}
use Rattle.pg_adj.proofs.holders.empty_rows.Given as goal

abbrev pub invariant-loop-r : goal.invariant-loop-r
invariant-loop-r g l = record {
  count : length l.rows.items ≡ l.r;
  row : (r : ℕ) (d : HolderRows) → r < l.r → (slice_index_or l.rows.items r d).bounds.items ≡ 0 ∷ [];
  empty : (r : ℕ) (d : HolderRows) → r < l.r → (slice_index_or l.rows.items r d).holders.items ≡ [];
  places : (r : ℕ) (d : HolderRows) → r < l.r → vec_capacity (slice_index_or l.rows.items r d).bounds ≡ (g.D.Distribution.sharing l.dist).count r + 1;
  room : (r : ℕ) (d : HolderRows) → r < l.r → vec_capacity (slice_index_or l.rows.items r d).holders ≡ slice_index l.counts r;
}
