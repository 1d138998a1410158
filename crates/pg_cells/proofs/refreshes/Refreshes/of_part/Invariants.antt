use Rattle.std.proofs.Common.{◌≡◌, ◌<◌, All, length}
use Rattle.pg_adj.specs.Portions.{IsForeign}
use Rattle.pg_cells.specs.States.{refreshes_below}
use Rattle.pg_cells.proofs.refreshes.Refreshes.of_part.Given as goal

abbrev pub invariant-loop-place : goal.invariant-loop-place
invariant-loop-place l = record {
  entries : l.entries.items ≡ refreshes_below l.part l.place;
  foreign : All (λ pending. IsForeign l.part pending.holder.rank.0) l.entries.items;
  places : All (λ pending. pending.place < length l.part.vertices) l.entries.items;
}
