use Rattle.std.proofs.Common.{◌≡◌, ◌<◌, ◌≤◌, ℕ, length}
use Rattle.std.specs.Vec.{vec_capacity}
use Rattle.pg_agenda.specs.PlaceLists.{link_at}
use Rattle.pg_agenda.proofs.place_lists.own_links.Given as goal

abbrev pub invariant-loop-node : goal.invariant-loop-node
invariant-loop-node l = record {
  many : length l.links.items ≡ l.node;
  room : l.nodes ≤ vec_capacity l.links;
  own : (x : ℕ) → x < l.node → link_at l.links.items x ≡ x;
}
