-- What ranks send each other in the odd rounds: each own cell goes to every holder of its vertex.
-- Source: ghost cells after Gregor and Lumsdaine, Lifting Sequential Graph Algorithms for Distributed-Memory Parallel
-- Computation (OOPSLA 2005).
use Rattle.std.specs.Prelude.{◌≡◌, ◌==◌, cond, ℕ, zero, suc, ◌+◌, ◌*◌, List, [], ◌∷◌, Some, map, filter, slice_get, slice_index_or, All, Contains}
use Rattle.pg_group.specs.declared.messages.Body.{Body}
use Rattle.pg_group.specs.Ranked.{IsOther, list_at}
use Rattle.pg_group.specs.Rounds.{items_of_round}
use Rattle.pg_adj.specs.declared.arcs.Ghost.{Ghost}
use Rattle.pg_adj.specs.Portions.{Portion}
use Rattle.pg_cells.specs.declared.bodies.CellBody.{CellBody}
use Rattle.pg_cells.specs.declared.bodies.CellBody.TheVariants.{Put, Refresh}
use Rattle.pg_cells.specs.declared.refreshes.PendingRefresh.{PendingRefresh}
use Rattle.pg_cells.specs.States.{refreshes_of}
use Rattle.pg_colour.specs.Passes.{Cells, no_colours}

-- The message that carries the own cell of a place to one of its holders.
abbrev pub refresh_of : Cells → PendingRefresh → CellBody
refresh_of own pending = Refresh pending.holder.slot (own pending.place)

-- Those of the refreshes that go to a rank, in order.
abbrev pub refreshes_to : ℕ → Cells → List PendingRefresh → List CellBody
refreshes_to to own pending = map (refresh_of own) (filter (λ p. p.holder.rank.0 == to) pending)

-- The message has a value for a holder of an own place and names that holder's slot.
pub record IsRefreshTo (part : Portion) (to : ℕ) (m : CellBody) : Type 0 where
  pub pending : PendingRefresh
  pub value : ℕ
  pub among : Contains (refreshes_of part) pending
  pub rank : pending.holder.rank.0 ≡ to
  pub is : m ≡ Refresh pending.holder.slot value

-- No item is sent in an even round, and each that is sent in an odd round is a refresh for a holder of an own place.
pub record AreRefreshes (part : Portion) (sent : List (List (Body CellBody))) : Type 0 where
  pub even : (to j : ℕ) → IsOther part.rank part.ranks to → items_of_round (2 * j) (list_at sent to) ≡ []
  pub odd : (to j : ℕ) → IsOther part.rank part.ranks to → All (IsRefreshTo part to) (items_of_round (2 * j + 1) (list_at sent to))

-- The message has a value for a ghost whose home is the sender.
pub record IsRefreshFrom (part : Portion) (from : ℕ) (m : CellBody) : Type 0 where
  pub slot : ℕ
  pub value : ℕ
  pub ghost_there : Ghost
  pub there : slice_get part.ghosts slot ≡ Some ghost_there
  pub home : ghost_there.home.0 ≡ from
  pub is : m ≡ Refresh slot value

-- No item was handled in an even round, and each that was handled in an odd round is a refresh from the home of its
-- ghost.
pub record AreSound (part : Portion) (handled : List (List (Body CellBody))) : Type 0 where
  pub even : (from j : ℕ) → IsOther part.rank part.ranks from → items_of_round (2 * j) (list_at handled from) ≡ []
  pub odd : (from j : ℕ) → IsOther part.rank part.ranks from → All (IsRefreshFrom part from) (items_of_round (2 * j + 1) (list_at handled from))

-- The values that messages have for a slot, in order.
abbrev pub values_for : ℕ → List CellBody → List ℕ
values_for slot [] = []
values_for slot (Put place value ∷ messages) = values_for slot messages
values_for slot (Refresh at value ∷ messages) = cond (at == slot) (value ∷ values_for slot messages) (values_for slot messages)

-- The last value, or what was there before.
abbrev pub last_or : ℕ → List ℕ → ℕ
last_or was [] = was
last_or was (value ∷ values) = last_or value values

-- The rank to which the vertex of a slot belongs; 0 where there is no such slot.
abbrev pub home_of : Portion → ℕ → ℕ
home_of part slot = (slice_index_or part.ghosts slot (record { vertex = record { 0 = 0 }; home = record { 0 = 0 }; place = 0 })).home.0

-- What the messages from their homes left in the ghosts in the first k rounds. No colour is seen at first.
abbrev pub seen_after : Portion → List (List (Body CellBody)) → ℕ → Cells
seen_after part handled zero = no_colours
seen_after part handled (suc k) = λ slot. last_or (seen_after part handled k slot) (values_for slot (items_of_round k (list_at handled (home_of part slot))))
