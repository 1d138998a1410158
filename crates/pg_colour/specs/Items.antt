-- The items of a round, and what single calls of a colouring do to what it shows.
-- Source: Boman, Bozdağ, Catalyurek, Gebremedhin and Manne, A scalable parallel graph coloring algorithm for
-- distributed memory computers (Euro-Par 2005).
use Rattle.std.specs.Prelude.{◌≡◌, ◌⊎◌, ℕ, zero, suc, ◌+◌, ◌<◌, List, [], ◌∷◌, Some, None, length, slice_get}
use Rattle.pg_group.specs.declared.messages.Body.{Body}
use Rattle.pg_group.specs.declared.messages.Body.TheVariants.{Item}
use Rattle.pg_group.specs.declared.messages.Vote.{Vote}
use Rattle.pg_group.specs.Ranked.{IsOther, append_at}
use Rattle.pg_adj.specs.Portions.{Portion}
use Rattle.pg_cells.specs.declared.bodies.CellBody.{CellBody}
use Rattle.pg_cells.specs.declared.phases.Phase.{Phase}
use Rattle.pg_cells.specs.declared.phases.Phase.TheVariants.{Filling, Refreshing}
use Rattle.pg_cells.specs.declared.refreshes.PendingRefresh.{PendingRefresh}
use Rattle.pg_cells.specs.States.{refreshes_of}
use Rattle.pg_colour.specs.LocalColour.{State}
use Rattle.pg_colour.specs.Passes.{IsLeastFree, with_cell}
use Rattle.pg_colour.specs.Refreshed.{refresh_of, values_for, last_or}

-- The phase of the cells in a round: values are put in the even ones, and the holders are refreshed in the odd ones.
abbrev pub phase_in : ℕ → Phase
phase_in zero = Filling
phase_in (suc zero) = Refreshing
phase_in (suc (suc k)) = phase_in k

-- How many items a round has: the vertices of the list are coloured, or each own cell goes to each holder.
abbrev pub items_in : Portion → List ℕ → Phase → ℕ
items_in part list Refreshing = length (refreshes_of part)
items_in part list phase = length list

-- All of the round is done.
abbrev pub IsDone : Portion → State → Type 0
IsDone part s = s.done ≡ items_in part s.list (phase_in s.round)

-- The round, its vote and its list stay.
pub record StaysInRound (s t : State) : Type 0 where
  pub round : t.round ≡ s.round
  pub cast : t.cast ≡ s.cast
  pub ended : t.ended ≡ s.ended
  pub list : t.list ≡ s.list

-- In a pass the next vertex of the list gets the least colour that no neighbour has.
pub record ColoursOne (part : Portion) (s t : State) : Type 0 where
  pub pass : phase_in s.round ≡ Filling
  pub place : ℕ
  pub colour : ℕ
  pub next : slice_get s.list s.done ≡ Some place
  pub least : IsLeastFree part s.own s.seen place colour
  pub own : (k : ℕ) → t.own k ≡ with_cell s.own place colour k
  pub seen : (slot : ℕ) → t.seen slot ≡ s.seen slot
  pub done : t.done ≡ s.done + 1
  pub stays : StaysInRound s t

-- In a refreshing round the next own cell goes to a holder.
pub record RefreshesOne (part : Portion) (s t : State) (sent more : List (List (Body CellBody))) : Type 0 where
  pub refresh : phase_in s.round ≡ Refreshing
  pub pending : PendingRefresh
  pub next : slice_get (refreshes_of part) s.done ≡ Some pending
  pub other : IsOther part.rank part.ranks pending.holder.rank.0
  pub sends : more ≡ append_at sent pending.holder.rank.0 (Item (refresh_of s.own pending))
  pub own : (k : ℕ) → t.own k ≡ s.own k
  pub seen : (slot : ℕ) → t.seen slot ≡ s.seen slot
  pub done : t.done ≡ s.done + 1
  pub stays : StaysInRound s t

abbrev pub DoesOne : Portion → State → State → List (List (Body CellBody)) → List (List (Body CellBody)) → Type 0
DoesOne part s t sent more = (ColoursOne part s t × (more ≡ sent)) ⊎ RefreshesOne part s t sent more

-- A refresh replaces the ghost of its slot, and a put changes nothing.
pub record Handles (part : Portion) (body : CellBody) (s t : State) : Type 0 where
  pub own : (k : ℕ) → t.own k ≡ s.own k
  pub seen : (slot : ℕ) → slot < length part.ghosts → t.seen slot ≡ last_or (s.seen slot) (values_for slot (body ∷ []))
  pub done : t.done ≡ s.done
  pub stays : StaysInRound s t

-- Only the first number of the vote says something.
pub record IsNarrow (vote : Vote) : Type 0 where
  pub b : vote.b ≡ 0
  pub c : vote.c ≡ 0
  pub d : vote.d ≡ 0

-- A further round begins, with nothing done in it and with the cells as they are.
pub record TurnsRound (s t : State) : Type 0 where
  pub round : t.round ≡ s.round + 1
  pub cast : t.cast ≡ None
  pub ended : t.ended ≡ s.ended
  pub done : t.done ≡ 0
  pub own : (k : ℕ) → t.own k ≡ s.own k
  pub seen : (slot : ℕ) → t.seen slot ≡ s.seen slot
