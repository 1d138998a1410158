-- By which steps a rank keeps its promise while it runs: what it shows before and after each.
-- Source: after Boman, Bozdağ, Catalyurek, Gebremedhin and Manne, A scalable parallel graph coloring algorithm for
-- distributed memory computers (Euro-Par 2005).
use Rattle.std.specs.Prelude.{◌≡◌, ◌↔◌, ℕ, ◌+◌, ◌*◌, ◌<◌, true, false, Some, None, List, [], ◌∷◌, length, slice_get, AllPairs, Contains}
use Rattle.std.specs.List.{range_with_len}
use Rattle.pg_group.specs.declared.messages.Body.{Body}
use Rattle.pg_group.specs.declared.messages.Body.TheVariants.{Item, Mark}
use Rattle.pg_group.specs.declared.messages.Vote.{Vote}
use Rattle.pg_group.specs.Ranked.{IsOther, append_at}
use Rattle.pg_group.specs.Supersteps.{nothing, append_others, append_marks}
use Rattle.pg_adj.specs.Portions.{Portion}
use Rattle.pg_cells.specs.declared.bodies.CellBody.{CellBody}
use Rattle.pg_cells.specs.declared.refreshes.PendingRefresh.{PendingRefresh}
use Rattle.pg_cells.specs.States.{refreshes_of}
use Rattle.pg_colour.specs.declared.TheConstants.{NO_COLOUR}
use Rattle.pg_colour.specs.Passes.{IsLeastFree, IsClash, with_cell}
use Rattle.pg_colour.specs.Refreshed.{IsRefreshFrom, refresh_of, values_for, last_or}
use Rattle.pg_colour.specs.LocalColour.{State, LocalColour}

-- At first no cell has a colour, and the list is all own places.
pub record IsOpening (part : Portion) (s : State) : Type 0 where
  pub round : s.round ≡ 0
  pub cast : s.cast ≡ None
  pub ended : s.ended ≡ false
  pub list : s.list ≡ range_with_len 0 (length part.vertices)
  pub done : s.done ≡ 0
  pub own : (place : ℕ) → s.own place ≡ NO_COLOUR
  pub seen : (slot : ℕ) → slot < length part.ghosts → s.seen slot ≡ NO_COLOUR

-- So a rank begins.
abbrev pub OpeningKeeps : Type 0
OpeningKeeps = (part : Portion) (s : State) → IsOpening part s → LocalColour part (nothing part.ranks) (nothing part.ranks) s

-- A refresh from its home replaces a ghost's cell, and no other changes. What another message changes of the cells is
-- left open.
pub record HasHandled (part : Portion) (from : ℕ) (m : CellBody) (s t : State) : Type 0 where
  pub round : t.round ≡ s.round
  pub cast : t.cast ≡ s.cast
  pub ended : t.ended ≡ s.ended
  pub list : t.list ≡ s.list
  pub done : t.done ≡ s.done
  pub own : IsRefreshFrom part from m → (place : ℕ) → t.own place ≡ s.own place
  pub seen : IsRefreshFrom part from m → (slot : ℕ) → slot < length part.ghosts → t.seen slot ≡ last_or (s.seen slot) (values_for slot (m ∷ []))

-- To handle a message.
abbrev pub HandlingKeeps : Type 0
HandlingKeeps = (part : Portion) (handled sent : List (List (Body CellBody))) (s t : State) (from : ℕ) (m : CellBody) → IsOther part.rank part.ranks from → HasHandled part from m s t
    → LocalColour part handled sent s → LocalColour part (append_at handled from (Item m)) sent t

-- One more item of the round is done, and no ghost changes.
pub record HasDone (part : Portion) (s t : State) : Type 0 where
  pub uncast : s.cast ≡ None
  pub round : t.round ≡ s.round
  pub cast : t.cast ≡ None
  pub ended : t.ended ≡ s.ended
  pub list : t.list ≡ s.list
  pub done : t.done ≡ s.done + 1
  pub seen : (slot : ℕ) → slot < length part.ghosts → t.seen slot ≡ s.seen slot

-- In a pass: to give the next place of the list its colour.
abbrev pub ColouringKeeps : Type 0
ColouringKeeps = (part : Portion) (handled sent : List (List (Body CellBody))) (s t : State) (j place c : ℕ) → s.round ≡ 2 * j → slice_get s.list s.done ≡ Some place
    → IsLeastFree part s.own s.seen place c → HasDone part s t → ((p : ℕ) → t.own p ≡ with_cell s.own place c p)
    → LocalColour part handled sent s → LocalColour part handled sent t

-- In the round after it: to send the next refresh.
abbrev pub SendingKeeps : Type 0
SendingKeeps = (part : Portion) (handled sent : List (List (Body CellBody))) (s t : State) (j : ℕ) (pending : PendingRefresh) → s.round ≡ 2 * j + 1
    → slice_get (refreshes_of part) s.done ≡ Some pending → IsOther part.rank part.ranks pending.holder.rank.0 → HasDone part s t → ((p : ℕ) → t.own p ≡ s.own p)
    → LocalColour part handled sent s → LocalColour part handled (append_at sent pending.holder.rank.0 (Item (refresh_of s.own pending))) t

-- All items of the round are done, and the vote says how many vertices were coloured, or 1.
pub record IsVoteOf (part : Portion) (s : State) (vote : Vote) : Type 0 where
  pub pass : (j : ℕ) → s.round ≡ 2 * j → (s.done ≡ length s.list) × (vote.a ≡ length s.list)
  pub refresh : (j : ℕ) → s.round ≡ 2 * j + 1 → (s.done ≡ length (refreshes_of part)) × (vote.a ≡ 1)
  pub b : vote.b ≡ 0
  pub c : vote.c ≡ 0
  pub d : vote.d ≡ 0

-- The vote is cast.
pub record HasVoted (part : Portion) (vote : Vote) (s t : State) : Type 0 where
  pub uncast : s.cast ≡ None
  pub round : t.round ≡ s.round
  pub cast : t.cast ≡ Some vote
  pub ended : t.ended ≡ s.ended
  pub list : t.list ≡ s.list
  pub done : t.done ≡ s.done
  pub own : (place : ℕ) → t.own place ≡ s.own place
  pub seen : (slot : ℕ) → slot < length part.ghosts → t.seen slot ≡ s.seen slot

-- To vote.
abbrev pub VotingKeeps : Type 0
VotingKeeps = (part : Portion) (handled sent : List (List (Body CellBody))) (s t : State) (vote : Vote) → IsVoteOf part s vote → HasVoted part vote s t
    → LocalColour part handled sent s → LocalColour part handled (append_others part.rank (Mark vote) sent) t

-- No rank had a vertex to colour.
abbrev pub AreNothing : List Vote → Type 0
AreNothing votes = (r : ℕ) (vote : Vote) → slice_get votes r ≡ Some vote → vote.a ≡ 0

-- The places with a clash, ascending.
pub record AreClashes (part : Portion) (s : State) (list : List ℕ) : Type 0 where
  pub ascending : AllPairs (λ k l. k < l) list
  pub clash : (place : ℕ) → Contains list place ↔ ((place < length part.vertices) × IsClash part s.own s.seen place)

-- A further round begins. After a pass that was not the last the ghosts are refreshed; after that the clashes are the
-- list of the next pass.
pub record HasGoneOn (part : Portion) (votes : List Vote) (s t : State) : Type 0 where
  pub running : s.ended ≡ false
  pub each : length votes ≡ part.ranks
  pub mine : slice_get votes part.rank ≡ s.cast
  pub something : (j : ℕ) → s.round ≡ 2 * j → AreNothing votes → ⊥
  pub round : t.round ≡ s.round + 1
  pub cast : t.cast ≡ None
  pub ended : t.ended ≡ false
  pub list : (j : ℕ) → s.round ≡ 2 * j + 1 → AreClashes part s t.list
  pub done : t.done ≡ 0
  pub own : (place : ℕ) → t.own place ≡ s.own place
  pub seen : (slot : ℕ) → slot < length part.ghosts → t.seen slot ≡ s.seen slot

-- To go on to the next round.
abbrev pub GoingOnKeeps : Type 0
GoingOnKeeps = (part : Portion) (handled sent : List (List (Body CellBody))) (s t : State) (votes : List Vote) (vote : Vote) → s.cast ≡ Some vote → HasGoneOn part votes s t
    → LocalColour part handled sent s → LocalColour part (append_marks part.rank votes handled) sent t

-- A pass in which no rank had a vertex to colour is the last.
pub record HasStopped (part : Portion) (votes : List Vote) (s t : State) : Type 0 where
  pub running : s.ended ≡ false
  pub each : length votes ≡ part.ranks
  pub mine : slice_get votes part.rank ≡ s.cast
  pub pass : (j : ℕ) × (s.round ≡ 2 * j)
  pub nothing : AreNothing votes
  pub round : t.round ≡ s.round
  pub cast : t.cast ≡ s.cast
  pub ended : t.ended ≡ true
  pub list : t.list ≡ s.list
  pub done : t.done ≡ s.done
  pub own : (place : ℕ) → t.own place ≡ s.own place
  pub seen : (slot : ℕ) → slot < length part.ghosts → t.seen slot ≡ s.seen slot

-- To end.
abbrev pub EndingKeeps : Type 0
EndingKeeps = (part : Portion) (handled sent : List (List (Body CellBody))) (s t : State) (votes : List Vote) (vote : Vote) → s.cast ≡ Some vote → HasStopped part votes s t
    → LocalColour part handled sent s → LocalColour part (append_marks part.rank votes handled) sent t
