-- What one rank keeps of colouring by passes, between the lists handled and sent, by rank, and what it shows. Pass j is
-- made in round 2j, and in round 2j + 1 the ranks refresh each other's ghosts.
-- Source: after Boman, Bozdağ, Catalyurek, Gebremedhin and Manne, A scalable parallel graph coloring algorithm for
-- distributed memory computers (Euro-Par 2005). That ghosts are refreshed once a pass is this project's choice.
use Rattle.std.specs.Prelude.{◌≡◌, ◌↔◌, ℕ, zero, suc, ◌+◌, ◌*◌, ◌<◌, ◌≤◌, Bool, true, false, Option, Some, None, List, [], length, take, slice_get, AllPairs, Contains}
use Rattle.std.specs.List.{range_with_len}
use Rattle.pg_group.specs.declared.messages.Body.{Body}
use Rattle.pg_group.specs.declared.messages.Vote.{Vote}
use Rattle.pg_group.specs.Ranked.{IsOther, list_at}
use Rattle.pg_group.specs.Rolls.{voted}
use Rattle.pg_group.specs.Rounds.{marks, items_of_round, votes_of}
use Rattle.pg_adj.specs.Portions.{Portion}
use Rattle.pg_cells.specs.declared.bodies.CellBody.{CellBody}
use Rattle.pg_cells.specs.States.{refreshes_of}
use Rattle.pg_colour.specs.Passes.{Cells, Passes, IsClash, no_colours}
use Rattle.pg_colour.specs.Refreshed.{AreRefreshes, AreSound, refreshes_to, seen_after}

-- What a rank shows: its present round, the vote that it cast in it, whether it has ended, the list of places of the
-- present pass, how many items of this round are done (vertices that were coloured, or refreshes that were sent), its
-- own cells by place, and its ghosts' cells by slot.
pub record State : Type 0 where
  pub round : ℕ
  pub cast : Option Vote
  pub ended : Bool
  pub list : List ℕ
  pub done : ℕ
  pub own : Cells
  pub seen : Cells

-- A rank's passes, by number: the list of places that each goes through, and the own cells after it.
pub record History : Type 0 where
  pub list : ℕ → List ℕ
  pub own : ℕ → Cells

-- The own cells with which a pass begins.
abbrev pub own_before : History → ℕ → Cells
own_before h zero = no_colours
own_before h (suc j) = h.own j

-- As many lists as ranks; nothing is handled from the rank itself; as many marks handled as rounds have ended, and as
-- many sent as votes were cast; the last round has a vote; no item is sent in a round to come.
pub record AreCounted (part : Portion) (handled sent : List (List (Body CellBody))) (s : State) : Type 0 where
  pub from_each : length handled ≡ part.ranks
  pub to_each : length sent ≡ part.ranks
  pub alone : list_at handled part.rank ≡ []
  pub running : s.ended ≡ false → (from : ℕ) → IsOther part.rank part.ranks from → marks (list_at handled from) ≡ s.round
  pub closed : s.ended ≡ true → (from : ℕ) → IsOther part.rank part.ranks from → marks (list_at handled from) ≡ suc s.round
  pub stopped : s.ended ≡ true → s.cast ≡ None → ⊥
  pub given : (to : ℕ) → IsOther part.rank part.ranks to → marks (list_at sent to) ≡ voted s.round s.cast
  pub later : (to k : ℕ) → IsOther part.rank part.ranks to → s.round < k → items_of_round k (list_at sent to) ≡ []

-- The first list is all own places. Each further one is the places with a clash, ascending. Each pass sees the ghosts
-- as they were after the round before it. (What is seen after pass j and the round behind it is that after the first 2j
-- + 2 rounds.)
pub record ArePasses (part : Portion) (handled : List (List (Body CellBody))) (round : ℕ) (h : History) : Type 0 where
  pub begins : h.list 0 ≡ range_with_len 0 (length part.vertices)
  pub ascends : (j : ℕ) → 2 * j ≤ round → AllPairs (λ k l. k < l) (h.list j)
  pub clashes : (j place : ℕ) → 2 * j + 2 ≤ round
      → Contains (h.list (suc j)) place ↔ ((place < length part.vertices) × IsClash part (h.own j) (seen_after part handled (2 * j + 2)) place)
  pub passes : (j : ℕ) → 2 * j < round → Passes part (seen_after part handled (2 * j)) (h.list j) (own_before h j) (h.own j)

-- In a pass the list is that pass's, and the own cells are those before it, changed for as many places as are done, and
-- for all of them once the vote is cast. In the round after it they stay. The ghosts are as the handled refreshes left
-- them, also those that were handled after the end.
pub record IsPresent (part : Portion) (handled : List (List (Body CellBody))) (h : History) (s : State) : Type 0 where
  pub list : (j : ℕ) → s.round ≡ 2 * j → s.list ≡ h.list j
  pub partly : (j : ℕ) → s.round ≡ 2 * j → Passes part (seen_after part handled (2 * j)) (take s.done s.list) (own_before h j) s.own
  pub coloured_all : (j : ℕ) (vote : Vote) → s.round ≡ 2 * j → s.cast ≡ Some vote → s.done ≡ length s.list
  pub own : (j place : ℕ) → s.round ≡ 2 * j + 1 → s.own place ≡ h.own j place
  pub seen : (slot : ℕ) → slot < length part.ghosts → s.seen slot ≡ seen_after part handled (s.round + 2) slot

-- A vote of round k: in a pass the length of its list, and 1 in the round after it.
pub record IsVoteIn (h : History) (k : ℕ) (vote : Vote) : Type 0 where
  pub pass : (j : ℕ) → k ≡ 2 * j → vote.a ≡ length (h.list j)
  pub refresh : (j : ℕ) → k ≡ 2 * j + 1 → vote.a ≡ 1
  pub b : vote.b ≡ 0
  pub c : vote.c ≡ 0
  pub d : vote.d ≡ 0

-- In the round after pass j each holder is sent the colour of each own place that it holds, in the order of
-- `refreshes_of`; in the present round it was sent those that are among the first that are done, and all of them once
-- the vote is cast. (The order is more than the ranks need of each other. It says that each refresh is sent once, also
-- where two of them look the same.)
pub record AreSent (part : Portion) (sent : List (List (Body CellBody))) (h : History) (s : State) : Type 0 where
  pub all : (to j : ℕ) → IsOther part.rank part.ranks to → 2 * j + 1 < voted s.round s.cast
      → items_of_round (2 * j + 1) (list_at sent to) ≡ refreshes_to to (h.own j) (refreshes_of part)
  pub some : (to j : ℕ) → IsOther part.rank part.ranks to → s.round ≡ 2 * j + 1
      → items_of_round (2 * j + 1) (list_at sent to) ≡ refreshes_to to (h.own j) (take s.done (refreshes_of part))

-- Each vote that was sent, and the one that is shown.
pub record AreVotes (part : Portion) (sent : List (List (Body CellBody))) (h : History) (s : State) : Type 0 where
  pub votes : (to k : ℕ) (vote : Vote) → IsOther part.rank part.ranks to → slice_get (votes_of (list_at sent to)) k ≡ Some vote → IsVoteIn h k vote
  pub cast : (vote : Vote) → s.cast ≡ Some vote → IsVoteIn h s.round vote

-- No rank had a vertex to colour in pass j: the own list is empty, and the other ranks' votes of that round that were
-- handled have a = 0. (Once the round has ended, all were.)
pub record HasNothing (part : Portion) (handled : List (List (Body CellBody))) (h : History) (j : ℕ) : Type 0 where
  pub own : h.list j ≡ []
  pub others : (from : ℕ) (vote : Vote) → IsOther part.rank part.ranks from → slice_get (votes_of (list_at handled from)) (2 * j) ≡ Some vote → vote.a ≡ 0

-- The round is that of a pass in which no rank had a vertex to colour.
pub record IsLastPass (part : Portion) (handled : List (List (Body CellBody))) (h : History) (round : ℕ) : Type 0 where
  pub pass : ℕ
  pub round_is : round ≡ 2 * pass
  pub nothing : HasNothing part handled h pass

-- A rank ends exactly with the first pass in which no rank had a vertex to colour.
pub record EndsWell (part : Portion) (handled : List (List (Body CellBody))) (h : History) (s : State) : Type 0 where
  pub ended : s.ended ≡ true → IsLastPass part handled h s.round
  pub going : (j : ℕ) → 2 * j < s.round → HasNothing part handled h j → ⊥

-- The rank's passes, what it shows of them, what it sends to the other ranks, and its end.
pub record KeepsPasses (part : Portion) (handled sent : List (List (Body CellBody))) (h : History) (s : State) : Type 0 where
  pub passes : ArePasses part handled s.round h
  pub present : IsPresent part handled h s
  pub sends : AreSent part sent h s
  pub voting : AreVotes part sent h s
  pub ending : EndsWell part handled h s

-- The marks are counted, and refreshes alone are sent, to holders with their slots. Where nothing else than refreshes
-- from their homes was handled, the rank keeps the passes of some history, which these determine.
pub record LocalColour (part : Portion) (handled sent : List (List (Body CellBody))) (s : State) : Type 0 where
  pub history : History
  pub counted : AreCounted part handled sent s
  pub refreshes : AreRefreshes part sent
  pub coloured : AreSound part handled → KeepsPasses part handled sent history s
