-- A whole run of colouring on all ranks over the parts of a divided graph, and what its colours are.
-- Source: after Boman, Bozdağ, Catalyurek, Gebremedhin and Manne, A scalable parallel graph coloring algorithm for
-- distributed memory computers (Euro-Par 2005).
use Rattle.std.specs.Prelude.{◌≡◌, ◌==◌, cond, ℕ, ◌+◌, ◌*◌, ◌<◌, ◌≤◌, true, List, [], ◌∷◌, Option, Some, None, length, map, slice_get, slice_index}
use Rattle.pg_base.specs.Graph.{Graph, IsGraph}
use Rattle.pg_base.specs.Colouring.{IsProper, IsFirstFit}
use Rattle.pg_dist.specs.Sharing.{Sharing, IsSharing}
use Rattle.pg_group.specs.declared.messages.Body.{Body}
use Rattle.pg_group.specs.Book.{PairLists, IsWhole, IsMarked}
use Rattle.pg_group.specs.Ranked.{IsOther, list_at}
use Rattle.pg_group.specs.Rounds.{items_of_round}
use Rattle.pg_adj.specs.declared.arcs.Ghost.{Ghost}
use Rattle.pg_adj.specs.Portions.{Portion}
use Rattle.pg_adj.specs.Division.{Divided}
use Rattle.pg_cells.specs.declared.bodies.CellBody.{CellBody}
use Rattle.pg_proper.specs.Runs.{Run, IsRun, HasEnded, IsAnswer}
use Rattle.pg_colour.specs.declared.TheConstants.{NO_COLOUR}
use Rattle.pg_colour.specs.Refreshed.{AreSound, values_for}
use Rattle.pg_colour.specs.LocalColour.{State, History, LocalColour}

-- The rank has ended, and kept its promise over the lists of the book.
pub record HasEndedOver (ranks rank : ℕ) (sent taken : PairLists CellBody) (part : Portion) (s : State) : Type 0 where
  pub handled : List (List (Body CellBody))
  pub promised : List (List (Body CellBody))
  pub ended : s.ended ≡ true
  pub keeps : LocalColour part handled promised s
  pub handled_is : (from : ℕ) → IsOther rank ranks from → list_at handled from ≡ taken from rank
  pub sent_is : (to : ℕ) → IsOther rank ranks to → list_at promised to ≡ sent rank to

-- A whole run over a graph that is divided among the ranks, all of which have ended.
pub record IsWholeRun (s : Sharing) (g : Graph) (parts : List Portion) (states : ℕ → State) (sent taken : PairLists CellBody) : Type 0 where
  pub sharing : IsSharing s
  pub graph : IsGraph g
  pub vertices : g.n ≡ s.n
  pub divided : Divided s g parts
  pub whole : IsWhole s.ranks sent taken
  pub marked : IsMarked s.ranks sent
  pub kept : (r : ℕ) (p : Portion) → slice_get parts r ≡ Some p → HasEndedOver s.ranks r sent taken p (states r)

-- The cell of a vertex at its owner.
abbrev pub colour_of : Sharing → (ℕ → State) → ℕ → ℕ
colour_of s states v = (states (s.owner v)).own (s.local v)

-- The histories of the ranks' promises over the book.
abbrev pub AreHistories : Sharing → List Portion → (ℕ → State) → PairLists CellBody → PairLists CellBody → (ℕ → History) → Type 0
AreHistories s parts states sent taken histories = (r : ℕ) (p : Portion) → slice_get parts r ≡ Some p
    → (kept : HasEndedOver s.ranks r sent taken p (states r)) × (kept.keeps.history ≡ histories r)

-- All ranks ended with the same round.
abbrev pub WholeEndsTogether : Type 0
WholeEndsTogether = (s : Sharing) (g : Graph) (parts : List Portion) (states : ℕ → State) (sent taken : PairLists CellBody) → IsWholeRun s g parts states sent taken
    → (q r : ℕ) → q < s.ranks → r < s.ranks → (states q).round ≡ (states r).round

-- What each rank handled is what the rest of its promise asks for: refreshes from their homes alone.
abbrev pub WholeIsSound : Type 0
WholeIsSound = (s : Sharing) (g : Graph) (parts : List Portion) (states : ℕ → State) (sent taken : PairLists CellBody) → IsWholeRun s g parts states sent taken
    → (r : ℕ) (p : Portion) → slice_get parts r ≡ Some p → (kept : HasEndedOver s.ranks r sent taken p (states r)) → AreSound p kept.handled

-- In the refreshing round after pass j the home of a ghost sends its holder exactly one refresh of it, with the colour
-- after the pass.
abbrev pub AreFresh : List Portion → (ℕ → History) → PairLists CellBody → ℕ → Type 0
AreFresh parts histories sent j = (rank slot : ℕ) (p : Portion) (remote : Ghost) → slice_get parts rank ≡ Some p → slice_get p.ghosts slot ≡ Some remote
    → values_for slot (items_of_round (2 * j + 1) (sent remote.home.0 rank)) ≡ (histories remote.home.0).own j remote.place ∷ []

-- So it is in each refreshing round, all of which are finished.
abbrev pub WholeIsFresh : Type 0
WholeIsFresh = (s : Sharing) (g : Graph) (parts : List Portion) (states : ℕ → State) (sent taken : PairLists CellBody) → IsWholeRun s g parts states sent taken
    → (histories : ℕ → History) → AreHistories s parts states sent taken histories
    → (r j : ℕ) → r < s.ranks → 2 * j + 1 < (states r).round → AreFresh parts histories sent j

-- At the end each ghost is seen with its owner's colour.
abbrev pub WholeSeesOwners : Type 0
WholeSeesOwners = (s : Sharing) (g : Graph) (parts : List Portion) (states : ℕ → State) (sent taken : PairLists CellBody) → IsWholeRun s g parts states sent taken
    → (rank slot : ℕ) (p : Portion) (remote : Ghost) → slice_get parts rank ≡ Some p → slice_get p.ghosts slot ≡ Some remote
    → (states rank).seen slot ≡ colour_of s states remote.vertex.0

-- The colour that a cell holds.
abbrev pub colour_in : ℕ → Option ℕ
colour_in x = cond (x == NO_COLOUR) None (Some x)

-- The run of passes has the ranks' vertices, lists and colours, pass by pass, and as many passes as the ranks made. It
-- keeps the rules of colouring by passes, it has ended, and its answer is the owners' colours.
pub record IsRunOf (s : Sharing) (g : Graph) (parts : List Portion) (states : ℕ → State) (histories : ℕ → History) (run : Run) (last : ℕ) : Type 0 where
  pub graph : run.graph ≡ g
  pub ranks : run.ranks ≡ s.ranks
  pub owner : (v : ℕ) → run.owner v ≡ s.owner v
  pub rounds : (r : ℕ) → r < s.ranks → (states r).round ≡ 2 * last
  pub own : (r : ℕ) (p : Portion) → slice_get parts r ≡ Some p → run.own r ≡ p.vertices
  pub lists : (r j : ℕ) (p : Portion) → slice_get parts r ≡ Some p → j ≤ last → run.list r j ≡ map (slice_index p.vertices) ((histories r).list j)
  pub colours : (r j i : ℕ) (p : Portion) → slice_get parts r ≡ Some p → j < last → i < length p.vertices
      → run.colours r j (slice_index p.vertices i) ≡ colour_in ((histories r).own j i)
  pub rules : IsRun run last
  pub ended : HasEnded run last
  pub answer : IsAnswer run last (colour_of s states)

abbrev pub WholeIsRun : Type 0
WholeIsRun = (s : Sharing) (g : Graph) (parts : List Portion) (states : ℕ → State) (sent taken : PairLists CellBody) → IsWholeRun s g parts states sent taken
    → (histories : ℕ → History) → AreHistories s parts states sent taken histories
    → (run : Run) × (last : ℕ) × IsRunOf s g parts states histories run last

-- So each vertex has a colour, and the colours are proper. On one rank they are those of first fit.
abbrev pub WholeIsColoured : Type 0
WholeIsColoured = (s : Sharing) (g : Graph) (parts : List Portion) (states : ℕ → State) (sent taken : PairLists CellBody) → IsWholeRun s g parts states sent taken
    → (v : ℕ) → 1 ≤ v → v ≤ g.n → colour_of s states v < NO_COLOUR

abbrev pub WholeIsProper : Type 0
WholeIsProper = (s : Sharing) (g : Graph) (parts : List Portion) (states : ℕ → State) (sent taken : PairLists CellBody) → IsWholeRun s g parts states sent taken
    → IsProper g (colour_of s states)

abbrev pub OneRankIsFirstFit : Type 0
OneRankIsFirstFit = (s : Sharing) (g : Graph) (parts : List Portion) (states : ℕ → State) (sent taken : PairLists CellBody) → IsWholeRun s g parts states sent taken
    → s.ranks ≡ 1 → IsFirstFit g (colour_of s states)
