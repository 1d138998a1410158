-- A whole run: the programs of a divided graph's parts, the lanes between them, and how they belong together.
use Rattle.std.specs.Prelude.{◌≡◌, ℕ, true, List, [], length, slice_get, Some}
use Rattle.pg_lane.specs.declared.settling.Settled.{Settled}
use Rattle.pg_group.specs.declared.messages.Body.{Body}
use Rattle.pg_group.specs.declared.messages.Envelope.{Envelope}
use Rattle.pg_group.specs.Book.{PairLists, IsWhole, IsMarked}
use Rattle.pg_group.specs.Entries.{Each}
use Rattle.pg_group.specs.Ranked.{IsOther, list_at}
use Rattle.pg_run.specs.Lanes.{sent_on, taken_on}
use Rattle.pg_base.specs.Graph.{Graph}
use Rattle.pg_dist.specs.Sharing.{Sharing}
use Rattle.pg_adj.specs.Portions.{Portion}
use Rattle.pg_adj.specs.Division.{Divided}
use Rattle.pg_uses.specs.declared.degrees.Degrees.{Degrees}
use Rattle.pg_uses.specs.Kept.{IsProgramOf, KeepsDegrees}

-- Each part has its rank, and there are as many as they say.
abbrev pub AreInOrder : List Portion → Type 0
AreInOrder parts = Each (λ rank p. (p.rank ≡ rank) × (p.ranks ≡ length parts)) parts

-- The program began as the part's, has ended, and has kept its promise over the lists of the book.
pub record HasKept (ranks rank : ℕ) (sent taken : PairLists ℕ) (part : Portion) (p : Degrees) : Type 0 where
  pub start : Degrees
  pub is_new : IsProgramOf part start
  pub handled : List (List (Body ℕ))
  pub promised : List (List (Body ℕ))
  pub keeps : KeepsDegrees start handled promised p
  pub ended : p.ended ≡ true
  pub own_handled : list_at handled rank ≡ []
  pub handled_is : (from : ℕ) → IsOther rank ranks from → list_at handled from ≡ taken from rank
  pub sent_is : (to : ℕ) → IsOther rank ranks to → list_at promised to ≡ sent rank to

-- A program for each part, all of which have ended. All that was sent was taken, and each program has kept its promise.
pub record IsRunOver (parts : List Portion) (programs : List Degrees) (lanes : List (Settled (Envelope ℕ))) : Type 0 where
  pub count : length programs ≡ length parts
  pub book : IsWhole (length parts) (sent_on (length parts) lanes) (taken_on (length parts) lanes)
  pub marks : IsMarked (length parts) (sent_on (length parts) lanes)
  pub kept : Each (λ rank p. (part : Portion) → slice_get parts rank ≡ Some part
      → HasKept (length parts) rank (sent_on (length parts) lanes) (taken_on (length parts) lanes) part p) programs

-- The same over the parts of a graph that is divided by a distribution.
pub record IsRun (s : Sharing) (g : Graph) (programs : List Degrees) (lanes : List (Settled (Envelope ℕ))) : Type 0 where
  pub parts : List Portion
  pub divided : Divided s g parts
  pub run : IsRunOver parts programs lanes
