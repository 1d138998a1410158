-- Doubly linked circular lists of places, each place in at most one. The nodes below `count` are places, the others
-- the heads of lists.
use Rattle.std.specs.Prelude.{◌≡◌, ◌<◌, ◌≤◌, ℕ, List, slice_index}
use Rattle.pg_agenda.specs.declared.moves.Moves.{Moves}
use Rattle.pg_agenda.specs.Moves.{stamp}

-- The links lead round in circles. A circle that has a head is the list of those places whose home the head is, last
-- moved first.
pub record AreLinked (count nodes : ℕ) (next prev home stamp : ℕ → ℕ) (clock : ℕ) : Type 0 where
  pub after : (x : ℕ) → x < nodes → next x < nodes
  pub before : (x : ℕ) → x < nodes → prev x < nodes
  pub back : (x : ℕ) → x < nodes → prev (next x) ≡ x
  pub forth : (x : ℕ) → x < nodes → next (prev x) ≡ x
  pub same : (x : ℕ) → x < nodes → home (next x) ≡ home x
  pub heads : (x : ℕ) → count ≤ x → home x ≡ x
  pub newer : (x : ℕ) → x < count → count ≤ home x → prev x < count → stamp x < stamp (prev x)
  pub known : (x : ℕ) → stamp x ≤ clock
  pub moved : (x : ℕ) → x < count → count ≤ home x → 0 < stamp x
  pub still : (x : ℕ) → count ≤ x → stamp x ≡ 0

-- the node that a link leads to
abbrev pub link_at : List ℕ → ℕ → ℕ
link_at links x = slice_index links x

-- the move that moved the first place of the list, or 0
abbrev pub front : Moves → List ℕ → ℕ → ℕ
front moves next list = stamp moves (link_at next list)
