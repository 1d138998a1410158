-- Where pointers lead.
-- Source: Wyllie, The Complexity of Parallel Computations (1979).
use Rattle.std.specs.Prelude.{◌≡◌, ℕ, zero, suc, ◌<◌, ◌≤◌, List, length, slice_index}
use Rattle.pg_base.specs.declared.TheConstants.{MAX_VERTICES}
use Rattle.pg_forest.specs.Phases.{point}

-- Where so many steps lead.
unfoldable pub walk : (ℕ → ℕ) → ℕ → ℕ → ℕ
walk next zero l = l
walk next (suc k) l = walk next k (next l)

-- Each pointer leads to where it leads in 1,048,576 steps, if that points to itself.
abbrev pub AreShortened : List ℕ → List ℕ → Type 0
AreShortened old new = (l : ℕ) → l < length old → slice_index old (walk (slice_index old) MAX_VERTICES l) ≡ walk (slice_index old) MAX_VERTICES l
    → slice_index new l ≡ walk (slice_index old) MAX_VERTICES l

-- Each label moves so many steps along the pointers of hooks, if these come to an end.
abbrev pub AreMoved : ℕ → List ℕ → List ℕ → List ℕ → Type 0
AreMoved far targets old new = (v : ℕ) → v < length old
    → point (slice_index targets) (walk (point (slice_index targets)) far (slice_index old v)) ≡ walk (point (slice_index targets)) far (slice_index old v)
    → slice_index new v ≡ walk (point (slice_index targets)) far (slice_index old v)

-- So many steps or more from l along the pointers lead there.
pub record IsReached (pointers : List ℕ) (few l there : ℕ) : Type 0 where
  pub count : ℕ
  pub many : few ≤ count
  pub is : there ≡ walk (slice_index pointers) count l

-- Each pointer leads to where so many steps or more along the old ones lead.
abbrev pub AreReached : List ℕ → ℕ → List ℕ → Type 0
AreReached old few new = (l : ℕ) → l < length old → IsReached old few l (slice_index new l)

-- Each pointer leads to one that points to itself.
abbrev pub AreAtEnds : List ℕ → Type 0
AreAtEnds pointers = (l : ℕ) → l < length pointers → slice_index pointers (slice_index pointers l) ≡ slice_index pointers l
