-- A phase of Borůvka's method, in terms of labels: each label hooks its least leaving edge to the label across,
-- and labels then move to the ends of these pointers.
-- Source: Cormen, Leiserson, Rivest and Stein, Introduction to Algorithms, chapter 23, problem 23-4.
use Rattle.std.specs.Prelude.{◌≡◌, ◌≢◌, ◌⊎◌, ◌↔◌, ◌==◌, ◌&&◌, nat_lt, cond, ℕ, zero, suc, ◌≤◌, true, List, [], length, All, Contains}
use Rattle.pg_base.specs.declared.edges.Edge.{Edge}
use Rattle.pg_base.specs.Graph.{arcs_of}
use Rattle.pg_base.specs.Walk.{Joins}
use Rattle.pg_base.specs.Forest.{key_lt, InForest, HasForest}

-- e leads from label l to label m.
abbrev pub LeadsBetween : (ℕ → ℕ) → Edge → ℕ → ℕ → Type 0
LeadsBetween label e l m = ((label e.u ≡ l) × (label e.v ≡ m)) ⊎ ((label e.v ≡ l) × (label e.u ≡ m))

-- Both ends of d have label l, or neither.
abbrev pub KeepsWithin : (ℕ → ℕ) → ℕ → Edge → Type 0
KeepsWithin label l d = (label d.u ≡ l) ↔ (label d.v ≡ l)

-- e is the least edge that leaves label l, and leads to label m.
pub record IsHook (edges : List Edge) (label : ℕ → ℕ) (l m : ℕ) (e : Edge) : Type 0 where
  pub among : Contains edges e
  pub leads : LeadsBetween label e l m
  pub apart : l ≢ m
  pub least : (d : Edge) → Contains edges d → key_lt d e ≡ true → KeepsWithin label l d

-- Each label that an edge leaves hooks to another by its least edge; any other label has hook l = l.
pub record AreHooks (edges : List Edge) (labels : List ℕ) (label : ℕ → ℕ) (win : ℕ → Edge) (hook : ℕ → ℕ) : Type 0 where
  pub hooked : (l : ℕ) → hook l ≢ l → IsHook edges label l (hook l) (win l)
  pub listed : (l : ℕ) → hook l ≢ l → Contains labels l
  pub free : (l : ℕ) → hook l ≡ l → (d : Edge) → Contains edges d → KeepsWithin label l d

-- Of two labels that hook to each other the lesser points to itself.
abbrev pub point : (ℕ → ℕ) → ℕ → ℕ
point hook l = cond ((hook (hook l) == l) && nat_lt l (hook l)) l (hook l)

abbrev pub steps : (ℕ → ℕ) → ℕ → ℕ → ℕ
steps hook zero l = l
steps hook (suc k) l = steps hook k (point hook l)

-- Edges of the forest that join what has one label. A label is a vertex of its own label.
pub record IsGrown (edges chosen : List Edge) (label : ℕ → ℕ) : Type 0 where
  pub part : All (InForest edges) chosen
  pub joins : (s v : ℕ) → Joins (arcs_of chosen) s v ↔ (label s ≡ label v)
  pub named : (v : ℕ) → label (label v) ≡ label v

-- A phase adds the hooks' edges and moves the labels along as many pointers as there are labels.
abbrev pub PhasesGrow : Type 0
PhasesGrow = (edges chosen grown : List Edge) (labels : List ℕ) (label : ℕ → ℕ) (win : ℕ → Edge) (hook : ℕ → ℕ) (k : ℕ) → IsGrown edges chosen label → AreHooks edges labels label win hook → length labels ≤ k → ((e : Edge) → Contains grown e ↔ (Contains chosen e ⊎ ((l : ℕ) × (hook l ≢ l) × (win l ≡ e)))) → IsGrown edges grown (λ v. steps hook k (label v))

-- At first nothing is chosen, and each vertex is its own label.
abbrev pub PhasesBegin : Type 0
PhasesBegin = (edges : List Edge) → IsGrown edges [] (λ v. v)

-- Once no label has a hook, the edges chosen are the forest.
abbrev pub PhasesEnd : Type 0
PhasesEnd = (edges chosen : List Edge) (labels : List ℕ) (label : ℕ → ℕ) (win : ℕ → Edge) (hook : ℕ → ℕ) → IsGrown edges chosen label → AreHooks edges labels label win hook → ((l : ℕ) → hook l ≡ l) → HasForest edges chosen
