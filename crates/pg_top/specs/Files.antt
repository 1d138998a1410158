-- What the files of a plan say: its graph, and the owners of the vertices where it names a partition file.
use Rattle.std.specs.Prelude.{◌≡◌, ℕ, ◌<◌, ◌⊎◌, ⊤, Option, Some, None, List, [], length, All}
use Rattle.pg_base.specs.Graph.{Graph, IsGraph}
use Rattle.pg_outside.specs.Files.{NamedBytes, contents_of, IsMissing}
use Rattle.pg_metis.specs.File.{FileOf}
use Rattle.pg_metis.specs.Parts.{PartsOf}
use Rattle.pg_make.specs.Grid.{grid_of}
use Rattle.pg_words.specs.Plan.{Meaning}
use Rattle.pg_words.specs.declared.plans.Algorithm.{Algorithm}
use Rattle.pg_words.specs.declared.plans.Algorithm.TheVariants.{Grid}

-- Where the files are known, one has this name, and P holds of its contents.
abbrev pub FileHolds : List ℕ → Option (List NamedBytes) → (List ℕ → Type 0) → Type 0
FileHolds name None P = ⊤
FileHolds name (Some files) P = (text : List ℕ) × (contents_of name files ≡ Some text) × P text

-- The text is a file of a graph of which P holds.
abbrev pub IsFileOf : (Graph → Type 0) → List ℕ → Type 0
IsFileOf P text = (g : Graph) × FileOf text g × P g

-- P holds of the graph of the file of this name; where the files aren't known, of some graph.
abbrev pub HasGraph : List ℕ → Option (List NamedBytes) → (Graph → Type 0) → Type 0
HasGraph name None P = (g : Graph) × IsGraph g × P g
HasGraph name (Some files) P = FileHolds name (Some files) (IsFileOf P)

-- The text lists the owners of n vertices, and P holds of the list.
abbrev pub IsListOf : ℕ → ℕ → (List ℕ → Type 0) → List ℕ → Type 0
IsListOf n ranks P text = (owners : List ℕ) × PartsOf text n ranks owners × P owners

-- A rank for each of n vertices.
pub record AreOwners (n ranks : ℕ) (owners : List ℕ) : Type 0 where
  pub count : length owners ≡ n
  pub below : All (λ owner. owner < ranks) owners

-- P holds of the owners that the file of this name lists for n vertices; where the files aren't known, of some owners.
abbrev pub HasList : List ℕ → Option (List NamedBytes) → ℕ → ℕ → (List ℕ → Type 0) → Type 0
HasList name None n ranks P = (owners : List ℕ) × AreOwners n ranks owners × P owners
HasList name (Some files) n ranks P = FileHolds name (Some files) (IsListOf n ranks P)

-- A partition file is named, and P holds of its contents where the files are known.
abbrev pub PartsHold : Option (List ℕ) → Option (List NamedBytes) → (List ℕ → Type 0) → Type 0
PartsHold None files P = ⊥
PartsHold (Some name) files P = FileHolds name files P

-- P holds of the owners that the partition file lists for n vertices, or of no list where no such file is named.
abbrev pub HasOwners : Option (List ℕ) → Option (List NamedBytes) → ℕ → ℕ → (Option (List ℕ) → Type 0) → Type 0
HasOwners None files n ranks P = P None
HasOwners (Some name) files n ranks P = HasList name files n ranks (λ owners. P (Some owners))

-- The algorithm is one that reads files. A grid is made.
abbrev pub ReadsFiles : Algorithm → Type 0
ReadsFiles a = a ≡ Grid → ⊥

-- P holds of the graph and the owners of an algorithm with this plan: of the grid, divided in blocks, or of the graph of the
-- plan's file, and of the owners where the plan names a partition file.
abbrev pub HasInputOf : Algorithm → Meaning → Option (List NamedBytes) → (Graph → Option (List ℕ) → Type 0) → Type 0
HasInputOf Grid plan files P = P (grid_of plan.width plan.height plan.seed) None
HasInputOf _ plan files P = HasGraph plan.file files (λ g. HasOwners plan.parts files g.n plan.ranks (P g))

-- P holds of the plan's graph and of the owners of its vertices.
abbrev pub HasInput : Meaning → Option (List NamedBytes) → (Graph → Option (List ℕ) → Type 0) → Type 0
HasInput plan files P = HasInputOf plan.algorithm plan files P

-- A partition file is named, and no file has its name.
abbrev pub IsMissingParts : Option (List ℕ) → Option (List NamedBytes) → Type 0
IsMissingParts None files = ⊥
IsMissingParts (Some name) files = IsMissing name files

-- The graph file is missing; or it is one of a graph, and a partition file that is named is missing.
abbrev pub MissesFile : Meaning → Option (List NamedBytes) → Type 0
MissesFile plan files = IsMissing plan.file files ⊎ (IsMissingParts plan.parts files × FileHolds plan.file files (IsFileOf (λ g. ⊤)))

-- The contents of a name, where they are known.
abbrev pub told : List ℕ → Option (List NamedBytes) → Option (List ℕ)
told name None = None
told name (Some files) = contents_of name files

-- Where a partition file is named, it is known and lists owners for n vertices.
abbrev pub TellsOwners : Option (List ℕ) → Option (List NamedBytes) → ℕ → ℕ → Type 0
TellsOwners None files n ranks = ⊤
TellsOwners (Some name) files n ranks = (text : List ℕ) × (told name files ≡ Some text) × IsListOf n ranks (λ owners. ⊤) text

-- Where the files are known, no byte is left of the one that was begun last.
abbrev pub IsReadToEnd : Option (List NamedBytes) → Option (List ℕ) → Type 0
IsReadToEnd None left = ⊤
IsReadToEnd (Some files) left = left ≡ Some []
