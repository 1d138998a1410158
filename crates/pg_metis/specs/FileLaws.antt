-- What follows from the definitions of graph files and of their first faults.
use Rattle.std.specs.Prelude.{◌≡◌, ℕ, List, Some, None}
use Rattle.pg_base.specs.Graph.{Graph}
use Rattle.pg_metis.specs.File.{FileOf}
use Rattle.pg_metis.specs.Fault.{Fault, fault_of}

-- A text is a file of at most one graph.
abbrev pub FilesAreOfOneGraph : Type 0
FilesAreOfOneGraph = (text : List ℕ) (g h : Graph) → FileOf text g → FileOf text h → g ≡ h

-- A file of a graph has no fault.
abbrev pub FilesHaveNoFault : Type 0
FilesHaveNoFault = (text : List ℕ) (g : Graph) → FileOf text g → fault_of text ≡ None

-- A text without a fault is a file of a graph.
abbrev pub FaultlessTextsAreFiles : Type 0
FaultlessTextsAreFiles = (text : List ℕ) → fault_of text ≡ None → (g : Graph) × FileOf text g

-- A text with a fault is a file of no graph.
abbrev pub FaultyTextsAreNoFiles : Type 0
FaultyTextsAreNoFiles = (text : List ℕ) (fault : Fault) (g : Graph) → fault_of text ≡ Some fault → FileOf text g → ⊥
