-- What follows from the definitions of partition files and of their first faults.
use Rattle.std.specs.Prelude.{◌≡◌, ℕ, List, None}
use Rattle.pg_metis.specs.Parts.{PartsOf, parts_fault_of}

-- A text gives one list at most.
abbrev pub PartsFilesAreOfOneList : Type 0
PartsFilesAreOfOneList = (text : List ℕ) (n ranks : ℕ) (a b : List ℕ) → PartsOf text n ranks a → PartsOf text n ranks b → a ≡ b

-- A text that gives a list has no fault.
abbrev pub PartsFilesHaveNoFault : Type 0
PartsFilesHaveNoFault = (text : List ℕ) (n ranks : ℕ) (parts : List ℕ) → PartsOf text n ranks parts → parts_fault_of n ranks text ≡ None

-- A text without a fault gives a list.
abbrev pub FaultlessTextsGiveParts : Type 0
FaultlessTextsGiveParts = (text : List ℕ) (n ranks : ℕ) → parts_fault_of n ranks text ≡ None → (parts : List ℕ) × PartsOf text n ranks parts
