-- What holds of the files of a plan, and of the texts that are told under their names.
use Rattle.std.proofs.Common.{◌≡◌, ℕ, Option, Some, None, List, ap, refl, subst}
use Rattle.pg_base.specs.Graph.{Graph}
use Rattle.pg_outside.specs.Files.{NamedBytes, IsMissing}
use Rattle.pg_metis.specs.File.{FileOf}
use Rattle.pg_metis.specs.Fault.{Fault as FirstFault, fault_of}
use Rattle.pg_metis.specs.Parts.{FirstPartsFault, PartsOf, parts_fault_of}
use Rattle.pg_metis.proofs.FaultLaws.{files_have_no_fault}
use Rattle.pg_metis.proofs.OneGraph.{files_are_of_one_graph}
use Rattle.pg_metis.proofs.PartsLemmas.{parts_files_have_no_fault}
use Rattle.pg_make.specs.Grid.{grid_of}
use Rattle.pg_words.specs.Plan.{Meaning}
use Rattle.pg_words.specs.declared.plans.Algorithm.{Algorithm}
use Rattle.pg_words.specs.declared.plans.Algorithm.TheVariants.{Bfs, Sssp, Components, Forest, Colour, Grid}
use Rattle.pg_top.specs.Files.{FileHolds, HasGraph, HasInput, HasInputOf, HasList, HasOwners, IsFileOf, IsListOf, IsMissingParts, PartsHold, ReadsFiles, TellsOwners, told}

-- ---- weaker facts

pub FileHolds-weaker : (name : List ℕ) (files : Option (List NamedBytes)) (P Q : List ℕ → Type 0) → ((text : List ℕ) → P text → Q text) → FileHolds name files P → FileHolds name files Q
FileHolds-weaker name None P Q f p = tt
FileHolds-weaker name (Some fs) P Q f (text, found, p) = (text, found, f text p)

HasGraph-weaker : (name : List ℕ) (files : Option (List NamedBytes)) (P Q : Graph → Type 0) → ((g : Graph) → P g → Q g) → HasGraph name files P → HasGraph name files Q
HasGraph-weaker name None P Q f (g, is, p) = (g, is, f g p)
HasGraph-weaker name (Some fs) P Q f h = FileHolds-weaker name (Some fs) (IsFileOf P) (IsFileOf Q) (λ text (g, is, p). (g, is, f g p)) h

HasList-weaker : (name : List ℕ) (files : Option (List NamedBytes)) (n ranks : ℕ) (P Q : List ℕ → Type 0) → ((owners : List ℕ) → P owners → Q owners) → HasList name files n ranks P → HasList name files n ranks Q
HasList-weaker name None n ranks P Q f (owners, are, p) = (owners, are, f owners p)
HasList-weaker name (Some fs) n ranks P Q f h = FileHolds-weaker name (Some fs) (IsListOf n ranks P) (IsListOf n ranks Q) (λ text (owners, is, p). (owners, is, f owners p)) h

HasOwners-weaker : (parts : Option (List ℕ)) (files : Option (List NamedBytes)) (n ranks : ℕ) (P Q : Option (List ℕ) → Type 0) → ((owners : Option (List ℕ)) → P owners → Q owners)
    → HasOwners parts files n ranks P → HasOwners parts files n ranks Q
HasOwners-weaker None files n ranks P Q f h = f None h
HasOwners-weaker (Some name) files n ranks P Q f h = HasList-weaker name files n ranks (λ owners. P (Some owners)) (λ owners. Q (Some owners)) (λ owners p. f (Some owners) p) h

-- ---- what is read and what is made

-- What holds of the input of an algorithm that reads files holds of its files.
pub files_of_input : (a : Algorithm) (plan : Meaning) (files : Option (List NamedBytes)) (P : Graph → Option (List ℕ) → Type 0) → ReadsFiles a
    → HasInputOf a plan files P → HasGraph plan.file files (λ g. HasOwners plan.parts files g.n plan.ranks (P g))
files_of_input Bfs plan files P reads h = h
files_of_input Sssp plan files P reads h = h
files_of_input Components plan files P reads h = h
files_of_input Forest plan files P reads h = h
files_of_input Colour plan files P reads h = h
files_of_input Grid plan files P reads h = absurd (reads refl)

pub grid_of_input : (a : Algorithm) (plan : Meaning) (files : Option (List NamedBytes)) (P : Graph → Option (List ℕ) → Type 0) → a ≡ Grid
    → HasInputOf a plan files P → P (grid_of plan.width plan.height plan.seed) None
grid_of_input a plan files P is h = subst (λ (x : Algorithm). HasInputOf x plan files P) is h

read-weaker : (plan : Meaning) (files : Option (List NamedBytes)) (P Q : Graph → Option (List ℕ) → Type 0) → ((g : Graph) (owners : Option (List ℕ)) → P g owners → Q g owners)
    → HasGraph plan.file files (λ g. HasOwners plan.parts files g.n plan.ranks (P g)) → HasGraph plan.file files (λ g. HasOwners plan.parts files g.n plan.ranks (Q g))
read-weaker plan files P Q f h =
    HasGraph-weaker plan.file files (λ g. HasOwners plan.parts files g.n plan.ranks (P g)) (λ g. HasOwners plan.parts files g.n plan.ranks (Q g))
    (λ g p. HasOwners-weaker plan.parts files g.n plan.ranks (P g) (Q g) (f g) p) h

HasInputOf-weaker : (a : Algorithm) (plan : Meaning) (files : Option (List NamedBytes)) (P Q : Graph → Option (List ℕ) → Type 0) → ((g : Graph) (owners : Option (List ℕ)) → P g owners → Q g owners)
    → HasInputOf a plan files P → HasInputOf a plan files Q
HasInputOf-weaker Bfs plan files P Q f h = read-weaker plan files P Q f h
HasInputOf-weaker Sssp plan files P Q f h = read-weaker plan files P Q f h
HasInputOf-weaker Components plan files P Q f h = read-weaker plan files P Q f h
HasInputOf-weaker Forest plan files P Q f h = read-weaker plan files P Q f h
HasInputOf-weaker Colour plan files P Q f h = read-weaker plan files P Q f h
HasInputOf-weaker Grid plan files P Q f h = f (grid_of plan.width plan.height plan.seed) None h

pub HasInput-weaker : (plan : Meaning) (files : Option (List NamedBytes)) (P Q : Graph → Option (List ℕ) → Type 0) → ((g : Graph) (owners : Option (List ℕ)) → P g owners → Q g owners)
    → HasInput plan files P → HasInput plan files Q
HasInput-weaker plan files P Q f h = HasInputOf-weaker plan.algorithm plan files P Q f h

-- ---- told texts

-- What holds of the file holds of the text that is told.
pub FileHolds-at : (name : List ℕ) (files : Option (List NamedBytes)) (text : List ℕ) (P : List ℕ → Type 0) → told name files ≡ Some text → FileHolds name files P → P text
FileHolds-at name None text P e p = cc
FileHolds-at name (Some fs) text P e (other, found, p) = let same : other ≡ text = cc in subst P same p

pub HasGraph-at : (name : List ℕ) (files : Option (List NamedBytes)) (text : List ℕ) (P : Graph → Type 0) → told name files ≡ Some text → HasGraph name files P → IsFileOf P text
HasGraph-at name None text P e h = absurd (cc e)
HasGraph-at name (Some fs) text P e h = FileHolds-at name (Some fs) text (IsFileOf P) e h

HasList-at : (name : List ℕ) (files : Option (List NamedBytes)) (n ranks : ℕ) (text : List ℕ) (P : List ℕ → Type 0) → told name files ≡ Some text → HasList name files n ranks P → IsListOf n ranks P text
HasList-at name None n ranks text P e h = absurd (cc e)
HasList-at name (Some fs) n ranks text P e h = FileHolds-at name (Some fs) text (IsListOf n ranks P) e h

pub not_missing : (name : List ℕ) (files : Option (List NamedBytes)) (text : List ℕ) → told name files ≡ Some text → IsMissing name files → ⊥
not_missing name None text e missing = missing
not_missing name (Some fs) text e missing = cc

-- A text with a fault is a file of no graph.
pub not_both : (text : List ℕ) (g : Graph) (fault : FirstFault) → FileOf text g → fault_of text ≡ Some fault → ⊥
not_both text g fault file found = let none : fault_of text ≡ None = files_have_no_fault text g file in cc

-- A text with a fault lists no owners.
no_list : (text : List ℕ) (n ranks : ℕ) (owners : List ℕ) (fault : FirstPartsFault) → PartsOf text n ranks owners → parts_fault_of n ranks text ≡ Some fault → ⊥
no_list text n ranks owners fault list found = let none : parts_fault_of n ranks text ≡ None = parts_files_have_no_fault text n ranks owners list in cc

-- Two graphs of one text have as many vertices.
pub FileOf-n : (text : List ℕ) (g h : Graph) → FileOf text g → FileOf text h → g.n ≡ h.n
FileOf-n text g h p q = ap (λ (k : Graph). k.n) (files_are_of_one_graph text g h p q)

-- ---- the partition file

-- What doesn't speak of the owners holds where they are told.
pub owners_at : (parts : Option (List ℕ)) (files : Option (List NamedBytes)) (n ranks : ℕ) (P : Type 0) → TellsOwners parts files n ranks → HasOwners parts files n ranks (λ owners. P) → P
owners_at None files n ranks P tells h = h
owners_at (Some name) files n ranks P (text, contents, list) h = let l = HasList-at name files n ranks text (λ owners. P) contents h in l.2

pub owners_not_missing : (parts : Option (List ℕ)) (files : Option (List NamedBytes)) (n ranks : ℕ) → TellsOwners parts files n ranks → IsMissingParts parts files → ⊥
owners_not_missing None files n ranks tells missing = missing
owners_not_missing (Some name) files n ranks (text, contents, list) missing = not_missing name files text contents missing

-- Where owners are told, the partition file has no fault.
pub owners_not_odd : (parts : Option (List ℕ)) (files : Option (List NamedBytes)) (n ranks : ℕ) (fault : FirstPartsFault) → TellsOwners parts files n ranks
    → PartsHold parts files (λ text. parts_fault_of n ranks text ≡ Some fault) → ⊥
owners_not_odd None files n ranks fault tells h = h
owners_not_odd (Some name) files n ranks fault (text, contents, list) h =
    no_list text n ranks list.0 fault list.1 (FileHolds-at name files text (λ other. parts_fault_of n ranks other ≡ Some fault) contents h)

-- Where the partition file has a fault, there are no owners.
pub odd_has_no_owners : (name : List ℕ) (files : Option (List NamedBytes)) (n ranks : ℕ) (text : List ℕ) (fault : FirstPartsFault) (P : Option (List ℕ) → Type 0) → told name files ≡ Some text → parts_fault_of n ranks text ≡ Some fault
    → HasOwners (Some name) files n ranks P → ⊥
odd_has_no_owners name files n ranks text fault P contents odd h =
    let l = HasList-at name files n ranks text (λ owners. P (Some owners)) contents h in no_list text n ranks l.0 fault l.1 odd
