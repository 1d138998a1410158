-- What a run did, and why it printed no answer.
use Rattle.std.specs.Prelude.{◌≡◌, ℕ, ◌<◌, ◌⊎◌, ⊤, true, Option, Some, None, List}
use Rattle.std.specs.Io.KnownBytes.{Appends}
use Rattle.pg_base.specs.Graph.{Graph}
use Rattle.pg_base.specs.declared.outcomes.Status.{Status}
use Rattle.pg_base.specs.declared.outcomes.Status.TheVariants.{NoMemory}
use Rattle.pg_outside.specs.Faults.{Rose}
use Rattle.pg_outside.specs.Files.{NamedBytes, IsMissing}
use Rattle.pg_outside.specs.Written.{AppendsFront}
use Rattle.pg_metis.specs.Fault.{fault_of}
use Rattle.pg_metis.specs.File.{FileOf}
use Rattle.pg_metis.specs.Parts.{FirstPartsFault, parts_fault_of}
use Rattle.pg_print.specs.declared.faults.Fault.{Fault}
use Rattle.pg_print.specs.declared.faults.Fault.TheVariants.{Words, Graph as GraphFault, Parts, Source, Read, Write, Memory}
use Rattle.pg_words.specs.Plan.{Meaning, plan_of}
use Rattle.pg_words.specs.declared.plans.PlanFault.{PlanFault}
use Rattle.pg_words.specs.declared.plans.PlanFault.TheVariants as plan
use Rattle.pg_top.specs.Files.{FileHolds, HasGraph, PartsHold, HasInput, MissesFile, ReadsFiles, TellsOwners, told}
use Rattle.pg_top.specs.Text.{IsTextOf, has_source}

-- The words have a plan, of which P holds.
abbrev pub HasPlan : List (List ℕ) → (Meaning → Type 0) → Type 0
HasPlan words P = (plan : Meaning) × (plan_of words ≡ Some plan) × P plan

-- The plan's algorithm has a source, and it is none of n vertices.
pub record IsOutside (plan : Meaning) (n : ℕ) : Type 0 where
  pub sourced : has_source plan.algorithm ≡ true
  pub outside : (plan.source ≡ 0) ⊎ (n < plan.source)

-- P holds of a text that the plan means for the graph of its file; a partition file that it names is one for that graph.
abbrev pub HasText : Meaning → Option (List NamedBytes) → (List ℕ → Type 0) → Type 0
HasText plan files P = HasInput plan files (λ g owners. (text : List ℕ) × IsTextOf plan g text × P text)

-- The counts of faults of what is read and of what is written to, and the text written, before and after.
pub record Traces : Type 0 where
  pub inputs_before : ℕ
  pub inputs_after : ℕ
  pub out_before : ℕ
  pub out_after : ℕ
  pub text_before : Option (List ℕ)
  pub text_after : Option (List ℕ)

-- Why the file of this name gave no graph.
abbrev pub LoadFails : List ℕ → Option (List NamedBytes) → ℕ → ℕ → Fault → Type 0
LoadFails name files before after (GraphFault line kind) = FileHolds name files (λ text. fault_of text ≡ Some (record { line = line; kind = kind }))
LoadFails name files before after Read = Rose before after ⊎ IsMissing name files
LoadFails name files before after Memory = ⊤
LoadFails name files before after _ = ⊥

-- Why the file of this name gave no owners of n vertices.
abbrev pub OwnersFail : List ℕ → ℕ → ℕ → Option (List NamedBytes) → ℕ → ℕ → Fault → Type 0
OwnersFail name n ranks files before after (Parts line kind) = FileHolds name files (λ text. parts_fault_of n ranks text ≡ Some (record { line = line; kind = kind }))
OwnersFail name n ranks files before after Read = Rose before after ⊎ IsMissing name files
OwnersFail name n ranks files before after Memory = ⊤
OwnersFail name n ranks files before after _ = ⊥

-- Why there was nothing to compute with.
abbrev pub InputFails : Meaning → Option (List NamedBytes) → ℕ → ℕ → Fault → Type 0
InputFails plan files before after (GraphFault line kind) = ReadsFiles plan.algorithm × FileHolds plan.file files (λ text. fault_of text ≡ Some (record { line = line; kind = kind }))
InputFails plan files before after (Parts line kind) = ReadsFiles plan.algorithm × HasGraph plan.file files (λ g.
    PartsHold plan.parts files (λ text. parts_fault_of g.n plan.ranks text ≡ Some (record { line = line; kind = kind })))
InputFails plan files before after (Source source) = (source ≡ plan.source) × HasInput plan files (λ g owners. IsOutside plan g.n)
InputFails plan files before after Read = ReadsFiles plan.algorithm × (Rose before after ⊎ MissesFile plan files)
InputFails plan files before after Memory = ⊤
InputFails plan files before after _ = ⊥

-- Why there was nothing to write.
abbrev pub PrepareFails : List (List ℕ) → Option (List NamedBytes) → ℕ → ℕ → Fault → Type 0
PrepareFails words files before after Words = plan_of words ≡ None
PrepareFails words files before after Write = ⊥
PrepareFails words files before after Memory = ⊤
PrepareFails words files before after fault = HasPlan words (λ plan. InputFails plan files before after fault)

-- The cause of a run's fault.
abbrev pub RunFails : List (List ℕ) → Option (List NamedBytes) → Traces → Fault → Type 0
RunFails words files t Words = plan_of words ≡ None
RunFails words files t Write = HasPlan words (λ plan. Rose t.out_before t.out_after × HasText plan files (AppendsFront t.text_before t.text_after))
RunFails words files t Memory = ⊤
RunFails words files t fault = HasPlan words (λ plan. InputFails plan files t.inputs_before t.inputs_after fault)

-- A text that is known grew by this line where no fault was counted, and by a front of it in any case.
pub record Reports (before after : ℕ) (old new : Option (List ℕ)) (line : List ℕ) : Type 0 where
  pub whole : (Rose before after → ⊥) → Appends old new line
  pub front : AppendsFront old new line

-- The status is the expected one, or that of a run out of memory.
abbrev pub IsOrNoMemory : Status → Status → Type 0
IsOrNoMemory expected status = (status ≡ expected) ⊎ (status ≡ NoMemory)

-- The words have this plan, of an algorithm that reads files, and the known files have this text under the plan's name.
pub record Tells (words : List (List ℕ)) (files : Option (List NamedBytes)) (plan : Meaning) (text : List ℕ) : Type 0 where
  pub planned : plan_of words ≡ Some plan
  pub reads : ReadsFiles plan.algorithm
  pub contents : told plan.file files ≡ Some text

-- Likewise, the text is a file of this graph, and a partition file that the plan names lists owners of its vertices.
pub record TellsInput (words : List (List ℕ)) (files : Option (List NamedBytes)) (plan : Meaning) (g : Graph) : Type 0 where
  pub text : List ℕ
  pub tells : Tells words files plan text
  pub file : FileOf text g
  pub owners : TellsOwners plan.parts files g.n plan.ranks

-- Likewise, but the partition file has this first fault.
pub record TellsPartsFault (words : List (List ℕ)) (files : Option (List NamedBytes)) (plan : Meaning) (g : Graph) (fault : FirstPartsFault) : Type 0 where
  pub text : List ℕ
  pub tells : Tells words files plan text
  pub file : FileOf text g
  pub name : List ℕ
  pub named : plan.parts ≡ Some name
  pub parts : List ℕ
  pub contents : told name files ≡ Some parts
  pub odd : parts_fault_of g.n plan.ranks parts ≡ Some fault

-- Why the words gave no plan.
abbrev pub PlanFails : List (List ℕ) → Fault → Type 0
PlanFails words Words = plan_of words ≡ None
PlanFails words Memory = ⊤
PlanFails words _ = ⊥

-- What it is to a run that words have no plan.
abbrev pub from_plan : PlanFault → Fault
from_plan plan.BadWords = Words
from_plan plan.OutOfMemory = Memory

-- Why the partition file that is named, if one is, gave no owners of n vertices.
abbrev pub PartsFail : Option (List ℕ) → ℕ → ℕ → Option (List NamedBytes) → ℕ → ℕ → Fault → Type 0
PartsFail None n ranks files before after fault = ⊥
PartsFail (Some name) n ranks files before after fault = OwnersFail name n ranks files before after fault
