-- From the outcome of a run to the clauses of its status.
use Rattle.std.proofs.Common.{◌≡◌, ℕ, ◌≤◌, ◌<◌, ◌⊎◌, inl, inr, true, false, Option, Some, None, List, ap, ◌∙◌, refl, sym, subst, arith}
use Rattle.std.specs.Prelude.{⊤}
use Rattle.pg_base.specs.Graph.{Graph}
use Rattle.pg_base.specs.declared.outcomes.Status.TheVariants.{Ok, BadGraph, BadParts, BadSource}
use Rattle.pg_outside.specs.Faults.{Rose}
use Rattle.pg_outside.specs.Files.{NamedBytes}
use Rattle.pg_outside.specs.Written.{AppendsFront}
use Rattle.pg_metis.specs.Fault.{Fault as FirstFault, fault_of}
use Rattle.pg_metis.specs.File.{FileOf}
use Rattle.pg_metis.specs.Parts.{FirstPartsFault, parts_fault_of}
use Rattle.pg_metis.specs.declared.faults.Kind.{Kind}
use Rattle.pg_metis.specs.declared.parts_faults.PartsKind.{PartsKind}
use Rattle.pg_print.specs.declared.faults.Fault.{Fault}
use Rattle.pg_print.specs.declared.faults.Fault.TheVariants.{Words, Graph as GraphFault, Parts, Source, Read, Write, Memory}
use Rattle.pg_print.specs.FaultLines.{status_of}
use Rattle.pg_words.specs.Plan.{Meaning, plan_of}
use Rattle.pg_top.specs.Files.{FileHolds, HasGraph, HasInput, HasOwners, IsFileOf, IsMissingParts, MissesFile, PartsHold, ReadsFiles}
use Rattle.pg_top.specs.Run.{IsOutside, IsOrNoMemory, HasPlan, HasText, RunFails, Tells, TellsInput, TellsPartsFault, Traces}
use Rattle.pg_words.specs.declared.plans.Algorithm.{Algorithm}
use Rattle.pg_words.specs.declared.plans.Algorithm.TheVariants.{Bfs, Sssp, Components, Forest, Colour, Grid}
use Rattle.pg_top.specs.Text.{IsAnswerText, IsTextOf, IsInside, has_source}
use Rattle.pg_top.specs.declared.works.Work.{Work}
use Rattle.pg_top.specs.Work.{HasWork, IsSolved, IsWork}
use Rattle.pg_top.proofs.InputLemmas.{FileHolds-at, FileOf-n, HasGraph-at, HasInput-weaker, files_of_input, grid_of_input, not_both, not_missing, odd_has_no_owners, owners_at, owners_not_missing, owners_not_odd}

not_outside : (plan : Meaning) (n m : ℕ) → n ≡ m → IsInside plan.algorithm plan.source n → IsOutside plan m → ⊥
not_outside plan n m same inside outside = neither (inside.first outside.sourced) (inside.last outside.sourced) outside.outside where
  neither : 1 ≤ plan.source → plan.source ≤ n → (plan.source ≡ 0) ⊎ (m < plan.source) → ⊥
  neither first last (inl zero) = omega arith
  neither first last (inr above) = omega arith

-- Where an algorithm with a source has a text, the source is inside.
inside_of_text : (a : Algorithm) (ranks source : ℕ) (g : Graph) (text : List ℕ) → IsAnswerText a ranks source g text → IsInside a source g.n
inside_of_text Bfs ranks source g text is = is.inside
inside_of_text Sssp ranks source g text is = is.inside
inside_of_text Components ranks source g text is = is.inside
inside_of_text Forest ranks source g text is = record { first = λ e. absurd (cc e); last = λ e. absurd (cc e) }
inside_of_text Colour ranks source g text is = record { first = λ e. absurd (cc e); last = λ e. absurd (cc e) }
inside_of_text Grid ranks source g text is = record { first = λ e. absurd (cc e); last = λ e. absurd (cc e) }

-- What was solved for a graph and owners is solved for those of the plan's input.
pub solved_at : (plan : Meaning) (g k : Graph) (owners others : Option (List ℕ)) (text : List ℕ) (work : Work) → IsTextOf plan g text → IsWork plan g owners text work → k ≡ g → others ≡ owners → IsSolved plan k others text work
solved_at plan g k owners others text work right carried same alike =
    let there : IsSolved plan g owners text work = record { right = right; carried = carried } in
    let by_graph : IsSolved plan k owners text work = subst (λ (x : Graph). IsSolved plan x owners text work) (sym same) there in
    subst (λ (x : Option (List ℕ)). IsSolved plan k x text work) (sym alike) by_graph

-- What was solved for the plan's files is their text and their work.
module _ (spoken : List (List ℕ)) (files : Option (List NamedBytes)) (text : List ℕ) (work : Work) where
  abbrev SolvedFor : Meaning → Type 0
  SolvedFor plan = HasInput plan files (λ g owners. IsSolved plan g owners text work)

  pub text_from_solved : (P : List ℕ → Type 0) → HasPlan spoken SolvedFor → P text → HasPlan spoken (λ plan. HasText plan files P)
  text_from_solved P (plan, planned, solved) done = (
    plan,
    planned,
    HasInput-weaker plan files _ _ (λ g owners s. (text, s.right, done)) solved,
  )

  pub work_from_solved : (P : List ℕ → Type 0) (other : Work) → work ≡ other → HasPlan spoken SolvedFor → P text → HasPlan spoken (λ plan. HasWork plan files other P)
  work_from_solved P other same (plan, planned, solved) done = (
    plan,
    planned,
    HasInput-weaker plan files _ _ (λ g owners s.
        (text, s.right, subst (IsWork plan g owners text) same s.carried, done)) solved,
  )

-- A text that was written is that of a file without a fault.
pub no_text : (spoken : List (List ℕ)) (files : Option (List NamedBytes)) (plan : Meaning) (text : List ℕ) (fault : FirstFault) (P : List ℕ → Type 0) → Tells spoken files plan text → fault_of text ≡ Some fault → HasPlan spoken (λ other. HasText other files P) → ⊥
no_text spoken files plan text fault P tells odd (other, planned, h) =
    let a = tells.planned in
    let same : other ≡ plan = cc in
    let found = HasGraph-at plan.file files text (λ g. HasOwners plan.parts files g.n plan.ranks (λ owners. (written : List ℕ) × IsTextOf plan g written × P written)) tells.contents
    (files_of_input plan.algorithm plan files (λ g owners. (written : List ℕ) × IsTextOf plan g written × P written) tells.reads (subst (λ (m : Meaning). HasText m files P) same h)) in
    not_both text found.0 fault found.1 odd

module _ (spoken : List (List ℕ)) (files : Option (List NamedBytes)) (plan : Meaning) (text : List ℕ) (tells : Tells spoken files plan text) where
  -- What holds of the plan of the words holds of this one.
  at_plan : (P : Meaning → Type 0) → HasPlan spoken P → P plan
  at_plan P (other, planned, h) =
      let a = tells.planned in
      let same : other ≡ plan = cc in
      subst P same h

  -- What holds of the file of the words' plan holds of the text that is told.
  at_file : (P : Meaning → List ℕ → Type 0) → HasPlan spoken (λ other. FileHolds other.file files (P other)) → P plan text
  at_file P h = FileHolds-at plan.file files text (P plan) tells.contents (at_plan (λ m. FileHolds m.file files (P m)) h)

  -- What holds of the graph of the words' plan holds of one of which the text is a file.
  at_graph : (P : Meaning → Graph → Type 0) → HasPlan spoken (λ other. HasGraph other.file files (P other)) → IsFileOf (P plan) text
  at_graph P h = HasGraph-at plan.file files text (P plan) tells.contents (at_plan (λ m. HasGraph m.file files (P m)) h)

  -- What holds of the input of the words' plan holds of a graph of which the text is a file, and of its owners.
  at_input : (P : Meaning → Graph → Option (List ℕ) → Type 0) → HasPlan spoken (λ other. HasInput other files (P other)) → IsFileOf (λ g. HasOwners plan.parts files g.n plan.ranks (P plan g)) text
  at_input P h = HasGraph-at plan.file files text (λ g. HasOwners plan.parts files g.n plan.ranks (P plan g)) tells.contents
      (files_of_input plan.algorithm plan files (P plan) tells.reads (at_plan (λ m. HasInput m files (P m)) h))

  not_words : plan_of spoken ≡ None → ⊥
  not_words e = let a = tells.planned in cc

  module _ (g : Graph) (file : FileOf text g) where
    -- What holds of the plan's graph and of its owners holds of this graph's number of vertices.
    at_owners : (P : Meaning → Graph → Option (List ℕ) → Type 0) → HasPlan spoken (λ other. HasInput other files (P other))
        → (h : Graph) × (h.n ≡ g.n) × HasOwners plan.parts files g.n plan.ranks (P plan h)
    at_owners P h =
        let found = at_input P h in
        let n : found.0.n ≡ g.n = FileOf-n text found.0 g found.1 file in
        (found.0, n, subst (λ size. HasOwners plan.parts files size plan.ranks (P plan found.0)) n found.2)

    not_malformed : (line : ℕ) (kind : Kind) → HasPlan spoken (λ other. ReadsFiles other.algorithm × FileHolds other.file files (λ text. fault_of text ≡ Some (record { line = line; kind = kind }))) → ⊥
    not_malformed line kind h = not_both text g (record { line = line; kind = kind }) file (at_file (λ _ text. fault_of text ≡ Some (record { line = line; kind = kind })) (h.0, h.1, h.2.1))

    -- The fault of a partition file is one for this graph's number of vertices.
    parts_at : (line : ℕ) (kind : PartsKind) → HasPlan spoken (λ other. ReadsFiles other.algorithm × HasGraph other.file files (λ g. PartsHold other.parts files (λ text. parts_fault_of g.n other.ranks text ≡ Some (record { line = line; kind = kind }))))
        → PartsHold plan.parts files (λ text. parts_fault_of g.n plan.ranks text ≡ Some (record { line = line; kind = kind }))
    parts_at line kind h =
        let found = at_graph (λ m k. PartsHold m.parts files (λ text. parts_fault_of k.n m.ranks text ≡ Some (record { line = line; kind = kind }))) (h.0, h.1, h.2.1) in
        subst (λ size. PartsHold plan.parts files (λ text. parts_fault_of size plan.ranks text ≡ Some (record { line = line; kind = kind }))) (FileOf-n text found.0 g found.1 file) found.2

module _ (spoken : List (List ℕ)) (files : Option (List NamedBytes)) (plan : Meaning) where
  -- No text is written where the partition file has a fault.
  pub no_text_by_parts : (g : Graph) (first : FirstPartsFault) → TellsPartsFault spoken files plan g first → (P : List ℕ → Type 0) → HasPlan spoken (λ other. HasText other files P) → ⊥
  no_text_by_parts g first tells P h =
      let found = at_owners spoken files plan tells.text tells.tells g tells.file (λ m k owners. (written : List ℕ) × IsTextOf m k written × P written) h in
      odd_has_no_owners tells.name files g.n plan.ranks tells.parts first (λ owners. (written : List ℕ) × IsTextOf plan found.0 written × P written) tells.contents tells.odd
      (subst (λ parts. HasOwners parts files g.n plan.ranks (λ owners. (written : List ℕ) × IsTextOf plan found.0 written × P written)) tells.named found.2)

module _ (spoken : List (List ℕ)) (files : Option (List NamedBytes)) (t : Traces) (plan : Meaning) where
  pub malformed : (text : List ℕ) → Tells spoken files plan text → (first : FirstFault) → fault_of text ≡ Some first → (Rose t.inputs_before t.inputs_after → ⊥) → (fault : Fault) → RunFails spoken files t fault → IsOrNoMemory BadGraph (status_of fault)
  malformed text tells first odd none Words h = absurd (not_words spoken files plan text tells h)
  malformed text tells first odd none (GraphFault line kind) h = inl refl
  malformed text tells first odd none (Parts line kind) h =
      let found = at_graph spoken files plan text tells (λ m g. PartsHold m.parts files (λ text. parts_fault_of g.n m.ranks text ≡ Some (record { line = line; kind = kind }))) (h.0, h.1, h.2.1) in
      absurd (not_both text found.0 first found.1 odd)
  malformed text tells first odd none (Source source) (other, planned, (same, h)) =
      let found = at_input spoken files plan text tells (λ m g owners. IsOutside m g.n) (other, planned, h) in
      absurd (not_both text found.0 first found.1 odd)
  malformed text tells first odd none Read h = absurd (missed (at_plan spoken files plan text tells (λ m. ReadsFiles m.algorithm × (Rose t.inputs_before t.inputs_after ⊎ MissesFile m files)) h).1) where
    missed : Rose t.inputs_before t.inputs_after ⊎ MissesFile plan files → ⊥
    missed (inl rose) = none rose
    missed (inr (inl missing)) = not_missing plan.file files text tells.contents missing
    missed (inr (inr (missing, holds))) = let found = FileHolds-at plan.file files text (IsFileOf (λ g. ⊤)) tells.contents holds in not_both text found.0 first found.1 odd
  malformed text tells first odd none Write (other, planned, (rose, h)) = absurd (no_text spoken files plan text first (AppendsFront t.text_before t.text_after) tells odd (other, planned, h))
  malformed text tells first odd none Memory h = inr refl

  pub malformed_parts : (g : Graph) (first : FirstPartsFault) → TellsPartsFault spoken files plan g first → (Rose t.inputs_before t.inputs_after → ⊥) → (fault : Fault) → RunFails spoken files t fault → IsOrNoMemory BadParts (status_of fault)
  malformed_parts g first tells none Words h = absurd (not_words spoken files plan tells.text tells.tells h)
  malformed_parts g first tells none (GraphFault line kind) h = absurd (not_malformed spoken files plan tells.text tells.tells g tells.file line kind h)
  malformed_parts g first tells none (Parts line kind) h = inl refl
  malformed_parts g first tells none (Source source) (other, planned, (same, h)) =
      let found = at_owners spoken files plan tells.text tells.tells g tells.file (λ m k owners. IsOutside m k.n) (other, planned, h) in
      absurd (odd_has_no_owners tells.name files g.n plan.ranks tells.parts first (λ owners. IsOutside plan found.0.n) tells.contents tells.odd
      (subst (λ parts. HasOwners parts files g.n plan.ranks (λ owners. IsOutside plan found.0.n)) tells.named found.2))
  malformed_parts g first tells none Read h = absurd (missed (at_plan spoken files plan tells.text tells.tells (λ m. ReadsFiles m.algorithm × (Rose t.inputs_before t.inputs_after ⊎ MissesFile m files)) h).1) where
    missed : Rose t.inputs_before t.inputs_after ⊎ MissesFile plan files → ⊥
    missed (inl rose) = none rose
    missed (inr (inl missing)) = not_missing plan.file files tells.text tells.tells.contents missing
    missed (inr (inr (missing, holds))) = not_missing tells.name files tells.parts tells.contents (subst (λ parts. IsMissingParts parts files) tells.named missing)
  malformed_parts g first tells none Write (other, planned, (rose, h)) = absurd (no_text_by_parts spoken files plan g first tells (AppendsFront t.text_before t.text_after) (other, planned, h))
  malformed_parts g first tells none Memory h = inr refl

  module _ (g : Graph) (tells : TellsInput spoken files plan g) where
    -- No file that the plan names is missing.
    none_missed : (Rose t.inputs_before t.inputs_after → ⊥) → HasPlan spoken (λ m. ReadsFiles m.algorithm × (Rose t.inputs_before t.inputs_after ⊎ MissesFile m files)) → ⊥
    none_missed none h = missed (at_plan spoken files plan tells.text tells.tells (λ m. ReadsFiles m.algorithm × (Rose t.inputs_before t.inputs_after ⊎ MissesFile m files)) h).1 where
      missed : Rose t.inputs_before t.inputs_after ⊎ MissesFile plan files → ⊥
      missed (inl rose) = none rose
      missed (inr (inl missing)) = not_missing plan.file files tells.text tells.tells.contents missing
      missed (inr (inr (missing, holds))) = owners_not_missing plan.parts files g.n plan.ranks tells.owners missing

    not_odd : (line : ℕ) (kind : PartsKind) → RunFails spoken files t (Parts line kind) → ⊥
    not_odd line kind h =
        owners_not_odd plan.parts files g.n plan.ranks (record { line = line; kind = kind }) tells.owners (parts_at spoken files plan tells.text tells.tells g tells.file line kind h)

    pub outside : IsOutside plan g.n → (Rose t.inputs_before t.inputs_after → ⊥) → (fault : Fault) → RunFails spoken files t fault → IsOrNoMemory BadSource (status_of fault)
    outside out none Words h = absurd (not_words spoken files plan tells.text tells.tells h)
    outside out none (GraphFault line kind) h = absurd (not_malformed spoken files plan tells.text tells.tells g tells.file line kind h)
    outside out none (Parts line kind) h = absurd (not_odd line kind h)
    outside out none (Source source) h = inl refl
    outside out none Read h = absurd (none_missed none h)
    outside out none Write (other, planned, (rose, h)) =
        let found = at_owners spoken files plan tells.text tells.tells g tells.file (λ m k owners. (written : List ℕ) × IsTextOf m k written × AppendsFront t.text_before t.text_after written) (other, planned, h) in
        let text = owners_at plan.parts files g.n plan.ranks ((written : List ℕ) × IsTextOf plan found.0 written × AppendsFront t.text_before t.text_after written) tells.owners found.2 in
        absurd (not_outside plan found.0.n g.n found.1 (inside_of_text plan.algorithm plan.ranks plan.source found.0 text.0 text.1) out)
    outside out none Memory h = inr refl

    pub complete : IsInside plan.algorithm plan.source g.n → (Rose t.inputs_before t.inputs_after → ⊥) → (Rose t.out_before t.out_after → ⊥) → (fault : Fault) → RunFails spoken files t fault → IsOrNoMemory Ok (status_of fault)
    complete inside unread unwritten Words h = absurd (not_words spoken files plan tells.text tells.tells h)
    complete inside unread unwritten (GraphFault line kind) h = absurd (not_malformed spoken files plan tells.text tells.tells g tells.file line kind h)
    complete inside unread unwritten (Parts line kind) h = absurd (not_odd line kind h)
    complete inside unread unwritten (Source source) (other, planned, (same, h)) =
        let found = at_owners spoken files plan tells.text tells.tells g tells.file (λ m k owners. IsOutside m k.n) (other, planned, h) in
        let out = owners_at plan.parts files g.n plan.ranks (IsOutside plan found.0.n) tells.owners found.2 in
        absurd (not_outside plan g.n found.0.n (sym found.1) inside out)
    complete inside unread unwritten Read h = absurd (none_missed unread h)
    complete inside unread unwritten Write (other, planned, (rose, h)) = absurd (unwritten rose)
    complete inside unread unwritten Memory h = inr refl

-- A grid is made, unless memory is wanting.
module _ (spoken : List (List ℕ)) (files : Option (List NamedBytes)) (t : Traces) (plan : Meaning) (planned : plan_of spoken ≡ Some plan) (is : plan.algorithm ≡ Grid) where
  reads_none : (P : Meaning → Type 0) → HasPlan spoken (λ m. ReadsFiles m.algorithm × P m) → ⊥
  reads_none P (other, there, h) =
      let same : plan ≡ other = cc in
      h.0 (ap (λ (m : Meaning). m.algorithm) (sym same) ∙ is)

  pub complete_grid : (Rose t.out_before t.out_after → ⊥) → (fault : Fault) → RunFails spoken files t fault → IsOrNoMemory Ok (status_of fault)
  complete_grid unwritten Words h = let never : None ≡ Some plan = sym h ∙ planned in absurd (cc never)
  complete_grid unwritten (GraphFault line kind) h = absurd (reads_none (λ m. FileHolds m.file files (λ text. fault_of text ≡ Some (record { line = line; kind = kind }))) h)
  complete_grid unwritten (Parts line kind) h = absurd (reads_none (λ m. HasGraph m.file files (λ g. PartsHold m.parts files (λ text. parts_fault_of g.n m.ranks text ≡ Some (record { line = line; kind = kind })))) h)
  complete_grid unwritten (Source source) (other, there, (same, h)) =
      let one : plan ≡ other = cc in
      let out = grid_of_input other.algorithm other files (λ g owners. IsOutside other g.n) (ap (λ (m : Meaning). m.algorithm) (sym one) ∙ is) h in
      absurd (no_source other.algorithm (ap (λ (m : Meaning). m.algorithm) (sym one) ∙ is) out.sourced) where
        no_source : (a : Algorithm) → a ≡ Grid → has_source a ≡ true → ⊥
        no_source a same sourced = let none : false ≡ true = ap has_source (sym same) ∙ sourced in cc
  complete_grid unwritten Read h = absurd (reads_none (λ m. Rose t.inputs_before t.inputs_after ⊎ MissesFile m files) h)
  complete_grid unwritten Write (other, there, (rose, h)) = absurd (unwritten rose)
  complete_grid unwritten Memory h = inr refl
