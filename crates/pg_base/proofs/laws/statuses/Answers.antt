-- The outcome is read back from its number.
use Rattle.std.proofs.Common.{◌≡◌, ℕ, cond, eqb, refl, sym, ap, ◌∙◌}
use Rattle.pg_base.specs.declared.outcomes.Status.{Status}
use Rattle.pg_base.specs.declared.outcomes.Status.TheVariants.{Ok, BadWords, BadGraph, BadParts, ReadFault, WriteFault, NoMemory, BadSource}
use Rattle.pg_base.specs.Outcome.{status_number}
use Rattle.pg_base.proofs.laws.statuses.Goals as goal

abbrev outcome_of : ℕ → Status
outcome_of n =
    cond (eqb n 0) Ok (cond (eqb n 2) BadWords (cond (eqb n 3) BadGraph (cond (eqb n 4) BadParts
    (cond (eqb n 5) ReadFault (cond (eqb n 6) WriteFault (cond (eqb n 7) NoMemory BadSource))))))

read_back : (s : Status) → outcome_of (status_number s) ≡ s
read_back Ok = refl
read_back BadWords = refl
read_back BadGraph = refl
read_back BadParts = refl
read_back ReadFault = refl
read_back WriteFault = refl
read_back NoMemory = refl
read_back BadSource = refl

pub returns : goal.returns
returns c = record { apart = λ s t same. sym (read_back s) ∙ (ap outcome_of same ∙ read_back t) }
