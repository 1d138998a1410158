use Rattle.std.proofs.lemmas.Nat.{div-mul-add, mod-mul-add}
use Rattle.pg_base.specs.declared.TheConstants.{MAX_EDGES}
use Rattle.pg_forest.proofs.laws.keys.Goals as goal

pub returns : goal.returns
returns c = record { back = λ weight index below. (mod-mul-add weight MAX_EDGES index below, div-mul-add weight MAX_EDGES index below) }
