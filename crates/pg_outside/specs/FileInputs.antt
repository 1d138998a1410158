-- What a contract sees of the system's files.
use Rattle.std.specs.Prelude.{ℕ, Bool, Option, is_some}
use Rattle.pg_outside.specs.declared.file_inputs.FileInputs.{FileInputs}

module _ {R F E : Type 0} where
  -- How many faults were counted.
  abbrev pub faults_of : FileInputs R F E → ℕ
  faults_of inputs = inputs.faults

  -- The file that was begun last, where one is open.
  abbrev pub file_of : FileInputs R F E → Option F
  file_of inputs = inputs.file

  -- A file is open.
  abbrev pub is_begun : FileInputs R F E → Bool
  is_begun inputs = is_some inputs.file
