use Rattle.std.proofs.Common.{◌≡◌, drop}
use Rattle.pg_outside.specs.Files.{contents_of}
use Rattle.pg_outside.specs.NamedFiles.{named_files}
use Rattle.pg_outside.proofs.named_files.place_of.Given as goal

-- The files that are left decide.
abbrev pub invariant-loop-place : goal.invariant-loop-place
invariant-loop-place l = contents_of l.name (named_files (drop l.place l.files)) ≡ contents_of l.name (named_files l.files)
