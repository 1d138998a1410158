-- The line that reports a fault, and the status that a run with it ends with.
-- Source: docs/FORMAT.md, the texts of faults.
use Rattle.std.specs.Prelude.{ℕ, List, [], ◌∷◌, ◌++◌, codes, decimal}
use Rattle.pg_base.specs.declared.outcomes.Status.{Status}
use Rattle.pg_base.specs.declared.outcomes.Status.TheVariants.{BadWords, BadGraph, BadParts, BadSource, ReadFault, WriteFault, NoMemory}
use Rattle.pg_metis.specs.declared.faults.Kind.{Kind}
use Rattle.pg_metis.specs.declared.faults.Kind.TheVariants.{NoHeader, HeaderWords, BadNumber, OverLimit, BadFormat, ShortLine, OutOfRange, SelfEdge, Repeated, ZeroWeight, MissingLines, ExtraText, WrongCount, NoMirror, MirrorWeight, TooLong}
use Rattle.pg_metis.specs.declared.parts_faults.PartsKind.{PartsKind}
use Rattle.pg_metis.specs.declared.parts_faults.PartsKind.TheVariants as parts
use Rattle.pg_print.specs.declared.faults.Fault.{Fault}
use Rattle.pg_print.specs.declared.faults.Fault.TheVariants.{Words, Graph, Parts, Source, Read, Write, Memory}

abbrev pub kind_name : Kind → List ℕ
kind_name NoHeader = codes "NoHeader"
kind_name HeaderWords = codes "HeaderWords"
kind_name BadNumber = codes "BadNumber"
kind_name OverLimit = codes "OverLimit"
kind_name BadFormat = codes "BadFormat"
kind_name ShortLine = codes "ShortLine"
kind_name OutOfRange = codes "OutOfRange"
kind_name SelfEdge = codes "SelfEdge"
kind_name Repeated = codes "Repeated"
kind_name ZeroWeight = codes "ZeroWeight"
kind_name MissingLines = codes "MissingLines"
kind_name ExtraText = codes "ExtraText"
kind_name WrongCount = codes "WrongCount"
kind_name NoMirror = codes "NoMirror"
kind_name MirrorWeight = codes "MirrorWeight"
kind_name TooLong = codes "TooLong"

abbrev pub parts_kind_name : PartsKind → List ℕ
parts_kind_name parts.BadNumber = codes "BadNumber"
parts_kind_name parts.OutOfRange = codes "OutOfRange"
parts_kind_name parts.ExtraText = codes "ExtraText"
parts_kind_name parts.MissingLines = codes "MissingLines"
parts_kind_name parts.TooLong = codes "TooLong"

-- The fault's line without its newline.
abbrev pub fault_text : Fault → List ℕ
fault_text Words = codes "bad words"
fault_text (Graph line kind) = codes "line " ++ decimal line ++ codes ": " ++ kind_name kind
fault_text (Parts line kind) = codes "parts line " ++ decimal line ++ codes ": " ++ parts_kind_name kind
fault_text (Source source) = codes "source " ++ decimal source ++ codes ": not in the graph"
fault_text Read = codes "cannot read"
fault_text Write = codes "cannot write"
fault_text Memory = codes "no memory"

abbrev pub fault_line : Fault → List ℕ
fault_line fault = fault_text fault ++ 10 ∷ []

abbrev pub status_of : Fault → Status
status_of Words = BadWords
status_of (Graph line kind) = BadGraph
status_of (Parts line kind) = BadParts
status_of (Source source) = BadSource
status_of Read = ReadFault
status_of Write = WriteFault
status_of Memory = NoMemory
