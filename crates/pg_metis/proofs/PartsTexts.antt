-- From the content ahead of a reader to the text of a partition file: the list that it gives, and the refusals that it has.
use Rattle.std.proofs.Common.{◌≡◌, ℕ, ◌+◌, ◌<◌, Bool, false, nat_lt, Option, Some, None, Err, List, [], ◌∷◌, ◌++◌, length, map, All, IfSome, sym, ap, ◌∙◌, subst, arith}
use Rattle.std.specs.Option.{option_map}
use Rattle.std.proofs.lemmas.List.Elements.{All-head, All-tail}
use Rattle.pg_text.specs.Ahead.{ahead_within}
use Rattle.pg_text.specs.Coming.{coming}
use Rattle.pg_text.specs.Text.{numbers, words}
use Rattle.pg_text.specs.declared.readers.LineReader.{LineReader}
use Rattle.pg_metis.specs.declared.TheConstants.{MAX_FILE_BYTES}
use Rattle.pg_metis.specs.declared.parts_faults.PartsFault.{PartsFault}
use Rattle.pg_metis.specs.declared.parts_faults.PartsFault.TheVariants.{Refused, Failed, OutOfMemory}
use Rattle.pg_metis.specs.declared.parts_faults.PartsKind.{PartsKind}
use Rattle.pg_metis.specs.Ahead.{Passes, content_ahead}
use Rattle.pg_metis.specs.Content.{Content, NumberedLine, content_of}
use Rattle.pg_metis.specs.Parts.{FirstPartsFault, PartsOf, part_lines_fault, parts_content_fault, parts_fault_of}
use Rattle.pg_metis.specs.PartsAnswers.{ArePartsNotRefused, ArePartsRefusedAs, OnPartsRefused}
use Rattle.pg_metis.specs.PartsReading.{TakesParts}
use Rattle.pg_metis.proofs.AheadContent.{of-text}
use Rattle.pg_metis.proofs.ContentLemmas.{bytes_of}
use Rattle.pg_metis.proofs.HeaderFaults.{none_parts}
use Rattle.pg_metis.proofs.PartLines.{GivesParts, blank_lines}
use Rattle.pg_metis.proofs.PartsLemmas.{end_cases, parts_files_have_no_fault, parts_of_given}
use Rattle.pg_metis.proofs.PartsReadingLemmas.{rest-fault}
use Rattle.pg_metis.proofs.PartsRefusals.{parts-refused-passed}
use Rattle.pg_metis.proofs.ToldLemmas.{if_some-weaker, told-if}

-- What the content of a text has that gives these ranks.
record HasParts (ranks : ℕ) (parts : List ℕ) (content : Content) : Type 0 where
  fits : content.overlong ≡ false
  gives : GivesParts ranks (bytes_of content.lines) parts

lines-give : (ranks : ℕ) (lines rest : List NumberedLine) (parts : List ℕ) → map (λ line. numbers (words line.bytes)) lines ≡ map (λ part. Some (part ∷ [])) parts → All (λ part. part < ranks) parts → All (λ line. words line ≡ []) (bytes_of rest) → GivesParts ranks (bytes_of (lines ++ rest)) parts
lines-give ranks [] rest [] give below blank = blank
lines-give ranks [] rest (part ∷ parts) give below blank = cc
lines-give ranks (line ∷ lines) rest [] give below blank = cc
lines-give ranks (line ∷ lines) rest (part ∷ parts) give below blank =
    let here : numbers (words line.bytes) ≡ Some (part ∷ []) = cc in
    let later : map (λ (line : NumberedLine). numbers (words line.bytes)) lines ≡ map (λ (part : ℕ). Some (part ∷ [])) parts = cc in
    (here, All-head (λ part. part < ranks) part parts below, lines-give ranks lines rest parts later (All-tail (λ part. part < ranks) part parts below) blank)

has-parts : (ranks : ℕ) (lines : List NumberedLine) (parts : List ℕ) (was now : Content) → Passes lines was now → map (λ line. numbers (words line.bytes)) lines ≡ map (λ part. Some (part ∷ [])) parts → All (λ part. part < ranks) parts → parts_content_fault 0 ranks now ≡ None → HasParts ranks parts was
unfolding parts_content_fault
has-parts ranks lines parts was now passes give below none =
    let split = none_parts (part_lines_fault ranks 0 now.lines) _ none in
    let end = end_cases (now.count + 1) now.overlong (nat_lt (length now.lines) 0) split.1 in
    record {
      fits = passes.overlong ∙ end.0;
      gives = subst (λ (ls : List NumberedLine). GivesParts ranks (bytes_of ls) parts) (sym passes.lines) (lines-give ranks lines now.lines parts give below (blank_lines ranks now.lines split.0));
    }

-- A reader at the start of a text.
pub record IsAtStart (reader : LineReader) (left : Option (List ℕ)) : Type 0 where
  pub coming : coming reader left ≡ option_map (ahead_within MAX_FILE_BYTES) left
  pub lines : reader.lines ≡ 0

-- The ranks that all lines gave are those of the text.
pub parts-of-text : (reader : LineReader) (left : Option (List ℕ)) (n ranks : ℕ) (parts : List ℕ) (b : Option Content) → IsAtStart reader left → length parts ≡ n → TakesParts parts (content_ahead reader left) b → All (λ part. part < ranks) parts → IfSome b (λ now. (ranks : ℕ) → parts_content_fault 0 ranks now ≡ None) → IfSome left (λ text. PartsOf text n ranks parts)
parts-of-text reader left n ranks parts b start count takes below none =
    if_some-weaker left (λ text. HasParts ranks parts (content_of text)) (λ text. PartsOf text n ranks parts)
    (of-text reader left (HasParts ranks parts) start.coming start.lines
    (told-if (content_ahead reader left) b (Passes takes.lines) _ (HasParts ranks parts) takes.told none (λ was now passes fine. has-parts ranks takes.lines parts was now passes takes.give below (fine ranks))))
    (λ text has. parts_of_given text n ranks parts has.fits count has.gives)

-- The refusal is the text's first fault.
abbrev pub Refuses : Option (List ℕ) → ℕ → ℕ → FirstPartsFault → Type 0
Refuses left n ranks fault = IfSome left (λ text. parts_fault_of n ranks text ≡ Some fault)

text-refused : (reader : LineReader) (left : Option (List ℕ)) (n ranks : ℕ) (fault : FirstPartsFault) → IsAtStart reader left → IfSome (content_ahead reader left) (λ was. parts_content_fault n ranks was ≡ Some fault) → Refuses left n ranks fault
unfolding parts_fault_of
text-refused reader left n ranks fault start bad = of-text reader left (λ was. parts_content_fault n ranks was ≡ Some fault) start.coming start.lines bad

pub lines-refused : (reader : LineReader) (left : Option (List ℕ)) (n ranks : ℕ) (fault : PartsFault) → IsAtStart reader left → OnPartsRefused {A = Bool} (Err fault) (λ f. IfSome (content_ahead reader left) (λ was. parts_content_fault n ranks was ≡ Some f)) → OnPartsRefused {A = Bool} (Err fault) (Refuses left n ranks)
lines-refused reader left n ranks fault start refused =
    parts-refused-passed fault (λ f. IfSome (content_ahead reader left) (λ was. parts_content_fault n ranks was ≡ Some f)) (Refuses left n ranks) (λ f bad. text-refused reader left n ranks f start bad) refused

pub end-refused : (reader : LineReader) (left : Option (List ℕ)) (n ranks : ℕ) (parts : List ℕ) (b : Option Content) (fault : PartsFault) → IsAtStart reader left → length parts ≡ n → TakesParts parts (content_ahead reader left) b → All (λ part. part < ranks) parts → OnPartsRefused {A = Bool} (Err fault) (λ f. IfSome b (λ now. (ranks : ℕ) → parts_content_fault 0 ranks now ≡ Some f)) → OnPartsRefused {A = Bool} (Err fault) (Refuses left n ranks)
end-refused reader left n ranks parts b fault start count takes below refused =
    parts-refused-passed fault (λ f. IfSome b (λ now. (ranks : ℕ) → parts_content_fault 0 ranks now ≡ Some f)) (Refuses left n ranks)
    (λ f bad. text-refused reader left n ranks f start
    (rest-fault ranks n 0 parts (content_ahead reader left) b (Some f) (omega arith) takes below (if_some-weaker b _ _ bad (λ now is. is ranks))))
    refused

same-fault : (line : ℕ) (kind : PartsKind) (fault : FirstPartsFault) (o : Option FirstPartsFault) → o ≡ Some (record { line = line; kind = kind }) → o ≡ Some fault → (line ≡ fault.line) × (kind ≡ fault.kind)
same-fault line kind fault o first second =
    let same : (let f : FirstPartsFault = record { line = line; kind = kind } in f) ≡ fault = cc in
    (ap (λ (f : FirstPartsFault). f.line) same, ap (λ (f : FirstPartsFault). f.kind) same)

-- A text with a fault is refused with it.
pub refused-as : (left : Option (List ℕ)) (n ranks : ℕ) (fault : PartsFault) → OnPartsRefused {A = Bool} (Err fault) (Refuses left n ranks) → IfSome left (λ text. (f : FirstPartsFault) → parts_fault_of n ranks text ≡ Some f → ArePartsRefusedAs {A = Bool} (Err fault) f)
refused-as None n ranks fault refused = tt
refused-as (Some text) n ranks (Refused line kind) refused = λ f bad. same-fault line kind f (parts_fault_of n ranks text) refused bad
refused-as (Some text) n ranks Failed refused = λ f bad. tt
refused-as (Some text) n ranks OutOfMemory refused = λ f bad. tt

-- A text that gives a list is not refused.
pub not-refused : (left : Option (List ℕ)) (n ranks : ℕ) (fault : PartsFault) → OnPartsRefused {A = Bool} (Err fault) (Refuses left n ranks) → IfSome left (λ text. (parts : List ℕ) → PartsOf text n ranks parts → ArePartsNotRefused {A = Bool} (Err fault))
not-refused None n ranks fault refused = tt
not-refused (Some text) n ranks (Refused line kind) refused = λ parts file. let fine = parts_files_have_no_fault text n ranks parts file in cc
not-refused (Some text) n ranks Failed refused = λ parts file. tt
not-refused (Some text) n ranks OutOfMemory refused = λ parts file. tt

-- A text that gave a list has no fault.
pub no-fault : (left : Option (List ℕ)) (n ranks : ℕ) (parts : List ℕ) → IfSome left (λ text. PartsOf text n ranks parts) → IfSome left (λ text. (fault : FirstPartsFault) → parts_fault_of n ranks text ≡ Some fault → ⊥)
no-fault left n ranks parts file = if_some-weaker left _ _ file (λ text is fault bad. let fine = parts_files_have_no_fault text n ranks parts is in cc)
