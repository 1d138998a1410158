-- From what follows a header to the whole text.
use Rattle.std.proofs.Common.{◌≡◌, ℕ, Bool, Option, Some, None, Err, List, take, IfSome, sym, subst}
use Rattle.std.specs.Option.{option_map}
use Rattle.pg_text.specs.Ahead.{ahead_within}
use Rattle.pg_text.specs.Coming.{coming, Told}
use Rattle.pg_text.specs.declared.readers.LineReader.{LineReader}
use Rattle.pg_metis.specs.declared.TheConstants.{MAX_FILE_BYTES}
use Rattle.pg_metis.specs.declared.faults.GraphFault.{GraphFault}
use Rattle.pg_metis.specs.Ahead.{content_ahead}
use Rattle.pg_metis.specs.Answers.{OnRefused}
use Rattle.pg_metis.specs.Content.{Content, NumberedLine}
use Rattle.pg_metis.specs.Fault.{body_fault, content_fault, fault_of}
use Rattle.pg_metis.specs.File.{Header}
use Rattle.pg_metis.specs.Reading.{HasLines, TakesHeader}
use Rattle.pg_metis.proofs.AheadContent.{of-text}
use Rattle.pg_metis.proofs.ReadingLemmas.{has-lines, headed-fault, text-fault}
use Rattle.pg_metis.proofs.RefusalLemmas.{refused-passed}
use Rattle.pg_metis.proofs.ToldLemmas.{if_some-weaker, told-if}

-- A reader that has taken no line of this text yet.
pub record IsAtStart (reader : LineReader) (left : Option (List ℕ)) : Type 0 where
  pub coming : coming reader left ≡ option_map (ahead_within MAX_FILE_BYTES) left
  pub none : reader.lines ≡ 0

-- The fault of the header is the text's.
pub header-passed : (reader : LineReader) (left : Option (List ℕ)) (fault : GraphFault) → IsAtStart reader left → OnRefused {A = Bool} (Err fault) (λ f. IfSome (content_ahead reader left) (λ was. content_fault was ≡ Some f)) → OnRefused {A = Bool} (Err fault) (λ f. IfSome left (λ text. fault_of text ≡ Some f))
header-passed reader left fault start refused =
    refused-passed fault (λ f. IfSome (content_ahead reader left) (λ was. content_fault was ≡ Some f)) (λ f. IfSome left (λ text. fault_of text ≡ Some f))
    (λ f bad. if_some-weaker left _ _ (of-text reader left (λ was. content_fault was ≡ Some f) start.coming start.none bad) (λ text is. text-fault text (Some f) is))
    refused

-- The fault of what follows the header is the text's.
pub body-passed : (reader : LineReader) (left : Option (List ℕ)) (header : Header) (at : ℕ) (b : Option Content) (fault : GraphFault) → IsAtStart reader left → Told (content_ahead reader left) b (TakesHeader header at)
    → OnRefused {A = Bool} (Err fault) (λ f. IfSome b (λ was. body_fault header 1 was ≡ Some f)) → OnRefused {A = Bool} (Err fault) (λ f. IfSome left (λ text. fault_of text ≡ Some f))
body-passed reader left header at b fault start takes refused =
    header-passed reader left fault start
    (refused-passed fault (λ f. IfSome b (λ was. body_fault header 1 was ≡ Some f)) (λ f. IfSome (content_ahead reader left) (λ was. content_fault was ≡ Some f))
    (λ f bad. told-if (content_ahead reader left) b (TakesHeader header at) _ (λ was. content_fault was ≡ Some f) takes bad (λ was now takes is. headed-fault header at was now f takes is))
    refused)

-- The text has the lines of the vertices that were taken, after the header in the line of this number.
pub file-told : (reader : LineReader) (left : Option (List ℕ)) (header : Header) (at number : ℕ) (b : Option Content) (lines : List NumberedLine) → IsAtStart reader left → at ≡ number → Told (content_ahead reader left) b (TakesHeader header number)
    → IfSome b (λ was. (body_fault header 1 was ≡ None) × (take header.n was.lines ≡ lines)) → IfSome left (HasLines header at lines)
file-told reader left header at number b lines start same told rest =
    let a = content_ahead reader left in
    let takes = subst (λ (k : ℕ). Told a b (TakesHeader header k)) (sym same) told in
    if_some-weaker left _ _ (of-text reader left (λ was. (now : Content) × TakesHeader header at was now × (body_fault header 1 now ≡ None) × (take header.n now.lines ≡ lines)) start.coming start.none
    (told-if a b (TakesHeader header at) _ _ takes rest (λ was now takes is. (now, takes, is.0, is.1))))
    (λ text is. has-lines header at lines text is.0 is.1 is.2 is.3)

-- What holds where what follows the header is told, holds where the text is.
pub text-told : (reader : LineReader) (left : Option (List ℕ)) (header : Header) (at : ℕ) (b : Option Content) (P : Type 0) → IsAtStart reader left → Told (content_ahead reader left) b (TakesHeader header at) → IfSome b (λ _. P) → IfSome left (λ _. P)
text-told reader left header at b P start takes rest =
    of-text reader left (λ _. P) start.coming start.none (told-if (content_ahead reader left) b (TakesHeader header at) (λ _. P) (λ _. P) takes rest (λ was now takes is. is))
