-- A text has no fault as a partition file exactly where it gives a list, which is the only one.
use Rattle.std.proofs.Common.{◌≡◌, ℕ, ◌+◌, Bool, true, false, cond, nat_lt, Some, None, List, length, refl, sym, ◌∙◌, subst, arith}
use Rattle.std.proofs.lemmas.Bool.{le-ltb, ltb-false}
use Rattle.std.proofs.lemmas.Grind.{same_number_lists}
use Rattle.pg_metis.specs.declared.parts_faults.PartsKind.TheVariants.{MissingLines, TooLong}
use Rattle.pg_metis.specs.Content.{content_of}
use Rattle.pg_metis.specs.File.{content_lines}
use Rattle.pg_metis.specs.Parts.{PartsOf, part_at_line, part_lines_fault, parts_content_fault, parts_fault_of}
use Rattle.pg_metis.specs.PartsLaws.{FaultlessTextsGiveParts, PartsFilesAreOfOneList, PartsFilesHaveNoFault}
use Rattle.pg_metis.proofs.ContentLemmas.{bytes_of, content_small, small_content}
use Rattle.pg_metis.proofs.HeaderFaults.{none_parts}
use Rattle.pg_metis.proofs.PartLines.{GivesParts, each_given, given_each, lines_give, lines_pass}

pub parts_files_are_of_one_list : PartsFilesAreOfOneList
parts_files_are_of_one_list text n ranks a b p q =
    let long = p.count in
    let same : length a ≡ length b = long ∙ sym q.count in
    same_number_lists a b same (λ k within.
    (let here = p.each k (omega arith) in
    let there = q.each k (omega arith) in
    cc))

-- The text gives these ranks.
pub parts_of_given : (text : List ℕ) (n ranks : ℕ) (parts : List ℕ) → (content_of text).overlong ≡ false → length parts ≡ n → GivesParts ranks (bytes_of (content_of text).lines) parts → PartsOf text n ranks parts
parts_of_given text n ranks parts fits count gives =
    let small = small_content text fits in
    let lines = (content_small text small).1 in
    let given = given_each ranks (content_lines text) parts (subst (λ (ls : List (List ℕ)). GivesParts ranks ls parts) (sym lines) gives) in
    let enough = given.enough in
    record {
      small = small;
      count = count;
      enough = omega arith;
      each = λ i within. given.each i (omega arith);
      below = given.below;
      nothing_after = rw (sym count) given.nothing_after;
    }

parts_given : (text : List ℕ) (n ranks : ℕ) (parts : List ℕ) → PartsOf text n ranks parts → GivesParts ranks (bytes_of (content_of text).lines) parts
parts_given text n ranks parts p =
    let lines = (content_small text p.small).1 in
    let count = p.count in
    let enough = p.enough in
    subst (λ (ls : List (List ℕ)). GivesParts ranks ls parts) lines
    (each_given ranks (content_lines text) parts (record {
      enough = omega arith;
      each = λ i within. p.each i (omega arith);
      below = p.below;
      nothing_after = rw count p.nothing_after;
    }))

pub end_cases : (line : ℕ) (overlong short : Bool) → part_at_line line (cond overlong (Some TooLong) (cond short (Some MissingLines) None)) ≡ None → (overlong ≡ false) × (short ≡ false)
end_cases line true short e = cc
end_cases line false true e = cc
end_cases line false false e = (refl, refl)

pub parts_files_have_no_fault : PartsFilesHaveNoFault
unfolding parts_fault_of parts_content_fault
parts_files_have_no_fault text n ranks parts p =
    let content = content_of text in
    let fits : content.overlong ≡ false = (content_small text p.small).0 in
    let passes = lines_pass ranks n content.lines parts p.count (parts_given text n ranks parts p) in
    let enough : nat_lt (length content.lines) n ≡ false = le-ltb (length content.lines) n passes.1 in
    rw (passes.0, fits, enough) refl

pub faultless_texts_give_parts : FaultlessTextsGiveParts
unfolding parts_fault_of parts_content_fault
faultless_texts_give_parts text n ranks none =
    let content = content_of text in
    let split = none_parts (part_lines_fault ranks n content.lines) _ none in
    let end = end_cases (content.count + 1) content.overlong (nat_lt (length content.lines) n) split.1 in
    let found = lines_give ranks n content.lines split.0 (ltb-false (length content.lines) n end.1) in
    (found.0, parts_of_given text n ranks found.0 end.0 found.1 found.2)
