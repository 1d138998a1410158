-- Which list of ranks a partition file is of, and the first fault of a text that is none.
-- Source: METIS 5.1 manual, section 4.2.1 (partition file), in the profile of docs/FORMAT.md.
use Rattle.std.specs.Prelude.{◌≡◌, ℕ, zero, suc, ◌+◌, ◌<◌, ◌≤◌, nat_lt, if◌then◌else◌, Option, Some, None, List, [], ◌∷◌, length, drop, slice_index, slice_index_or, All}
use Rattle.std.specs.Option.{option_map, option_or}
use Rattle.pg_text.specs.Text.{words, numbers, is_number, decimal_value}
use Rattle.pg_metis.specs.declared.TheConstants.{MAX_FILE_BYTES}
use Rattle.pg_metis.specs.declared.parts_faults.PartsKind.{PartsKind}
use Rattle.pg_metis.specs.declared.parts_faults.PartsKind.TheVariants.{BadNumber, OutOfRange, ExtraText, MissingLines, TooLong}
use Rattle.pg_metis.specs.Content.{Content, NumberedLine, content_of}
use Rattle.pg_metis.specs.File.{content_lines}

-- The text gives each of n vertices one of these ranks, line by line.
pub record PartsOf (text : List ℕ) (n ranks : ℕ) (parts : List ℕ) : Type 0 where
  pub small : length text ≤ MAX_FILE_BYTES
  pub count : length parts ≡ n
  pub enough : n ≤ length (content_lines text)
  pub each : (i : ℕ) → i < n → numbers (words (slice_index_or (content_lines text) i [])) ≡ Some (slice_index parts i ∷ [])
  pub below : All (λ part. part < ranks) parts
  pub nothing_after : All (λ line. words line ≡ []) (drop n (content_lines text))

pub record FirstPartsFault : Type 0 where
  pub line : ℕ
  pub kind : PartsKind

abbrev pub part_at_line : ℕ → Option PartsKind → Option FirstPartsFault
part_at_line line kind = option_map (λ kind. record { line = line; kind = kind }) kind

-- Words where none should stand.
abbrev pub surplus_fault : List (List ℕ) → Option PartsKind
surplus_fault [] = None
surplus_fault _ = Some ExtraText

-- The words of the line of a vertex: its rank.
abbrev pub part_fault : ℕ → List (List ℕ) → Option PartsKind
part_fault ranks [] = Some BadNumber
part_fault ranks (word ∷ more) = if is_number word then (if nat_lt (decimal_value word) ranks then surplus_fault more else Some OutOfRange) else Some BadNumber

-- The lines of so many vertices, and those that follow.
abbrev pub part_lines_fault : ℕ → ℕ → List NumberedLine → Option FirstPartsFault
part_lines_fault ranks vertices [] = None
part_lines_fault ranks zero (line ∷ rest) = option_or (part_at_line line.number (surplus_fault (words line.bytes))) (part_lines_fault ranks zero rest)
part_lines_fault ranks (suc more) (line ∷ rest) = option_or (part_at_line line.number (part_fault ranks (words line.bytes))) (part_lines_fault ranks more rest)

-- What ends the lines, of which at least so many are wanted.
abbrev pub parts_end_fault : ℕ → Content → Option FirstPartsFault
parts_end_fault wanted content = part_at_line (content.count + 1) (if content.overlong then Some TooLong else (if nat_lt (length content.lines) wanted then Some MissingLines else None))

-- The first fault of the lines of n vertices and of what follows them.
unfoldable pub parts_content_fault : ℕ → ℕ → Content → Option FirstPartsFault
parts_content_fault n ranks content = option_or (part_lines_fault ranks n content.lines) (parts_end_fault n content)

unfoldable pub parts_fault_of : ℕ → ℕ → List ℕ → Option FirstPartsFault
parts_fault_of n ranks text = parts_content_fault n ranks (content_of text)
