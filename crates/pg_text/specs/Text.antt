-- Lines, words and numbers of a text, defined by cases on its bytes.
-- Source: METIS 5.1 manual, section 4.1.1, in the profile of docs/FORMAT.md.
use Rattle.std.specs.Prelude.{ℕ, ◌+◌, ◌-◌, ◌*◌, Bool, false, not, ◌&&◌, ◌||◌, ◌==◌, nat_le, if◌then◌else◌, Option, Some, None, option_and_then, List, [], ◌∷◌, length, fold}
use Rattle.std.specs.List.{list_all}
use Rattle.std.specs.Option.{option_map}

-- The byte goes to the front of the first piece, which it begins where there is none.
abbrev pub onto_first : ℕ → List (List ℕ) → List (List ℕ)
onto_first b [] = (b ∷ []) ∷ []
onto_first b (piece ∷ pieces) = (b ∷ piece) ∷ pieces

abbrev pub is_newline : ℕ → Bool
is_newline b = b == 10

-- A line ends at a newline byte. Bytes after the last newline are a line if there is at least one.
unfoldable pub lines : List ℕ → List (List ℕ)
lines [] = []
lines (b ∷ text) = if is_newline b then [] ∷ lines text else onto_first b (lines text)

-- A space, a tab or a carriage return.
abbrev pub is_blank : ℕ → Bool
is_blank b = b == 32 || b == 9 || b == 13

abbrev pub begins_word : List ℕ → Bool
begins_word [] = false
begins_word (b ∷ _) = not (is_blank b)

-- The longest runs without a blank.
unfoldable pub words : List ℕ → List (List ℕ)
words [] = []
words (b ∷ line) = if is_blank b then words line else (if begins_word line then onto_first b (words line) else (b ∷ []) ∷ words line)

-- A line whose first byte is a percent sign.
abbrev pub is_comment : List ℕ → Bool
is_comment [] = false
is_comment (b ∷ _) = b == 37

abbrev pub is_digit : ℕ → Bool
is_digit b = nat_le 48 b && nat_le b 57

-- What decimal digits are worth.
unfoldable pub decimal_value : List ℕ → ℕ
decimal_value word = fold (λ value digit. 10 * value + (digit - 48)) 0 word

-- One to ten decimal digits worth at most 4,294,967,295.
abbrev pub is_number : List ℕ → Bool
is_number word = list_all is_digit word && nat_le 1 (length word) && nat_le (length word) 10 && nat_le (decimal_value word) 4294967295

unfoldable pub number : List ℕ → Option ℕ
number word = if is_number word then Some (decimal_value word) else None

-- The numbers that the words are, where each of them is one.
unfoldable pub numbers : List (List ℕ) → Option (List ℕ)
numbers [] = Some []
numbers (word ∷ rest) = option_and_then (λ first. option_map (λ more. first ∷ more) (numbers rest)) (number word)
