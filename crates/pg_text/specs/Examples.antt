-- Small texts on which the definitions are shown.
use Rattle.std.specs.Prelude.{ℕ, List, codes}

-- Two lines, an empty line between them, and no newline at the end.
abbrev pub parted_text : List ℕ
parted_text = codes "ab\n\ncd"

-- Two lines of three bytes each, with their newlines.
abbrev pub two_lines : List ℕ
two_lines = codes "ab\ncd\n"

-- Blanks, a tab and a carriage return round two words.
abbrev pub spaced_line : List ℕ
spaced_line = codes " 12\t 7 \r"
