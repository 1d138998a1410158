-- The first fault of a text that is no graph file: its line and what is wrong there.
-- Source: docs/FORMAT.md, the faults and their order.
use Rattle.std.specs.Prelude.{ℕ, zero, suc, ◌+◌, ◌-◌, ◌*◌, Bool, ◌&&◌, ◌||◌, ◌==◌, nat_le, nat_lt, if◌then◌else◌, Option, Some, None, is_some, List, [], ◌∷◌, ◌++◌, length, map, take, slice_index_or}
use Rattle.std.specs.Option.{option_map, option_or}
use Rattle.std.specs.List.{list_any}
use Rattle.pg_base.specs.declared.TheConstants.{MAX_EDGES, MAX_VERTICES}
use Rattle.pg_base.specs.Graph.{Arc}
use Rattle.pg_text.specs.Text.{words, is_number, decimal_value}
use Rattle.pg_metis.specs.declared.faults.Kind.{Kind}
use Rattle.pg_metis.specs.declared.faults.Kind.TheVariants.{NoHeader, HeaderWords, BadNumber, OverLimit, BadFormat, ShortLine, OutOfRange, SelfEdge, Repeated, ZeroWeight, MissingLines, ExtraText, WrongCount, NoMirror, MirrorWeight, TooLong}
use Rattle.pg_metis.specs.Content.{Content, NumberedLine, content_of}
use Rattle.pg_metis.specs.File.{Format, Header, header_of, leading, line_arcs, marks_of}

pub record Fault : Type 0 where
  pub line : ℕ
  pub kind : Kind

abbrev pub at_line : ℕ → Option Kind → Option Fault
at_line line kind = option_map (λ kind. record { line = line; kind = kind }) kind

-- A word that should be a number.
abbrev pub number_fault : List ℕ → Option Kind
number_fault word = if is_number word then None else Some BadNumber

-- A word that should be a number of at most so much.
abbrev pub count_fault : ℕ → List ℕ → Option Kind
count_fault most word = if is_number word then (if nat_le (decimal_value word) most then None else Some OverLimit) else Some BadNumber

abbrev pub format_fault : List ℕ → Option Kind
format_fault digits = if is_some (marks_of digits) then None else Some BadFormat

-- The words of the header: n, m, the format's digits, ncon.
unfoldable pub header_fault : List (List ℕ) → Option Kind
header_fault (n ∷ m ∷ []) = option_or (count_fault MAX_VERTICES n) (count_fault MAX_EDGES m)
header_fault (n ∷ m ∷ digits ∷ []) = option_or (count_fault MAX_VERTICES n) (option_or (count_fault MAX_EDGES m) (format_fault digits))
header_fault (n ∷ m ∷ digits ∷ ncon ∷ []) = option_or (count_fault MAX_VERTICES n) (option_or (count_fault MAX_EDGES m) (option_or (format_fault digits) (number_fault ncon)))
header_fault _ = Some HeaderWords

-- A neighbour that a line of vertex v of n names after these.
abbrev pub named_fault : ℕ → ℕ → List ℕ → ℕ → Option Kind
named_fault n v earlier to = if to == 0 || nat_lt n to then Some OutOfRange else (if to == v then Some SelfEdge else (if list_any (λ other. other == to) earlier then Some Repeated else None))

abbrev pub neighbour_fault : ℕ → ℕ → List ℕ → List ℕ → Option Kind
neighbour_fault n v earlier word = if is_number word then named_fault n v earlier (decimal_value word) else Some BadNumber

abbrev pub weight_fault : List ℕ → Option Kind
weight_fault word = if is_number word then (if decimal_value word == 0 then Some ZeroWeight else None) else Some BadNumber

-- Words that are neighbours of v, of which these stood earlier in the line.
abbrev pub neighbours_fault : ℕ → ℕ → List ℕ → List (List ℕ) → Option Kind
neighbours_fault n v earlier [] = None
neighbours_fault n v earlier (word ∷ rest) = option_or (neighbour_fault n v earlier word) (neighbours_fault n v (decimal_value word ∷ earlier) rest)

-- The same with the weight of its edge after each neighbour.
abbrev pub weighted_fault : ℕ → ℕ → List ℕ → List (List ℕ) → Option Kind
weighted_fault n v earlier [] = None
weighted_fault n v earlier (word ∷ []) = option_or (neighbour_fault n v earlier word) (Some ShortLine)
weighted_fault n v earlier (word ∷ weight ∷ rest) = option_or (neighbour_fault n v earlier word) (option_or (weight_fault weight) (weighted_fault n v (decimal_value word ∷ earlier) rest))

-- Words of the line of v: so many numbers, and then its neighbours.
abbrev pub row_fault : Header → ℕ → ℕ → List (List ℕ) → Option Kind
row_fault header v zero words = if header.format.edge_weights then weighted_fault header.n v [] words else neighbours_fault header.n v [] words
row_fault header v (suc more) [] = Some ShortLine
row_fault header v (suc more) (word ∷ rest) = option_or (number_fault word) (row_fault header v more rest)

unfoldable pub vertex_fault : Header → ℕ → List (List ℕ) → Option Kind
vertex_fault header v words = row_fault header v (leading header.format) words

-- A line after those of the vertices has no word.
abbrev pub extra_fault : List (List ℕ) → Option Kind
extra_fault [] = None
extra_fault _ = Some ExtraText

abbrev pub line_fault : Header → ℕ → List (List ℕ) → Option Kind
line_fault header v words = if nat_le v header.n then vertex_fault header v words else extra_fault words

-- Lines after the header, of which the first is that of vertex v; more lines than vertices may follow.
abbrev pub lines_fault : Header → ℕ → List NumberedLine → Option Fault
lines_fault header v [] = None
lines_fault header v (line ∷ rest) = option_or (at_line line.number (line_fault header v (words line.bytes))) (lines_fault header (v + 1) rest)

-- What ends the lines, of which at least so many are wanted.
abbrev pub end_fault : ℕ → Content → Option Fault
end_fault wanted content = at_line (content.count + 1) (if content.overlong then Some TooLong else (if nat_lt (length content.lines) wanted then Some MissingLines else None))

-- What follows the header, from the line of vertex v on: the first fault of these lines, and then of their end.
-- The lines of n + 1 - v vertices are still wanted, and none where v is past n.
unfoldable pub body_fault : Header → ℕ → Content → Option Fault
body_fault header v content = option_or (lines_fault header v content.lines) (end_fault (header.n + 1 - v) content)

abbrev pub arcs_or_none : Option (List Arc) → List Arc
arcs_or_none None = []
arcs_or_none (Some arcs) = arcs

-- The arcs that these lines of the vertices from v on name, in the order of lines and of words.
abbrev pub named_arcs : Format → ℕ → List NumberedLine → List Arc
named_arcs format v [] = []
named_arcs format v (line ∷ rest) = arcs_or_none (line_arcs format v line.bytes) ++ named_arcs format (v + 1) rest

abbrev pub is_mirror : Arc → Arc → Bool
is_mirror a b = b.from == a.to && b.to == a.from

-- What is wrong with an arc among these.
abbrev pub mirror_kind : List Arc → Arc → Option Kind
mirror_kind arcs a = if list_any (λ b. is_mirror a b && b.weight == a.weight) arcs then None else (if list_any (is_mirror a) arcs then Some MirrorWeight else Some NoMirror)

-- A vertex whose line names an arc without an equal mirror.
pub record Unmirrored : Type 0 where
  pub vertex : ℕ
  pub kind : Kind

-- The first of the later arcs that has no equal mirror among all arcs.
abbrev pub first_unmirrored : List Arc → List Arc → Option Unmirrored
first_unmirrored arcs [] = None
first_unmirrored arcs (a ∷ later) = option_or (option_map (λ kind. record { vertex = a.from; kind = kind }) (mirror_kind arcs a)) (first_unmirrored arcs later)

abbrev pub number_of : List NumberedLine → ℕ → ℕ
number_of rows v = slice_index_or (map (λ line. line.number) rows) (v - 1) 0

abbrev pub mirror_fault : List NumberedLine → List Arc → Option Fault
mirror_fault rows arcs = option_map (λ u. record { line = number_of rows u.vertex; kind = u.kind }) (first_unmirrored arcs arcs)

-- The lines of the vertices held against one another, and their count against the header in line `number`.
unfoldable pub pairs_fault : Header → ℕ → List NumberedLine → Option Fault
pairs_fault header number rows =
    let arcs = named_arcs header.format 1 rows in
    if length arcs == 2 * header.m then mirror_fault rows arcs else Some (record { line = number; kind = WrongCount })

abbrev pub headed_fault : Option Header → ℕ → Content → Option Fault
headed_fault None number content = None
headed_fault (Some header) number content = option_or (body_fault header 1 content) (pairs_fault header number (take header.n content.lines))

-- The header, then the lines that follow it, then all arcs together.
abbrev pub whole_fault : List NumberedLine → ℕ → Bool → Option Fault
whole_fault [] count overlong = at_line (count + 1) (Some (if overlong then TooLong else NoHeader))
whole_fault (header ∷ rest) count overlong = option_or (at_line header.number (header_fault (words header.bytes))) (headed_fault (header_of (words header.bytes)) header.number (record { lines = rest; count = count; overlong = overlong }))

unfoldable pub content_fault : Content → Option Fault
content_fault content = whole_fault content.lines content.count content.overlong

unfoldable pub fault_of : List ℕ → Option Fault
fault_of text = content_fault (content_of text)
