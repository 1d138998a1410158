-- Small texts on which the definitions are shown: files, with the graphs that they are of, and others.
use Rattle.std.specs.Prelude.{ℕ, List, [], ◌∷◌, true, codes}
use Rattle.pg_base.specs.Graph.{Graph}
use Rattle.pg_base.specs.Examples.{edge, graph}
use Rattle.pg_metis.specs.Content.{Content}

-- 1 --1-- 2 --1-- 3
abbrev pub path : Graph
path = graph 3 (edge 1 2 1 ∷ edge 2 3 1 ∷ [])

-- A file of the path.
abbrev pub path_text : List ℕ
path_text = codes "3 2\n2\n1 3\n2\n"

-- The neighbours of vertex 2 in descending order.
abbrev pub turned_path_text : List ℕ
turned_path_text = codes "3 2\n2\n3 1\n2\n"

-- The path after a comment.
abbrev pub commented_text : List ℕ
commented_text = codes "% a path\n3 2\n2\n1 3\n2\n"

-- The path under a header of three words.
abbrev pub formatted_text : List ℕ
formatted_text = codes "3 2 0\n2\n1 3\n2\n"

-- 1 --9-- 2     3
abbrev pub heavy : Graph
heavy = graph 3 (edge 1 2 9 ∷ [])

-- Two weights for each vertex, a weight for each edge, and comments.
abbrev pub heavy_text : List ℕ
heavy_text = codes "% heavy\n3 1 011 2\n7 0 2 9\n% between\n1 1 1 9\n4 4\n"

-- 1 --1-- 2
abbrev pub pair : Graph
pair = graph 2 (edge 1 2 1 ∷ [])

-- A size for each vertex.
abbrev pub sized_text : List ℕ
sized_text = codes "2 1 100\n5 2\n6 1\n"

-- 1 --3-- 2
abbrev pub heavy_pair : Graph
heavy_pair = graph 2 (edge 1 2 3 ∷ [])

-- The header counts no weights for each vertex, which is one.
abbrev pub uncounted_text : List ℕ
uncounted_text = codes "2 1 11 0\n4 2 3\n4 1 3\n"

-- Nothing but comments.
abbrev pub remarks_text : List ℕ
remarks_text = codes "%a\n%b\n"

-- A header of one word.
abbrev pub lone_word_text : List ℕ
lone_word_text = codes "1\n\n"

-- Vertex 2 names a letter.
abbrev pub lettered_text : List ℕ
lettered_text = codes "2 1\n2\nx\n"

-- One vertex more than the limit.
abbrev pub vast_text : List ℕ
vast_text = codes "1048577 0\n"

-- A format with the digit 2.
abbrev pub misformatted_text : List ℕ
misformatted_text = codes "1 0 2\n\n"

-- Vertex 2 doesn't weigh its edge.
abbrev pub unweighed_text : List ℕ
unweighed_text = codes "2 1 1\n2 5\n1\n"

-- Vertex 1 of two names vertex 3.
abbrev pub outside_text : List ℕ
outside_text = codes "2 1\n3\n1\n"

-- Vertex 1 names itself.
abbrev pub looped_text : List ℕ
looped_text = codes "1 1\n1\n"

-- Vertex 1 names vertex 2 twice.
abbrev pub repeated_text : List ℕ
repeated_text = codes "2 1\n2 2\n1\n"

-- The edge weighs nothing.
abbrev pub weightless_text : List ℕ
weightless_text = codes "2 1 1\n2 0\n1 0\n"

-- The line of vertex 3 is missing.
abbrev pub short_text : List ℕ
short_text = codes "3 1\n2\n1\n"

-- A word stands after the lines of the vertices.
abbrev pub long_text : List ℕ
long_text = codes "3 2\n2\n1 3\n2\n1\n"

-- The path's lines under a header that counts three edges.
abbrev pub miscounted_text : List ℕ
miscounted_text = codes "3 3\n2\n1 3\n2\n"

-- Vertex 2 names vertex 3, which names vertex 1.
abbrev pub unanswered_text : List ℕ
unanswered_text = codes "3 2\n2\n1 3\n1\n"

-- Two vertices that give the edge between them different weights.
abbrev pub twice_weighed_text : List ℕ
twice_weighed_text = codes "2 1 1\n2 3\n1 4\n"

-- A neighbour that stood before, and then a letter.
abbrev pub repeated_then_letter_text : List ℕ
repeated_then_letter_text = codes "2 1\n2 2 x\n1\n"

-- One vertex more than the limit, and then a letter.
abbrev pub vast_then_letter_text : List ℕ
vast_then_letter_text = codes "1048577 x\n"

-- An edge without its weight, under a header that counts too many edges.
abbrev pub unweighed_and_miscounted_text : List ℕ
unweighed_and_miscounted_text = codes "2 9 1\n2\n1 1\n"

-- The lines of vertices 2 and 3 are missing, so that nobody answers vertex 1.
abbrev pub short_and_unanswered_text : List ℕ
short_and_unanswered_text = codes "3 1\n2\n"

-- A header, and then a line past the limit on bytes.
abbrev pub cut_content : Content
cut_content = record { lines = record { number = 1; bytes = codes "1 0" } ∷ []; count = 1; overlong = true }

-- A rank for each of two vertices.
abbrev pub parts_text : List ℕ
parts_text = codes "0\n1\n"

-- Ranks of four vertices, none of which rank 2 owns.
abbrev pub idle_rank_text : List ℕ
idle_rank_text = codes "0\n1\n3\n0\n"

-- Vertex 3 has rank 5.
abbrev pub far_rank_text : List ℕ
far_rank_text = codes "0\n1\n5\n0\n"

-- The line of vertex 2 is empty.
abbrev pub rankless_text : List ℕ
rankless_text = codes "0\n\n1\n0\n"

-- Vertex 1 has two ranks.
abbrev pub two_ranks_text : List ℕ
two_ranks_text = codes "0 1\n0\n0\n0\n"

-- Ranks of two vertices between comments.
abbrev pub commented_parts_text : List ℕ
commented_parts_text = codes "% ranks\n1\n% of two\n0\n\n"
