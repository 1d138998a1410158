-- A text has no fault exactly where it is a file of a graph.
use Rattle.std.proofs.Common.{◌≡◌, ℕ, ◌+◌, ◌-◌, ◌<◌, Bool, false, Option, Some, None, List, [], ◌∷◌, length, take, drop, get_or, refl, sym, ◌∙◌, ap, subst, arith}
use Rattle.std.proofs.lemmas.List.{get_or-drop, get_or-map, length-drop, length-map, length-take-le}
use Rattle.pg_base.specs.Graph.{Graph}
use Rattle.pg_text.specs.Text.{words}
use Rattle.pg_metis.specs.Content.{Content, NumberedLine, content_of}
use Rattle.pg_metis.specs.File.{FileOf, Header, IsLineOf, header_of}
use Rattle.pg_metis.specs.Fault.{at_line, body_fault, content_fault, fault_of, headed_fault, header_fault, named_arcs, pairs_fault, whole_fault}
use Rattle.pg_metis.specs.FileLaws.{FaultlessTextsAreFiles, FilesHaveNoFault}
use Rattle.pg_metis.proofs.HeaderFaults.{header_passes, none_parts}
use Rattle.pg_metis.proofs.FaultLemmas.{are_named, header_known, no_line_fault}
use Rattle.pg_metis.proofs.ContentLemmas.{body_whole, bytes_of, content_small, lines_take, whole_body}
use Rattle.pg_metis.proofs.EdgesFromArcs.{edges_from_arcs}
use Rattle.pg_metis.proofs.FileFromEdges.{file_from_edges}
use Rattle.pg_metis.proofs.GraphLines.{AreLinesOf, graph_lines_paired, graph_lines_pass, heading}
use Rattle.pg_metis.proofs.MirrorFaults.{pairs_none, pairs_pass}

-- A header that is one, and lines after it, without a fault.
record IsFaultless (ls : List NumberedLine) (count : ℕ) (overlong : Bool) : Type 0 where
  line : NumberedLine
  rest : List NumberedLine
  split : ls ≡ line ∷ rest
  header : Header
  passes : header_fault (words line.bytes) ≡ None
  is : header_of (words line.bytes) ≡ Some header
  body : body_fault header 1 (record { lines = rest; count = count; overlong = overlong }) ≡ None
  pairs : pairs_fault header line.number (take header.n rest) ≡ None

faultless : (ls : List NumberedLine) (count : ℕ) (overlong : Bool) → whole_fault ls count overlong ≡ None → IsFaultless ls count overlong
faultless [] count overlong none = cc
faultless (line ∷ rest) count overlong none =
    let content : Content = record { lines = rest; count = count; overlong = overlong } in
    let parts = none_parts (at_line line.number (header_fault (words line.bytes))) (headed_fault (header_of (words line.bytes)) line.number content) none in
    let passes = no_line_fault line.number (header_fault (words line.bytes)) parts.0 in
    let known = header_known (words line.bytes) passes in
    let headed : headed_fault (Some known.0) line.number content ≡ None = subst (λ (o : Option Header). headed_fault o line.number content ≡ None) known.1 parts.1 in
    let both = none_parts (body_fault known.0 1 content) (pairs_fault known.0 line.number (take known.0.n rest)) headed in
    record { line = line; rest = rest; split = refl; header = known.0; passes = passes; is = known.1; body = both.0; pairs = both.1 }

pub faultless_texts_are_files : FaultlessTextsAreFiles
unfolding fault_of content_fault
faultless_texts_are_files text none =
    let content = content_of text in
    let is = faultless content.lines content.count content.overlong none in
    let header = is.header in
    let body : Content = record { lines = is.rest; count = content.count; overlong = content.overlong } in
    let whole = whole_body header body is.body in
    let rows = take header.n is.rest in
    let arcs = named_arcs header.format 1 rows in
    let named = are_named header rows (lines_take header 1 header.n is.rest whole.lines) (length-take-le header.n is.rest whole.enough) in
    let paired = pairs_none header is.line.number rows is.pairs in
    let found = edges_from_arcs header.n arcs named paired.mirrored in
    let told : content ≡ record { lines = is.line ∷ is.rest; count = content.count; overlong = content.overlong } = ap (λ (ls : List NumberedLine). let c : Content = record { lines = ls; count = content.count; overlong = content.overlong } in c) is.split in
    (record { n = header.n; edges = found.0 }, file_from_edges text is.line header body found.0 told is.passes is.is is.body paired.count found.1)

-- The lines after the header of a file of a graph.
file_lines : (text : List ℕ) (g : Graph) (p : FileOf text g) (rows : List NumberedLine) → bytes_of rows ≡ p.rest → AreLinesOf p.format g rows
file_lines text g p rows same =
    let long : length rows ≡ length p.rest = sym (length-map rows (λ (line : NumberedLine). line.bytes)) ∙ ap length same in
    let enough = p.enough in
    let at : (i : ℕ) (d : NumberedLine) → i < length rows → get_or p.rest i [] ≡ (get_or rows i d).bytes = λ i d within.
    ap (λ (ls : List (List ℕ)). get_or ls i []) (sym same) ∙ get_or-map (λ (line : NumberedLine). line.bytes) rows i d [] within in
    record {
      graph = p.graph;
      enough = omega arith;
      each = λ i d within. subst (IsLineOf p.format g (i + 1)) (at i d (omega arith)) (p.each i within);
      nothing_after = λ i d past within.
          (let dropped = length-drop g.n p.rest in
          let none = p.nothing_after (i - g.n) [] (omega arith) in
          let place : g.n + (i - g.n) ≡ i = omega arith in
          let line : get_or (drop g.n p.rest) (i - g.n) [] ≡ (get_or rows i d).bytes = get_or-drop g.n p.rest (i - g.n) [] ∙ (ap (λ (k : ℕ). get_or p.rest k []) place ∙ at i d within) in
          subst (λ (l : List ℕ). words l ≡ []) line none);
    }

file_passes : (text : List ℕ) (g : Graph) (p : FileOf text g) (ls : List NumberedLine) (count : ℕ) (overlong : Bool) → overlong ≡ false → bytes_of ls ≡ p.header ∷ p.rest → whole_fault ls count overlong ≡ None
file_passes text g p [] count overlong fits same = cc
file_passes text g p (line ∷ rest) count overlong fits same =
    let first : line.bytes ≡ p.header = cc in
    let rows : bytes_of rest ≡ p.rest = cc in
    let are = file_lines text g p rest rows in
    let header = heading p.format g in
    let content : Content = record { lines = rest; count = count; overlong = overlong } in
    let graph = p.graph in
    let is : header_of (words line.bytes) ≡ Some header = ap (λ (l : List ℕ). header_of (words l)) first ∙ p.counts in
    let passes : header_fault (words line.bytes) ≡ None = header_passes (words line.bytes) header is graph.vertices graph.size in
    let body : body_fault header 1 content ≡ None = body_whole header content (record { lines = graph_lines_pass p.format g rest are; fits = fits; enough = are.enough }) in
    let pairs : pairs_fault header line.number (take g.n rest) ≡ None = pairs_pass header line.number (take g.n rest) (graph_lines_paired p.format g rest are) in
    rw (passes, is, body, pairs) refl

pub files_have_no_fault : FilesHaveNoFault
unfolding fault_of content_fault
files_have_no_fault text g p =
    let content = content_of text in
    let small = content_small text p.small in
    file_passes text g p content.lines content.count content.overlong small.0 (sym small.1 ∙ p.content)
