-- A text whose lines have no fault and name the arcs of edges is a file of the graph of these edges.
use Rattle.std.proofs.Common.{◌≡◌, ℕ, ◌+◌, ◌*◌, ◌<◌, ◌≤◌, false, Some, None, List, [], ◌∷◌, length, take, drop, get_or, sym, ◌∙◌, ap, subst, arith, All}
use Rattle.std.proofs.lemmas.List.{drop-map, get_or-map, get_or-take, length-map, length-take-le}
use Rattle.std.proofs.lemmas.List.Elements.{All-map}
use Rattle.pg_base.specs.declared.edges.Edge.{Edge}
use Rattle.pg_base.specs.Graph.{arcs_of, arcs_from}
use Rattle.pg_text.specs.Text.{words}
use Rattle.pg_metis.specs.Content.{Content, NumberedLine, content_of}
use Rattle.pg_metis.specs.File.{FileOf, Header, IsLineOf, content_lines, header_of}
use Rattle.pg_metis.specs.Fault.{body_fault, header_fault, lines_fault, named_arcs}
use Rattle.pg_metis.specs.Pairing.{AreEdgesOf}
use Rattle.pg_metis.proofs.FaultLemmas.{are_named, header_within}
use Rattle.pg_metis.proofs.EdgeArcs.{arcs_once, edges_have_arcs, named_once, same_from}
use Rattle.pg_metis.proofs.LineParts.{line_part}
use Rattle.pg_metis.proofs.ContentLemmas.{bytes_of, content_small, lines_take, nothing_after, small_content, whole_body}

-- The line of a vertex names its arcs.
lines_are_of : (header : Header) (rows : List NumberedLine) (edges : List Edge) → lines_fault header 1 rows ≡ None → length rows ≡ header.n → AreEdgesOf header.n (named_arcs header.format 1 rows) edges → (i : ℕ) (d : NumberedLine) → i < header.n → IsLineOf header.format (record { n = header.n; edges = edges }) (i + 1) (get_or rows i d).bytes
lines_are_of header rows edges none long are i d within =
    let arcs = named_arcs header.format 1 rows in
    let named = are_named header rows none long in
    let same = edges_have_arcs header.n arcs edges named are.each are.directions in
    record {
      arcs = arcs_from arcs (i + 1);
      named = line_part header 1 rows (omega arith) (omega arith) none i d (i + 1) (omega arith) (omega arith);
      order = same_from arcs (arcs_of edges) (i + 1) (named_once header.n arcs named) (arcs_once header.n edges are.within are.ascending) same;
    }

-- The lines after the header, as they stand in the text.
text_lines : (text : List ℕ) (h : NumberedLine) (content : Content) → content_of text ≡ record { lines = h ∷ content.lines; count = content.count; overlong = content.overlong } → (content_of text).overlong ≡ false → content_lines text ≡ h.bytes ∷ bytes_of content.lines
text_lines text h content is fits =
    (content_small text (small_content text fits)).1 ∙ ap (λ (c : Content). bytes_of c.lines) is

row_at : (n : ℕ) (rows : List NumberedLine) (i : ℕ) (d : NumberedLine) → n ≤ length rows → i < n → (get_or (take n rows) i d).bytes ≡ get_or (bytes_of rows) i []
row_at n rows i d enough within =
    ap (λ (line : NumberedLine). line.bytes) (get_or-take n rows i d within) ∙ sym (get_or-map (λ (line : NumberedLine). line.bytes) rows i d [] (omega arith))

some_line : NumberedLine
some_line = record { number = 0; bytes = [] }

pub file_from_edges : (text : List ℕ) (h : NumberedLine) (header : Header) (content : Content) (edges : List Edge)
    → content_of text ≡ record { lines = h ∷ content.lines; count = content.count; overlong = content.overlong }
    → header_fault (words h.bytes) ≡ None → header_of (words h.bytes) ≡ Some header → body_fault header 1 content ≡ None
    → length (named_arcs header.format 1 (take header.n content.lines)) ≡ 2 * header.m
    → AreEdgesOf header.n (named_arcs header.format 1 (take header.n content.lines)) edges
    → FileOf text (record { n = header.n; edges = edges })
file_from_edges text h header content edges is header_none header_is none count are =
    let limits = header_within (words h.bytes) header header_none header_is in
    let whole = whole_body header content none in
    let enough = whole.enough in
    let fits : (content_of text).overlong ≡ false = ap (λ (c : Content). c.overlong) is ∙ whole.fits in
    let both = are.count in
    let m : header.m ≡ length edges = omega arith in
    let few = limits.1 in
    let rows = take header.n content.lines in
    let long = length-take-le header.n content.lines enough in
    let lines = lines_are_of header rows edges (lines_take header 1 header.n content.lines whole.lines) long are in
    record {
      small = small_content text fits;
      graph = record { vertices = limits.0; size = omega arith; within = are.within; ascending = are.ascending; positive = are.positive };
      header = h.bytes;
      rest = bytes_of content.lines;
      content = text_lines text h content is fits;
      format = header.format;
      counts = header_is ∙ ap (λ (x : ℕ). Some (let k : Header = record { n = header.n; m = x; format = header.format } in k)) m;
      enough = (let same = length-map content.lines (λ (line : NumberedLine). line.bytes) in omega arith);
      each = λ i within. subst (IsLineOf header.format (record { n = header.n; edges = edges }) (i + 1)) (row_at header.n content.lines i some_line enough within) (lines i some_line within);
      nothing_after = subst (All (λ line. words line ≡ [])) (sym (drop-map (λ (line : NumberedLine). line.bytes) header.n content.lines)) (All-map (λ line. words line ≡ []) (λ (line : NumberedLine). line.bytes) (drop header.n content.lines) (nothing_after header content.lines whole.lines));
    }
