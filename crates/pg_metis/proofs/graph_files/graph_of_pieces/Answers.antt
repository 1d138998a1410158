use Rattle.std.proofs.Common.{◌≡◌, ◌∙◌, sym, ap, refl, length}
use Rattle.std.proofs.lemmas.List.{length-map}
use Rattle.pg_metis.specs.Fault.{named_arcs}
use Rattle.pg_metis.specs.Headers.{header_in}
use Rattle.pg_metis.specs.Pieces.{ArePieceRowsOf, arcs_in}
use Rattle.pg_metis.proofs.GraphLemmas.{as-named, lines-of, pair-within, told-refused, wrong-count}
use Rattle.pg_metis.proofs.graph_files.graph_of_pieces.Goals as goal

pub returns-in_default-clause-refused : goal.returns-in_default-clause-refused
returns-in_default-clause-refused g c =
    let header = header_in c.args.file.header in
    λ lines are. wrong-count header c.args.file.header_line lines (λ same. c.in_default.ensures.none refl (named_arcs header.format 1 lines) are.arcs (same ∙ sym are.most))

pub edges_of_on_threads-requires-clause-named : goal.edges_of_on_threads-requires-clause-named
edges_of_on_threads-requires-clause-named g c =
    let header = header_in c.args.file.header in
    let (lines, are) = c.requires.read in
    λ lifetimes lives. as-named header lines _ are.faultless are.count (c.in-Some.ensures.some (named_arcs header.format 1 lines) are.arcs)

pub returns-in-Ok-clause-ok : goal.returns-in-Ok-clause-ok
returns-in-Ok-clause-ok g c =
    let header = header_in c.args.file.header in
    λ lines are. lines-of header lines (arcs_in c.in-Some.lists.items) c.in-Ok.edges.items c.new.result (c.in-Some.ensures.some (named_arcs header.format 1 lines) are.arcs) (c.in-Some.ensures.count ∙ are.most) c.in-Ok.ensures.ok c.new.ensures

pub refusal-requires : goal.refusal-requires
refusal-requires g c =
    let header = header_in c.args.file.header in
    let (lines, are) = c.requires.read in
    let numbers : header.n ≡ length c.deref.result.now = sym (ap length c.deref.ensures.value ∙ ap length are.numbers ∙ length-map lines _ ∙ are.count) in
    pair-within header.n (arcs_in c.in-Some.lists.items) c.in-Err.fault (length c.deref.result.now) (as-named header lines _ are.faultless are.count (c.in-Some.ensures.some (named_arcs header.format 1 lines) are.arcs)) numbers c.in-Err.ensures.not_paired

pub returns-clause-refused : goal.returns-clause-refused
returns-clause-refused g c =
    let header = header_in c.args.file.header in
    rw c.refusal.ensures (told-refused header c.args.file.header_line (ArePieceRowsOf header header.n c.args.file.rows) (arcs_in c.in-Some.lists.items) c.in-Err.fault c.deref.result.now
    (λ lines are. c.in-Some.ensures.some (named_arcs header.format 1 lines) are.arcs) (λ lines are. c.in-Some.ensures.count ∙ are.most) (λ lines are. c.deref.ensures.value ∙ are.numbers) c.in-Err.ensures.not_paired)
