use Rattle.std.proofs.Common.{◌≡◌, ◌∙◌, sym, ap, refl, length}
use Rattle.std.proofs.lemmas.List.{length-map}
use Rattle.pg_metis.specs.Fault.{named_arcs}
use Rattle.pg_metis.specs.Headers.{header_in}
use Rattle.pg_metis.specs.Pairing.{arc_of, arcs_named}
use Rattle.pg_metis.specs.Reading.{AreRowsOf}
use Rattle.pg_metis.proofs.GraphLemmas.{as-named, lines-of, pair-within, told-refused, wrong-count}
use Rattle.pg_metis.proofs.graph_files.graph_of.Goals as goal

pub returns-in_default-clause-refused : goal.returns-in_default-clause-refused
returns-in_default-clause-refused c =
    let header = header_in c.args.file.header in
    λ lines are. wrong-count header c.args.file.header_line lines (λ same. c.in_default.ensures.none refl (named_arcs header.format 1 lines) are.arcs (same ∙ sym are.most))

pub edges_of-requires-clause-named : goal.edges_of-requires-clause-named
edges_of-requires-clause-named c =
    let header = header_in c.args.file.header in
    let (lines, are) = c.requires.read in
    as-named header lines _ are.faultless are.count (c.in-Some.ensures.some (named_arcs header.format 1 lines) are.arcs)

pub returns-in-Ok-clause-ok : goal.returns-in-Ok-clause-ok
returns-in-Ok-clause-ok c =
    let header = header_in c.args.file.header in
    let kept = c.in-Some.arcs.items in
    λ lines are. lines-of header lines (arcs_named kept) c.in-Ok.edges.items c.new.result (c.in-Some.ensures.some (named_arcs header.format 1 lines) are.arcs) (length-map kept arc_of ∙ c.in-Some.ensures.count ∙ are.most) c.in-Ok.ensures.ok c.new.ensures

pub refusal-requires : goal.refusal-requires
refusal-requires c =
    let header = header_in c.args.file.header in
    let (lines, are) = c.requires.read in
    let numbers : header.n ≡ length c.deref.result.now = sym (ap length c.deref.ensures.value ∙ ap length are.numbers ∙ length-map lines _ ∙ are.count) in
    pair-within header.n (arcs_named c.in-Some.arcs.items) c.in-Err.fault (length c.deref.result.now) (as-named header lines _ are.faultless are.count (c.in-Some.ensures.some (named_arcs header.format 1 lines) are.arcs)) numbers c.in-Err.ensures.not_paired

pub returns-clause-refused : goal.returns-clause-refused
returns-clause-refused c =
    let header = header_in c.args.file.header in
    let kept = c.in-Some.arcs.items in
    rw c.refusal.ensures (told-refused header c.args.file.header_line (AreRowsOf header header.n c.args.file.rows) (arcs_named kept) c.in-Err.fault c.deref.result.now
    (λ lines are. c.in-Some.ensures.some (named_arcs header.format 1 lines) are.arcs) (λ lines are. length-map kept arc_of ∙ c.in-Some.ensures.count ∙ are.most) (λ lines are. c.deref.ensures.value ∙ are.numbers) c.in-Err.ensures.not_paired)
