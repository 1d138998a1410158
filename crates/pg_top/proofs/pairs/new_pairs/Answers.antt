use Rattle.std.proofs.Common.{◌≡◌, ◌∙◌, length, map, ap, sym, subst}
use Rattle.std.specs.Prelude.{slice_get}
use Rattle.pg_group.specs.Entries.{Each}
use Rattle.pg_group.proofs.Growing.{entry_map}
use Rattle.pg_group.proofs.ByRank.{length_of_map}
use Rattle.pg_relax.specs.Shown.{part_in}
use Rattle.pg_agenda.specs.Shares.{takes_all}
use Rattle.pg_dist.specs.Sharing.{Sharing}
use Rattle.pg_label.specs.declared.labels.Hops.{Hops}
use Rattle.pg_label.specs.declared.labels.Root.{Root}
use Rattle.pg_top.specs.Paired.{AreOpen, hops_in, roots_in}
use Rattle.pg_top.proofs.Outcomes.{ok_then}
use Rattle.pg_top.proofs.PairRuns.{open_count, open_ranks}
use Rattle.pg_top.proofs.pairs.new_pairs.Goals as goal

pub pairs_of-requires-clause-count : goal.pairs_of-requires-clause-count
pairs_of-requires-clause-count g c =
    let s : Sharing = g.D.Distribution.sharing c.args.dist.now in
    let source : Hops = record { source = c.args.source } in
    let root : Root = record {} in
    open_count root s c.args.graph.now c.in_ok-roots.roots.items c.in_ok-roots.ensures ∙ sym (open_count source s c.args.graph.now c.in_ok-hops.hops.items c.in_ok-hops.ensures)

pub pairs_of-requires-clause-ranks_of_hops : goal.pairs_of-requires-clause-ranks_of_hops
pairs_of-requires-clause-ranks_of_hops g c = λ k p at.
    let s : Sharing = g.D.Distribution.sharing c.args.dist.now in
    (open_ranks (record { source = c.args.source }) s c.args.graph.now c.in_ok-hops.hops.items c.in_ok-hops.ensures k p at).0

pub pairs_of-requires-clause-ranks_of_roots : goal.pairs_of-requires-clause-ranks_of_roots
pairs_of-requires-clause-ranks_of_roots g c = λ k p at.
    let s : Sharing = g.D.Distribution.sharing c.args.dist.now in
    (open_ranks (record {}) s c.args.graph.now c.in_ok-roots.roots.items c.in_ok-roots.ensures k p at).0

pub pairs_of-requires-clause-sizes_of_hops : goal.pairs_of-requires-clause-sizes_of_hops
pairs_of-requires-clause-sizes_of_hops g c = λ k p at.
    let s : Sharing = g.D.Distribution.sharing c.args.dist.now in
    (open_ranks (record { source = c.args.source }) s c.args.graph.now c.in_ok-hops.hops.items c.in_ok-hops.ensures k p at).1

pub pairs_of-requires-clause-sizes_of_roots : goal.pairs_of-requires-clause-sizes_of_roots
pairs_of-requires-clause-sizes_of_roots g c = λ k p at.
    let s : Sharing = g.D.Distribution.sharing c.args.dist.now in
    let source : Hops = record { source = c.args.source } in
    let root : Root = record {} in
    (open_ranks root s c.args.graph.now c.in_ok-roots.roots.items c.in_ok-roots.ensures k p at).1
    ∙ (open_count root s c.args.graph.now c.in_ok-roots.roots.items c.in_ok-roots.ensures ∙ sym (open_count source s c.args.graph.now c.in_ok-hops.hops.items c.in_ok-hops.ensures))

pub returns-clause-hops : goal.returns-clause-hops
returns-clause-hops g c =
    let s : Sharing = g.D.Distribution.sharing c.args.dist.now in
    let source : Hops = record { source = c.args.source } in
    ok_then c.pairs_of.result (λ ps. map hops_in ps.items ≡ c.in_ok-hops.hops.items) (λ ps. AreOpen source takes_all s c.args.graph.now (map hops_in ps.items)) c.pairs_of.ensures.hops
    (λ ps same. subst (AreOpen source takes_all s c.args.graph.now) (sym same) c.in_ok-hops.ensures)

pub returns-clause-roots : goal.returns-clause-roots
returns-clause-roots g c =
    let s : Sharing = g.D.Distribution.sharing c.args.dist.now in
    let root : Root = record {} in
    ok_then c.pairs_of.result (λ ps. map roots_in ps.items ≡ c.in_ok-roots.roots.items) (λ ps. AreOpen root takes_all s c.args.graph.now (map roots_in ps.items)) c.pairs_of.ensures.roots
    (λ ps same. subst (AreOpen root takes_all s c.args.graph.now) (sym same) c.in_ok-roots.ensures)

pub returns-clause-count : goal.returns-clause-count
returns-clause-count g c =
    let s : Sharing = g.D.Distribution.sharing c.args.dist.now in
    let source : Hops = record { source = c.args.source } in
    ok_then c.pairs_of.result (λ ps. map hops_in ps.items ≡ c.in_ok-hops.hops.items) (λ ps. length ps.items ≡ s.ranks) c.pairs_of.ensures.hops
    (λ ps same. sym (length_of_map hops_in ps.items) ∙ (ap length same ∙ open_count source s c.args.graph.now c.in_ok-hops.hops.items c.in_ok-hops.ensures))

pub returns-clause-ranks : goal.returns-clause-ranks
returns-clause-ranks g c =
    let s : Sharing = g.D.Distribution.sharing c.args.dist.now in
    let source : Hops = record { source = c.args.source } in
    ok_then c.pairs_of.result (λ ps. map hops_in ps.items ≡ c.in_ok-hops.hops.items) (λ ps. Each (λ rank p. (part_in (hops_in p)).rank ≡ rank) ps.items) c.pairs_of.ensures.hops
    (λ ps same k p at. (open_ranks source s c.args.graph.now c.in_ok-hops.hops.items c.in_ok-hops.ensures k (hops_in p) (ap (λ l. slice_get l k) (sym same) ∙ entry_map hops_in ps.items k p at)).0)

pub returns-clause-sizes : goal.returns-clause-sizes
returns-clause-sizes g c =
    let s : Sharing = g.D.Distribution.sharing c.args.dist.now in
    let source : Hops = record { source = c.args.source } in
    ok_then c.pairs_of.result (λ ps. map hops_in ps.items ≡ c.in_ok-hops.hops.items) (λ ps. Each (λ rank p. (part_in (hops_in p)).ranks ≡ length ps.items) ps.items) c.pairs_of.ensures.hops
    (λ ps same k p at. (open_ranks source s c.args.graph.now c.in_ok-hops.hops.items c.in_ok-hops.ensures k (hops_in p) (ap (λ l. slice_get l k) (sym same) ∙ entry_map hops_in ps.items k p at)).1
    ∙ (ap length (sym same) ∙ length_of_map hops_in ps.items))
