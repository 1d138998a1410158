use Rattle.std.proofs.Common.{◌∙◌, List, length, get_or, ap, subst, sym}
use Rattle.pg_adj.specs.declared.rank_sets.RankSet.{RankSet}
use Rattle.pg_adj.specs.declared.shares.Share.{Share}
use Rattle.pg_dist.specs.Sharing.{Sharing, IsSharing}
use Rattle.pg_adj.specs.RankSets.{HaveRanksBelow}
use Rattle.pg_adj.proofs.SplitBySets.{share_of_sets, holders_of_sets}
use Rattle.pg_adj.proofs.splitting.parts_with.Goals as goal

pub joined-requires-clause-share : goal.joined-requires-clause-share
joined-requires-clause-share g c = λ r d l.
    let s : Sharing = g.D.Distribution.sharing c.args.dist.now in
    let shares : List Share = c.in_ok-shares.shares.items in
    share_of_sets s c.args.graph.now.edges c.args.rows.items c.deref.result.now c.in_ok-sets.sets.items c.deref-2.result.now r d.rows (get_or shares r d)
    c.deref.ensures.value c.deref-2.ensures.value l
    (record {
      count = c.in_ok-shares.ensures.own r d l;
      vertex = λ i m. c.in_ok-shares.ensures.vertex r i d l m;
      own = λ e. c.in_ok-shares.ensures.rows r d e l;
      ghosts = c.in_ok-shares.ensures.ghosts r d l;
    })
    (c.requires.row r d.rows l) c.in_ok-sets.ensures.sets

pub joined-requires-clause-holders : goal.joined-requires-clause-holders
joined-requires-clause-holders g c = λ r d l.
    let s : Sharing = g.D.Distribution.sharing c.args.dist.now in
    let laws : IsSharing s = g.met.D.Distribution.laws c.args.dist.now in
    let sets : List RankSet = c.in_ok-sets.sets.items in
    let seen : List RankSet = c.deref-2.result.now in
    let shares : List Share = c.in_ok-shares.shares.items in
    let group : HaveRanksBelow s.ranks seen = subst (λ (ss : List RankSet). HaveRanksBelow s.ranks ss) (sym c.deref-2.ensures.value) c.in_ok-sets.ensures.ranks in
    holders_of_sets s laws c.requires.few c.deref-3.result.now seen shares (c.deref-2.ensures.value ∙ sym c.deref-3.ensures.value)
    (ap length c.deref-2.ensures.value ∙ c.in_ok-sets.ensures.each) group c.in_ok-shares.ensures.count c.in_ok-shares.ensures.ghosts r l
    (get_or c.in_ok-holders.holders.items r d).bounds.items (get_or c.in_ok-holders.holders.items r d).holders.items (c.in_ok-holders.ensures.row r d l)
