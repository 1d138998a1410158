-- What rows, sets of ranks and shares say together is what the shares are joined by.
use Rattle.std.proofs.Common.{◌≡◌, ℕ, ◌+◌, ◌-◌, ◌<◌, ◌≤◌, List, length, get_or, map, All, sym, ap, subst, ◌∙◌, arith}
use Rattle.std.proofs.lemmas.List.{length-map, get_or-map}
use Rattle.pg_base.specs.declared.edges.Edge.{Edge}
use Rattle.pg_base.specs.Keyed.{items_of}
use Rattle.pg_adj.specs.declared.arcs.Ghost.{Ghost}
use Rattle.pg_adj.specs.declared.arcs.Holder.{Holder}
use Rattle.pg_adj.specs.declared.rank_sets.RankSet.{RankSet}
use Rattle.pg_adj.specs.declared.rows.ArcRows.{ArcRows}
use Rattle.pg_adj.specs.declared.shares.Share.{Share}
use Rattle.pg_dist.specs.Sharing.{Sharing, IsSharing}
use Rattle.pg_adj.specs.Division.{AreRows, arcs_at, ghost_of, leads_abroad}
use Rattle.pg_adj.specs.Holdings.{holdings}
use Rattle.pg_adj.specs.RankSets.{has, members, HaveRanksBelow, no_ranks, ranks_holding, held_up_to, holders_by}
use Rattle.pg_adj.specs.Shares.{IsShareOf, ghost_lists}
use Rattle.pg_adj.proofs.HeldBySets.{holders_are, held_is_abroad}
use Rattle.pg_adj.proofs.Sharings.{rows_same}
use Rattle.pg_adj.proofs.PartsOf.{first_share}
use Rattle.pg_adj.proofs.SharesOf.{IsOfRank, share_is}

-- the sets say of each row what its arcs lead to abroad, so the share has the ghosts of its arcs
pub share_of_sets : (s : Sharing) (edges : List Edge) (rows lent : List ArcRows) (sets seen : List RankSet) (r : ℕ) (x : ArcRows) (y : Share) → lent ≡ rows → seen ≡ sets → r < s.ranks
    → IsOfRank s rows seen r y → AreRows (λ i. arcs_at s edges (s.global r i)) (s.count r) (get_or rows r x).bounds.items (get_or rows r x).arcs.items
    → ((q k : ℕ) (d : ArcRows) (e : RankSet) → q < s.ranks → k < s.n → has (get_or sets k e) q ≡ leads_abroad q (get_or lent q d).arcs.items (k + 1)) → IsShareOf s edges r y
share_of_sets s edges rows lent sets seen r x y el es rank own arcs agree =
    share_is s edges rows seen r x y own arcs (held_is_abroad seen s.owner s.local s.n r (get_or rows r x).arcs.items
    (λ k e l. ap (λ (ss : List RankSet). has (get_or ss k e) r) es
    ∙ (agree r k x e rank l ∙ ap (λ (rs : List ArcRows). leads_abroad r (get_or rs r x).arcs.items (k + 1)) el)))

-- the shares' lists of ghosts are what the sets say that the ranks hold
lists_are_held : (s : Sharing) (sets : List RankSet) (shares : List Share) → length shares ≡ s.ranks
    → ((r : ℕ) (d : Share) → r < s.ranks → (get_or shares r d).ghosts.items ≡ map (ghost_of s.owner s.local) (held_up_to sets r s.n))
    → (r : ℕ) (d : List Ghost) → r < length (ghost_lists shares) → get_or (ghost_lists shares) r d ≡ map (ghost_of s.owner s.local) (held_up_to sets r s.n)
lists_are_held s sets shares count ghosts r d l =
    let l' : r < length shares = omega (arith, length-map shares (λ (x : Share). x.ghosts.items)) in
    let e : Share = first_share shares r l' in
    get_or-map (λ (x : Share). x.ghosts.items) shares r e d l' ∙ ghosts r e (omega arith)

-- so the holders by sets are those by the shares' ghosts
pub holders_of_sets : (s : Sharing) → IsSharing s → s.ranks ≤ 32 → (sets seen : List RankSet) (shares : List Share) → seen ≡ sets → length seen ≡ s.n → HaveRanksBelow s.ranks seen → length shares ≡ s.ranks
    → ((r : ℕ) (d : Share) → r < s.ranks → (get_or shares r d).ghosts.items ≡ map (ghost_of s.owner s.local) (held_up_to seen r s.n))
    → (r : ℕ) → r < s.ranks → (bounds : List ℕ) (items : List Holder) → AreRows (λ i. holders_by sets (s.global r i)) (s.count r) bounds items
    → AreRows (λ i. items_of (holdings 0 (ghost_lists shares)) (s.global r i)) (s.count r) bounds items
holders_of_sets s laws few sets seen shares es each group count ghosts r rank bounds items rows =
    let lists : List (List Ghost) = ghost_lists shares in
    let size : length lists ≡ s.ranks = length-map shares (λ (x : Share). x.ghosts.items) ∙ count in
    rows_same (λ i. holders_by seen (s.global r i)) (λ i. items_of (holdings 0 lists) (s.global r i)) (s.count r) bounds items
    (subst (λ (ss : List RankSet). AreRows (λ i. holders_by ss (s.global r i)) (s.count r) bounds items) (sym es) rows)
    (λ i l.
    let v : ℕ = s.global r i in
    let first = laws.global_first r i rank l in
    let last = laws.global_last r i rank l in
    let below : All (λ q. q < s.ranks) (members (ranks_holding seen v)) = group (v - 1) no_ranks (omega arith) in
    sym (holders_are seen s.owner s.local s.n lists (omega arith) (lists_are_held s seen shares count ghosts) v first last
    (subst (λ (m : ℕ). All (λ q. q < m) (members (ranks_holding seen v))) (sym size) below)))
