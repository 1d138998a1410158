-- Every part of a division meets what is so of every portion.
use Rattle.std.proofs.Common.{◌≡◌, ◌≢◌, ℕ, ◌+◌, ◌<◌, true, eqb, not, ◌&&◌, List, [], ◌∷◌, ◌++◌, length, get_or, map, filter, All, sym, ap, subst, refl, ◌∙◌, inl, inr, arith, suc}
use Rattle.std.proofs.lemmas.Bool.{cases_eq, eq-eqb, ne_eqb}
use Rattle.std.proofs.lemmas.List.{map_push, length-map, get_or_default, get_or-map}
use Rattle.std.proofs.lemmas.List.Folds.{Any-from_list_any}
use Rattle.std.proofs.lemmas.List.Elements.{All-nil, All-cons, All-append, All-map, All-weaker, All-filter, All-head, All-tail, filter_passes}
use Rattle.pg_base.specs.declared.edges.Edge.{Edge}
use Rattle.pg_base.specs.Graph.{Graph, IsEdge, IsGraph}
use Rattle.pg_adj.specs.declared.arcs.Arc.{Arc}
use Rattle.pg_adj.specs.declared.arcs.Ghost.{Ghost}
use Rattle.pg_adj.specs.declared.arcs.Holder.{Holder}
use Rattle.pg_adj.specs.declared.holders.HolderRows.{HolderRows}
use Rattle.pg_adj.specs.declared.shares.Share.{Share}
use Rattle.pg_adj.specs.Portions.{Portion, IsVertex, IsForeign, IsOwnArc, IsPortion}
use Rattle.pg_base.specs.Keyed.{items_of}
use Rattle.pg_adj.specs.Holdings.{holdings, holdings_of}
use Rattle.pg_dist.specs.Sharing.{Sharing, IsSharing}
use Rattle.pg_adj.specs.Division.{AreRows, IsShare, IsPartOf, arc_at, arcs_at, other_end, no_edge, leads_abroad, vertices_to, ghost_of, ghosts_of, undivided}
use Rattle.std.specs.List.{AllPairs}
use Rattle.pg_adj.proofs.Directed.{directed, ascending}
use Rattle.pg_adj.proofs.Ascending.{vertices_to-within, ghosts_ascend, holders_ascend}
use Rattle.pg_adj.specs.Shares.{ghost_lists, IsShareOf}
use Rattle.pg_base.proofs.KeyedRows.{items_of-append}
use Rattle.pg_adj.proofs.SideBySide.{StandsAt}
use Rattle.pg_adj.proofs.Sharings.{count-le, own_within, all_from_rows, end_within, all_arcs_at, homes_known, rows_same}

-- What is so of a ghost of the rank r.
pub record IsGhostOf (s : Sharing) (r : ℕ) (g : Ghost) : Type 0 where
  pub vertex : IsVertex s.n g.vertex.0
  pub abroad : s.owner g.vertex.0 ≢ r
  pub home : g.home.0 ≡ s.owner g.vertex.0

test_says : (a : Arc) (r v : ℕ) → (eqb a.to.0 v && not (eqb a.home.0 r)) ≡ true → (a.to.0 ≡ v) × (a.home.0 ≢ r)
test_says a r v = elim (cases_eq a.to.0 v) as (λ w. (eqb a.to.0 v && not (eqb a.home.0 r)) ≡ true → (a.to.0 ≡ v) × (a.home.0 ≢ r)) [
  | inl same ↦ elim (cases_eq a.home.0 r) as (λ w. (eqb a.to.0 v && not (eqb a.home.0 r)) ≡ true → (a.to.0 ≡ v) × (a.home.0 ≢ r)) [
    | inl home ↦ rw (eq-eqb a.to.0 v same, eq-eqb a.home.0 r home) (λ h. cc)
    | inr other ↦ λ h. (same, other)
  ]
  | inr other ↦ rw (ne_eqb a.to.0 v other) (λ h. cc)
]

ghost_ok : (s : Sharing) (r : ℕ) (arcs : List Arc) (v : ℕ) → All (λ a. a.home.0 ≡ s.owner a.to.0) arcs → IsVertex s.n v → leads_abroad r arcs v ≡ true → IsGhostOf s r (ghost_of s.owner s.local v)
ghost_ok s r arcs v homes is leads =
    let found = Any-from_list_any (λ (a : Arc). eqb a.to.0 v && not (eqb a.home.0 r)) arcs leads in
    let a : Arc = found.1 in
    let says = test_says a r v found.4 in
    let home : a.home.0 ≡ s.owner a.to.0 = subst (λ (b : Arc). b.home.0 ≡ s.owner b.to.0) found.3 (homes found.0 a found.2) in
    record { vertex = is; abroad = λ e. says.1 (home ∙ (ap s.owner says.0 ∙ e)); home = refl }

pub ghosts_ok : (s : Sharing) (r : ℕ) (arcs : List Arc) → All (λ a. a.home.0 ≡ s.owner a.to.0) arcs → All (IsGhostOf s r) (ghosts_of s.owner s.local s.n r arcs)
ghosts_ok s r arcs homes =
    let vs : List ℕ = filter (leads_abroad r arcs) (vertices_to s.n) in
    let within = All-filter (leads_abroad r arcs) (IsVertex s.n) (vertices_to s.n) (vertices_to-within s.n) in
    let passes = filter_passes (leads_abroad r arcs) (vertices_to s.n) in
    All-map (IsGhostOf s r) (ghost_of s.owner s.local) vs (λ k d l. ghost_ok s r arcs (get_or vs k d) homes (within k d l) (passes k d l))

-- the ghosts of a share
pub share_ghosts : (s : Sharing) (edges : List Edge) (r : ℕ) (vertices bounds : List ℕ) (arcs : List Arc) (ghosts : List Ghost) → IsShare s edges r vertices bounds arcs ghosts
    → All (IsGhostOf s r) ghosts
share_ghosts s edges r vertices bounds arcs ghosts h =
    subst (λ (gs : List Ghost). All (IsGhostOf s r) gs) (sym h.ghost_list) (ghosts_ok s r arcs (homes_known s edges vertices bounds arcs h.row))

-- the ghosts of all shares
pub record AreSharesOf (s : Sharing) (edges : List Edge) (shares : List Share) : Type 0 where
  pub each : length shares ≡ s.ranks
  pub share : (r : ℕ) (d : Share) → r < s.ranks → IsShareOf s edges r (get_or shares r d)

list_ghosts : (s : Sharing) (edges : List Edge) (shares : List Share) (r : ℕ) (d : List Ghost) (e : Share) → AreSharesOf s edges shares → r < length shares
    → All (IsGhostOf s r) (get_or (ghost_lists shares) r d)
list_ghosts s edges shares r d e h l =
    let is : IsShareOf s edges r (get_or shares r e) = h.share r e (omega (arith, h.each)) in
    let x : Share = get_or shares r e in
    subst (λ (gs : List Ghost). All (IsGhostOf s r) gs) (sym (get_or-map (λ (x : Share). x.ghosts.items) shares r e d l))
    (share_ghosts s edges r x.vertices.items x.rows.bounds.items x.rows.arcs.items x.ghosts.items is)

list_ascends : (s : Sharing) (edges : List Edge) (shares : List Share) (r : ℕ) (d : List Ghost) (e : Share) → AreSharesOf s edges shares → r < length shares
    → AllPairs (λ g h. g.vertex.0 < h.vertex.0) (get_or (ghost_lists shares) r d)
list_ascends s edges shares r d e h l =
    let is : IsShareOf s edges r (get_or shares r e) = h.share r e (omega (arith, h.each)) in
    let x : Share = get_or shares r e in
    subst (λ (gs : List Ghost). AllPairs (λ g h. g.vertex.0 < h.vertex.0) gs) (sym (get_or-map (λ (x : Share). x.ghosts.items) shares r e d l ∙ is.ghost_list))
    (ghosts_ascend s.owner s.local s.n r x.rows.arcs.items)

pub first_share : (shares : List Share) (r : ℕ) → r < length shares → Share
first_share [] r l = absurd (omega arith)
first_share (x ∷ shares) r l = x

-- a holder of v is a rank that doesn't own it
holders_of : (s : Sharing) (rank slot : ℕ) (ghosts : List Ghost) (v : ℕ) → All (IsGhostOf s rank) ghosts → All (λ h. (h.rank.0 ≡ rank) × (s.owner v ≢ rank)) (items_of (holdings_of rank slot ghosts) v)
holders_of s rank slot [] v h = All-nil (λ (x : Holder). (x.rank.0 ≡ rank) × (s.owner v ≢ rank))
holders_of s rank slot (g ∷ ghosts) v h =
    let P : Holder → Type 0 = λ x. (x.rank.0 ≡ rank) × (s.owner v ≢ rank) in
    let own = All-head (IsGhostOf s rank) g ghosts h in
    let rest = holders_of s rank (slot + 1) ghosts v (All-tail (IsGhostOf s rank) g ghosts h) in
    elim (cases_eq g.vertex.0 v) [
      | inl same ↦ rw (eq-eqb g.vertex.0 v same) (All-cons P (record { rank = record { 0 = rank }; slot = slot }) (items_of (holdings_of rank (slot + 1) ghosts) v)
          (refl, λ e. own.abroad (ap s.owner same ∙ e)) rest)
      | inr other ↦ rw (ne_eqb g.vertex.0 v other) rest
    ]

holders_all : (s : Sharing) (rank : ℕ) (lists : List (List Ghost)) (v : ℕ) → ((k : ℕ) (d : List Ghost) → k < length lists → All (IsGhostOf s (rank + k)) (get_or lists k d))
    → All (λ h. (h.rank.0 < rank + length lists) × (h.rank.0 ≢ s.owner v)) (items_of (holdings rank lists) v)
holders_all s rank [] v h = All-nil (λ (x : Holder). (x.rank.0 < rank + 0) × (x.rank.0 ≢ s.owner v))
holders_all s rank (gs ∷ lists) v h =
    let P : Holder → Type 0 = λ x. (x.rank.0 < rank + length (gs ∷ lists)) × (x.rank.0 ≢ s.owner v) in
    let zero_more : rank + 0 ≡ rank = omega arith in
    let own : All (IsGhostOf s rank) gs = subst (λ (r : ℕ). All (IsGhostOf s r) gs) zero_more (h 0 [] (omega arith)) in
    let first : All P (items_of (holdings_of rank 0 gs) v) = All-weaker (λ x. (x.rank.0 ≡ rank) × (s.owner v ≢ rank)) P
    (λ x f. (omega (arith, f.0), λ e. f.1 (sym e ∙ f.0))) (items_of (holdings_of rank 0 gs) v) (holders_of s rank 0 gs v own) in
    let rest : All P (items_of (holdings (rank + 1) lists) v) = All-weaker (λ x. (x.rank.0 < rank + 1 + length lists) × (x.rank.0 ≢ s.owner v)) P
    (λ x f. (omega (arith, f.0), f.1)) (items_of (holdings (rank + 1) lists) v)
    (holders_all s (rank + 1) lists v (λ k d l. let next : rank + suc k ≡ rank + 1 + k = omega arith in
    subst (λ (r : ℕ). All (IsGhostOf s r) (get_or lists k d)) next (h (suc k) d (omega arith)))) in
    subst (λ (xs : List Holder). All P xs) (sym (items_of-append (holdings_of rank 0 gs) (holdings (rank + 1) lists) v))
    (All-append P (items_of (holdings_of rank 0 gs) v) (items_of (holdings (rank + 1) lists) v) first rest)

arc_ok : (s : Sharing) → IsSharing s → (g : Graph) → IsGraph g → g.n ≡ s.n → (r : ℕ) → r < s.ranks → (p : Portion) → p.rank ≡ r → p.ranks ≡ s.ranks → p.n ≡ g.n
    → IsShare s g.edges r p.vertices p.bounds p.arcs p.ghosts → (v k : ℕ) → k < length g.edges → IsOwnArc p (arc_at s.owner s.local g.edges v k)
arc_ok s laws g graph same r rank p is_rank is_ranks is_n share v k l =
    let e : Edge = get_or g.edges k no_edge in
    let edge = graph.within k no_edge l in
    let to : ℕ = other_end e v in
    let end : IsVertex s.n to = end_within s.n e v (subst (λ (n : ℕ). IsEdge n e) same edge) in
    let owner = laws.owner_is_rank to end.first end.last in
    let local = laws.local_below to end.first end.last in
    let back = laws.global_of_local to end.first end.last in
    record {
      first = end.first;
      last = omega (arith, end.last);
      home = omega (arith, owner);
      place = λ h.
          let own : s.count (s.owner to) ≡ s.count r = ap s.count (h ∙ is_rank) in
          omega (arith, local, share.count);
      holds = λ h.
          let at : s.owner to ≡ r = h ∙ is_rank in
          let own : s.count (s.owner to) ≡ s.count r = ap s.count at in
          share.vertex (s.local to) (omega (arith, local)) ∙ (ap (λ (i : ℕ). s.global i (s.local to)) (sym at) ∙ back);
      weight = graph.positive k no_edge l;
      edge = omega (arith, graph.size);
    }

-- a rank's vertices ascend
own_ascend : (s : Sharing) → IsSharing s → (r : ℕ) (vertices : List ℕ) → r < s.ranks → length vertices ≡ s.count r
    → ((i : ℕ) → i < s.count r → get_or vertices i 0 ≡ s.global r i) → AllPairs (λ v w. v < w) vertices
own_ascend s laws r vertices rank count each = λ i j d less l.
    let l' : i < length vertices = omega arith in
    let first : get_or vertices i d ≡ s.global r i = get_or_default vertices i d 0 l' ∙ each i (omega arith) in
    let second : get_or vertices j d ≡ s.global r j = get_or_default vertices j d 0 l ∙ each j (omega arith) in
    omega (arith, laws.global_ascends r i j rank less (omega arith))

-- no vertex of another rank is one of them
own_apart : (s : Sharing) → IsSharing s → (r : ℕ) (vertices : List ℕ) → r < s.ranks → length vertices ≡ s.count r
    → ((i : ℕ) → i < s.count r → get_or vertices i 0 ≡ s.global r i) → (v : ℕ) → s.owner v ≢ r → All (λ w. w ≢ v) vertices
own_apart s laws r vertices rank count each v abroad = λ i d l e.
    let l' : i < s.count r = omega arith in
    let same : get_or vertices i d ≡ s.global r i = get_or_default vertices i d 0 l ∙ each i l' in
    abroad (ap s.owner (sym e ∙ same) ∙ laws.owner_of_global r i rank l')

pub portion_ok : (s : Sharing) → IsSharing s → (g : Graph) → IsGraph g → g.n ≡ s.n → (shares : List Share) → AreSharesOf s g.edges shares → (r : ℕ) → r < s.ranks
    → (p : Portion) → IsPartOf s g (ghost_lists shares) r p → IsPortion p
portion_ok s laws g graph same shares are r rank p h =
    let size = length-map shares (λ (x : Share). x.ghosts.items) in
    let ghosts = share_ghosts s g.edges r p.vertices p.bounds p.arcs p.ghosts h.share in
    let few = count-le s laws r (length p.vertices) rank h.share.count in
    let within = own_within s laws r p.vertices rank h.share.count h.share.vertex in
    record {
      rank = omega (arith, h.rank, h.ranks);
      n = omega (arith, h.n, graph.vertices);
      count = omega (arith, h.n);
      vertices = All-weaker (IsVertex s.n) (IsVertex p.n) (λ v f. record { first = f.first; last = omega (arith, f.last, h.n) }) p.vertices within;
      vertices_ascend = own_ascend s laws r p.vertices rank h.share.count h.share.vertex;
      bounds = h.share.row.bounded;
      arcs = all_from_rows (IsOwnArc p) (λ i. arcs_at s g.edges (get_or p.vertices i 0)) (length p.vertices) p.bounds p.arcs h.share.row
          (λ i l. all_arcs_at (IsOwnArc p) s g.edges (get_or p.vertices i 0) (arc_ok s laws g graph same r rank p h.rank h.ranks h.n h.share (get_or p.vertices i 0)));
      ascend = h.ascend;
      ghosts_ascend = subst (λ (gs : List Ghost). AllPairs (λ g h. g.vertex.0 < h.vertex.0) gs) (sym h.share.ghost_list) (ghosts_ascend s.owner s.local s.n r p.arcs);
      apart = All-weaker (IsGhostOf s r) (λ x. All (λ v. v ≢ x.vertex.0) p.vertices) (λ x f. own_apart s laws r p.vertices rank h.share.count h.share.vertex x.vertex.0 f.abroad) p.ghosts ghosts;
      holders_ascend = λ i l. subst (λ (hs : List Holder). AllPairs (λ a b. a.rank.0 < b.rank.0) hs) (sym (h.holders.row i l))
          (holders_ascend 0 (ghost_lists shares) (get_or p.vertices i 0)
          (λ k d m. let m' : k < length shares = omega arith in list_ascends s g.edges shares k d (first_share shares k m') are m'));
      ghosts = All-weaker (IsGhostOf s r) (λ x. IsForeign p x.home.0) (λ x f.
          let owner = laws.owner_is_rank x.vertex.0 f.vertex.first f.vertex.last in
          record { below = omega (arith, f.home, h.ranks); other = λ e. f.abroad (sym f.home ∙ (e ∙ h.rank)) }) p.ghosts ghosts;
      ghost_vertices = All-weaker (IsGhostOf s r) (λ x. IsVertex p.n x.vertex.0) (λ x f. record { first = f.vertex.first; last = omega (arith, f.vertex.last, h.n) }) p.ghosts ghosts;
      holder_bounds = h.holders.bounded;
      holders = all_from_rows (λ x. IsForeign p x.rank.0) (λ i. items_of (holdings 0 (ghost_lists shares)) (get_or p.vertices i 0)) (length p.vertices) p.holder_bounds p.holders h.holders
          (λ i l.
          let v : ℕ = get_or p.vertices i 0 in
          let l' : i < s.count r = omega (arith, h.share.count) in
          let owned : s.owner v ≡ r = ap s.owner (h.share.vertex i l') ∙ laws.owner_of_global r i rank l' in
          All-weaker (λ x. (x.rank.0 < 0 + length (ghost_lists shares)) × (x.rank.0 ≢ s.owner v)) (λ x. IsForeign p x.rank.0)
          (λ x f. record { below = omega (arith, f.0, h.ranks, are.each); other = λ e. f.1 (e ∙ (h.rank ∙ sym owned)) })
          (items_of (holdings 0 (ghost_lists shares)) v)
          (holders_all s 0 (ghost_lists shares) v (λ k d m. let m' : k < length shares = omega arith in
          let zero_and : k ≡ 0 + k = omega arith in
          subst (λ (q : ℕ). All (IsGhostOf s q) (get_or (ghost_lists shares) k d)) zero_and (list_ghosts s g.edges shares k d (first_share shares k m') are m'))));
    }

-- A share with the holders of its vertices.
abbrev pub portion_of : ℕ → ℕ → ℕ → Share → HolderRows → Portion
portion_of rank ranks n share rows = record {
  rank = rank;
  ranks = ranks;
  n = n;
  vertices = share.vertices.items;
  bounds = share.rows.bounds.items;
  arcs = share.rows.arcs.items;
  ghosts = share.ghosts.items;
  holder_bounds = rows.bounds.items;
  holders = rows.holders.items;
}

-- What is said of the holders of the rank r where the shares are these.
abbrev pub HoldersAre : Sharing → List Share → ℕ → HolderRows → Type 0
HoldersAre s shares r rows = AreRows (λ i. items_of (holdings 0 (ghost_lists shares)) (s.global r i)) (s.count r) rows.bounds.items rows.holders.items

-- a rank's share with the holders of its vertices is its part
pub part_is : (s : Sharing) (g : Graph) → IsGraph g → (shares : List Share) → AreSharesOf s g.edges shares
    → (rows : List HolderRows) → ((r : ℕ) (d : HolderRows) → r < s.ranks → HoldersAre s shares r (get_or rows r d))
    → (r rank ranks n : ℕ) → rank ≡ r → ranks ≡ s.ranks → n ≡ g.n → (x : Share) (y : HolderRows) → StandsAt shares r x → StandsAt rows r y
    → IsPartOf s g (ghost_lists shares) r (portion_of rank ranks n x y)
part_is s g graph shares are rows held r rank ranks n er es en x y at at_rows =
    let below : r < s.ranks = omega (arith, at.below, are.each) in
    let share : IsShareOf s g.edges r x = subst (λ (z : Share). IsShareOf s g.edges r z) at.at (are.share r x below) in
    let vertices : List ℕ = x.vertices.items in
    let holders : ℕ → List Holder = λ v. items_of (holdings 0 (ghost_lists shares)) v in
    record {
      rank = er;
      ranks = es;
      n = en;
      share = share;
      arcs = λ i l. ap (λ xs. map (undivided (get_or vertices i 0)) xs) (share.row.row i l) ∙ directed s g graph (get_or vertices i 0);
      ascend = λ i l. subst (λ xs. AllPairs (λ a b. a.to.0 < b.to.0) xs) (sym (share.row.row i l)) (ascending s g graph (get_or vertices i 0));
      holders = subst (λ (count : ℕ). AreRows (λ i. holders (get_or vertices i 0)) count y.bounds.items y.holders.items) (sym share.count)
          (rows_same (λ i. holders (s.global r i)) (λ i. holders (get_or vertices i 0)) (s.count r) y.bounds.items y.holders.items
          (subst (HoldersAre s shares r) at_rows.at (held r y below)) (λ i l. ap holders (sym (share.vertex i l))));
    }

-- the parts so far have the ghosts of the shares so far
pub lists_more : (parts parts' : List Portion) (p : Portion) (yielded : List (Share × HolderRows)) (x : Share) (y : HolderRows) → parts' ≡ parts ++ p ∷ []
    → map (λ q. q.ghosts) parts ≡ ghost_lists (map (λ q. q.0) yielded) → p.ghosts ≡ x.ghosts.items → map (λ q. q.ghosts) parts' ≡ ghost_lists (map (λ q. q.0) (yielded ++ (x, y) ∷ []))
lists_more parts parts' p yielded x y pushed so_far same =
    ap (λ (qs : List Portion). map (λ q. q.ghosts) qs) pushed ∙ (map_push (λ (q : Portion). q.ghosts) parts p
    ∙ (ap (λ (gs : List (List Ghost)). gs ++ p.ghosts ∷ []) so_far ∙ (ap (λ (g : List Ghost). ghost_lists (map (λ q. q.0) yielded) ++ g ∷ []) same
    ∙ sym (ap ghost_lists (map_push (λ (q : Share × HolderRows). q.0) yielded (x, y)) ∙ map_push (λ (z : Share). z.ghosts.items) (map (λ q. q.0) yielded) x))))
