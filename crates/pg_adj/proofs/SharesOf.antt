-- A rank's vertices, rows and ghosts are its share.
use Rattle.std.proofs.Common.{◌≡◌, ℕ, ◌<◌, List, length, get_or, map, sym, ap, subst, ◌∙◌}
use Rattle.std.proofs.lemmas.List.{get_or_default}
use Rattle.pg_base.specs.declared.edges.Edge.{Edge}
use Rattle.pg_adj.specs.declared.ghosts.GhostList.{GhostList}
use Rattle.pg_adj.specs.declared.rows.ArcRows.{ArcRows}
use Rattle.pg_adj.specs.declared.rank_sets.RankSet.{RankSet}
use Rattle.pg_adj.specs.declared.shares.Share.{Share}
use Rattle.pg_dist.specs.Sharing.{Sharing}
use Rattle.pg_adj.specs.Division.{AreRows, arcs_at, ghost_of, ghosts_of}
use Rattle.pg_adj.specs.RankSets.{held_up_to}
use Rattle.pg_adj.specs.Shares.{IsShareOf}
use Rattle.pg_adj.proofs.Sharings.{rows_same}
use Rattle.pg_adj.proofs.SideBySide.{StandsAt}

-- The vertices of the rank r, these rows of it, and what the sets say that it holds.
pub record IsOfRank (s : Sharing) (rows : List ArcRows) (sets : List RankSet) (r : ℕ) (share : Share) : Type 0 where
  pub count : length share.vertices.items ≡ s.count r
  pub vertex : (i : ℕ) → i < s.count r → get_or share.vertices.items i 0 ≡ s.global r i
  pub own : (e : ArcRows) → share.rows ≡ get_or rows r e
  pub ghosts : share.ghosts.items ≡ map (ghost_of s.owner s.local) (held_up_to sets r s.n)

pub of_rank : (s : Sharing) (rows : List ArcRows) (sets : List RankSet) (r q : ℕ) (x : ArcRows) (y : Share) → q ≡ r → StandsAt rows r x → length y.vertices.items ≡ s.count q
    → ((i : ℕ) → i < s.count q → get_or y.vertices.items i 0 ≡ s.global q i) → y.rows ≡ x → y.ghosts.items ≡ map (ghost_of s.owner s.local) (held_up_to sets r s.n) → IsOfRank s rows sets r y
of_rank s rows sets r q x y index next count vertex own ghosts = record {
  count = count ∙ ap s.count index;
  vertex = subst (λ (k : ℕ). (i : ℕ) → i < s.count k → get_or y.vertices.items i 0 ≡ s.global k i) index vertex;
  own = λ e. own ∙ (sym next.at ∙ get_or_default rows r x e next.below);
  ghosts = ghosts;
}

pub ghosts_of_list : (s : Sharing) (sets : List RankSet) (lists lists' : List GhostList) (r : ℕ) (list : GhostList) → lists ≡ lists' → StandsAt lists r list
    → (get_or lists' r list).ghosts.items ≡ map (ghost_of s.owner s.local) (held_up_to sets r s.n) → list.ghosts.items ≡ map (ghost_of s.owner s.local) (held_up_to sets r s.n)
ghosts_of_list s sets lists lists' r list same next held =
    ap (λ (z : GhostList). z.ghosts.items) (sym next.at) ∙ (ap (λ (zs : List GhostList). (get_or zs r list).ghosts.items) same ∙ held)

pub share_is : (s : Sharing) (edges : List Edge) (rows : List ArcRows) (sets : List RankSet) (r : ℕ) (x : ArcRows) (y : Share) → IsOfRank s rows sets r y
    → AreRows (λ i. arcs_at s edges (s.global r i)) (s.count r) (get_or rows r x).bounds.items (get_or rows r x).arcs.items
    → map (ghost_of s.owner s.local) (held_up_to sets r s.n) ≡ ghosts_of s.owner s.local s.n r (get_or rows r x).arcs.items → IsShareOf s edges r y
share_is s edges rows sets r x y h own abroad =
    let same : get_or rows r x ≡ y.rows = sym (h.own x) in
    record {
      count = h.count;
      vertex = h.vertex;
      row = subst (λ (n : ℕ). AreRows (λ i. arcs_at s edges (get_or y.vertices.items i 0)) n y.rows.bounds.items y.rows.arcs.items) (sym h.count)
          (rows_same (λ i. arcs_at s edges (s.global r i)) (λ i. arcs_at s edges (get_or y.vertices.items i 0)) (s.count r) y.rows.bounds.items y.rows.arcs.items
          (subst (λ (z : ArcRows). AreRows (λ i. arcs_at s edges (s.global r i)) (s.count r) z.bounds.items z.arcs.items) same own)
          (λ i l. ap (λ (v : ℕ). arcs_at s edges v) (sym (h.vertex i l))));
      ghost_list = h.ghosts ∙ (abroad ∙ ap (λ (z : ArcRows). ghosts_of s.owner s.local s.n r z.arcs.items) same);
    }
