-- Ghosts and holders of one division mirror each other.
use Rattle.std.proofs.Common.{◌≡◌, ◌≢◌, ℕ, ◌<◌, List, Some, length, get_or, map, option_map, slice_get, AllPairs, Contains, sym, ap, subst, ◌∙◌, arith}
use Rattle.std.proofs.lemmas.Option.{slice_get_within, slice_get-get_or, slice_get-map, get_or_from_slice_get}
use Rattle.pg_base.specs.Graph.{Graph}
use Rattle.pg_base.specs.Keyed.{items_of}
use Rattle.pg_adj.specs.declared.arcs.Ghost.{Ghost}
use Rattle.pg_adj.specs.declared.arcs.Holder.{Holder}
use Rattle.pg_adj.specs.Portions.{Portion}
use Rattle.pg_adj.specs.Holdings.{holdings}
use Rattle.pg_dist.specs.Sharing.{Sharing, IsSharing}
use Rattle.pg_adj.specs.Division.{Divided, IsPartOf}
use Rattle.pg_adj.specs.Mirrored.{IsKept, IsHeld, GhostsMirrorHolders, holders_at}
use Rattle.pg_adj.proofs.MirrorLists.{Contains-at, same_index, slice_get-from_map}
use Rattle.pg_adj.proofs.MirrorHoldings.{holder_at, holder_from, holder_among, holders_apart}
use Rattle.pg_adj.proofs.MirrorGhosts.{IsGhostOf, ghost_from, ghosts_ascend, abroad}

abbrev ghost_lists : List Portion → List (List Ghost)
ghost_lists parts = map (λ p. p.ghosts) parts

module _ (parts : List Portion) (s : Sharing) (g : Graph) (laws : IsSharing s) (divided : Divided s g parts) where
  -- each part is the one of its rank
  rank_below : (r : ℕ) (p : Portion) → slice_get parts r ≡ Some p → r < s.ranks
  rank_below r p at = omega (arith, slice_get_within parts r p at, divided.count)

  part_at : (r : ℕ) (p : Portion) → slice_get parts r ≡ Some p → IsPartOf s g (ghost_lists parts) r p
  part_at r p at = subst (IsPartOf s g (ghost_lists parts) r) (get_or_from_slice_get parts r p p at) (divided.part r p (rank_below r p at))

  -- the vertex of a place
  vertex_is : (r i v : ℕ) (p : Portion) → slice_get parts r ≡ Some p → slice_get p.vertices i ≡ Some v → (i < s.count r) × (v ≡ s.global r i)
  vertex_is r i v p at own =
      let share = (part_at r p at).share in
      let below : i < s.count r = omega (arith, slice_get_within p.vertices i v own, share.count) in (
        below,
        sym (get_or_from_slice_get p.vertices i v 0 own) ∙ share.vertex i below,
      )

  ghost_is : (r slot : ℕ) (p : Portion) (x : Ghost) → slice_get parts r ≡ Some p → slice_get p.ghosts slot ≡ Some x → IsGhostOf s.owner s.local s.n r p.arcs x
  ghost_is r slot p x at held =
      let share = (part_at r p at).share in
      ghost_from s.owner s.local s.n r p.arcs x (subst (λ (xs : List Ghost). Contains xs x) share.ghost_list (Contains-at p.ghosts slot x held))

  -- the holders of a place are those of its vertex
  holders_are : (r i : ℕ) (p : Portion) → slice_get parts r ≡ Some p → i < length p.vertices → holders_at p i ≡ items_of (holdings 0 (ghost_lists parts)) (get_or p.vertices i 0)
  holders_are r i p at below = (part_at r p at).holders.row i below

  -- a ghost's home has its vertex, and knows its holder
  kept : (rank slot : ℕ) (p : Portion) (x : Ghost) → slice_get parts rank ≡ Some p → slice_get p.ghosts slot ≡ Some x → IsKept parts rank slot x
  kept rank slot p x at held =
      let is = ghost_is rank slot p x at held in
      let v : ℕ = x.vertex.0 in
      let r : ℕ = x.home.0 in
      let owned = laws.owner_is_rank v is.vertex.first is.vertex.last in
      let local = laws.local_below v is.vertex.first is.vertex.last in
      let home : Portion = get_or parts r p in
      let there : slice_get parts r ≡ Some home = slice_get-get_or parts r p (omega (arith, is.home, divided.count)) in
      let share = (part_at r home there).share in
      let below : x.place < s.count r = omega (arith, ap s.count is.home, is.place) in
      let inside : x.place < length home.vertices = omega (arith, share.count) in
      let global : s.global r x.place ≡ v =
      ap (λ (q : ℕ). s.global q x.place) is.home ∙ (ap (s.global (s.owner v)) is.place ∙ laws.global_of_local v is.vertex.first is.vertex.last) in
      let vertex : get_or home.vertices x.place 0 ≡ v = share.vertex x.place below ∙ global in
      let row : holders_at home x.place ≡ items_of (holdings 0 (ghost_lists parts)) v =
      holders_are r x.place home there inside ∙ ap (items_of (holdings 0 (ghost_lists parts))) vertex in
      let list : slice_get (ghost_lists parts) rank ≡ Some p.ghosts = slice_get-map (λ (q : Portion). q.ghosts) parts rank ∙ ap (option_map (λ (q : Portion). q.ghosts)) at in
      let holder : Contains (holders_at home x.place) (holder_at rank slot) =
      subst (λ (hs : List Holder). Contains hs (holder_at rank slot)) (sym row) (holder_among (ghost_lists parts) rank slot p.ghosts x list held) in
      record {
        home = home;
        there = there;
        vertex = slice_get-get_or home.vertices x.place 0 inside ∙ ap Some vertex;
        holder = holder;
      }

  -- a holder has the own vertex as a ghost
  held_by : (rank place : ℕ) (p : Portion) (h : Holder) → slice_get parts rank ≡ Some p → place < length p.vertices → Contains (holders_at p place) h → IsHeld parts rank p place h
  held_by rank place p h at inside among =
      let below = rank_below rank p at in
      let v : ℕ = get_or p.vertices place 0 in
      let here : slice_get p.vertices place ≡ Some v = slice_get-get_or p.vertices place 0 inside in
      let own = vertex_is rank place v p at here in
      let is = holder_from (ghost_lists parts) v h (subst (λ (hs : List Holder). Contains hs h) (holders_are rank place p at inside) among) in
      let part = slice_get-from_map (λ (q : Portion). q.ghosts) parts h.rank.0 is.ghosts is.there in
      let held : slice_get part.0.ghosts h.slot ≡ Some is.ghost_there =
      subst (λ (xs : List Ghost). slice_get xs h.slot ≡ Some is.ghost_there) (sym part.2) is.at in
      let remote = ghost_is h.rank.0 h.slot part.0 is.ghost_there part.1 held in
      let vertex : is.ghost_there.vertex.0 ≡ s.global rank place = is.vertex ∙ own.1 in
      record {
        holder = part.0;
        ghost_there = is.ghost_there;
        there = part.1;
        held = held;
        vertex = here ∙ ap Some (sym is.vertex);
        home = remote.home ∙ (ap s.owner vertex ∙ laws.owner_of_global rank place below own.0);
        at = remote.place ∙ (ap s.local vertex ∙ laws.local_of_global rank place below own.0);
      }

  foreign : (rank slot : ℕ) (p : Portion) (x : Ghost) → slice_get parts rank ≡ Some p → slice_get p.ghosts slot ≡ Some x → x.home.0 ≢ rank
  foreign rank slot p x at held same =
      let share = (part_at rank p at).share in
      let is = ghost_is rank slot p x at held in
      abroad s g.edges p.vertices p.bounds p.arcs rank x.vertex.0 share.row is.leads (sym is.home ∙ same)

  one_holder : (rank place : ℕ) (p : Portion) → slice_get parts rank ≡ Some p → place < length p.vertices → AllPairs (λ a b. a ≢ b) (holders_at p place)
  one_holder rank place p at inside =
      subst (λ (hs : List Holder). AllPairs (λ a b. a ≢ b) hs) (sym (holders_are rank place p at inside)) (holders_apart (ghost_lists parts) (get_or p.vertices place 0))

  one_slot : (rank k l : ℕ) (p : Portion) (x y : Ghost) → slice_get parts rank ≡ Some p → slice_get p.ghosts k ≡ Some x → slice_get p.ghosts l ≡ Some y → x.vertex.0 ≡ y.vertex.0 → k ≡ l
  one_slot rank k l p x y at here there same =
      let share = (part_at rank p at).share in
      same_index (λ a b. a.vertex.0 < b.vertex.0) p.ghosts
      (subst (λ (xs : List Ghost). AllPairs (λ a b. a.vertex.0 < b.vertex.0) xs) (sym share.ghost_list) (ghosts_ascend s.owner s.local s.n rank p.arcs))
      k l x y here there (λ less. omega arith) (λ more. omega arith)

  one_place : (rank k l v : ℕ) (p : Portion) → slice_get parts rank ≡ Some p → slice_get p.vertices k ≡ Some v → slice_get p.vertices l ≡ Some v → k ≡ l
  one_place rank k l v p at here there =
      let first = vertex_is rank k v p at here in
      let second = vertex_is rank l v p at there in
      let below = rank_below rank p at in
      sym (laws.local_of_global rank k below first.0) ∙ (ap s.local (sym first.1 ∙ second.1) ∙ laws.local_of_global rank l below second.0)

  one_owner : (q r k l v : ℕ) (a b : Portion) → slice_get parts q ≡ Some a → slice_get parts r ≡ Some b → slice_get a.vertices k ≡ Some v → slice_get b.vertices l ≡ Some v → q ≡ r
  one_owner q r k l v a b at at' here there =
      let first = vertex_is q k v a at here in
      let second = vertex_is r l v b at' there in
      sym (laws.owner_of_global q k (rank_below q a at) first.0)
      ∙ (ap s.owner (sym first.1 ∙ second.1) ∙ laws.owner_of_global r l (rank_below r b at') second.0)

pub ghosts_mirror_holders : GhostsMirrorHolders
ghosts_mirror_holders s g parts laws divided = record {
  kept = kept parts s g laws divided;
  held = held_by parts s g laws divided;
  foreign = foreign parts s g laws divided;
  one_holder = one_holder parts s g laws divided;
  one_slot = one_slot parts s g laws divided;
  one_place = one_place parts s g laws divided;
  one_owner = one_owner parts s g laws divided;
}
