-- A phase whose hooks all ranks have is sound, and all ranks have the same labels after it.
use Rattle.std.proofs.Common.{◌≡◌, ◌≢◌, ◌⊎◌, ◌↔◌, ℕ, zero, suc, ◌+◌, ◌*◌, ◌/◌, ◌-◌, ◌<◌, ◌≤◌, List, ◌++◌, length, map, get_or, refl, sym, ◌∙◌, ap, subst, inl, inr, ⊎_elim, arith, Contains}
use Rattle.std.specs.Prelude.{nat_lt, ◌==◌, ◌&&◌}
use Rattle.std.proofs.lemmas.Bool.{cases_eq, cond_both}
use Rattle.std.proofs.lemmas.List.Elements.{All-contains, Contains-get_or, Contains-append_left, Contains-append_right, Contains-append_cases}
use Rattle.pg_base.specs.declared.edges.Edge.{Edge}
use Rattle.pg_base.specs.Graph.{Graph}
use Rattle.pg_forest.specs.Phases.{point, steps, IsGrown}
use Rattle.pg_forest.proofs.Pointers.{rests, phases_grow}
use Rattle.pg_group.specs.declared.messages.Body.{Body}
use Rattle.pg_group.specs.Ranked.{list_at}
use Rattle.pg_group.specs.Rounds.{items_of_round}
use Rattle.pg_boruvka.specs.declared.messages.Hook.{Hook}
use Rattle.pg_boruvka.specs.declared.messages.Message.{Message}
use Rattle.pg_adj.specs.Portions.{IsVertex}
use Rattle.pg_boruvka.specs.Parts.{Part, edge_at}
use Rattle.pg_boruvka.specs.Winners.{own_key, winner, items_in, IsPieceOf}
use Rattle.pg_boruvka.specs.Hooks.{hooks_of, hooked_to, label_in, phase_hooks, IsInRange, IsSound}
use Rattle.pg_boruvka.specs.LocalDense.{State, IsPhase, IsChosen}
use Rattle.pg_boruvka.proofs.Items.{member_of_map, mapped_member}
use Rattle.pg_boruvka.proofs.Pieces.{piece_within}
use Rattle.pg_boruvka.proofs.OwnHooks.{IsHooked, IsUnhooked, hooked_cases}
use Rattle.pg_boruvka.proofs.Runs.{Kept}
use Rattle.pg_boruvka.proofs.Reducing.{blocks, first_at, count_at, received, up_sent, down_sent}
use Rattle.pg_boruvka.proofs.Hooking.{up_to, length-up_to, hooks_at, hook, hook_same, win_edge, Told, message_told, hook_told, hook_everywhere, told_same, told_edge, told_moves, told_is_within, are_hooks}

-- The keys of a piece are of labels that the pieces are of.
piece_in_range : (part : Part) (key : ℕ → ℕ) (first count : ℕ) (m : Message) → 1 ≤ first → ((i : ℕ) → i < count → first + i ≤ part.n) → IsPieceOf key first count m → IsInRange part m
piece_in_range part key first count m low high is =
    subst (IsInRange part) (sym is.is) (λ k below used.
    let base : ℕ = first + is.offset / 8 * 8 in
    let past : base + k < first + count = piece_within key (first + count) base k used in
    let at : first + (base + k - first) ≡ base + k = omega (arith, past) in
    record { first = omega (arith, low); last = subst (λ (x : ℕ). x ≤ part.n) at (high (base + k - first) (omega (arith, past))) })

module _ (far : ℕ) (g : Graph) (ranks : ℕ) (parts : ℕ → Part) (states : ℕ → State) (handled promised : ℕ → List (List (Body Message))) (kept : Kept far g ranks parts states handled promised) (pos : 0 < ranks)
    (p : ℕ) (label : ℕ → ℕ) (same : (r : ℕ) → r < ranks → label_in far (parts r) (handled r) p ≡ label)
    (phases : (r : ℕ) → r < ranks → IsPhase far (parts r) (handled r) (promised r) (states r) p) (late : 3 * p + 2 ≤ kept.last)
    (inside : (v : ℕ) → IsVertex g.n v → IsVertex g.n (label v)) where
  soon : 3 * p + 1 ≤ kept.last
  soon = omega arith

  abbrev pub hooks : ℕ → List Hook
  hooks r = hooks_at far g ranks parts states handled promised kept pos p label same phases late inside r

  abbrev pub to : ℕ → ℕ
  to l = hook far g ranks parts states handled promised kept pos p label same phases late inside l

  abbrev edge_by : ℕ → Edge
  edge_by l = win_edge far g ranks parts states handled promised kept pos p label same phases late inside l

  abbrev IsTold : Hook → Type 0
  IsTold h = Told far g ranks parts states handled promised kept pos p label same phases late inside h

  told_at : (r : ℕ) (h : Hook) → r < ranks → Contains (hooks r) h → IsTold h
  told_at r h hr c = hook_told far g ranks parts states handled promised kept pos p label same phases late inside r h hr c

  everywhere : (r s : ℕ) (h : Hook) → r < ranks → s < ranks → Contains (hooks r) h → Contains (hooks s) h
  everywhere r s h hr hs c = hook_everywhere far g ranks parts states handled promised kept pos p label same phases late inside r s h hr hs c

  -- A rank's block of labels lies among the vertices.
  block_within : (r s i : ℕ) → r < ranks → s < ranks → i < count_at far g ranks parts states handled promised kept s
      → first_at far g ranks parts states handled promised kept s + i ≤ (parts r).n
  block_within r s i hr hs below =
      omega (arith, (blocks far g ranks parts states handled promised kept pos).global_last s i hs below, kept.divided.vertices r hr)

  up_in_range : (r : ℕ) (m : Message) → r < ranks → Contains (items_in (3 * p) (handled r)) m → IsInRange (parts r) m
  up_in_range r m hr c =
      let from = received far g ranks parts states handled promised kept r (3 * p) m hr c in
      let first : ℕ = first_at far g ranks parts states handled promised kept r in
      let count : ℕ = count_at far g ranks parts states handled promised kept r in
      let key : ℕ → ℕ = own_key (parts from.rank) label in
      let due = All-contains (IsPieceOf key first count) (items_of_round (3 * p) (list_at (promised from.rank) r)) m
      (up_sent far g ranks parts states handled promised kept p label same phases soon from.rank r from.within from.other).due from.among in
      piece_in_range (parts r) key first count m (omega arith) (λ i below. block_within r r i hr hr below) due

  down_in_range : (r : ℕ) (m : Message) → r < ranks → Contains (items_in (3 * p + 1) (handled r)) m → IsInRange (parts r) m
  down_in_range r m hr c =
      let from = received far g ranks parts states handled promised kept r (3 * p + 1) m hr c in
      let first : ℕ = first_at far g ranks parts states handled promised kept from.rank in
      let count : ℕ = count_at far g ranks parts states handled promised kept from.rank in
      let key : ℕ → ℕ = winner (parts from.rank) (handled from.rank) label p in
      let due = All-contains (IsPieceOf key first count) (items_of_round (3 * p + 1) (list_at (promised from.rank) r)) m
      (down_sent far g ranks parts states handled promised kept p label same phases soon from.rank r from.within from.other).due from.among in
      piece_in_range (parts r) key first count m (omega arith) (λ i below. block_within r from.rank i hr from.within below) due

  hook_in_range : (r : ℕ) (m : Message) → r < ranks → Contains (items_in (3 * p + 2) (handled r)) m → IsInRange (parts r) m
  hook_in_range r m hr c =
      let found = message_told far g ranks parts states handled promised kept pos p label same phases late inside r m hr c in
      subst (IsInRange (parts r)) (sym found.1) (told_is_within far g ranks parts states handled promised kept pos p label same phases late inside r found.0 hr found.2)

  -- The pointers of every rank, as functions.
  to_same : (r : ℕ) → r < ranks → hooked_to (phase_hooks far (parts r) (handled r) p) ≡ to
  to_same r hr =
      ap (λ (f : ℕ → ℕ). hooked_to (hooks_of (parts r) (handled r) f p)) (same r hr)
      ∙ (λ i l. hook_same far g ranks parts states handled promised kept pos p label same phases late inside r l hr i)

  abbrev pub next : ℕ → ℕ
  next v = steps to far (label v)

  pub next_same : (r : ℕ) → r < ranks → label_in far (parts r) (handled r) (suc p) ≡ next
  next_same r hr = λ i v. steps (to_same r hr i) far (same r hr i v)

  at_end : (v : ℕ) → point to (next v) ≡ next v
  at_end v =
      rests g.edges (up_to g.n) label edge_by to (are_hooks far g ranks parts states handled promised kept pos p label same phases late inside) far (label v)
      (omega (arith, length-up_to g.n, kept.far_enough))

  in_hooks : (r : ℕ) (h : Hook) → r < ranks → Contains (phase_hooks far (parts r) (handled r) p) h → Contains (hooks r) h
  in_hooks r h hr c = subst (λ (f : ℕ → ℕ). Contains (hooks_of (parts r) (handled r) f p) h) (same r hr) c

  in_phase : (r : ℕ) (h : Hook) → r < ranks → Contains (hooks r) h → Contains (phase_hooks far (parts r) (handled r) p) h
  in_phase r h hr c = subst (λ (f : ℕ → ℕ). Contains (hooks_of (parts r) (handled r) f p) h) (sym (same r hr)) c

  pub is_sound : (r : ℕ) → r < ranks → IsSound far (parts r) (handled r) p
  is_sound r hr = record {
    up = λ i d l. up_in_range r (get_or (items_in (3 * p) (handled r)) i d) hr (Contains-get_or (items_in (3 * p) (handled r)) i d l);
    down = λ i d l. down_in_range r (get_or (items_in (3 * p + 1) (handled r)) i d) hr (Contains-get_or (items_in (3 * p + 1) (handled r)) i d l);
    hooks = λ i d l. hook_in_range r (get_or (items_in (3 * p + 2) (handled r)) i d) hr (Contains-get_or (items_in (3 * p + 2) (handled r)) i d l);
    one_way = λ f h first second source.
        told_same far g ranks parts states handled promised kept pos p label same phases late inside f h
        (told_at r f hr (in_hooks r f hr first)) (told_at r h hr (in_hooks r h hr second)) source;
    at_end = λ v is.
        subst (λ (x : ℕ → ℕ). point x (label_in far (parts r) (handled r) (suc p) v) ≡ label_in far (parts r) (handled r) (suc p) v) (sym (to_same r hr))
        (subst (λ (x : ℕ → ℕ). point to (x v) ≡ x v) (sym (next_same r hr)) (at_end v));
  }

  -- Labels stay labels.
  to_inside : (l : ℕ) → IsVertex g.n l → IsHooked (hooks 0) l ⊎ IsUnhooked (hooks 0) l → IsVertex g.n (to l)
  to_inside l v (inl found) =
      let within = told_is_within far g ranks parts states handled promised kept pos p label same phases late inside 0 found.hook pos (told_at 0 found.hook pos found.among) in
      subst (IsVertex g.n) (sym found.target) (subst (λ (n : ℕ). IsVertex n found.hook.target) (kept.divided.vertices 0 pos) within.target)
  to_inside l v (inr free) = subst (IsVertex g.n) (sym free.still) v

  point_inside : (l : ℕ) → IsVertex g.n l → IsVertex g.n (point to l)
  point_inside l v =
      cond_both ((to (to l) == l) && nat_lt l (to l)) l (to l) (IsVertex g.n) (λ is. v) (λ is. to_inside l v (hooked_cases (hooks 0) l))

  steps_inside : (k l : ℕ) → IsVertex g.n l → IsVertex g.n (steps to k l)
  steps_inside zero l v = v
  steps_inside (suc k) l v = steps_inside k (point to l) (point_inside l v)

  pub next_inside : (v : ℕ) → IsVertex g.n v → IsVertex g.n (next v)
  next_inside v is = steps_inside far (label v) (inside v is)

  abbrev pub hook_edge : Hook → Edge
  hook_edge h = edge_at g h.edge

  moves_at : (l : ℕ) (h : Hook) → Contains (hooks 0) h → h.source ≡ l → IsHooked (hooks 0) l ⊎ IsUnhooked (hooks 0) l → to l ≢ l
  moves_at l h c source (inl found) still =
      told_moves far g ranks parts states handled promised kept pos p label same phases late inside found.hook (told_at 0 found.hook pos found.among)
      (sym found.target ∙ (still ∙ sym found.source))
  moves_at l h c source (inr free) still = free.none h c source

  edge_of_hook : (h : Hook) → Contains (hooks 0) h → edge_by h.source ≡ hook_edge h
  edge_of_hook h c = told_edge far g ranks parts states handled promised kept pos p label same phases late inside h (told_at 0 h pos c)

  hook_of_move : (l : ℕ) → to l ≢ l → IsHooked (hooks 0) l ⊎ IsUnhooked (hooks 0) l → Contains (map hook_edge (hooks 0)) (edge_by l)
  hook_of_move l moves (inl found) =
      subst (Contains (map hook_edge (hooks 0))) (sym (edge_of_hook found.hook found.among) ∙ ap edge_by found.source) (mapped_member hook_edge (hooks 0) found.hook found.among)
  hook_of_move l moves (inr free) = absurd (moves free.still)

  module _ (chosen : List Edge) (grown : IsGrown g.edges chosen label) where
    abbrev pub more : List Edge
    more = chosen ++ map hook_edge (hooks 0)

    adds : (e : Edge) → Contains more e ↔ (Contains chosen e ⊎ ((l : ℕ) × (to l ≢ l) × (edge_by l ≡ e)))
    adds e = (
      λ c. ⊎_elim
          (λ before. inl before)
          (λ now.
          let found = member_of_map hook_edge (hooks 0) e now in
          let h : Hook = found.0 in
          inr (h.source, moves_at h.source h found.1 refl (hooked_cases (hooks 0) h.source), edge_of_hook h found.1 ∙ found.2))
          (Contains-append_cases chosen (map hook_edge (hooks 0)) e c),
      λ c. ⊎_elim
          (λ before. Contains-append_left chosen (map hook_edge (hooks 0)) e before)
          (λ (now : (l : ℕ) × (to l ≢ l) × (edge_by l ≡ e)). Contains-append_right chosen (map hook_edge (hooks 0)) e
          (subst (Contains (map hook_edge (hooks 0))) now.2 (hook_of_move now.0 now.1 (hooked_cases (hooks 0) now.0))))
          c,
    )

    pub grows_more : IsGrown g.edges more next
    grows_more =
        phases_grow g.edges chosen more (up_to g.n) label edge_by to far grown
        (are_hooks far g ranks parts states handled promised kept pos p label same phases late inside)
        (omega (arith, length-up_to g.n, kept.far_enough)) adds

    -- The edges of all hooks so far, as each rank has them.
    abbrev pub HasChosen : List Edge → ℕ → ℕ → Type 0
    HasChosen edges r q = (e : Edge) → Contains edges e ↔ ((i : ℕ) × IsChosen far (parts r) (handled r) q i × (edge_at g i ≡ e))

    later : (r i : ℕ) → IsChosen far (parts r) (handled r) p i → IsChosen far (parts r) (handled r) (suc p) i
    later r i c = record { phase = c.phase; before = omega (arith, c.before); hook = c.hook; among = c.among; edge = c.edge }

    has_now : (r : ℕ) (e : Edge) → r < ranks → Contains (map hook_edge (hooks 0)) e → (i : ℕ) × IsChosen far (parts r) (handled r) (suc p) i × (edge_at g i ≡ e)
    has_now r e hr c =
        let found = member_of_map hook_edge (hooks 0) e c in
        let h : Hook = found.0 in
        (h.edge, record { phase = p; before = omega arith; hook = h; among = in_phase r h hr (everywhere 0 r h pos hr found.1); edge = refl }, found.2)

    had_by : (r i : ℕ) (e : Edge) → r < ranks → HasChosen chosen r p → (c : IsChosen far (parts r) (handled r) (suc p) i) → edge_at g i ≡ e → (c.phase ≡ p) ⊎ (c.phase ≢ p) → Contains more e
    had_by r i e hr has c is (inl now) =
        let there : Contains (phase_hooks far (parts r) (handled r) p) c.hook = subst (λ (q : ℕ). Contains (phase_hooks far (parts r) (handled r) q) c.hook) now c.among in
        Contains-append_right chosen (map hook_edge (hooks 0)) e
        (subst (Contains (map hook_edge (hooks 0))) (ap (edge_at g) c.edge ∙ is) (mapped_member hook_edge (hooks 0) c.hook (everywhere r 0 c.hook hr pos (in_hooks r c.hook hr there))))
    had_by r i e hr has c is (inr apart) =
        Contains-append_left chosen (map hook_edge (hooks 0)) e
        ((has e).1 (i, record { phase = c.phase; before = omega (arith, c.before, apart); hook = c.hook; among = c.among; edge = c.edge }, is))

    pub has_more : (r : ℕ) → r < ranks → HasChosen chosen r p → HasChosen more r (suc p)
    has_more r hr has e = (
      λ c. ⊎_elim
          (λ before. let found = (has e).0 before in (found.0, later r found.0 found.1, found.2))
          (λ now. has_now r e hr now)
          (Contains-append_cases chosen (map hook_edge (hooks 0)) e c),
      λ c. had_by r c.0 e hr has c.1 c.2 (cases_eq c.1.phase p),
    )

    within_by : (r i : ℕ) → r < ranks → ((j : ℕ) → IsChosen far (parts r) (handled r) p j → j < length g.edges) → (c : IsChosen far (parts r) (handled r) (suc p) i) → (c.phase ≡ p) ⊎ (c.phase ≢ p) → i < length g.edges
    within_by r i hr before c (inl now) =
        let there : Contains (phase_hooks far (parts r) (handled r) p) c.hook = subst (λ (q : ℕ). Contains (phase_hooks far (parts r) (handled r) q) c.hook) now c.among in
        let within = told_is_within far g ranks parts states handled promised kept pos p label same phases late inside r c.hook hr (told_at r c.hook hr (in_hooks r c.hook hr there)) in
        omega (arith, within.edge, c.edge, kept.divided.edges r hr)
    within_by r i hr before c (inr apart) =
        before i (record { phase = c.phase; before = omega (arith, c.before, apart); hook = c.hook; among = c.among; edge = c.edge })

    pub within_more : (r : ℕ) → r < ranks → ((j : ℕ) → IsChosen far (parts r) (handled r) p j → j < length g.edges) → (i : ℕ) → IsChosen far (parts r) (handled r) (suc p) i → i < length g.edges
    within_more r hr before i c = within_by r i hr before c (cases_eq c.phase p)
