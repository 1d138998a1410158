-- All ranks have the same hooks in a phase, and these are the hooks of Borůvka's method on the whole graph.
use Rattle.std.proofs.Common.{◌≡◌, ◌≢◌, ◌⊎◌, ℕ, zero, suc, ◌+◌, ◌*◌, ◌%◌, ◌<◌, ◌≤◌, true, List, [], ◌∷◌, ◌&&◌, length, refl, sym, ◌∙◌, ap, subst, inl, inr, ⊎_elim, arith, Contains}
use Rattle.std.specs.Prelude.{not, nat_lt}
use Rattle.std.proofs.lemmas.Nat.{mod-mul-add}
use Rattle.std.proofs.lemmas.Bool.{cases_eq, lt-ltb, le-ltb, and_from}
use Rattle.std.proofs.lemmas.List.Elements.{All-contains, Contains-get_or, Contains-append_left, Contains-append_right, Contains-append_cases}
use Rattle.pg_base.specs.declared.TheConstants.{MAX_EDGES}
use Rattle.pg_base.specs.declared.edges.Edge.{Edge}
use Rattle.pg_base.specs.Graph.{Graph}
use Rattle.pg_base.specs.Forest.{key_lt}
use Rattle.pg_base.specs.KeyLaws.{key_number}
use Rattle.pg_base.proofs.KeyLemmas.{numbers_order_keys}
use Rattle.pg_forest.specs.Phases.{LeadsBetween, KeepsWithin, IsHook, AreHooks}
use Rattle.pg_group.specs.declared.messages.Body.{Body}
use Rattle.pg_group.specs.Ranked.{IsOther, list_at}
use Rattle.pg_group.specs.Rounds.{items_of_round}
use Rattle.pg_boruvka.specs.declared.TheConstants.{NO_KEY}
use Rattle.pg_boruvka.specs.declared.messages.Hook.{Hook}
use Rattle.pg_boruvka.specs.declared.messages.Message.{Message}
use Rattle.pg_boruvka.specs.declared.messages.Message.TheVariants.{Hook as Hooked}
use Rattle.pg_adj.specs.Division.{no_edge}
use Rattle.pg_adj.specs.Portions.{IsVertex}
use Rattle.pg_boruvka.specs.Parts.{LocalArc, Part, IsArc, edge_at}
use Rattle.pg_boruvka.specs.Winners.{leaves, winner, items_in}
use Rattle.pg_boruvka.specs.Hooks.{own_hooks, is_vertex, is_within, hooks_among, hooks_of, hooked_to, label_in, IsHookWithin}
use Rattle.pg_boruvka.specs.LocalDense.{State, AreSent, IsHookOf, IsPhase}
use Rattle.pg_boruvka.proofs.Leasts.{LeavesFrom, IsLeastOf, IsOwnKey}
use Rattle.pg_boruvka.proofs.Items.{items_have, hook_is_message, message_is_hook}
use Rattle.pg_boruvka.proofs.OwnHooks.{leaves_is, hook_over, hooks_are, HasHook, hook_is_found, IsHooked, IsUnhooked, hooked_cases}
use Rattle.pg_boruvka.proofs.Runs.{Kept}
use Rattle.pg_boruvka.proofs.Staying as staying
use Rattle.pg_boruvka.proofs.Reducing.{as_other, IsLeavingKey, arc_is, key_is_small, leaving_is_small, received, winner_is_least, winners_same}

-- The labels from 1 on.
abbrev pub up_to : ℕ → List ℕ
up_to zero = []
up_to (suc n) = suc n ∷ up_to n

pub length-up_to : (n : ℕ) → length (up_to n) ≡ n
length-up_to zero = refl
length-up_to (suc n) = ap suc (length-up_to n)

pub up_to_has : (n l : ℕ) → 1 ≤ l → l ≤ n → Contains (up_to n) l
up_to_has zero l first last = absurd (omega arith)
up_to_has (suc n) l first last = ⊎_elim
    (λ same. (0, omega arith, sym same))
    (λ apart. let rest = up_to_has n l first (omega arith) in (suc rest.0, omega (arith, rest.1), rest.2))
    (cases_eq l (suc n))

hooked_same : (g h : Hook) → Hooked g ≡ Hooked h → g ≡ h
hooked_same g h e = cc

abbrev hook_of : ℕ → ℕ → ℕ → Hook
hook_of l t e = record { source = l; target = t; edge = e }

hook_alike : (l t u e f : ℕ) → t ≡ u → e ≡ f → hook_of l t e ≡ hook_of l u f
hook_alike l t u e f first second = λ k. record { source = l; target = first k; edge = second k }

vertex_test : (n v : ℕ) → IsVertex n v → is_vertex n v ≡ true
vertex_test n v is = and_from (nat_lt 0 v) (not (nat_lt n v)) (lt-ltb 0 v is.first) (ap not (le-ltb n v is.last))

within_test : (part : Part) (h : Hook) → IsHookWithin part h → is_within part h ≡ true
within_test part h is =
    and_from (is_vertex part.n h.source) (is_vertex part.n h.target && nat_lt h.edge part.edges) (vertex_test part.n h.source is.source)
    (and_from (is_vertex part.n h.target) (nat_lt h.edge part.edges) (vertex_test part.n h.target is.target) (lt-ltb h.edge part.edges is.edge))

module _ (far : ℕ) (g : Graph) (ranks : ℕ) (parts : ℕ → Part) (states : ℕ → State) (handled promised : ℕ → List (List (Body Message))) (kept : Kept far g ranks parts states handled promised) (pos : 0 < ranks)
    (p : ℕ) (label : ℕ → ℕ) (same : (r : ℕ) → r < ranks → label_in far (parts r) (handled r) p ≡ label)
    (phases : (r : ℕ) → r < ranks → IsPhase far (parts r) (handled r) (promised r) (states r) p) (late : 3 * p + 2 ≤ kept.last)
    (inside : (v : ℕ) → IsVertex g.n v → IsVertex g.n (label v)) where
  soon : 3 * p + 1 ≤ kept.last
  soon = omega arith

  abbrev Leaving : ℕ → ℕ → Type 0
  Leaving l x = IsLeavingKey far g ranks parts states handled promised kept label l x

  -- The winners as rank 0 has them.
  abbrev pub win : ℕ → ℕ
  win l = winner (parts 0) (handled 0) label p l

  win_is_least : (l : ℕ) → IsVertex g.n l → IsLeastOf (Leaving l) (win l)
  win_is_least l v = winner_is_least far g ranks parts states handled promised kept p label same phases soon 0 l pos v

  win_same : (r l : ℕ) → r < ranks → IsVertex g.n l → winner (parts r) (handled r) label p l ≡ win l
  win_same r l h v = winners_same far g ranks parts states handled promised kept p label same phases soon r 0 l h pos v

  small : (l x : ℕ) → Leaving l x → x < NO_KEY
  small l x is = leaving_is_small far g ranks parts states handled promised kept label l x is

  abbrev pub hooks_at : ℕ → List Hook
  hooks_at r = hooks_of (parts r) (handled r) label p

  -- A hook over a rank's arc that has the winning key of its label.
  pub record Told (h : Hook) : Type 0 where
    pub rank : ℕ
    pub within : rank < ranks
    pub vertex : IsVertex g.n h.source
    pub arc : LocalArc
    pub from : LeavesFrom (parts rank) label h.source arc
    pub key : arc.key ≡ win h.source
    pub is : h ≡ hook_over label h.source arc

  told_arc : (h : Hook) (t : Told h) → IsArc g t.arc
  told_arc h t = arc_is far g ranks parts states handled promised kept t.rank t.arc t.within t.from.among

  own_told : (r : ℕ) (h : Hook) → r < ranks → Contains (own_hooks (parts r) (handled r) label p) h → Told h
  own_told r h hr c =
      let own = hooks_are (parts r) label (winner (parts r) (handled r) label p) (parts r).n h c in
      let v : IsVertex g.n h.source = record { first = own.first; last = omega (arith, own.last, kept.divided.vertices r hr) } in
      record { rank = r; within = hr; vertex = v; arc = own.arc; from = own.from; key = own.key ∙ win_same r h.source hr v; is = own.is }

  hooks_sent : (r s : ℕ) → r < ranks → IsOther r ranks s → AreSent (states r) (3 * p + 2) (IsHookOf (own_hooks (parts r) (handled r) label p)) (list_at (promised r) s)
  hooks_sent r s h other =
      subst (λ (f : ℕ → ℕ). AreSent (states r) (3 * p + 2) (IsHookOf (own_hooks (parts r) (handled r) f p)) (list_at (promised r) s)) (same r h)
      ((phases r h).hooks s (as_other far g ranks parts states handled promised kept r s h other))

  -- Each message of the phase's last round is a hook of that kind.
  pub message_told : (r : ℕ) (m : Message) → r < ranks → Contains (items_in (3 * p + 2) (handled r)) m → (h : Hook) × (m ≡ Hooked h) × Told h
  message_told r m hr c =
      let from = received far g ranks parts states handled promised kept r (3 * p + 2) m hr c in
      let due = All-contains (IsHookOf (own_hooks (parts from.rank) (handled from.rank) label p)) (items_of_round (3 * p + 2) (list_at (promised from.rank) r)) m
      (hooks_sent from.rank r from.within from.other).due from.among in
      (due.hook, due.is, own_told from.rank due.hook from.within due.among)

  pub hook_told : (r : ℕ) (h : Hook) → r < ranks → Contains (hooks_at r) h → Told h
  hook_told r h hr c = ⊎_elim
      (λ own. own_told r h hr own)
      (λ came.
      let found = message_told r (Hooked h) hr (hook_is_message (parts r) (items_in (3 * p + 2) (handled r)) h came) in
      subst Told (sym (hooked_same h found.0 found.1)) found.2)
      (Contains-append_cases (own_hooks (parts r) (handled r) label p) (hooks_among (parts r) (items_in (3 * p + 2) (handled r))) h c)

  ends_are : (i : ℕ) → i < length g.edges → IsVertex g.n (edge_at g i).u × IsVertex g.n (edge_at g i).v
  ends_are i h = staying.ends_are far g ranks parts states handled promised kept pos p label same phases soon inside i h

  arc_ends : (a : LocalArc) → IsArc g a → IsVertex g.n a.from × IsVertex g.n a.to
  arc_ends a is =
      let both = ends_are a.edge is.edge in
      ⊎_elim
      (λ (e : (a.from ≡ (edge_at g a.edge).u) × (a.to ≡ (edge_at g a.edge).v)). (subst (IsVertex g.n) (sym e.0) both.0, subst (IsVertex g.n) (sym e.1) both.1))
      (λ (e : (a.from ≡ (edge_at g a.edge).v) × (a.to ≡ (edge_at g a.edge).u)). (subst (IsVertex g.n) (sym e.0) both.1, subst (IsVertex g.n) (sym e.1) both.0))
      is.ends

  pub told_is_within : (r : ℕ) (h : Hook) → r < ranks → Told h → IsHookWithin (parts r) h
  told_is_within r h hr t =
      let is = told_arc h t in
      let to : IsVertex g.n h.target = subst (IsVertex g.n) (sym (ap (λ (x : Hook). x.target) t.is)) (inside t.arc.to (arc_ends t.arc is).1) in
      let n = kept.divided.vertices r hr in
      record {
        source = subst (λ (x : ℕ). IsVertex x h.source) (sym n) t.vertex;
        target = subst (λ (x : ℕ). IsVertex x h.target) (sym n) to;
        edge = omega (arith, ap (λ (x : Hook). x.edge) t.is, is.edge, kept.divided.edges r hr);
      }

  found_at : (r l s : ℕ) → r < ranks → s < ranks → IsVertex g.n l → HasHook (own_hooks (parts s) (handled s) label p) l → (s ≡ r) ⊎ (s ≢ r) → HasHook (hooks_at r) l
  found_at r l s hr hs v has (inl here) = record {
    hook = has.hook;
    among = Contains-append_left (own_hooks (parts r) (handled r) label p) (hooks_among (parts r) (items_in (3 * p + 2) (handled r))) has.hook
        (subst (λ (q : ℕ). Contains (own_hooks (parts q) (handled q) label p) has.hook) here has.among);
    source = has.source;
  }
  found_at r l s hr hs v has (inr apart) =
      let other : IsOther s ranks r = (hr, λ e. apart (sym e)) in
      let sent = (hooks_sent s r hs other).all (omega (arith, kept.voted_is s r hs other, late)) (Hooked has.hook) (record { hook = has.hook; among = has.among; is = refl }) in
      let there : Contains (items_in (3 * p + 2) (handled r)) (Hooked has.hook) =
      items_have (3 * p + 2) (handled r) s (Hooked has.hook) (subst (λ (list : List (Body Message)). Contains (items_of_round (3 * p + 2) list) (Hooked has.hook)) (sym (kept.taken s r hs other)) sent) in
      record {
        hook = has.hook;
        among = Contains-append_right (own_hooks (parts r) (handled r) label p) (hooks_among (parts r) (items_in (3 * p + 2) (handled r))) has.hook
            (message_is_hook (parts r) (items_in (3 * p + 2) (handled r)) has.hook (within_test (parts r) has.hook (told_is_within r has.hook hr (own_told s has.hook hs has.among))) there);
        source = has.source;
      }

  own_found : (s l : ℕ) → s < ranks → IsVertex g.n l → IsOwnKey (parts s) label l (win l) → HasHook (own_hooks (parts s) (handled s) label p) l
  own_found s l hs v own =
      let is = win_same s l hs v in
      hook_is_found (parts s) label (winner (parts s) (handled s) label p) (parts s).n l v.first (omega (arith, v.last, kept.divided.vertices s hs))
      (subst (IsOwnKey (parts s) label l) (sym is) own)
      (λ x mine. omega (arith, is, (win_is_least l v).lowest x (record { rank = s; within = hs; own = mine })))

  -- Each label that has a winner has a hook at every rank.
  pub hook_found : (r l : ℕ) → r < ranks → IsVertex g.n l → win l ≢ NO_KEY → HasHook (hooks_at r) l
  hook_found r l hr v some = ⊎_elim
      (λ none. absurd (some none))
      (λ is. found_at r l is.rank hr is.within v (own_found is.rank l is.within v is.own) (cases_eq is.rank r))
      (win_is_least l v).one

  key_edge : (a : LocalArc) → IsArc g a → a.key % MAX_EDGES ≡ a.edge
  key_edge a is =
      ap (λ (x : ℕ). x % MAX_EDGES) is.key ∙ mod-mul-add (edge_at g a.edge).w MAX_EDGES a.edge (omega (arith, is.edge, kept.graph.size))

  abbrev Ends : Edge → LocalArc → Type 0
  Ends e a = ((a.from ≡ e.u) × (a.to ≡ e.v)) ⊎ ((a.from ≡ e.v) × (a.to ≡ e.u))

  same_end : (e : Edge) (l : ℕ) (a b : LocalArc) → Ends e a → Ends e b → (label a.from ≡ l) × (label a.to ≢ l) → (label b.from ≡ l) × (label b.to ≢ l) → label a.to ≡ label b.to
  same_end e l a b (inl x) (inl y) first second = ap label (x.1 ∙ sym y.1)
  same_end e l a b (inl x) (inr y) first second = absurd (first.1 (ap label (x.1 ∙ sym y.0) ∙ second.0))
  same_end e l a b (inr x) (inl y) first second = absurd (first.1 (ap label (x.1 ∙ sym y.0) ∙ second.0))
  same_end e l a b (inr x) (inr y) first second = ap label (x.1 ∙ sym y.1)

  -- A label has one hook.
  pub told_same : (f h : Hook) → Told f → Told h → f.source ≡ h.source → f ≡ h
  told_same f h first second source =
      let a = first.arc in
      let b = second.arc in
      let l : ℕ = h.source in
      let ia = told_arc f first in
      let ib = told_arc h second in
      let edge : a.edge ≡ b.edge = sym (key_edge a ia) ∙ (ap (λ (x : ℕ). x % MAX_EDGES) (first.key ∙ (ap win source ∙ sym second.key)) ∙ key_edge b ib) in
      let to : label a.to ≡ label b.to =
      same_end (edge_at g b.edge) l a b (subst (λ (i : ℕ). Ends (edge_at g i) a) edge ia.ends) ib.ends
      (leaves_is label l a (subst (λ (x : ℕ). leaves label x a ≡ true) source first.from.leaves)) (leaves_is label l b second.from.leaves) in
      first.is ∙ (ap (λ (x : ℕ). hook_over label x a) source ∙ (hook_alike l (label a.to) (label b.to) a.edge b.edge to edge ∙ sym second.is))

  told_has_winner : (h : Hook) → Told h → win h.source ≢ NO_KEY
  told_has_winner h t none =
      omega (arith, t.key, none, key_is_small far g ranks parts states handled promised kept t.arc (told_arc h t))

  -- The hooks of one rank are those of any other.
  pub hook_everywhere : (r s : ℕ) (h : Hook) → r < ranks → s < ranks → Contains (hooks_at r) h → Contains (hooks_at s) h
  hook_everywhere r s h hr hs c =
      let t = hook_told r h hr c in
      let has = hook_found s h.source hs t.vertex (told_has_winner h t) in
      subst (Contains (hooks_at s)) (told_same has.hook h (hook_told s has.hook hs has.among) t has.source) has.among

  hook_same_by : (r l : ℕ) → r < ranks → IsHooked (hooks_at r) l ⊎ IsUnhooked (hooks_at r) l → IsHooked (hooks_at 0) l ⊎ IsUnhooked (hooks_at 0) l → hooked_to (hooks_at r) l ≡ hooked_to (hooks_at 0) l
  hook_same_by r l hr (inl one) (inl two) =
      one.target ∙ (ap (λ (x : Hook). x.target) (told_same one.hook two.hook (hook_told r one.hook hr one.among) (hook_told 0 two.hook pos two.among) (one.source ∙ sym two.source)) ∙ sym two.target)
  hook_same_by r l hr (inl one) (inr two) = absurd (two.none one.hook (hook_everywhere r 0 one.hook hr pos one.among) one.source)
  hook_same_by r l hr (inr one) (inl two) = absurd (one.none two.hook (hook_everywhere 0 r two.hook pos hr two.among) two.source)
  hook_same_by r l hr (inr one) (inr two) = one.still ∙ sym two.still

  abbrev pub hook : ℕ → ℕ
  hook l = hooked_to (hooks_at 0) l

  pub hook_same : (r l : ℕ) → r < ranks → hooked_to (hooks_at r) l ≡ hook l
  hook_same r l hr = hook_same_by r l hr (hooked_cases (hooks_at r) l) (hooked_cases (hooks_at 0) l)

  abbrev pub win_edge : ℕ → Edge
  win_edge l = edge_at g (win l % MAX_EDGES)

  pub told_edge : (h : Hook) → Told h → win_edge h.source ≡ edge_at g h.edge
  told_edge h t =
      ap (edge_at g) (ap (λ (x : ℕ). x % MAX_EDGES) (sym t.key) ∙ (key_edge t.arc (told_arc h t) ∙ sym (ap (λ (x : Hook). x.edge) t.is)))

  pub told_moves : (h : Hook) → Told h → h.target ≢ h.source
  told_moves h t back =
      (leaves_is label h.source t.arc t.from.leaves).1 (sym (ap (λ (x : Hook). x.target) t.is) ∙ back)

  keeps_by : (l i : ℕ) → i < length g.edges → (Leaving l (key_number (edge_at g i) i) → ⊥) → KeepsWithin label l (edge_at g i)
  keeps_by l i h never = staying.keeps_by far g ranks parts states handled promised kept pos p label same phases soon inside l i h never

  leads_by : (e : Edge) (l : ℕ) (a : LocalArc) → Ends e a → label a.from ≡ l → LeadsBetween label e l (label a.to)
  leads_by e l a (inl x) from = inl (ap label (sym x.0) ∙ from, ap label (sym x.1))
  leads_by e l a (inr x) from = inr (ap label (sym x.0) ∙ from, ap label (sym x.1))

  told_is_hook : (h : Hook) → Told h → IsHook g.edges label h.source h.target (edge_at g h.edge)
  told_is_hook h t =
      let a = t.arc in
      let is = told_arc h t in
      let l : ℕ = h.source in
      let edge : h.edge ≡ a.edge = ap (λ (x : Hook). x.edge) t.is in
      let target : h.target ≡ label a.to = ap (λ (x : Hook). x.target) t.is in
      let out = leaves_is label l a t.from.leaves in
      subst (λ (i : ℕ). IsHook g.edges label l h.target (edge_at g i)) (sym edge)
      (subst (λ (m : ℕ). IsHook g.edges label l m (edge_at g a.edge)) (sym target)
      (record {
        among = Contains-get_or g.edges a.edge no_edge is.edge;
        leads = leads_by (edge_at g a.edge) l a is.ends out.0;
        apart = λ e. out.1 (sym e);
        least = λ d c less. staying.by_place far g ranks parts states handled promised kept pos p label same phases soon inside (λ (x : Edge). key_lt x (edge_at g a.edge) ≡ true → KeepsWithin label l x) d c
            (λ i at same_place below. keeps_by l i at (λ leaving.
            let lower : key_number (edge_at g i) i < key_number (edge_at g a.edge) a.edge =
            (numbers_order_keys g kept.graph i a.edge no_edge at is.edge).0 below in
            let low = (win_is_least l t.vertex).lowest (key_number (edge_at g i) i) leaving in
            omega (arith, lower, low, t.key, is.key))) less;
      }))

  abbrev Stays : ℕ → Type 0
  Stays l = (d : Edge) → Contains g.edges d → KeepsWithin label l d

  unhooked_stays : (l : ℕ) → IsUnhooked (hooks_at 0) l → Stays l
  unhooked_stays l free = ⊎_elim
      (λ v. ⊎_elim
      (λ none. staying.no_winner_stays far g ranks parts states handled promised kept pos p label same phases soon inside l v none)
      (λ some. let has = hook_found 0 l pos v some in absurd (free.none has.hook has.among has.source))
      (cases_eq (win l) NO_KEY))
      (λ out. staying.outside_stays far g ranks parts states handled promised kept pos p label same phases soon inside l out)
      (staying.vertex_cases far g ranks parts states handled promised kept pos p label same phases soon inside l)

  hooked_is : (l : ℕ) → hook l ≢ l → IsHooked (hooks_at 0) l ⊎ IsUnhooked (hooks_at 0) l → (h : Hook) × Told h × (h.source ≡ l) × (hook l ≡ h.target)
  hooked_is l moves (inl found) = (found.hook, hook_told 0 found.hook pos found.among, found.source, found.target)
  hooked_is l moves (inr free) = absurd (moves free.still)

  hook_at : (l : ℕ) → hook l ≢ l → IsHook g.edges label l (hook l) (win_edge l)
  hook_at l moves =
      let found = hooked_is l moves (hooked_cases (hooks_at 0) l) in
      let h = found.0 in
      subst (λ (m : ℕ). IsHook g.edges label l m (win_edge l)) (sym found.3)
      (subst (λ (x : ℕ). IsHook g.edges label x h.target (win_edge x)) found.2
      (subst (IsHook g.edges label h.source h.target) (sym (told_edge h found.1)) (told_is_hook h found.1)))

  free_by : (l : ℕ) → hook l ≡ l → IsHooked (hooks_at 0) l ⊎ IsUnhooked (hooks_at 0) l → Stays l
  free_by l still (inl found) =
      absurd (told_moves found.hook (hook_told 0 found.hook pos found.among) (sym found.target ∙ (still ∙ sym found.source)))
  free_by l still (inr free) = unhooked_stays l free

  -- So the phase is one of Borůvka's method.
  pub are_hooks : AreHooks g.edges (up_to g.n) label win_edge hook
  are_hooks = record {
    hooked = hook_at;
    listed = λ l moves.
        let found = hooked_is l moves (hooked_cases (hooks_at 0) l) in
        subst (Contains (up_to g.n)) found.2 (up_to_has g.n found.0.source found.1.vertex.first found.1.vertex.last);
    free = λ l still. free_by l still (hooked_cases (hooks_at 0) l);
  }
