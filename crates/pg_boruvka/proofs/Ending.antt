-- Phase by phase all ranks have the same labels and hooks, and at the end each has chosen exactly the forest.
use Rattle.std.proofs.Common.{◌≡◌, ◌⊎◌, ◌↔◌, ℕ, zero, suc, ◌+◌, ◌*◌, ◌/◌, ◌<◌, ◌≤◌, List, [], length, refl, sym, ap, subst, inl, inr, ⊎_elim, arith, Contains}
use Rattle.std.proofs.lemmas.Bool.{cases_eq, cases_lt, cases_order}
use Rattle.std.proofs.lemmas.List.Elements.{All-contains}
use Rattle.pg_base.specs.declared.edges.Edge.{Edge}
use Rattle.pg_base.specs.Graph.{Graph, Precedes}
use Rattle.pg_base.specs.Forest.{InForest, HasForest, IsForest}
use Rattle.pg_forest.specs.Phases.{KeepsWithin, AreHooks, IsGrown}
use Rattle.pg_forest.proofs.Pointers.{phases_begin, phases_end}
use Rattle.pg_forest.proofs.WholeForests.{indices_give_forest, forest_is_least}
use Rattle.pg_group.specs.declared.messages.Body.{Body}
use Rattle.pg_boruvka.specs.declared.TheConstants.{NO_KEY}
use Rattle.pg_boruvka.specs.declared.messages.Message.{Message}
use Rattle.pg_adj.specs.Division.{no_edge}
use Rattle.pg_adj.specs.Portions.{IsVertex}
use Rattle.pg_boruvka.specs.Parts.{Part, edge_at}
use Rattle.pg_boruvka.specs.Winners.{winner}
use Rattle.pg_boruvka.specs.Hooks.{label_in, IsSound, AreSoundBefore}
use Rattle.pg_boruvka.specs.LocalDense.{State, IsPhase, IsChosen, IsPresent}
use Rattle.pg_boruvka.specs.Whole.{WholeIsForest, WholeIsLeast, edges_of}
use Rattle.pg_boruvka.proofs.Runs.{Kept, handled_by, promised_by, is_kept}
use Rattle.pg_boruvka.proofs.Hooking.{up_to}
use Rattle.pg_boruvka.proofs.Growing.{next, next_same, next_inside, is_sound, more, grows_more, has_more, within_more}
use Rattle.pg_boruvka.proofs.Staying.{no_winner_keeps}

module _ (far : ℕ) (g : Graph) (ranks : ℕ) (parts : ℕ → Part) (states : ℕ → State) (handled promised : ℕ → List (List (Body Message))) (kept : Kept far g ranks parts states handled promised) (pos : 0 < ranks) where
  -- What holds before phase p.
  record Reached (p : ℕ) : Type 0 where
    pub label : ℕ → ℕ
    pub chosen : List Edge
    pub same : (r : ℕ) → r < ranks → label_in far (parts r) (handled r) p ≡ label
    pub inside : (v : ℕ) → IsVertex g.n v → IsVertex g.n (label v)
    pub sound : (r : ℕ) → r < ranks → AreSoundBefore far (parts r) (handled r) p
    pub grown : IsGrown g.edges chosen label
    pub has : (r : ℕ) → r < ranks → (e : Edge) → Contains chosen e ↔ ((i : ℕ) × IsChosen far (parts r) (handled r) p i × (edge_at g i ≡ e))
    pub within : (r : ℕ) → r < ranks → (i : ℕ) → IsChosen far (parts r) (handled r) p i → i < length g.edges

  none_before : (r i : ℕ) → IsChosen far (parts r) (handled r) 0 i → ⊥
  none_before r i c = omega (arith, c.before)

  at_first : Reached 0
  at_first = record {
    label = λ v. v;
    chosen = [];
    same = λ r h. refl;
    inside = λ v is. is;
    sound = λ r h q below. absurd (omega arith);
    grown = phases_begin g.edges;
    has = λ r h e. (λ c. absurd (omega (arith, c.1)), λ c. absurd (none_before r c.0 c.1));
    within = λ r h i c. absurd (none_before r i c);
  }

  phases_at : (p : ℕ) → Reached p → (r : ℕ) → r < ranks → IsPhase far (parts r) (handled r) (promised r) (states r) p
  phases_at p is r h = (kept.keeps r h).phase p (is.sound r h)

  at_next : (p : ℕ) → 3 * p + 2 ≤ kept.last → Reached p → Reached (suc p)
  at_next p late is = record {
    label = next far g ranks parts states handled promised kept pos p is.label is.same (phases_at p is) late is.inside;
    chosen = more far g ranks parts states handled promised kept pos p is.label is.same (phases_at p is) late is.inside is.chosen is.grown;
    same = next_same far g ranks parts states handled promised kept pos p is.label is.same (phases_at p is) late is.inside;
    inside = next_inside far g ranks parts states handled promised kept pos p is.label is.same (phases_at p is) late is.inside;
    sound = λ r h q below. ⊎_elim
        (λ now. subst (λ (x : ℕ). IsSound far (parts r) (handled r) x) (sym now) (is_sound far g ranks parts states handled promised kept pos p is.label is.same (phases_at p is) late is.inside r h))
        (λ apart. is.sound r h q (omega (arith, apart, below)))
        (cases_eq q p);
    grown = grows_more far g ranks parts states handled promised kept pos p is.label is.same (phases_at p is) late is.inside is.chosen is.grown;
    has = λ r h. has_more far g ranks parts states handled promised kept pos p is.label is.same (phases_at p is) late is.inside is.chosen is.grown r h (is.has r h);
    within = λ r h. within_more far g ranks parts states handled promised kept pos p is.label is.same (phases_at p is) late is.inside is.chosen is.grown r h (is.within r h);
  }

  reached : (p : ℕ) → 3 * p ≤ kept.last → Reached p
  reached zero early = at_first
  reached (suc p) early = at_next p (omega arith) (reached p (omega arith))

  -- The phase with which the run ended.
  abbrev final : ℕ
  final = kept.last / 3

  at_last : Reached final
  at_last = reached final (omega arith)

  present : (r : ℕ) → r < ranks → IsPresent final (states r).round
  present r h = record { first = omega (arith, kept.round_is r h); last = omega (arith, kept.round_is r h) }

  second_round : 3 * final + 1 ≤ kept.last
  second_round =
      let over = (phases_at final at_last 0 pos).ended (present 0 pos) (kept.ended 0 pos) in
      omega (arith, over.0, kept.round_is 0 pos)

  no_winners : (l : ℕ) → IsVertex g.n l → winner (parts 0) (handled 0) at_last.label final l ≡ NO_KEY
  no_winners l v =
      let over = (phases_at final at_last 0 pos).ended (present 0 pos) (kept.ended 0 pos) in
      subst (λ (f : ℕ → ℕ). winner (parts 0) (handled 0) f final l ≡ NO_KEY) (at_last.same 0 pos)
      (over.1 l (subst (λ (n : ℕ). IsVertex n l) (sym (kept.divided.vertices 0 pos)) v))

  all_keep : (l : ℕ) (d : Edge) → Contains g.edges d → KeepsWithin at_last.label l d
  all_keep = no_winner_keeps far g ranks parts states handled promised kept pos final at_last.label at_last.same (phases_at final at_last) second_round at_last.inside no_winners

  no_hooks : AreHooks g.edges (up_to g.n) at_last.label (λ l. no_edge) (λ l. l)
  no_hooks = record {
    hooked = λ l moves. absurd (moves refl);
    listed = λ l moves. absurd (moves refl);
    free = λ l still. all_keep l;
  }

  has_forest : HasForest g.edges at_last.chosen
  has_forest = phases_end g.edges at_last.chosen (up_to g.n) at_last.label (λ l. no_edge) (λ l. l) at_last.grown no_hooks (λ l. refl)

  -- Two places of the list of edges have two edges.
  places_apart : (i j : ℕ) → i < length g.edges → j < length g.edges → edge_at g i ≡ edge_at g j → (i ≡ j) ⊎ ((i < j) ⊎ (j < i)) → i ≡ j
  places_apart i j hi hj same (inl is) = is
  places_apart i j hi hj same (inr (inl less)) = absurd (not_before (edge_at g i) (edge_at g j) same (kept.graph.ascending i j no_edge less hj)) where
    not_before : (d e : Edge) → d ≡ e → Precedes d e → ⊥
    not_before d e is before = omega (arith, before.second (ap (λ (x : Edge). x.u) is), ap (λ (x : Edge). x.v) is)
  places_apart i j hi hj same (inr (inr more)) = absurd (not_before (edge_at g j) (edge_at g i) (sym same) (kept.graph.ascending j i no_edge more hi)) where
    not_before : (d e : Edge) → d ≡ e → Precedes d e → ⊥
    not_before d e is before = omega (arith, before.second (ap (λ (x : Edge). x.u) is), ap (λ (x : Edge). x.v) is)

  chosen_is_in : (r i : ℕ) → r < ranks → IsChosen far (parts r) (handled r) final i → (i < length g.edges) × InForest g.edges (edge_at g i)
  chosen_is_in r i h c = (
    at_last.within r h i c,
    All-contains (InForest g.edges) at_last.chosen (edge_at g i) at_last.grown.part ((at_last.has r h (edge_at g i)).1 (i, c, refl)),
  )

  in_is_chosen : (r i : ℕ) → r < ranks → (i < length g.edges) × InForest g.edges (edge_at g i) → IsChosen far (parts r) (handled r) final i
  in_is_chosen r i h both =
      let found = (at_last.has r h (edge_at g i)).0 (has_forest (edge_at g i) both.1) in
      let same : found.0 ≡ i = places_apart found.0 i (at_last.within r h found.0 found.1) both.0 found.2 (cases_order found.0 i) in
      subst (IsChosen far (parts r) (handled r) final) same found.1

  pub is_forest : (r : ℕ) → r < ranks → IsForest g.edges (edges_of g (states r))
  is_forest r h =
      let phase = phases_at final at_last r h in
      let now = present r h in
      indices_give_forest g.edges no_edge (states r).edges kept.graph.ascending (phase.ascending now)
      (λ i. (λ c. chosen_is_in r i h ((phase.edges now i).0 c), λ both. (phase.edges now i).1 (in_is_chosen r i h both)))

pub whole_is_forest : WholeIsForest
whole_is_forest far g ranks parts states sent taken run r h =
    is_forest far g ranks parts states (λ q. handled_by far g ranks parts states sent taken run q (cases_lt q ranks)) (λ q. promised_by far g ranks parts states sent taken run q (cases_lt q ranks))
    (is_kept far g ranks parts states sent taken run) (omega (arith, h)) r h

pub whole_is_least : WholeIsLeast
whole_is_least far g ranks parts states sent taken run r h =
    forest_is_least g.edges (edges_of g (states r)) (whole_is_forest far g ranks parts states sent taken run r h)
