-- Where no key leaves a label, each edge stays within it.
use Rattle.std.proofs.Common.{◌≡◌, ◌⊎◌, ℕ, ◌+◌, ◌*◌, ◌<◌, ◌≤◌, List, length, refl, sym, ◌∙◌, subst, inl, inr, ⊎_elim, arith, Contains}
use Rattle.std.proofs.lemmas.Bool.{cases_eq, cases_lt}
use Rattle.std.proofs.lemmas.List.{get_or_default}
use Rattle.std.proofs.lemmas.List.Elements.{All-contains, Contains-get_or}
use Rattle.pg_base.specs.declared.edges.Edge.{Edge}
use Rattle.pg_base.specs.Graph.{Graph, IsEdge}
use Rattle.pg_base.specs.KeyLaws.{key_number}
use Rattle.pg_forest.specs.Phases.{KeepsWithin}
use Rattle.pg_group.specs.declared.messages.Body.{Body}
use Rattle.pg_boruvka.specs.declared.TheConstants.{NO_KEY}
use Rattle.pg_boruvka.specs.declared.messages.Message.{Message}
use Rattle.pg_adj.specs.Division.{no_edge}
use Rattle.pg_adj.specs.Portions.{IsVertex}
use Rattle.pg_boruvka.specs.Parts.{Part, arc_of, edge_at}
use Rattle.pg_boruvka.specs.Winners.{winner}
use Rattle.pg_boruvka.specs.Hooks.{label_in}
use Rattle.pg_boruvka.specs.LocalDense.{State, IsPhase}
use Rattle.pg_boruvka.proofs.Leasts.{IsLeastOf}
use Rattle.pg_boruvka.proofs.OwnHooks.{leaves_from}
use Rattle.pg_boruvka.proofs.Runs.{Kept}
use Rattle.pg_boruvka.proofs.Reducing.{IsLeavingKey, leaving_is_small, winner_is_least}

module _ (far : ℕ) (g : Graph) (ranks : ℕ) (parts : ℕ → Part) (states : ℕ → State) (handled promised : ℕ → List (List (Body Message))) (kept : Kept far g ranks parts states handled promised) (pos : 0 < ranks)
    (p : ℕ) (label : ℕ → ℕ) (same : (r : ℕ) → r < ranks → label_in far (parts r) (handled r) p ≡ label)
    (phases : (r : ℕ) → r < ranks → IsPhase far (parts r) (handled r) (promised r) (states r) p) (soon : 3 * p + 1 ≤ kept.last)
    (inside : (v : ℕ) → IsVertex g.n v → IsVertex g.n (label v)) where
  abbrev Leaving : ℕ → ℕ → Type 0
  Leaving l x = IsLeavingKey far g ranks parts states handled promised kept label l x

  -- The winners as rank 0 has them.
  abbrev win : ℕ → ℕ
  win l = winner (parts 0) (handled 0) label p l

  win_is_least : (l : ℕ) → IsVertex g.n l → IsLeastOf (Leaving l) (win l)
  win_is_least l v = winner_is_least far g ranks parts states handled promised kept p label same phases soon 0 l pos v

  small : (l x : ℕ) → Leaving l x → x < NO_KEY
  small l x is = leaving_is_small far g ranks parts states handled promised kept label l x is

  -- The ends of an edge of the graph are vertices.
  pub ends_are : (i : ℕ) → i < length g.edges → IsVertex g.n (edge_at g i).u × IsVertex g.n (edge_at g i).v
  ends_are i h =
      let is = All-contains (IsEdge g.n) g.edges (edge_at g i) kept.graph.within (Contains-get_or g.edges i no_edge h) in
      (record { first = is.first; last = omega (arith, is.ascends, is.last) }, record { first = omega (arith, is.ascends, is.first); last = is.last })

  -- Where an edge's key is no key that leaves the label, the edge stays within.
  pub keeps_by : (l i : ℕ) → i < length g.edges → (Leaving l (key_number (edge_at g i) i) → ⊥) → KeepsWithin label l (edge_at g i)
  keeps_by l i h never = (
    λ at. ⊎_elim (λ also. also) (λ apart. absurd (
        let held = kept.divided.forth i h in
        never (record {
          rank = held.rank;
          within = held.within;
          own = record {
            arc = arc_of g i (edge_at g i).u (edge_at g i).v;
            from = record { among = held.among; leaves = leaves_from label l (arc_of g i (edge_at g i).u (edge_at g i).v) at apart };
            key = refl;
          };
        })
        )) (cases_eq (label (edge_at g i).v) l),
    λ at. ⊎_elim (λ also. also) (λ apart. absurd (
        let held = kept.divided.back i h in
        never (record {
          rank = held.rank;
          within = held.within;
          own = record {
            arc = arc_of g i (edge_at g i).v (edge_at g i).u;
            from = record { among = held.among; leaves = leaves_from label l (arc_of g i (edge_at g i).v (edge_at g i).u) at apart };
            key = refl;
          };
        })
        )) (cases_eq (label (edge_at g i).u) l),
  )

  -- A fact of each place of the list of edges is one of each edge.
  pub by_place : (P : Edge → Type 0) (d : Edge) → Contains g.edges d → ((i : ℕ) → i < length g.edges → edge_at g i ≡ d → P (edge_at g i)) → P d
  by_place P d c each =
      let is : edge_at g c.0 ≡ d = sym (get_or_default g.edges c.0 d no_edge c.1) ∙ c.2 in
      subst P is (each c.0 c.1 is)

  abbrev pub Stays : ℕ → Type 0
  Stays l = (d : Edge) → Contains g.edges d → KeepsWithin label l d

  pub no_winner_stays : (l : ℕ) → IsVertex g.n l → win l ≡ NO_KEY → Stays l
  no_winner_stays l v none d c =
      by_place (KeepsWithin label l) d c (λ i at is. keeps_by l i at (λ leaving.
      omega (arith, (win_is_least l v).lowest (key_number (edge_at g i) i) leaving, small l (key_number (edge_at g i) i) leaving, none)))

  pub outside_stays : (l : ℕ) → (IsVertex g.n l → ⊥) → Stays l
  outside_stays l out d c =
      by_place (KeepsWithin label l) d c (λ i at is.
      let ends = ends_are i at in
      (λ e. absurd (out (subst (IsVertex g.n) e (inside (edge_at g i).u ends.0))), λ e. absurd (out (subst (IsVertex g.n) e (inside (edge_at g i).v ends.1)))))

  pub vertex_cases : (l : ℕ) → IsVertex g.n l ⊎ (IsVertex g.n l → ⊥)
  vertex_cases l = ⊎_elim
      (λ first. ⊎_elim
      (λ past. inr (λ v. omega (arith, v.last, past)))
      (λ last. inl (record { first = first; last = last }))
      (cases_lt g.n l))
      (λ none. inr (λ v. omega (arith, v.first, none)))
      (cases_lt 0 l)

  -- Where no label has a winner, each edge stays within each label.
  pub no_winner_keeps : ((l : ℕ) → IsVertex g.n l → win l ≡ NO_KEY) → (l : ℕ) → Stays l
  no_winner_keeps none l = ⊎_elim (λ v. no_winner_stays l v (none l v)) (λ out. outside_stays l out) (vertex_cases l)
