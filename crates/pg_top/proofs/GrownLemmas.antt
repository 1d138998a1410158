-- Borůvka's method over a divided graph ends with its least spanning forest on each rank.
use Rattle.std.proofs.Common.{◌≡◌, ℕ, suc, zero, ◌+◌, ◌<◌, ◌≤◌, ◌++◌, Bool, true, false, List, [], ◌∷◌, length, map, get_or, refl, sym, ap, ◌∙◌, subst, arith, Option, Some, All, length-append}
use Rattle.std.specs.Prelude.{slice_get, slice_index_or}
use Rattle.std.proofs.lemmas.List.{get_or_append_left, get_or_push}
use Rattle.std.proofs.lemmas.Option.{slice_get_within}
use Rattle.pg_base.specs.declared.TheConstants.{MAX_VERTICES, MAX_WEIGHT}
use Rattle.pg_base.specs.declared.edges.Edge.{Edge}
use Rattle.pg_base.specs.Graph.{Graph, IsGraph}
use Rattle.pg_base.specs.Forest.{IsForest}
use Rattle.pg_forest.proofs.WholeForests.{forest_is_least, forest_is_one}
use Rattle.pg_group.specs.declared.messages.Envelope.{Envelope}
use Rattle.pg_group.proofs.Growing.{entry_map}
use Rattle.pg_group.proofs.ByRank.{length_of_map}
use Rattle.pg_lane.specs.declared.settling.Settled.{Settled}
use Rattle.pg_run.specs.Lanes.{sent_on, taken_on}
use Rattle.pg_print.specs.Forests.{edges_at, forest_text}
use Rattle.pg_dist.specs.Sharing.{Sharing, IsSharing}
use Rattle.pg_adj.specs.Portions.{Portion}
use Rattle.pg_boruvka.specs.declared.dense.Dense.{Dense}
use Rattle.pg_boruvka.specs.declared.messages.Message.{Message}
use Rattle.pg_boruvka.specs.Chosen.{marked, marked_from}
use Rattle.pg_boruvka.specs.Known.{edges_in, part_in, state_of, view_of}
use Rattle.pg_boruvka.specs.LocalDense.{LocalDense, State}
use Rattle.pg_boruvka.specs.Parts.{Part}
use Rattle.pg_boruvka.specs.Portions.{part_of}
use Rattle.pg_boruvka.specs.Whole.{HasEndedOver, IsRun}
use Rattle.pg_boruvka.proofs.Divisions.{divisions_serve}
use Rattle.pg_boruvka.proofs.Ending.{whole_is_forest}
use Rattle.pg_top.specs.Grown.{IsGrowth}
use Rattle.pg_top.specs.Relaxed.{AreInOrder}
use Rattle.pg_top.specs.Text.{IsForestText, IsLeastForest}
use Rattle.pg_top.specs.Work.{HasForest, IsGrownBy, SpellsForest}
use Rattle.pg_top.proofs.BestLemmas.{got}
use Rattle.pg_top.proofs.RightLemmas.{distribution_n, distribution_ranks}
use Rattle.pg_top.proofs.RunLemmas.{entry_below}

-- the front and the last of a list of which each has its fact
pub all_but_last : {X : Type 0} (P : X → Type 0) (all xs : List X) (x : X) → all ≡ xs ++ x ∷ [] → All P all → All P xs × P x
all_but_last P all xs x is each =
    let long : length all ≡ length xs + 1 = ap length is ∙ length-append xs (x ∷ []) in (
      λ k d h. subst P (ap (λ l. get_or l k d) is ∙ get_or_append_left xs (x ∷ []) d k h) (each k d (omega arith)),
      subst P (ap (λ l. get_or l (length xs) x) is ∙ get_or_push xs x x (length xs) refl) (each (length xs) x (omega arith)),
    )

-- programs over parts that are in order have their ranks and their number
pub in_order : (programs : List Dense) (parts : List Portion) (edges : ℕ) → map part_in programs ≡ map (part_of edges) parts → AreInOrder parts
    → (k : ℕ) (p : Dense) → slice_get programs k ≡ Some p → ((part_in p).rank ≡ k) × ((part_in p).ranks ≡ length programs)
in_order programs parts edges same order k p at =
    let q = entry_below parts k (omega (arith, slice_get_within programs k p at, ap length same, length_of_map part_in programs, length_of_map (part_of edges) parts)) in
    let there : Some (part_in p) ≡ Some (part_of edges q.0) = sym (entry_map part_in programs k p at) ∙ (ap (λ l. slice_get l k) same ∙ entry_map (part_of edges) parts k q.0 q.1) in
    let is : part_in p ≡ part_of edges q.0 = cc in
    let said = order k q.0 q.1 in
    (ap (λ (x : Part). x.rank) is ∙ said.0, ap (λ (x : Part). x.ranks) is ∙ (said.1 ∙ (sym (length_of_map (part_of edges) parts) ∙ (ap length (sym same) ∙ length_of_map part_in programs))))

-- what is marked lies below, and isn't more
marked_below : (marks : List Bool) (i : ℕ) → All (λ k. k < i + length marks) (marked_from i marks) × (length (marked_from i marks) ≤ length marks)
marked_below [] i = ((λ k d h. absurd (omega arith)), omega arith)
marked_below (true ∷ marks) i = let rest = marked_below marks (i + 1) in (first_and i marks rest.0, omega (arith, rest.1)) where
  first_and : (i : ℕ) (marks : List Bool) → All (λ k. k < (i + 1) + length marks) (marked_from (i + 1) marks) → All (λ k. k < i + suc (length marks)) (i ∷ marked_from (i + 1) marks)
  first_and i marks each zero d h = omega arith
  first_and i marks each (suc k) d h = omega (arith, each k d (omega arith))
marked_below (false ∷ marks) i = let rest = marked_below marks (i + 1) in ((λ k d h. omega (arith, rest.0 k d h)), omega (arith, rest.1))

pub marks_below : (marks : List Bool) (n : ℕ) → length marks ≡ n → All (λ k. k < n) (marked marks) × (length (marked marks) ≤ n)
marks_below marks n long = let m = marked_below marks 0 in ((λ k d h. omega (arith, m.0 k d h, long)), omega (arith, m.1, long))

module _ (s : Sharing) (g : Graph) (capacity : ℕ) (programs : List Dense) (lanes : List (Settled (Envelope Message))) (growth : IsGrowth s g capacity programs lanes) where
  below_ranks : (r : ℕ) (p : Dense) → slice_get programs r ≡ Some p → r < s.ranks
  below_ranks r p at = omega (arith, slice_get_within programs r p at, growth.run.count)

  opening_at : (r : ℕ) → r < s.ranks → (start : Dense) × (slice_get growth.run.openings r ≡ Some start)
  opening_at r h =
      entry_below growth.run.openings r (omega (arith, h, growth.divided.count, ap length growth.run.opened, length_of_map part_in growth.run.openings, length_of_map (part_of (length g.edges)) growth.parts))

  -- a rank's part stays that of the division
  part_stays : (r : ℕ) (p : Dense) (other : Portion) → slice_get programs r ≡ Some p → part_in p ≡ part_of (length g.edges) (slice_index_or growth.parts r other)
  part_stays r p other at =
      let h = below_ranks r p at in
      let o = opening_at r h in
      let q = entry_below growth.parts r (omega (arith, h, growth.divided.count)) in
      let there : Some (part_in o.0) ≡ Some (part_of (length g.edges) q.0) =
      sym (entry_map part_in growth.run.openings r o.0 o.1) ∙ (ap (λ l. slice_get l r) growth.run.opened ∙ entry_map (part_of (length g.edges)) growth.parts r q.0 q.1) in
      let same : part_in o.0 ≡ part_of (length g.edges) q.0 = cc in
      (growth.run.kept r p at o.0 o.1).keeps.part ∙ (same ∙ ap (part_of (length g.edges)) (sym (got growth.parts r q.0 other q.1)))

  pub indices_below : (r : ℕ) (p : Dense) → slice_get programs r ≡ Some p → All (λ i. i < length g.edges) (edges_in p) × (length (edges_in p) ≤ length g.edges)
  indices_below r p at =
      let other = p.part.value in
      marks_below p.tables.chosen.items (length g.edges) (ap (λ (q : Part). q.edges) (part_stays r p other at))

  module _ (laws : IsSharing s) (is : IsGraph g) (same : g.n ≡ s.n) (light : All (λ (e : Edge). e.w ≤ MAX_WEIGHT) g.edges) where
    abbrev states_by : Dense → ℕ → State
    states_by d r = state_of (view_of (slice_index_or programs r d))

    ended_by : (d : Dense) (other : Portion) (r : ℕ) → r < s.ranks
        → HasEndedOver MAX_VERTICES s.ranks r (sent_on s.ranks lanes) (taken_on s.ranks lanes) (part_of (length g.edges) (slice_index_or growth.parts r other)) (states_by d r)
    ended_by d other r h =
        let q = entry_below programs r (omega (arith, h, growth.run.count)) in
        let o = opening_at r h in
        let k = growth.run.kept r q.0 q.1 o.0 o.1 in
        subst (λ x. HasEndedOver MAX_VERTICES s.ranks r (sent_on s.ranks lanes) (taken_on s.ranks lanes) (part_of (length g.edges) (slice_index_or growth.parts r other)) (state_of (view_of x))) (sym (got programs r q.0 d q.1))
        (record {
          handled = k.handled;
          promised = k.promised;
          ended = k.ended;
          keeps = subst (λ x. LocalDense MAX_VERTICES x k.handled k.promised (state_of (view_of q.0))) (part_stays r q.0 other q.1) k.keeps.chosen.local;
          own_handled = k.own_handled;
          handled_is = k.handled_is;
          sent_is = k.sent_is;
        })

    run_by : (d : Dense) (other : Portion) → IsRun MAX_VERTICES g s.ranks (λ r. part_of (length g.edges) (slice_index_or growth.parts r other)) (states_by d) (sent_on s.ranks lanes) (taken_on s.ranks lanes)
    run_by d other = record {
      graph = is;
      weights = light;
      far_enough = is.vertices;
      divided = divisions_serve s g growth.parts other laws is same growth.divided;
      whole = growth.run.book;
      marked = growth.run.marks;
      kept = ended_by d other;
    }

    pub each_is_forest : (r : ℕ) (p : Dense) → slice_get programs r ≡ Some p → IsForest g.edges (edges_at g.edges (edges_in p))
    each_is_forest r p at =
        let other = p.part.value in
        subst (λ x. IsForest g.edges (edges_at g.edges (edges_in x))) (got programs r p p at)
        (whole_is_forest MAX_VERTICES g s.ranks (λ k. part_of (length g.edges) (slice_index_or growth.parts k other)) (states_by p) (sent_on s.ranks lanes) (taken_on s.ranks lanes) (run_by p other) r (below_ranks r p at))

    pub all_are_one : (r k : ℕ) (p q : Dense) → slice_get programs r ≡ Some p → slice_get programs k ≡ Some q → edges_at g.edges (edges_in p) ≡ edges_at g.edges (edges_in q)
    all_are_one r k p q at there = forest_is_one g.edges _ _ (each_is_forest r p at) (each_is_forest k q there)

-- A forest spans, and none undercuts it.
pub least_from_forest : (g : Graph) (tree : List Edge) → IsForest g.edges tree → IsLeastForest g tree
least_from_forest g tree forest =
    let least = forest_is_least g.edges tree forest in
    record { forest = forest; spans = least.0; least = least.1 }

-- What each of the programs holds is the graph's forest.
module _ (owners : Option (List ℕ)) (ranks capacity : ℕ) (g : Graph) (programs : List Dense) (lanes : List (Settled (Envelope Message))) (grown : IsGrownBy owners ranks capacity g programs lanes) where
  pub as_many : length programs ≡ ranks
  as_many = grown.growth.run.count ∙ distribution_ranks owners g.n ranks grown.sharing grown.distribution

  module _ (first : Dense) (at : slice_get programs 0 ≡ Some first) (indices : List ℕ) (same : indices ≡ edges_in first) where
    pub first_below : All (λ i. i < length g.edges) indices × (length indices ≤ length g.edges)
    first_below = subst (λ (list : List ℕ). All (λ i. i < length g.edges) list × (length list ≤ length g.edges)) (sym same) (indices_below grown.sharing g capacity programs lanes grown.growth 0 first at)

    module _ (is : IsGraph g) (light : All (λ (e : Edge). e.w ≤ MAX_WEIGHT) g.edges) where
      n_is : g.n ≡ grown.sharing.n
      n_is = sym (distribution_n owners g.n ranks grown.sharing grown.distribution)

      pub first_is_least : IsLeastForest g (edges_at g.edges indices)
      first_is_least =
          let forest = each_is_forest grown.sharing g capacity programs lanes grown.growth grown.laws is n_is light 0 first at in
          least_from_forest g (edges_at g.edges indices) (subst (λ (list : List ℕ). IsForest g.edges (edges_at g.edges list)) (sym same) forest)

      pub first_is_held : HasForest owners ranks capacity g (edges_at g.edges indices) programs lanes
      first_is_held = record {
        grown = grown;
        held = λ r p there. all_are_one grown.sharing g capacity programs lanes grown.growth grown.laws is n_is light r 0 p first there at ∙ ap (edges_at g.edges) (sym same);
      }

      pub first_is_right : IsForestText g (forest_text (edges_at g.edges indices))
      first_is_right =
          let forest = each_is_forest grown.sharing g capacity programs lanes grown.growth grown.laws is n_is light 0 first at in
          record {
            tree = edges_at g.edges indices;
            right = least_from_forest g (edges_at g.edges indices) (subst (λ (list : List ℕ). IsForest g.edges (edges_at g.edges list)) (sym same) forest);
            spelled = refl;
          }

      pub first_is_spelled : SpellsForest owners ranks capacity g (forest_text (edges_at g.edges indices)) programs lanes
      first_is_spelled = record {
        tree = edges_at g.edges indices;
        grown = grown;
        held = λ r p there. all_are_one grown.sharing g capacity programs lanes grown.growth grown.laws is n_is light r 0 p first there at ∙ ap (edges_at g.edges) (sym same);
        spelled = refl;
      }
