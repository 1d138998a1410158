-- Relaxations that have ended over a book hold the best values: by hops the least numbers of arcs, by root the lowest vertices.
use Rattle.std.proofs.Common.{◌≡◌, ℕ, ◌+◌, ◌^◌, ◌<◌, ◌≤◌, List, length, sym, ap, ◌∙◌, subst, arith, Option, Some, None, All}
use Rattle.std.specs.Prelude.{option_and_then, slice_get, slice_index_or}
use Rattle.std.proofs.lemmas.List.Elements.{All-contains}
use Rattle.std.proofs.lemmas.Option.{slice_get_within}
use Rattle.pg_lane.specs.declared.settling.Settled.{Settled}
use Rattle.pg_group.specs.declared.messages.Envelope.{Envelope}
use Rattle.pg_run.specs.Lanes.{sent_on, taken_on}
use Rattle.pg_base.specs.Graph.{Graph, IsGraph, Arc, arcs_of}
use Rattle.pg_base.specs.Walk.{LeastArcs}
use Rattle.pg_base.specs.Distances.{AreLeastArcs}
use Rattle.pg_group.specs.Book.{PairLists}
use Rattle.pg_group.proofs.Growing.{entry_map}
use Rattle.pg_group.proofs.ByRank.{length_of_map}
use Rattle.pg_dist.specs.Sharing.{Sharing, IsSharing}
use Rattle.pg_adj.specs.Portions.{Portion}
use Rattle.pg_label.specs.declared.values.Value.{Value}
use Rattle.pg_label.specs.declared.labels.Label.{Ghosts as LabelGhosts}
use Rattle.pg_label.specs.declared.labels.Hops.{Hops}
use Rattle.pg_label.specs.declared.labels.Root.{Root}
use Rattle.pg_label.specs.contracts.labels.HopsLabel.TheImpl.{ghosts as by_hops}
use Rattle.pg_label.specs.contracts.labels.RootLabel.TheImpl.{ghosts as by_root}
use Rattle.pg_agenda.specs.declared.agendas.Agenda.{Ghosts as AgendaGhosts}
use Rattle.pg_agenda.specs.Shares.{Places}
use Rattle.pg_best.specs.declared.offers.Offer.{Offer}
use Rattle.pg_best.specs.Best.{Best}
use Rattle.pg_best.specs.Relaxation.{IsArc}
use Rattle.pg_best.specs.Relaxed.{Relaxed}
use Rattle.pg_best.proofs.LabelLemmas.{hops_are_least, roots_are_lowest}
use Rattle.pg_relax.specs.declared.relaxing.Relax.{Relax}
use Rattle.pg_relax.specs.Shown.{part_in, label_in, state_of}
use Rattle.pg_relax.specs.States.{part_of, label_of}
use Rattle.pg_relax.specs.Tables.{value_at}
use Rattle.pg_relax.specs.Kept.{HasRelaxed}
use Rattle.pg_relax.specs.Whole.{State, AreDivided, HasRelaxedOver}
use Rattle.pg_relax.proofs.DivisionLemmas.{divided_parts, arcs_join}
use Rattle.pg_relax.proofs.WholeLemmas.{whole_is_best, whole_is_relaxed}
use Rattle.pg_top.specs.declared.columns.Field.{Field}
use Rattle.pg_top.specs.declared.columns.Field.TheVariants.{Amount, Class}
use Rattle.pg_top.specs.Paired.{IsRelaxedOver}
use Rattle.pg_top.specs.Relaxed.{AreAnswers, HavePlaces, IsRelaxation, class_in, field_in, value_of}
use Rattle.pg_top.specs.Text.{AreLowest, IsRootOf}
use Rattle.pg_top.proofs.BestLemmas.{divided_alike, got}
use Rattle.pg_top.proofs.RunLemmas.{entry_below}

module _ {L A : Type 0} {l : LabelGhosts L} {a : AgendaGhosts A} {takes : Places} (label : L) (s : Sharing) (laws : IsSharing s) (g : Graph) (sent taken : PairLists Offer)
    (programs : List (Relax L A l a)) (run : IsRelaxedOver label takes s g sent taken programs) where
  -- a rank's opening
  opening_at : (r : ℕ) (p : Relax L A l a) → slice_get programs r ≡ Some p → (start : Relax L A l a) × (slice_get run.openings r ≡ Some start)
  opening_at r p at = entry_below run.openings r (omega (arith, slice_get_within programs r p at, run.count, run.opens.divided.count, ap length run.opens.opened, length_of_map part_in run.openings))

  -- a rank's part is that of the division
  part_stays : (r : ℕ) (p : Relax L A l a) (d : Portion) → slice_get programs r ≡ Some p → slice_index_or run.opens.parts r d ≡ part_in p
  part_stays r p d at =
      let o = opening_at r p at in
      let there : slice_get run.opens.parts r ≡ Some (part_in o.0) = ap (λ l. slice_get l r) (sym run.opens.opened) ∙ entry_map part_in run.openings r o.0 o.1 in
      got run.opens.parts r (part_in o.0) d there ∙ sym (run.kept r p at o.0 o.1).keeps.part

  label_stays : (r : ℕ) (p : Relax L A l a) → slice_get programs r ≡ Some p → label_in p ≡ label
  label_stays r p at =
      let o = opening_at r p at in
      (run.kept r p at o.0 o.1).keeps.label ∙ run.opens.labels r o.0 o.1

  -- the places of the vertices
  pub places_over : HavePlaces s programs
  places_over v p first last at =
      let h = laws.owner_is_rank v first last in
      let stays : slice_index_or run.opens.parts (s.owner v) (part_in p) ≡ part_in p = part_stays (s.owner v) p (part_in p) at in
      let part = run.opens.divided.part (s.owner v) (part_in p) h in
      omega (arith, laws.local_below v first last, part.share.count, ap (λ (q : Portion). length q.vertices) stays)

  module _ (is : IsGraph g) (same : g.n ≡ s.n) (costs : All (λ (b : Arc). l.add label b.weight < 2 ^ 32) (arcs_of g.edges)) where
    -- what the rank's program shows, for ranks that have one
    abbrev states_by : Relax L A l a → ℕ → State
    states_by d r = state_of (slice_index_or programs r d)

    here : (r : ℕ) → r < s.ranks → (q : Relax L A l a) × (slice_get programs r ≡ Some q)
    here r h = entry_below programs r (omega (arith, h, run.count))

    divided_among : (d : Relax L A l a) → AreDivided (label_of (l.start label) (l.add label)) g.n s.ranks (arcs_of g.edges) s.owner s.local (states_by d)
    divided_among d = record {
      size = is.vertices;
      joining = arcs_join g is;
      costs = costs;
      divided = divided_alike g.n s.ranks (arcs_of g.edges) s.owner s.local (λ r. part_of (slice_index_or run.opens.parts r (part_in d))) (λ r. part_of (states_by d r).part) (arcs_join g is)
          (λ r h. let q = here r h in ap part_of (part_stays r q.0 (part_in d) q.1 ∙ ap part_in (sym (got programs r q.0 d q.1))))
          (divided_parts s laws g is run.opens.parts run.opens.divided same (part_in d));
    }

    kept_by : (d : Relax L A l a) (r : ℕ) → r < s.ranks → HasRelaxedOver (label_of (l.start label) (l.add label)) s.ranks r sent taken (states_by d r)
    kept_by d r h =
        let q = here r h in
        let o = opening_at r q.0 q.1 in
        let k = run.kept r q.0 q.1 o.0 o.1 in
        subst (λ x. HasRelaxedOver (label_of (l.start label) (l.add label)) s.ranks r sent taken (state_of x)) (sym (got programs r q.0 d q.1))
        (record {
          handled = k.handled;
          promised = k.promised;
          ended = k.ended;
          keeps = let t = state_of q.0 in subst (λ x. HasRelaxed (label_of (l.start x) (l.add x)) t.part t.takes k.handled k.promised t.values t.pending t.ahead t.round t.cast t.ended t.sends) (label_stays r q.0 q.1) k.keeps.relaxed;
          handled_is = k.handled_is;
          sent_is = k.sent_is;
        })

    -- the value of a vertex, by the program of its owner
    value_by : (d : Relax L A l a) (v : ℕ) → 1 ≤ v → v ≤ g.n → value_of s programs v ≡ value_at (states_by d (s.owner v)).values (s.local v)
    value_by d v first last =
        let q = here (s.owner v) (laws.owner_is_rank v first (omega (arith, last, same))) in
        ap (option_and_then (λ p. value_at (state_of p).values (s.local v))) q.1 ∙ ap (λ p. value_at (state_of p).values (s.local v)) (sym (got programs (s.owner v) q.0 d q.1))

    pub best_over : (v : ℕ) → 1 ≤ v → v ≤ g.n → Best (label_of (l.start label) (l.add label)) (arcs_of g.edges) v (value_of s programs v)
    best_over v first last =
        let q = here (s.owner v) (laws.owner_is_rank v first (omega (arith, last, same))) in
        subst (Best (label_of (l.start label) (l.add label)) (arcs_of g.edges) v) (sym (value_by q.0 v first last))
        (whole_is_best (label_of (l.start label) (l.add label)) g.n s.ranks (arcs_of g.edges) s.owner s.local (states_by q.0) sent taken
        (divided_among q.0) run.book run.marks (kept_by q.0) v (record { first = first; last = last }))

    pub relaxed_over : Relaxed (label_of (l.start label) (l.add label)) (arcs_of g.edges) s.owner s.local (value_of s programs) sent
    relaxed_over arc x given apart has within =
        let ends = All-contains (IsArc g.n) (arcs_of g.edges) arc (arcs_join g is) given in
        let q = here (s.owner arc.from) (laws.owner_is_rank arc.from ends.from.first (omega (arith, ends.from.last, same))) in
        whole_is_relaxed (label_of (l.start label) (l.add label)) g.n s.ranks (arcs_of g.edges) s.owner s.local (states_by q.0) sent taken
        (divided_among q.0) run.book run.marks (kept_by q.0) arc x given apart (sym (value_by q.0 arc.from ends.from.first ends.from.last) ∙ has) within

-- A relaxation over lanes is one over the book that they hold.
module _ {L A : Type 0} {l : LabelGhosts L} {a : AgendaGhosts A} {takes : Places} (label : L) (s : Sharing) (laws : IsSharing s) (g : Graph) (capacity : ℕ)
    (programs : List (Relax L A l a)) (lanes : List (Settled (Envelope Offer))) (run : IsRelaxation label takes s g capacity programs lanes) where
  on_lanes : IsRelaxedOver label takes s g (sent_on s.ranks lanes) (taken_on s.ranks lanes) programs
  on_lanes = record {
    openings = run.run.openings;
    opens = record { parts = run.parts; divided = run.divided; opened = run.run.opened; new = run.run.new; labels = run.run.labels; shares = run.run.shares };
    shares = run.run.final_shares;
    count = run.run.count;
    book = run.run.book;
    marks = run.run.marks;
    kept = run.run.kept;
  }

  -- the places of its vertices
  pub places_of : HavePlaces s programs
  places_of = places_over label s laws g (sent_on s.ranks lanes) (taken_on s.ranks lanes) programs on_lanes

  module _ (is : IsGraph g) (same : g.n ≡ s.n) (costs : All (λ (b : Arc). l.add label b.weight < 2 ^ 32) (arcs_of g.edges)) where
    pub lanes_are_relaxed : Relaxed (label_of (l.start label) (l.add label)) (arcs_of g.edges) s.owner s.local (value_of s programs) (sent_on s.ranks lanes)
    lanes_are_relaxed = relaxed_over label s laws g (sent_on s.ranks lanes) (taken_on s.ranks lanes) programs on_lanes is same costs

    -- The numbers that are answered are those of the best values.
    pub answered : (field : Field) (answers : List (Option ℕ)) → AreAnswers field s programs answers → (v : ℕ) → v < g.n
        → (value : Option Value) × Best (label_of (l.start label) (l.add label)) (arcs_of g.edges) (v + 1) value × (slice_index_or answers v None ≡ field_in field value)
    answered field answers are v h = (
      value_of s programs (v + 1),
      best_over label s laws g (sent_on s.ranks lanes) (taken_on s.ranks lanes) programs on_lanes is same costs (v + 1) (omega arith) (omega (arith, h)),
      are.each v (omega (arith, h, same)),
    )

-- arcs that cost one each cost little
cheap : (arcs : List Arc) → All (λ (b : Arc). 1 < 2 ^ 32) arcs
cheap arcs = λ k d h. omega arith

module _ {A : Type 0} {a : AgendaGhosts A} {takes : Places} (s : Sharing) (laws : IsSharing s) (g : Graph) (is : IsGraph g) (same : g.n ≡ s.n) (sent taken : PairLists Offer) (answers : List (Option ℕ)) where
  pub hops_over : (source : Hops) (programs : List (Relax Hops A by_hops a)) → IsRelaxedOver source takes s g sent taken programs → AreAnswers Amount s programs answers
      → AreLeastArcs g source.source answers × Relaxed (label_of (by_hops.start source) (by_hops.add source)) (arcs_of g.edges) s.owner s.local (value_of s programs) sent
  hops_over source programs run are = (
    record {
      count = are.count ∙ sym same;
      each = λ v h.
          let best = best_over source s laws g sent taken programs run is same (cheap (arcs_of g.edges)) (v + 1) (omega arith) (omega (arith, h)) in
          subst (LeastArcs (arcs_of g.edges) source.source (v + 1)) (sym (are.each v (omega (arith, h, same)))) (hops_are_least (arcs_of g.edges) source.source (v + 1) (value_of s programs (v + 1)) best);
    },
    relaxed_over source s laws g sent taken programs run is same (cheap (arcs_of g.edges)),
  )

  pub roots_over : (root : Root) (programs : List (Relax Root A by_root a)) → IsRelaxedOver root takes s g sent taken programs → AreAnswers Class s programs answers
      → AreLowest g answers × Relaxed (label_of (by_root.start root) (by_root.add root)) (arcs_of g.edges) s.owner s.local (value_of s programs) sent
  roots_over root programs run are = (
    record {
      count = are.count ∙ sym same;
      each = λ v h.
          let best = best_over root s laws g sent taken programs run is same (cheap (arcs_of g.edges)) (v + 1) (omega arith) (omega (arith, h)) in
          let x = roots_are_lowest (arcs_of g.edges) (v + 1) (value_of s programs (v + 1)) best in
          subst (IsRootOf g (v + 1)) (sym (are.each v (omega (arith, h, same)) ∙ ap class_in x.1)) x.2;
    },
    relaxed_over root s laws g sent taken programs run is same (cheap (arcs_of g.edges)),
  )
