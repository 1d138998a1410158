-- Passing an arc keeps the law of relaxation.
use Rattle.std.proofs.Common.{◌≡◌, ◌≢◌, ◌⊎◌, ℕ, ◌<◌, ◌≤◌, ◌+◌, ◌&&◌, true, false, List, length, refl, sym, ap, ◌∙◌, subst, inl, inr, arith, Some, None, Contains}
use Rattle.std.specs.Prelude.{slice_index, slice_index_or}
use Rattle.std.proofs.lemmas.Bool.{cases_eq}
use Rattle.std.proofs.lemmas.List.Elements.{Contains-get_or, Contains-push}
use Rattle.pg_base.specs.declared.numbers.Vertex.{Vertex}
use Rattle.pg_group.proofs.RollLemmas.{list_at-append_same}
use Rattle.pg_group.specs.declared.messages.Body.{Body}
use Rattle.pg_group.specs.declared.messages.Body.TheVariants.{Item}
use Rattle.pg_group.specs.Ranked.{list_at, append_at}
use Rattle.pg_label.specs.declared.values.Value.{Value}
use Rattle.pg_label.specs.Values.{AtMost, HasAtMost, IsWithin, extended}
use Rattle.pg_agenda.specs.declared.shares.Share.{Share}
use Rattle.pg_agenda.specs.declared.shares.Share.TheVariants as share
use Rattle.pg_agenda.specs.Shares.{Places, AreSame}
use Rattle.pg_adj.specs.declared.arcs.Arc.{Arc}
use Rattle.pg_adj.specs.Portions.{Portion, IsOwnArc}
use Rattle.pg_best.specs.declared.offers.Offer.{Offer}
use Rattle.pg_best.specs.Best.{Label}
use Rattle.pg_best.specs.Parts.{LocalArc, IsAt}
use Rattle.pg_best.specs.LocalRelax.{IsAddressed, IsOffered}
use Rattle.pg_best.proofs.Steps.{IsExtension, IsRelaxed, step_keeps, joined_cases, joined_before}
use Rattle.pg_best.proofs.ValueLemmas.{most_refl}
use Rattle.pg_relax.specs.declared.ahead.Ahead.{Ahead}
use Rattle.pg_relax.specs.Tables.{value_at}
use Rattle.pg_relax.specs.States.{row, local_of, part_of, is_from, is_ahead, due, Relaxes}
use Rattle.pg_relax.specs.Frontiers.{WasLow, Fell}
use Rattle.pg_relax.specs.declared.offered.Offered.{Offered}
use Rattle.pg_relax.specs.Offered.{AreOffered}
use Rattle.pg_relax.specs.Passing.{Extends, GivesNone, HoldsBack, IsPassed, IsOfferOf, KeepsOver, from_arc}
use Rattle.pg_relax.proofs.OfferedLemmas.{offered_along}
use Rattle.pg_relax.proofs.ArcLemmas.{among}
use Rattle.pg_relax.proofs.DueLemmas.{IsDone, is_done, not_due, passed_cases, none_from}
use Rattle.pg_relax.proofs.TableLemmas.{set_here, set_else, below_falls}

abbrev pub after : Ahead → Ahead
after h = record { place = h.place; share = h.share; next = h.next + 1 }

item_same : (o m : Offer) → Item o ≡ Item m → o ≡ m
item_same o m e = cc

-- The arc that is passed: the next one of the place that is being relaxed.
pub record IsNext (p : Portion) (h : Ahead) (b : Arc) : Type 0 where
  pub place : h.place < length p.vertices
  pub next : h.next < length (row p h.place)
  pub is : b ≡ slice_index_or (row p h.place) h.next b
  pub own : IsOwnArc p b

module _ (label : Label) (p : Portion) (takes : Places) (handled sent : List (List (Body Offer))) (h : Ahead) (b : Arc) (at : IsNext p h b)
    (values : List Value) (pending : Places) (each : length values ≡ length p.vertices) (kept : Relaxes label p takes handled sent values pending (Some h)) where
  abbrev here : LocalArc
  here = local_of h.place b

  stands : Contains (part_of p).arcs here
  stands = among p (length p.vertices) h.place b at.place (subst (Contains (row p h.place)) (sym at.is) (Contains-get_or (row p h.place) h.next b at.next))

  start : IsAt (part_of p) here.at (slice_index p.vertices h.place)
  start = record { within = at.place; vertex = refl }

  extension : (y : Value) → Extends label.add values h.place b.w y → (v : ℕ) → b.to.0 ≡ v → IsExtension label (part_of p) (value_at values) v y
  extension y e v to = record { arc = here; among = stands; start = slice_index p.vertices h.place; at = start; to = to; value = e.value; has = e.has; is = e.is }

  still : (takes' pending' : Places) (a : LocalArc) → AreSame takes takes' → ((share : Share) → pending' share a.at ≡ pending share a.at) → IsDone p pending' takes' (Some (after h)) a
      → (due p pending takes (Some h) a ≡ false) ⊎ ((here ≡ a) × (takes h.share a.weight ≡ true))
  still takes' pending' a same_takes same d =
      let behind : is_ahead p takes (Some (after h)) a ≡ false =
      ap (λ t. t && is_from p h.place (h.next + 1) a) (sym (same_takes h.share a.weight)) ∙ d.behind in
      elim (passed_cases p takes h b a at.next at.is behind) [
        | inl before ↦ inl (not_due p pending takes (Some h) a (record {
          light = sym (same share.Light) ∙ d.light;
          whole = sym (same share.All) ∙ d.whole;
          heavy = ap (λ t. t && takes share.Heavy a.weight) (sym (same share.Heavy)) ∙ (ap (λ t. pending' share.Heavy a.at && t) (sym (same_takes share.Heavy a.weight)) ∙ d.heavy);
          behind = before;
        }))
        | inr now ↦ inr now
      ]

  pub none_keeps : (takes' pending' : Places) (values' : List Value) → AreSame takes takes' → GivesNone label.add takes h.place h.share b values pending values' pending'
      → Relaxes label p takes' handled sent values' pending' (Some (after h))
  none_keeps takes' pending' values' same_takes g =
      let cell : (i : ℕ) → value_at values' i ≡ value_at values i = λ i. ap (λ vs. value_at vs i) g.same in
      step_keeps label (part_of p) handled sent (value_at values) (due p pending takes (Some h)) handled sent (value_at values') (due p pending' takes' (Some (after h))) kept (record {
        falls = λ i y m. subst (λ c. HasAtMost c y) (sym (cell i)) m;
        more_handled = λ from o c. c;
        more_sent = λ to o c. c;
        lowered = λ from o c fits. inl c;
        relaxed = λ a c idle. elim (still takes' pending' a same_takes (λ s. g.rests s a.at) (is_done p pending' takes' (Some (after h)) a idle)) [
          | inl before ↦ inl (before, cell a.at)
          | inr now ↦ inr (subst (IsRelaxed label (part_of p) sent (value_at values')) now.0 (record {
            own = λ x has within home. absurd (g.none (ap (λ (c : LocalArc). takes h.share c.weight) now.0 ∙ now.1) x (sym (cell h.place) ∙ has) within);
            other = λ x has within home. absurd (g.none (ap (λ (c : LocalArc). takes h.share c.weight) now.0 ∙ now.1) x (sym (cell h.place) ∙ has) within);
          }))
        ];
        cells = λ i v x at has. inl (sym (cell i) ∙ has);
        offers = λ to o c. inl c;
      })

  module _ (takes' pending' : Places) (values' : List Value) (same_takes : AreSame takes takes') (y : Value) (own : b.home.0 ≡ p.rank) (e : Extends label.add values h.place b.w y) where
    abbrev there : ℕ
    there = b.place

    target : there < length values
    target = omega (arith, at.own.place own, each)

    -- the relaxed arc, where its start's value is as before
    relaxed_own : value_at values' h.place ≡ value_at values h.place → HasAtMost (value_at values' there) y → IsRelaxed label (part_of p) sent (value_at values') here
    relaxed_own same most = record {
      own = λ x has within home.
          let x_is : Some e.value ≡ Some x = sym e.has ∙ (sym same ∙ has) in
          let x_same : e.value ≡ x = cc in
          subst (λ z. HasAtMost (value_at values' there) z) (e.is ∙ ap (λ z. extended z (label.add b.w)) x_same) most;
      other = λ x has within away. absurd (away own);
    }

    pub low_keeps : WasLow there y values pending values' pending' → Relaxes label p takes' handled sent values' pending' (Some (after h))
    low_keeps w =
        let cell : (i : ℕ) → value_at values' i ≡ value_at values i = λ i. ap (λ vs. value_at vs i) w.same in
        step_keeps label (part_of p) handled sent (value_at values) (due p pending takes (Some h)) handled sent (value_at values') (due p pending' takes' (Some (after h))) kept (record {
          falls = λ i z m. subst (λ c. HasAtMost c z) (sym (cell i)) m;
          more_handled = λ from o c. c;
          more_sent = λ to o c. c;
          lowered = λ from o c fits. inl c;
          relaxed = λ a c idle. elim (still takes' pending' a same_takes (λ s. w.rests s a.at) (is_done p pending' takes' (Some (after h)) a idle)) [
            | inl before ↦ inl (before, cell a.at)
            | inr now ↦ inr (subst (IsRelaxed label (part_of p) sent (value_at values')) now.0
                (relaxed_own (cell h.place) (subst (λ c. HasAtMost c y) (sym (cell there)) w.most)))
          ];
          cells = λ i v x at has. inl (sym (cell i) ∙ has);
          offers = λ to o c. inl c;
        })

    cell_there : Fell there y values pending values' pending' → value_at values' there ≡ Some y
    cell_there f = ap (λ vs. value_at vs there) f.set ∙ set_here values there y target e.within

    cell_else : Fell there y values pending values' pending' → (i : ℕ) → i ≢ there → value_at values' i ≡ value_at values i
    cell_else f i apart = ap (λ vs. value_at vs i) f.set ∙ set_else values there i y apart

    marked_not_done : Fell there y values pending values' pending' → (a : LocalArc) → IsDone p pending' takes' (Some (after h)) a → a.at ≢ there
    marked_not_done f a d same = elim f.marked [
      | inl whole ↦ cc
      | inr light ↦ cc
    ]

    pub fell_keeps : Fell there y values pending values' pending' → Relaxes label p takes' handled sent values' pending' (Some (after h))
    fell_keeps f =
        step_keeps label (part_of p) handled sent (value_at values) (due p pending takes (Some h)) handled sent (value_at values') (due p pending' takes' (Some (after h))) kept (record {
          falls = λ i z m. elim (cases_eq i there) [
            | inl same ↦ subst (λ c. HasAtMost c z) (sym (ap (value_at values') same ∙ cell_there f)) (below_falls y z (value_at values there) f.below (subst (λ j. HasAtMost (value_at values j) z) same m))
            | inr apart ↦ subst (λ c. HasAtMost c z) (sym (cell_else f i apart)) m
          ];
          more_handled = λ from o c. c;
          more_sent = λ to o c. c;
          lowered = λ from o c fits. inl c;
          relaxed = λ a c idle.
              let d = is_done p pending' takes' (Some (after h)) a idle in
              let apart = marked_not_done f a d in
              elim (still takes' pending' a same_takes (λ s. f.others s a.at apart) d) [
                | inl before ↦ inl (before, cell_else f a.at apart)
                | inr now ↦ inr (subst (IsRelaxed label (part_of p) sent (value_at values')) now.0
                    (relaxed_own (cell_else f h.place (λ same. apart (sym (ap (λ (c : LocalArc). c.at) now.0) ∙ same))) (subst (λ c. HasAtMost c y) (sym (cell_there f)) (most_refl y))))
              ];
          cells = λ i v x place has. elim (cases_eq i there) [
            | inl same ↦
                let x_is : Some y ≡ Some x = sym (cell_there f) ∙ (sym (ap (value_at values') same) ∙ has) in
                let y_same : y ≡ x = cc in
                let v_is : b.to.0 ≡ v = sym (at.own.holds own) ∙ (ap (slice_index p.vertices) (sym same) ∙ place.vertex) in
                inr (inr (subst (IsExtension label (part_of p) (value_at values) v) y_same (extension y e v v_is)))
            | inr apart ↦ inl (sym (cell_else f i apart) ∙ has)
          ];
          offers = λ to o c. inl c;
        })

  -- the offer is held back, since one as low was sent
  pub held_keeps : (takes' pending' : Places) (values' : List Value) (offered : Offered) → AreSame takes takes' → AreOffered sent offered
      → HoldsBack label.add p offered h.place b values pending values' pending' → Relaxes label p takes' handled sent values' pending' (Some (after h))
  held_keeps takes' pending' values' offered same_takes are is =
      let cell : (i : ℕ) → value_at values' i ≡ value_at values i = λ i. ap (λ vs. value_at vs i) is.same in
      step_keeps label (part_of p) handled sent (value_at values) (due p pending takes (Some h)) handled sent (value_at values') (due p pending' takes' (Some (after h))) kept (record {
        falls = λ i y m. subst (λ c. HasAtMost c y) (sym (cell i)) m;
        more_handled = λ from o c. c;
        more_sent = λ to o c. c;
        lowered = λ from o c fits. inl c;
        relaxed = λ a c idle. elim (still takes' pending' a same_takes (λ s. is.rests s a.at) (is_done p pending' takes' (Some (after h)) a idle)) [
          | inl before ↦ inl (before, cell a.at)
          | inr now ↦ inr (subst (IsRelaxed label (part_of p) sent (value_at values')) now.0 (record {
            own = λ x has within home. absurd (is.other home);
            other = λ x has within away.
                let x_is : Some is.extends.value ≡ Some x = sym is.extends.has ∙ (sym (cell h.place) ∙ has) in
                let x_same : is.extends.value ≡ x = cc in
                subst (IsOffered sent here) (is.extends.is ∙ ap (λ z. extended z (label.add b.w)) x_same)
                (offered_along sent offered b.home.0 is.offer here are is.known (ap (λ (v : Vertex). v.0) is.to) refl is.place_is);
          }))
        ];
        cells = λ i v x at has. inl (sym (cell i) ∙ has);
        offers = λ to o c. inl c;
      })

  pub pass_keeps : (takes' pending' : Places) (values' : List Value) (offered : Offered) → AreSame takes takes' → AreOffered sent offered
      → IsPassed label.add p offered takes h.place h.share b values pending values' pending' → Relaxes label p takes' handled sent values' pending' (Some (after h))
  pass_keeps takes' pending' values' offered same_takes are (inl none) = none_keeps takes' pending' values' same_takes none
  pass_keeps takes' pending' values' offered same_takes are (inr (inr held)) = held_keeps takes' pending' values' offered same_takes are held
  pass_keeps takes' pending' values' offered same_takes are (inr (inl own)) = elim own.lowered [
    | inl low ↦ low_keeps takes' pending' values' same_takes own.end_value own.own own.extends low
    | inr fell ↦ fell_keeps takes' pending' values' same_takes own.end_value own.own own.extends fell
  ]

  -- the offer of the arc's end is sent
  pub send_keeps : (o : Offer) → IsOfferOf label.add p.rank h.place values b o → b.home.0 < length sent
      → Relaxes label p takes handled (append_at sent b.home.0 (Item o)) values pending (Some (after h))
  send_keeps o is within =
      let addressed : IsAddressed (part_of p) b.home.0 o =
      record { arc = here; among = stands; home = refl; vertex = sym (ap (λ (v : Vertex). v.0) is.to); place = sym is.place } in
      let sent' : List (List (Body Offer)) = append_at sent b.home.0 (Item o) in
      step_keeps label (part_of p) handled sent (value_at values) (due p pending takes (Some h)) handled sent' (value_at values) (due p pending takes (Some (after h))) kept (record {
        falls = λ i y m. m;
        more_handled = λ from m c. c;
        more_sent = λ to m c. joined_before sent b.home.0 to (Item o) (Item m) c;
        lowered = λ from m c fits. inl c;
        relaxed = λ a c idle. elim (still takes pending a (λ s i. refl) (λ s. refl) (is_done p pending takes (Some (after h)) a idle)) [
          | inl before ↦ inl (before, refl)
          | inr now ↦ inr (subst (IsRelaxed label (part_of p) sent' (value_at values)) now.0 (record {
            own = λ x has near home. absurd (is.other home);
            other = λ x has near away.
                let x_is : Some is.extends.value ≡ Some x = sym is.extends.has ∙ has in
                let x_same : is.extends.value ≡ x = cc in
                record {
                  offer = o;
                  among = subst (λ l. Contains l (Item o)) (sym (list_at-append_same sent b.home.0 (Item o) within)) (Contains-push (list_at sent b.home.0) (Item o));
                  to = ap (λ (v : Vertex). v.0) is.to;
                  place = is.place;
                  most = subst (AtMost o.value) (is.extends.is ∙ ap (λ z. extended z (label.add b.w)) x_same) (most_refl o.value);
                };
          }))
        ];
        cells = λ i v x place has. inl has;
        offers = λ to m c. elim (joined_cases sent b.home.0 to (Item o) (Item m) c) [
          | inl before ↦ inl before
          | inr now ↦
              let same : o ≡ m = item_same o m now.0 in
              inr (subst (λ n. IsWithin n.value × IsAddressed (part_of p) to n × IsExtension label (part_of p) (value_at values) n.to.0 n.value) same
              (is.extends.within, subst (λ r. IsAddressed (part_of p) r o) (sym now.1) addressed, extension o.value is.extends o.to.0 (sym (ap (λ (v : Vertex). v.0) is.to))))
        ];
      })

-- no arc is left ahead
pub end_keeps : (label : Label) (p : Portion) (takes : Places) (handled sent : List (List (Body Offer))) (h : Ahead) (values : List Value) (pending : Places)
    → length (row p h.place) ≤ h.next → Relaxes label p takes handled sent values pending (Some h) → Relaxes label p takes handled sent values pending None
end_keeps label p takes handled sent h values pending past kept =
    step_keeps label (part_of p) handled sent (value_at values) (due p pending takes (Some h)) handled sent (value_at values) (due p pending takes None) kept (record {
      falls = λ i y m. m;
      more_handled = λ from o c. c;
      more_sent = λ to o c. c;
      lowered = λ from o c fits. inl c;
      relaxed = λ a c idle.
          let d = is_done p pending takes None a idle in
          inl (not_due p pending takes (Some h) a (record { light = d.light; whole = d.whole; heavy = d.heavy; behind = none_from p takes h a past }), refl);
      cells = λ i v x place has. inl has;
      offers = λ to o c. inl c;
    })

-- one arc more is passed
pub one_more : (label : Label) (p : Portion) (offered : Offered) (takes0 : Places) (values0 : List Value) (pending0 : Places) (ahead : Ahead)
    → (takes : Places) (values : List Value) (pending : Places) (next : ℕ) (takes' : Places) (values' : List Value) (pending' : Places) (b : Arc)
    → IsNext p (from_arc ahead next) b → length values ≡ length p.vertices → AreSame takes takes'
    → IsPassed label.add p offered takes ahead.place ahead.share b values pending values' pending'
    → KeepsOver offered label p takes0 values0 pending0 (Some ahead) takes values pending (Some (from_arc ahead next))
    → KeepsOver offered label p takes0 values0 pending0 (Some ahead) takes' values' pending' (Some (from_arc ahead (next + 1)))
one_more label p offered takes0 values0 pending0 ahead takes values pending next takes' values' pending' b at each same passed so_far handled sent are kept =
    pass_keeps label p takes handled sent (from_arc ahead next) b at values pending each (so_far handled sent are kept) takes' pending' values' offered same are passed

-- all arcs were passed
pub no_more : (label : Label) (p : Portion) (offered : Offered) (takes0 : Places) (values0 : List Value) (pending0 : Places) (ahead : Ahead)
    → (takes : Places) (values : List Value) (pending : Places) (next : ℕ) → length (row p ahead.place) ≤ next
    → KeepsOver offered label p takes0 values0 pending0 (Some ahead) takes values pending (Some (from_arc ahead next))
    → KeepsOver offered label p takes0 values0 pending0 (Some ahead) takes values pending None
no_more label p offered takes0 values0 pending0 ahead takes values pending next past so_far handled sent are kept =
    end_keeps label p takes handled sent (from_arc ahead next) values pending past (so_far handled sent are kept)
