-- The other steps of a rank that keep the law of relaxation: an offer is handled, a place is taken up, marks are appended.
use Rattle.std.proofs.Common.{◌≡◌, ◌≢◌, ◌⊎◌, ℕ, ◌<◌, ◌≤◌, ◌+◌, ◌&&◌, Bool, true, false, List, length, refl, sym, ap, ◌∙◌, subst, inl, inr, arith, Option, Some, None, Contains}
use Rattle.std.specs.Prelude.{slice_index}
use Rattle.std.proofs.lemmas.Bool.{cases_eq}
use Rattle.std.proofs.lemmas.List.Elements.{Contains-push}
use Rattle.pg_group.proofs.RollLemmas.{list_at-append_same}
use Rattle.pg_group.specs.declared.messages.Body.{Body}
use Rattle.pg_group.specs.declared.messages.Body.TheVariants.{Item}
use Rattle.pg_group.specs.Ranked.{IsOther, list_at, append_at}
use Rattle.pg_label.specs.declared.values.Value.{Value}
use Rattle.pg_label.specs.Values.{HasAtMost, IsWithin}
use Rattle.pg_agenda.specs.declared.shares.Share.{Share}
use Rattle.pg_agenda.specs.declared.shares.Share.TheVariants as share
use Rattle.pg_agenda.specs.Shares.{Places, AreSame}
use Rattle.pg_adj.specs.Portions.{Portion}
use Rattle.pg_best.specs.declared.offers.Offer.{Offer}
use Rattle.pg_best.specs.Best.{Label}
use Rattle.pg_best.specs.Parts.{LocalArc}
use Rattle.pg_best.specs.LocalRelax.{Fits}
use Rattle.pg_best.proofs.Steps.{step_keeps, joined_cases, joined_before}
use Rattle.pg_best.proofs.ValueLemmas.{most_refl}
use Rattle.pg_relax.specs.declared.ahead.Ahead.{Ahead}
use Rattle.pg_relax.specs.Tables.{value_at}
use Rattle.pg_relax.specs.States.{row, local_of, is_arc, part_of, is_from, is_ahead, due, Relaxes}
use Rattle.pg_relax.specs.Frontiers.{IsLowered}
use Rattle.std.specs.Prelude.{IfSome, IfNone}
use Rattle.pg_base.specs.declared.numbers.RankNo.{RankNo}
use Rattle.pg_relax.specs.declared.offered.Offered.{Offered}
use Rattle.pg_relax.specs.Offered.{AreOffered}
use Rattle.pg_relax.specs.Passing.{KeepsOn, KeepsOver, IsUpTo, from_arc}
use Rattle.pg_relax.proofs.PassLemmas.{IsNext, send_keeps, end_keeps}
use Rattle.pg_relax.proofs.ArcLemmas.{IsOfPlace, of_place, arc_self}
use Rattle.pg_relax.proofs.DueLemmas.{IsDone, is_done, not_due}
use Rattle.std.proofs.lemmas.List.Folds.{list_any_at}
use Rattle.pg_relax.proofs.ListLemmas.{SameItems, same_items}
use Rattle.pg_relax.proofs.TableLemmas.{set_here, set_else, below_falls}

item_same : (o m : Offer) → Item o ≡ Item m → o ≡ m
item_same o m e = cc

same_ahead : (p : Portion) (takes takes' : Places) (a : LocalArc) → AreSame takes takes' → (ahead : Option Ahead) → is_ahead p takes' ahead a ≡ false → is_ahead p takes ahead a ≡ false
same_ahead p takes takes' a st None e = e
same_ahead p takes takes' a st (Some h) e = ap (λ t. t && is_from p h.place h.next a) (sym (st h.share a.weight)) ∙ e

-- the same is pending and taken
pub same_done : (p : Portion) (takes pending takes' pending' : Places) (ahead : Option Ahead) (a : LocalArc) → AreSame takes takes' → AreSame pending pending'
    → due p pending' takes' ahead a ≡ false → due p pending takes ahead a ≡ false
same_done p takes pending takes' pending' ahead a st sp e =
    let d = is_done p pending' takes' ahead a e in
    not_due p pending takes ahead a (record {
      light = sym (sp share.Light a.at) ∙ d.light;
      whole = sym (sp share.All a.at) ∙ d.whole;
      heavy = ap (λ t. t && takes share.Heavy a.weight) (sym (sp share.Heavy a.at)) ∙ (ap (λ t. pending' share.Heavy a.at && t) (sym (st share.Heavy a.weight)) ∙ d.heavy);
      behind = same_ahead p takes takes' a st ahead d.behind;
    })

-- marks join the lists, and the same is pending
pub lists_keep : (label : Label) (p : Portion) (takes takes' : Places) (handled sent handled' sent' : List (List (Body Offer))) (values : List Value) (pending pending' : Places) (ahead : Option Ahead)
    → SameItems handled handled' → SameItems sent sent' → AreSame takes takes' → AreSame pending pending'
    → Relaxes label p takes handled sent values pending ahead → Relaxes label p takes' handled' sent' values pending' ahead
lists_keep label p takes takes' handled sent handled' sent' values pending pending' ahead h s st sp kept =
    step_keeps label (part_of p) handled sent (value_at values) (due p pending takes ahead) handled' sent' (value_at values) (due p pending' takes' ahead) kept (record {
      falls = λ i y m. m;
      more_handled = λ from o c. h.kept from o c;
      more_sent = λ to o c. s.kept to o c;
      lowered = λ from o c fits. inl (h.none_more from o c);
      relaxed = λ a c idle. inl (same_done p takes pending takes' pending' ahead a st sp idle, refl);
      cells = λ i v x place has. inl has;
      offers = λ to o c. inl (s.none_more to o c);
    })

-- A place is taken out of a share.
pub record IsTaken (takes pending pending' : Places) (place : ℕ) (kind : Share) : Type 0 where
  pub heavy : kind ≡ share.Light → pending' share.Heavy place ≡ true
  pub shares : (other : Share) → other ≢ kind → (kind ≡ share.Light → other ≢ share.Heavy) → pending' other place ≡ pending other place
  pub others : (s : Share) (other : ℕ) → other ≢ place → pending' s other ≡ pending s other
  pub whole : (w : ℕ) → takes share.All w ≡ true
  pub halves : (w : ℕ) → (takes share.Light w ≡ true) ⊎ (takes share.Heavy w ≡ true)

abbrev pub first_of : ℕ → Share → Ahead
first_of place kind = record { place = place; share = kind; next = 0 }

-- every arc of a place stands from the first one on
pub from_first : (p : Portion) (place : ℕ) (a : LocalArc) → IsOfPlace p (length p.vertices) a → a.at ≡ place → is_from p place 0 a ≡ true
from_first p place a o e =
    let at : o.place ≡ place = sym (ap (λ (c : LocalArc). c.at) o.is) ∙ e in
    subst (λ n. is_from p n 0 a ≡ true) at
    (subst (λ c. is_from p o.place 0 c ≡ true) (sym o.is)
    (list_any_at (λ b. is_arc (local_of o.place b) (local_of o.place o.arc)) (row p o.place) o.stands.0 o.arc o.stands.1
    (subst (λ b. is_arc (local_of o.place b) (local_of o.place o.arc) ≡ true) (sym o.stands.2) (arc_self (local_of o.place o.arc)))))

and_true : (b : Bool) → (b && true) ≡ b
and_true true = refl
and_true false = refl

and_false : (b : Bool) → (b && false) ≡ false
and_false true = refl
and_false false = refl

true_false : (b : Bool) → b ≡ true → b ≡ false → ⊥
true_false b t f = cc

both : (a b : Bool) → a ≡ true → b ≡ true → (a && b) ≡ true
both true true d e = refl
both true false d e = cc
both false b d e = cc

light_heavy : share.Light ≡ share.Heavy → ⊥
light_heavy e = cc

all_heavy : share.All ≡ share.Heavy → ⊥
all_heavy e = cc

module _ (p : Portion) (takes pending pending' : Places) (place : ℕ) (a : LocalArc) (o : IsOfPlace p (length p.vertices) a) where
  untaken : (kind : Share) → a.at ≡ place → IsDone p pending' takes (Some (first_of place kind)) a → takes kind a.weight ≡ false
  untaken kind e d = sym (and_true (takes kind a.weight)) ∙ (ap (λ t. takes kind a.weight && t) (sym (from_first p place a o e)) ∙ d.behind)

  -- an arc of the place that is not due now was not due before
  here_done : (kind : Share) → IsTaken takes pending pending' place kind → a.at ≡ place → IsDone p pending' takes (Some (first_of place kind)) a → IsDone p pending takes None a
  here_done share.All t e d = absurd (true_false (takes share.All a.weight) (t.whole a.weight) (untaken share.All e d))
  here_done share.Light t e d = elim (t.halves a.weight) [
    | inl light ↦ absurd (true_false (takes share.Light a.weight) light (untaken share.Light e d))
    | inr heavy ↦ absurd (true_false (pending' share.Heavy a.at && takes share.Heavy a.weight) (both (pending' share.Heavy a.at) (takes share.Heavy a.weight) (ap (pending' share.Heavy) e ∙ t.heavy refl) heavy) d.heavy)
  ]
  here_done share.Heavy t e d = record {
    light = sym (ap (pending' share.Light) e ∙ (t.shares share.Light (λ s. light_heavy s) (λ s. absurd (light_heavy (sym s))) ∙ ap (pending share.Light) (sym e))) ∙ d.light;
    whole = sym (ap (pending' share.All) e ∙ (t.shares share.All (λ s. all_heavy s) (λ s. absurd (light_heavy (sym s))) ∙ ap (pending share.All) (sym e))) ∙ d.whole;
    heavy = ap (λ t. pending share.Heavy a.at && t) (untaken share.Heavy e d) ∙ and_false (pending share.Heavy a.at);
    behind = refl;
  }

  taken_done : (kind : Share) → IsTaken takes pending pending' place kind → IsDone p pending' takes (Some (first_of place kind)) a → IsDone p pending takes None a
  taken_done kind t d = elim (cases_eq a.at place) [
    | inl same ↦ here_done kind t same d
    | inr apart ↦ record {
      light = sym (t.others share.Light a.at apart) ∙ d.light;
      whole = sym (t.others share.All a.at apart) ∙ d.whole;
      heavy = ap (λ t. t && takes share.Heavy a.weight) (sym (t.others share.Heavy a.at apart)) ∙ d.heavy;
      behind = refl;
    }
  ]

-- a place's arcs are ahead now, and so they are still due
pub taken_keeps : (label : Label) (p : Portion) (takes : Places) (handled sent : List (List (Body Offer))) (values : List Value) (pending pending' : Places) (place : ℕ) (kind : Share)
    → IsTaken takes pending pending' place kind → Relaxes label p takes handled sent values pending None
    → Relaxes label p takes handled sent values pending' (Some (first_of place kind))
taken_keeps label p takes handled sent values pending pending' place kind t kept =
    step_keeps label (part_of p) handled sent (value_at values) (due p pending takes None) handled sent (value_at values) (due p pending' takes (Some (first_of place kind))) kept (record {
      falls = λ i y m. m;
      more_handled = λ from o c. c;
      more_sent = λ to o c. c;
      lowered = λ from o c fits. inl c;
      relaxed = λ a c idle.
          inl (not_due p pending takes None a (taken_done p takes pending pending' place a (of_place p (length p.vertices) a c) kind t (is_done p pending' takes (Some (first_of place kind)) a idle)), refl);
      cells = λ i v x place has. inl has;
      offers = λ to o c. inl c;
    })

module _ (place : ℕ) (y : Value) (values values' : List Value) (pending pending' : Places) (low : IsLowered place y values pending values' pending') (within : place < length values) (near : IsWithin y) where
  lowered_else : (i : ℕ) → i ≢ place → value_at values' i ≡ value_at values i
  lowered_else i apart = elim low [
    | inl was ↦ ap (λ vs. value_at vs i) was.same
    | inr fell ↦ ap (λ vs. value_at vs i) fell.set ∙ set_else values place i y apart
  ]

  lowered_falls : (i : ℕ) (z : Value) → HasAtMost (value_at values i) z → HasAtMost (value_at values' i) z
  lowered_falls i z m = elim low [
    | inl was ↦ subst (λ vs. HasAtMost (value_at vs i) z) (sym was.same) m
    | inr fell ↦ elim (cases_eq i place) [
      | inl same ↦ subst (λ c. HasAtMost c z) (sym (ap (value_at values') same ∙ (ap (λ vs. value_at vs place) fell.set ∙ set_here values place y within near)))
          (below_falls y z (value_at values place) fell.below (subst (λ j. HasAtMost (value_at values j) z) same m))
      | inr apart ↦ subst (λ c. HasAtMost c z) (sym (lowered_else i apart)) m
    ]
  ]

  lowered_most : HasAtMost (value_at values' place) y
  lowered_most = elim low [
    | inl was ↦ subst (λ vs. HasAtMost (value_at vs place) y) (sym was.same) was.most
    | inr fell ↦ subst (λ c. HasAtMost c y) (sym (ap (λ vs. value_at vs place) fell.set ∙ set_here values place y within near)) (most_refl y)
  ]

  lowered_cases : (i : ℕ) (x : Value) → value_at values' i ≡ Some x → (value_at values i ≡ Some x) ⊎ ((i ≡ place) × (y ≡ x))
  lowered_cases i x has = elim low [
    | inl was ↦ inl (ap (λ vs. value_at vs i) (sym was.same) ∙ has)
    | inr fell ↦ elim (cases_eq i place) [
      | inl same ↦
          let x_is : Some y ≡ Some x = sym (ap (λ vs. value_at vs place) fell.set ∙ set_here values place y within near) ∙ (sym (ap (value_at values') same) ∙ has) in
          let y_same : y ≡ x = cc in
          inr (same, y_same)
      | inr apart ↦ inl (sym (lowered_else i apart) ∙ has)
    ]
  ]

  lowered_done : (p : Portion) (takes takes' : Places) (ahead : Option Ahead) (a : LocalArc) → AreSame takes takes' → due p pending' takes' ahead a ≡ false
      → (due p pending takes ahead a ≡ false) × (value_at values' a.at ≡ value_at values a.at)
  lowered_done p takes takes' ahead a st e = elim low [
    | inl was ↦ (same_done p takes pending takes' pending' ahead a st was.rests e, ap (λ vs. value_at vs a.at) was.same)
    | inr fell ↦
        let d = is_done p pending' takes' ahead a e in
        let apart : a.at ≢ place = λ same. elim fell.marked [
          | inl whole ↦ cc
          | inr light ↦ cc
        ] in (
          not_due p pending takes ahead a (record {
            light = sym (fell.others share.Light a.at apart) ∙ d.light;
            whole = sym (fell.others share.All a.at apart) ∙ d.whole;
            heavy = ap (λ t. t && takes share.Heavy a.weight) (sym (fell.others share.Heavy a.at apart)) ∙ (ap (λ t. pending' share.Heavy a.at && t) (sym (st share.Heavy a.weight)) ∙ d.heavy);
            behind = same_ahead p takes takes' a st ahead d.behind;
          }),
          lowered_else a.at apart,
        )
  ]

-- an offer is handled that fits: its place is lowered
pub handled_keeps : (label : Label) (p : Portion) (takes takes' : Places) (handled sent : List (List (Body Offer))) (values values' : List Value) (pending pending' : Places) (ahead : Option Ahead)
    → (from : ℕ) (o : Offer) → length values ≡ length p.vertices → AreSame takes takes' → Fits (part_of p) o → IsOther p.rank p.ranks from → from < length handled
    → IsLowered o.place o.value values pending values' pending'
    → Relaxes label p takes handled sent values pending ahead → Relaxes label p takes' (append_at handled from (Item o)) sent values' pending' ahead
handled_keeps label p takes takes' handled sent values values' pending pending' ahead from o each same fits other listed low kept =
    let within : o.place < length values = omega (arith, fits.at.within, each) in
    let handled' : List (List (Body Offer)) = append_at handled from (Item o) in
    step_keeps label (part_of p) handled sent (value_at values) (due p pending takes ahead) handled' sent (value_at values') (due p pending' takes' ahead) kept (record {
      falls = lowered_falls o.place o.value values values' pending pending' low within fits.within;
      more_handled = λ f m c. joined_before handled from f (Item o) (Item m) c;
      more_sent = λ to m c. c;
      lowered = λ f m c is. elim (joined_cases handled from f (Item o) (Item m) c) [
        | inl before ↦ inl before
        | inr now ↦ inr (subst (λ n. HasAtMost (value_at values' n.place) n.value) (item_same o m now.0) (lowered_most o.place o.value values values' pending pending' low within fits.within))
      ];
      relaxed = λ a c idle. inl (lowered_done o.place o.value values values' pending pending' low within fits.within p takes takes' ahead a same idle);
      cells = λ i v x place has. elim (lowered_cases o.place o.value values values' pending pending' low within fits.within i x has) [
        | inl before ↦ inl before
        | inr now ↦ inr (inl (record {
          from = from;
          offer = o;
          other = other;
          among = subst (λ l. Contains l (Item o)) (sym (list_at-append_same handled from (Item o) listed)) (Contains-push (list_at handled from) (Item o));
          fits = fits;
          to = sym fits.at.vertex ∙ (ap (slice_index p.vertices) (sym now.0) ∙ place.vertex);
          is = now.1;
        }))
      ];
      offers = λ to m c. inl c;
    })

-- an offer is handled that doesn't fit: nothing changes
pub ignored_keeps : (label : Label) (p : Portion) (takes : Places) (handled sent : List (List (Body Offer))) (values : List Value) (pending : Places) (ahead : Option Ahead)
    → (from : ℕ) (o : Offer) → (Fits (part_of p) o → ⊥)
    → Relaxes label p takes handled sent values pending ahead → Relaxes label p takes (append_at handled from (Item o)) sent values pending ahead
ignored_keeps label p takes handled sent values pending ahead from o unfit kept =
    step_keeps label (part_of p) handled sent (value_at values) (due p pending takes ahead) (append_at handled from (Item o)) sent (value_at values) (due p pending takes ahead) kept (record {
      falls = λ i y m. m;
      more_handled = λ f m c. joined_before handled from f (Item o) (Item m) c;
      more_sent = λ to m c. c;
      lowered = λ f m c is. elim (joined_cases handled from f (Item o) (Item m) c) [
        | inl before ↦ inl before
        | inr now ↦ absurd (unfit (subst (Fits (part_of p)) (sym (item_same o m now.0)) is))
      ];
      relaxed = λ a c idle. inl (idle, refl);
      cells = λ i v x place has. inl has;
      offers = λ to m c. inl c;
    })

-- what was taken up is ahead, where it has an arc
pub taken_up : (p : Portion) (takes takes' : Places) (values : List Value) (pending pending' : Places) (place : ℕ) (kind : Share) (ahead : Option Ahead)
    → IsTaken takes pending pending' place kind → AreSame takes takes' → IfSome ahead (λ h. h ≡ first_of place kind) → IfNone ahead (length (row p place) ≤ 0)
    → (label : Label) → KeepsOn label p takes values pending None takes' values pending' ahead
taken_up p takes takes' values pending pending' place kind ahead t same some none label handled sent kept =
    left ahead some none (lists_keep label p takes takes' handled sent handled sent values pending' pending' (Some (first_of place kind)) (same_items handled) (same_items sent) same (λ s i. refl)
    (taken_keeps label p takes handled sent values pending pending' place kind t kept)) where
      left : (ahead : Option Ahead) → IfSome ahead (λ h. h ≡ first_of place kind) → IfNone ahead (length (row p place) ≤ 0)
          → Relaxes label p takes' handled sent values pending' (Some (first_of place kind)) → Relaxes label p takes' handled sent values pending' ahead
      left None some none kept = end_keeps label p takes' handled sent (first_of place kind) values pending' none kept
      left (Some h) some none kept = subst (λ k. Relaxes label p takes' handled sent values pending' (Some k)) (sym some) kept

-- an offer was sent, and the next arcs are ahead
pub sent_on : (label : Label) (p : Portion) (offered : Offered) (takes takes' : Places) (values values' : List Value) (pending pending' : Places) (ahead : Ahead) (next : ℕ) (to : RankNo) (offer : Offer) (left : Option Ahead)
    → (sent sent' : List (List (Body Offer))) → IsUpTo label.add p ahead values' next to offer → ahead.place < length p.vertices → length values' ≡ length p.vertices
    → KeepsOver offered label p takes values pending (Some ahead) takes' values' pending' (Some (from_arc ahead next))
    → sent' ≡ append_at sent to.0 (Item offer) → IfSome left (λ h. h ≡ from_arc ahead (next + 1)) → IfNone left (length (row p ahead.place) ≤ next + 1)
    → (handled : List (List (Body Offer))) → length sent ≡ p.ranks → AreOffered sent offered
    → Relaxes label p takes handled sent values pending (Some ahead) → Relaxes label p takes' handled sent' values' pending' left
sent_on label p offered takes takes' values values' pending pending' ahead next to offer left sent sent' up place each keeps grew some none handled long are kept =
    let at : IsNext p (from_arc ahead next) up.arc = record { place = place; next = up.below; is = up.stands; own = up.known } in
    let home : up.arc.home.0 < length sent = subst (λ n. n < length sent) (ap (λ (r : RankNo). r.0) up.home) (omega (arith, up.other.0, long)) in
    let now = send_keeps label p takes' handled sent (from_arc ahead next) up.arc at values' pending' each (keeps handled sent are kept) offer up.is_offer home in
    let there : append_at sent up.arc.home.0 (Item offer) ≡ sent' = ap (λ (r : RankNo). append_at sent r.0 (Item offer)) (sym up.home) ∙ sym grew in
    go left some none (subst (λ lists. Relaxes label p takes' handled lists values' pending' (Some (from_arc ahead (next + 1)))) there now) where
      go : (left : Option Ahead) → IfSome left (λ h. h ≡ from_arc ahead (next + 1)) → IfNone left (length (row p ahead.place) ≤ next + 1)
          → Relaxes label p takes' handled sent' values' pending' (Some (from_arc ahead (next + 1))) → Relaxes label p takes' handled sent' values' pending' left
      go None some none kept = end_keeps label p takes' handled sent' (from_arc ahead (next + 1)) values' pending' none kept
      go (Some h) some none kept = subst (λ k. Relaxes label p takes' handled sent' values' pending' (Some k)) (sym some) kept
