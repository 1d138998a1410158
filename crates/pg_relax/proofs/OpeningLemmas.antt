-- What a rank promises holds of its opening state.
use Rattle.std.proofs.Common.{◌≡◌, ◌≢◌, ◌⊎◌, ℕ, zero, suc, ◌<◌, ◌+◌, Bool, false, List, [], length, refl, sym, ap, ◌∙◌, subst, inl, inr, arith, Option, Some, None, Contains}
use Rattle.std.specs.Prelude.{slice_index, slice_get}
use Rattle.std.proofs.lemmas.List.{length-replicate}
use Rattle.pg_group.specs.declared.messages.Body.{Body}
use Rattle.pg_group.specs.declared.messages.Body.TheVariants.{Item}
use Rattle.pg_group.specs.declared.messages.Vote.{Vote}
use Rattle.pg_group.specs.Ranked.{list_at}
use Rattle.pg_group.specs.Rounds.{marks, items_of_round, votes_of}
use Rattle.pg_group.specs.Supersteps.{nothing}
use Rattle.pg_label.specs.declared.values.Value.{Value}
use Rattle.pg_label.specs.Values.{HasAtMost, IsWithin, start_value}
use Rattle.pg_agenda.specs.declared.shares.Share.TheVariants as share
use Rattle.pg_agenda.specs.Shares.{Places, AreSame}
use Rattle.pg_adj.specs.Portions.{Portion}
use Rattle.pg_best.specs.declared.offers.Offer.{Offer}
use Rattle.pg_best.specs.Best.{Label, Belongs}
use Rattle.pg_best.specs.Parts.{LocalArc}
use Rattle.pg_best.proofs.ValueLemmas.{most_refl}
use Rattle.pg_relax.specs.declared.ahead.Ahead.{Ahead}
use Rattle.pg_relax.specs.Tables.{value_at}
use Rattle.pg_relax.specs.States.{part_of, due, Relaxes}
use Rattle.pg_relax.specs.Kept.{HasRelaxed, IsOpening, IsOpenBelow}
use Rattle.pg_relax.specs.Frontiers.{IsLowered}
use Rattle.pg_relax.proofs.TableLemmas.{set_here, set_else}
use Rattle.std.proofs.lemmas.Bool.{cases_eq}
use Rattle.pg_relax.proofs.ArcLemmas.{of_place}
use Rattle.pg_relax.proofs.DueLemmas.{is_done}

none_at : (size rank : ℕ) → list_at {X = Body Offer} (nothing size) rank ≡ []
none_at zero rank = refl
none_at (suc size) zero = refl
none_at (suc size) (suc rank) = none_at size rank

no_item : (size rank : ℕ) (o : Offer) → Contains (list_at (nothing size) rank) (Item o) → ⊥
no_item size rank o c = let empty : Contains [] (Item o) = subst (λ l. Contains l (Item o)) (none_at size rank) c in omega (arith, empty.1)

start_same : (k l : ℕ) → Some k ≡ Some l → k ≡ l
start_same k l e = cc

value_same : (x y : Value) → Some x ≡ Some y → x ≡ y
value_same x y e = cc

no_value : (x : Value) → None ≡ Some x → ⊥
no_value x e = cc

module _ (label : Label) (p : Portion) (takes pending : Places) (values : List Value) (opening : IsOpening label p values pending) where
  -- a place with a value is that of a vertex that starts
  started : (i : ℕ) (x : Value) → i < length p.vertices → value_at values i ≡ Some x → (class : ℕ) × (label.start (slice_index p.vertices i) ≡ Some class) × (x ≡ start_value class)
  started i x h has = go (label.start (slice_index p.vertices i)) refl where
    go : (s : Option ℕ) → label.start (slice_index p.vertices i) ≡ s → (class : ℕ) × (label.start (slice_index p.vertices i) ≡ Some class) × (x ≡ start_value class)
    go None e = absurd (no_value x (sym (opening.none i h e) ∙ has))
    go (Some class) e = (class, e, value_same x (start_value class) (sym has ∙ opening.value i class h e))

  marked_due : (a : LocalArc) (x : Value) → Contains (part_of p).arcs a → value_at values a.at ≡ Some x → due p pending takes None a ≡ false → ⊥
  marked_due a x c has e =
      let o = of_place p (length p.vertices) a c in
      let h : a.at < length p.vertices = subst (λ (b : LocalArc). b.at < length p.vertices) (sym o.is) o.below in
      let s = started a.at x h has in
      let d = is_done p pending takes None a e in
      elim (opening.marked a.at s.0 h s.1) [
        | inl whole ↦ cc
        | inr light ↦ cc
      ]

  pub opening_relaxes : Relaxes label p takes (nothing p.ranks) (nothing p.ranks) values pending None
  opening_relaxes = record {
    bounded = record {
      started = λ i v class at is.
          subst (λ c. HasAtMost c (start_value class)) (sym (opening.value i class at.within (ap label.start at.vertex ∙ is))) (most_refl (start_value class));
      lowered = λ from o other among fits. absurd (no_item p.ranks from o among);
    };
    relaxed = record {
      own = λ a x c idle has within home. absurd (marked_due a x c has idle);
      other = λ a x c idle has within away. absurd (marked_due a x c has idle);
    };
    supported = record {
      cells = λ arcs b all below i v x at has l.
          let s = started i x at.within has in
          let is : label.start v ≡ Some s.0 = ap label.start (sym at.vertex) ∙ s.1 in
          subst (Belongs label arcs v) (sym s.2) (record { from = v; walk = []; joins = refl; started = is; amount = refl; hops = refl });
      offers = λ arcs b all below to o other among l. absurd (no_item p.ranks to o among);
      within = λ to o other among. absurd (no_item p.ranks to o among);
    };
    addressed = λ to o other among. absurd (no_item p.ranks to o among);
  }

  pub opening_kept : HasRelaxed label p takes (nothing p.ranks) (nothing p.ranks) values pending None 0 None false false
  opening_kept = record {
    relaxes = opening_relaxes;
    resting = λ vote e. refl;
    marked = record {
      from_each = length-replicate p.ranks [];
      to_each = length-replicate p.ranks [];
      running = λ e from other. ap marks (none_at p.ranks from);
      closed = λ e. cc;
      given = λ to other. ap marks (none_at p.ranks to);
      even = λ to k vote other is. absurd (no_vote k vote (subst (λ l. slice_get (votes_of l) k ≡ Some vote) (none_at p.ranks to) is));
      cast_even = λ vote e. cc;
      present = (λ e r h. ap (items_of_round 0) (none_at p.ranks r), λ none. refl);
      after = λ vote e. cc;
      quiet = λ vote e. cc;
      ended = λ e. cc;
      own = λ e. cc;
      told = λ vote e. cc;
      going = λ some k early. absurd (omega (arith, early));
    };
  } where
    no_vote : (k : ℕ) (vote : Vote) → slice_get [] k ≡ Some vote → ⊥
    no_vote zero vote e = cc
    no_vote (suc k) vote e = cc

-- the same by what a rank shows of its state
pub opening_at : (label : Label) (p : Portion) (takes pending : Places) (values : List Value) (ahead : Option Ahead) (round : ℕ) (cast : Option Vote) (ended sends : Bool)
    → IsOpening label p values pending → ahead ≡ None → round ≡ 0 → cast ≡ None → ended ≡ false → sends ≡ false
    → HasRelaxed label p takes (nothing p.ranks) (nothing p.ranks) values pending ahead round cast ended sends
opening_at label p takes pending values ahead round cast ended sends opening a r c e s =
    subst (λ x. HasRelaxed label p takes (nothing p.ranks) (nothing p.ranks) values pending x round cast ended sends) (sym a)
    (subst (λ x. HasRelaxed label p takes (nothing p.ranks) (nothing p.ranks) values pending None x cast ended sends) (sym r)
    (subst (λ x. HasRelaxed label p takes (nothing p.ranks) (nothing p.ranks) values pending None 0 x ended sends) (sym c)
    (subst (λ x. HasRelaxed label p takes (nothing p.ranks) (nothing p.ranks) values pending None 0 None x sends) (sym e)
    (subst (λ x. HasRelaxed label p takes (nothing p.ranks) (nothing p.ranks) values pending None 0 None false x) (sym s)
    (opening_kept label p takes pending values opening)))))

some_none : (k : ℕ) → Some k ≡ None → ⊥
some_none k e = cc

start_within : (class : ℕ) → IsWithin (start_value class)
start_within class = record { amount = omega arith; hops = omega arith }

below_next : (i n : ℕ) → i < n + 1 → (i < n) ⊎ (i ≡ n)
below_next i n h = elim (cases_eq i n) [ inl same ↦ inr same | inr apart ↦ inl (omega arith) ]

-- a place whose vertex doesn't start
pub not_started : (label : Label) (p : Portion) (n : ℕ) (values : List Value) (pending : Places) → label.start (slice_index p.vertices n) ≡ None
    → IsOpenBelow n label p values pending → IsOpenBelow (n + 1) label p values pending
not_started label p n values pending none o = record {
  value = λ i class h s. elim (below_next i n h) [
    | inl before ↦ o.value i class before s
    | inr now ↦ absurd (some_none class (sym s ∙ (ap (λ j. label.start (slice_index p.vertices j)) now ∙ none)))
  ];
  marked = λ i class h s. elim (below_next i n h) [
    | inl before ↦ o.marked i class before s
    | inr now ↦ absurd (some_none class (sym s ∙ (ap (λ j. label.start (slice_index p.vertices j)) now ∙ none)))
  ];
  none = λ i h s. elim (below_next i n h) [
    | inl before ↦ o.none i before s
    | inr now ↦ o.later i (omega arith)
  ];
  rests = λ i k h s. elim (below_next i n h) [
    | inl before ↦ o.rests i k before s
    | inr now ↦ o.past i k (omega arith)
  ];
  later = λ i h. o.later i (omega arith);
  past = λ i k h. o.past i k (omega arith);
}

-- a place whose vertex starts is lowered
pub next_started : (label : Label) (p : Portion) (n class : ℕ) (values values' : List Value) (pending pending' : Places) → label.start (slice_index p.vertices n) ≡ Some class
    → n < length values → IsLowered n (start_value class) values pending values' pending'
    → IsOpenBelow n label p values pending → IsOpenBelow (n + 1) label p values' pending'
next_started label p n class values values' pending pending' some within low o = elim low [
  | inl was ↦ absurd (subst (λ c. HasAtMost c (start_value class)) (o.later n (omega arith)) was.most)
  | inr fell ↦
      let here : value_at values' n ≡ Some (start_value class) = ap (λ vs. value_at vs n) fell.set ∙ set_here values n (start_value class) within (start_within class) in
      let else : (i : ℕ) → i ≢ n → value_at values' i ≡ value_at values i = λ i apart. ap (λ vs. value_at vs i) fell.set ∙ set_else values n i (start_value class) apart in
      record {
        value = λ i c h s. elim (cases_eq i n) [
          | inl same ↦ ap (value_at values') same ∙ (here ∙ ap (λ k. Some (start_value k)) (start_same class c (sym some ∙ (ap (λ j. label.start (slice_index p.vertices j)) (sym same) ∙ s))))
          | inr apart ↦ else i apart ∙ o.value i c (omega arith) s
        ];
        marked = λ i c h s. elim (cases_eq i n) [
          | inl same ↦ elim fell.marked [
            | inl whole ↦ inl (ap (pending' share.All) same ∙ whole)
            | inr light ↦ inr (ap (pending' share.Light) same ∙ light)
          ]
          | inr apart ↦ elim (o.marked i c (omega arith) s) [
            | inl whole ↦ inl (fell.others share.All i apart ∙ whole)
            | inr light ↦ inr (fell.others share.Light i apart ∙ light)
          ]
        ];
        none = λ i h s. elim (cases_eq i n) [
          | inl same ↦ absurd (some_none class (sym some ∙ (ap (λ j. label.start (slice_index p.vertices j)) (sym same) ∙ s)))
          | inr apart ↦ else i apart ∙ o.none i (omega arith) s
        ];
        rests = λ i k h s. elim (cases_eq i n) [
          | inl same ↦ absurd (some_none class (sym some ∙ (ap (λ j. label.start (slice_index p.vertices j)) (sym same) ∙ s)))
          | inr apart ↦ fell.others k i apart ∙ o.rests i k (omega arith) s
        ];
        later = λ i h. else i (λ e. absurd (omega arith)) ∙ o.later i (omega arith);
        past = λ i k h. fell.others k i (λ e. absurd (omega arith)) ∙ o.past i k (omega arith);
      }
]

-- one place more is opened
pub opened_next : (label : Label) (p : Portion) (n : ℕ) (values values' : List Value) (pending pending' : Places) → n < length values
    → ((class : ℕ) → label.start (slice_index p.vertices n) ≡ Some class → IsLowered n (start_value class) values pending values' pending')
    → (label.start (slice_index p.vertices n) ≡ None → IsOpenBelow n label p values pending → IsOpenBelow n label p values' pending')
    → IsOpenBelow n label p values pending → IsOpenBelow (n + 1) label p values' pending'
opened_next label p n values values' pending pending' within started stays o = go (label.start (slice_index p.vertices n)) refl where
  go : (s : Option ℕ) → label.start (slice_index p.vertices n) ≡ s → IsOpenBelow (n + 1) label p values' pending'
  go None e = not_started label p n values' pending' e (stays e o)
  go (Some class) e = next_started label p n class values values' pending pending' e within (started class e) o

-- the same places are pending
pub opening_same : (label : Label) (p : Portion) (values : List Value) (pending pending' : Places) → AreSame pending pending' → IsOpening label p values pending → IsOpening label p values pending'
opening_same label p values pending pending' same o = record {
  value = o.value;
  marked = λ i class h s. elim (o.marked i class h s) [
    | inl whole ↦ inl (same share.All i ∙ whole)
    | inr light ↦ inr (same share.Light i ∙ light)
  ];
  none = o.none;
  rests = λ i k h s. same k i ∙ o.rests i k h s;
  past = λ i k h. same k i ∙ o.past i k h;
}
