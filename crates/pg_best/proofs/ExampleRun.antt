-- The example is a run that has ended.
use Rattle.std.proofs.Common.{◌≡◌, ◌↔◌, ℕ, zero, suc, ◌-◌, ◌<◌, ◌^◌, ◌%◌, true, false, List, [], ◌∷◌, refl, sym, ap, subst, ⊎_elim, arith, Option, Some, None, Contains}
use Rattle.std.specs.Prelude.{slice_get}
use Rattle.std.proofs.lemmas.List.Elements.{All-nil, All-cons}
use Rattle.pg_base.specs.Graph.{Arc}
use Rattle.pg_base.proofs.Members.{contains_first, contains_cases}
use Rattle.pg_group.specs.declared.messages.Body.TheVariants.{Item, Mark}
use Rattle.pg_group.specs.declared.messages.Vote.{Vote}
use Rattle.pg_group.specs.Ranked.{IsOther, list_at}
use Rattle.pg_group.specs.Rounds.{votes_of, marks, ends_with_mark, items_of_round}
use Rattle.pg_label.specs.declared.values.Value.{Value}
use Rattle.pg_best.specs.declared.offers.Offer.{Offer}
use Rattle.pg_label.specs.Values.{AtMost, IsWithin, measure, start_value, extended}
use Rattle.pg_best.specs.Best.{Belongs}
use Rattle.pg_best.specs.Labels.{weight_from, from_source}
use Rattle.pg_best.specs.Parts.{IsVertex, IsAt, LocalArc, Include, whole_arc, local_arc, IsDivided}
use Rattle.pg_best.specs.LocalRelax.{IsAddressed, IsItemAt, IsOffered, IsMarked, LocalRelax}
use Rattle.pg_best.specs.Relaxation.{IsRun, HasEnded, IsArc}
use Rattle.pg_best.specs.Example.{arc, local, part_of, second, offer, busy, empty, there, back, sent_of, handled_of, cell_of, example}

two : (P : ℕ → Type 0) → P 1 → P 2 → (v : ℕ) → IsVertex 2 v → P v
two P one both zero h = absurd (omega arith)
two P one both (suc zero) h = one
two P one both (suc (suc zero)) h = both
two P one both (suc (suc (suc v))) h = absurd (omega arith)

both_ranks : (P : ℕ → Type 0) → P 0 → P 1 → (r : ℕ) → r < 2 → P r
both_ranks P zeroth first zero h = zeroth
both_ranks P zeroth first (suc zero) h = first
both_ranks P zeroth first (suc (suc r)) h = absurd (omega arith)

one_in : {X : Type 0} (x y : X) → Contains (x ∷ []) y → x ≡ y
one_in x y c = ⊎_elim (λ same. same) (λ none. absurd (omega (arith, none.1))) (contains_cases x [] y c)

none_back : (o : Offer) → Contains back (Item o) → ⊥
none_back o c = ⊎_elim (λ same. cc) (λ later. ⊎_elim (λ same. cc) (λ none. omega (arith, none.1)) (contains_cases (Mark empty) [] (Item o) later)) (contains_cases (Mark empty) (Mark empty ∷ []) (Item o) c)

item_same : (o p : Offer) → Item o ≡ Item p → o ≡ p
item_same o p e = cc

one_there : (o : Offer) → Contains there (Item o) → offer ≡ o
one_there o c = ⊎_elim (λ same. item_same offer o same) (λ later. ⊎_elim (λ same. cc) (λ last. ⊎_elim (λ same. cc) (λ none. absurd (omega (arith, none.1))) (contains_cases (Mark empty) [] (Item o) last)) (contains_cases (Mark busy) (Mark empty ∷ []) (Item o) later))
    (contains_cases (Item offer) (Mark busy ∷ Mark empty ∷ []) (Item o) c)

some_same : (x y : Value) → Some x ≡ Some y → x ≡ y
some_same x y e = cc

sent_by_0 : (to : ℕ) (o : Offer) → IsOther 0 2 to → IsItemAt (sent_of 0) to o → offer ≡ o
sent_by_0 zero o other c = absurd (other.1 refl)
sent_by_0 (suc zero) o other c = one_there o c
sent_by_0 (suc (suc r)) o other c = absurd (omega arith)

sent_by_1 : (to : ℕ) (o : Offer) → IsOther 1 2 to → IsItemAt (sent_of 1) to o → ⊥
sent_by_1 zero o other c = none_back o c
sent_by_1 (suc zero) o other c = absurd (other.1 refl)
sent_by_1 (suc (suc r)) o other c = absurd (omega arith)

handled_by_1 : (from : ℕ) (o : Offer) → IsOther 1 2 from → IsItemAt (handled_of 1) from o → offer ≡ o
handled_by_1 zero o other c = one_there o c
handled_by_1 (suc zero) o other c = absurd (other.1 refl)
handled_by_1 (suc (suc r)) o other c = absurd (omega arith)

at_1 : (i v : ℕ) → IsAt (part_of 0) i v → 1 ≡ v
at_1 zero v h = h.vertex
at_1 (suc i) v h = absurd (omega arith)

at_2 : (i v : ℕ) → IsAt (part_of 1) i v → 2 ≡ v
at_2 zero v h = h.vertex
at_2 (suc i) v h = absurd (omega arith)

not_started : (v class : ℕ) → 2 ≡ v → from_source 1 v ≡ Some class → ⊥
not_started v class at started = let none : None ≡ Some class = subst (λ (u : ℕ). from_source 1 u ≡ Some class) (sym at) started in cc

first_belongs : (arcs : List Arc) → Belongs (weight_from 1) arcs 1 (start_value 0)
first_belongs arcs = record { from = 1; walk = []; joins = refl; started = refl; amount = refl; hops = refl }

second_belongs : (arcs : List Arc) → Contains arcs arc → Belongs (weight_from 1) arcs 2 second
second_belongs arcs among = record { from = 1; walk = arc ∷ []; joins = (among, refl, refl); started = refl; amount = refl; hops = refl }

addressed_0 : (to : ℕ) → IsOther 0 2 to → IsAddressed (part_of 0) to offer
addressed_0 zero other = absurd (other.1 refl)
addressed_0 (suc zero) other = record { arc = local; among = contains_first local []; home = refl; vertex = refl; place = refl }
addressed_0 (suc (suc r)) other = absurd (omega arith)

local_0 : LocalRelax (weight_from 1) (part_of 0) (handled_of 0) (sent_of 0) (cell_of 0) (λ a. false)
local_0 = record {
  bounded = record {
    started = λ i v class at started. omega arith;
    lowered = λ from o other among fits. omega arith;
  };
  relaxed = record {
    own = λ a x among idle has within mine.
        let home : a.home ≡ 1 = sym (ap (λ (b : LocalArc). b.home) (one_in local a among)) in absurd (omega arith);
    other = λ a x among idle has within away.
        subst (λ (b : LocalArc). IsOffered (sent_of 0) b (extended x b.weight)) (one_in local a among)
        (subst (λ (y : Value). IsOffered (sent_of 0) local (extended y 5)) (some_same (start_value 0) x has)
        (record { offer = offer; among = contains_first (Item offer) (Mark busy ∷ Mark empty ∷ []); to = refl; place = refl; most = omega arith }));
  };
  supported = record {
    cells = λ arcs b incl below i v x at has l.
        subst (λ (u : ℕ). Belongs (weight_from 1) arcs u x) (at_1 i v at)
        (subst (Belongs (weight_from 1) arcs 1) (some_same (start_value 0) x has) (first_belongs arcs));
    offers = λ arcs b incl below to o other among l.
        subst (λ (p : Offer). Belongs (weight_from 1) arcs p.to.0 p.value) (sent_by_0 to o other among) (second_belongs arcs (incl 0 local (omega arith)));
    within = λ to o other among. subst (λ (p : Offer). IsWithin p.value) (sent_by_0 to o other among) (omega arith);
  };
  addressed = λ to o other among. subst (IsAddressed (part_of 0) to) (sent_by_0 to o other among) (addressed_0 to other);
}

local_1 : LocalRelax (weight_from 1) (part_of 1) (handled_of 1) (sent_of 1) (cell_of 1) (λ a. false)
local_1 = record {
  bounded = record {
    started = λ i v class at started. absurd (not_started v class (at_2 i v at) started);
    lowered = λ from o other among fits. subst (λ (p : Offer). AtMost second p.value) (handled_by_1 from o other among) (omega arith);
  };
  relaxed = record {
    own = λ a x among idle has within mine. absurd (omega (arith, among.1));
    other = λ a x among idle has within away. absurd (omega (arith, among.1));
  };
  supported = record {
    cells = λ arcs b incl below i v x at has l.
        let same = some_same second x has in
        let few : measure second < b = subst (λ (y : Value). measure y < b) (sym same) l in
        subst (λ (u : ℕ). Belongs (weight_from 1) arcs u x) (at_2 i v at)
        (subst (Belongs (weight_from 1) arcs 2) same
        (below 0 offer (omega arith) (contains_first (Item offer) (Mark busy ∷ Mark empty ∷ [])) (record { at = record { within = omega arith; vertex = refl }; within = omega arith }) few));
    offers = λ arcs b incl below to o other among l. absurd (sent_by_1 to o other among);
    within = λ to o other among. absurd (sent_by_1 to o other among);
  };
  addressed = λ to o other among. absurd (sent_by_1 to o other among);
}

even_0 : (to k : ℕ) (vote : Vote) → IsOther 0 2 to → slice_get (votes_of (list_at (sent_of 0) to)) k ≡ Some vote
    → (vote.b % 2 ≡ 0) ↔ ((other : ℕ) → IsOther 0 2 other → items_of_round k (list_at (sent_of 0) other) ≡ [])
even_0 zero k vote other is = absurd (other.1 refl)
even_0 (suc (suc r)) k vote other is = absurd (omega arith)
even_0 (suc zero) zero vote other is =
    let b : 1 ≡ vote.b = ap (λ (v : Option Vote). elim v [ None ↦ 0 | Some w ↦ w.b ]) is in
    (λ h. absurd (omega arith), λ h. let e : offer ∷ [] ≡ [] = h 1 other in cc)
even_0 (suc zero) (suc zero) vote other is =
    let b : 0 ≡ vote.b = ap (λ (v : Option Vote). elim v [ None ↦ 0 | Some w ↦ w.b ]) is in
    (λ h r away. both_ranks (λ r. items_of_round 1 (list_at (sent_of 0) r) ≡ []) refl refl r away.0, λ h. omega arith)
even_0 (suc zero) (suc (suc k)) vote other is = cc

even_1 : (to k : ℕ) (vote : Vote) → IsOther 1 2 to → slice_get (votes_of (list_at (sent_of 1) to)) k ≡ Some vote
    → (vote.b % 2 ≡ 0) ↔ ((other : ℕ) → IsOther 1 2 other → items_of_round k (list_at (sent_of 1) other) ≡ [])
even_1 (suc zero) k vote other is = absurd (other.1 refl)
even_1 (suc (suc r)) k vote other is = absurd (omega arith)
even_1 zero zero vote other is =
    let b : 0 ≡ vote.b = ap (λ (v : Option Vote). elim v [ None ↦ 0 | Some w ↦ w.b ]) is in
    (λ h r away. both_ranks (λ r. items_of_round 0 (list_at (sent_of 1) r) ≡ []) refl refl r away.0, λ h. omega arith)
even_1 zero (suc zero) vote other is =
    let b : 0 ≡ vote.b = ap (λ (v : Option Vote). elim v [ None ↦ 0 | Some w ↦ w.b ]) is in
    (λ h r away. both_ranks (λ r. items_of_round 1 (list_at (sent_of 1) r) ≡ []) refl refl r away.0, λ h. omega arith)
even_1 zero (suc (suc k)) vote other is = cc

vote_same : (v w : Vote) → Some v ≡ Some w → v ≡ w
vote_same v w e = cc

last_vote : (vote : Vote) → Some empty ≡ Some vote → (vote.a ≡ empty.a) × (vote.b ≡ 0)
last_vote vote e = let same = vote_same empty vote e in (sym (ap (λ (v : Vote). v.a) same), sym (ap (λ (v : Vote). v.b) same))

marked_0 : IsMarked (part_of 0) (handled_of 0) (sent_of 0) (λ a. false) 1
marked_0 = record {
  counted = λ to other. both_ranks (λ r. IsOther 0 2 r → marks (list_at (sent_of 0) r) ≡ 2) (λ h. absurd (h.1 refl)) (λ h. refl) to other.0 other;
  even = even_0;
  ended = λ from vote other is. both_ranks (λ r. IsOther 0 2 r → slice_get (votes_of (list_at (handled_of 0) r)) 1 ≡ Some vote → (vote.a ≡ empty.a) × (vote.b ≡ 0))
      (λ h e. absurd (h.1 refl)) (λ h e. last_vote vote e) from other.0 other is;
  left = λ a busy. cc;
}

marked_1 : IsMarked (part_of 1) (handled_of 1) (sent_of 1) (λ a. false) 1
marked_1 = record {
  counted = λ to other. both_ranks (λ r. IsOther 1 2 r → marks (list_at (sent_of 1) r) ≡ 2) (λ h. refl) (λ h. absurd (h.1 refl)) to other.0 other;
  even = even_1;
  ended = λ from vote other is. both_ranks (λ r. IsOther 1 2 r → slice_get (votes_of (list_at (handled_of 1) r)) 1 ≡ Some vote → (vote.a ≡ empty.a) × (vote.b ≡ 0))
      (λ h e. last_vote vote e) (λ h e. absurd (h.1 refl)) from other.0 other is;
  left = λ a busy. cc;
}

divided : IsDivided 2 2 (arc ∷ []) (λ v. v - 1) (λ v. 0) part_of
divided = record {
  rank = both_ranks (λ r. (part_of r).rank ≡ r) refl refl;
  group = both_ranks (λ r. (part_of r).ranks ≡ 2) refl refl;
  owned = λ v h. omega (arith, h.first, h.last);
  placed = two (λ v. IsAt (part_of (v - 1)) 0 v) (record { within = omega arith; vertex = refl }) (record { within = omega arith; vertex = refl });
  given = λ a among. subst (λ (b : Arc). Contains (part_of (b.from - 1)).arcs (local_arc (λ v. v - 1) (λ v. 0) b)) (one_in arc a among) (contains_first local []);
  included = both_ranks (λ r. Include (arc ∷ []) (part_of r)) (All-cons (λ (b : LocalArc). Contains (arc ∷ []) (whole_arc (part_of 0) b)) local [] (contains_first arc []) (All-nil (λ (b : LocalArc). Contains (arc ∷ []) (whole_arc (part_of 0) b)))) (λ k d h. absurd (omega arith));
}

-- a fact of each ordered pair
abbrev Pairs : (ℕ → ℕ → Type 0) → Type 0
Pairs P = (r s : ℕ) → r < 2 → IsOther r 2 s → P r s

pairs : (P : ℕ → ℕ → Type 0) → P 0 1 → P 1 0 → Pairs P
pairs P there back zero zero h other = absurd (other.1 refl)
pairs P there back zero (suc zero) h other = there
pairs P there back zero (suc (suc s)) h other = absurd (omega arith)
pairs P there back (suc zero) zero h other = back
pairs P there back (suc zero) (suc zero) h other = absurd (other.1 refl)
pairs P there back (suc zero) (suc (suc s)) h other = absurd (omega arith)
pairs P there back (suc (suc r)) s h other = absurd (omega arith)

pub is_run : IsRun example
is_run = record {
  size = omega arith;
  arcs = All-cons (IsArc 2) arc [] (omega arith) (All-nil (IsArc 2));
  costs = All-cons (λ (a : Arc). (weight_from 1).add a.weight < 2 ^ 32) arc [] (omega arith) (All-nil (λ (a : Arc). (weight_from 1).add a.weight < 2 ^ 32));
  divided = divided;
  taken = pairs (λ r s. list_at (handled_of s) r ≡ list_at (sent_of r) s) refl refl;
  kept = both_ranks (λ r. LocalRelax (weight_from 1) (part_of r) (handled_of r) (sent_of r) (cell_of r) (λ a. false)) local_0 local_1;
}

pub has_ended : HasEnded example
has_ended = record {
  rounds = 2;
  marked = pairs (λ r s. marks (list_at (sent_of r) s) ≡ 2) refl refl;
  last = pairs (λ r s. ends_with_mark (list_at (sent_of r) s) ≡ true) refl refl;
  kept = both_ranks (λ r. IsMarked (part_of r) (handled_of r) (sent_of r) (λ a. false) 1) marked_0 marked_1;
}
