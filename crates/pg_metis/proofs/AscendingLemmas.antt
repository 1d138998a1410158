-- Lines whose neighbours ascend: none of them is repeated.
use Rattle.std.proofs.Common.{◌≡◌, ◌≢◌, ℕ, ◌<◌, ◌≤◌, Bool, true, false, ◌==◌, ◌||◌, nat_lt, None, List, [], ◌∷◌, ◌++◌, All, refl, sym, ap, ◌∙◌, arith, append_assoc, append-nil}
use Rattle.std.specs.List.{list_any}
use Rattle.std.proofs.lemmas.Bool.Decides.{nat_tests}
use Rattle.std.proofs.lemmas.List.Elements.{All-cons, All-head, All-tail}
use Rattle.pg_base.specs.Graph.{Arc}
use Rattle.pg_text.specs.Text.{is_number, decimal_value}
use Rattle.pg_metis.specs.declared.arcs.NamedArcs.{NamedArcs}
use Rattle.pg_metis.specs.Arcs.{Adds, Extends}
use Rattle.pg_metis.specs.Fault.{neighbour_fault}
use Rattle.pg_metis.specs.Rows.{TakesWeight, arcs_by}
use Rattle.pg_metis.proofs.NeighbourLemmas.{adds-more, adds-none, arcs-on, fault-on, left_fault}

other_than : (x to last : ℕ) → x ≤ last → last < to → (x == to) ≡ false
other_than x to last below above = grind (arith, nat_tests)

-- A number above all earlier ones is none of them.
not_earlier : (to last : ℕ) (earlier : List ℕ) → last < to → All (λ x. x ≤ last) earlier → list_any (λ other. other == to) earlier ≡ false
not_earlier to last [] above below = refl
not_earlier to last (x ∷ earlier) above below =
    rw (other_than x to last (All-head (λ x. x ≤ last) x earlier below) above) (not_earlier to last earlier above (All-tail (λ x. x ≤ last) x earlier below))

within : (n v last to : ℕ) → last < to → to ≤ n → to ≢ v → ((to == 0 || nat_lt n to) ≡ false) × ((to == v) ≡ false)
within n v last to above most other = (grind (arith, nat_tests), grind (arith, nat_tests))

-- A neighbour above all earlier ones has no fault.
pub greater-fine : (n v last to : ℕ) (earlier word : List ℕ) → is_number word ≡ true → to ≡ decimal_value word → last < to → to ≤ n → to ≢ v → All (λ x. x ≤ last) earlier → neighbour_fault n v earlier word ≡ None
greater-fine n v last to earlier word is value above most other below =
    let t = within n v last to above most other in
    rw (is, sym value, t.0, t.1, not_earlier to last earlier above below) refl

-- What was taken of the words so far, where the neighbours ascend to `last`.
pub record TakesAscending (weighted : Bool) (n v last : ℕ) (all left : List (List ℕ)) (old new : NamedArcs) : Type 0 where
  pub earlier : List ℕ
  pub below : All (λ x. x ≤ last) earlier
  pub same : left_fault weighted n v [] all ≡ left_fault weighted n v earlier left
  pub got : List Arc
  pub arcs : arcs_by weighted v all ≡ got ++ arcs_by weighted v left
  pub added : Adds old got new
  pub extends : Extends old new

pub extends-none : (old : NamedArcs) → Extends old old
extends-none old = record { most = refl; since = []; kept = sym (append-nil old.kept.items) }

pub extends-more : (old mid new : NamedArcs) → Extends old mid → Extends mid new → Extends old new
extends-more old mid new first second = record {
  most = second.most ∙ first.most;
  since = first.since ++ second.since;
  kept = second.kept ∙ ap (λ l. l ++ second.since) first.kept ∙ append_assoc old.kept.items first.since second.since;
}

pub ascends-none : (weighted : Bool) (n v : ℕ) (all : List (List ℕ)) (old : NamedArcs) → TakesAscending weighted n v 0 all all old old
ascends-none weighted n v all old = record {
  earlier = [];
  below = λ k d h. absurd (omega arith);
  same = refl;
  got = [];
  arcs = refl;
  added = adds-none old;
  extends = extends-none old;
}

pub ascends-more : (weighted : Bool) (n v last to weight : ℕ) (all left rest after : List (List ℕ)) (word : List ℕ) (old mid new : NamedArcs) → TakesAscending weighted n v last all left old mid → left ≡ word ∷ rest
    → to ≡ decimal_value word → last < to → ((earlier : List ℕ) → All (λ x. x ≤ last) earlier → neighbour_fault n v earlier word ≡ None)
    → TakesWeight weighted rest weight after → Adds mid (record { from = v; to = to; weight = weight } ∷ []) new → Extends mid new → TakesAscending weighted n v to all after old new
ascends-more weighted n v last to weight all left rest after word old mid new some next is above fine takes adds extends =
    let arc : Arc = record { from = v; to = to; weight = weight } in
    record {
      earlier = to ∷ some.earlier;
      below = All-cons (λ x. x ≤ to) to some.earlier (omega arith) (λ k d h. let b = some.below k d h in omega arith);
      same = some.same ∙ ap (left_fault weighted n v some.earlier) next ∙ fault-on weighted n v to weight some.earlier word rest after (fine some.earlier some.below) is takes;
      got = some.got ++ arc ∷ [];
      arcs = some.arcs ∙ ap (λ ws. some.got ++ arcs_by weighted v ws) next ∙ ap (λ l. some.got ++ l) (arcs-on weighted v to weight word rest after is takes) ∙ sym (append_assoc some.got (arc ∷ []) (arcs_by weighted v after));
      added = adds-more old mid new some.got (arc ∷ []) some.added adds;
      extends = extends-more old mid new some.extends extends;
    }
