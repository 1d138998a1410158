-- From the words of a vertex's line that are its neighbours to the first fault among them and the arcs that they name.
use Rattle.std.proofs.Common.{◌≡◌, ℕ, ◌-◌, ◌<◌, Bool, true, false, ◌==◌, Option, None, List, [], ◌∷◌, ◌++◌, All, slice_index, refl, sym, ap, ◌∙◌, subst, arith, append_assoc, append-nil}
use Rattle.std.proofs.lemmas.Bool.Decides.{nat_tests}
use Rattle.pg_base.specs.Graph.{Arc}
use Rattle.pg_text.specs.Text.{decimal_value}
use Rattle.pg_metis.specs.declared.faults.Kind.{Kind}
use Rattle.pg_metis.specs.declared.arcs.NamedArcs.{NamedArcs}
use Rattle.pg_metis.specs.Arcs.{Adds, Keeps}
use Rattle.pg_metis.specs.Fault.{neighbour_fault, neighbours_fault, weighted_fault}
use Rattle.pg_metis.specs.Rows.{AreStamps, TakesWeight, arcs_by}

-- The first fault among these neighbours, where these stood earlier in the line.
abbrev pub left_fault : Bool → ℕ → ℕ → List ℕ → List (List ℕ) → Option Kind
left_fault false = neighbours_fault
left_fault true = weighted_fault

-- What was taken of the words so far.
pub record TakesSome (weighted : Bool) (n v : ℕ) (all left : List (List ℕ)) (old new : NamedArcs) (stamps : List ℕ) : Type 0 where
  pub earlier : List ℕ
  pub stamped : AreStamps v earlier stamps
  pub same : left_fault weighted n v [] all ≡ left_fault weighted n v earlier left
  pub got : List Arc
  pub arcs : arcs_by weighted v all ≡ got ++ arcs_by weighted v left
  pub added : Adds old got new

pub adds-none : (old : NamedArcs) → Adds old [] old
adds-none old = record {
  most = refl;
  keeps = λ all keeps. subst (Keeps old) (sym (append-nil all)) keeps;
}

pub adds-more : (old mid new : NamedArcs) (xs ys : List Arc) → Adds old xs mid → Adds mid ys new → Adds old (xs ++ ys) new
adds-more old mid new xs ys first second = record {
  most = second.most ∙ first.most;
  keeps = λ all keeps. subst (Keeps new) (append_assoc all xs ys) (second.keeps (all ++ xs) (first.keeps all keeps));
}

differs : (stamp v : ℕ) → stamp < v → (stamp == v) ≡ false
differs stamp v below = grind (arith, nat_tests)

stamps-none : (v : ℕ) (stamps : List ℕ) → All (λ stamp. stamp < v) stamps → AreStamps v [] stamps
stamps-none v stamps below = record {
  early = λ k d h. let b = below k d h in omega arith;
  named = λ x first last. differs (slice_index stamps (x - 1)) v (below (x - 1) 0 (omega arith));
}

pub takes-none : (weighted : Bool) (n v : ℕ) (all : List (List ℕ)) (old : NamedArcs) (stamps : List ℕ) → All (λ stamp. stamp < v) stamps → TakesSome weighted n v all all old old stamps
takes-none weighted n v all old stamps below = record {
  earlier = [];
  stamped = stamps-none v stamps below;
  same = refl;
  got = [];
  arcs = refl;
  added = adds-none old;
}

-- A neighbour without a fault, and its weight.
pub fault-on : (weighted : Bool) (n v to weight : ℕ) (earlier : List ℕ) (word : List ℕ) (rest left : List (List ℕ)) → neighbour_fault n v earlier word ≡ None → to ≡ decimal_value word → TakesWeight weighted rest weight left → left_fault weighted n v earlier (word ∷ rest) ≡ left_fault weighted n v (to ∷ earlier) left
fault-on false n v to weight earlier word rest left fine is takes = rw (fine, is, takes.1) refl
fault-on true n v to weight earlier word rest left fine is (x, next, light, worth) = rw (next, fine, light, is) refl

pub arcs-on : (weighted : Bool) (v to weight : ℕ) (word : List ℕ) (rest left : List (List ℕ)) → to ≡ decimal_value word → TakesWeight weighted rest weight left → arcs_by weighted v (word ∷ rest) ≡ record { from = v; to = to; weight = weight } ∷ arcs_by weighted v left
arcs-on false v to weight word rest left is takes = rw (is, takes.0, takes.1) refl
arcs-on true v to weight word rest left is (x, next, light, worth) = rw (next, is, worth) refl

pub takes-more : (weighted : Bool) (n v to weight : ℕ) (all left rest after : List (List ℕ)) (word : List ℕ) (old mid new : NamedArcs) (stamps stamped : List ℕ) → TakesSome weighted n v all left old mid stamps → left ≡ word ∷ rest
    → to ≡ decimal_value word → ((earlier : List ℕ) → AreStamps v earlier stamps → AreStamps v (to ∷ earlier) stamped) → ((earlier : List ℕ) → AreStamps v earlier stamps → neighbour_fault n v earlier word ≡ None)
    → TakesWeight weighted rest weight after → Adds mid (record { from = v; to = to; weight = weight } ∷ []) new → TakesSome weighted n v all after old new stamped
takes-more weighted n v to weight all left rest after word old mid new stamps stamped some next is stamp fine takes adds =
    let arc : Arc = record { from = v; to = to; weight = weight } in
    record {
      earlier = to ∷ some.earlier;
      stamped = stamp some.earlier some.stamped;
      same = some.same ∙ ap (left_fault weighted n v some.earlier) next ∙ fault-on weighted n v to weight some.earlier word rest after (fine some.earlier some.stamped) is takes;
      got = some.got ++ arc ∷ [];
      arcs = some.arcs ∙ ap (λ ws. some.got ++ arcs_by weighted v ws) next ∙ ap (λ l. some.got ++ l) (arcs-on weighted v to weight word rest after is takes) ∙ sym (append_assoc some.got (arc ∷ []) (arcs_by weighted v after));
      added = adds-more old mid new some.got (arc ∷ []) some.added adds;
    }
