-- Arcs between labels, when the labels move on.
use Rattle.std.proofs.Common.{◌≡◌, ◌==◌, not, ℕ, Bool, true, false, cond, List, [], ◌∷◌, map, refl, sym, ap, ◌∙◌, subst, ⊎_elim, Option, Some, None, Contains}
use Rattle.std.specs.Prelude.{nat_lt, filter}
use Rattle.std.proofs.lemmas.Bool.{cases_eq, eq-eqb, ne_eqb, cond-true, cond-false, false≢true}
use Rattle.pg_base.proofs.Members.{contains_first, contains_later, Contains-filter}
use Rattle.pg_boruvka.specs.Parts.{LocalArc, Part}
use Rattle.pg_boruvka.specs.Winners.{leaves, lesser_arc, least_arc, key_of}
use Rattle.pg_boruvka.specs.Arcs.{relabelled, is_apart, AreLeasts}
use Rattle.pg_boruvka.specs.Orderly.{IsOrderly}
use Rattle.pg_boruvka.proofs.Leasts.{IsBestArc, best_arc_is}
use Rattle.pg_boruvka.proofs.OwnHooks.{leaves_is}
use Rattle.pg_boruvka.proofs.DueMessages.{AgreeAt, filter_same, best_same, key_same}

-- A list that is changed and tested, where what passes then had passed a test before.
module _ (p q : LocalArc → Bool) (f : LocalArc → LocalArc) (implied : (a : LocalArc) → p (f a) ≡ true → q a ≡ true) where
  kept_step : (before after : Bool) (a : LocalArc) (us vs : List LocalArc) → p (f a) ≡ after → (after ≡ true → before ≡ true)
      → filter p (map f us) ≡ map f vs → filter p (map f (cond before (a ∷ us) us)) ≡ map f (cond after (a ∷ vs) vs)
  kept_step true true a us vs is also rest = cond-true (p (f a)) (f a ∷ filter p (map f us)) (filter p (map f us)) is ∙ ap (λ (xs : List LocalArc). f a ∷ xs) rest
  kept_step true false a us vs is also rest = cond-false (p (f a)) (f a ∷ filter p (map f us)) (filter p (map f us)) is ∙ rest
  kept_step false true a us vs is also rest = absurd (false≢true (also refl))
  kept_step false false a us vs is also rest = rest

  kept_before : (arcs : List LocalArc) → filter p (map f (filter q arcs)) ≡ map f (filter (λ a. p (f a)) arcs)
  kept_before [] = refl
  kept_before (a ∷ arcs) = kept_step (q a) (p (f a)) a (filter q arcs) (filter (λ x. p (f x)) arcs) refl (implied a) (kept_before arcs)

-- The least of arcs between labels is the least arc between its labels.
abbrev relabelled_one : (ℕ → ℕ) → Option LocalArc → Option LocalArc
relabelled_one label None = None
relabelled_one label (Some a) = Some (relabelled label a)

lesser_relabelled : (label : ℕ → ℕ) (a : LocalArc) (o : Option LocalArc) → lesser_arc (relabelled label a) (relabelled_one label o) ≡ relabelled label (lesser_arc a o)
lesser_relabelled label a None = refl
lesser_relabelled label a (Some b) = by_test (nat_lt b.key a.key) where
  by_test : (less : Bool) → cond less (relabelled label b) (relabelled label a) ≡ relabelled label (cond less b a)
  by_test true = refl
  by_test false = refl

least_relabelled : (label : ℕ → ℕ) (arcs : List LocalArc) → least_arc (map (relabelled label) arcs) ≡ relabelled_one label (least_arc arcs)
least_relabelled label [] = refl
least_relabelled label (a ∷ arcs) = ap (λ (o : Option LocalArc). Some (lesser_arc (relabelled label a) o)) (least_relabelled label arcs)
    ∙ ap (λ (x : LocalArc). Some x) (lesser_relabelled label a (least_arc arcs))

key_relabelled : (label : ℕ → ℕ) (o : Option LocalArc) → key_of (relabelled_one label o) ≡ key_of o
key_relabelled label None = refl
key_relabelled label (Some a) = refl

relabelled_twice : (pointer label : ℕ → ℕ) (arcs : List LocalArc) → map (relabelled pointer) (map (relabelled label) arcs) ≡ map (relabelled (λ x. pointer (label x))) arcs
relabelled_twice pointer label [] = refl
relabelled_twice pointer label (a ∷ arcs) = ap (λ (xs : List LocalArc). relabelled (λ x. pointer (label x)) a ∷ xs) (relabelled_twice pointer label arcs)

-- Arcs between labels that move on along pointers.
module _ (arcs : List LocalArc) (label pointer : ℕ → ℕ) where
  abbrev moved : ℕ → ℕ
  moved x = pointer (label x)

  abbrev known : List LocalArc
  known = map (relabelled label) (filter (is_apart label) arcs)

  -- Ends with one label keep one label.
  apart_before : (a : LocalArc) → is_apart moved a ≡ true → is_apart label a ≡ true
  apart_before a apart = ⊎_elim
      (λ same. absurd (false≢true (sym (ap not (eq-eqb (moved a.from) (moved a.to) (ap pointer same))) ∙ apart)))
      (λ differ. ap not (ne_eqb (label a.from) (label a.to) differ))
      (cases_eq (label a.from) (label a.to))

  leaves_apart : (l : ℕ) (a : LocalArc) → leaves moved l a ≡ true → is_apart label a ≡ true
  leaves_apart l a e =
      let is = leaves_is moved l a e in
      apart_before a (ap not (ne_eqb (moved a.from) (moved a.to) (λ same. is.1 (sym same ∙ is.0))))

  pub kept_on : map (relabelled pointer) (filter (is_apart pointer) known) ≡ map (relabelled moved) (filter (is_apart moved) arcs)
  kept_on = ap (map (relabelled pointer)) (kept_before (is_apart pointer) (is_apart label) (relabelled label) apart_before arcs)
      ∙ relabelled_twice pointer label (filter (is_apart moved) arcs)

  least_on : (l : ℕ) → least_arc (filter (leaves pointer l) known) ≡ relabelled_one label (least_arc (filter (leaves moved l) arcs))
  least_on l = ap least_arc (kept_before (leaves pointer l) (is_apart label) (relabelled label) (leaves_apart l) arcs)
      ∙ least_relabelled label (filter (leaves moved l) arcs)

  pub leasts_on : (keys across : List ℕ) → AreLeasts known pointer keys across → AreLeasts arcs moved keys across
  leasts_on keys across are = record {
    key = λ l h. are.key l h ∙ ap key_of (least_on l) ∙ key_relabelled label (least_arc (filter (leaves moved l) arcs));
    across = λ l a h is. are.across l (relabelled label a) h (least_on l ∙ ap (relabelled_one label) is);
    edge = λ l a h is. are.edge l (relabelled label a) h (least_on l ∙ ap (relabelled_one label) is);
  }

map_same : (f g : LocalArc → LocalArc) (arcs : List LocalArc) → ((a : LocalArc) → Contains arcs a → f a ≡ g a) → map f arcs ≡ map g arcs
map_same f g [] same = refl
map_same f g (a ∷ arcs) same =
    let first = same a (contains_first a arcs) in
    let rest = map_same f g arcs (λ b c. same b (contains_later a arcs b c)) in
    λ i. first i ∷ rest i

-- Labels that agree at the vertices.
module _ (part : Part) (f g : ℕ → ℕ) (ends : (a : LocalArc) → Contains part.arcs a → IsOrderly part.n a) (agree : AgreeAt part.n f g) where
  apart_same : (a : LocalArc) → Contains part.arcs a → is_apart f a ≡ is_apart g a
  apart_same a c =
      let o = ends a c in
      let from = agree a.from o.from in
      let to = agree a.to o.to in
      λ i. not (from i == to i)

  relabelled_same : (a : LocalArc) → Contains part.arcs a → relabelled f a ≡ relabelled g a
  relabelled_same a c =
      let o = ends a c in
      let from = agree a.from o.from in
      let to = agree a.to o.to in
      λ i. record { from = from i; to = to i; key = a.key; edge = a.edge }

  pub kept_same : map (relabelled f) (filter (is_apart f) part.arcs) ≡ map (relabelled g) (filter (is_apart g) part.arcs)
  kept_same =
      map_same (relabelled f) (relabelled g) (filter (is_apart f) part.arcs) (λ a c. relabelled_same a (Contains-filter (is_apart f) part.arcs a c).0)
      ∙ ap (map (relabelled g)) (filter_same (is_apart f) (is_apart g) part.arcs apart_same)

  pub leasts_same : (keys across : List ℕ) → AreLeasts part.arcs f keys across → AreLeasts part.arcs g keys across
  leasts_same keys across are = record {
    key = λ l h. are.key l h ∙ key_same part f g ends agree l;
    across = λ l a h is.
        let among = (subst (IsBestArc part g l) is (best_arc_is part g l)).0.among in
        are.across l a h (best_same part f g ends agree l ∙ is) ∙ agree a.to (ends a among).to;
    edge = λ l a h is. are.edge l a h (best_same part f g ends agree l ∙ is);
  }
