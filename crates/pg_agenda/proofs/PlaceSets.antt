-- A set of places stays what it is as places enter and leave.
use Rattle.std.proofs.Common.{◌≡◌, ◌<◌, ℕ, Bool, true, false, eqb, List, [], ◌∷◌, length, refl, sym, ap, ◌∙◌, arith}
use Rattle.std.specs.Prelude.{not}
use Rattle.std.proofs.lemmas.Bool.{ne_eqb}
use Rattle.std.proofs.lemmas.List.Sums.{sum_by-cons}
use Rattle.pg_agenda.specs.LevelLists.{AreLevels, one_if, set_flags, is_set, is_any}
use Rattle.pg_agenda.proofs.LevelSteps.{levels_room}

turned : (flags : List Bool) (this next : List ℕ) → AreLevels flags this next → AreLevels flags next this
turned flags this next l = record {
  each = λ q. omega (arith, l.each q);
  many = omega (arith, l.many);
}

pub set_room : (flags : List Bool) (places : List ℕ) (p : ℕ) → AreLevels flags places [] → p < length flags → is_set flags p ≡ false
    → length places < length flags
set_room flags places p l lt off = omega (arith, levels_room flags places [] p l lt off)

-- some flag is set exactly where the count of set flags isn't 0
counted : (flags : List Bool) → is_any flags ≡ not (eqb (set_flags flags) 0)
counted [] = refl
counted (true ∷ flags) = rw (ne_eqb (set_flags (true ∷ flags)) 0 (λ e. omega (arith, e, sum_by-cons one_if true flags))) refl
counted (false ∷ flags) = let e : set_flags (false ∷ flags) ≡ set_flags flags = omega (arith, sum_by-cons one_if false flags) in rw e (counted flags)

pub any_by_length : (flags : List Bool) (places : List ℕ) → AreLevels flags places [] → is_any flags ≡ not (eqb (length places) 0)
any_by_length flags places l =
    let e : set_flags flags ≡ length places = omega (arith, l.many) in
    counted flags ∙ ap (λ n. not (eqb n 0)) e

pub none_left : (flags : List Bool) → AreLevels flags [] [] → is_any flags ≡ false
none_left flags l = any_by_length flags [] l

not_not : (b : Bool) → b ≡ not (not b)
not_not true = refl
not_not false = refl

pub empty_by_length : (flags : List Bool) (places : List ℕ) (r : Bool) → AreLevels flags places [] → r ≡ eqb (length places) 0 → r ≡ not (is_any flags)
empty_by_length flags places r l e = e ∙ not_not _ ∙ ap not (sym (any_by_length flags places l))
