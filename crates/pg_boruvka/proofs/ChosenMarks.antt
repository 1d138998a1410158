-- Marks of chosen edges, set one after another, and listed.
use Rattle.std.proofs.Common.{◌≡◌, ◌≢◌, ◌⊎◌, ◌↔◌, ℕ, ◌+◌, ◌<◌, ◌≤◌, Bool, true, false, List, [], ◌∷◌, ◌++◌, length, take, drop, Contains, refl, sym, ap, ◌∙◌, subst, inl, inr, ⊎_elim, arith}
use Rattle.std.specs.Prelude.{slice_index, slice_index_or, slice_set}
use Rattle.std.proofs.lemmas.Bool.{cases_eq}
use Rattle.std.proofs.lemmas.List.{take_more, take_all, get_or-set_same, get_or-set_other, length-set}
use Rattle.std.proofs.lemmas.List.Elements.{Contains-append_left, Contains-push, Contains-push_cases}
use Rattle.pg_boruvka.specs.Chosen.{marked, marked_from, AreMarked}

marked_by : (list : List ℕ) (e : ℕ) (old now new : List Bool) → AreMarked list old now
    → (e < length old → slice_index_or new e false ≡ true) → ((i : ℕ) → i < length old → i ≢ e → slice_index_or new i false ≡ slice_index_or now i false)
    → (i : ℕ) → i < length old → ◌⊎◌ (i ≡ e) (i ≢ e) → (slice_index_or new i false ≡ true) ↔ ((slice_index_or old i false ≡ true) ⊎ Contains (list ++ e ∷ []) i)
marked_by list e old now new is here other i h (inl same) = (
  λ t. inr (subst (Contains (list ++ e ∷ [])) (sym same) (Contains-push list e)),
  λ t. ap (λ (x : ℕ). slice_index_or new x false) same ∙ here (subst (λ (x : ℕ). x < length old) same h),
)
marked_by list e old now new is here other i h (inr apart) = (
  λ t. ⊎_elim inl (λ c. inr (Contains-append_left list (e ∷ []) i c)) ((is i h).0 (sym (other i h apart) ∙ t)),
  λ t. other i h apart ∙ (is i h).1 (⊎_elim inl (λ c. ⊎_elim inr (λ same. absurd (apart (sym same))) (Contains-push_cases list e i c)) t),
)

marked_push : (list : List ℕ) (e : ℕ) (old now new : List Bool) → AreMarked list old now
    → (e < length old → slice_index_or new e false ≡ true) → ((i : ℕ) → i < length old → i ≢ e → slice_index_or new i false ≡ slice_index_or now i false)
    → AreMarked (list ++ e ∷ []) old new
marked_push list e old now new is here other i h = marked_by list e old now new is here other i h (cases_eq i e)

-- The first edges of the list are marked.
pub record AreMarkedTo (edges : List ℕ) (old now : List Bool) (i : ℕ) : Type 0 where
  pub same_count : length now ≡ length old
  pub marks : AreMarked (take i edges) old now

pub marked_more : (edges : List ℕ) (old now : List Bool) (i : ℕ) → i < length edges → slice_index edges i < length old → AreMarkedTo edges old now i
    → AreMarkedTo edges old (slice_set now (slice_index edges i) true) (i + 1)
marked_more edges old now i h small is =
    let e = slice_index edges i in
    let inside : e < length now = omega (arith, small, is.same_count) in
    record {
      same_count = length-set now e true ∙ is.same_count;
      marks = subst (λ (list : List ℕ). AreMarked list old (slice_set now e true)) (sym (take_more edges i 0 h))
          (marked_push (take i edges) e old now (slice_set now e true) is.marks (λ below. get_or-set_same now e true false inside) (λ k below apart. get_or-set_other now e k true false apart));
    }

pub marked_past : (edges : List ℕ) (old now : List Bool) (i : ℕ) → i < length edges → length old ≤ slice_index edges i → AreMarkedTo edges old now i
    → AreMarkedTo edges old now (i + 1)
marked_past edges old now i h great is = record {
  same_count = is.same_count;
  marks = subst (λ (list : List ℕ). AreMarked list old now) (sym (take_more edges i 0 h))
      (marked_push (take i edges) (slice_index edges i) old now now is.marks (λ below. absurd (omega arith)) (λ k below apart. refl));
}

pub marked_all : (edges : List ℕ) (old now : List Bool) (i : ℕ) → length edges ≤ i → AreMarkedTo edges old now i → AreMarked edges old now
marked_all edges old now i end is = subst (λ (list : List ℕ). AreMarked list old now) (take_all i edges end) is.marks

-- The marks so far are listed.
abbrev pub AreListed : List Bool → List ℕ → ℕ → Type 0
AreListed marks list i = list ++ marked_from i (drop i marks) ≡ marked marks
