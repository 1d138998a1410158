-- The counts of a summary, one entry more.
use Rattle.std.proofs.Common.{◌≡◌, ◌∙◌, ℕ, zero, suc, ◌+◌, ◌-◌, ◌*◌, ◌<◌, ◌≤◌, ◌==◌, Bool, cond, Option, Some, None, List, [], ◌∷◌, take, length, get_or, ap, sym, refl, arith, is_some}
use Rattle.std.specs.Prelude.{count_by, max, sum_by}
use Rattle.std.specs.List.{range_with_len}
use Rattle.std.proofs.lemmas.List.Sums.{count_by_more_no, count_by_more_yes, fold_more, sum_by_more}
use Rattle.std.proofs.lemmas.Bool.{eq-eqb, ne_eqb}
use Rattle.std.proofs.lemmas.List.{take_all}
use Rattle.std.proofs.lemmas.List.FromFn.{get_or-range_with_len, length-range_with_len}
use Rattle.pg_print.specs.declared.summaries.Tally.{Tally}
use Rattle.pg_top.specs.Summary.{component_count, greatest, number_in, number_of}

-- An entry that is there is one for any other default.
pub same_entry : (answers : List (Option ℕ)) (k : ℕ) (d : Option ℕ) → k < length answers → get_or answers k None ≡ get_or answers k d
same_entry [] k d below = absurd (omega arith)
same_entry (a ∷ answers) zero d below = refl
same_entry (a ∷ answers) (suc k) d below = same_entry answers k d (omega arith)

-- The tally of the first i distances, none of which is greater than 2 ^ 32.
pub record IsTallied (distances : List (Option ℕ)) (i : ℕ) (t : Tally) : Type 0 where
  pub count : t.count ≡ count_by is_some (take i distances)
  pub far : t.far ≡ greatest (take i distances)
  pub sum : t.sum ≡ sum_by number_in (take i distances)
  pub few : t.count ≤ i
  pub most : t.sum ≤ i * 4294967296

module _ (distances : List (Option ℕ)) (i : ℕ) (t : Tally) (is : IsTallied distances i t) (within : i < length distances) where
  count_more : count_by is_some (take (i + 1) distances) ≡ t.count + cond (is_some (get_or distances i None)) 1 0
  count_more = sum_by_more (λ (a : Option ℕ). cond (is_some a) 1 0) distances i None within ∙ ap (λ n. n + cond (is_some (get_or distances i None)) 1 0) (sym is.count)

  far_more : greatest (take (i + 1) distances) ≡ max t.far (number_in (get_or distances i None))
  far_more = fold_more (λ (most : ℕ) (a : Option ℕ). max most (number_in a)) 0 distances i None within ∙ ap (λ n. max n (number_in (get_or distances i None))) (sym is.far)

  sum_more : sum_by number_in (take (i + 1) distances) ≡ t.sum + number_in (get_or distances i None)
  sum_more = sum_by_more number_in distances i None within ∙ ap (λ n. n + number_in (get_or distances i None)) (sym is.sum)

  pub with_some : (d : ℕ) → get_or distances i None ≡ Some d → d ≤ 4294967296 → IsTallied distances (i + 1) (record { count = t.count + 1; far = max t.far d; sum = t.sum + d })
  with_some d at small = record {
    count = ap (λ (a : Option ℕ). t.count + cond (is_some a) 1 0) (sym at) ∙ sym count_more;
    far = ap (λ (a : Option ℕ). max t.far (number_in a)) (sym at) ∙ sym far_more;
    sum = ap (λ (a : Option ℕ). t.sum + number_in a) (sym at) ∙ sym sum_more;
    few = omega (arith, is.few);
    most = omega (arith, is.most, small);
  }

-- ---- the other counts

abbrev is_lowest : List (Option ℕ) → ℕ → Bool
is_lowest roots v = number_of roots v == v

abbrev pub lowest_below : List (Option ℕ) → ℕ → ℕ
lowest_below roots i = count_by (is_lowest roots) (take i (range_with_len 1 (length roots)))

module _ (roots : List (Option ℕ)) (i : ℕ) (within : i < length roots) where
  vertex_at : get_or (range_with_len 1 (length roots)) i 0 ≡ i + 1
  vertex_at = get_or-range_with_len 1 (length roots) i 0 within ∙ omega arith

  number_at : number_of roots (get_or (range_with_len 1 (length roots)) i 0) ≡ number_in (get_or roots i None)
  number_at = let place : (get_or (range_with_len 1 (length roots)) i 0) - 1 ≡ i = omega (arith, vertex_at) in ap (λ (k : ℕ). number_in (get_or roots k None)) place

  below : i < length (range_with_len 1 (length roots))
  below = omega (arith, within, length-range_with_len 1 (length roots))

  pub lowest_more : (n : ℕ) (d : Option ℕ) → n ≡ number_in (get_or roots i d) → n ≡ i + 1 → lowest_below roots (i + 1) ≡ lowest_below roots i + 1
  lowest_more n d found test =
      let is : number_in (get_or roots i None) ≡ i + 1 = ap number_in (same_entry roots i d within) ∙ (sym found ∙ test) in
      count_by_more_yes (is_lowest roots) (range_with_len 1 (length roots)) i 0 below (eq-eqb _ _ (number_at ∙ (is ∙ sym vertex_at)))

  pub lowest_same : (n : ℕ) (d : Option ℕ) → n ≡ number_in (get_or roots i d) → (n ≡ i + 1 → ⊥) → lowest_below roots (i + 1) ≡ lowest_below roots i
  lowest_same n d found test =
      let not : number_in (get_or roots i None) ≡ i + 1 → ⊥ = λ is. test (found ∙ (ap number_in (sym (same_entry roots i d within)) ∙ is)) in
      count_by_more_no (is_lowest roots) (range_with_len 1 (length roots)) i 0 below (ne_eqb _ _ (λ is. not (sym number_at ∙ (is ∙ vertex_at))))

pub lowest_all : (roots : List (Option ℕ)) → lowest_below roots (length roots) ≡ component_count roots
lowest_all roots = ap (count_by (is_lowest roots)) (take_all (length roots) (range_with_len 1 (length roots)) (omega (arith, length-range_with_len 1 (length roots))))
