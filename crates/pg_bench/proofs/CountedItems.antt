-- How many items the lists have after one more body joined one of them, or each.
use Rattle.std.proofs.Common.{◌≡◌, ℕ, zero, suc, ◌+◌, ◌%◌, ◌^◌, ◌<◌, not, cond, List, [], ◌∷◌, ◌++◌, length, refl, sym, ap, ◌∙◌, arith, sum_by}
use Rattle.std.proofs.lemmas.List.Sums.{sum_by-cons, sum_by_push}
use Rattle.pg_group.specs.declared.messages.Body.{Body}
use Rattle.pg_group.specs.declared.messages.Body.TheVariants.{Item, Mark}
use Rattle.pg_group.specs.declared.messages.Vote.{Vote}
use Rattle.pg_group.specs.Ranked.{append_at}
use Rattle.pg_group.specs.Rounds.{is_mark}
use Rattle.pg_group.specs.Supersteps.{append_each, append_marks}
use Rattle.pg_group.proofs.RollLemmas.{length-append_at, length-append_marks}
use Rattle.pg_bench.specs.Counts.{items_among, AreCounted}

one_more : (count n more : ℕ) → count ≡ n % 2 ^ 64 → more ≡ n + 1 → (count + 1) % 2 ^ 64 ≡ more % 2 ^ 64
one_more count n more e f = omega (arith, e, f)

module _ {B : Type 0} where
  abbrev items_in : List (List (Body B)) → ℕ
  items_in lists = sum_by items_among lists

  first_first : (lists : List (List (Body B))) (list : List (Body B)) → items_in (list ∷ lists) ≡ items_among list + items_in lists
  first_first lists list = sum_by-cons items_among list lists

  one_item : (bs : List (Body B)) (x : B) → items_among (bs ++ Item x ∷ []) ≡ items_among bs + 1
  one_item bs x = sum_by_push (λ body. cond (not (is_mark body)) 1 0) bs (Item x)

  one_mark : (bs : List (Body B)) (v : Vote) → items_among (bs ++ Mark v ∷ []) ≡ items_among bs
  one_mark bs v = omega (arith, sum_by_push (λ body. cond (not (is_mark body)) 1 0) bs (Mark v))

  item_joins : (lists : List (List (Body B))) (k : ℕ) (x : B) → k < length lists → items_in (append_at lists k (Item x)) ≡ items_in lists + 1
  item_joins [] k x h = absurd (omega arith)
  item_joins (l ∷ ls) zero x h = omega (arith, first_first ls l, first_first ls (l ++ Item x ∷ []), one_item l x)
  item_joins (l ∷ ls) (suc k) x h = omega (arith, first_first ls l, first_first (append_at ls k (Item x)) l, item_joins ls k x (omega arith))

  marks_join_each : (votes : List Vote) (lists : List (List (Body B))) → items_in (append_each votes lists) ≡ items_in lists
  marks_join_each [] lists = refl
  marks_join_each (v ∷ vs) [] = refl
  marks_join_each (v ∷ vs) (l ∷ ls) = omega (arith, first_first ls l, first_first (append_each vs ls) (l ++ Mark v ∷ []), marks_join_each vs ls, one_mark l v)

  marks_join : (own : ℕ) (votes : List Vote) (lists : List (List (Body B))) → items_in (append_marks own votes lists) ≡ items_in lists
  marks_join own [] lists = refl
  marks_join own (v ∷ vs) [] = refl
  marks_join zero (v ∷ vs) (l ∷ ls) = omega (arith, first_first ls l, first_first (append_each vs ls) l, marks_join_each vs ls)
  marks_join (suc own) (v ∷ vs) (l ∷ ls) = omega (arith, first_first ls l, first_first (append_marks own vs ls) (l ++ Mark v ∷ []), marks_join own vs ls, one_mark l v)

  pub item_counted : (size later count k : ℕ) (x : B) (lists : List (List (Body B))) → later ≡ size → k < size → AreCounted size count lists
      → AreCounted later ((count + 1) % 2 ^ 64) (append_at lists k (Item x))
  item_counted size later count k x lists same below counted = record {
    each = length-append_at lists k (Item x) ∙ counted.each ∙ sym same;
    items = one_more count (items_in lists) (items_in (append_at lists k (Item x))) counted.items (item_joins lists k x (omega (arith, counted.each)));
  }

  pub marks_uncounted : (size later count own : ℕ) (votes : List Vote) (lists : List (List (Body B))) → later ≡ size → AreCounted size count lists → AreCounted later count (append_marks own votes lists)
  marks_uncounted size later count own votes lists same counted = record {
    each = length-append_marks own votes lists ∙ counted.each ∙ sym same;
    items = counted.items ∙ ap (λ n. n % 2 ^ 64) (sym (marks_join own votes lists));
  }
