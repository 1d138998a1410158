-- The winners of labels are lowered to the keys of a piece.
use Rattle.std.proofs.Common.{◌≡◌, ◌⊎◌, ℕ, ◌+◌, ◌-◌, ◌<◌, ◌≤◌, List, ◌++◌, length, get_or, take, drop, sym, ◌∙◌, ap, inl, inr, ⊎_elim, arith}
use Rattle.std.specs.Prelude.{min, max, slice_index}
use Rattle.std.specs.Simd.Lanes.{zip2}
use Rattle.std.proofs.lemmas.Bool.{cases_lt}
use Rattle.std.proofs.lemmas.List.{length-take, length-take-le, length-drop, get_or-take, get_or-drop, get_or_append_left, get_or-append_right, get_or_past}
use Rattle.std.proofs.lemmas.Simd.{get_or-zip2, length-zip2}
use borrow.Rule.Slice.PartMut.{put_mid}
use Rattle.pg_boruvka.specs.declared.TheConstants.{NO_KEY}
use Rattle.pg_boruvka.specs.declared.messages.Message.{Message}
use Rattle.pg_boruvka.specs.declared.messages.Message.TheVariants.{Piece as Keys}
use Rattle.pg_boruvka.specs.Winners.{given_key}
use Rattle.pg_boruvka.specs.Lowered.{IsBetween, AreLowered}
use Rattle.pg_boruvka.proofs.Pieces.{given_within, given_below}

-- The entries of a list whose part from a on was replaced.
module _ {X : Type 0} (a k : ℕ) (xs ys : List X) (d : X) (room : a ≤ length xs) where
  pub before_part : (l : ℕ) → l < a → get_or (put_mid a k xs ys) l d ≡ get_or xs l d
  before_part l h = get_or_append_left (take a xs) (ys ++ drop k (drop a xs)) d l (omega (arith, length-take-le a xs room)) ∙ get_or-take a xs l d h

  pub in_part : (l : ℕ) → length ys ≡ k → a ≤ l → l < a + k → get_or (put_mid a k xs ys) l d ≡ get_or ys (l - a) d
  in_part l long from before = get_or-append_right (take a xs) (ys ++ drop k (drop a xs)) a l d (length-take-le a xs room) from
      ∙ get_or_append_left ys (drop k (drop a xs)) d (l - a) (omega arith)

  pub after_part : (l : ℕ) → length ys ≡ k → a + k ≤ l → get_or (put_mid a k xs ys) l d ≡ get_or xs l d
  after_part l long from =
      let whole : a + (k + (l - a - k)) ≡ l = omega arith in
      get_or-append_right (take a xs) (ys ++ drop k (drop a xs)) a l d (length-take-le a xs room) (omega arith)
      ∙ (get_or-append_right ys (drop k (drop a xs)) k (l - a) d long (omega arith)
      ∙ (get_or-drop k (drop a xs) (l - a - k) d ∙ (get_or-drop a xs (k + (l - a - k)) d ∙ ap (λ (j : ℕ). get_or xs j d) whole)))

-- The label is one of those whose winners were written, or not.
cases_written : (from to l : ℕ) → (IsBetween from to l) ⊎ ((l < from) ⊎ (to ≤ l))
cases_written from to l = ⊎_elim
    (λ h. inr (inl h))
    (λ h. ⊎_elim (λ less. inl (record { from = h; before = less })) (λ more. inr (inr more)) (cases_lt l to))
    (cases_lt l from)

-- The key of each label from `from` on and before `to` stands in the piece, and no other label's between.
pub record IsCovered (base count first past from to : ℕ) : Type 0 where
  pub order : from < to
  pub base_before : base ≤ from
  pub first_before : first ≤ from
  pub end_within : to ≤ base + count
  pub end_before : to ≤ past
  pub begins : (from ≡ base) ⊎ (from ≡ first)
  pub ends : (to ≡ base + count) ⊎ (to ≡ past)

pub covered_by : (base count first past from to : ℕ) → from < to → from ≡ max base first → to ≡ min (base + count) past → IsCovered base count first past from to
covered_by base count first past from to order begin end = record {
  order = order;
  base_before = omega arith;
  first_before = omega arith;
  end_within = omega arith;
  end_before = omega arith;
  begins = ⊎_elim (λ h. inr (omega arith)) (λ h. inl (omega arith)) (cases_lt base first);
  ends = ⊎_elim (λ h. inl (omega arith)) (λ h. inr (omega arith)) (cases_lt (base + count) past);
}

module _ (base : ℕ) (keys winners : List ℕ) (first past from to : ℕ) (covered : IsCovered base (length keys) first past from to) (within : past ≤ length winners) where
  abbrev m : Message
  m = Keys (record { base = base; keys = keys })

  abbrev given : List ℕ
  given = take ((to - base) - (from - base)) (drop (from - base) keys)

  abbrev lowered : List ℕ
  lowered = zip2 min (take (to - from) (drop from winners)) given

  abbrev new : List ℕ
  new = put_mid from (to - from) winners lowered

  none_given : (l : ℕ) → IsBetween first past l → (l < from) ⊎ (to ≤ l) → given_key l m ≡ NO_KEY
  none_given l between beside = ⊎_elim
      (λ below. given_below l base keys below)
      (λ above. given_within l base keys above ∙ get_or_past keys (l - base) NO_KEY (far beside covered.begins covered.ends above))
      (cases_lt l base)
    where
      far : (l < from) ⊎ (to ≤ l) → (from ≡ base) ⊎ (from ≡ first) → (to ≡ base + length keys) ⊎ (to ≡ past) → base ≤ l → length keys ≤ l - base
      far (inl less) (inl begins) ends above = absurd (omega arith)
      far (inl less) (inr begins) ends above = absurd (omega (arith, between.from))
      far (inr more) begins (inl ends) above = omega arith
      far (inr more) begins (inr ends) above = absurd (omega (arith, between.before))

  long_old : length (take (to - from) (drop from winners)) ≡ to - from
  long_old = omega (arith, length-take (to - from) (drop from winners), length-drop from winners, covered.end_before, covered.order)

  long_given : length given ≡ to - from
  long_given = omega (arith, length-take ((to - base) - (from - base)) (drop (from - base) keys), length-drop (from - base) keys, covered.end_within, covered.base_before, covered.order)

  long_lowered : length lowered ≡ to - from
  long_lowered = length-zip2 min (take (to - from) (drop from winners)) given (long_old ∙ sym long_given) ∙ long_old

  room : from ≤ length winners
  room = omega (arith, covered.order, covered.end_before)

  beside_old : (l : ℕ) → (l < from) ⊎ (to ≤ l) → slice_index new l ≡ slice_index winners l
  beside_old l (inl less) = before_part from (to - from) winners lowered 0 room l less
  beside_old l (inr more) = after_part from (to - from) winners lowered 0 room l long_lowered (omega (arith, covered.order))

  written : (l : ℕ) → IsBetween from to l → slice_index new l ≡ min (slice_index winners l) (given_key l m)
  written l is =
      let at : l - from < to - from = omega (arith, is.from, is.before) in
      let old : get_or (take (to - from) (drop from winners)) (l - from) 0 ≡ slice_index winners l =
      get_or-take (to - from) (drop from winners) (l - from) 0 at ∙ (get_or-drop from winners (l - from) 0 ∙ ap (slice_index winners) (omega (arith, is.from))) in
      let key : get_or given (l - from) NO_KEY ≡ get_or keys (l - base) NO_KEY =
      get_or-take ((to - base) - (from - base)) (drop (from - base) keys) (l - from) NO_KEY (omega (arith, covered.base_before, covered.order))
      ∙ (get_or-drop (from - base) keys (l - from) NO_KEY ∙ ap (λ (j : ℕ). get_or keys j NO_KEY) (omega (arith, covered.base_before, is.from))) in
      let gives : get_or given (l - from) NO_KEY ≡ given_key l m = key ∙ sym (given_within l base keys (omega (arith, covered.base_before, is.from))) in
      in_part from (to - from) winners lowered 0 room l long_lowered is.from (omega (arith, is.before, covered.order))
      ∙ (get_or-zip2 min (take (to - from) (drop from winners)) given (l - from) 0 NO_KEY 0 (omega (arith, long_old)) (omega (arith, long_given))
      ∙ (ap (λ (x : ℕ). min x (get_or given (l - from) NO_KEY)) old ∙ ap (min (slice_index winners l)) gives))

  kept_winner : ((i : ℕ) → slice_index new i ≤ NO_KEY) → (l : ℕ) → IsBetween first past l → (l < from) ⊎ (to ≤ l) → slice_index new l ≡ min (slice_index winners l) (given_key l m)
  kept_winner small l between beside =
      let same = beside_old l beside in
      let none = none_given l between beside in
      omega (arith, same, none, small l)

  pub are_lowered : ((i : ℕ) → slice_index new i ≤ NO_KEY) → AreLowered m first past winners new
  are_lowered small = record {
    between = λ l is. ⊎_elim (λ inside. written l inside) (λ beside. kept_winner small l is beside) (cases_written from to l);
    others = λ l is_not. ⊎_elim
        (λ inside. absurd (is_not (record { from = omega (arith, inside.from, covered.first_before); before = omega (arith, inside.before, covered.end_before) })))
        (λ beside. beside_old l beside)
        (cases_written from to l);
  }
