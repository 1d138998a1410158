-- What one more body does to the rounds of a list, and what the calls of a roll do to its lists.
use Rattle.std.proofs.Common.{◌≡◌, ◌≢◌, ℕ, zero, suc, ◌+◌, ◌%◌, ◌^◌, ◌<◌, ◌≤◌, Bool, true, false, not, cond, List, [], ◌∷◌, ◌++◌, length, map, refl, sym, ap, ◌∙◌, subst, arith, ◌⊎◌, inl, inr, nat_lt, if◌then◌else◌}
use Rattle.std.proofs.lemmas.Bool.{cases_lt, cases_eq}
use Rattle.std.proofs.lemmas.List.Sums.{sum_by-cons, sum_by_push}
use Rattle.std.specs.Prelude.{Option, slice_get}
use Rattle.std.proofs.lemmas.Bool.Decides.{nat_tests}
use Rattle.pg_group.specs.declared.messages.Body.{Body}
use Rattle.pg_group.specs.declared.messages.Body.TheVariants.{Item, Mark}
use Rattle.pg_group.specs.declared.messages.Vote.{Vote}
use Rattle.pg_group.specs.Ranked.{IsOther, append_at, list_at}
use Rattle.pg_group.specs.Rounds.{is_mark, marks, items_of_round}
use Rattle.pg_group.specs.Supersteps.{append_others, append_each, append_marks}
use Rattle.pg_group.specs.Rolls.{IsRolled, voted, items, items_in}
use Rattle.pg_group.proofs.Lanes.{items_of_round-push}

module _ {B : Type 0} where
  pub marks-item : (bs : List (Body B)) (x : B) → marks (bs ++ Item x ∷ []) ≡ marks bs
  marks-item [] x = refl
  marks-item (Item y ∷ bs) x = marks-item bs x
  marks-item (Mark v ∷ bs) x = ap suc (marks-item bs x)

  pub marks-mark : (bs : List (Body B)) (v : Vote) → marks (bs ++ Mark v ∷ []) ≡ suc (marks bs)
  marks-mark [] v = refl
  marks-mark (Item y ∷ bs) v = marks-mark bs v
  marks-mark (Mark w ∷ bs) v = ap suc (marks-mark bs v)

  -- a mark is no item of any round
  pub round-mark : (k : ℕ) (bs : List (Body B)) (v : Vote) → items_of_round k (bs ++ Mark v ∷ []) ≡ items_of_round k bs
  round-mark zero [] v = refl
  round-mark (suc k) [] v = refl
  round-mark zero (Item y ∷ bs) v = ap (λ l. y ∷ l) (round-mark zero bs v)
  round-mark (suc k) (Item y ∷ bs) v = round-mark (suc k) bs v
  round-mark zero (Mark w ∷ bs) v = refl
  round-mark (suc k) (Mark w ∷ bs) v = round-mark k bs v

  -- a round that a mark ended gets no item more
  pub round-ended : (k : ℕ) (bs : List (Body B)) (x : B) → k < marks bs → items_of_round k (bs ++ Item x ∷ []) ≡ items_of_round k bs
  round-ended k [] x h = absurd (omega arith)
  round-ended zero (Item y ∷ bs) x h = ap (λ l. y ∷ l) (round-ended zero bs x h)
  round-ended (suc k) (Item y ∷ bs) x h = round-ended (suc k) bs x h
  round-ended zero (Mark w ∷ bs) x h = refl
  round-ended (suc k) (Mark w ∷ bs) x h = round-ended k bs x (omega arith)

  -- a round that no mark began has no items
  pub round-to_come : (k : ℕ) (bs : List (Body B)) → marks bs < k → items_of_round k bs ≡ []
  round-to_come zero bs h = absurd (omega arith)
  round-to_come (suc k) [] h = refl
  round-to_come (suc k) (Item y ∷ bs) h = round-to_come (suc k) bs h
  round-to_come (suc k) (Mark w ∷ bs) h = round-to_come k bs (omega arith)

module _ {X : Type 0} where
  pub length-append_at : (lists : List (List X)) (k : ℕ) (x : X) → length (append_at lists k x) ≡ length lists
  length-append_at [] k x = refl
  length-append_at (l ∷ ls) zero x = refl
  length-append_at (l ∷ ls) (suc k) x = ap suc (length-append_at ls k x)

  pub list_at-append_same : (lists : List (List X)) (k : ℕ) (x : X) → k < length lists → list_at (append_at lists k x) k ≡ list_at lists k ++ x ∷ []
  list_at-append_same [] k x h = absurd (omega arith)
  list_at-append_same (l ∷ ls) zero x h = refl
  list_at-append_same (l ∷ ls) (suc k) x h = list_at-append_same ls k x (omega arith)

  pub list_at-append_else : (lists : List (List X)) (k j : ℕ) (x : X) → j ≢ k → list_at (append_at lists k x) j ≡ list_at lists j
  list_at-append_else [] k j x h = refl
  list_at-append_else (l ∷ ls) zero zero x h = absurd (h refl)
  list_at-append_else (l ∷ ls) zero (suc j) x h = refl
  list_at-append_else (l ∷ ls) (suc k) zero x h = refl
  list_at-append_else (l ∷ ls) (suc k) (suc j) x h = list_at-append_else ls k j x (λ e. h (ap suc e))

module _ {B : Type 0} where
  length_of_pushed : (lists : List (List (Body B))) (b : Body B) → length (map (λ l. l ++ b ∷ []) lists) ≡ length lists
  length_of_pushed [] b = refl
  length_of_pushed (l ∷ ls) b = ap suc (length_of_pushed ls b)

  pub length-append_others : (own : ℕ) (b : Body B) (lists : List (List (Body B))) → length (append_others own b lists) ≡ length lists
  length-append_others own b [] = refl
  length-append_others zero b (l ∷ ls) = ap suc (length_of_pushed ls b)
  length-append_others (suc own) b (l ∷ ls) = ap suc (length-append_others own b ls)

  at_pushed : (lists : List (List (Body B))) (b : Body B) (k : ℕ) → k < length lists → list_at (map (λ l. l ++ b ∷ []) lists) k ≡ list_at lists k ++ b ∷ []
  at_pushed [] b k h = absurd (omega arith)
  at_pushed (l ∷ ls) b zero h = refl
  at_pushed (l ∷ ls) b (suc k) h = at_pushed ls b k (omega arith)

  pub list_at-append_others : (own : ℕ) (b : Body B) (lists : List (List (Body B))) (k : ℕ) → k < length lists → k ≢ own → list_at (append_others own b lists) k ≡ list_at lists k ++ b ∷ []
  list_at-append_others own b [] k h other = absurd (omega arith)
  list_at-append_others zero b (l ∷ ls) zero h other = absurd (other refl)
  list_at-append_others zero b (l ∷ ls) (suc k) h other = at_pushed ls b k (omega arith)
  list_at-append_others (suc own) b (l ∷ ls) zero h other = refl
  list_at-append_others (suc own) b (l ∷ ls) (suc k) h other = list_at-append_others own b ls k (omega arith) (λ e. other (ap suc e))

  length-append_each : (votes : List Vote) (lists : List (List (Body B))) → length (append_each votes lists) ≡ length lists
  length-append_each [] lists = refl
  length-append_each (v ∷ vs) [] = refl
  length-append_each (v ∷ vs) (l ∷ ls) = ap suc (length-append_each vs ls)

  pub length-append_marks : (own : ℕ) (votes : List Vote) (lists : List (List (Body B))) → length (append_marks own votes lists) ≡ length lists
  length-append_marks own [] lists = refl
  length-append_marks own (v ∷ vs) [] = refl
  length-append_marks zero (v ∷ vs) (l ∷ ls) = ap suc (length-append_each vs ls)
  length-append_marks (suc own) (v ∷ vs) (l ∷ ls) = ap suc (length-append_marks own vs ls)

module _ (lists : List (List (Body ℕ))) (list : List (Body ℕ)) where
  first_first : items_in (list ∷ lists) ≡ items list + items_in lists
  first_first = sum_by-cons items list lists

items-item : (bs : List (Body ℕ)) (x : ℕ) → items (bs ++ Item x ∷ []) ≡ items bs + 1
items-item bs x = sum_by_push (λ body. cond (not (is_mark body)) 1 0) bs (Item x)

items-mark : (bs : List (Body ℕ)) (v : Vote) → items (bs ++ Mark v ∷ []) ≡ items bs
items-mark bs v = omega (arith, sum_by_push (λ body. cond (not (is_mark body)) 1 0) bs (Mark v))

-- one more item in one of the lists
pub items_in-append : (lists : List (List (Body ℕ))) (k x : ℕ) → k < length lists → items_in (append_at lists k (Item x)) ≡ items_in lists + 1
items_in-append [] k x h = absurd (omega arith)
items_in-append (l ∷ ls) zero x h = omega (arith, first_first ls l, first_first ls (l ++ Item x ∷ []), items-item l x)
items_in-append (l ∷ ls) (suc k) x h = omega (arith, first_first ls l, first_first (append_at ls k (Item x)) l, items_in-append ls k x (omega arith))

items_in-each : (votes : List Vote) (lists : List (List (Body ℕ))) → items_in (append_each votes lists) ≡ items_in lists
items_in-each [] lists = refl
items_in-each (v ∷ vs) [] = refl
items_in-each (v ∷ vs) (l ∷ ls) = omega (arith, first_first ls l, first_first (append_each vs ls) (l ++ Mark v ∷ []), items_in-each vs ls, items-mark l v)

-- marks are no items
pub items_in-marks : (own : ℕ) (votes : List Vote) (lists : List (List (Body ℕ))) → items_in (append_marks own votes lists) ≡ items_in lists
items_in-marks own [] lists = refl
items_in-marks own (v ∷ vs) [] = refl
items_in-marks zero (v ∷ vs) (l ∷ ls) = omega (arith, first_first ls l, first_first (append_each vs ls) l, items_in-each vs ls)
items_in-marks (suc own) (v ∷ vs) (l ∷ ls) = omega (arith, first_first ls l, first_first (append_marks own vs ls) (l ++ Mark v ∷ []), items_in-marks own vs ls, items-mark l v)

-- the number is sent in the present round
pub rolled-item : (number finished : ℕ) (list : List (Body ℕ)) → IsRolled number finished [] list → IsRolled number finished (number ∷ []) (list ++ Item number ∷ [])
rolled-item number finished list before = record {
  rounds = marks-item list number ∙ before.rounds;
  once = λ k h. round-ended k list number (omega (arith, before.rounds)) ∙ before.once k h;
  present =
      ap (λ n. items_of_round n (list ++ Item number ∷ [])) (sym before.rounds)
      ∙ items_of_round-push list number
      ∙ ap (λ n. items_of_round n list ++ number ∷ []) before.rounds
      ∙ ap (λ l. l ++ number ∷ []) before.present;
}

-- the mark ends the present round, in which the number was sent
pub rolled-mark : (number finished : ℕ) (list : List (Body ℕ)) (v : Vote) → IsRolled number finished (number ∷ []) list → IsRolled number (finished + 1) [] (list ++ Mark v ∷ [])
rolled-mark number finished list v before = record {
  rounds = omega (arith, marks-mark list v, before.rounds);
  once = λ k h. round-mark k list v ∙ elim (cases_lt k finished) [
    | inl low ↦ before.once k low
    | inr high ↦ let same : k ≡ finished = omega arith in ap (λ n. items_of_round n list) same ∙ before.present
  ];
  present = round-mark (finished + 1) list v ∙ round-to_come (finished + 1) list (omega (arith, before.rounds));
}

-- the number once to a rank below the next receiver
abbrev below : ℕ → ℕ → ℕ → List ℕ
below number next rank = if nat_lt rank next then number ∷ [] else []

-- each list by rank over so many finished rounds, of which those below the next receiver have the number in the present one
abbrev pub AreRolled : ℕ → ℕ → ℕ → ℕ → List (List (Body ℕ)) → Type 0
AreRolled own size finished next sent = (rank : ℕ) → IsOther own size rank → IsRolled own finished (below own next rank) (list_at sent rank)

not_yet : (own next rank : ℕ) → next ≤ rank → below own next rank ≡ []
not_yet own next rank h = let e : nat_lt rank next ≡ false = grind (arith, nat_tests) in ap (λ b. if b then own ∷ [] else []) e

already : (own next rank : ℕ) → rank < next → below own next rank ≡ own ∷ []
already own next rank h = let e : nat_lt rank next ≡ true = grind (arith, nat_tests) in ap (λ b. if b then own ∷ [] else []) e

-- the next receiver is the next rank, or the one after it where that is the own one
abbrev pub Follows : ℕ → ℕ → ℕ → Type 0
Follows own next to = (next ≡ to) ⊎ ((next ≡ own) × (to ≡ next + 1))

pub from_next : (own next to : ℕ) → Follows own next to → next ≤ to
from_next own next to follows = elim follows [ inl same ↦ omega arith | inr after ↦ omega arith ]

same_below : (own next to rank : ℕ) → Follows own next to → rank ≢ own → rank ≢ to → below own next rank ≡ below own (to + 1) rank
same_below own next to rank follows other apart = elim (cases_lt rank next) [
  | inl low ↦ already own next rank low ∙ sym (already own (to + 1) rank (omega (arith, from_next own next to follows)))
  | inr high ↦ elim follows [
    | inl same ↦ not_yet own next rank (omega arith) ∙ sym (not_yet own (to + 1) rank (omega arith))
    | inr after ↦ not_yet own next rank (omega arith) ∙ sym (not_yet own (to + 1) rank (omega arith))
  ]
]

pub rolled-sent : (own size finished next to : ℕ) (sent more : List (List (Body ℕ))) → length sent ≡ size → IsOther own size to → Follows own next to
    → more ≡ append_at sent to (Item own) → AreRolled own size finished next sent → AreRolled own size finished (to + 1) more
rolled-sent own size finished next to sent more long receiver follows grown before rank other =
    subst (λ lists. IsRolled own finished (below own (to + 1) rank) (list_at lists rank)) (sym grown) (elim (cases_eq rank to) [
      | inl same ↦
          let empty : IsRolled own finished [] (list_at sent to) = subst (λ now. IsRolled own finished now (list_at sent to)) (not_yet own next to (from_next own next to follows)) (before to receiver) in
          let full : IsRolled own finished (own ∷ []) (list_at (append_at sent to (Item own)) to) = subst (IsRolled own finished (own ∷ [])) (sym (list_at-append_same sent to (Item own) (omega (arith, receiver.0)))) (rolled-item own finished (list_at sent to) empty) in
          subst (λ r. IsRolled own finished (below own (to + 1) r) (list_at (append_at sent to (Item own)) r)) (sym same)
          (subst (λ now. IsRolled own finished now (list_at (append_at sent to (Item own)) to)) (sym (already own (to + 1) to (omega arith))) full)
      | inr apart ↦
          subst (λ now. IsRolled own finished now (list_at (append_at sent to (Item own)) rank)) (same_below own next to rank follows other.1 apart)
          (subst (IsRolled own finished (below own next rank)) (sym (list_at-append_else sent to rank (Item own) apart)) (before rank other))
    ])

pub rolled-voted : (own size finished round next : ℕ) (v : Vote) (sent : List (List (Body ℕ))) → length sent ≡ size → finished ≡ round → ((to : ℕ) → IsOther own size to → to < next)
    → AreRolled own size finished next sent → AreRolled own size (round + 1) 0 (append_others own (Mark v) sent)
rolled-voted own size finished round next v sent long same all before rank other =
    let full : IsRolled own round (own ∷ []) (list_at sent rank) = subst (λ n. IsRolled own n (own ∷ []) (list_at sent rank)) same (subst (λ now. IsRolled own finished now (list_at sent rank)) (already own next rank (all rank other)) (before rank other)) in
    subst (IsRolled own (round + 1) (below own 0 rank)) (sym (list_at-append_others own (Mark v) sent rank (omega (arith, other.0)) other.1))
    (subst (λ now. IsRolled own (round + 1) now (list_at sent rank ++ Mark v ∷ [])) (sym (not_yet own 0 rank (omega arith))) (rolled-mark own round (list_at sent rank) v full))

-- the own vote of a round that ends was cast
pub voted-at : (votes : List Vote) (own round : ℕ) (cast : Option Vote) → own < length votes → slice_get votes own ≡ cast → voted round cast ≡ round + 1
voted-at [] own round cast h e = absurd (omega arith)
voted-at (v ∷ vs) zero round cast h e = ap (voted round) (sym e)
voted-at (v ∷ vs) (suc own) round cast h e = voted-at vs own round cast (omega arith) e

pub counted-more : (taken n more : ℕ) → taken ≡ n % 2 ^ 64 → more ≡ n + 1 → (taken + 1) % 2 ^ 64 ≡ more % 2 ^ 64
counted-more taken n more e f = omega (arith, e, f)

-- a roll with a rank to be sent its number is not idle
pub still_busy : (idle : Bool) (own next to : ℕ) → (idle ≡ true → to < next) → Follows own next to → idle ≡ false
still_busy false own next to all follows = refl
still_busy true own next to all follows = absurd (omega (arith, all refl, from_next own next to follows))
