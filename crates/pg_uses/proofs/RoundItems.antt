-- The lists that a program handled and sent, round by round, beside the events of its map.
use Rattle.std.proofs.Common.{◌≡◌, ◌≢◌, inl, inr, ℕ, zero, suc, ◌+◌, ◌<◌, List, [], ◌∷◌, ◌++◌, length, map, append-nil, refl, sym, ap, ap₂, ◌∙◌, subst, arith}
use Rattle.std.proofs.lemmas.Bool.{cases_eq, cases_lt}
use Rattle.pg_group.specs.declared.messages.Body.{Body}
use Rattle.pg_group.specs.declared.messages.Body.TheVariants.{Item, Mark}
use Rattle.pg_group.specs.declared.messages.Vote.{Vote}
use Rattle.pg_group.specs.Ranked.{append_at, list_at}
use Rattle.pg_group.specs.Rounds.{marks, items_of_round}
use Rattle.pg_group.specs.Supersteps.{append_each, append_marks, append_others}
use Rattle.pg_group.proofs.Counting.{some_at}
use Rattle.pg_group.proofs.Lanes.{items_of_round-push}
use Rattle.pg_group.proofs.RollLemmas.{list_at-append_else, list_at-append_others, list_at-append_same, marks-item, marks-mark, round-ended, round-mark, round-to_come}
use Rattle.pg_run.proofs.ByRank.{at_marks}
use Rattle.pg_cells.specs.Steps.{Event}
use Rattle.pg_cells.specs.Runs.{rounds, events_of}
use Rattle.pg_uses.proofs.Events.{IsWithin, others_same, present_more}

module _ {B : Type 0} where
  -- ---- items

  item_here : (k : ℕ) (list : List (Body B)) (x : B) → k ≡ marks list → items_of_round k (list ++ Item x ∷ []) ≡ items_of_round k list ++ x ∷ []
  item_here k list x now = subst (λ n. items_of_round n (list ++ Item x ∷ []) ≡ items_of_round n list ++ x ∷ []) (sym now) (items_of_round-push list x)

  item_elsewhere : (k : ℕ) (list : List (Body B)) (x : B) → k ≢ marks list → items_of_round k (list ++ Item x ∷ []) ≡ items_of_round k list
  item_elsewhere k list x other = elim (cases_lt k (marks list)) [
    | inl low ↦ round-ended k list x low
    | inr high ↦ round-to_come k (list ++ Item x ∷ []) (omega (arith, marks-item list x, high, other)) ∙ sym (round-to_come k list (omega (arith, high, other)))
  ]

  pub marks_at_item : (lists : List (List (Body B))) (at rank : ℕ) (x : B) → at < length lists → marks (list_at (append_at lists at (Item x)) rank) ≡ marks (list_at lists rank)
  marks_at_item lists at rank x within = elim (cases_eq rank at) [
    | inl same ↦ subst (λ r. marks (list_at (append_at lists at (Item x)) r) ≡ marks (list_at lists r)) (sym same)
        (ap marks (list_at-append_same lists at (Item x) within) ∙ marks-item (list_at lists at) x)
    | inr other ↦ ap marks (list_at-append_else lists at rank (Item x) other)
  ]

  pub late_item : (lists : List (List (Body B))) (at rank k : ℕ) (x : B) → at < length lists → k < marks (list_at lists at) → items_of_round k (list_at (append_at lists at (Item x)) rank) ≡ items_of_round k (list_at lists rank)
  late_item lists at rank k x within late = elim (cases_eq rank at) [
    | inl same ↦ subst (λ r. items_of_round k (list_at (append_at lists at (Item x)) r) ≡ items_of_round k (list_at lists r)) (sym same)
        (ap (items_of_round k) (list_at-append_same lists at (Item x) within) ∙ round-ended k (list_at lists at) x late)
    | inr other ↦ ap (items_of_round k) (list_at-append_else lists at rank (Item x) other)
  ]

  -- ---- items beside events

  module _ (F : List Event → List B) (appends : (events more : List Event) → F (events ++ more) ≡ F events ++ F more) (e : Event) (within : IsWithin e) (events : List Event) (k : ℕ) where
    -- an event that says nothing
    pub unseen : F (e ∷ []) ≡ [] → F (events_of k (events ++ e ∷ [])) ≡ F (events_of k events)
    unseen none = elim (cases_eq k (rounds events)) [
      | inl now ↦ ap F (present_more k events e within now) ∙ (appends (events_of k events) (e ∷ []) ∙ (ap (λ l. F (events_of k events) ++ l) none ∙ append-nil (F (events_of k events))))
      | inr other ↦ ap F (others_same k events e other)
    ]

    -- an event with an item, and the item
    item_beside : (list : List (Body B)) (x : B) → F (e ∷ []) ≡ x ∷ [] → marks list ≡ rounds events → F (events_of k events) ≡ items_of_round k list
        → F (events_of k (events ++ e ∷ [])) ≡ items_of_round k (list ++ Item x ∷ [])
    item_beside list x one now same = elim (cases_eq k (rounds events)) [
      | inl here ↦ ap F (present_more k events e within here) ∙ (appends (events_of k events) (e ∷ []) ∙ (ap₂ ◌++◌ same one ∙ sym (item_here k list x (here ∙ sym now))))
      | inr other ↦ ap F (others_same k events e other) ∙ (same ∙ sym (item_elsewhere k list x (λ at. other (at ∙ now))))
    ]

  -- an event with an item of one rank, and the item in its list
  pub item_at : (F : ℕ → List Event → List B) → ((rank : ℕ) (events more : List Event) → F rank (events ++ more) ≡ F rank events ++ F rank more) → (e : Event) → IsWithin e
      → (at : ℕ) (x : B) → F at (e ∷ []) ≡ x ∷ [] → ((rank : ℕ) → at ≢ rank → F rank (e ∷ []) ≡ []) → (events : List Event) (lists : List (List (Body B))) → at < length lists
      → marks (list_at lists at) ≡ rounds events → (rank k : ℕ) → F rank (events_of k events) ≡ items_of_round k (list_at lists rank)
      → F rank (events_of k (events ++ e ∷ [])) ≡ items_of_round k (list_at (append_at lists at (Item x)) rank)
  item_at F appends e within at x one none events lists below now rank k same = elim (cases_eq rank at) [
    | inl here ↦
        let list = list_at lists at in
        let was : F at (events_of k events) ≡ items_of_round k list = subst (λ r. F r (events_of k events) ≡ items_of_round k (list_at lists r)) here same in
        let more = item_beside (F at) (appends at) e within events k list x one now was in
        subst (λ r. F r (events_of k (events ++ e ∷ [])) ≡ items_of_round k (list_at (append_at lists at (Item x)) r)) (sym here)
        (more ∙ sym (ap (items_of_round k) (list_at-append_same lists at (Item x) below)))
    | inr other ↦
        unseen (F rank) (appends rank) e within events k (none rank (λ e. other (sym e)))
        ∙ (same ∙ sym (ap (items_of_round k) (list_at-append_else lists at rank (Item x) other)))
  ]

  -- ---- marks

  items_pushed : (k : ℕ) (vote : Vote) (lists : List (List (Body B))) (rank : ℕ) → items_of_round k (list_at (map (λ l. l ++ Mark vote ∷ []) lists) rank) ≡ items_of_round k (list_at lists rank)
  items_pushed k vote [] rank = refl
  items_pushed k vote (l ∷ ls) zero = round-mark k l vote
  items_pushed k vote (l ∷ ls) (suc rank) = items_pushed k vote ls rank

  pub items_others : (own k : ℕ) (vote : Vote) (lists : List (List (Body B))) (rank : ℕ) → items_of_round k (list_at (append_others own (Mark vote) lists) rank) ≡ items_of_round k (list_at lists rank)
  items_others own k vote [] rank = refl
  items_others zero k vote (l ∷ ls) zero = refl
  items_others zero k vote (l ∷ ls) (suc rank) = items_pushed k vote ls rank
  items_others (suc own) k vote (l ∷ ls) zero = round-mark k l vote
  items_others (suc own) k vote (l ∷ ls) (suc rank) = items_others own k vote ls rank

  items_each : (k : ℕ) (votes : List Vote) (lists : List (List (Body B))) (rank : ℕ) → items_of_round k (list_at (append_each votes lists) rank) ≡ items_of_round k (list_at lists rank)
  items_each k [] lists rank = refl
  items_each k (v ∷ vs) [] rank = refl
  items_each k (v ∷ vs) (l ∷ ls) zero = round-mark k l v
  items_each k (v ∷ vs) (l ∷ ls) (suc rank) = items_each k vs ls rank

  pub items_marks : (own k : ℕ) (votes : List Vote) (lists : List (List (Body B))) (rank : ℕ) → items_of_round k (list_at (append_marks own votes lists) rank) ≡ items_of_round k (list_at lists rank)
  items_marks own k [] lists rank = refl
  items_marks own k (v ∷ vs) [] rank = refl
  items_marks zero k (v ∷ vs) (l ∷ ls) zero = refl
  items_marks zero k (v ∷ vs) (l ∷ ls) (suc rank) = items_each k vs ls rank
  items_marks (suc own) k (v ∷ vs) (l ∷ ls) zero = round-mark k l v
  items_marks (suc own) k (v ∷ vs) (l ∷ ls) (suc rank) = items_marks own k vs ls rank

  pub marks_others : (own : ℕ) (vote : Vote) (lists : List (List (Body B))) (rank : ℕ) → rank < length lists → rank ≢ own
      → marks (list_at (append_others own (Mark vote) lists) rank) ≡ suc (marks (list_at lists rank))
  marks_others own vote lists rank within other = ap marks (list_at-append_others own (Mark vote) lists rank within other) ∙ marks-mark (list_at lists rank) vote

  pub marks_marks : (own : ℕ) (votes : List Vote) (lists : List (List (Body B))) (rank : ℕ) → rank < length votes → rank < length lists → rank ≢ own
      → marks (list_at (append_marks own votes lists) rank) ≡ suc (marks (list_at lists rank))
  marks_marks own votes lists rank voting within other =
      let vote = some_at votes rank voting in
      ap marks (at_marks own votes lists rank vote.0 vote.1 within other) ∙ marks-mark (list_at lists rank) vote.0
