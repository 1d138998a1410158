-- What is seen after so many rounds, where the handled lists grow.
use Rattle.std.proofs.Common.{◌≡◌, ◌≢◌, ◌⊎◌, ◌==◌, cond, ℕ, zero, suc, ◌+◌, ◌*◌, ◌/◌, ◌%◌, ◌<◌, ◌≤◌, Bool, true, false, List, [], ◌∷◌, ◌++◌, length, slice_get, refl, sym, ◌∙◌, ap, subst, inl, inr, ⊎_elim, arith, All, Contains}
use Rattle.std.proofs.lemmas.Bool.{cases_eq, cases_lt, ne_eqb, cond-false}
use Rattle.std.proofs.lemmas.Option.{get_or_from_slice_get}
use Rattle.std.proofs.lemmas.List.{get_or_append_left, length_push}
use Rattle.std.proofs.lemmas.List.Elements.{All-contains, Contains-push}
use Rattle.pg_group.specs.declared.messages.Body.{Body}
use Rattle.pg_group.specs.declared.messages.Body.TheVariants.{Item}
use Rattle.pg_group.specs.Ranked.{IsOther, list_at, append_at}
use Rattle.pg_group.specs.Rounds.{marks, items_of_round, votes_of}
use Rattle.pg_group.proofs.RollLemmas.{round-to_come, list_at-append_same, list_at-append_else}
use Rattle.pg_adj.specs.declared.arcs.Ghost.{Ghost}
use Rattle.pg_adj.specs.Portions.{Portion}
use Rattle.pg_cells.specs.declared.bodies.CellBody.{CellBody}
use Rattle.pg_cells.specs.declared.bodies.CellBody.TheVariants.{Put, Refresh}
use Rattle.pg_colour.specs.Passes.{Cells, IsClash, Passes}
use Rattle.pg_colour.specs.Refreshed.{IsRefreshFrom, AreSound, values_for, last_or, home_of, seen_after}
use Rattle.pg_colour.specs.LocalColour.{State, History, own_before, AreCounted, ArePasses, HasNothing}
use Rattle.pg_colour.proofs.StepLists.{push_other, push_at, past_all}

pub parity : (n : ℕ) → ((j : ℕ) × (n ≡ 2 * j)) ⊎ ((j : ℕ) × (n ≡ 2 * j + 1))
parity n = ⊎_elim (λ e. inl (n / 2, omega (arith, e))) (λ e. inr (n / 2, omega (arith, e))) (cases_eq (n % 2) 0)

pub last_or-append : (was : ℕ) (xs ys : List ℕ) → last_or was (xs ++ ys) ≡ last_or (last_or was xs) ys
last_or-append was [] ys = refl
last_or-append was (x ∷ xs) ys = last_or-append x xs ys

cond_append : (b : Bool) (x : ℕ) (xs ys : List ℕ) → cond b (x ∷ (xs ++ ys)) (xs ++ ys) ≡ cond b (x ∷ xs) xs ++ ys
cond_append true x xs ys = refl
cond_append false x xs ys = refl

pub values-append : (slot : ℕ) (ms ns : List CellBody) → values_for slot (ms ++ ns) ≡ values_for slot ms ++ values_for slot ns
values-append slot [] ns = refl
values-append slot (Put place value ∷ ms) ns = values-append slot ms ns
values-append slot (Refresh at value ∷ ms) ns =
    ap (λ (l : List ℕ). cond (at == slot) (value ∷ l) l) (values-append slot ms ns) ∙ cond_append (at == slot) value (values_for slot ms) (values_for slot ns)

pub seen_home : (part : Portion) (handled others : List (List (Body CellBody))) (n slot : ℕ)
    → ((k : ℕ) → k < n → items_of_round k (list_at handled (home_of part slot)) ≡ items_of_round k (list_at others (home_of part slot)))
    → seen_after part handled n slot ≡ seen_after part others n slot
seen_home part handled others zero slot same = refl
seen_home part handled others (suc k) slot same =
    let before = seen_home part handled others k slot (λ j h. same j (omega arith)) in
    λ i. last_or (before i) (values_for slot (same k (omega arith) i))

-- Lists that agree in the first rounds show the same.
pub seen_agree : (part : Portion) (handled others : List (List (Body CellBody))) (n : ℕ)
    → ((q k : ℕ) → k < n → items_of_round k (list_at handled q) ≡ items_of_round k (list_at others q))
    → seen_after part handled n ≡ seen_after part others n
seen_agree part handled others n same = λ i slot. seen_home part handled others n slot (λ k h. same (home_of part slot) k h) i

-- Rounds without items leave what was seen.
pub seen_rest : (part : Portion) (handled : List (List (Body CellBody))) (n m slot : ℕ) → n ≤ m
    → ((q k : ℕ) → n ≤ k → k < m → items_of_round k (list_at handled q) ≡ []) → seen_after part handled m slot ≡ seen_after part handled n slot
seen_rest part handled n zero slot h none = let same : zero ≡ n = omega arith in ap (λ (k : ℕ). seen_after part handled k slot) same
seen_rest part handled n (suc m) slot h none = ⊎_elim
    (λ same. ap (λ (k : ℕ). seen_after part handled k slot) same)
    (λ apart.
    ap (λ (items : List CellBody). last_or (seen_after part handled m slot) (values_for slot items)) (none (home_of part slot) m (omega (arith, h, apart)) (omega arith))
    ∙ seen_rest part handled n m slot (omega (arith, h, apart)) (λ q k l r. none q k l (omega arith)))
    (cases_eq (suc m) n)

pub passes_kept : (part : Portion) (handled others : List (List (Body CellBody))) (round round' : ℕ) (h : History) → round' ≡ round
    → ((n : ℕ) → n ≤ round → seen_after part handled n ≡ seen_after part others n) → ArePasses part handled round h → ArePasses part others round' h
passes_kept part handled others round round' h same agree was = record {
  begins = was.begins;
  ascends = λ j within. was.ascends j (omega (arith, within, same));
  clashes = λ j place within.
      subst (λ (seen : Cells). (Contains (h.list (suc j)) place → (place < length part.vertices) × IsClash part (h.own j) seen place)
      × ((place < length part.vertices) × IsClash part (h.own j) seen place → Contains (h.list (suc j)) place))
      (agree (2 * j + 2) (omega (arith, within, same))) (was.clashes j place (omega (arith, within, same)));
  passes = λ j within.
      subst (λ (seen : Cells). Passes part seen (h.list j) (own_before h j) (h.own j)) (agree (2 * j) (omega (arith, within, same))) (was.passes j (omega (arith, within, same)));
}

pub nothing_kept : (part : Portion) (handled others : List (List (Body CellBody))) (h : History) (j : ℕ)
    → ((q : ℕ) → IsOther part.rank part.ranks q → slice_get (votes_of (list_at handled q)) (2 * j) ≡ slice_get (votes_of (list_at others q)) (2 * j))
    → HasNothing part handled h j → HasNothing part others h j
nothing_kept part handled others h j same was = record {
  own = was.own;
  others = λ q v other at. was.others q v other (same q other ∙ at);
}

-- Of a rank that isn't another one nothing is handled.
pub rank_cases : (part : Portion) (handled sent : List (List (Body CellBody))) (s : State) (q : ℕ) → AreCounted part handled sent s → IsOther part.rank part.ranks q ⊎ (list_at handled q ≡ [])
rank_cases part handled sent s q counted = ⊎_elim
    (λ own. inr (ap (list_at handled) own ∙ counted.alone))
    (λ apart. ⊎_elim
    (λ below. inl (below, apart))
    (λ past. inr (past_all handled q (omega (arith, past, counted.from_each))))
    (cases_lt q part.ranks))
    (cases_eq q part.rank)

pub sound_even : (part : Portion) (handled sent : List (List (Body CellBody))) (s : State) (q j : ℕ) → AreCounted part handled sent s → AreSound part handled
    → items_of_round (2 * j) (list_at handled q) ≡ []
sound_even part handled sent s q j counted sound = ⊎_elim
    (λ other. sound.even q j other)
    (λ none. ap (items_of_round (2 * j)) none)
    (rank_cases part handled sent s q counted)

-- While a rank runs, no later round has items.
pub none_later : (part : Portion) (handled sent : List (List (Body CellBody))) (s : State) (q k : ℕ) → AreCounted part handled sent s → s.ended ≡ false → s.round < k
    → items_of_round k (list_at handled q) ≡ []
none_later part handled sent s q k counted running late = ⊎_elim
    (λ other. round-to_come k (list_at handled q) (omega (arith, counted.running running q other, late)))
    (λ none. ap (items_of_round k) none)
    (rank_cases part handled sent s q counted)

-- In a pass of a rank that runs the ghosts are still as they were when it began.
pub seen_in_pass : (part : Portion) (handled sent : List (List (Body CellBody))) (s : State) (j slot : ℕ) → AreCounted part handled sent s → AreSound part handled → s.ended ≡ false → s.round ≡ 2 * j
    → seen_after part handled (s.round + 2) slot ≡ seen_after part handled (2 * j) slot
seen_in_pass part handled sent s j slot counted sound running even =
    seen_rest part handled (2 * j) (s.round + 2) slot (omega (arith, even)) (λ q k low high. ⊎_elim
    (λ now. ap (λ (i : ℕ). items_of_round i (list_at handled q)) now ∙ sound_even part handled sent s q j counted sound)
    (λ later. none_later part handled sent s q k counted running (omega (arith, even, low, later)))
    (cases_eq k (2 * j)))

-- After the round behind a pass, before the next one.
pub seen_behind : (part : Portion) (handled sent : List (List (Body CellBody))) (s : State) (j slot : ℕ) → AreCounted part handled sent s → s.ended ≡ false → s.round ≡ 2 * j + 1
    → seen_after part handled (s.round + 2) slot ≡ seen_after part handled (2 * j + 2) slot
seen_behind part handled sent s j slot counted running odd =
    seen_rest part handled (2 * j + 2) (s.round + 2) slot (omega (arith, odd)) (λ q k low high. none_later part handled sent s q k counted running (omega (arith, odd, low)))

all_before : (P : CellBody → Type 0) (xs : List CellBody) (x : CellBody) → All P (xs ++ x ∷ []) → All P xs
all_before P xs x all = λ k d below. subst P (get_or_append_left xs (x ∷ []) d k below) (all k d (omega (arith, below, length_push xs x)))

not_none : (xs : List CellBody) (x : CellBody) → xs ++ x ∷ [] ≡ [] → ⊥
not_none xs x e = omega (arith, ap length e, length_push xs x)

-- One more item from a rank.
module _ (part : Portion) (handled : List (List (Body CellBody))) (from : ℕ) (m : CellBody) (here : from < length handled) (other_from : IsOther part.rank part.ranks from) where
  abbrev pub more : List (List (Body CellBody))
  more = append_at handled from (Item m)

  abbrev pub now : ℕ
  now = marks (list_at handled from)

  pub items_same : (q k : ℕ) → (q ≢ from) ⊎ (k ≢ now) → items_of_round k (list_at more q) ≡ items_of_round k (list_at handled q)
  items_same q k (inl apart) = ap (items_of_round k) (list_at-append_else handled from q (Item m) apart)
  items_same q k (inr apart) = ⊎_elim
      (λ same. subst (λ (x : ℕ). items_of_round k (list_at more x) ≡ items_of_round k (list_at handled x)) (sym same)
      (ap (items_of_round k) (list_at-append_same handled from (Item m) here) ∙ push_other (list_at handled from) m k apart))
      (λ else. ap (items_of_round k) (list_at-append_else handled from q (Item m) else))
      (cases_eq q from)

  pub items_new : (k : ℕ) → k ≡ now → items_of_round k (list_at more from) ≡ items_of_round k (list_at handled from) ++ m ∷ []
  items_new k is = ap (items_of_round k) (list_at-append_same handled from (Item m) here) ∙ push_at (list_at handled from) m k is

  pub was_sound : AreSound part more → AreSound part handled
  was_sound sound = record {
    even = λ q j other. ⊎_elim
        (λ same. ⊎_elim
        (λ at. absurd (not_none (items_of_round (2 * j) (list_at handled from)) m
        (sym (items_new (2 * j) at) ∙ (ap (λ (x : ℕ). items_of_round (2 * j) (list_at more x)) (sym same) ∙ sound.even q j other))))
        (λ apart. sym (items_same q (2 * j) (inr apart)) ∙ sound.even q j other)
        (cases_eq (2 * j) now))
        (λ else. sym (items_same q (2 * j) (inl else)) ∙ sound.even q j other)
        (cases_eq q from);
    odd = λ q j other. ⊎_elim
        (λ same. ⊎_elim
        (λ at.
        let all : All (IsRefreshFrom part from) (items_of_round (2 * j + 1) (list_at more from)) =
        subst (λ (x : ℕ). All (IsRefreshFrom part x) (items_of_round (2 * j + 1) (list_at more x))) same (sound.odd q j other) in
        subst (λ (x : ℕ). All (IsRefreshFrom part x) (items_of_round (2 * j + 1) (list_at handled x))) (sym same)
        (all_before (IsRefreshFrom part from) (items_of_round (2 * j + 1) (list_at handled from)) m
        (subst (λ (items : List CellBody). All (IsRefreshFrom part from) items) (items_new (2 * j + 1) at) all)))
        (λ apart. subst (λ (items : List CellBody). All (IsRefreshFrom part q) items) (items_same q (2 * j + 1) (inr apart)) (sound.odd q j other))
        (cases_eq (2 * j + 1) now))
        (λ else. subst (λ (items : List CellBody). All (IsRefreshFrom part q) items) (items_same q (2 * j + 1) (inl else)) (sound.odd q j other))
        (cases_eq q from);
  }

  pub is_from : AreSound part more → IsRefreshFrom part from m
  is_from sound = ⊎_elim
      (λ even. absurd (not_none (items_of_round (2 * even.0) (list_at handled from)) m (sym (items_new (2 * even.0) (sym even.1)) ∙ sound.even from even.0 other_from)))
      (λ odd.
      All-contains (IsRefreshFrom part from) (items_of_round (2 * odd.0 + 1) (list_at more from)) m (sound.odd from odd.0 other_from)
      (subst (λ (items : List CellBody). Contains items m) (sym (items_new (2 * odd.0 + 1) (sym odd.1))) (Contains-push (items_of_round (2 * odd.0 + 1) (list_at handled from)) m)))
      (parity now)

  -- Of the rounds before this one nothing changes.
  pub seen_before : (n : ℕ) → n ≤ now → seen_after part handled n ≡ seen_after part more n
  seen_before n within = seen_agree part handled more n (λ q k h. sym (items_same q k (inr (λ e. omega (arith, e, h, within)))))

  none_past : (k : ℕ) → now < k → items_of_round k (list_at more from) ≡ []
  none_past k late = items_same from k (inr (λ e. omega (arith, e, late))) ∙ round-to_come k (list_at handled from) late

  -- A ghost of its home takes the message's value.
  pub seen_more : (n slot : ℕ) → now < n → home_of part slot ≡ from → seen_after part more n slot ≡ last_or (seen_after part handled n slot) (values_for slot (m ∷ []))
  seen_more zero slot late home = absurd (omega arith)
  seen_more (suc k) slot late home = ⊎_elim
      (λ at.
      let items : items_of_round k (list_at more (home_of part slot)) ≡ items_of_round k (list_at handled (home_of part slot)) ++ m ∷ [] =
      ap (λ (q : ℕ). items_of_round k (list_at more q)) home ∙ (items_new k at ∙ ap (λ (q : ℕ). items_of_round k (list_at handled q) ++ m ∷ []) (sym home)) in
      let before : seen_after part more k slot ≡ seen_after part handled k slot = ap (λ (cells : Cells). cells slot) (sym (seen_before k (omega (arith, at)))) in
      (λ i. last_or (before i) (values_for slot (items i)))
      ∙ (ap (last_or (seen_after part handled k slot)) (values-append slot (items_of_round k (list_at handled (home_of part slot))) (m ∷ []))
      ∙ last_or-append (seen_after part handled k slot) (values_for slot (items_of_round k (list_at handled (home_of part slot)))) (values_for slot (m ∷ []))))
      (λ apart.
      let none : items_of_round k (list_at more (home_of part slot)) ≡ [] = ap (λ (q : ℕ). items_of_round k (list_at more q)) home ∙ none_past k (omega (arith, late, apart)) in
      let none' : items_of_round k (list_at handled (home_of part slot)) ≡ [] =
      ap (λ (q : ℕ). items_of_round k (list_at handled q)) home ∙ round-to_come k (list_at handled from) (omega (arith, late, apart)) in
      ap (λ (items : List CellBody). last_or (seen_after part more k slot) (values_for slot items)) none
      ∙ (seen_more k slot (omega (arith, late, apart)) home
      ∙ ap (λ (items : List CellBody). last_or (last_or (seen_after part handled k slot) (values_for slot items)) (values_for slot (m ∷ []))) (sym none')))
      (cases_eq k now)

  pub seen_else : (n slot : ℕ) → home_of part slot ≢ from → seen_after part more n slot ≡ seen_after part handled n slot
  seen_else n slot else = seen_home part more handled n slot (λ k h. items_same (home_of part slot) k (inl else))

  -- The message has no value for a ghost of another home.
  pub no_value : (slot : ℕ) → IsRefreshFrom part from m → home_of part slot ≢ from → values_for slot (m ∷ []) ≡ []
  no_value slot is else =
      ap (λ (x : CellBody). values_for slot (x ∷ [])) is.is
      ∙ cond-false (is.slot == slot) (is.value ∷ []) [] (ne_eqb is.slot slot (λ e.
      let home : home_of part is.slot ≡ from = ap (λ (y : Ghost). y.home.0) (get_or_from_slice_get part.ghosts is.slot is.ghost_there (record { vertex = record { 0 = 0 }; home = record { 0 = 0 }; place = 0 }) is.there) ∙ is.home in
      else (ap (home_of part) (sym e) ∙ home)))
