-- The example of two ranks is a whole run.
use Rattle.std.proofs.Common.{◌≡◌, ◌≢◌, ◌⊎◌, ◌↔◌, ◌==◌, ℕ, zero, suc, ◌+◌, ◌-◌, ◌*◌, ◌<◌, ◌≤◌, List, [], ◌∷◌, Some, length, map, slice_get, refl, sym, ◌∙◌, ap, subst, inl, inr, ⊎_elim, arith, All, AllPairs, Contains}
use Rattle.std.proofs.lemmas.Bool.{cases_eq, eq-eqb, cond-true, true≢false}
use Rattle.std.proofs.lemmas.Option.{none-some, same_Some, slice_get_within}
use Rattle.std.proofs.lemmas.List.Elements.{All-nil, All-cons}
use Rattle.pg_base.proofs.Members.{contains_first}
use Rattle.pg_group.specs.declared.messages.Body.{Body}
use Rattle.pg_group.specs.declared.messages.Vote.{Vote}
use Rattle.pg_group.specs.Book.{IsMarked}
use Rattle.pg_group.specs.Ranked.{IsOther, list_at}
use Rattle.pg_group.specs.Rounds.{marks, items_of_round, votes_of}
use Rattle.pg_adj.specs.declared.arcs.Arc.{Arc}
use Rattle.pg_adj.specs.declared.arcs.Ghost.{Ghost}
use Rattle.pg_adj.specs.Portions.{Portion}
use Rattle.pg_cells.specs.declared.bodies.CellBody.{CellBody}
use Rattle.pg_cells.specs.declared.bodies.CellBody.TheVariants.{Refresh}
use Rattle.pg_cells.specs.declared.refreshes.PendingRefresh.{PendingRefresh}
use Rattle.pg_cells.specs.States.{refreshes_of}
use Rattle.pg_cells.specs.Example.{one_each, pair, part_of, parts}
use Rattle.pg_cells.proofs.Example.{sharing_laws, divided}
use Rattle.pg_proper.proofs.ExampleRun.{is_graph, only}
use Rattle.pg_colour.specs.declared.TheConstants.{NO_COLOUR}
use Rattle.pg_colour.specs.Passes.{Cells, no_colours, with_cell, row, IsTaken, IsLeastFree, IsClash, Passes}
use Rattle.pg_colour.specs.Refreshed.{refresh_of, refreshes_to, IsRefreshTo, AreRefreshes, values_for, last_or, seen_after}
use Rattle.pg_colour.specs.LocalColour.{History, own_before, AreCounted, ArePasses, IsPresent, IsVoteIn, AreSent, AreVotes, HasNothing, LocalColour}
use Rattle.pg_colour.specs.Whole.{HasEndedOver, IsWholeRun}
use Rattle.pg_colour.specs.Example.{vote, lane_of, lists, state}
use Rattle.pg_colour.proofs.PassesOver.{cell_at, cell_else}

-- The place that the rank colours again, if it does.
again : ℕ → List ℕ
again zero = []
again (suc r) = 0 ∷ []

again_count : (r : ℕ) → r < 2 → length (again r) ≡ r
unfolding again
again_count zero h = refl
again_count (suc zero) h = refl
again_count (suc (suc r)) h = absurd (omega arith)

again_is : (x : ℕ) → Contains (again 1) x → 0 ≡ x
unfolding again
again_is x l = only 0 x l

again_first : Contains (again 1) 0
unfolding again
again_first = contains_first 0 []

list_of : ℕ → ℕ → List ℕ
list_of r zero = 0 ∷ []
list_of r (suc zero) = again r
list_of r (suc (suc j)) = []

own_of : ℕ → ℕ → Cells
own_of r zero = with_cell no_colours 0 0
own_of r (suc j) = with_cell no_colours 0 r

abbrev history : ℕ → History
history r = record { list = list_of r; own = own_of r }

past : (a k : ℕ) → 5 ≤ k → items_of_round k (lane_of a) ≡ []
past a zero h = absurd (omega arith)
past a (suc zero) h = absurd (omega arith)
past a (suc (suc zero)) h = absurd (omega arith)
past a (suc (suc (suc zero))) h = absurd (omega arith)
past a (suc (suc (suc (suc zero)))) h = absurd (omega arith)
past a (suc (suc (suc (suc (suc k))))) h = refl

evens : (a j : ℕ) → items_of_round (2 * j) (lane_of a) ≡ []
evens a zero = refl
evens a (suc zero) = refl
evens a (suc (suc zero)) = refl
evens a (suc (suc (suc j))) = past a (2 * suc (suc (suc j))) (omega arith)

-- What a lane_of leaves in slot 0 in the first rounds.
left : List (Body CellBody) → ℕ → ℕ
left list zero = NO_COLOUR
left list (suc k) = last_or (left list k) (values_for 0 (items_of_round k list))

left_2 : (a : ℕ) → left (lane_of a) 2 ≡ 0
unfolding left
left_2 a = refl

left_4 : (a : ℕ) → left (lane_of a) 4 ≡ a
unfolding left
left_4 a = refl

left_6 : (a : ℕ) → left (lane_of a) 6 ≡ a
unfolding left
left_6 a = refl

short : (list : List ℕ) → length list ≤ 1 → AllPairs (λ k l. k < l) list
short list h i j d less below = absurd (omega (arith, less, below, h))

list_short : (r j : ℕ) → r < 2 → length (list_of r j) ≤ 1
unfolding list_of
list_short r zero h = omega arith
list_short r (suc zero) h = omega (arith, again_count r h, h)
list_short r (suc (suc j)) h = omega arith

vote_in : (r k a : ℕ) → ((j : ℕ) → k ≡ 2 * j → a ≡ length (list_of r j)) → ((j : ℕ) → k ≡ 2 * j + 1 → a ≡ 1) → IsVoteIn (history r) k (vote a)
vote_in r k a pass refresh = record { pass = pass; refresh = refresh; b = refl; c = refl; d = refl }

count_at : (r i j : ℕ) → i ≡ j → length (list_of r i) ≡ length (list_of r j)
count_at r i j same = ap (λ (n : ℕ). length (list_of r n)) same

vote_at : (r k : ℕ) (v : Vote) → r < 2 → slice_get (votes_of (lane_of r)) k ≡ Some v → IsVoteIn (history r) k v
unfolding list_of
vote_at r zero v h at = subst (IsVoteIn (history r) 0) (same_Some (vote 1) v at) (vote_in r 0 1 (λ j e. count_at r 0 j (omega (arith, e))) (λ j e. absurd (omega (arith, e))))
vote_at r (suc zero) v h at = subst (IsVoteIn (history r) 1) (same_Some (vote 1) v at) (vote_in r 1 1 (λ j e. absurd (omega (arith, e))) (λ j e. refl))
vote_at r (suc (suc zero)) v h at = subst (IsVoteIn (history r) 2) (same_Some (vote r) v at) (vote_in r 2 r (λ j e. sym (again_count r h) ∙ count_at r 1 j (omega (arith, e))) (λ j e. absurd (omega (arith, e))))
vote_at r (suc (suc (suc zero))) v h at = subst (IsVoteIn (history r) 3) (same_Some (vote 1) v at) (vote_in r 3 1 (λ j e. absurd (omega (arith, e))) (λ j e. refl))
vote_at r (suc (suc (suc (suc zero)))) v h at = subst (IsVoteIn (history r) 4) (same_Some (vote 0) v at) (vote_in r 4 0 (λ j e. count_at r 2 j (omega (arith, e))) (λ j e. absurd (omega (arith, e))))
vote_at r (suc (suc (suc (suc (suc k))))) v h at = absurd (none-some v at)

module _ (r o : ℕ) (apart : r ≢ o) (small : r < 2) (near : o < 2) (handled promised : List (List (Body CellBody)))
    (from : list_at handled o ≡ lane_of o) (to : list_at promised o ≡ lane_of r) (alone : list_at handled r ≡ []) (each : length handled ≡ 2) (each_sent : length promised ≡ 2) where
  abbrev p : Portion
  p = part_of r (suc r) o (suc o)

  abbrev the_arc : Arc
  the_arc = record { to = record { 0 = suc o }; home = record { 0 = o }; place = 0; w = 1; edge = 0 }

  abbrev the_refresh : PendingRefresh
  the_refresh = record { place = 0; holder = record { rank = record { 0 = o }; slot = 0 } }

  other_is : (q : ℕ) → IsOther r 2 q → q ≡ o
  other_is q other = ⊎_elim (λ same. same) (λ else. absurd (other.1 (omega (arith, other.0, small, near, apart, else)))) (cases_eq q o)

  taken_from : (q : ℕ) → IsOther r 2 q → list_at handled q ≡ lane_of o
  taken_from q other = ap (list_at handled) (other_is q other) ∙ from

  sent_to : (q : ℕ) → IsOther r 2 q → list_at promised q ≡ lane_of r
  sent_to q other = ap (list_at promised) (other_is q other) ∙ to

  is_refresh : (q v : ℕ) → q ≡ o → IsRefreshTo p q (Refresh 0 v)
  is_refresh q v same = record { pending = the_refresh; value = v; among = contains_first the_refresh []; rank = sym same; is = refl }

  refreshes_sent : (q j : ℕ) → q ≡ o → All (IsRefreshTo p q) (items_of_round (2 * j + 1) (lane_of r))
  refreshes_sent q zero same = All-cons (IsRefreshTo p q) (Refresh 0 0) [] (is_refresh q 0 same) (All-nil (IsRefreshTo p q))
  refreshes_sent q (suc zero) same = All-cons (IsRefreshTo p q) (Refresh 0 r) [] (is_refresh q r same) (All-nil (IsRefreshTo p q))
  refreshes_sent q (suc (suc j)) same =
      subst (λ (items : List CellBody). All (IsRefreshTo p q) items) (sym (past r (2 * suc (suc j) + 1) (omega arith))) (All-nil (IsRefreshTo p q))

  counted : AreCounted p handled promised (state r)
  counted = record {
    from_each = each;
    to_each = each_sent;
    alone = alone;
    running = λ e. absurd (true≢false e);
    closed = λ e q other. ap marks (taken_from q other);
    stopped = λ e none. absurd (none-some (vote 0) (sym none));
    given = λ q other. ap marks (sent_to q other);
    later = λ q k other h. ap (items_of_round k) (sent_to q other) ∙ past r k (omega (arith, h));
  }

  refreshes : AreRefreshes p promised
  refreshes = record {
    even = λ q j other. ap (items_of_round (2 * j)) (sent_to q other) ∙ evens r j;
    odd = λ q j other.
        subst (λ (list : List (Body CellBody)). All (IsRefreshTo p q) (items_of_round (2 * j + 1) list)) (sym (sent_to q other)) (refreshes_sent q j (other_is q other));
  }

  -- What the only ghost is seen with.
  seen_left : (k : ℕ) → seen_after p handled k 0 ≡ left (lane_of o) k
  unfolding left
  seen_left zero = refl
  seen_left (suc k) =
      ap (λ (list : List (Body CellBody)). last_or (seen_after p handled k 0) (values_for 0 (items_of_round k list))) from
      ∙ ap (λ (x : ℕ). last_or x (values_for 0 (items_of_round k (lane_of o)))) (seen_left k)

  arc_is : (place : ℕ) (a : Arc) → place < 1 → Contains (row p place) a → the_arc ≡ a
  arc_is zero a h c = only the_arc a c
  arc_is (suc place) a h c = absurd (omega arith)

  slot_is : (v slot : ℕ) → (x : Ghost) × (slice_get p.ghosts slot ≡ Some x) × (x.vertex.0 ≡ v) → slot ≡ 0
  slot_is v slot g = let h = slice_get_within p.ghosts slot g.0 g.1 in omega (arith, h)

  -- The neighbour has only the colour that it is seen with.
  taken_is : (own seen : Cells) (c : ℕ) → IsTaken p own seen 0 c → seen 0 ≡ c
  taken_is own seen c t =
      let a = arc_is 0 t.arc (omega arith) t.among in
      ⊎_elim
      (λ mine. absurd (apart (sym (ap (λ (b : Arc). b.home.0) a ∙ mine.0))))
      (λ away. ap seen (sym (slot_is t.arc.to.0 away.0 away.1)) ∙ away.2)
      t.ends

  seen_taken : (own seen : Cells) (c : ℕ) → seen 0 ≡ c → IsTaken p own seen 0 c
  seen_taken own seen c is = record { arc = the_arc; among = contains_first the_arc []; ends = inr (0, (_, refl, refl), is) }

  first_fits : IsLeastFree p no_colours (seen_after p handled 0) 0 0
  first_fits = record { colour = omega arith; free = λ t. omega (arith, taken_is no_colours (seen_after p handled 0) 0 t); least = λ d less. absurd (omega (arith, less)) }

  second_fits : (own : Cells) → IsLeastFree p own (seen_after p handled 2) 0 1
  second_fits own =
      let seen : seen_after p handled 2 0 ≡ 0 = seen_left 2 ∙ left_2 o in
      record {
        colour = omega arith;
        free = λ t. omega (arith, taken_is own (seen_after p handled 2) 1 t, seen);
        least = λ d less. seen_taken own (seen_after p handled 2) d (omega (arith, seen, less));
      }

  last_cells : (place : ℕ) → with_cell no_colours 0 1 place ≡ with_cell (with_cell no_colours 0 0) 0 1 place
  last_cells place = ⊎_elim
      (λ here. subst (λ (x : ℕ). with_cell no_colours 0 1 x ≡ with_cell (with_cell no_colours 0 0) 0 1 x) (sym here) refl)
      (λ else. cell_else no_colours 0 1 place else ∙ sym (cell_else (with_cell no_colours 0 0) 0 1 place else ∙ cell_else no_colours 0 0 place else))
      (cases_eq place 0)

  own_stays : (place : ℕ) → place < 1 → with_cell no_colours 0 r place ≡ r
  own_stays zero h = cell_at no_colours 0 r
  own_stays (suc place) h = absurd (omega arith)

  -- Rank 1 alone finds a clash, after the first pass.
  clash_is : (place : ℕ) → Contains (again r) place → (r ≡ 1) × (place ≡ 0)
  clash_is place c =
      let one : r ≡ 1 = omega (arith, small, again_count r small, c.1) in
      let listed : Contains (again 1) place = subst (λ (x : ℕ). Contains (again x) place) one c in
      (one, sym (again_is place listed))

  is_again : r ≡ 1 → Contains (again r) 0
  is_again one = subst (λ (x : ℕ). Contains (again x) 0) (sym one) again_first

  clash_there : IsClash p (with_cell no_colours 0 0) (seen_after p handled 2) 0 → r ≡ 1
  clash_there c =
      let to : suc o ≡ c.arc.to.0 = ap (λ (a : Arc). a.to.0) (arc_is 0 c.arc (omega arith) c.among) in
      omega (arith, to, c.lesser, small, apart)

  clash_here : r ≡ 1 → IsClash p (with_cell no_colours 0 0) (seen_after p handled 2) 0
  clash_here one = record {
    arc = the_arc;
    slot = 0;
    among = contains_first the_arc [];
    ghost_at = (_, refl, refl);
    lesser = omega (arith, one, near, apart);
    same = seen_left 2 ∙ left_2 o;
  }

  no_clash : (place : ℕ) → place < 1 → IsClash p (with_cell no_colours 0 r) (seen_after p handled 4) place → ⊥
  no_clash place h c =
      let slot : c.slot ≡ 0 = slot_is c.arc.to.0 c.slot c.ghost_at in
      let seen : seen_after p handled 4 c.slot ≡ o = ap (seen_after p handled 4) slot ∙ (seen_left 4 ∙ left_4 o) in
      apart (sym (own_stays place h) ∙ (sym c.same ∙ seen))

  clashes : (j place : ℕ) → 2 * j + 2 ≤ 4
      → Contains (list_of r (suc j)) place ↔ ((place < 1) × IsClash p (own_of r j) (seen_after p handled (2 * j + 2)) place)
  unfolding list_of own_of
  clashes zero place within = (
    λ c.
        let is = clash_is place c in
        subst (λ (x : ℕ). (x < 1) × IsClash p (with_cell no_colours 0 0) (seen_after p handled 2) x) (sym is.1) (omega arith, clash_here is.0),
    λ is.
        let first : place ≡ 0 = omega (arith, is.0) in
        let clash : IsClash p (with_cell no_colours 0 0) (seen_after p handled 2) 0 = subst (λ (x : ℕ). IsClash p (with_cell no_colours 0 0) (seen_after p handled 2) x) first is.1 in
        subst (λ (x : ℕ). Contains (again r) x) (sym first) (is_again (clash_there clash)),
  )
  clashes (suc zero) place within = (λ c. absurd (omega (arith, c.1)), λ is. absurd (no_clash place is.0 is.1))
  clashes (suc (suc j)) place within = absurd (omega arith)

  pass_none : Passes p (seen_after p handled 2) (again 0) (with_cell no_colours 0 0) (with_cell no_colours 0 0)
  unfolding again
  pass_none = λ place. refl

  pass_once : Passes p (seen_after p handled 2) (again 1) (with_cell no_colours 0 0) (with_cell no_colours 0 1)
  unfolding again
  pass_once = (1, second_fits (with_cell no_colours 0 0), last_cells)

  second_pass : (r ≡ 0) ⊎ (r ≡ 1) → Passes p (seen_after p handled 2) (again r) (with_cell no_colours 0 0) (with_cell no_colours 0 r)
  second_pass (inl none) = subst (λ (x : ℕ). Passes p (seen_after p handled 2) (again x) (with_cell no_colours 0 0) (with_cell no_colours 0 x)) (sym none) pass_none
  second_pass (inr one) = subst (λ (x : ℕ). Passes p (seen_after p handled 2) (again x) (with_cell no_colours 0 0) (with_cell no_colours 0 x)) (sym one) pass_once

  passes : (j : ℕ) → 2 * j < 4 → Passes p (seen_after p handled (2 * j)) (list_of r j) (own_before (history r) j) (own_of r j)
  unfolding list_of own_of
  passes zero within = (0, first_fits, λ place. refl)
  passes (suc zero) within = second_pass (⊎_elim (λ e. inl e) (λ e. inr (omega (arith, e, small))) (cases_eq r 0))
  passes (suc (suc j)) within = absurd (omega arith)

  begins : list_of r 0 ≡ 0 ∷ []
  unfolding list_of
  begins = refl

  are_passes : ArePasses p handled 4 (history r)
  are_passes = record {
    begins = begins;
    ascends = λ j within. short (list_of r j) (list_short r j small);
    clashes = clashes;
    passes = passes;
  }

  third : (j : ℕ) → 4 ≡ 2 * j → j ≡ 2
  third j e = omega (arith, e)

  last_list : list_of r 2 ≡ []
  unfolding list_of
  last_list = refl

  last_pass : Passes p (seen_after p handled 4) [] (own_of r 1) (with_cell no_colours 0 r)
  unfolding own_of
  last_pass = λ place. refl

  seen_end : (slot : ℕ) → slot < 1 → with_cell no_colours 0 (1 - r) slot ≡ seen_after p handled 6 slot
  seen_end zero h =
      let other : 1 - r ≡ o = omega (arith, small, near, apart) in
      cell_at no_colours 0 (1 - r) ∙ (other ∙ sym (seen_left 6 ∙ left_6 o))
  seen_end (suc slot) h = absurd (omega arith)

  present : IsPresent p handled (history r) (state r)
  present = record {
    list = λ j e. sym (ap (list_of r) (third j e) ∙ last_list);
    partly = λ j e. subst (λ (i : ℕ). Passes p (seen_after p handled (2 * i)) [] (own_before (history r) i) (with_cell no_colours 0 r)) (sym (third j e)) last_pass;
    coloured_all = λ j v e at. refl;
    own = λ j place e. absurd (omega (arith, e));
    seen = λ slot h. seen_end slot h;
  }

  refreshes_are : (own : Cells) → refreshes_to o own (refreshes_of p) ≡ Refresh 0 (own 0) ∷ []
  refreshes_are own = ap (map (refresh_of own)) (cond-true (o == o) (the_refresh ∷ []) [] (eq-eqb o o refl))

  round_sent : (j : ℕ) → 2 * j + 1 < 5 → items_of_round (2 * j + 1) (lane_of r) ≡ Refresh 0 (own_of r j 0) ∷ []
  unfolding own_of
  round_sent zero h = refl
  round_sent (suc zero) h = refl
  round_sent (suc (suc j)) h = absurd (omega arith)

  sends : AreSent p promised (history r) (state r)
  sends = record {
    all = λ q j other h.
        ap (items_of_round (2 * j + 1)) (sent_to q other)
        ∙ (round_sent j h ∙ sym (ap (λ (x : ℕ). refreshes_to x (own_of r j) (refreshes_of p)) (other_is q other) ∙ refreshes_are (own_of r j)));
    some = λ q j other e. absurd (omega (arith, e));
  }

  votes : AreVotes p promised (history r) (state r)
  votes = record {
    votes = λ q k v other at. vote_at r k v small (ap (λ (list : List (Body CellBody)). slice_get (votes_of list) k) (sym (sent_to q other)) ∙ at);
    cast = λ v at. vote_at r 4 v small at;
  }

  not_yet : (j : ℕ) → 2 * j < 4 → HasNothing p handled (history r) j → ⊥
  unfolding list_of
  not_yet zero h nothing = omega (arith, ap length nothing.own)
  not_yet (suc zero) h nothing =
      let other = nothing.others o (vote o) (near, λ e. apart (sym e)) (ap (λ (list : List (Body CellBody)). slice_get (votes_of list) 2) from) in
      let none = ap length nothing.own in
      apart (omega (arith, other, none, again_count r small))
  not_yet (suc (suc j)) h nothing = absurd (omega arith)

  at_last : HasNothing p handled (history r) 2
  at_last = record {
    own = last_list;
    others = λ q v other at.
        let is = same_Some (vote 0) v (ap (λ (list : List (Body CellBody)). slice_get (votes_of list) 4) (sym (taken_from q other)) ∙ at) in
        ap (λ (x : Vote). x.a) (sym is);
  }

  pub keeps : LocalColour p handled promised (state r)
  keeps = record {
    history = history r;
    counted = counted;
    refreshes = refreshes;
    coloured = λ sound. record {
      passes = are_passes;
      present = present;
      sends = sends;
      voting = votes;
      ending = record { ended = λ e. record { pass = 2; round_is = refl; nothing = at_last }; going = not_yet };
    };
  }

  pub over : HasEndedOver 2 r lists lists p (state r)
  over = record {
    handled = handled;
    promised = promised;
    ended = refl;
    keeps = keeps;
    handled_is = λ q other. taken_from q other ∙ ap lane_of (sym (other_is q other));
    sent_is = λ q other. sent_to q other;
  }

zero_one : zero ≢ suc zero
zero_one e = omega (arith, e)

kept : (r : ℕ) (p : Portion) → slice_get parts r ≡ Some p → HasEndedOver 2 r lists lists p (state r)
kept zero p at =
    subst (λ (q : Portion). HasEndedOver 2 0 lists lists q (state 0)) (same_Some (part_of 0 1 1 2) p at)
    (over 0 1 zero_one (omega arith) (omega arith) ([] ∷ lane_of 1 ∷ []) ([] ∷ lane_of 0 ∷ []) refl refl refl refl refl)
kept (suc zero) p at =
    subst (λ (q : Portion). HasEndedOver 2 1 lists lists q (state 1)) (same_Some (part_of 1 2 0 1) p at)
    (over 1 0 (λ e. zero_one (sym e)) (omega arith) (omega arith) (lane_of 0 ∷ [] ∷ []) (lane_of 1 ∷ [] ∷ []) refl refl refl refl refl)
kept (suc (suc r)) p at = absurd (none-some p at)

marked : IsMarked 2 lists
marked = record {
  rounds = 5;
  some_round = omega arith;
  marked = λ q r h other. refl;
  last = λ q r h other. refl;
  same_votes = λ q r h other third more. refl;
}

pub example_is : IsWholeRun one_each pair parts state lists lists
example_is = record {
  sharing = sharing_laws;
  graph = is_graph;
  vertices = refl;
  divided = divided;
  whole = λ q r h other. refl;
  marked = marked;
  kept = kept;
}
