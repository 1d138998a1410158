-- The example is a whole run.
use Rattle.std.proofs.Common.{◌≡◌, ◌≢◌, ℕ, zero, suc, ◌+◌, ◌*◌, ◌/◌, ◌<◌, ◌≤◌, true, List, [], ◌∷◌, refl, sym, ap, subst, ⊎_elim, inl, inr, arith, All, AllPairs, Contains}
use Rattle.std.proofs.lemmas.List.Elements.{All-nil, All-cons}
use Rattle.pg_base.specs.declared.TheConstants.{MAX_WEIGHT}
use Rattle.pg_base.specs.declared.edges.Edge.{Edge}
use Rattle.pg_base.specs.Graph.{IsGraph, IsEdge, Precedes}
use Rattle.pg_base.specs.Examples.{edge}
use Rattle.pg_base.proofs.Members.{contains_first, contains_later, contains_cases, AllPairs-cons}
use Rattle.pg_group.specs.declared.messages.Body.{Body}
use Rattle.pg_group.specs.Ranked.{IsOther, list_at}
use Rattle.pg_group.specs.Rolls.{IsZeros}
use Rattle.pg_group.specs.Rounds.{marks, ends_with_mark, items_of_round, votes_of}
use Rattle.pg_group.specs.Book.{EachPair}
use Rattle.pg_boruvka.specs.declared.TheConstants.{NO_KEY}
use Rattle.pg_boruvka.specs.declared.messages.Hook.{Hook}
use Rattle.pg_boruvka.specs.declared.messages.Message.{Message}
use Rattle.pg_boruvka.specs.declared.messages.Message.TheVariants.{Piece as Keys, Hook as Hooked}
use Rattle.pg_adj.specs.Portions.{IsVertex}
use Rattle.pg_boruvka.specs.Parts.{LocalArc, IsArc, IsHeld, IsDivided, arc_of, edge_at}
use Rattle.pg_boruvka.specs.Winners.{own_key, winner, first_label, labels_of, IsPieceOf, piece_from}
use Rattle.pg_boruvka.specs.Hooks.{own_hooks, label_in, phase_hooks}
use Rattle.pg_boruvka.specs.LocalDense.{AreCounted, AreSent, IsHookOf, IsChosen, NoWinner, IsPhase}
use Rattle.pg_boruvka.specs.Whole.{HasEndedOver, IsRun}
use Rattle.pg_boruvka.specs.Example.{path, arc, part_of, zeros, there, back, lists, label_after, state}
use Rattle.pg_boruvka.proofs.RoundLists.{none_past}

-- a fact of each ordered pair of the two ranks
pairs : (P : ℕ → ℕ → Type 0) → P 0 1 → P 1 0 → EachPair 2 P
pairs P there back zero zero h other = absurd (other.1 refl)
pairs P there back zero (suc zero) h other = there
pairs P there back zero (suc (suc s)) h other = absurd (omega (arith, other.0))
pairs P there back (suc zero) zero h other = back
pairs P there back (suc zero) (suc zero) h other = absurd (other.1 refl)
pairs P there back (suc zero) (suc (suc s)) h other = absurd (omega (arith, other.0))
pairs P there back (suc (suc r)) s h other = absurd (omega arith)

both_ranks : (P : ℕ → Type 0) → P 0 → P 1 → (r : ℕ) → r < 2 → P r
both_ranks P zeroth first zero h = zeroth
both_ranks P zeroth first (suc zero) h = first
both_ranks P zeroth first (suc (suc r)) h = absurd (omega arith)

each_vertex : (P : ℕ → Type 0) → P 1 → P 2 → P 3 → P 4 → (v : ℕ) → IsVertex 4 v → P v
each_vertex P one two three four zero h = absurd (omega (arith, h.first))
each_vertex P one two three four (suc zero) h = one
each_vertex P one two three four (suc (suc zero)) h = two
each_vertex P one two three four (suc (suc (suc zero))) h = three
each_vertex P one two three four (suc (suc (suc (suc zero)))) h = four
each_vertex P one two three four (suc (suc (suc (suc (suc v))))) h = absurd (omega (arith, h.last))

module _ {X : Type 0} where
  one_in : (P : X → Type 0) (x : X) → P x → (y : X) → Contains (x ∷ []) y → P y
  one_in P x is y c = ⊎_elim (λ same. subst P same is) (λ none. absurd (omega (arith, none.1))) (contains_cases x [] y c)

  two_in : (P : X → Type 0) (x y : X) → P x → P y → (z : X) → Contains (x ∷ y ∷ []) z → P z
  two_in P x y first second z c = ⊎_elim (λ same. subst P same first) (λ later. one_in P y second z later) (contains_cases x (y ∷ []) z c)

  three_in : (P : X → Type 0) (x y w : X) → P x → P y → P w → (z : X) → Contains (x ∷ y ∷ w ∷ []) z → P z
  three_in P x y w first second third z c = ⊎_elim (λ same. subst P same first) (λ later. two_in P y w second third z later) (contains_cases x (y ∷ w ∷ []) z c)

  once_none : AllPairs (λ (a b : X). a ≢ b) []
  once_none i j d l h = absurd (omega (arith, h))

  once_one : (x : X) → AllPairs (λ (a b : X). a ≢ b) (x ∷ [])
  once_one x i j d l h = absurd (omega (arith, l, h))

-- Two labels without keys have no piece.
no_piece : (key : ℕ → ℕ) (first : ℕ) → key (first + 0) ≡ NO_KEY → key (first + 1) ≡ NO_KEY → (m : Message) → IsPieceOf key first 2 m → ⊥
no_piece key first zeroth next m is = no_offset is.offset is.below is.used where
  no_offset : (o : ℕ) → o < 2 → key (first + o) ≢ NO_KEY → ⊥
  no_offset zero h used = used zeroth
  no_offset (suc zero) h used = used next
  no_offset (suc (suc o)) h used = omega arith

-- Two labels have one piece at most.
one_piece : (P : Message → Type 0) (key : ℕ → ℕ) (first : ℕ) → P (piece_from key (first + 2) (first + 0)) → (m : Message) → IsPieceOf key first 2 m → P m
one_piece P key first holds m is = by_offset is.offset is.below is.is where
  by_offset : (o : ℕ) → o < 2 → m ≡ piece_from key (first + 2) (first + o / 8 * 8) → P m
  by_offset zero h same = subst P (sym same) holds
  by_offset (suc zero) h same = subst P (sym same) holds
  by_offset (suc (suc o)) h same = absurd (omega arith)

empty_sent : (k : ℕ) (Due : Message → Type 0) (list : List (Body Message)) → items_of_round k list ≡ [] → (k < 5 → (m : Message) → Due m → ⊥) → AreSent state k Due list
empty_sent k Due list none never = record {
  due = subst (λ (items : List Message). All Due items) (sym none) (All-nil Due);
  once = subst (λ (items : List Message). AllPairs (λ m o. m ≢ o) items) (sym none) once_none;
  all = λ h m due. absurd (never h m due);
}

abbrev handled_of : ℕ → List (List (Body Message))
handled_of zero = [] ∷ back ∷ []
handled_of (suc r) = there ∷ [] ∷ []

abbrev sent_of : ℕ → List (List (Body Message))
sent_of zero = [] ∷ there ∷ []
sent_of (suc r) = back ∷ [] ∷ []

to_1 : (P : ℕ → Type 0) → P 1 → (to : ℕ) → IsOther 0 2 to → P to
to_1 P one zero other = absurd (other.1 refl)
to_1 P one (suc zero) other = one
to_1 P one (suc (suc r)) other = absurd (omega (arith, other.0))

to_0 : (P : ℕ → Type 0) → P 0 → (to : ℕ) → IsOther 1 2 to → P to
to_0 P one zero other = one
to_0 P one (suc zero) other = absurd (other.1 refl)
to_0 P one (suc (suc r)) other = absurd (omega (arith, other.0))

zeros_are : IsZeros zeros
zeros_are = record { a = refl; b = refl; c = refl; d = refl }

five_zeros : All IsZeros (zeros ∷ zeros ∷ zeros ∷ zeros ∷ zeros ∷ [])
five_zeros =
    All-cons IsZeros zeros (zeros ∷ zeros ∷ zeros ∷ zeros ∷ []) zeros_are
    (All-cons IsZeros zeros (zeros ∷ zeros ∷ zeros ∷ []) zeros_are
    (All-cons IsZeros zeros (zeros ∷ zeros ∷ []) zeros_are
    (All-cons IsZeros zeros (zeros ∷ []) zeros_are
    (All-cons IsZeros zeros [] zeros_are (All-nil IsZeros)))))

counted_0 : AreCounted (part_of 0) (handled_of 0) (sent_of 0) state
counted_0 = record {
  from_each = refl;
  to_each = refl;
  running = λ h. cc;
  closed = λ h. to_1 (λ r. marks (list_at (handled_of 0) r) ≡ 5) refl;
  given = to_1 (λ r. marks (list_at (sent_of 0) r) ≡ 5) refl;
  zeros = to_1 (λ r. All IsZeros (votes_of (list_at (sent_of 0) r))) five_zeros;
  later = λ to k other h. to_1 (λ r. items_of_round k (list_at (sent_of 0) r) ≡ []) (none_past there k refl (omega arith)) to other;
}

counted_1 : AreCounted (part_of 1) (handled_of 1) (sent_of 1) state
counted_1 = record {
  from_each = refl;
  to_each = refl;
  running = λ h. cc;
  closed = λ h. to_0 (λ r. marks (list_at (handled_of 1) r) ≡ 5) refl;
  given = to_0 (λ r. marks (list_at (sent_of 1) r) ≡ 5) refl;
  zeros = to_0 (λ r. All IsZeros (votes_of (list_at (sent_of 1) r))) five_zeros;
  later = λ to k other h. to_0 (λ r. items_of_round k (list_at (sent_of 1) r) ≡ []) (none_past back k refl (omega arith)) to other;
}

abbrev hook_at : ℕ → ℕ → ℕ → Hook
hook_at source target edge = record { source = source; target = target; edge = edge }

abbrev some_hook : List Hook → Hook → Message → Type 0
some_hook hooks h m = IsHookOf hooks m

hook_due : (hooks : List Hook) (h : Hook) → Contains hooks h → IsHookOf hooks (Hooked h)
hook_due hooks h c = record { hook = h; among = c; is = refl }

abbrev piece_at : ℕ → ℕ → ℕ → Message
piece_at base first second = Keys (record { base = base; keys = first ∷ second ∷ NO_KEY ∷ NO_KEY ∷ NO_KEY ∷ NO_KEY ∷ NO_KEY ∷ NO_KEY ∷ [] })

differ : (a b c d e f : ℕ) → (a ≡ d → ⊥) → hook_at a b c ≢ hook_at d e f
differ a b c d e f apart same = apart (ap (λ (h : Hook). h.source) same)

apart_messages : (g h : Hook) → g ≢ h → Hooked g ≢ Hooked h
apart_messages g h apart same = apart (inside g h same) where
  inside : (g h : Hook) → Hooked g ≡ Hooked h → g ≡ h
  inside g h e = cc

once_two : {X : Type 0} (x y : X) → x ≢ y → AllPairs (λ (a b : X). a ≢ b) (x ∷ y ∷ [])
once_two x y apart = AllPairs-cons (λ a b. a ≢ b) x (y ∷ []) (All-cons (λ b. x ≢ b) y [] apart (All-nil (λ b. x ≢ b))) (once_one y)

ascend_none : AllPairs (λ (i j : ℕ). i < j) []
ascend_none i j d l h = absurd (omega (arith, h))

down_0 : AreSent state 1 (IsPieceOf (winner (part_of 0) (handled_of 0) (λ v. v) 0) 1 2) there
down_0 = record {
  due = All-cons (IsPieceOf (winner (part_of 0) (handled_of 0) (λ v. v) 0) 1 2) (piece_at 1 41943040 16777217) []
      (record { offset = 0; below = omega arith; used = λ e. omega (arith, e); is = refl }) (All-nil (IsPieceOf (winner (part_of 0) (handled_of 0) (λ v. v) 0) 1 2));
  once = once_one (piece_at 1 41943040 16777217);
  all = λ h m due. one_piece (Contains ((piece_at 1 41943040 16777217) ∷ [])) (winner (part_of 0) (handled_of 0) (λ v. v) 0) 1 (contains_first (piece_at 1 41943040 16777217) []) m due;
}

hooks_0 : AreSent state 2 (IsHookOf (own_hooks (part_of 0) (handled_of 0) (λ v. v) 0)) there
hooks_0 = record {
  due = All-cons (IsHookOf (hook_at 1 2 0 ∷ hook_at 2 3 1 ∷ [])) (Hooked (hook_at 1 2 0)) (Hooked (hook_at 2 3 1) ∷ []) (hook_due (hook_at 1 2 0 ∷ hook_at 2 3 1 ∷ []) (hook_at 1 2 0) (contains_first (hook_at 1 2 0) (hook_at 2 3 1 ∷ [])))
      (All-cons (IsHookOf (hook_at 1 2 0 ∷ hook_at 2 3 1 ∷ [])) (Hooked (hook_at 2 3 1)) [] (hook_due (hook_at 1 2 0 ∷ hook_at 2 3 1 ∷ []) (hook_at 2 3 1) (contains_later (hook_at 1 2 0) (hook_at 2 3 1 ∷ []) (hook_at 2 3 1) (contains_first (hook_at 2 3 1) []))) (All-nil (IsHookOf (hook_at 1 2 0 ∷ hook_at 2 3 1 ∷ []))));
  once = once_two (Hooked (hook_at 1 2 0)) (Hooked (hook_at 2 3 1)) (apart_messages (hook_at 1 2 0) (hook_at 2 3 1) (differ 1 2 0 2 3 1 (λ e. omega (arith, e))));
  all = λ h m due. subst (Contains (Hooked (hook_at 1 2 0) ∷ Hooked (hook_at 2 3 1) ∷ [])) (sym due.is) (two_in (λ (x : Hook). Contains (Hooked (hook_at 1 2 0) ∷ Hooked (hook_at 2 3 1) ∷ []) (Hooked x)) (hook_at 1 2 0) (hook_at 2 3 1)
      (contains_first (Hooked (hook_at 1 2 0)) (Hooked (hook_at 2 3 1) ∷ []))
      (contains_later (Hooked (hook_at 1 2 0)) (Hooked (hook_at 2 3 1) ∷ []) (Hooked (hook_at 2 3 1)) (contains_first (Hooked (hook_at 2 3 1)) []))
      due.hook due.among);
}

first_0 : IsPhase 4 (part_of 0) (handled_of 0) (sent_of 0) state 0
first_0 = record {
  up = to_1 (λ to. AreSent state 0 (IsPieceOf (own_key (part_of 0) (λ v. v)) (first_label (part_of 0) to) (labels_of (part_of 0) to)) (list_at (sent_of 0) to))
      (empty_sent 0 (IsPieceOf (own_key (part_of 0) (λ v. v)) 3 2) there refl (λ h m due. no_piece (own_key (part_of 0) (λ v. v)) 3 refl refl m due));
  down = to_1 (λ to. AreSent state 1 (IsPieceOf (winner (part_of 0) (handled_of 0) (λ v. v) 0) 1 2) (list_at (sent_of 0) to)) down_0;
  hooks = to_1 (λ to. AreSent state 2 (IsHookOf (own_hooks (part_of 0) (handled_of 0) (λ v. v) 0)) (list_at (sent_of 0) to)) hooks_0;
  labels = λ now. absurd (omega (arith, now.last));
  ascending = λ now. absurd (omega (arith, now.last));
  edges = λ now. absurd (omega (arith, now.last));
  ended = λ now. absurd (omega (arith, now.last));
  going = λ h none. let e : 41943040 ≡ NO_KEY = none 1 (record { first = omega arith; last = omega arith }) in omega (arith, e);
}

no_winner_0 : NoWinner 4 (part_of 0) (handled_of 0) 1
no_winner_0 = each_vertex (λ l. winner (part_of 0) (handled_of 0) (label_in 4 (part_of 0) (handled_of 0) 1) 1 l ≡ NO_KEY) refl refl refl refl

label_same_0 : (v : ℕ) → IsVertex 4 v → label_after v ≡ label_in 4 (part_of 0) (handled_of 0) 1 v
label_same_0 = each_vertex (λ v. label_after v ≡ label_in 4 (part_of 0) (handled_of 0) 1 v) refl refl refl refl

chosen_before_0 : (i : ℕ) → IsChosen 4 (part_of 0) (handled_of 0) 1 i → Contains (0 ∷ 1 ∷ []) i
chosen_before_0 i c = by_phase c.phase c.before c.among where
  by_phase : (q : ℕ) → q < 1 → Contains (phase_hooks 4 (part_of 0) (handled_of 0) q) c.hook → Contains (0 ∷ 1 ∷ []) i
  by_phase zero h among = subst (Contains (0 ∷ 1 ∷ [])) c.edge (three_in (λ (x : Hook). Contains (0 ∷ 1 ∷ []) x.edge) (hook_at 1 2 0) (hook_at 2 3 1) (hook_at 3 2 1) (contains_first 0 (1 ∷ [])) (contains_later 0 (1 ∷ []) 1 (contains_first 1 [])) (contains_later 0 (1 ∷ []) 1 (contains_first 1 [])) c.hook among)
  by_phase (suc q) h among = absurd (omega arith)

edge_chosen_0 : (i : ℕ) → Contains (0 ∷ 1 ∷ []) i → IsChosen 4 (part_of 0) (handled_of 0) 1 i
edge_chosen_0 i c = two_in (IsChosen 4 (part_of 0) (handled_of 0) 1) 0 1
    (record { phase = 0; before = omega arith; hook = hook_at 1 2 0; among = contains_first (hook_at 1 2 0) (hook_at 2 3 1 ∷ hook_at 3 2 1 ∷ []); edge = refl })
    (record { phase = 0; before = omega arith; hook = hook_at 2 3 1; among = contains_later (hook_at 1 2 0) (hook_at 2 3 1 ∷ hook_at 3 2 1 ∷ []) (hook_at 2 3 1) (contains_first (hook_at 2 3 1) (hook_at 3 2 1 ∷ [])); edge = refl }) i c

second_0 : IsPhase 4 (part_of 0) (handled_of 0) (sent_of 0) state 1
second_0 = record {
  up = to_1 (λ to. AreSent state 3 (IsPieceOf (own_key (part_of 0) (label_in 4 (part_of 0) (handled_of 0) 1)) (first_label (part_of 0) to) (labels_of (part_of 0) to)) (list_at (sent_of 0) to))
      (empty_sent 3 (IsPieceOf (own_key (part_of 0) (label_in 4 (part_of 0) (handled_of 0) 1)) 3 2) there refl (λ h m due. no_piece (own_key (part_of 0) (label_in 4 (part_of 0) (handled_of 0) 1)) 3 refl refl m due));
  down = to_1 (λ to. AreSent state 4 (IsPieceOf (winner (part_of 0) (handled_of 0) (label_in 4 (part_of 0) (handled_of 0) 1) 1) 1 2) (list_at (sent_of 0) to))
      (empty_sent 4 (IsPieceOf (winner (part_of 0) (handled_of 0) (label_in 4 (part_of 0) (handled_of 0) 1) 1) 1 2) there refl (λ h m due. no_piece (winner (part_of 0) (handled_of 0) (label_in 4 (part_of 0) (handled_of 0) 1) 1) 1 refl refl m due));
  hooks = to_1 (λ to. AreSent state 5 (IsHookOf (own_hooks (part_of 0) (handled_of 0) (label_in 4 (part_of 0) (handled_of 0) 1) 1)) (list_at (sent_of 0) to))
      (empty_sent 5 (IsHookOf (own_hooks (part_of 0) (handled_of 0) (label_in 4 (part_of 0) (handled_of 0) 1) 1)) there refl (λ h m due. omega (arith, h)));
  labels = λ now. label_same_0;
  ascending = λ now. AllPairs-cons (λ i j. i < j) 0 (1 ∷ []) (All-cons (λ j. 0 < j) 1 [] (omega arith) (All-nil (λ j. 0 < j))) (AllPairs-cons (λ i j. i < j) 1 [] (All-nil (λ j. 1 < j)) ascend_none);
  edges = λ now i. (edge_chosen_0 i, chosen_before_0 i);
  ended = λ now over. (refl, no_winner_0);
  going = λ h none. omega (arith, h);
}

later_0 : (p : ℕ) → 2 ≤ p → IsPhase 4 (part_of 0) (handled_of 0) (sent_of 0) state p
later_0 p late = record {
  up = to_1 (λ to. AreSent state (3 * p) (IsPieceOf (own_key (part_of 0) (label_in 4 (part_of 0) (handled_of 0) p)) (first_label (part_of 0) to) (labels_of (part_of 0) to)) (list_at (sent_of 0) to))
      (empty_sent (3 * p) (IsPieceOf (own_key (part_of 0) (label_in 4 (part_of 0) (handled_of 0) p)) 3 2) there (none_past there (3 * p) refl (omega arith)) (λ h m due. omega arith));
  down = to_1 (λ to. AreSent state (3 * p + 1) (IsPieceOf (winner (part_of 0) (handled_of 0) (label_in 4 (part_of 0) (handled_of 0) p) p) 1 2) (list_at (sent_of 0) to))
      (empty_sent (3 * p + 1) (IsPieceOf (winner (part_of 0) (handled_of 0) (label_in 4 (part_of 0) (handled_of 0) p) p) 1 2) there (none_past there (3 * p + 1) refl (omega arith)) (λ h m due. omega arith));
  hooks = to_1 (λ to. AreSent state (3 * p + 2) (IsHookOf (own_hooks (part_of 0) (handled_of 0) (label_in 4 (part_of 0) (handled_of 0) p) p)) (list_at (sent_of 0) to))
      (empty_sent (3 * p + 2) (IsHookOf (own_hooks (part_of 0) (handled_of 0) (label_in 4 (part_of 0) (handled_of 0) p) p)) there (none_past there (3 * p + 2) refl (omega arith)) (λ h m due. omega arith));
  labels = λ now. absurd (omega (arith, now.first, late));
  ascending = λ now. absurd (omega (arith, now.first, late));
  edges = λ now. absurd (omega (arith, now.first, late));
  ended = λ now. absurd (omega (arith, now.first, late));
  going = λ h none. omega (arith, h, late);
}

each_0 : (p : ℕ) → IsPhase 4 (part_of 0) (handled_of 0) (sent_of 0) state p
each_0 zero = first_0
each_0 (suc zero) = second_0
each_0 (suc (suc p)) = later_0 (suc (suc p)) (omega arith)

kept_0 : HasEndedOver 4 2 0 lists lists (part_of 0) state
kept_0 = record {
  handled = (handled_of 0);
  promised = (sent_of 0);
  ended = refl;
  keeps = record { counted = counted_0; phase = λ p sound. each_0 p };
  own_handled = refl;
  handled_is = to_1 (λ from. list_at (handled_of 0) from ≡ lists from 0) refl;
  sent_is = to_1 (λ to. list_at (sent_of 0) to ≡ lists 0 to) refl;
}

down_1 : AreSent state 1 (IsPieceOf (winner (part_of 1) (handled_of 1) (λ v. v) 0) 3 2) back
down_1 = record {
  due = All-cons (IsPieceOf (winner (part_of 1) (handled_of 1) (λ v. v) 0) 3 2) (piece_at 3 16777217 NO_KEY) []
      (record { offset = 0; below = omega arith; used = λ e. omega (arith, e); is = refl }) (All-nil (IsPieceOf (winner (part_of 1) (handled_of 1) (λ v. v) 0) 3 2));
  once = once_one (piece_at 3 16777217 NO_KEY);
  all = λ h m due. one_piece (Contains ((piece_at 3 16777217 NO_KEY) ∷ [])) (winner (part_of 1) (handled_of 1) (λ v. v) 0) 3 (contains_first (piece_at 3 16777217 NO_KEY) []) m due;
}

hooks_1 : AreSent state 2 (IsHookOf (own_hooks (part_of 1) (handled_of 1) (λ v. v) 0)) back
hooks_1 = record {
  due = All-cons (IsHookOf (hook_at 3 2 1 ∷ [])) (Hooked (hook_at 3 2 1)) [] (hook_due (hook_at 3 2 1 ∷ []) (hook_at 3 2 1) (contains_first (hook_at 3 2 1) [])) (All-nil (IsHookOf (hook_at 3 2 1 ∷ [])));
  once = once_one (Hooked (hook_at 3 2 1));
  all = λ h m due. subst (Contains (Hooked (hook_at 3 2 1) ∷ [])) (sym due.is) (one_in (λ (x : Hook). Contains (Hooked (hook_at 3 2 1) ∷ []) (Hooked x)) (hook_at 3 2 1)
      (contains_first (Hooked (hook_at 3 2 1)) []) due.hook due.among);
}

first_1 : IsPhase 4 (part_of 1) (handled_of 1) (sent_of 1) state 0
first_1 = record {
  up = to_0 (λ to. AreSent state 0 (IsPieceOf (own_key (part_of 1) (λ v. v)) (first_label (part_of 1) to) (labels_of (part_of 1) to)) (list_at (sent_of 1) to))
      (empty_sent 0 (IsPieceOf (own_key (part_of 1) (λ v. v)) 1 2) back refl (λ h m due. no_piece (own_key (part_of 1) (λ v. v)) 1 refl refl m due));
  down = to_0 (λ to. AreSent state 1 (IsPieceOf (winner (part_of 1) (handled_of 1) (λ v. v) 0) 3 2) (list_at (sent_of 1) to)) down_1;
  hooks = to_0 (λ to. AreSent state 2 (IsHookOf (own_hooks (part_of 1) (handled_of 1) (λ v. v) 0)) (list_at (sent_of 1) to)) hooks_1;
  labels = λ now. absurd (omega (arith, now.last));
  ascending = λ now. absurd (omega (arith, now.last));
  edges = λ now. absurd (omega (arith, now.last));
  ended = λ now. absurd (omega (arith, now.last));
  going = λ h none. let e : 41943040 ≡ NO_KEY = none 1 (record { first = omega arith; last = omega arith }) in omega (arith, e);
}

no_winner_1 : NoWinner 4 (part_of 1) (handled_of 1) 1
no_winner_1 = each_vertex (λ l. winner (part_of 1) (handled_of 1) (label_in 4 (part_of 1) (handled_of 1) 1) 1 l ≡ NO_KEY) refl refl refl refl

label_same_1 : (v : ℕ) → IsVertex 4 v → label_after v ≡ label_in 4 (part_of 1) (handled_of 1) 1 v
label_same_1 = each_vertex (λ v. label_after v ≡ label_in 4 (part_of 1) (handled_of 1) 1 v) refl refl refl refl

chosen_before_1 : (i : ℕ) → IsChosen 4 (part_of 1) (handled_of 1) 1 i → Contains (0 ∷ 1 ∷ []) i
chosen_before_1 i c = by_phase c.phase c.before c.among where
  by_phase : (q : ℕ) → q < 1 → Contains (phase_hooks 4 (part_of 1) (handled_of 1) q) c.hook → Contains (0 ∷ 1 ∷ []) i
  by_phase zero h among = subst (Contains (0 ∷ 1 ∷ [])) c.edge (three_in (λ (x : Hook). Contains (0 ∷ 1 ∷ []) x.edge) (hook_at 3 2 1) (hook_at 1 2 0) (hook_at 2 3 1) (contains_later 0 (1 ∷ []) 1 (contains_first 1 [])) (contains_first 0 (1 ∷ [])) (contains_later 0 (1 ∷ []) 1 (contains_first 1 [])) c.hook among)
  by_phase (suc q) h among = absurd (omega arith)

edge_chosen_1 : (i : ℕ) → Contains (0 ∷ 1 ∷ []) i → IsChosen 4 (part_of 1) (handled_of 1) 1 i
edge_chosen_1 i c = two_in (IsChosen 4 (part_of 1) (handled_of 1) 1) 0 1
    (record { phase = 0; before = omega arith; hook = hook_at 1 2 0; among = contains_later (hook_at 3 2 1) (hook_at 1 2 0 ∷ hook_at 2 3 1 ∷ []) (hook_at 1 2 0) (contains_first (hook_at 1 2 0) (hook_at 2 3 1 ∷ [])); edge = refl })
    (record { phase = 0; before = omega arith; hook = hook_at 2 3 1; among = contains_later (hook_at 3 2 1) (hook_at 1 2 0 ∷ hook_at 2 3 1 ∷ []) (hook_at 2 3 1) (contains_later (hook_at 1 2 0) (hook_at 2 3 1 ∷ []) (hook_at 2 3 1) (contains_first (hook_at 2 3 1) ([]))); edge = refl }) i c

second_1 : IsPhase 4 (part_of 1) (handled_of 1) (sent_of 1) state 1
second_1 = record {
  up = to_0 (λ to. AreSent state 3 (IsPieceOf (own_key (part_of 1) (label_in 4 (part_of 1) (handled_of 1) 1)) (first_label (part_of 1) to) (labels_of (part_of 1) to)) (list_at (sent_of 1) to))
      (empty_sent 3 (IsPieceOf (own_key (part_of 1) (label_in 4 (part_of 1) (handled_of 1) 1)) 1 2) back refl (λ h m due. no_piece (own_key (part_of 1) (label_in 4 (part_of 1) (handled_of 1) 1)) 1 refl refl m due));
  down = to_0 (λ to. AreSent state 4 (IsPieceOf (winner (part_of 1) (handled_of 1) (label_in 4 (part_of 1) (handled_of 1) 1) 1) 3 2) (list_at (sent_of 1) to))
      (empty_sent 4 (IsPieceOf (winner (part_of 1) (handled_of 1) (label_in 4 (part_of 1) (handled_of 1) 1) 1) 3 2) back refl (λ h m due. no_piece (winner (part_of 1) (handled_of 1) (label_in 4 (part_of 1) (handled_of 1) 1) 1) 3 refl refl m due));
  hooks = to_0 (λ to. AreSent state 5 (IsHookOf (own_hooks (part_of 1) (handled_of 1) (label_in 4 (part_of 1) (handled_of 1) 1) 1)) (list_at (sent_of 1) to))
      (empty_sent 5 (IsHookOf (own_hooks (part_of 1) (handled_of 1) (label_in 4 (part_of 1) (handled_of 1) 1) 1)) back refl (λ h m due. omega (arith, h)));
  labels = λ now. label_same_1;
  ascending = λ now. AllPairs-cons (λ i j. i < j) 0 (1 ∷ []) (All-cons (λ j. 0 < j) 1 [] (omega arith) (All-nil (λ j. 0 < j))) (AllPairs-cons (λ i j. i < j) 1 [] (All-nil (λ j. 1 < j)) ascend_none);
  edges = λ now i. (edge_chosen_1 i, chosen_before_1 i);
  ended = λ now over. (refl, no_winner_1);
  going = λ h none. omega (arith, h);
}

later_1 : (p : ℕ) → 2 ≤ p → IsPhase 4 (part_of 1) (handled_of 1) (sent_of 1) state p
later_1 p late = record {
  up = to_0 (λ to. AreSent state (3 * p) (IsPieceOf (own_key (part_of 1) (label_in 4 (part_of 1) (handled_of 1) p)) (first_label (part_of 1) to) (labels_of (part_of 1) to)) (list_at (sent_of 1) to))
      (empty_sent (3 * p) (IsPieceOf (own_key (part_of 1) (label_in 4 (part_of 1) (handled_of 1) p)) 1 2) back (none_past back (3 * p) refl (omega arith)) (λ h m due. omega arith));
  down = to_0 (λ to. AreSent state (3 * p + 1) (IsPieceOf (winner (part_of 1) (handled_of 1) (label_in 4 (part_of 1) (handled_of 1) p) p) 3 2) (list_at (sent_of 1) to))
      (empty_sent (3 * p + 1) (IsPieceOf (winner (part_of 1) (handled_of 1) (label_in 4 (part_of 1) (handled_of 1) p) p) 3 2) back (none_past back (3 * p + 1) refl (omega arith)) (λ h m due. omega arith));
  hooks = to_0 (λ to. AreSent state (3 * p + 2) (IsHookOf (own_hooks (part_of 1) (handled_of 1) (label_in 4 (part_of 1) (handled_of 1) p) p)) (list_at (sent_of 1) to))
      (empty_sent (3 * p + 2) (IsHookOf (own_hooks (part_of 1) (handled_of 1) (label_in 4 (part_of 1) (handled_of 1) p) p)) back (none_past back (3 * p + 2) refl (omega arith)) (λ h m due. omega arith));
  labels = λ now. absurd (omega (arith, now.first, late));
  ascending = λ now. absurd (omega (arith, now.first, late));
  edges = λ now. absurd (omega (arith, now.first, late));
  ended = λ now. absurd (omega (arith, now.first, late));
  going = λ h none. omega (arith, h, late);
}

each_1 : (p : ℕ) → IsPhase 4 (part_of 1) (handled_of 1) (sent_of 1) state p
each_1 zero = first_1
each_1 (suc zero) = second_1
each_1 (suc (suc p)) = later_1 (suc (suc p)) (omega arith)

kept_1 : HasEndedOver 4 2 1 lists lists (part_of 1) state
kept_1 = record {
  handled = (handled_of 1);
  promised = (sent_of 1);
  ended = refl;
  keeps = record { counted = counted_1; phase = λ p sound. each_1 p };
  own_handled = refl;
  handled_is = to_0 (λ from. list_at (handled_of 1) from ≡ lists from 1) refl;
  sent_is = to_0 (λ to. list_at (sent_of 1) to ≡ lists 1 to) refl;
}

two_edges : (P : ℕ → Type 0) → P 0 → P 1 → (i : ℕ) → i < 2 → P i
two_edges P zeroth first i h = both_ranks P zeroth first i h

-- The arcs of the two ranks.
abbrev one_two : LocalArc
one_two = arc 1 2 41943040 0

abbrev two_one : LocalArc
two_one = arc 2 1 41943040 0

abbrev two_three : LocalArc
two_three = arc 2 3 16777217 1

abbrev three_two : LocalArc
three_two = arc 3 2 16777217 1

divided : IsDivided path 2 part_of
divided = record {
  rank = both_ranks (λ r. (part_of r).rank ≡ r) refl refl;
  group = both_ranks (λ r. (part_of r).ranks ≡ 2) refl refl;
  vertices = both_ranks (λ r. (part_of r).n ≡ 4) refl refl;
  edges = both_ranks (λ r. (part_of r).edges ≡ 2) refl refl;
  forth = two_edges (λ i. IsHeld 2 part_of (arc_of path i (edge_at path i).u (edge_at path i).v))
      (record { rank = 0; within = omega arith; among = contains_first one_two (two_one ∷ two_three ∷ []) })
      (record { rank = 0; within = omega arith; among = contains_later one_two (two_one ∷ two_three ∷ []) two_three (contains_later two_one (two_three ∷ []) two_three (contains_first two_three [])) });
  back = two_edges (λ i. IsHeld 2 part_of (arc_of path i (edge_at path i).v (edge_at path i).u))
      (record { rank = 0; within = omega arith; among = contains_later one_two (two_one ∷ two_three ∷ []) two_one (contains_first two_one (two_three ∷ [])) })
      (record { rank = 1; within = omega arith; among = contains_first three_two [] });
  no_other = both_ranks (λ r. All (IsArc path) (part_of r).arcs)
      (All-cons (IsArc path) one_two (two_one ∷ two_three ∷ []) (record { edge = omega arith; key = refl; ends = inl (refl, refl) })
      (All-cons (IsArc path) two_one (two_three ∷ []) (record { edge = omega arith; key = refl; ends = inr (refl, refl) })
      (All-cons (IsArc path) two_three [] (record { edge = omega arith; key = refl; ends = inl (refl, refl) }) (All-nil (IsArc path)))))
      (All-cons (IsArc path) three_two [] (record { edge = omega arith; key = refl; ends = inr (refl, refl) }) (All-nil (IsArc path)));
}

precedes_none : AllPairs Precedes []
precedes_none i j d l h = absurd (omega (arith, h))

path_is : IsGraph path
path_is = record {
  vertices = omega arith;
  size = omega arith;
  within = All-cons (IsEdge 4) (edge 1 2 5) (edge 2 3 2 ∷ []) (omega arith) (All-cons (IsEdge 4) (edge 2 3 2) [] (omega arith) (All-nil (IsEdge 4)));
  ascending = AllPairs-cons Precedes (edge 1 2 5) (edge 2 3 2 ∷ [])
      (All-cons (Precedes (edge 1 2 5)) (edge 2 3 2) [] (record { first = omega arith; second = λ e. omega (arith, e) }) (All-nil (Precedes (edge 1 2 5))))
      (AllPairs-cons Precedes (edge 2 3 2) [] (All-nil (Precedes (edge 2 3 2))) precedes_none);
  positive = All-cons (λ (e : Edge). 1 ≤ e.w) (edge 1 2 5) (edge 2 3 2 ∷ []) (omega arith) (All-cons (λ (e : Edge). 1 ≤ e.w) (edge 2 3 2) [] (omega arith) (All-nil (λ (e : Edge). 1 ≤ e.w)));
}

pub example_is : IsRun 4 path 2 part_of (λ r. state) lists lists
example_is = record {
  graph = path_is;
  weights = All-cons (λ (e : Edge). e.w ≤ MAX_WEIGHT) (edge 1 2 5) (edge 2 3 2 ∷ []) (omega arith) (All-cons (λ (e : Edge). e.w ≤ MAX_WEIGHT) (edge 2 3 2) [] (omega arith) (All-nil (λ (e : Edge). e.w ≤ MAX_WEIGHT)));
  far_enough = omega arith;
  divided = divided;
  whole = λ r s h other. refl;
  marked = record {
    rounds = 5;
    some_round = omega arith;
    marked = pairs (λ r s. marks (lists r s) ≡ 5) refl refl;
    last = pairs (λ r s. ends_with_mark (lists r s) ≡ true) refl refl;
    same_votes = pairs (λ r s. (other : ℕ) → IsOther r 2 other → votes_of (lists r s) ≡ votes_of (lists r other)) (λ other o. refl) (λ other o. refl);
  };
  kept = both_ranks (λ r. HasEndedOver 4 2 r lists lists (part_of r) state) kept_0 kept_1;
}
