-- A rank keeps its promise as it begins and when it handles a message.
use Rattle.std.proofs.Common.{◌≡◌, ◌≢◌, ◌==◌, ◌⊎◌, ℕ, zero, suc, ◌+◌, ◌-◌, ◌*◌, ◌/◌, ◌%◌, ◌<◌, ◌≤◌, true, List, [], ◌∷◌, ◌++◌, length, refl, sym, ◌∙◌, ap, subst, inl, inr, ⊎_elim, arith, Option, Some, None, All, AllPairs}
use Rattle.std.specs.Prelude.{min, nat_lt}
use Rattle.std.proofs.lemmas.Bool.{cases_eq, cases_lt, cases_Bool, eq-eqb, cond-true, cond-false, lt-ltb, le-ltb}
use Rattle.std.proofs.lemmas.List.Elements.{All-nil, All-weaker}
use Rattle.pg_dist.specs.BlockLaws.{owner_at}
use Rattle.pg_group.specs.declared.messages.Body.{Body}
use Rattle.pg_group.specs.declared.messages.Body.TheVariants.{Item}
use Rattle.pg_group.specs.declared.messages.Vote.{Vote}
use Rattle.pg_group.specs.Ranked.{IsOther, list_at, append_at}
use Rattle.pg_group.specs.Rolls.{IsZeros, voted}
use Rattle.pg_group.specs.Rounds.{marks, items_of_round, votes_of}
use Rattle.pg_group.specs.Supersteps.{nothing}
use Rattle.pg_group.proofs.RollLemmas.{marks-item, round-ended, length-append_at, list_at-append_same, list_at-append_else}
use Rattle.pg_boruvka.specs.declared.TheConstants.{NO_KEY}
use Rattle.pg_boruvka.specs.declared.messages.Hook.{Hook}
use Rattle.pg_boruvka.specs.declared.messages.Message.{Message}
use Rattle.pg_boruvka.specs.declared.messages.Message.TheVariants.{Piece as Keys}
use Rattle.pg_boruvka.specs.Parts.{Part}
use Rattle.pg_boruvka.specs.Winners.{own_key, winner, reducer, first_label, labels_of, least, given_keys, items_in, entry, piece_from, IsPieceOf}
use Rattle.pg_boruvka.specs.Hooks.{own_hooks, label_in}
use Rattle.pg_boruvka.specs.LocalDense.{State, AreCounted, AreSent, IsHookOf, IsPhase}
use Rattle.pg_boruvka.specs.Steps.{opening, OpeningKeeps, HandlingKeeps}
use Rattle.pg_boruvka.proofs.Agreeing.{AgreeBelow, winners_agree, own_hooks_agree, labels_agree, sound_agrees, chosen_agrees}

pub voted_most : (round : ℕ) (cast : Option Vote) → voted round cast ≤ round + 1
voted_most round None = omega arith
voted_most round (Some v) = omega arith

-- No item is sent in a round to come.
abbrev pub NoneLater : Part → List (List (Body Message)) → State → Type 0
NoneLater part sent s = (to k : ℕ) → IsOther part.rank part.ranks to → s.round < k → items_of_round k (list_at sent to) ≡ []

-- Of a round to come nothing is sent.
pub later_sent : (part : Part) (sent : List (List (Body Message))) (s : State) (k : ℕ) (Due : Message → Type 0) (to : ℕ) → NoneLater part sent s → IsOther part.rank part.ranks to → s.round < k
    → AreSent s k Due (list_at sent to)
later_sent part sent s k Due to none_later other late =
    let none = none_later to k other late in
    record {
      due = subst (λ (items : List Message). All Due items) (sym none) (All-nil Due);
      once = subst (λ (items : List Message). AllPairs (λ m o. m ≢ o) items) (sym none) (λ i j d l h. absurd (omega (arith, h)));
      all = λ h. absurd (omega (arith, voted_most s.round s.cast));
    }

-- Of a phase to come nothing is to be shown.
pub later_phase : (far : ℕ) (part : Part) (handled sent : List (List (Body Message))) (s : State) (p : ℕ) → NoneLater part sent s → s.round < 3 * p → IsPhase far part handled sent s p
later_phase far part handled sent s p none_later late = record {
  up = λ to other. later_sent part sent s (3 * p) (IsPieceOf (own_key part (label_in far part handled p)) (first_label part to) (labels_of part to)) to none_later other late;
  down = λ to other. later_sent part sent s (3 * p + 1) (IsPieceOf (winner part handled (label_in far part handled p) p) (first_label part part.rank) (labels_of part part.rank)) to none_later other (omega arith);
  hooks = λ to other. later_sent part sent s (3 * p + 2) (IsHookOf (own_hooks part handled (label_in far part handled p) p)) to none_later other (omega arith);
  labels = λ now. absurd (omega (arith, now.first));
  ascending = λ now. absurd (omega (arith, now.first));
  edges = λ now. absurd (omega (arith, now.first));
  ended = λ now. absurd (omega (arith, now.first));
  going = λ h. absurd (omega arith);
}

-- What was due by one measure is due by another.
sent_alike : (s : State) (k : ℕ) (Due Due' : Message → Type 0) (list : List (Body Message)) → ((m : Message) → Due m → Due' m) → ((m : Message) → Due' m → Due m) → AreSent s k Due list → AreSent s k Due' list
sent_alike s k Due Due' list there back are = record {
  due = All-weaker Due Due' there (items_of_round k list) are.due;
  once = are.once;
  all = λ h m due. are.all h m (back m due);
}

entry_same : (key key' : ℕ → ℕ) (past l : ℕ) → (l < past → key l ≡ key' l) → entry key past l ≡ entry key' past l
entry_same key key' past l same = ⊎_elim
    (λ h. cond-true (nat_lt l past) (key l) NO_KEY (lt-ltb l past h) ∙ (same h ∙ sym (cond-true (nat_lt l past) (key' l) NO_KEY (lt-ltb l past h))))
    (λ h. cond-false (nat_lt l past) (key l) NO_KEY (le-ltb l past h) ∙ sym (cond-false (nat_lt l past) (key' l) NO_KEY (le-ltb l past h)))
    (cases_lt l past)

pub pieces_same : (key key' : ℕ → ℕ) (past base : ℕ) → ((l : ℕ) → base ≤ l → l < past → key l ≡ key' l) → piece_from key past base ≡ piece_from key' past base
pieces_same key key' past base same = λ i. Keys (record {
  base = base;
  keys = entry_same key key' past base (same base (omega arith)) i ∷ entry_same key key' past (base + 1) (same (base + 1) (omega arith)) i
      ∷ entry_same key key' past (base + 2) (same (base + 2) (omega arith)) i ∷ entry_same key key' past (base + 3) (same (base + 3) (omega arith)) i
      ∷ entry_same key key' past (base + 4) (same (base + 4) (omega arith)) i ∷ entry_same key key' past (base + 5) (same (base + 5) (omega arith)) i
      ∷ entry_same key key' past (base + 6) (same (base + 6) (omega arith)) i ∷ entry_same key key' past (base + 7) (same (base + 7) (omega arith)) i ∷ [];
})

-- Keys that agree on a block give the same pieces of it.
block_pieces : (key key' : ℕ → ℕ) (first count : ℕ) → ((l : ℕ) → first ≤ l → l < first + count → key l ≡ key' l) → (m : Message) → IsPieceOf key first count m → IsPieceOf key' first count m
block_pieces key key' first count same m is =
    let below = is.below in
    record {
      offset = is.offset;
      below = is.below;
      used = λ e. is.used (same (first + is.offset) (omega arith) (omega (arith, below)) ∙ e);
      is = is.is ∙ pieces_same key key' (first + count) (first + is.offset / 8 * 8) (λ l low high. same l (omega (arith, low)) high);
    }

own_block : (part : Part) (l : ℕ) → first_label part part.rank ≤ l → l < first_label part part.rank + labels_of part part.rank → reducer part l ≡ part.rank
own_block part l low high =
    let first : ℕ = first_label part part.rank in
    let at : first + (l - first) ≡ l = omega arith in
    subst (λ (x : ℕ). reducer part x ≡ part.rank) at (owner_at (part.n / part.ranks) (part.n % part.ranks) part.rank (l - first) (omega arith))

module _ (far : ℕ) (part : Part) (handled others sent : List (List (Body Message))) (s : State) (reach : ℕ) (agree : AgreeBelow reach handled others) (within : s.round ≤ reach) (over : s.ended ≡ true → s.round < reach)
    (none_later : NoneLater part sent s) where
  reduced_same : (f : ℕ → ℕ) (p l : ℕ) → 3 * p < reach → first_label part part.rank ≤ l → l < first_label part part.rank + labels_of part part.rank → winner part handled f p l ≡ winner part others f p l
  reduced_same f p l early low high =
      let test : (reducer part l == part.rank) ≡ true = eq-eqb (reducer part l) part.rank (own_block part l low high) in
      cond-true (reducer part l == part.rank) (min (own_key part f l) (least (given_keys l (items_in (3 * p) handled)))) (least (given_keys l (items_in (3 * p + 1) handled))) test
      ∙ (ap (λ (x : List Message). min (own_key part f l) (least (given_keys l x))) (agree (3 * p) early)
      ∙ sym (cond-true (reducer part l == part.rank) (min (own_key part f l) (least (given_keys l (items_in (3 * p) others)))) (least (given_keys l (items_in (3 * p + 1) others))) test))

  module _ (p : ℕ) (begun : 3 * p ≤ s.round) (is : IsPhase far part handled sent s p) where
    labels : label_in far part handled p ≡ label_in far part others p
    labels = labels_agree far part handled others p (λ k h. agree k (omega arith))

    abbrev PiecesBy : (ℕ → ℕ) → Message → Type 0
    PiecesBy key m = IsPieceOf key (first_label part part.rank) (labels_of part part.rank) m

    down_kept : (to : ℕ) → IsOther part.rank part.ranks to → (s.round < 3 * p + 1) ⊎ (3 * p + 1 ≤ s.round)
        → AreSent s (3 * p + 1) (PiecesBy (winner part others (label_in far part others p) p)) (list_at sent to)
    down_kept to other (inl late) = later_sent part sent s (3 * p + 1) (PiecesBy (winner part others (label_in far part others p) p)) to none_later other late
    down_kept to other (inr early) =
        subst (λ (f : ℕ → ℕ). AreSent s (3 * p + 1) (PiecesBy (winner part others f p)) (list_at sent to)) labels
        (sent_alike s (3 * p + 1) (PiecesBy (winner part handled (label_in far part handled p) p)) (PiecesBy (winner part others (label_in far part handled p) p)) (list_at sent to)
        (block_pieces (winner part handled (label_in far part handled p) p) (winner part others (label_in far part handled p) p) (first_label part part.rank) (labels_of part part.rank)
        (λ l low high. reduced_same (label_in far part handled p) p l (omega arith) low high))
        (block_pieces (winner part others (label_in far part handled p) p) (winner part handled (label_in far part handled p) p) (first_label part part.rank) (labels_of part part.rank)
        (λ l low high. sym (reduced_same (label_in far part handled p) p l (omega arith) low high)))
        (is.down to other))

    winners : 3 * p + 2 ≤ reach → winner part handled (label_in far part handled p) p ≡ winner part others (label_in far part others p) p
    winners early =
        ap (λ (f : ℕ → ℕ). winner part handled f p) labels
        ∙ winners_agree far part handled others (label_in far part others p) p (agree (3 * p) (omega arith)) (agree (3 * p + 1) (omega arith))

    hooks_kept : (to : ℕ) → IsOther part.rank part.ranks to → (s.round < 3 * p + 2) ⊎ (3 * p + 2 ≤ s.round)
        → AreSent s (3 * p + 2) (IsHookOf (own_hooks part others (label_in far part others p) p)) (list_at sent to)
    hooks_kept to other (inl late) = later_sent part sent s (3 * p + 2) (IsHookOf (own_hooks part others (label_in far part others p) p)) to none_later other late
    hooks_kept to other (inr early) =
        subst (λ (x : List Hook). AreSent s (3 * p + 2) (IsHookOf x) (list_at sent to))
        (own_hooks_agree far part handled others (label_in far part others p) p (agree (3 * p) (omega arith)) (agree (3 * p + 1) (omega arith)))
        (subst (λ (f : ℕ → ℕ). AreSent s (3 * p + 2) (IsHookOf (own_hooks part handled f p)) (list_at sent to)) labels (is.hooks to other))

    pub phase_kept : IsPhase far part others sent s p
    phase_kept = record {
      up = λ to other. subst (λ (f : ℕ → ℕ). AreSent s (3 * p) (IsPieceOf (own_key part f) (first_label part to) (labels_of part to)) (list_at sent to)) labels (is.up to other);
      down = λ to other. down_kept to other (cases_lt s.round (3 * p + 1));
      hooks = λ to other. hooks_kept to other (cases_lt s.round (3 * p + 2));
      labels = λ now v h. is.labels now v h ∙ ap (λ (f : ℕ → ℕ). f v) labels;
      ascending = is.ascending;
      edges = λ now i. (
        λ c. chosen_agrees far part handled others p i (λ k h. agree k (omega arith)) ((is.edges now i).0 c),
        λ c. (is.edges now i).1 (chosen_agrees far part others handled p i (λ k h. sym (agree k (omega arith))) c),
      );
      ended = λ now end.
          let was = is.ended now end in
          (was.0, λ l h. subst (λ (w : ℕ → ℕ). w l ≡ NO_KEY) (winners (omega (arith, over end, was.0))) (was.1 l h));
      going = λ h none. is.going h (λ l v. subst (λ (w : ℕ → ℕ). w l ≡ NO_KEY) (sym (winners (omega arith))) (none l v));
    }

-- An item joins the list of one rank, and the rounds that have ended there are as they were.
items_kept : (k : ℕ) (lists : List (List (Body Message))) (from : ℕ) (m : Message) → k < marks (list_at lists from) → items_in k (append_at lists from (Item m)) ≡ items_in k lists
items_kept k [] from m h = refl
items_kept k (list ∷ lists) zero m h = ap (λ (x : List Message). x ++ items_in k lists) (round-ended k list m h)
items_kept k (list ∷ lists) (suc from) m h = ap (λ (x : List Message). items_of_round k list ++ x) (items_kept k lists from m h)

marks_kept : (lists : List (List (Body Message))) (from other : ℕ) (m : Message) → from < length lists → (other ≡ from) ⊎ (other ≢ from) → marks (list_at (append_at lists from (Item m)) other) ≡ marks (list_at lists other)
marks_kept lists from other m h (inl same) =
    subst (λ (i : ℕ). marks (list_at (append_at lists from (Item m)) i) ≡ marks (list_at lists i)) (sym same)
    (ap marks (list_at-append_same lists from (Item m) h) ∙ marks-item (list_at lists from) m)
marks_kept lists from other m h (inr apart) = ap marks (list_at-append_else lists from other (Item m) apart)

pub handling_keeps : HandlingKeeps
handling_keeps far part handled sent s from m other keeps =
    let was = keeps.counted in
    let more : List (List (Body Message)) = append_at handled from (Item m) in
    let here : from < length handled = omega (arith, other.0, was.from_each) in
    let reach : ℕ = marks (list_at handled from) in
    let agree : AgreeBelow reach handled more = λ k h. sym (items_kept k handled from m h) in
    let within : s.round ≤ reach = ⊎_elim (λ e. omega (arith, was.closed e from other)) (λ e. omega (arith, was.running e from other)) (cases_Bool s.ended) in
    let over : s.ended ≡ true → s.round < reach = λ e. omega (arith, was.closed e from other) in
    let counted : AreCounted part more sent s = record {
      from_each = length-append_at handled from (Item m) ∙ was.from_each;
      to_each = was.to_each;
      running = λ e r o. marks_kept handled from r m here (cases_eq r from) ∙ was.running e r o;
      closed = λ e r o. marks_kept handled from r m here (cases_eq r from) ∙ was.closed e r o;
      given = was.given;
      zeros = was.zeros;
      later = was.later;
    } in
    record {
      counted = counted;
      phase = λ p sound. ⊎_elim
          (λ late. later_phase far part more sent s p counted.later late)
          (λ begun. phase_kept far part handled more sent s reach agree within over counted.later p begun
          (keeps.phase p (λ q below. sound_agrees far part more handled q (λ k h. sym (agree k (omega arith))) (sound q below))))
          (cases_lt s.round (3 * p));
    }

pub none_at : (n r : ℕ) → list_at (nothing {B = Message} n) r ≡ []
none_at zero r = refl
none_at (suc n) zero = refl
none_at (suc n) (suc r) = none_at n r

length-nothing : (n : ℕ) → length (nothing {B = Message} n) ≡ n
length-nothing zero = refl
length-nothing (suc n) = ap suc (length-nothing n)

none_sent : (n k : ℕ) (Due : Message → Type 0) (to : ℕ) → AreSent opening k Due (list_at (nothing n) to)
none_sent n k Due to =
    subst (λ (list : List (Body Message)). AreSent opening k Due list) (sym (none_at n to)) (record {
      due = All-nil Due;
      once = λ i j d l h. absurd (omega (arith, h));
      all = λ h. absurd (omega arith);
    })

pub opening_keeps : OpeningKeeps
opening_keeps far part =
    let counted : AreCounted part (nothing part.ranks) (nothing part.ranks) opening = record {
      from_each = length-nothing part.ranks;
      to_each = length-nothing part.ranks;
      running = λ e r o. ap marks (none_at part.ranks r);
      closed = λ e. cc;
      given = λ r o. ap marks (none_at part.ranks r);
      zeros = λ r o. subst (λ (list : List (Body Message)). All IsZeros (votes_of list)) (sym (none_at part.ranks r)) (All-nil IsZeros);
      later = λ r k o h. ap (items_of_round k) (none_at part.ranks r);
    } in
    record {
      counted = counted;
      phase = λ p sound. ⊎_elim
          (λ first. subst (λ (q : ℕ). IsPhase far part (nothing part.ranks) (nothing part.ranks) opening q) (sym first) (record {
            up = λ to other. none_sent part.ranks 0 (IsPieceOf (own_key part (label_in far part (nothing part.ranks) 0)) (first_label part to) (labels_of part to)) to;
            down = λ to other. none_sent part.ranks 1 (IsPieceOf (winner part (nothing part.ranks) (label_in far part (nothing part.ranks) 0) 0) (first_label part part.rank) (labels_of part part.rank)) to;
            hooks = λ to other. none_sent part.ranks 2 (IsHookOf (own_hooks part (nothing part.ranks) (label_in far part (nothing part.ranks) 0) 0)) to;
            labels = λ now v h. refl;
            ascending = λ now i j d l h. absurd (omega (arith, h));
            edges = λ now i. (λ c. absurd (omega (arith, c.1)), λ c. absurd (omega (arith, c.before)));
            ended = λ now e. cc;
            going = λ h. absurd (omega (arith, h));
          }))
          (λ apart. later_phase far part (nothing part.ranks) (nothing part.ranks) opening p counted.later (omega arith))
          (cases_eq p 0);
    }
