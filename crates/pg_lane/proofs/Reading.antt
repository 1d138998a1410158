-- The reader's steps: it looks how many were sent, it receives, and it lets its slot go.
use Rattle.std.proofs.Common.{◌≡◌, ℕ, zero, suc, ◌+◌, ◌-◌, ◌%◌, ◌^◌, ◌≤◌, true, false, List, [], ◌∷◌, ◌++◌, length, get_or, set, sym, refl, ap, ◌∙◌, subst, append_assoc, length-append, length-set, get_or-set_same, get_or-set_other, arith}
use mathlib.Core.Option.{none, some}
use native.Mathlib.Nat.{mod-add-mod}
use lib.ListN.{get_elem?}
use Rattle.std.proofs.lemmas.List.{set-get_or}
use Rattle.std.specs.Prelude.{Option, Some, None}
use Rattle.atomic_table.specs.Table.{step, keeps, takes, gives, chain, Allows}
use Rattle.pg_lane.specs.declared.rules.Knows.{Knows}
use Rattle.pg_lane.specs.Ring.{one, knows, listed, held, Homes, Lies, Clear, Ring, Seated, full_slot, saw_sent, receives, lets_go}
use Rattle.pg_lane.proofs.Places.{two_slots, lies_set, lies_next, lies_back, clear_set, clear_more, with_hand}
use Rattle.pg_lane.proofs.Moves.{Board, Goes, reader_moves}

module _ {M : Type 0} (s : Board M) (r : Ring s) (id : ℕ) (v : Knows M) (at : get_elem? s.views id ≡ some v) (reads : v.reads ≡ true) (writes : v.writes ≡ false) where
  abbrev N : ℕ
  N = length s.homes

  abbrev T : ℕ
  T = length r.taken

  abbrev L : ℕ
  L = length r.sent

  same_length : length v.taken ≡ T
  same_length = ap length ((r.known id v at).1 reads).1

  -- what is sent and not taken, where the hand is known
  long : (hand : Option M) → r.hand ≡ hand → L ≡ T + held hand + length r.queue
  long hand is =
      let a : L ≡ T + length (listed r.hand ++ r.queue) = ap length r.in_order ∙ length-append r.taken (listed r.hand ++ r.queue) in
      let b = with_hand r.hand r.queue in
      let c : held r.hand ≡ held hand = ap held is in omega arith

  my_hand : (hand : Option M) → v.hand ≡ hand → r.hand ≡ hand
  my_hand hand is = sym ((r.known id v at).1 reads).2 ∙ is

  still : (k j : ℕ) → get_or (set s.words k (get_or s.words k 0)) j 0 ≡ get_or s.words j 0
  still k j = ap (λ (ws : List ℕ). get_or ws j 0) (set-get_or s.words k 0)

  -- the homes where the reader takes the next message, if there is one
  abbrev lifted : Option M → ℕ → Homes M → Homes M
  lifted None k homes = homes
  lifted (Some x) k homes = set homes k none

  length_lifted : (hand : Option M) (k : ℕ) (homes : Homes M) → length (lifted hand k homes) ≡ length homes
  length_lifted None k homes = refl
  length_lifted (Some x) k homes = length-set homes k none

  lies_lifted : (hand : Option M) (homes : Homes M) (first : ℕ) (queue : List M) → held hand + length queue ≤ N
      → Lies N homes first (listed hand ++ queue) → Lies N (lifted hand (first % N) homes) (first + held hand) queue
  lies_lifted None homes first queue room lies = let is : first ≡ first + 0 = omega arith in subst (λ (z : ℕ). Lies N homes z queue) is lies
  lies_lifted (Some x) homes first queue room lies =
      lies_set N homes (first + 1) first queue none (lies_next N homes first x queue lies) (λ p a b. two_slots N first p (omega arith) (omega arith))

  clear_lifted : (hand : Option M) (homes : Homes M) (first low high : ℕ) → first + held hand ≤ low → high ≤ first + N
      → Clear N homes low high → Clear N (lifted hand (first % N) homes) low high
  clear_lifted None homes first low high a b clear = clear
  clear_lifted (Some x) homes first low high a b clear = clear_set N homes low high first none clear (λ p c d. two_slots N first p (omega arith) (omega arith))

  abbrev looked : Option M → Knows M
  looked hand = knows v.writes v.reads v.sent v.room v.taken hand (v.looks + 1) L

  look_keeps : (hand : Option M) (queue : List M) → v.hand ≡ None → r.queue ≡ listed hand ++ queue
      → Ring record { words = set s.words 16 (get_or s.words 16 0); homes = lifted hand (T % N) s.homes; views = set s.views id (looked hand) }
  look_keeps hand queue empty is =
      let mine = (r.known id v at).1 reads in
      let bare : r.hand ≡ None = my_hand None empty in
      let within : L + r.room ≤ T + N = r.within in
      let all : L ≡ T + 0 + length r.queue = long None bare in
      let split : length r.queue ≡ held hand + length queue = ap length is ∙ with_hand hand queue in
      let at_T : T + 0 ≡ T = omega arith in
      let lies : Lies N s.homes T (listed hand ++ queue) =
      subst (λ (q : List M). Lies N s.homes T q) is (subst (λ (z : ℕ). Lies N s.homes z r.queue) (ap (λ (h : Option M). T + held h) bare ∙ at_T) r.lies) in
      let order : r.sent ≡ r.taken ++ (listed hand ++ queue) = r.in_order ∙ (ap (λ (h : Option M). r.taken ++ (listed h ++ r.queue)) bare ∙ ap (λ (q : List M). r.taken ++ q) is) in
      reader_moves s r 16 (get_or s.words 16 0) id v (looked hand) r.taken hand queue (lifted hand (T % N) s.homes) at reads writes mine.1 refl (omega arith)
      (still 16 0 ∙ r.head_is) (still 16 16 ∙ r.tail_is) (length_lifted hand (T % N) s.homes) order (omega arith)
      (lies_lifted hand s.homes T queue (omega arith) lies)
      (clear_lifted hand s.homes T (L + one r.room) (T + N) (omega arith) (omega arith) r.clear)

  look_goes : (queue : List M) → v.hand ≡ None → r.queue ≡ queue → Goes s 16 id (v, []) (saw_sent (step N 16 0 0 none) (v, [])) (get_or s.words 16 0)
  look_goes [] empty is =
      let same = same_length in
      let within : L + r.room ≤ T + N = r.within in
      let all : L ≡ T + 0 + length r.queue = long None (my_hand None empty) in
      let none_left : length r.queue ≡ 0 = ap length is in
      let gap : 0 ≡ L - length v.taken = omega arith in (
        looked None,
        keeps,
        tt,
        look_keeps None [] empty is,
        (
          r.tail_is,
          refl,
          (let a : length v.taken ≤ L = omega arith in a),
          (let b : L ≤ length v.taken + N = omega arith in b),
          ap one gap,
          refl,
          refl,
        ),
      )
  look_goes (x ∷ queue) empty is =
      let same = same_length in
      let within : L + r.room ≤ T + N = r.within in
      let bare : r.hand ≡ None = my_hand None empty in
      let all : L ≡ T + 0 + length r.queue = long None bare in
      let some_left : length r.queue ≡ suc (length queue) = ap length is in
      let gap : suc (length queue) ≡ L - length v.taken = omega arith in
      let at_T : T + 0 + 0 ≡ T = omega arith in
      let here : get_elem? s.homes (T % N) ≡ some (some (Some x)) =
      ap (λ (z : ℕ). get_elem? s.homes (z % N)) (sym at_T) ∙ subst (λ (h : Option M). Lies N s.homes (T + held h) r.queue) bare r.lies 0 x (ap (λ (q : List M). get_elem? q 0) is) in (
        looked (Some x),
        takes (T % N) (Some x),
        here,
        look_keeps (Some x) queue empty is,
        (
          r.tail_is,
          refl,
          (let a : length v.taken ≤ L = omega arith in a),
          (let b : L ≤ length v.taken + N = omega arith in b),
          ap one gap,
          refl,
          ap (λ (n : ℕ). (n % N, Some x) ∷ []) (sym same),
        ),
      )

  abbrev received : M → Option M → Knows M
  received x hand = knows v.writes v.reads v.sent v.room (v.taken ++ listed v.hand) hand v.looks v.shown

  abbrev returned : M → Homes M
  returned x = set s.homes (T % N) (some (Some x))

  lies_returned : (x : M) → v.hand ≡ Some x → Lies N (returned x) (T + 1) r.queue
  lies_returned x has =
      let full : r.hand ≡ Some x = my_hand (Some x) has in
      let within : L + r.room ≤ T + N = r.within in
      let all : L ≡ T + held (Some x) + length r.queue = long (Some x) full in
      lies_set N s.homes (T + 1) T r.queue (some (Some x)) (subst (λ (h : Option M). Lies N s.homes (T + held h) r.queue) full r.lies)
      (λ p a b. two_slots N T p (omega arith) (omega arith))

  receive_keeps : (x : M) (hand : Option M) (queue : List M) → v.hand ≡ Some x → r.queue ≡ listed hand ++ queue
      → Ring record { words = set s.words 0 ((get_or s.words 0 0 + 1) % 2 ^ 64); homes = lifted hand ((T + 1) % N) (returned x); views = set s.views id (received x hand) }
  receive_keeps x hand queue has is =
      let mine = (r.known id v at).1 reads in
      let new : ℕ = (get_or s.words 0 0 + 1) % 2 ^ 64 in
      let wide : length s.words ≡ 17 = r.wide in
      let some_slot : 1 ≤ N = r.some_slot in
      let full : r.hand ≡ Some x = my_hand (Some x) has in
      let within : L + r.room ≤ T + N = r.within in
      let all : L ≡ T + held (Some x) + length r.queue = long (Some x) full in
      let split : length r.queue ≡ held hand + length queue = ap length is ∙ with_hand hand queue in
      let longer : length (r.taken ++ x ∷ []) ≡ T + 1 = length-append r.taken (x ∷ []) in
      let seen : v.shown ≤ L = mine.3 in
      let clear : Clear N (returned x) (L + one r.room) (T + 1 + N) = clear_more N s.homes (L + one r.room) T (Some x) (omega arith) refl (omega arith) r.clear in
      let lies : Lies N (returned x) (T + 1) (listed hand ++ queue) = subst (λ (q : List M). Lies N (returned x) (T + 1) q) is (lies_returned x has) in
      let head : get_or (set s.words 0 new) 0 0 ≡ length (r.taken ++ x ∷ []) % 2 ^ 64 =
      get_or-set_same s.words 0 new 0 (omega arith)
      ∙ (ap (λ (z : ℕ). (z + 1) % 2 ^ 64) r.head_is ∙ (mod-add-mod T (2 ^ 64) 1 ∙ ap (λ (z : ℕ). z % 2 ^ 64) (sym longer))) in
      let order : r.sent ≡ (r.taken ++ x ∷ []) ++ (listed hand ++ queue) =
      r.in_order ∙ (ap (λ (h : Option M). r.taken ++ (listed h ++ r.queue)) full
      ∙ (ap (λ (q : List M). r.taken ++ (x ∷ q)) is ∙ sym (append_assoc r.taken (x ∷ []) (listed hand ++ queue)))) in
      let after : (v.taken ++ listed v.hand) ≡ r.taken ++ x ∷ [] = ap (λ (l : List M). l ++ listed v.hand) mine.1 ∙ ap (λ (h : Option M). r.taken ++ listed h) has in
      reader_moves s r 0 new id v (received x hand) (r.taken ++ x ∷ []) hand queue (lifted hand ((T + 1) % N) (returned x)) at reads writes after refl seen
      head (get_or-set_other s.words 0 16 new 0 (λ e. omega arith) ∙ r.tail_is)
      (length_lifted hand ((T + 1) % N) (returned x) ∙ length-set s.homes (T % N) (some (Some x))) order (omega arith)
      (subst (λ (z : ℕ). Lies N (lifted hand ((T + 1) % N) (returned x)) (z + held hand) queue) (sym longer) (lies_lifted hand (returned x) (T + 1) queue (omega arith) lies))
      (subst (λ (z : ℕ). Clear N (lifted hand ((T + 1) % N) (returned x)) (L + one r.room) (z + N)) (sym longer)
      (clear_lifted hand (returned x) (T + 1) (L + one r.room) (T + 1 + N) (omega arith) (omega arith) clear))

  abbrev Receives : M → Type 0
  Receives x = Goes s 0 id (v, (T % N, Some x) ∷ []) (receives (step N 0 1 0 none) (v, (T % N, Some x) ∷ [])) ((get_or s.words 0 0 + 1) % 2 ^ 64)

  receive_goes : (x : M) (more : ℕ) (queue : List M) → v.hand ≡ Some x → v.shown - (length v.taken + 1) ≡ more → r.queue ≡ queue → Receives x
  receive_goes x zero queue has known is =
      (received x None, gives, tt, receive_keeps x None queue has is, (refl, ap one (sym known), refl))
  receive_goes x (suc more) [] has known is =
      let same = same_length in
      let seen : v.shown ≤ L = ((r.known id v at).1 reads).3 in
      let all : L ≡ T + held (Some x) + length r.queue = long (Some x) (my_hand (Some x) has) in
      let none_left : length r.queue ≡ 0 = ap length is in
      absurd (omega arith)
  receive_goes x (suc more) (y ∷ queue) has known is =
      let at_next : T + 1 + 0 ≡ T + 1 = omega arith in
      let here : get_elem? (returned x) ((T + 1) % N) ≡ some (some (Some y)) =
      ap (λ (z : ℕ). get_elem? (returned x) (z % N)) (sym at_next) ∙ lies_returned x has 0 y (ap (λ (q : List M). get_elem? q 0) is) in (
        received x (Some y),
        chain gives (takes ((T + 1) % N) (Some y)),
        (tt, here),
        receive_keeps x (Some y) queue has is,
        (refl, ap one (sym known), ap (λ (n : ℕ). ((n + 1) % N, Some y) ∷ []) (sym same_length)),
      )

  abbrev let_go : Knows M
  let_go = knows v.writes v.reads v.sent v.room v.taken None v.looks v.shown

  let_go_goes : (hand : Option M) → v.hand ≡ hand
      → Goes s 0 id (v, full_slot hand (T % N)) (lets_go (step N 0 0 0 none) (v, full_slot hand (T % N))) (get_or s.words 0 0)
  let_go_goes None is =
      let mine = (r.known id v at).1 reads in
      let bare : r.hand ≡ None = my_hand None is in
      let seen : v.shown ≤ L = mine.3 in (
        let_go,
        keeps,
        tt,
        reader_moves s r 0 (get_or s.words 0 0) id v let_go r.taken None r.queue s.homes at reads writes mine.1 refl seen (still 0 0 ∙ r.head_is) (still 0 16 ∙ r.tail_is) refl
            (subst (λ (h : Option M). r.sent ≡ r.taken ++ (listed h ++ r.queue)) bare r.in_order) (omega arith)
            (subst (λ (h : Option M). Lies N s.homes (T + held h) r.queue) bare r.lies) r.clear,
        (refl, refl),
      )
  let_go_goes (Some x) is =
      let mine = (r.known id v at).1 reads in
      let full : r.hand ≡ Some x = my_hand (Some x) is in
      let seen : v.shown ≤ L = mine.3 in
      let some_slot : 1 ≤ N = r.some_slot in
      let within : L + r.room ≤ T + N = r.within in
      let all : L ≡ T + held (Some x) + length r.queue = long (Some x) full in
      let at_T : T ≡ T + 0 = omega arith in
      let back : Homes M = set s.homes (T % N) (some (Some x)) in
      let lies : Lies N back T (x ∷ r.queue) =
      lies_back N s.homes T x r.queue (omega arith) refl (omega arith) (subst (λ (h : Option M). Lies N s.homes (T + held h) r.queue) full r.lies) in (
        let_go,
        gives,
        tt,
        reader_moves s r 0 (get_or s.words 0 0) id v let_go r.taken None (x ∷ r.queue) back at reads writes mine.1 refl seen (still 0 0 ∙ r.head_is) (still 0 16 ∙ r.tail_is)
            (length-set s.homes (T % N) (some (Some x))) (subst (λ (h : Option M). r.sent ≡ r.taken ++ (listed h ++ r.queue)) full r.in_order) (omega arith)
            (subst (λ (z : ℕ). Lies N back z (x ∷ r.queue)) at_T lies)
            (clear_set N s.homes (L + one r.room) (T + N) T (some (Some x)) r.clear (λ p a b. two_slots N T p (omega arith) (omega arith))),
        (refl, refl),
      )

module _ {M : Type 0} where
  -- the reader, which has no slot, looks
  pub sees_sent : (n id : ℕ) (me : Seated M) → me.0.reads ≡ true → me.0.writes ≡ false → me.0.hand ≡ None → me.1 ≡ []
      → Allows Ring n id me 16 (λ x. x) (saw_sent (step n 16 0 0 none) me)
  sees_sent n id me reads writes empty bare s r size at _ =
      let v : Knows M = me.0 in
      subst (λ (m : ℕ). Goes s 16 id me (saw_sent (step m 16 0 0 none) me) (get_or s.words 16 0)) size
      (subst (λ (c : List (ℕ × Option M)). Goes s 16 id (v, c) (saw_sent (step (length s.homes) 16 0 0 none) (v, c)) (get_or s.words 16 0)) (sym bare)
      (look_goes s r id v at reads writes r.queue empty refl))

  -- the slot of the reader's next place, by its own view
  my_slot : (s : Board M) (r : Ring s) (n id k : ℕ) (v : Knows M) → length s.homes ≡ n → get_elem? s.views id ≡ some v → v.reads ≡ true
      → k ≡ length v.taken % n → k ≡ length r.taken % length s.homes
  my_slot s r n id k v size at reads slot =
      slot ∙ (ap (λ (m : ℕ). length v.taken % m) (sym size) ∙ ap (λ (l : List M). length l % length s.homes) ((r.known id v at).1 reads).1)

  -- the reader, which has read its slot, receives
  pub receives_one : (n id : ℕ) (me : Seated M) (k : ℕ) (x : M) → me.0.reads ≡ true → me.0.writes ≡ false → me.0.hand ≡ Some x → k ≡ length me.0.taken % n → me.1 ≡ (k, Some x) ∷ []
      → Allows Ring n id me 0 (λ y. (y + 1) % 2 ^ 64) (receives (step n 0 1 0 none) me)
  receives_one n id me k x reads writes has slot full s r size at _ =
      let v : Knows M = me.0 in
      let new : ℕ = (get_or s.words 0 0 + 1) % 2 ^ 64 in
      let is : me.1 ≡ (length r.taken % length s.homes, Some x) ∷ [] = full ∙ ap (λ (m : ℕ). (m, Some x) ∷ []) (my_slot s r n id k v size at reads slot) in
      subst (λ (m : ℕ). Goes s 0 id me (receives (step m 0 1 0 none) me) new) size
      (subst (λ (c : List (ℕ × Option M)). Goes s 0 id (v, c) (receives (step (length s.homes) 0 1 0 none) (v, c)) new) (sym is)
      (receive_goes s r id v at reads writes x (v.shown - (length v.taken + 1)) r.queue has refl refl))

  -- the reader gives back the slot that it may have
  pub lets_one_go : (n id : ℕ) (me : Seated M) (k : ℕ) → me.0.reads ≡ true → me.0.writes ≡ false → k ≡ length me.0.taken % n → me.1 ≡ full_slot me.0.hand k
      → Allows Ring n id me 0 (λ y. y) (lets_go (step n 0 0 0 none) me)
  lets_one_go n id me k reads writes slot has s r size at _ =
      let v : Knows M = me.0 in
      let is : me.1 ≡ full_slot v.hand (length r.taken % length s.homes) = has ∙ ap (λ (m : ℕ). full_slot v.hand m) (my_slot s r n id k v size at reads slot) in
      subst (λ (m : ℕ). Goes s 0 id me (lets_go (step m 0 0 0 none) me) (get_or s.words 0 0)) size
      (subst (λ (c : List (ℕ × Option M)). Goes s 0 id (v, c) (lets_go (step (length s.homes) 0 0 0 none) (v, c)) (get_or s.words 0 0)) (sym is)
      (let_go_goes s r id v at reads writes v.hand refl))
