-- The writer's steps: it looks how many were taken, and it sends.
use Rattle.std.proofs.Common.{◌≡◌, ℕ, zero, suc, ◌+◌, ◌-◌, ◌%◌, ◌^◌, ◌≤◌, true, false, List, [], ◌∷◌, ◌++◌, length, get_or, set, sym, refl, ap, ◌∙◌, subst, append_assoc, length-append, length-set, get_or-set_same, get_or-set_other, arith}
use mathlib.Core.Option.{none, some}
use native.Mathlib.Nat.{mod-add-mod}
use lib.ListN.{get_elem?}
use Rattle.std.proofs.lemmas.List.{set-get_or}
use Rattle.std.specs.Prelude.{Option, Some, None}
use Rattle.atomic_table.specs.Table.{step, keeps, takes, gives, chain, Allows}
use Rattle.pg_lane.specs.declared.rules.Knows.{Knows}
use Rattle.pg_lane.specs.Ring.{one, knows, listed, held, Homes, Lies, Clear, Ring, Seated, free_slot, saw_taken, sends}
use Rattle.pg_lane.proofs.Places.{two_slots, lies_more, clear_set, with_hand, cleared, length_cleared, lies_cleared, clear_cleared}
use Rattle.pg_lane.proofs.Moves.{Board, Goes, writer_moves}

module _ {M : Type 0} (s : Board M) (r : Ring s) (id : ℕ) (v : Knows M) (at : get_elem? s.views id ≡ some v) (writes : v.writes ≡ true) (reads : v.reads ≡ false) where
  abbrev N : ℕ
  N = length s.homes

  abbrev T : ℕ
  T = length r.taken

  abbrev L : ℕ
  L = length r.sent

  long : L ≡ T + held r.hand + length r.queue
  long =
      let a : L ≡ T + length (listed r.hand ++ r.queue) = ap length r.in_order ∙ length-append r.taken (listed r.hand ++ r.queue) in
      let b = with_hand r.hand r.queue in omega arith

  abbrev looked : ℕ → Knows M
  looked room = knows v.writes v.reads v.sent room v.taken v.hand (v.looks + 1) T

  still : (j : ℕ) → get_or (set s.words 0 (get_or s.words 0 0)) j 0 ≡ get_or s.words j 0
  still j = ap (λ (ws : List ℕ). get_or ws j 0) (set-get_or s.words 0 0)

  look_keeps : (room : ℕ) → v.room ≡ 0 → L + room ≡ T + N
      → Ring record { words = set s.words 0 (get_or s.words 0 0); homes = cleared room (L % N) s.homes; views = set s.views id (looked room) }
  look_keeps room empty is =
      let mine = (r.known id v at).0 writes in
      let none_held : r.room ≡ 0 = sym mine.2 ∙ empty in
      let clear : Clear N s.homes (L + 0) (T + N) = subst (λ (z : ℕ). Clear N s.homes (L + one z) (T + N)) none_held r.clear in
      let at_L : L + 0 ≡ L = omega arith in
      let all = long in
      writer_moves s r 0 (get_or s.words 0 0) id v (looked room) r.sent room r.queue (cleared room (L % N) s.homes) at writes reads mine.1 refl (omega arith)
      (still 0 ∙ r.head_is) (still 16 ∙ r.tail_is) (length_cleared room (L % N) s.homes) r.in_order (omega arith) (omega arith)
      (lies_cleared N room s.homes (T + held r.hand) L r.queue r.lies (omega arith) (omega arith))
      (clear_cleared N room s.homes L (T + N) (omega arith) (subst (λ (z : ℕ). Clear N s.homes z (T + N)) at_L clear))

  same_length : length v.sent ≡ L
  same_length = ap length ((r.known id v at).0 writes).1

  look_goes : (room : ℕ) → v.room ≡ 0 → L + room ≡ T + N → Goes s 0 id (v, []) (saw_taken (step N 0 0 0 none) (v, [])) (get_or s.words 0 0)
  look_goes zero empty is =
      let same = same_length in
      let all = long in
      (looked 0, keeps, tt, look_keeps 0 empty is, (r.head_is, refl, (let a : T ≤ length v.sent = omega arith in a), (let b : length v.sent + 0 ≡ T + N = omega arith in b), refl, refl))
  look_goes (suc room) empty is =
      let same = same_length in
      let all = long in
      let none_held : r.room ≡ 0 = sym ((r.known id v at).0 writes).2 ∙ empty in
      let from : L + one r.room ≤ L = subst (λ (z : ℕ). L + one z ≤ L) (sym none_held) (let a : L + 0 ≤ L = omega arith in a) in (
        looked (suc room),
        takes (L % N) (r.clear L from (omega arith)).0,
        (r.clear L from (omega arith)).1,
        look_keeps (suc room) empty is,
        (
          r.head_is,
          refl,
          (let a : T ≤ length v.sent = omega arith in a),
          (let b : length v.sent + suc room ≡ T + N = omega arith in b),
          refl,
          ap (λ (n : ℕ). (n % N, (r.clear L from (omega arith)).0) ∷ []) (sym same),
        ),
      )

  abbrev sent_one : M → Knows M
  sent_one x = knows v.writes v.reads (v.sent ++ x ∷ []) (v.room - 1) v.taken v.hand v.looks v.shown

  abbrev filled : M → Homes M
  filled x = set s.homes (L % N) (some (Some x))

  send_keeps : (x : M) (room : ℕ) → v.room ≡ suc room
      → Ring record { words = set s.words 16 ((get_or s.words 16 0 + 1) % 2 ^ 64); homes = cleared room ((L + 1) % N) (filled x); views = set s.views id (sent_one x) }
  send_keeps x room has =
      let mine = (r.known id v at).0 writes in
      let new : ℕ = (get_or s.words 16 0 + 1) % 2 ^ 64 in
      let wide : length s.words ≡ 17 = r.wide in
      let held_one : r.room ≡ suc room = sym mine.2 ∙ has in
      let within : L + r.room ≤ T + N = r.within in
      let clear : Clear N s.homes (L + 1) (T + N) = subst (λ (z : ℕ). Clear N s.homes (L + one z) (T + N)) held_one r.clear in
      let all = long in
      let longer : length (r.sent ++ x ∷ []) ≡ L + 1 = length-append r.sent (x ∷ []) in
      let fewer : v.room - 1 ≡ room = omega arith in
      let some_slot : 1 ≤ N = r.some_slot in
      let lies' : Lies N (filled x) (T + held r.hand) (r.queue ++ x ∷ []) = lies_more N s.homes (T + held r.hand) L x r.queue (omega arith) refl all (omega arith) r.lies in
      let size : length (r.queue ++ x ∷ []) ≡ length r.queue + 1 = length-append r.queue (x ∷ []) in
      let clear' : Clear N (filled x) (L + 1) (T + N) = clear_set N s.homes (L + 1) (T + N) L (some (Some x)) clear (λ p a b. two_slots N L p (omega arith) (omega arith)) in
      let tail : get_or (set s.words 16 new) 16 0 ≡ length (r.sent ++ x ∷ []) % 2 ^ 64 =
      get_or-set_same s.words 16 new 0 (omega arith)
      ∙ (ap (λ (z : ℕ). (z + 1) % 2 ^ 64) r.tail_is ∙ (mod-add-mod L (2 ^ 64) 1 ∙ ap (λ (z : ℕ). z % 2 ^ 64) (sym longer))) in
      let order : r.sent ++ x ∷ [] ≡ r.taken ++ (listed r.hand ++ (r.queue ++ x ∷ [])) =
      ap (λ (l : List M). l ++ x ∷ []) r.in_order ∙ (append_assoc r.taken (listed r.hand ++ r.queue) (x ∷ [])
      ∙ ap (λ (l : List M). r.taken ++ l) (append_assoc (listed r.hand) r.queue (x ∷ []))) in
      writer_moves s r 16 new id v (sent_one x) (r.sent ++ x ∷ []) room (r.queue ++ x ∷ []) (cleared room ((L + 1) % N) (filled x)) at writes reads
      (ap (λ (l : List M). l ++ x ∷ []) mine.1) fewer mine.3
      (get_or-set_other s.words 16 0 new 0 (λ e. omega arith) ∙ r.head_is) tail
      (length_cleared room ((L + 1) % N) (filled x) ∙ length-set s.homes (L % N) (some (Some x))) order (omega arith) (omega arith)
      (lies_cleared N room (filled x) (T + held r.hand) (L + 1) (r.queue ++ x ∷ []) lies' (omega arith) (omega arith))
      (subst (λ (z : ℕ). Clear N (cleared room ((L + 1) % N) (filled x)) (z + one room) (T + N)) (sym longer)
      (clear_cleared N room (filled x) (L + 1) (T + N) (omega arith) clear'))

  next_clear : (x : M) (room : ℕ) → v.room ≡ suc (suc room) → (y : Option M) × (get_elem? (filled x) ((L + 1) % N) ≡ some (some y))
  next_clear x room has =
      let mine = (r.known id v at).0 writes in
      let held_one : r.room ≡ suc (suc room) = sym mine.2 ∙ has in
      let within : L + r.room ≤ T + N = r.within in
      let clear : Clear N s.homes (L + 1) (T + N) = subst (λ (z : ℕ). Clear N s.homes (L + one z) (T + N)) held_one r.clear in
      let all = long in
      clear_set N s.homes (L + 1) (T + N) L (some (Some x)) clear (λ p a b. two_slots N L p (omega arith) (omega arith)) (L + 1) (omega arith) (omega arith)

  send_goes : (x : M) (room : ℕ) → v.room ≡ suc room
      → Goes s 16 id (v, (L % N, Some x) ∷ []) (sends (step N 16 1 0 none) (v, (L % N, Some x) ∷ [])) ((get_or s.words 16 0 + 1) % 2 ^ 64)
  send_goes x zero has =
      let fewer : v.room - 1 ≡ 0 = omega arith in
      (sent_one x, gives, tt, send_keeps x 0 has, (refl, ap (λ (z : ℕ). free_slot z ((length v.sent + 1) % N) None) (sym fewer)))
  send_goes x (suc room) has =
      let fewer : v.room - 1 ≡ suc room = omega arith in (
        sent_one x,
        chain gives (takes ((L + 1) % N) (next_clear x room has).0),
        (tt, (next_clear x room has).1),
        send_keeps x (suc room) has,
        (refl, ap (λ (n : ℕ). ((n + 1) % N, (next_clear x room has).0) ∷ []) (sym same_length) ∙ ap (λ (z : ℕ). free_slot z ((length v.sent + 1) % N) (next_clear x room has).0) (sym fewer)),
      )

module _ {M : Type 0} where
  -- the writer, which has no slot, looks
  pub sees_taken : (n id : ℕ) (me : Seated M) → me.0.writes ≡ true → me.0.reads ≡ false → me.0.room ≡ 0 → me.1 ≡ []
      → Allows Ring n id me 0 (λ x. x) (saw_taken (step n 0 0 0 none) me)
  sees_taken n id me writes reads empty bare s r size at _ =
      let v : Knows M = me.0 in
      let within : length r.sent + r.room ≤ length r.taken + length s.homes = r.within in
      let room : ℕ = length r.taken + length s.homes - length r.sent in
      let is : length r.sent + room ≡ length r.taken + length s.homes = omega arith in
      subst (λ (m : ℕ). Goes s 0 id me (saw_taken (step m 0 0 0 none) me) (get_or s.words 0 0)) size
      (subst (λ (c : List (ℕ × Option M)). Goes s 0 id (v, c) (saw_taken (step (length s.homes) 0 0 0 none) (v, c)) (get_or s.words 0 0)) (sym bare)
      (look_goes s r id v at writes reads room empty is))

  -- the writer, whose slot it has filled, sends
  pub sends_one : (n id : ℕ) (me : Seated M) (k : ℕ) (x : M) → me.0.writes ≡ true → me.0.reads ≡ false → 1 ≤ me.0.room → k ≡ length me.0.sent % n → me.1 ≡ (k, Some x) ∷ []
      → Allows Ring n id me 16 (λ y. (y + 1) % 2 ^ 64) (sends (step n 16 1 0 none) me)
  sends_one n id me k x writes reads some_room slot filled s r size at _ =
      let v : Knows M = me.0 in
      let room : ℕ = v.room - 1 in
      let has : v.room ≡ suc room = omega arith in
      let new : ℕ = (get_or s.words 16 0 + 1) % 2 ^ 64 in
      let here : k ≡ length r.sent % length s.homes = slot ∙ (ap (λ (m : ℕ). length v.sent % m) (sym size) ∙ ap (λ (l : List M). length l % length s.homes) ((r.known id v at).0 writes).1) in
      let is : me.1 ≡ (length r.sent % length s.homes, Some x) ∷ [] = filled ∙ ap (λ (m : ℕ). (m, Some x) ∷ []) here in
      subst (λ (m : ℕ). Goes s 16 id me (sends (step m 16 1 0 none) me) new) size
      (subst (λ (c : List (ℕ × Option M)). Goes s 16 id (v, c) (sends (step (length s.homes) 16 1 0 none) (v, c)) new) (sym is)
      (send_goes s r id v at writes reads x room has))
