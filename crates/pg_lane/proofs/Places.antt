-- Slots named by places: which stay as they are when one is taken or given back, and how two words tell two lengths.
use Rattle.std.proofs.Common.{◌≡◌, ◌≢◌, ℕ, zero, suc, ◌+◌, ◌-◌, ◌%◌, ◌<◌, ◌≤◌, ◌⊎◌, inl, inr, ⊎_elim, List, [], ◌∷◌, ◌++◌, length, length-set, set, sym, refl, ap, ◌∙◌, mod-lt, mod-eq_of_lt, arith}
use mathlib.Core.Option.{none, some, some-injective, some-ne-none}
use mathlib.Core.Option as maybe
use native.Mathlib.Nat.{add-mod_right, mod-add-mod}
use lib.ListN.{get_elem?}
use Rattle.std.specs.Prelude.{Option, Some, None}
use Rattle.atomic_table.proofs.Lists.{set_here, set_else, one_turn}
use Rattle.pg_lane.specs.Ring.{one, listed, held, free_slot, Homes, Lies, Clear}

-- of two counts modulo m the difference tells how far they are apart
pub apart_by : (m t d : ℕ) → d < m → ((t + d) % m + (m - t % m)) % m ≡ d
apart_by m t d near =
    let r : ℕ = t % m in
    let below : r < m = mod-lt t (omega arith) in
    let e : ((t + d) % m + (m - r)) % m ≡ (r + d + (m - r)) % m =
    ap (λ (z : ℕ). (z + (m - r)) % m) (sym (mod-add-mod t m d)) ∙ mod-add-mod (r + d) m (m - r) in
    let f : r + d + (m - r) ≡ d + m = omega arith in
    e ∙ ap (λ (z : ℕ). z % m) f ∙ add-mod_right d m ∙ mod-eq_of_lt near

-- two places less than a turn apart have two slots
pub two_slots : (n a b : ℕ) → a < b → b < a + n → b % n ≢ a % n
two_slots n a b less near e = let same = one_turn a b n (omega arith) near (sym e) in omega arith

-- a count modulo m, one further
pub next_of : (m k l l' : ℕ) → k ≡ l % m → l' ≡ l + 1 → (k + 1) % m ≡ l' % m
next_of m k l l' a b = ap (λ (z : ℕ). (z + 1) % m) a ∙ (mod-add-mod l m 1 ∙ ap (λ (z : ℕ). z % m) (sym b))

split_at : (a b : ℕ) → a < suc b → (a < b) ⊎ (a ≡ b)
split_at zero zero h = inr refl
split_at zero (suc b) h = inl (omega arith)
split_at (suc a) zero h = absurd (omega arith)
split_at (suc a) (suc b) h = ⊎_elim (λ (l : a < b). inl (omega arith)) (λ (e : a ≡ b). inr (ap suc e)) (split_at a b (omega arith))

pub one_of : (r : ℕ) → 1 ≤ r → one r ≡ 1
one_of zero h = absurd (omega arith)
one_of (suc r) h = refl

module _ {M : Type 0} where
  pub one_free : (room k : ℕ) (y : Option M) → 1 ≤ room → free_slot room k y ≡ (k, y) ∷ []
  one_free zero k y some_room = absurd (omega arith)
  one_free (suc room) k y some_room = refl

  -- the message in the hand counts too
  pub with_hand : (hand : Option M) (queue : List M) → length (listed hand ++ queue) ≡ held hand + length queue
  with_hand None queue = omega arith
  with_hand (Some x) queue = omega arith

  pub no_hand : (hand : Option M) → held hand ≡ 0 → hand ≡ None
  no_hand None e = refl
  no_hand (Some x) e = absurd (omega arith)

  pub some_hand : (hand : Option M) (ready : ℕ) → held hand ≡ one ready → 1 ≤ ready → (x : M) × (hand ≡ Some x)
  some_hand None ready e some_ready = let h : one ready ≡ 1 = one_of ready some_ready in absurd (omega arith)
  some_hand (Some x) ready e some_ready = (x, refl)

  pub below_length : (l : List M) (i : ℕ) (x : M) → get_elem? l i ≡ some x → i < length l
  below_length [] i x e = absurd (some-ne-none x (sym e))
  below_length (y ∷ ys) zero x e = omega arith
  below_length (y ∷ ys) (suc i) x e = let h = below_length ys i x e in omega arith

  pub at_end : (l : List M) (y : M) (i : ℕ) (x : M) → get_elem? (l ++ y ∷ []) i ≡ some x
      → (get_elem? l i ≡ some x) ⊎ ((i ≡ length l) × (y ≡ x))
  at_end [] y zero x e = inr (refl, some-injective y x e)
  at_end [] y (suc i) x e = absurd (some-ne-none x (sym e))
  at_end (z ∷ zs) y zero x e = inl e
  at_end (z ∷ zs) y (suc i) x e = ⊎_elim (λ (h : get_elem? zs i ≡ some x). inl h) (λ (h : (i ≡ length zs) × (y ≡ x)). inr (ap suc h.0, h.1)) (at_end zs y i x e)

  -- what is done to the slot of a place outside leaves the messages and the free slots alone
  pub lies_set : (n : ℕ) (homes : Homes M) (first k : ℕ) (queue : List M) (y : maybe.Option (Option M))
      → Lies n homes first queue → ((p : ℕ) → first ≤ p → p < first + length queue → p % n ≢ k % n) → Lies n (set homes (k % n) y) first queue
  lies_set n homes first k queue y lies apart p x e =
      let near = below_length queue p x e in
      set_else homes (k % n) ((first + p) % n) y (apart (first + p) (omega arith) (omega arith)) ∙ lies p x e

  pub clear_set : (n : ℕ) (homes : Homes M) (low high k : ℕ) (y : maybe.Option (Option M))
      → Clear n homes low high → ((p : ℕ) → low ≤ p → p < high → p % n ≢ k % n) → Clear n (set homes (k % n) y) low high
  clear_set n homes low high k y clear apart p a b = ((clear p a b).0, set_else homes (k % n) (p % n) y (apart p a b) ∙ (clear p a b).1)

  pub clear_from : (n : ℕ) (homes : Homes M) (low high later : ℕ) → low ≤ later → Clear n homes low high → Clear n homes later high
  clear_from n homes low high later le clear p a b = clear p (omega arith) b

  -- the message at the place `first` goes out
  pub lies_next : (n : ℕ) (homes : Homes M) (first : ℕ) (x : M) (queue : List M) → Lies n homes first (x ∷ queue) → Lies n homes (first + 1) queue
  lies_next n homes first x queue lies p y e =
      let is : first + 1 + p ≡ first + suc p = omega arith in ap (λ (z : ℕ). get_elem? homes (z % n)) is ∙ lies (suc p) y e

  -- and comes back
  pub lies_back : (n : ℕ) (homes : Homes M) (first : ℕ) (x : M) (queue : List M) → 0 < n → length homes ≡ n → suc (length queue) ≤ n
      → Lies n homes (first + 1) queue → Lies n (set homes (first % n) (some (Some x))) first (x ∷ queue)
  lies_back n homes first x queue pos long room lies zero y e =
      let near : first % n < n = mod-lt first pos in let is : first + 0 ≡ first = omega arith in
      ap (λ (z : ℕ). get_elem? (set homes (first % n) (some (Some x))) (z % n)) is
      ∙ (set_here homes (first % n) (some (Some x)) (omega arith) ∙ ap (λ (z : M). some (some (Some z))) (some-injective x y e))
  lies_back n homes first x queue pos long room lies (suc p) y e =
      let is : first + suc p ≡ first + 1 + p = omega arith in
      let after = lies_set n homes (first + 1) first queue (some (Some x)) lies (λ q a b. two_slots n first q (omega arith) (omega arith)) in
      ap (λ (z : ℕ). get_elem? (set homes (first % n) (some (Some x))) (z % n)) is ∙ after p y e

  -- a message is put behind those that lie there
  pub lies_more : (n : ℕ) (homes : Homes M) (first last : ℕ) (x : M) (queue : List M) → 0 < n → length homes ≡ n → last ≡ first + length queue → length queue < n
      → Lies n homes first queue → Lies n (set homes (last % n) (some (Some x))) first (queue ++ x ∷ [])
  lies_more n homes first last x queue pos long is room lies p y e =
      let near : last % n < n = mod-lt last pos in
      ⊎_elim
      (λ (h : get_elem? queue p ≡ some y).
      lies_set n homes first last queue (some (Some x)) lies (λ q a b s. two_slots n q last (omega arith) (omega arith) (sym s)) p y h)
      (λ (h : (p ≡ length queue) × (x ≡ y)).
      let here : first + p ≡ last = ap (λ (z : ℕ). first + z) h.0 ∙ sym is in
      ap (λ (z : ℕ). get_elem? (set homes (last % n) (some (Some x))) (z % n)) here
      ∙ (set_here homes (last % n) (some (Some x)) (omega arith) ∙ ap (λ (z : M). some (some (Some z))) h.1))
      (at_end queue x p y e)

  -- a slot that was read comes back
  pub clear_more : (n : ℕ) (homes : Homes M) (low first : ℕ) (y : Option M) → 0 < n → length homes ≡ n → first < low
      → Clear n homes low (first + n) → Clear n (set homes (first % n) (some y)) low (first + 1 + n)
  clear_more n homes low first y pos long less clear p a b =
      let near : first % n < n = mod-lt first pos in
      ⊎_elim
      (λ (h : p < first + n). clear_set n homes low (first + n) first (some y) clear (λ q c d. two_slots n first q (omega arith) d) p a h)
      (λ (h : p ≡ first + n).
      (y, ap (λ (z : ℕ). get_elem? (set homes (first % n) (some y)) z) (ap (λ (z : ℕ). z % n) h ∙ add-mod_right first n) ∙ set_here homes (first % n) (some y) (omega arith)))
      (split_at p (first + n) (omega arith))

  -- the homes where a writer with this room takes the slot k
  abbrev pub cleared : ℕ → ℕ → Homes M → Homes M
  cleared zero k homes = homes
  cleared (suc r) k homes = set homes k none

  pub length_cleared : (room k : ℕ) (homes : Homes M) → length (cleared room k homes) ≡ length homes
  length_cleared zero k homes = refl
  length_cleared (suc r) k homes = length-set homes k none

  pub lies_cleared : (n room : ℕ) (homes : Homes M) (first k : ℕ) (queue : List M)
      → Lies n homes first queue → first + length queue ≤ k → k + room ≤ first + n → Lies n (cleared room (k % n) homes) first queue
  lies_cleared n zero homes first k queue lies a b = lies
  lies_cleared n (suc r) homes first k queue lies a b =
      lies_set n homes first k queue none lies (λ p c d e. two_slots n p k (omega arith) (omega arith) (sym e))

  pub clear_cleared : (n room : ℕ) (homes : Homes M) (low high : ℕ) → high ≤ low + n → Clear n homes low high
      → Clear n (cleared room (low % n) homes) (low + one room) high
  clear_cleared n zero homes low high le clear = clear_from n homes low high (low + 0) (omega arith) clear
  clear_cleared n (suc r) homes low high le clear =
      clear_set n homes (low + 1) high low none (clear_from n homes low high (low + 1) (omega arith) clear) (λ p a b. two_slots n low p (omega arith) (omega arith))
