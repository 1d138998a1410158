-- A group whose lanes end from the back: what is left in the ports, and the settled lanes so far.
use Rattle.std.proofs.Common.{◌≡◌, ◌≢◌, inl, inr, ℕ, suc, ◌+◌, ◌-◌, ◌*◌, ◌<◌, ◌≤◌, List, [], ◌∷◌, ◌++◌, length, map, reverse, get_or, set, refl, sym, ap, ◌∙◌, subst, arith, length-append, length-set}
use Rattle.std.specs.Prelude.{slice_get, Some}
use Rattle.std.proofs.lemmas.Bool.{cases_lt}
use Rattle.std.proofs.lemmas.Nat.{same_from_place}
use Rattle.std.proofs.lemmas.Option.{slice_get_within, same_Some}
use Rattle.atomic_table.specs.Seated.{TableId}
use Rattle.pg_group.specs.Ranked.{place_of, Wiring}
use Rattle.pg_group.specs.Grouped.{AreOneGroup}
use Rattle.pg_group.proofs.ByRank.{length_of_map, map-at, map-kept, map-set_to}
use Rattle.pg_group.proofs.Growing.{push_before, push_last, entry_map, place_within}
use Rattle.pg_group.proofs.Opening.{count_out, count_in}
use Rattle.pg_group.proofs.LanePlaces.{lane_out, lane_in, in_of, out_up, in_up, out_apart, in_apart, out_inside, in_inside, place_same, Joins}
use Rattle.pg_group.proofs.Leaving.{exists_at, IsTable, entry_in, entry_at, table_of, row_of, AreLeft, all_left, some_left, is_last, one_less, reversed_at}

-- The lanes out and the lanes in of n ranks, rank by rank: w for each rank, and the two ends of each lane fit.
pub record AreEnds {O I : Type 0} (Fit : O → I → Type 0) (n w : ℕ) (outs : List (List O)) (ins : List (List I)) : Type 0 where
  pub size : w ≡ n - 1
  pub all_outs : IsTable n w outs
  pub all_ins : IsTable n w ins
  pub fit : (r s : ℕ) (out : O) (inn : I) → r ≢ s → slice_get (get_or outs r []) (place_of r s) ≡ Some out → slice_get (get_or ins s []) (place_of s r) ≡ Some inn → Fit out inn

-- the lanes of the ports of one group
module _ {P O I : Type 0} (wiring : P → Wiring) (outs_of : P → List O) (ins_of : P → List I) (out_lane : O → TableId) (in_lane : I → TableId) (ps : List P) (n w : ℕ) (long : length ps ≡ n) (size : w ≡ n - 1)
    (group : AreOneGroup (map wiring ps)) (wired_out : (p : P) → (wiring p).lanes_out ≡ map out_lane (outs_of p)) (wired_in : (p : P) → (wiring p).lanes_in ≡ map in_lane (ins_of p)) where
  outs_table : IsTable n w (map outs_of ps)
  outs_table = table_of outs_of ps n w long size (count_out wiring outs_of ps n long group (λ p. ap length (wired_out p) ∙ length_of_map out_lane (outs_of p)))

  ins_table : IsTable n w (map ins_of ps)
  ins_table = table_of ins_of ps n w long size (count_in wiring ins_of ps n long group (λ p. ap length (wired_in p) ∙ length_of_map in_lane (ins_of p)))

  one_lane : (r s : ℕ) (out : O) (inn : I) → r ≢ s → slice_get (get_or (map outs_of ps) r []) (place_of r s) ≡ Some out
      → slice_get (get_or (map ins_of ps) s []) (place_of s r) ≡ Some inn → out_lane out ≡ in_lane inn
  one_lane r s out inn apart at_out at_in =
      let p = exists_at ps r (omega (arith, (entry_in n w (map outs_of ps) outs_table r (place_of r s) out at_out).0, long)) in
      let q = exists_at ps s (omega (arith, (entry_in n w (map ins_of ps) ins_table s (place_of s r) inn at_in).0, long)) in
      let out_here : slice_get (outs_of p.0) (place_of r s) ≡ Some out = ap (λ l. slice_get l (place_of r s)) (sym (row_of outs_of ps r p.0 p.1)) ∙ at_out in
      let in_here : slice_get (ins_of q.0) (place_of s r) ≡ Some inn = ap (λ l. slice_get l (place_of s r)) (sym (row_of ins_of ps s q.0 q.1)) ∙ at_in in
      same_Some (out_lane out) (in_lane inn)
      (sym (entry_map out_lane (outs_of p.0) (place_of r s) out out_here) ∙ ap (λ l. slice_get l (place_of r s)) (sym (wired_out p.0))
      ∙ group.paired r s (wiring p.0) (wiring q.0) (entry_map wiring ps r p.0 p.1) (entry_map wiring ps s q.0 q.1) apart
      ∙ ap (λ l. slice_get l (place_of s r)) (wired_in q.0) ∙ entry_map in_lane (ins_of q.0) (place_of s r) inn in_here)

  pub ends_of_group : AreEnds (λ out inn. out_lane out ≡ in_lane inn) n w (map outs_of ps) (map ins_of ps)
  ends_of_group = record { size = size; all_outs = outs_table; all_ins = ins_table; fit = one_lane }

-- Of these lanes those with numbers below this one are left, and the others are settled, the last one first.
pub record IsEnding {O I S : Type 0} (Fit : O → I → Type 0) (Settles : O → I → S → Type 0) (n w : ℕ) (outs : List (List O)) (ins : List (List I))
    (number : ℕ) (outs_left : List (List O)) (ins_left : List (List I)) (lanes : List S) : Type 0 where
  pub all : AreEnds Fit n w outs ins
  pub out_ends : AreLeft (lane_out w) outs number outs_left
  pub in_ends : AreLeft (lane_in w) ins number ins_left
  pub count : length lanes + number ≡ n * w
  pub settled : (r s j : ℕ) (out : O) (inn : I) → r ≢ s → slice_get (get_or outs r []) (place_of r s) ≡ Some out → slice_get (get_or ins s []) (place_of s r) ≡ Some inn
      → number ≤ r * w + place_of r s → r * w + place_of r s + suc j ≡ n * w → (x : S) × (slice_get lanes j ≡ Some x) × Settles out inn x

module _ {O I S : Type 0} (Fit : O → I → Type 0) (Settles : O → I → S → Type 0) (n w : ℕ) (outs : List (List O)) (ins : List (List I)) where
  pub begins : (lanes : List S) (number : ℕ) → AreEnds Fit n w outs ins → lanes ≡ [] → number ≡ n * w → IsEnding Fit Settles n w outs ins number outs ins lanes
  begins lanes number all none whole = record {
    all = all;
    out_ends = all_left (lane_out w) outs number (λ t k x at. let e = entry_in n w outs all.all_outs t k x at in omega (arith, out_inside n w t k e.0 e.1));
    in_ends = all_left (lane_in w) ins number (λ t k x at. let e = entry_in n w ins all.all_ins t k x at in omega (arith, in_inside n w t k all.size e.0 e.1));
    count = omega (arith, ap length none, whole);
    settled = λ r s j out inn apart at_out at_in past here. absurd (omega arith);
  }

  -- The lane of this number ends, from r to s.
  module _ (number r s : ℕ) (os : List (List O)) (is : List (List I)) (lanes : List S) (now : IsEnding Fit Settles n w outs ins (number + 1) os is lanes) (pair : Joins n w number r s) where
    the_out : (x : O) × (slice_get (get_or outs r []) (place_of r s) ≡ Some x)
    the_out = entry_at n w outs now.all.all_outs r (place_of r s) pair.sender pair.place

    in_number : lane_in w s (place_of s r) ≡ number
    in_number = in_of w r s pair.apart ∙ pair.is

    in_place : place_of s r < w
    in_place = omega (arith, place_within n s r pair.receiver pair.sender (λ e. pair.apart (sym e)), now.all.size)

    the_in : (x : I) × (slice_get (get_or ins s []) (place_of s r) ≡ Some x)
    the_in = entry_at n w ins now.all.all_ins s (place_of s r) pair.receiver in_place

    apart_out : (u l : ℕ) (z : O) → slice_get (get_or outs u []) l ≡ Some z → lane_out w u l ≡ number → u ≡ r
    apart_out u l z at same = out_apart w u l r (place_of r s) (entry_in n w outs now.all.all_outs u l z at).1 pair.place (same ∙ sym pair.is)

    apart_in : (u l : ℕ) (z : I) → slice_get (get_or ins u []) l ≡ Some z → lane_in w u l ≡ number → u ≡ s
    apart_in u l z at same =
        let e = entry_in n w ins now.all.all_ins u l z at in
        let s_in = pair.receiver in
        let size = now.all.size in
        in_apart w u l s (place_of s r) (omega arith) (omega arith) e.1 in_place (same ∙ sym in_number)

    r_in : r < length outs
    r_in = omega (arith, now.all.all_outs.count, pair.sender)

    s_in : s < length ins
    s_in = omega (arith, now.all.all_ins.count, pair.receiver)

    pub out_left : 0 < length (get_or os r [])
    out_left = some_left (lane_out w) outs number r (place_of r s) the_out.0 the_out.0 [] os now.out_ends pair.is r_in the_out.1 (out_up w r) apart_out

    pub in_left : 0 < length (get_or is s [])
    in_left = some_left (lane_in w) ins number s (place_of s r) the_in.0 the_in.0 [] is now.in_ends in_number s_in the_in.1 (λ i j. in_up w s i j pair.some) apart_in

    module _ (x : O) (y : I) (xs : List O) (ys : List I) (taken_out : get_or os r [] ≡ xs ++ x ∷ []) (taken_in : get_or is s [] ≡ ys ++ y ∷ []) where
      is_out : x ≡ the_out.0
      is_out = is_last (lane_out w) outs number r (place_of r s) x the_out.0 xs os now.out_ends pair.is r_in the_out.1 (out_up w r) apart_out taken_out

      is_in : y ≡ the_in.0
      is_in = is_last (lane_in w) ins number s (place_of s r) y the_in.0 ys is now.in_ends in_number s_in the_in.1 (λ i j. in_up w s i j pair.some) apart_in taken_in

      pub both_fit : Fit x y
      both_fit = subst (λ o. Fit o y) (sym is_out) (subst (Fit the_out.0) (sym is_in) (now.all.fit r s the_out.0 the_in.0 pair.apart the_out.1 the_in.1))

      settled_last : (z : S) → Settles x y z → (a b j : ℕ) (out : O) (inn : I) → a ≢ b → slice_get (get_or outs a []) (place_of a b) ≡ Some out → slice_get (get_or ins b []) (place_of b a) ≡ Some inn
          → a * w + place_of a b ≡ number → j ≡ length lanes → (u : S) × (slice_get (lanes ++ z ∷ []) j ≡ Some u) × Settles out inn u
      settled_last z good a b j out inn apart at_out at_in same here =
          let e = entry_in n w outs now.all.all_outs a (place_of a b) out at_out in
          let both = same_from_place a (place_of a b) r (place_of r s) w e.1 pair.place (same ∙ sym pair.is) in
          let is_a : a ≡ r = both.0 in
          let is_b : b ≡ s = place_same r b s (λ f. apart (is_a ∙ f)) pair.apart (ap (λ v. place_of v b) (sym is_a) ∙ both.1) in
          let out_same : x ≡ out = is_out ∙ same_Some the_out.0 out (sym the_out.1 ∙ ap (λ v. slice_get (get_or outs v []) (place_of v s)) (sym is_a) ∙ ap (λ v. slice_get (get_or outs a []) (place_of a v)) (sym is_b) ∙ at_out) in
          let in_same : y ≡ inn = is_in ∙ same_Some the_in.0 inn (sym the_in.1 ∙ ap (λ v. slice_get (get_or ins s []) (place_of s v)) (sym is_a) ∙ ap (λ v. slice_get (get_or ins v []) (place_of v a)) (sym is_b) ∙ at_in) in
          (z, push_last lanes z j here, subst (λ o. Settles o inn z) out_same (subst (λ i. Settles x i z) in_same good))

      settled_before : (z : S) (a b j : ℕ) (out : O) (inn : I) → a ≢ b → slice_get (get_or outs a []) (place_of a b) ≡ Some out → slice_get (get_or ins b []) (place_of b a) ≡ Some inn
          → number < a * w + place_of a b → a * w + place_of a b + suc j ≡ n * w → (u : S) × (slice_get (lanes ++ z ∷ []) j ≡ Some u) × Settles out inn u
      settled_before z a b j out inn apart at_out at_in past across =
          let found = now.settled a b j out inn apart at_out at_in (omega arith) across in
          (found.0, push_before lanes z j (slice_get_within lanes j found.0 found.1) ∙ found.1, found.2)

      pub continues : (z : S) → Settles x y z → IsEnding Fit Settles n w outs ins number (set os r xs) (set is s ys) (lanes ++ z ∷ [])
      continues z good = record {
        all = now.all;
        out_ends = one_less (lane_out w) outs number r (place_of r s) x the_out.0 xs os now.out_ends pair.is r_in the_out.1 (out_up w r) apart_out taken_out;
        in_ends = one_less (lane_in w) ins number s (place_of s r) y the_in.0 ys is now.in_ends in_number s_in the_in.1 (λ i j. in_up w s i j pair.some) apart_in taken_in;
        count = omega (arith, length-append lanes (z ∷ []), now.count);
        settled = λ a b j out inn apart at_out at_in past across.
            let count = now.count in
            elim (cases_lt number (a * w + place_of a b)) [
              | inl h ↦ settled_before z a b j out inn apart at_out at_in h across
              | inr h ↦ settled_last z good a b j out inn apart at_out at_in (omega arith) (omega arith)
            ];
      }

pub as_many : {P : Type 0} (ps : List P) (r s : ℕ) (p q : P) (n : ℕ) → length ps ≡ n → length (set (set ps r p) s q) ≡ n
as_many ps r s p q n long = length-set (set ps r p) s q ∙ length-set ps r p ∙ long

-- One turn over the ports ps, of which the first ones were `first`: the last lane out is taken from port r, and its other end from port s.
module _ {P O I S : Type 0} {Fit : O → I → Type 0} {Settles : O → I → S → Type 0} {n w left r s : ℕ} {lanes : List S} (outs_of : P → List O) (ins_of : P → List I) (first ps : List P)
    (before : IsEnding Fit Settles n w (map outs_of first) (map ins_of first) left (map outs_of ps) (map ins_of ps) lanes) (some : 0 < left) (pair : Joins n w (left - 1) r s) (long : length ps ≡ n) where
  one : left ≡ left - 1 + 1
  one = omega arith

  now : IsEnding Fit Settles n w (map outs_of first) (map ins_of first) ((left - 1) + 1) (map outs_of ps) (map ins_of ps) lanes
  now = subst (λ k. IsEnding Fit Settles n w (map outs_of first) (map ins_of first) k (map outs_of ps) (map ins_of ps) lanes) one before

  out_row : (p : P) → p ≡ get_or ps r p → get_or (map outs_of ps) r [] ≡ outs_of p
  out_row p at = map-at outs_of ps r p [] (omega (arith, long, pair.sender)) at

  pub port_out_left : (p : P) → p ≡ get_or ps r p → 0 < length (outs_of p)
  port_out_left p at = subst (λ (l : List O). 0 < length l) (out_row p at) (out_left Fit Settles n w (map outs_of first) (map ins_of first) (left - 1) r s (map outs_of ps) (map ins_of ps) lanes now pair)

  module _ (p p_after : P) (at_r : p ≡ get_or ps r p) (same_ins : ins_of p_after ≡ ins_of p) where
    ins_kept : map ins_of (set ps r p_after) ≡ map ins_of ps
    ins_kept = map-kept ins_of ps r p p_after at_r same_ins

    in_row : (q : P) → q ≡ get_or (set ps r p_after) s q → get_or (map ins_of ps) s [] ≡ ins_of q
    in_row q at = ap (λ l. get_or l s []) (sym ins_kept) ∙ map-at ins_of (set ps r p_after) s q [] (omega (arith, length-set ps r p_after, long, pair.receiver)) at

    pub port_in_left : (q : P) → q ≡ get_or (set ps r p_after) s q → 0 < length (ins_of q)
    port_in_left q at = subst (λ (l : List I). 0 < length l) (in_row q at) (in_left Fit Settles n w (map outs_of first) (map ins_of first) (left - 1) r s (map outs_of ps) (map ins_of ps) lanes now pair)

    module _ (q q_after : P) (at_s : q ≡ get_or (set ps r p_after) s q) (x : O) (y : I) (took_out : outs_of p ≡ outs_of p_after ++ x ∷ []) (took_in : ins_of q ≡ ins_of q_after ++ y ∷ []) where
      pub ends_fit : Fit x y
      ends_fit = both_fit Fit Settles n w (map outs_of first) (map ins_of first) (left - 1) r s (map outs_of ps) (map ins_of ps) lanes now pair x y (outs_of p_after) (ins_of q_after) (out_row p at_r ∙ took_out) (in_row q at_s ∙ took_in)

      outs_after : outs_of q_after ≡ outs_of q → map outs_of (set (set ps r p_after) s q_after) ≡ set (map outs_of ps) r (outs_of p_after)
      outs_after same = map-kept outs_of (set ps r p_after) s q q_after at_s same ∙ map-set_to outs_of ps r p_after (outs_of p_after) refl

      ins_after : map ins_of (set (set ps r p_after) s q_after) ≡ set (map ins_of ps) s (ins_of q_after)
      ins_after = map-set_to ins_of (set ps r p_after) s q_after (ins_of q_after) refl ∙ ap (λ l. set l s (ins_of q_after)) ins_kept

      pub turn : (z : S) (more : List S) → more ≡ lanes ++ z ∷ [] → outs_of q_after ≡ outs_of q → Settles x y z
          → IsEnding Fit Settles n w (map outs_of first) (map ins_of first) (left - 1) (map outs_of (set (set ps r p_after) s q_after)) (map ins_of (set (set ps r p_after) s q_after)) more
      turn z more pushed same_outs good =
          subst (λ l. IsEnding Fit Settles n w (map outs_of first) (map ins_of first) (left - 1) (map outs_of (set (set ps r p_after) s q_after)) (map ins_of (set (set ps r p_after) s q_after)) l) (sym pushed)
          (subst (λ l. IsEnding Fit Settles n w (map outs_of first) (map ins_of first) (left - 1) l (map ins_of (set (set ps r p_after) s q_after)) (lanes ++ z ∷ [])) (sym (outs_after same_outs))
          (subst (λ l. IsEnding Fit Settles n w (map outs_of first) (map ins_of first) (left - 1) (set (map outs_of ps) r (outs_of p_after)) l (lanes ++ z ∷ [])) (sym ins_after)
          (continues Fit Settles n w (map outs_of first) (map ins_of first) (left - 1) r s (map outs_of ps) (map ins_of ps) lanes now pair x y (outs_of p_after) (ins_of q_after)
          (out_row p at_r ∙ took_out) (in_row q at_s ∙ took_in) z good)))

-- The lane of r to s at the end, and its two ends among the lanes out of one port and the lanes in of the other.
pub record Ended {O I S : Type 0} (Settles : O → I → S → Type 0) (n w r s : ℕ) (outs : List O) (ins : List I) (lanes : List S) : Type 0 where
  pub sender : r < n
  pub receiver : s < n
  pub all_out : length outs + 1 ≡ n
  pub all_in : length ins + 1 ≡ n
  pub out : O
  pub inn : I
  pub lane : S
  pub out_at : slice_get outs (place_of r s) ≡ Some out
  pub in_at : slice_get ins (place_of s r) ≡ Some inn
  pub lane_at : slice_get lanes (r * w + place_of r s) ≡ Some lane
  pub settles : Settles out inn lane

module _ {P O I S : Type 0} {Fit : O → I → Type 0} {Settles : O → I → S → Type 0} {n w number : ℕ} {lanes : List S} (outs_of : P → List O) (ins_of : P → List I) (first ps : List P) (turned : List S)
    (now : IsEnding Fit Settles n w (map outs_of first) (map ins_of first) number (map outs_of ps) (map ins_of ps) lanes) (over : number ≡ 0) (long : length first ≡ n) (in_turn : turned ≡ reverse lanes) where
  module _ (r s : ℕ) (p q : P) (at_r : slice_get first r ≡ Some p) (at_s : slice_get first s ≡ Some q) (apart : r ≢ s) where
    sender_in : r < n
    sender_in = omega (arith, slice_get_within first r p at_r, long)

    receiver_in : s < n
    receiver_in = omega (arith, slice_get_within first s q at_s, long)

    there : place_of r s < w
    there = omega (arith, place_within n r s sender_in receiver_in apart, now.all.size)

    back : place_of s r < w
    back = omega (arith, place_within n s r receiver_in sender_in (λ e. apart (sym e)), now.all.size)

    out : (x : O) × (slice_get (get_or (map outs_of first) r []) (place_of r s) ≡ Some x)
    out = entry_at n w (map outs_of first) now.all.all_outs r (place_of r s) sender_in there

    inn : (y : I) × (slice_get (get_or (map ins_of first) s []) (place_of s r) ≡ Some y)
    inn = entry_at n w (map ins_of first) now.all.all_ins s (place_of s r) receiver_in back

    found : (z : S) × (slice_get (reverse lanes) (r * w + place_of r s) ≡ Some z) × Settles out.0 inn.0 z
    found =
        let inside = out_inside n w r (place_of r s) sender_in there in
        let count = now.count in
        let last : number ≤ r * w + place_of r s = omega arith in
        let across : r * w + place_of r s + suc (n * w - 1 - (r * w + place_of r s)) ≡ n * w = omega arith in
        let z = now.settled r s (n * w - 1 - (r * w + place_of r s)) out.0 inn.0 apart out.1 inn.1 last across in
        (z.0, reversed_at lanes (r * w + place_of r s) (n * w - 1 - (r * w + place_of r s)) z.0 (omega arith) z.1, z.2)

    pub all_ended : Ended Settles n w r s (outs_of p) (ins_of q) turned
    all_ended = record {
      sender = sender_in;
      receiver = receiver_in;
      all_out = omega (arith, now.all.all_outs.rows r sender_in, ap length (row_of outs_of first r p at_r), now.all.size, sender_in);
      all_in = omega (arith, now.all.all_ins.rows s receiver_in, ap length (row_of ins_of first s q at_s), now.all.size, receiver_in);
      out = out.0;
      inn = inn.0;
      lane = found.0;
      out_at = ap (λ (l : List O). slice_get l (place_of r s)) (sym (row_of outs_of first r p at_r)) ∙ out.1;
      in_at = ap (λ (l : List I). slice_get l (place_of s r)) (sym (row_of ins_of first s q at_s)) ∙ inn.1;
      lane_at = ap (λ (l : List S). slice_get l (r * w + place_of r s)) in_turn ∙ found.1;
      settles = found.2;
    }
