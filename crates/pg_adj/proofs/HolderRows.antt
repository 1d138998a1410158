-- The rows of all ranks' holders, a vertex after another.
use Rattle.std.proofs.Common.{◌≡◌, ◌≢◌, ℕ, ◌+◌, ◌-◌, ◌<◌, ◌≤◌, List, [], ◌∷◌, ◌++◌, Bool, length, map, filter, get_or, set, replicate, All, sym, ap, subst, refl, ◌∙◌, inl, inr, arith, zero, suc, vec_capacity, if◌then◌else◌}
use Rattle.std.proofs.lemmas.Bool.{cases_lt, cases_eq, cases_Bool, cond_both}
use Rattle.std.proofs.lemmas.List.{length_push, length-append, length-map, length-set, get_or-set_same, get_or-set_other, get_or_default, get_or-replicate, length-replicate}
use Rattle.std.proofs.lemmas.List.Elements.{filter-append, All-head, All-tail, All-weaker}
use Rattle.pg_base.specs.declared.TheConstants.{MAX_VERTICES}
use Rattle.pg_dist.specs.Sharing.{Sharing, IsSharing}
use Rattle.pg_adj.specs.Division.{AreRows, vertices_to}
use Rattle.pg_adj.specs.RankSets.{has, members, no_ranks, ranks_holding, held_up_to, holders_by}
use Rattle.pg_adj.specs.declared.arcs.Holder.{Holder}
use Rattle.pg_adj.specs.declared.rank_sets.RankSet.{RankSet}
use Rattle.pg_adj.specs.declared.holders.HolderRows.{HolderRows}
use Rattle.pg_adj.proofs.RowsMore.{rows_more}
use Rattle.pg_adj.proofs.HolderCounts.{holders_to, holders-le, holders_mono, own_holders, no_holders}

abbrev pub holder : ℕ → ℕ → Holder
holder r slot = record { rank = record { 0 = r }; slot = slot }

-- The first m places of a rank have their rows, and those are the places of its vertices up to k.
pub record IsFilledTo {X : Type 0} (rows : ℕ → List X) (global : ℕ → ℕ) (count k m : ℕ) (bounds : List ℕ) (items : List X) : Type 0 where
  pub laid : AreRows rows m bounds items
  pub few : m ≤ count
  pub here : (i : ℕ) → i < m → global i ≤ k
  pub later : (i : ℕ) → m ≤ i → i < count → k < global i

pub filled_none : {X : Type 0} (rows : ℕ → List X) (global : ℕ → ℕ) (count : ℕ) (bounds : List ℕ) (items : List X) → bounds ≡ 0 ∷ [] → items ≡ []
    → ((i : ℕ) → i < count → 1 ≤ global i) → IsFilledTo rows global count 0 0 bounds items
filled_none {X} rows global count bounds items b e first = rw (b, e) (record {
  laid = record {
    bounded = record {
      each = refl;
      ascend = λ i l. absurd (omega arith);
      within = λ i l. let at : i ≡ 0 = omega arith in rw at (omega arith);
    };
    first = refl;
    last = refl;
    row = λ i l. absurd (omega arith);
  };
  few = omega arith;
  here = λ i l. absurd (omega arith);
  later = λ i l m. omega (arith, first i m);
})

pub filled_whole : {X : Type 0} (rows : ℕ → List X) (global : ℕ → ℕ) (count n m : ℕ) (bounds : List ℕ) (items : List X) → IsFilledTo rows global count n m bounds items
    → ((i : ℕ) → i < count → global i ≤ n) → AreRows rows count bounds items
filled_whole {X} rows global count n m bounds items h last = elim (cases_lt m count) [
  | inl less ↦ absurd (omega (arith, h.later m (omega arith) less, last m less))
  | inr least ↦ let at : m ≡ count = omega (arith, h.few) in subst (λ (j : ℕ). AreRows rows j bounds items) at h.laid
]

-- the next vertex of a rank goes to the first place without a row
next_place : {X : Type 0} (s : Sharing) → IsSharing s → (rows : ℕ → List X) (r k m : ℕ) (bounds : List ℕ) (items : List X) → k < s.n → r ≡ s.owner (k + 1)
    → IsFilledTo rows (s.global r) (s.count r) k m bounds items → s.local (k + 1) ≡ m
next_place {X} s laws rows r k m bounds items l own h =
    let rank : r < s.ranks = subst (λ (q : ℕ). q < s.ranks) (sym own) (laws.owner_is_rank (k + 1) (omega arith) (omega arith)) in
    let below : s.local (k + 1) < s.count r = subst (λ (q : ℕ). s.local (k + 1) < s.count q) (sym own) (laws.local_below (k + 1) (omega arith) (omega arith)) in
    let at : s.global r (s.local (k + 1)) ≡ k + 1 = ap (λ (q : ℕ). s.global q (s.local (k + 1))) own ∙ laws.global_of_local (k + 1) (omega arith) (omega arith) in
    elim (cases_lt (s.local (k + 1)) m) [
      | inl less ↦ absurd (omega (arith, h.here (s.local (k + 1)) less))
      | inr least ↦ elim (cases_lt m (s.local (k + 1))) [
        | inl more ↦ absurd (omega (arith, laws.global_ascends r m (s.local (k + 1)) rank more below, h.later m (omega arith) (omega arith)))
        | inr most ↦ omega arith
      ]
    ]

filled_own : {X : Type 0} (s : Sharing) → IsSharing s → (rows : ℕ → List X) (r k m : ℕ) (bounds bounds' : List ℕ) (items items' more : List X) (last : ℕ)
    → k < s.n → r ≡ s.owner (k + 1) → IsFilledTo rows (s.global r) (s.count r) k m bounds items → (s.global r m ≡ k + 1 → more ≡ rows m)
    → items' ≡ items ++ more → last ≡ length items' → bounds' ≡ bounds ++ last ∷ []
    → IsFilledTo rows (s.global r) (s.count r) (k + 1) (m + 1) bounds' items'
filled_own {X} s laws rows r k m bounds bounds' items items' more last l own h same put size grown =
    let rank : r < s.ranks = subst (λ (q : ℕ). q < s.ranks) (sym own) (laws.owner_is_rank (k + 1) (omega arith) (omega arith)) in
    let place : s.local (k + 1) ≡ m = next_place s laws rows r k m bounds items l own h in
    let local : s.local (k + 1) < s.count r = subst (λ (q : ℕ). s.local (k + 1) < s.count q) (sym own) (laws.local_below (k + 1) (omega arith) (omega arith)) in
    let below : m < s.count r = omega arith in
    let at : s.global r m ≡ k + 1 =
    ap (λ (j : ℕ). s.global r j) (sym place) ∙ (ap (λ (q : ℕ). s.global q (s.local (k + 1))) own ∙ laws.global_of_local (k + 1) (omega arith) (omega arith)) in
    record {
      laid = rows_more rows m bounds bounds' items items' last more h.laid (same at) put size grown;
      few = omega arith;
      here = λ i j. elim (cases_lt i m) [
        | inl less ↦ omega (arith, h.here i less)
        | inr least ↦ let is : i ≡ m = omega arith in omega (arith, ap (λ (p : ℕ). s.global r p) is)
      ];
      later = λ i j b. omega (arith, laws.global_ascends r m i rank (omega arith) b);
    }

filled_other : {X : Type 0} (s : Sharing) → IsSharing s → (rows : ℕ → List X) (q k m : ℕ) (bounds : List ℕ) (items : List X) → q < s.ranks → q ≢ s.owner (k + 1)
    → IsFilledTo rows (s.global q) (s.count q) k m bounds items → IsFilledTo rows (s.global q) (s.count q) (k + 1) m bounds items
filled_other {X} s laws rows q k m bounds items rank other h = record {
  laid = h.laid;
  few = h.few;
  here = λ i l. omega (arith, h.here i l);
  later = λ i l b. elim (cases_eq (s.global q i) (k + 1)) [
    | inl same ↦ absurd (other (sym (laws.owner_of_global q i rank b) ∙ ap s.owner same))
    | inr apart ↦ omega (arith, h.later i l b)
  ];
}

-- of the vertices up to the next one, one more passes where it does
kept_once : (p : ℕ → Bool) (v : ℕ) → length (filter p (v ∷ [])) ≡ (if p v then 1 else 0)
kept_once p v = elim (cases_Bool (p v)) [
  | inl kept ↦ rw kept refl
  | inr left ↦ rw left refl
]

kept_next : (p : ℕ → Bool) (k : ℕ) → length (filter p (vertices_to (suc k))) ≡ length (filter p (vertices_to k)) + (if p (k + 1) then 1 else 0)
kept_next p k =
    ap length (filter-append p (vertices_to k) ((k + 1) ∷ []))
    ∙ (length-append (filter p (vertices_to k)) (filter p ((k + 1) ∷ [])) ∙ ap (λ (j : ℕ). length (filter p (vertices_to k)) + j) (kept_once p (k + 1)))

pub kept-le : (p : ℕ → Bool) (k : ℕ) → length (filter p (vertices_to k)) ≤ k
kept-le p zero = omega arith
kept-le p (suc k) =
    let more = kept_next p k in
    let rest = kept-le p k in
    let one : (if p (k + 1) then 1 else 0) ≤ 1 = cond_both (p (k + 1)) 1 0 (λ j. j ≤ 1) (λ e. omega arith) (λ e. omega arith) in
    omega (arith, more, rest, one)

pub kept_mono : (p : ℕ → Bool) (k m : ℕ) → length (filter p (vertices_to k)) ≤ length (filter p (vertices_to (k + m)))
kept_mono p k zero = let same : k ≡ k + 0 = omega arith in omega (arith, ap (λ (n : ℕ). length (filter p (vertices_to n))) same)
kept_mono p k (suc m) =
    let next : k + suc m ≡ suc (k + m) = omega arith in
    omega (arith, kept_mono p k m, kept_next p (k + m), ap (λ (n : ℕ). length (filter p (vertices_to n))) next)

-- a rank holds one vertex more where it is in the vertex's set
pub held_next : (sets : List RankSet) (r k : ℕ) → length (held_up_to sets r (k + 1)) ≡ length (held_up_to sets r k) + (if has (get_or sets k no_ranks) r then 1 else 0)
held_next sets r k =
    let next : k + 1 ≡ suc k = omega arith in
    let before : k + 1 - 1 ≡ k = omega arith in
    ap (λ (n : ℕ). length (held_up_to sets r n)) next
    ∙ (kept_next (λ v. has (ranks_holding sets v) r) k ∙ ap (λ (j : ℕ). length (held_up_to sets r k) + (if has (get_or sets j no_ranks) r then 1 else 0)) before)

map_same : {X Y : Type 0} (f g : X → Y) (xs : List X) → All (λ x. f x ≡ g x) xs → map f xs ≡ map g xs
map_same f g [] same = refl
map_same {X} {Y} f g (x ∷ xs) same =
    ap (λ (y : Y). y ∷ map f xs) (All-head (λ (z : X). f z ≡ g z) x xs same) ∙ ap (λ (ys : List Y). g x ∷ ys) (map_same f g xs (All-tail (λ (z : X). f z ≡ g z) x xs same))

-- the holders of the next vertex
holders_next : (sets : List RankSet) (ranks k v : ℕ) (next_slots : List ℕ) → All (λ r. r < ranks) (members (get_or sets k no_ranks))
    → ((r : ℕ) → r < ranks → get_or next_slots r 0 ≡ length (held_up_to sets r k)) → v ≡ k + 1
    → map (λ r. holder r (get_or next_slots r 0)) (members (get_or sets k no_ranks)) ≡ holders_by sets v
holders_next sets ranks k v next_slots of_group each at =
    let before : k ≡ v - 1 = omega arith in
    map_same (λ r. holder r (get_or next_slots r 0)) (λ r. holder r (length (held_up_to sets r k))) (members (get_or sets k no_ranks))
    (All-weaker (λ r. r < ranks) (λ r. holder r (get_or next_slots r 0) ≡ holder r (length (held_up_to sets r k))) (λ r l. ap (holder r) (each r l)) (members (get_or sets k no_ranks)) of_group)
    ∙ ap (λ (j : ℕ). map (λ r. holder r (length (held_up_to sets r j))) (members (get_or sets j no_ranks))) before

abbrev pub IsRowTo : Sharing → List RankSet → ℕ → ℕ → HolderRows → Type 0
IsRowTo s sets k r row = IsFilledTo (λ i. holders_by sets (s.global r i)) (s.global r) (s.count r) k (length row.bounds.items - 1) row.bounds.items row.holders.items

-- Each rank's places of the vertices up to k have their rows, and each rank has the slot past its ghosts among these.
pub record AreFilledTo (s : Sharing) (sets : List RankSet) (k : ℕ) (rows : List HolderRows) (slots : List ℕ) : Type 0 where
  pub each : length rows ≡ s.ranks
  pub row : (r : ℕ) (d : HolderRows) → r < s.ranks → IsRowTo s sets k r (get_or rows r d)
  pub each_slot : length slots ≡ s.ranks
  pub slot : (r : ℕ) → r < s.ranks → get_or slots r 0 ≡ length (held_up_to sets r k)
  pub held : (r : ℕ) (d : HolderRows) → r < s.ranks → length (get_or rows r d).holders.items ≡ holders_to sets s.owner r k

pub none_filled : (s : Sharing) → IsSharing s → (sets : List RankSet) (count : ℕ) (rows : List HolderRows) (slots : List ℕ) → length rows ≡ s.ranks
    → ((r : ℕ) (d : HolderRows) → r < length rows → (get_or rows r d).bounds.items ≡ 0 ∷ []) → ((r : ℕ) (d : HolderRows) → r < length rows → (get_or rows r d).holders.items ≡ [])
    → count ≡ length rows → slots ≡ replicate count 0 → AreFilledTo s sets 0 rows slots
none_filled s laws sets count rows slots each bounds holders size blank = record {
  each = each;
  row = λ r d l.
      let one : (get_or rows r d).bounds.items ≡ 0 ∷ [] = bounds r d (omega arith) in
      let none : 0 ≡ length (get_or rows r d).bounds.items - 1 = omega (arith, ap length one) in
      subst (λ (m : ℕ). IsFilledTo (λ i. holders_by sets (s.global r i)) (s.global r) (s.count r) 0 m (get_or rows r d).bounds.items (get_or rows r d).holders.items) none
      (filled_none (λ i. holders_by sets (s.global r i)) (s.global r) (s.count r) (get_or rows r d).bounds.items (get_or rows r d).holders.items
      one (holders r d (omega arith)) (λ i b. laws.global_first r i l b));
  each_slot = ap length blank ∙ (length-replicate count 0 ∙ (size ∙ each));
  slot = λ r l. ap (λ (xs : List ℕ). get_or xs r 0) blank ∙ get_or-replicate count r 0 0 (omega arith);
  held = λ r d l. ap length (holders r d (omega arith));
}

pub slots_fit : (s : Sharing) → IsSharing s → (sets : List RankSet) (k : ℕ) (rows : List HolderRows) (slots lent : List ℕ) → AreFilledTo s sets k rows slots → k < s.n → lent ≡ slots
    → All (λ slot. slot < MAX_VERTICES) lent
slots_fit s laws sets k rows slots lent h l same = rw same (λ r d b.
    let some : get_or slots r d ≡ get_or slots r 0 = get_or_default slots r d 0 b in
    let slot = h.slot r (omega (arith, h.each_slot)) in
    omega (arith, some, slot, kept-le (λ v. has (ranks_holding sets v) r) k, laws.n_within))

pub holders_small : (s : Sharing) → IsSharing s → (sets : List RankSet) (k r : ℕ) (rows : List HolderRows) (slots : List ℕ) (x : HolderRows) → AreFilledTo s sets k rows slots → k < s.n
    → r ≡ s.owner (k + 1) → x ≡ get_or rows r x → length x.holders.items + 32 < 4294967296
holders_small s laws sets k r rows slots x h l own is =
    let rank : r < s.ranks = subst (λ (q : ℕ). q < s.ranks) (sym own) (laws.owner_is_rank (k + 1) (omega arith) (omega arith)) in
    omega (arith, ap (λ (z : HolderRows). length z.holders.items) is, h.held r x rank, holders-le sets s.owner r k, laws.n_within)

-- the row of the next vertex's owner
own_row : (s : Sharing) → IsSharing s → (sets : List RankSet) (k r : ℕ) (slots : List ℕ) (x y : HolderRows) → All (λ q. q < s.ranks) (members (get_or sets k no_ranks))
    → ((q : ℕ) → q < s.ranks → get_or slots q 0 ≡ length (held_up_to sets q k)) → k < s.n → r ≡ s.owner (k + 1) → IsRowTo s sets k r x
    → y.holders.items ≡ x.holders.items ++ map (λ q. holder q (get_or slots q 0)) (members (get_or sets k no_ranks)) → y.bounds.items ≡ x.bounds.items ++ length y.holders.items ∷ []
    → IsRowTo s sets (k + 1) r y
own_row s laws sets k r slots x y of_group slot l own h put grown =
    let m : ℕ = length x.bounds.items - 1 in
    let size = length_push x.bounds.items (length y.holders.items) in
    let next : m + 1 ≡ length y.bounds.items - 1 = omega (arith, ap length grown, h.laid.bounded.each) in
    subst (λ (j : ℕ). IsFilledTo (λ i. holders_by sets (s.global r i)) (s.global r) (s.count r) (k + 1) j y.bounds.items y.holders.items) next
    (filled_own s laws (λ i. holders_by sets (s.global r i)) r k m x.bounds.items y.bounds.items x.holders.items y.holders.items
    (map (λ q. holder q (get_or slots q 0)) (members (get_or sets k no_ranks))) (length y.holders.items) l own h
    (λ at. holders_next sets s.ranks k (s.global r m) slots of_group slot at) put refl grown)

pub more_filled : (s : Sharing) → IsSharing s → (sets : List RankSet) (k r : ℕ) (rows : List HolderRows) (slots lent slots' : List ℕ) (x y : HolderRows)
    → All (λ q. q < s.ranks) (members (get_or sets k no_ranks)) → k < s.n → r ≡ s.owner (k + 1) → AreFilledTo s sets k rows slots → x ≡ get_or rows r x → lent ≡ slots
    → y.holders.items ≡ x.holders.items ++ map (λ q. holder q (get_or lent q 0)) (members (get_or sets k no_ranks)) → y.bounds.items ≡ x.bounds.items ++ length y.holders.items ∷ []
    → length slots' ≡ length lent → ((q : ℕ) → q < length lent → get_or slots' q 0 ≡ get_or lent q 0 + (if has (get_or sets k no_ranks) q then 1 else 0))
    → AreFilledTo s sets (k + 1) (set rows r y) slots'
more_filled s laws sets k r rows slots lent slots' x y of_group l own h is same put grown each moved =
    let rank : r < s.ranks = subst (λ (q : ℕ). q < s.ranks) (sym own) (laws.owner_is_rank (k + 1) (omega arith) (omega arith)) in
    let sizes = ap length same in
    let inside : r < length rows = omega (arith, h.each) in
    let slot : (q : ℕ) → q < s.ranks → get_or lent q 0 ≡ length (held_up_to sets q k) = λ q b. ap (λ (xs : List ℕ). get_or xs q 0) same ∙ h.slot q b in
    let was : IsRowTo s sets k r x = subst (IsRowTo s sets k r) (sym is) (h.row r x rank) in
    let size : length y.holders.items ≡ holders_to sets s.owner r (k + 1) =
    omega (
      arith,
      ap length put,
      length-append x.holders.items (map (λ q. holder q (get_or lent q 0)) (members (get_or sets k no_ranks))),
      length-map (members (get_or sets k no_ranks)) (λ q. holder q (get_or lent q 0)),
      ap (λ (z : HolderRows). length z.holders.items) is,
      h.held r x rank,
      own_holders sets s.owner r k own,
    ) in
    let now : IsRowTo s sets (k + 1) r y = own_row s laws sets k r lent x y of_group slot l own was put grown in
    record {
      each = length-set rows r y ∙ h.each;
      row = λ q d b. elim (cases_eq r q) [
        | inl at ↦ subst (λ (i : ℕ). IsRowTo s sets (k + 1) i (get_or (set rows r y) i d)) at (subst (IsRowTo s sets (k + 1) r) (sym (get_or-set_same rows r y d inside)) now)
        | inr apart ↦
            subst (IsRowTo s sets (k + 1) q) (sym (get_or-set_other rows r q y d (λ e. apart (sym e))))
            (filled_other s laws (λ i. holders_by sets (s.global q i)) q k (length (get_or rows q d).bounds.items - 1) (get_or rows q d).bounds.items (get_or rows q d).holders.items
            b (λ e. apart (own ∙ sym e)) (h.row q d b))
      ];
      each_slot = omega (arith, h.each_slot);
      slot = λ q b. moved q (omega (arith, h.each_slot)) ∙ (ap (λ (j : ℕ). j + (if has (get_or sets k no_ranks) q then 1 else 0)) (slot q b) ∙ sym (held_next sets q k));
      held = λ q d b. elim (cases_eq r q) [
        | inl at ↦
            subst (λ (i : ℕ). length (get_or (set rows r y) i d).holders.items ≡ holders_to sets s.owner i (k + 1)) at
            (ap (λ (z : HolderRows). length z.holders.items) (get_or-set_same rows r y d inside) ∙ size)
        | inr apart ↦
            ap (λ (z : HolderRows). length z.holders.items) (get_or-set_other rows r q y d (λ e. apart (sym e)))
            ∙ (h.held q d b ∙ sym (no_holders sets s.owner q k (λ e. apart (own ∙ sym e))))
      ];
    }

pub all_filled : (s : Sharing) → IsSharing s → (sets : List RankSet) (k : ℕ) (rows : List HolderRows) (slots : List ℕ) → AreFilledTo s sets k rows slots → k ≡ s.n
    → (r : ℕ) (d : HolderRows) → r < s.ranks → AreRows (λ i. holders_by sets (s.global r i)) (s.count r) (get_or rows r d).bounds.items (get_or rows r d).holders.items
all_filled s laws sets k rows slots h end = λ r d l.
    filled_whole (λ i. holders_by sets (s.global r i)) (s.global r) (s.count r) k (length (get_or rows r d).bounds.items - 1) (get_or rows r d).bounds.items (get_or rows r d).holders.items
    (h.row r d l) (λ i b. omega (arith, laws.global_last r i l b))

-- Each rank has room for the rows of all its places and for all its holders.
pub record HaveRoom (s : Sharing) (sets : List RankSet) (rows : List HolderRows) : Type 0 where
  pub places : (r : ℕ) (d : HolderRows) → r < s.ranks → vec_capacity (get_or rows r d).bounds ≡ s.count r + 1
  pub holders : (r : ℕ) (d : HolderRows) → r < s.ranks → vec_capacity (get_or rows r d).holders ≡ holders_to sets s.owner r s.n

pub room_stays : (s : Sharing) (sets : List RankSet) (rows : List HolderRows) (r : ℕ) (x y : HolderRows) → HaveRoom s sets rows → r < length rows → x ≡ get_or rows r x
    → vec_capacity y.bounds ≡ vec_capacity x.bounds → vec_capacity y.holders ≡ vec_capacity x.holders → HaveRoom s sets (set rows r y)
room_stays s sets rows r x y h inside is bounds holders = record {
  places = λ q d l. elim (cases_eq r q) [
    | inl at ↦
        ap (λ (i : ℕ). vec_capacity (get_or (set rows r y) i d).bounds) (sym at)
        ∙ (ap (λ (z : HolderRows). vec_capacity z.bounds) (get_or-set_same rows r y d inside)
        ∙ (bounds ∙ (ap (λ (z : HolderRows). vec_capacity z.bounds) is ∙ (ap (λ (i : ℕ). vec_capacity (get_or rows i x).bounds) at ∙ h.places q x l))))
    | inr apart ↦ ap (λ (z : HolderRows). vec_capacity z.bounds) (get_or-set_other rows r q y d (λ e. apart (sym e))) ∙ h.places q d l
  ];
  holders = λ q d l. elim (cases_eq r q) [
    | inl at ↦
        ap (λ (i : ℕ). vec_capacity (get_or (set rows r y) i d).holders) (sym at)
        ∙ (ap (λ (z : HolderRows). vec_capacity z.holders) (get_or-set_same rows r y d inside)
        ∙ (holders ∙ (ap (λ (z : HolderRows). vec_capacity z.holders) is ∙ (ap (λ (i : ℕ). vec_capacity (get_or rows i x).holders) at ∙ h.holders q x l))))
    | inr apart ↦ ap (λ (z : HolderRows). vec_capacity z.holders) (get_or-set_other rows r q y d (λ e. apart (sym e))) ∙ h.holders q d l
  ];
}

-- there is room for the next vertex's row
pub room_for_next : (s : Sharing) → IsSharing s → (sets : List RankSet) (k r : ℕ) (rows : List HolderRows) (slots : List ℕ) (x : HolderRows) → AreFilledTo s sets k rows slots → HaveRoom s sets rows
    → k < s.n → r ≡ s.owner (k + 1) → x ≡ get_or rows r x
    → (length x.bounds.items < vec_capacity x.bounds) × (length x.holders.items + length (members (get_or sets k no_ranks)) ≤ vec_capacity x.holders)
room_for_next s laws sets k r rows slots x h room l own is =
    let rank : r < s.ranks = subst (λ (q : ℕ). q < s.ranks) (sym own) (laws.owner_is_rank (k + 1) (omega arith) (omega arith)) in
    let local : s.local (k + 1) < s.count r = subst (λ (q : ℕ). s.local (k + 1) < s.count q) (sym own) (laws.local_below (k + 1) (omega arith) (omega arith)) in
    let was : IsRowTo s sets k r x = subst (IsRowTo s sets k r) (sym is) (h.row r x rank) in
    let place = next_place s laws (λ i. holders_by sets (s.global r i)) r k (length x.bounds.items - 1) x.bounds.items x.holders.items l own was in
    let whole : k + 1 + (s.n - (k + 1)) ≡ s.n = omega arith in (
      omega (arith, was.laid.bounded.each, place, local, ap (λ (z : HolderRows). vec_capacity z.bounds) is, room.places r x rank),
      omega (
        arith,
        ap (λ (z : HolderRows). length z.holders.items) is,
        h.held r x rank,
        own_holders sets s.owner r k own,
        holders_mono sets s.owner r (k + 1) (s.n - (k + 1)),
        ap (holders_to sets s.owner r) whole,
        ap (λ (z : HolderRows). vec_capacity z.holders) is,
        room.holders r x rank,
      ),
    )
