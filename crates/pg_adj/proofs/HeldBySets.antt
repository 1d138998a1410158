-- The holders of a vertex by the ranks' lists of ghosts are those by the sets.
use Rattle.std.proofs.Common.{◌≡◌, ℕ, ◌+◌, ◌-◌, ◌<◌, ◌≤◌, Bool, true, false, cond, List, [], ◌∷◌, ◌++◌, length, get_or, take, map, filter, All, refl, sym, ap, subst, ◌∙◌, inl, inr, arith, zero, suc}
use Rattle.std.proofs.lemmas.Bool.{cases_Bool, cases_eq, cases_lt}
use Rattle.std.proofs.lemmas.List.{append-nil, map_push, length-map, length-append, take_all, get_or-append-add, nil_from_length}
use Rattle.std.proofs.lemmas.List.Elements.{All-nil, All-cons, All-weaker, All-filter, filter-append}
use Rattle.pg_base.specs.Keyed.{Keyed, items_of}
use Rattle.pg_base.proofs.KeyedRows.{items_of-append, items_of_push_same, items_of_push_other}
use Rattle.pg_adj.specs.declared.arcs.Arc.{Arc}
use Rattle.pg_adj.specs.declared.arcs.Ghost.{Ghost}
use Rattle.pg_adj.specs.declared.arcs.Holder.{Holder}
use Rattle.pg_adj.specs.declared.rank_sets.RankSet.{RankSet}
use Rattle.pg_adj.specs.Division.{leads_abroad, vertices_to, ghost_of, ghosts_of}
use Rattle.pg_adj.specs.Holdings.{holdings, holdings_of}
use Rattle.std.specs.List.{range_with_len}
use Rattle.pg_adj.specs.RankSets.{has, members, no_ranks, ranks_holding, held_up_to, holders_by}
use Rattle.pg_adj.proofs.HoldersMore.{holdings_more}

filter_keeps : (p : ℕ → Bool) (xs : List ℕ) (x : ℕ) → p x ≡ true → filter p (xs ++ x ∷ []) ≡ filter p xs ++ x ∷ []
filter_keeps p xs x passes = filter-append p xs (x ∷ []) ∙ ap (λ (b : Bool). filter p xs ++ cond {A = List ℕ} b (x ∷ []) []) passes

filter_drops : (p : ℕ → Bool) (xs : List ℕ) (x : ℕ) → p x ≡ false → filter p (xs ++ x ∷ []) ≡ filter p xs
filter_drops p xs x fails = filter-append p xs (x ∷ []) ∙ (ap (λ (b : Bool). filter p xs ++ cond {A = List ℕ} b (x ∷ []) []) fails ∙ append-nil (filter p xs))

-- the tests agree at each vertex
same_kept : (p q : ℕ → Bool) (n : ℕ) → ((k : ℕ) → k < n → p (k + 1) ≡ q (k + 1)) → filter p (vertices_to n) ≡ filter q (vertices_to n)
same_kept p q zero agree = refl
same_kept p q (suc n) agree =
    filter-append p (vertices_to n) ((n + 1) ∷ []) ∙ (ap (λ (vs : List ℕ). vs ++ filter p ((n + 1) ∷ [])) (same_kept p q n (λ k l. agree k (omega arith)))
    ∙ (ap (λ (b : Bool). filter q (vertices_to n) ++ cond {A = List ℕ} b ((n + 1) ∷ []) []) (agree n (omega arith)) ∙ sym (filter-append q (vertices_to n) ((n + 1) ∷ []))))

-- what the sets say that a rank holds is what its arcs lead to abroad
pub held_is_abroad : (sets : List RankSet) (owner local : ℕ → ℕ) (n r : ℕ) (arcs : List Arc) → ((k : ℕ) (e : RankSet) → k < n → has (get_or sets k e) r ≡ leads_abroad r arcs (k + 1))
    → map (ghost_of owner local) (held_up_to sets r n) ≡ ghosts_of owner local n r arcs
held_is_abroad sets owner local n r arcs agree =
    ap (λ (vs : List ℕ). map (ghost_of owner local) vs) (same_kept (λ v. has (ranks_holding sets v) r) (leads_abroad r arcs) n (λ k l.
    let back : k + 1 - 1 ≡ k = omega arith in
    ap (λ (i : ℕ). has (get_or sets i no_ranks) r) back ∙ agree k no_ranks l))

abbrev holder : ℕ → ℕ → Holder
holder rank slot = record { rank = record { 0 = rank }; slot = slot }

holdings_of_push : (rank slot : ℕ) (ghosts : List Ghost) (g : Ghost)
    → holdings_of rank slot (ghosts ++ g ∷ []) ≡ holdings_of rank slot ghosts ++ record { key = g.vertex.0; item = holder rank (slot + length ghosts) } ∷ []
holdings_of_push rank slot [] g =
    let at : slot ≡ slot + 0 = omega arith in
    ap (λ (k : ℕ). record { key = g.vertex.0; item = holder rank k } ∷ []) at
holdings_of_push rank slot (h ∷ ghosts) g =
    let at : slot + 1 + length ghosts ≡ slot + length (h ∷ ghosts) = omega arith in
    ap (λ (es : List (Keyed Holder)). record { key = h.vertex.0; item = holder rank slot } ∷ es) (holdings_of_push rank (slot + 1) ghosts g
    ∙ ap (λ (k : ℕ). holdings_of rank (slot + 1) ghosts ++ record { key = g.vertex.0; item = holder rank k } ∷ []) at)

-- the rank holds those of the vertices that pass
module _ (owner local : ℕ → ℕ) (p : ℕ → Bool) (rank : ℕ) where
  abbrev kept_to : ℕ → List (Keyed Holder)
  kept_to n = holdings_of rank 0 (map (ghost_of owner local) (filter p (vertices_to n)))

  abbrev last_kept : ℕ → Keyed Holder
  last_kept n = record { key = n + 1; item = holder rank (length (filter p (vertices_to n))) }

  kept_more : (n : ℕ) → p (n + 1) ≡ true → kept_to (suc n) ≡ kept_to n ++ last_kept n ∷ []
  kept_more n passes =
      let vs : List ℕ = filter p (vertices_to n) in
      let size : 0 + length (map (ghost_of owner local) vs) ≡ length vs = omega (arith, length-map vs (ghost_of owner local)) in
      ap (λ (ws : List ℕ). holdings_of rank 0 (map (ghost_of owner local) ws)) (filter_keeps p (vertices_to n) (n + 1) passes)
      ∙ (ap (λ (gs : List Ghost). holdings_of rank 0 gs) (map_push (ghost_of owner local) vs (n + 1))
      ∙ (holdings_of_push rank 0 (map (ghost_of owner local) vs) (ghost_of owner local (n + 1))
      ∙ ap (λ (slot : ℕ). kept_to n ++ record { key = n + 1; item = holder rank slot } ∷ []) size))

  kept_same : (n : ℕ) → p (n + 1) ≡ false → kept_to (suc n) ≡ kept_to n
  kept_same n fails = ap (λ (ws : List ℕ). holdings_of rank 0 (map (ghost_of owner local) ws)) (filter_drops p (vertices_to n) (n + 1) fails)

  none_before : (v n : ℕ) → n < v → items_of (kept_to n) v ≡ []
  none_before v zero l = refl
  none_before v (suc n) l = elim (cases_Bool (p (n + 1))) [
    | inl passes ↦ ap (λ (es : List (Keyed Holder)). items_of es v) (kept_more n passes)
        ∙ (items_of_push_other (kept_to n) (last_kept n) v (λ same. absurd (omega arith)) ∙ none_before v n (omega arith))
    | inr fails ↦ ap (λ (es : List (Keyed Holder)). items_of es v) (kept_same n fails) ∙ none_before v n (omega arith)
  ]

  abbrev own_holder : ℕ → List Holder
  own_holder v = cond (p v) (holder rank (length (filter p (vertices_to (v - 1)))) ∷ []) []

  holder_of_last : (n : ℕ) → items_of (kept_to (suc n)) (n + 1) ≡ own_holder (n + 1)
  holder_of_last n =
      let back : n ≡ n + 1 - 1 = omega arith in
      let slot : ℕ = length (filter p (vertices_to n)) in
      elim (cases_Bool (p (n + 1))) [
        | inl passes ↦ ap (λ (es : List (Keyed Holder)). items_of es (n + 1)) (kept_more n passes)
            ∙ (items_of_push_same (kept_to n) (last_kept n) (n + 1) refl
            ∙ (ap (λ (hs : List Holder). hs ++ holder rank slot ∷ []) (none_before (n + 1) n (omega arith))
            ∙ (ap (λ (b : Bool). cond {A = List Holder} b (holder rank slot ∷ []) []) (sym passes)
            ∙ ap (λ (k : ℕ). cond {A = List Holder} (p (n + 1)) (holder rank (length (filter p (vertices_to k))) ∷ []) []) back)))
        | inr fails ↦ ap (λ (es : List (Keyed Holder)). items_of es (n + 1)) (kept_same n fails)
            ∙ (none_before (n + 1) n (omega arith) ∙ ap (λ (b : Bool). cond {A = List Holder} b (holder rank (length (filter p (vertices_to (n + 1 - 1)))) ∷ []) []) (sym fails))
      ]

  holder_is : (v n : ℕ) → 1 ≤ v → v ≤ n → items_of (kept_to n) v ≡ own_holder v
  holder_is v zero first last = absurd (omega arith)
  holder_is v (suc n) first last = elim (cases_eq (n + 1) v) [
    | inl same ↦ subst (λ (w : ℕ). items_of (kept_to (suc n)) w ≡ own_holder w) same (holder_of_last n)
    | inr other ↦
        let before : items_of (kept_to n) v ≡ own_holder v = holder_is v n first (omega arith) in
        elim (cases_Bool (p (n + 1))) [
          | inl passes ↦ ap (λ (es : List (Keyed Holder)). items_of es v) (kept_more n passes) ∙ (items_of_push_other (kept_to n) (last_kept n) v other ∙ before)
          | inr fails ↦ ap (λ (es : List (Keyed Holder)). items_of es v) (kept_same n fails) ∙ before
        ]
  ]

range_with_len-append : (first count more all : ℕ) → count + more ≡ all → range_with_len first all ≡ range_with_len first count ++ range_with_len (first + count) more
range_with_len-append first zero more all whole =
    let at : first ≡ first + 0 = omega arith in
    let same : all ≡ more = omega arith in
    ap (λ (k : ℕ). range_with_len first k) same ∙ ap (λ (r : ℕ). range_with_len r more) at
range_with_len-append first (suc count) more zero whole = absurd (omega arith)
range_with_len-append first (suc count) more (suc all) whole =
    let at : first + 1 + count ≡ first + suc count = omega arith in
    ap (λ (rs : List ℕ). first ∷ rs) (range_with_len-append (first + 1) count more all (omega arith) ∙ ap (λ (r : ℕ). range_with_len (first + 1) count ++ range_with_len r more) at)

range_from_least : (first count : ℕ) → All (λ r. first ≤ r) (range_with_len first count)
range_from_least first zero = All-nil (λ (r : ℕ). first ≤ r)
range_from_least first (suc count) = All-cons (λ (r : ℕ). first ≤ r) first (range_with_len (first + 1) count) (omega arith)
    (All-weaker (λ (r : ℕ). first + 1 ≤ r) (λ (r : ℕ). first ≤ r) (λ r l. omega arith) (range_with_len (first + 1) count) (range_from_least (first + 1) count))

All-behind : {X : Type 0} (P : X → Type 0) (xs ys : List X) → All P (xs ++ ys) → All P ys
All-behind P xs ys all = λ k d l. subst P (get_or-append-add xs ys k d) (all (length xs + k) d (omega (arith, length-append xs ys)))

none_between : (m : ℕ) (rs : List ℕ) → All (λ r. r < m) rs → All (λ r. m ≤ r) rs → rs ≡ []
none_between m rs below least = elim (cases_lt 0 (length rs)) [
  | inl some ↦ let b = below 0 0 some in let l = least 0 0 some in absurd (omega arith)
  | inr none ↦ nil_from_length rs (omega arith)
]

-- where no rank from m on passes, the ranks before m have all that pass
front_has_all : (p : ℕ → Bool) (m more all : ℕ) → m + more ≡ all → All (λ r. r < m) (filter p (range_with_len 0 all)) → filter p (range_with_len 0 m) ≡ filter p (range_with_len 0 all)
front_has_all p m more all whole below =
    let at : 0 + m ≡ m = omega arith in
    let parts : filter p (range_with_len 0 all) ≡ filter p (range_with_len 0 m) ++ filter p (range_with_len m more) =
    ap (λ (rs : List ℕ). filter p rs) (range_with_len-append 0 m more all whole)
    ∙ (ap (λ (r : ℕ). filter p (range_with_len 0 m ++ range_with_len r more)) at ∙ filter-append p (range_with_len 0 m) (range_with_len m more)) in
    let rest : filter p (range_with_len m more) ≡ [] = none_between m (filter p (range_with_len m more))
    (All-behind (λ (r : ℕ). r < m) (filter p (range_with_len 0 m)) (filter p (range_with_len m more)) (subst (λ (rs : List ℕ). All (λ r. r < m) rs) parts below))
    (All-filter p (λ (r : ℕ). m ≤ r) (range_with_len m more) (range_from_least m more)) in
    sym (parts ∙ (ap (λ (rs : List ℕ). filter p (range_with_len 0 m) ++ rs) rest ∙ append-nil (filter p (range_with_len 0 m))))

map_kept_more : {Y : Type 0} (f : ℕ → Y) (p : ℕ → Bool) (k : ℕ) → map f (filter p (range_with_len 0 (suc k))) ≡ map f (filter p (range_with_len 0 k)) ++ cond (p k) (f k ∷ []) []
map_kept_more {Y} f p k =
    let at : 0 + k ≡ k = omega arith in
    let ranks : range_with_len 0 (suc k) ≡ range_with_len 0 k ++ k ∷ [] = range_with_len-append 0 k 1 (suc k) (omega arith) ∙ ap (λ (r : ℕ). range_with_len 0 k ++ r ∷ []) at in
    ap (λ (rs : List ℕ). map f (filter p rs)) ranks ∙ elim (cases_Bool (p k)) [
      | inl passes ↦ ap (λ (rs : List ℕ). map f rs) (filter_keeps p (range_with_len 0 k) k passes) ∙ (map_push f (filter p (range_with_len 0 k)) k
          ∙ ap (λ (b : Bool). map f (filter p (range_with_len 0 k)) ++ cond {A = List Y} b (f k ∷ []) []) (sym passes))
      | inr fails ↦ ap (λ (rs : List ℕ). map f rs) (filter_drops p (range_with_len 0 k) k fails) ∙ (sym (append-nil (map f (filter p (range_with_len 0 k))))
          ∙ ap (λ (b : Bool). map f (filter p (range_with_len 0 k)) ++ cond {A = List Y} b (f k ∷ []) []) (sym fails))
    ]

module _ (sets : List RankSet) (owner local : ℕ → ℕ) (n : ℕ) (lists : List (List Ghost))
    (held : (r : ℕ) (d : List Ghost) → r < length lists → get_or lists r d ≡ map (ghost_of owner local) (held_up_to sets r n)) (v : ℕ) (first : 1 ≤ v) (last : v ≤ n) where
  abbrev holder_in : ℕ → Holder
  holder_in r = holder r (length (held_up_to sets r (v - 1)))

  holders_of_front : (k : ℕ) → k ≤ length lists → items_of (holdings 0 (take k lists)) v ≡ map holder_in (filter (has (ranks_holding sets v)) (range_with_len 0 k))
  holders_of_front zero l = refl
  holders_of_front (suc k) l =
      let ghosts : List Ghost = map (ghost_of owner local) (held_up_to sets k n) in
      let next : suc k ≡ k + 1 = omega arith in
      ap (λ (j : ℕ). items_of (holdings 0 (take j lists)) v) next ∙ (ap (λ (es : List (Keyed Holder)). items_of es v) (holdings_more lists k ghosts (omega arith) (held k [] (omega arith)))
      ∙ (items_of-append (holdings 0 (take k lists)) (holdings_of k 0 ghosts) v
      ∙ (ap (λ (hs : List Holder). hs ++ items_of (holdings_of k 0 ghosts) v) (holders_of_front k (omega arith))
      ∙ (ap (λ (hs : List Holder). map holder_in (filter (has (ranks_holding sets v)) (range_with_len 0 k)) ++ hs) (holder_is owner local (λ w. has (ranks_holding sets w) k) k v n first last)
      ∙ sym (map_kept_more holder_in (has (ranks_holding sets v)) k)))))

-- the ranks' lists of ghosts and the sets say the same of who holds v
pub holders_are : (sets : List RankSet) (owner local : ℕ → ℕ) (n : ℕ) (lists : List (List Ghost)) → length lists ≤ 32
    → ((r : ℕ) (d : List Ghost) → r < length lists → get_or lists r d ≡ map (ghost_of owner local) (held_up_to sets r n))
    → (v : ℕ) → 1 ≤ v → v ≤ n → All (λ r. r < length lists) (members (ranks_holding sets v))
    → items_of (holdings 0 lists) v ≡ holders_by sets v
unfolding members
holders_are sets owner local n lists few held v first last below =
    let whole : length lists + (32 - length lists) ≡ 32 = omega arith in
    ap (λ (ls : List (List Ghost)). items_of (holdings 0 ls) v) (sym (take_all (length lists) lists (omega arith)))
    ∙ (holders_of_front sets owner local n lists held v first last (length lists) (omega arith)
    ∙ ap (λ (rs : List ℕ). map (λ r. holder r (length (held_up_to sets r (v - 1)))) rs) (front_has_all (has (ranks_holding sets v)) (length lists) (32 - length lists) 32 whole below))
