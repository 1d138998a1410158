-- One row more behind those that lie already.
use Rattle.std.proofs.Common.{◌≡◌, ℕ, ◌+◌, ◌<◌, ◌≤◌, List, [], ◌∷◌, ◌++◌, length, get_or, All, sym, ap, subst, ◌∙◌, inl, inr, arith}
use Rattle.std.specs.List.{between}
use Rattle.std.proofs.lemmas.Bool.{cases_lt, cases_eq, eq-eqb, ne_eqb}
use Rattle.std.proofs.lemmas.List.{same_lists, length-append, length_push, get_or_append_left, get_or-append-add, get_or_push}
use Rattle.std.proofs.lemmas.List.Edits.{length-between, get_or-between}
use Rattle.std.proofs.lemmas.List.Elements.{All-nil, All-cons, All-weaker}
use Rattle.pg_base.specs.declared.edges.Edge.{Edge}
use Rattle.pg_base.specs.Keyed.{items_of}
use Rattle.pg_adj.specs.Incidence.{incidences}
use Rattle.pg_adj.specs.Division.{AreRows}

between_left : {X : Type 0} (xs ys : List X) (i j : ℕ) → j ≤ length xs → between i j (xs ++ ys) ≡ between i j xs
between_left xs ys i j h =
    let whole = length-append xs ys in
    let left = length-between (xs ++ ys) i j (omega arith) in
    let right = length-between xs i j h in
    same_lists (between i j (xs ++ ys)) (between i j xs) (omega arith)
    (λ k d l. get_or-between (xs ++ ys) i j k d (omega arith) ∙ (get_or_append_left xs ys d (i + k) (omega arith) ∙ sym (get_or-between xs i j k d (omega arith))))

between_right : {X : Type 0} (xs ys : List X) (i j : ℕ) → i ≡ length xs → j ≡ length (xs ++ ys) → between i j (xs ++ ys) ≡ ys
between_right {X} xs ys i j b e =
    let whole = length-append xs ys in
    let left = length-between (xs ++ ys) i j (omega arith) in
    same_lists (between i j (xs ++ ys)) ys (omega arith)
    (λ k d l. get_or-between (xs ++ ys) i j k d (omega arith) ∙ (ap (λ (n : ℕ). get_or (xs ++ ys) (n + k) d) b ∙ get_or-append-add xs ys k d))

rows_push : {X : Type 0} (rows : ℕ → List X) (i : ℕ) (bounds : List ℕ) (items : List X) (last : ℕ) → AreRows rows i bounds items → last ≡ length (items ++ rows i)
    → AreRows rows (i + 1) (bounds ++ last ∷ []) (items ++ rows i)
rows_push {X} rows i bounds items last h e =
    let size = length-append items (rows i) in
    let each = h.bounded.each in
    let more = length_push bounds last in
    let end : get_or (bounds ++ last ∷ []) (i + 1) 0 ≡ last = get_or_push bounds last 0 (i + 1) each in
    let kept : (k : ℕ) → k ≤ i → get_or (bounds ++ last ∷ []) k 0 ≡ get_or bounds k 0 = λ k l. get_or_append_left bounds (last ∷ []) 0 k (omega arith) in
    record {
      bounded = record {
        each = omega arith;
        ascend = λ k l. elim (cases_lt k i) [
          | inl less ↦ let a = kept k (omega arith) in let b = kept (k + 1) (omega arith) in let c = h.bounded.ascend k less in omega arith
          | inr least ↦
              let at : k ≡ i = omega arith in
              let a = kept i (omega arith) in
              let b = h.last in
              subst (λ (n : ℕ). get_or (bounds ++ last ∷ []) n 0 ≤ get_or (bounds ++ last ∷ []) (n + 1) 0) (sym at) (omega arith)
        ];
        within = λ k l. elim (cases_lt k (i + 1)) [
          | inl less ↦ let a = kept k (omega arith) in let c = h.bounded.within k (omega arith) in omega arith
          | inr least ↦
              let at : k ≡ i + 1 = omega arith in
              subst (λ (n : ℕ). get_or (bounds ++ last ∷ []) n 0 ≤ length (items ++ rows i)) (sym at) (omega arith)
        ];
      };
      first = kept 0 (omega arith) ∙ h.first;
      last = end ∙ e;
      row = λ k l. elim (cases_lt k i) [
        | inl less ↦
            let a = kept k (omega arith) in
            let b = kept (k + 1) (omega arith) in
            let c = h.bounded.within (k + 1) (omega arith) in
            ap (λ (n : ℕ). between n (get_or (bounds ++ last ∷ []) (k + 1) 0) (items ++ rows i)) a
            ∙ (ap (λ (n : ℕ). between (get_or bounds k 0) n (items ++ rows i)) b
            ∙ (between_left items (rows i) (get_or bounds k 0) (get_or bounds (k + 1) 0) c ∙ h.row k less))
        | inr least ↦
            let at : k ≡ i = omega arith in
            subst (λ (n : ℕ). between (get_or (bounds ++ last ∷ []) n 0) (get_or (bounds ++ last ∷ []) (n + 1) 0) (items ++ rows i) ≡ rows n) (sym at)
            (between_right items (rows i) (get_or (bounds ++ last ∷ []) i 0) (get_or (bounds ++ last ∷ []) (i + 1) 0) (kept i (omega arith) ∙ h.last) (end ∙ e))
      ];
    }

pub rows_more : {X : Type 0} (rows : ℕ → List X) (i : ℕ) (bounds bounds' : List ℕ) (items items' : List X) (last : ℕ) (more : List X) → AreRows rows i bounds items
    → more ≡ rows i → items' ≡ items ++ more → last ≡ length items' → bounds' ≡ bounds ++ last ∷ [] → AreRows rows (i + 1) bounds' items'
rows_more {X} rows i bounds bounds' items items' last more h same put size grown =
    let put' : items' ≡ items ++ rows i = put ∙ ap (λ (xs : List X). items ++ xs) same in
    rw (grown, put') (rows_push rows i bounds items last h (size ∙ ap length put'))

-- the edges at a vertex are edges of the list
incidences-within : (k : ℕ) (edges : List Edge) (v : ℕ) → All (λ i. i < k + length edges) (items_of (incidences k edges) v)
incidences-within k [] v = All-nil (λ i. i < k + 0)
incidences-within k (e ∷ edges) v =
    let P : ℕ → Type 0 = λ i. i < k + length (e ∷ edges) in
    let rest : All P (items_of (incidences (k + 1) edges) v) = All-weaker (λ i. i < k + 1 + length edges) P (λ i h. omega arith) (items_of (incidences (k + 1) edges) v) (incidences-within (k + 1) edges v) in
    let here : P k = omega arith in
    let second : All P (items_of (record { key = e.v; item = k } ∷ incidences (k + 1) edges) v) = elim (cases_eq e.v v) [
      | inl same ↦ rw (eq-eqb e.v v same) (All-cons P k (items_of (incidences (k + 1) edges) v) here rest)
      | inr other ↦ rw (ne_eqb e.v v other) rest
    ] in
    elim (cases_eq e.u v) [
      | inl same ↦ rw (eq-eqb e.u v same) (All-cons P k (items_of (record { key = e.v; item = k } ∷ incidences (k + 1) edges) v) here second)
      | inr other ↦ rw (ne_eqb e.u v other) second
    ]

pub row-within : (edges : List Edge) (v : ℕ) (row : List ℕ) → row ≡ items_of (incidences 0 edges) v → All (λ i. i < length edges) row
row-within edges v row h = subst (λ (xs : List ℕ). All (λ i. i < length edges) xs) (sym h)
    (All-weaker (λ i. i < 0 + length edges) (λ i. i < length edges) (λ i l. omega arith) (items_of (incidences 0 edges) v) (incidences-within 0 edges v))
