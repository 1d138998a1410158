-- Lists of places stay what they are as places are linked and unlinked.
use Rattle.std.proofs.Common.{◌≡◌, ◌≢◌, ◌+◌, ◌<◌, ◌≤◌, ℕ, List, length, set, sym, ap, ◌∙◌, inl, inr, arith}
use Rattle.std.proofs.lemmas.Bool.{cases_eq}
use Rattle.std.proofs.lemmas.List.{get_or-set_same, get_or-set_other, length-set}
use Rattle.pg_agenda.specs.PlaceLists.{AreLinked, link_at}

-- a link after two writes
pub link_last : (links : List ℕ) (a b p q : ℕ) → p < length links → link_at (set (set links a b) p q) p ≡ q
link_last links a b p q lt = get_or-set_same (set links a b) p q 0 (omega (arith, length-set links a b))

pub link_first : (links : List ℕ) (a b p q : ℕ) → a < length links → a ≢ p → link_at (set (set links a b) p q) a ≡ b
link_first links a b p q lt ne = get_or-set_other (set links a b) p a q 0 ne ∙ get_or-set_same links a b 0 lt

pub link_else : (links : List ℕ) (a b p q x : ℕ) → x ≢ p → x ≢ a → link_at (set (set links a b) p q) x ≡ link_at links x
link_else links a b p q x ne other = get_or-set_other (set links a b) p x q 0 ne ∙ get_or-set_other links a x b 0 other

-- What a place is moved to.
pub record IsMoved (p to : ℕ) (home stamp home' stamp' : ℕ → ℕ) (clock clock' : ℕ) : Type 0 where
  pub here : home' p ≡ to
  pub newest : stamp' p ≡ clock + 1
  pub others : (x : ℕ) → x ≢ p → home' x ≡ home x
  pub older : (x : ℕ) → x ≢ p → stamp' x ≡ stamp x
  pub counted : clock' ≡ clock + 1

known_more : (p to : ℕ) (home stamp home' stamp' : ℕ → ℕ) (clock clock' : ℕ) → IsMoved p to home stamp home' stamp' clock clock'
    → ((x : ℕ) → stamp x ≤ clock) → (x : ℕ) → stamp' x ≤ clock'
known_more p to home stamp home' stamp' clock clock' m known x = elim (cases_eq x p) [
  | inl e ↦ omega (arith, ap stamp' e, m.newest, m.counted)
  | inr ne ↦ omega (arith, m.older x ne, m.counted, known x)
]

-- How the links around p change when it is taken out.
pub record IsUnlinked (p : ℕ) (next prev next' prev' : ℕ → ℕ) : Type 0 where
  pub next_here : next' p ≡ p
  pub prev_here : prev' p ≡ p
  pub next_over : prev p ≢ p → next' (prev p) ≡ next p
  pub prev_over : next p ≢ p → prev' (next p) ≡ prev p
  pub next_else : (x : ℕ) → x ≢ p → x ≢ prev p → next' x ≡ next x
  pub prev_else : (x : ℕ) → x ≢ p → x ≢ next p → prev' x ≡ prev x

pub unlinked : {count nodes : ℕ} {next prev home stamp next' prev' home' stamp' : ℕ → ℕ} {clock clock' : ℕ} (p : ℕ) → p < count → count ≤ nodes → AreLinked count nodes next prev home stamp clock → IsUnlinked p next prev next' prev'
    → IsMoved p p home stamp home' stamp' clock clock' → AreLinked count nodes next' prev' home' stamp' clock'
unlinked {count} {nodes} {next} {prev} {home} {stamp} {next'} {prev'} {home'} {stamp'} {clock} {clock'} p lt le l u m = record {
  after = λ x in_range. elim (cases_eq x p) [
    | inl e ↦ omega (arith, ap next' e, u.next_here)
    | inr ne ↦ elim (cases_eq x (prev p)) [
      | inl e ↦ omega (arith, ap next' e, u.next_over (λ f. ne (e ∙ f)), l.after p (omega arith))
      | inr other ↦ omega (arith, u.next_else x ne other, l.after x in_range)
    ]
  ];
  before = λ x in_range. elim (cases_eq x p) [
    | inl e ↦ omega (arith, ap prev' e, u.prev_here)
    | inr ne ↦ elim (cases_eq x (next p)) [
      | inl e ↦ omega (arith, ap prev' e, u.prev_over (λ f. ne (e ∙ f)), l.before p (omega arith))
      | inr other ↦ omega (arith, u.prev_else x ne other, l.before x in_range)
    ]
  ];
  back = λ x in_range. elim (cases_eq x p) [
    | inl e ↦ ap (λ y. prev' (next' y)) e ∙ ap prev' u.next_here ∙ u.prev_here ∙ sym e
    | inr ne ↦ elim (cases_eq x (prev p)) [
      | inl e ↦
          let a : prev p ≢ p = λ f. ne (e ∙ f) in
          let b : next p ≢ p = λ f. a (sym (ap prev f) ∙ l.back p (omega arith)) in
          ap (λ y. prev' (next' y)) e ∙ ap prev' (u.next_over a) ∙ u.prev_over b ∙ sym e
      | inr other ↦
          let c : next x ≢ p = λ f. other (sym (l.back x in_range) ∙ ap prev f) in
          let d : next x ≢ next p = λ f. ne (sym (l.back x in_range) ∙ ap prev f ∙ l.back p (omega arith)) in
          ap prev' (u.next_else x ne other) ∙ u.prev_else (next x) c d ∙ l.back x in_range
    ]
  ];
  forth = λ x in_range. elim (cases_eq x p) [
    | inl e ↦ ap (λ y. next' (prev' y)) e ∙ ap next' u.prev_here ∙ u.next_here ∙ sym e
    | inr ne ↦ elim (cases_eq x (next p)) [
      | inl e ↦
          let b : next p ≢ p = λ f. ne (e ∙ f) in
          let a : prev p ≢ p = λ f. b (sym (ap next f) ∙ l.forth p (omega arith)) in
          ap (λ y. next' (prev' y)) e ∙ ap next' (u.prev_over b) ∙ u.next_over a ∙ sym e
      | inr other ↦
          let c : prev x ≢ p = λ f. other (sym (l.forth x in_range) ∙ ap next f) in
          let d : prev x ≢ prev p = λ f. ne (sym (l.forth x in_range) ∙ ap next f ∙ l.forth p (omega arith)) in
          ap next' (u.prev_else x ne other) ∙ u.next_else (prev x) c d ∙ l.forth x in_range
    ]
  ];
  same = λ x in_range. elim (cases_eq x p) [
    | inl e ↦ ap (λ y. home' (next' y)) e ∙ ap home' u.next_here ∙ ap home' (sym e)
    | inr ne ↦ elim (cases_eq x (prev p)) [
      | inl e ↦
          let a : prev p ≢ p = λ f. ne (e ∙ f) in
          let b : next p ≢ p = λ f. a (sym (ap prev f) ∙ l.back p (omega arith)) in
          let round : home p ≡ home (prev p) = sym (ap home (l.forth p (omega arith))) ∙ l.same (prev p) (l.before p (omega arith)) in
          ap (λ y. home' (next' y)) e ∙ ap home' (u.next_over a) ∙ m.others (next p) b ∙ l.same p (omega arith) ∙ round ∙ ap home (sym e) ∙ sym (m.others x ne)
      | inr other ↦
          let c : next x ≢ p = λ f. other (sym (l.back x in_range) ∙ ap prev f) in
          ap home' (u.next_else x ne other) ∙ m.others (next x) c ∙ l.same x in_range ∙ sym (m.others x ne)
    ]
  ];
  heads = λ x le. m.others x (λ e. omega arith) ∙ l.heads x le;
  newer = λ x in_places linked place_before. elim (cases_eq x p) [
    | inl e ↦ absurd (omega (arith, ap home' e, m.here))
    | inr ne ↦ elim (cases_eq x (next p)) [
      | inl e ↦
          let b : next p ≢ p = λ f. ne (e ∙ f) in
          let a : prev p ≢ p = λ f. b (sym (ap next f) ∙ l.forth p (omega arith)) in
          let was : prev' x ≡ prev p = ap prev' e ∙ u.prev_over b in
          let of_x : prev x ≡ p = ap prev e ∙ l.back p (omega arith) in
          let home_x : home' x ≡ home x = m.others x ne in
          let home_p : home x ≡ home p = ap home e ∙ l.same p (omega arith) in
          let first : stamp x < stamp (prev x) = l.newer x in_places (omega arith) (omega arith) in
          let second : stamp p < stamp (prev p) = l.newer p lt (omega arith) (omega arith) in
          omega (arith, first, ap stamp of_x, second, m.older x ne, m.older (prev p) a, ap stamp' was)
      | inr other ↦
          let c : prev x ≢ p = λ f. other (sym (l.forth x (omega arith)) ∙ ap next f) in
          let was : prev' x ≡ prev x = u.prev_else x ne other in
          let home_x : home' x ≡ home x = m.others x ne in
          let first : stamp x < stamp (prev x) = l.newer x in_places (omega arith) (omega arith) in
          omega (arith, first, m.older x ne, m.older (prev x) c, ap stamp' was)
    ]
  ];
  known = known_more p p home stamp home' stamp' clock clock' m l.known;
  moved = λ x in_places is_linked. elim (cases_eq x p) [
    | inl e ↦ absurd (omega (arith, ap home' e, m.here))
    | inr ne ↦ omega (arith, m.older x ne, l.moved x in_places (omega (arith, m.others x ne)))
  ];
  still = λ x le. m.older x (λ e. omega arith) ∙ l.still x le;
}

-- How the links around the head s change when p is put in front.
pub record IsFront (p s : ℕ) (next prev next' prev' : ℕ → ℕ) : Type 0 where
  pub next_head : next' s ≡ p
  pub next_here : next' p ≡ next s
  pub prev_here : prev' p ≡ s
  pub prev_over : prev' (next s) ≡ p
  pub next_else : (x : ℕ) → x ≢ p → x ≢ s → next' x ≡ next x
  pub prev_else : (x : ℕ) → x ≢ p → x ≢ next s → prev' x ≡ prev x

pub linked : {count nodes : ℕ} {next prev home stamp next' prev' home' stamp' : ℕ → ℕ} {clock clock' : ℕ} (p s : ℕ) → p < count → count ≤ s → s < nodes → next p ≡ p → prev p ≡ p → AreLinked count nodes next prev home stamp clock → IsFront p s next prev next' prev'
    → IsMoved p s home stamp home' stamp' clock clock' → AreLinked count nodes next' prev' home' stamp' clock'
linked {count} {nodes} {next} {prev} {home} {stamp} {next'} {prev'} {home'} {stamp'} {clock} {clock'} p s lt head in_nodes alone_next alone_prev l u m =
    let apart : s ≢ p = λ e. omega arith in
    let b : next s ≢ p = λ f. apart (sym (l.back s in_nodes) ∙ ap prev f ∙ alone_prev) in
    record {
      after = λ x in_range. elim (cases_eq x p) [
        | inl e ↦ omega (arith, ap next' e, u.next_here, l.after s in_nodes)
        | inr ne ↦ elim (cases_eq x s) [
          | inl e ↦ omega (arith, ap next' e, u.next_head)
          | inr other ↦ omega (arith, u.next_else x ne other, l.after x in_range)
        ]
      ];
      before = λ x in_range. elim (cases_eq x p) [
        | inl e ↦ omega (arith, ap prev' e, u.prev_here)
        | inr ne ↦ elim (cases_eq x (next s)) [
          | inl e ↦ omega (arith, ap prev' e, u.prev_over)
          | inr other ↦ omega (arith, u.prev_else x ne other, l.before x in_range)
        ]
      ];
      back = λ x in_range. elim (cases_eq x p) [
        | inl e ↦ ap (λ y. prev' (next' y)) e ∙ ap prev' u.next_here ∙ u.prev_over ∙ sym e
        | inr ne ↦ elim (cases_eq x s) [
          | inl e ↦ ap (λ y. prev' (next' y)) e ∙ ap prev' u.next_head ∙ u.prev_here ∙ sym e
          | inr other ↦
              let c : next x ≢ p = λ f. ne (sym (l.back x in_range) ∙ ap prev f ∙ alone_prev) in
              let d : next x ≢ next s = λ f. other (sym (l.back x in_range) ∙ ap prev f ∙ l.back s in_nodes) in
              ap prev' (u.next_else x ne other) ∙ u.prev_else (next x) c d ∙ l.back x in_range
        ]
      ];
      forth = λ x in_range. elim (cases_eq x p) [
        | inl e ↦ ap (λ y. next' (prev' y)) e ∙ ap next' u.prev_here ∙ u.next_head ∙ sym e
        | inr ne ↦ elim (cases_eq x (next s)) [
          | inl e ↦ ap (λ y. next' (prev' y)) e ∙ ap next' u.prev_over ∙ u.next_here ∙ sym e
          | inr other ↦
              let c : prev x ≢ p = λ f. ne (sym (l.forth x in_range) ∙ ap next f ∙ alone_next) in
              let d : prev x ≢ s = λ f. other (sym (l.forth x in_range) ∙ ap next f) in
              ap next' (u.prev_else x ne other) ∙ u.next_else (prev x) c d ∙ l.forth x in_range
        ]
      ];
      same = λ x in_range. elim (cases_eq x p) [
        | inl e ↦ ap (λ y. home' (next' y)) e ∙ ap home' u.next_here ∙ m.others (next s) b ∙ l.same s in_nodes ∙ l.heads s head ∙ sym m.here ∙ ap home' (sym e)
        | inr ne ↦ elim (cases_eq x s) [
          | inl e ↦ ap (λ y. home' (next' y)) e ∙ ap home' u.next_head ∙ m.here ∙ sym (l.heads s head) ∙ ap home (sym e) ∙ sym (m.others x ne)
          | inr other ↦
              let c : next x ≢ p = λ f. ne (sym (l.back x in_range) ∙ ap prev f ∙ alone_prev) in
              ap home' (u.next_else x ne other) ∙ m.others (next x) c ∙ l.same x in_range ∙ sym (m.others x ne)
        ]
      ];
      heads = λ x le. m.others x (λ e. omega arith) ∙ l.heads x le;
      newer = λ x in_places is_linked place_before. elim (cases_eq x p) [
        | inl e ↦ absurd (omega (arith, ap prev' e, u.prev_here))
        | inr ne ↦ elim (cases_eq x (next s)) [
          | inl e ↦
              let was : prev' x ≡ p = ap prev' e ∙ u.prev_over in
              omega (arith, l.known x, m.older x ne, m.newest, ap stamp' was)
          | inr other ↦
              let c : prev x ≢ p = λ f. ne (sym (l.forth x (omega arith)) ∙ ap next f ∙ alone_next) in
              let was : prev' x ≡ prev x = u.prev_else x ne other in
              let home_x : home' x ≡ home x = m.others x ne in
              let first : stamp x < stamp (prev x) = l.newer x in_places (omega arith) (omega arith) in
              omega (arith, first, m.older x ne, m.older (prev x) c, ap stamp' was)
        ]
      ];
      known = known_more p s home stamp home' stamp' clock clock' m l.known;
      moved = λ x in_places is_linked. elim (cases_eq x p) [
        | inl e ↦ omega (arith, ap stamp' e, m.newest)
        | inr ne ↦ omega (arith, m.older x ne, l.moved x in_places (omega (arith, m.others x ne)))
      ];
      still = λ x le. m.older x (λ e. omega arith) ∙ l.still x le;
    }

abbrev AreListsLinked : ℕ → List ℕ → List ℕ → (ℕ → ℕ) → (ℕ → ℕ) → ℕ → Type 0
AreListsLinked count next prev home stamp clock = AreLinked count (length next) (link_at next) (link_at prev) home stamp clock

pub length_twice : (links : List ℕ) (a b p q : ℕ) → length (set (set links a b) p q) ≡ length links
length_twice links a b p q = omega (arith, length-set (set links a b) p q, length-set links a b)

-- the writes that take p out
pub unlinked_by : {count : ℕ} {home stamp home' stamp' : ℕ → ℕ} {clock clock' : ℕ} (next prev : List ℕ) (p a b : ℕ) → p < count → count ≤ length next → length prev ≡ length next
    → a ≡ link_at prev p → b ≡ link_at next p → AreListsLinked count next prev home stamp clock → IsMoved p p home stamp home' stamp' clock clock'
    → AreListsLinked count (set (set next a b) p p) (set (set prev b a) p p) home' stamp' clock'
unlinked_by next prev p a b lt le as_many e f l m =
    let in_nodes : p < length next = omega arith in
    let in_a : a < length next = omega (arith, e, l.before p in_nodes) in
    let in_b : b < length prev = omega (arith, f, l.after p in_nodes) in
    rw (length_twice next a b p p) (unlinked p lt le l (record {
      next_here = link_last next a b p p in_nodes;
      prev_here = link_last prev b a p p (omega arith);
      next_over = λ ne. ap (link_at (set (set next a b) p p)) (sym e) ∙ link_first next a b p p in_a (λ g. ne (sym e ∙ g)) ∙ f;
      prev_over = λ ne. ap (link_at (set (set prev b a) p p)) (sym f) ∙ link_first prev b a p p in_b (λ g. ne (sym f ∙ g)) ∙ e;
      next_else = λ x ne other. link_else next a b p p x ne (λ g. other (g ∙ e));
      prev_else = λ x ne other. link_else prev b a p p x ne (λ g. other (g ∙ f));
    }) m)

-- the writes that put p in front of a list
pub linked_by : {count : ℕ} {home stamp home' stamp' : ℕ → ℕ} {clock clock' : ℕ} (next prev : List ℕ) (p s b : ℕ) → p < count → count ≤ s → s < length next → length prev ≡ length next
    → link_at next p ≡ p → link_at prev p ≡ p → b ≡ link_at next s → AreListsLinked count next prev home stamp clock → IsMoved p s home stamp home' stamp' clock clock'
    → AreListsLinked count (set (set next p b) s p) (set (set prev b p) p s) home' stamp' clock'
linked_by next prev p s b lt head in_nodes as_many alone_next alone_prev e l m =
    let p_in : p < length next = omega arith in
    let in_b : b < length prev = omega (arith, e, l.after s in_nodes) in
    let apart : p ≢ s = λ g. omega arith in
    let over : b ≢ p = λ g. apart (sym alone_prev ∙ ap (link_at prev) (sym g ∙ e) ∙ l.back s in_nodes) in
    rw (length_twice next p b s p) (linked p s lt head in_nodes alone_next alone_prev l (record {
      next_head = link_last next p b s p in_nodes;
      next_here = link_first next p b s p p_in apart ∙ e;
      prev_here = link_last prev b p p s (omega arith);
      prev_over = ap (link_at (set (set prev b p) p s)) (sym e) ∙ link_first prev b p p s in_b over;
      next_else = λ x ne other. link_else next p b s p x other ne;
      prev_else = λ x ne other. link_else prev b p p s x ne (λ g. other (g ∙ e));
    }) m)

-- nodes of which each leads to itself
pub all_alone : (count : ℕ) (next prev : List ℕ) (home stamp : ℕ → ℕ) (clock : ℕ) → length prev ≡ length next → ((x : ℕ) → x < length next → link_at next x ≡ x)
    → ((x : ℕ) → x < length next → link_at prev x ≡ x) → ((x : ℕ) → home x ≡ x) → ((x : ℕ) → stamp x ≡ 0) → AreListsLinked count next prev home stamp clock
all_alone count next prev home stamp clock as_many own_next own_prev own none = record {
  after = λ x lt. omega (arith, own_next x lt);
  before = λ x lt. omega (arith, own_prev x lt);
  back = λ x lt. ap (link_at prev) (own_next x lt) ∙ own_prev x lt;
  forth = λ x lt. ap (link_at next) (own_prev x lt) ∙ own_next x lt;
  same = λ x lt. ap home (own_next x lt);
  heads = λ x le. own x;
  newer = λ x lt linked place. absurd (omega (arith, own x));
  known = λ x. omega (arith, none x);
  moved = λ x lt linked. absurd (omega (arith, own x));
  still = λ x le. none x;
}
