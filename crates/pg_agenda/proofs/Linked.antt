-- What linked lists of places tell.
use Rattle.std.proofs.Common.{◌≡◌, ◌≢◌, ◌+◌, ◌<◌, ◌≤◌, ℕ, zero, suc, sym, ap, ◌∙◌, inl, inr, arith}
use Rattle.std.proofs.lemmas.Bool.{cases_lt}
use Rattle.pg_agenda.specs.PlaceLists.{AreLinked}

-- the node after so many steps
abbrev pub steps : (ℕ → ℕ) → ℕ → ℕ → ℕ
steps next zero x = x
steps next (suc n) x = next (steps next n x)

module _ {count nodes : ℕ} {next prev home stamp : ℕ → ℕ} {clock : ℕ} where
  home_before : AreLinked count nodes next prev home stamp clock → (x : ℕ) → x < nodes → home (prev x) ≡ home x
  home_before l x lt = sym (l.same (prev x) (l.before x lt)) ∙ ap home (l.forth x lt)

  -- the head of another list isn't before a place
  pub head_apart : AreLinked count nodes next prev home stamp clock → (p s : ℕ) → p < nodes → count ≤ s → s ≢ home p → s ≢ prev p
  head_apart l p s lt le ne e = ne (sym (l.heads s le) ∙ ap home e ∙ home_before l p lt)

  -- the list of a place isn't bare: going back from the place one comes to its head
  reached : AreLinked count nodes next prev home stamp clock → count ≤ nodes → (fuel x : ℕ) → x < count → count ≤ home x → clock < stamp x + fuel → next (home x) ≢ home x
  reached l le zero x lt linked enough e = omega (arith, l.known x)
  reached l le (suc fuel) x lt linked enough e =
      let in_nodes : x < nodes = omega arith in
      let h : home (prev x) ≡ home x = home_before l x in_nodes in
      elim (cases_lt (prev x) count) [
        | inl place ↦
            let up : stamp x < stamp (prev x) = l.newer x lt linked place in
            reached l le fuel (prev x) place (omega arith) (omega arith) (ap next h ∙ e ∙ sym h)
        | inr head ↦
            let at_head : prev x ≡ home x = sym (l.heads (prev x) head) ∙ h in
            let next_is : next (home x) ≡ x = ap next (sym at_head) ∙ l.forth x in_nodes in
            omega arith
      ]

  pub bare : AreLinked count nodes next prev home stamp clock → count ≤ nodes → (s : ℕ) → count ≤ s → next s ≡ s → (x : ℕ) → x < count → home x ≢ s
  bare l le s head e x lt h = reached l le (clock + 1) x lt (omega arith) (omega arith) (ap next h ∙ e ∙ sym h)

  -- the first place of a list that isn't bare
  pub first_within : AreLinked count nodes next prev home stamp clock → (s : ℕ) → count ≤ s → s < nodes → next s ≢ s → next s < count
  first_within l s head lt ne = elim (cases_lt (next s) count) [
    | inl within ↦ within
    | inr past ↦ absurd (ne (sym (l.heads (next s) past) ∙ l.same s lt ∙ l.heads s head))
  ]

  pub first_home : AreLinked count nodes next prev home stamp clock → (s : ℕ) → count ≤ s → s < nodes → home (next s) ≡ s
  first_home l s head lt = l.same s lt ∙ l.heads s head

  -- the same from its end
  pub bare_before : AreLinked count nodes next prev home stamp clock → count ≤ nodes → (s : ℕ) → count ≤ s → s < nodes → prev s ≡ s → (x : ℕ) → x < count → home x ≢ s
  bare_before l le s head lt e = bare l le s head (ap next (sym e) ∙ l.forth s lt)

  pub last_within : AreLinked count nodes next prev home stamp clock → (s : ℕ) → count ≤ s → s < nodes → prev s ≢ s → prev s < count
  last_within l s head lt ne = elim (cases_lt (prev s) count) [
    | inl within ↦ within
    | inr past ↦ absurd (ne (sym (l.heads (prev s) past) ∙ home_before l s lt ∙ l.heads s head))
  ]

  pub last_home : AreLinked count nodes next prev home stamp clock → (s : ℕ) → count ≤ s → s < nodes → home (prev s) ≡ s
  last_home l s head lt = home_before l s lt ∙ l.heads s head

  -- the places of a list were moved there later than those that come after them
  pub earlier : AreLinked count nodes next prev home stamp clock → (p : ℕ) → p < count → count ≤ nodes → count ≤ home p → stamp (next p) < stamp p
  earlier l p lt le linked =
      let in_nodes : p < nodes = omega arith in
      elim (cases_lt (next p) count) [
        | inl place ↦
            let back : prev (next p) ≡ p = l.back p in_nodes in
            omega (arith, l.newer (next p) place (omega (arith, l.same p in_nodes)) (omega arith), ap stamp back)
        | inr head ↦ omega (arith, l.still (next p) head, l.moved p lt linked)
      ]

  -- a place of a list isn't its own neighbour
  pub not_own : AreLinked count nodes next prev home stamp clock → (p : ℕ) → p < count → count ≤ nodes → count ≤ home p → next p ≢ p
  not_own l p lt le linked e = omega (arith, earlier l p lt le linked, ap stamp e)

  -- whatever is passed on the way round from a head to it again are all places of its list
  pub covered : AreLinked count nodes next prev home stamp clock → count ≤ nodes → (k s : ℕ) → count ≤ s → steps next (suc k) s ≡ s
      → (fuel x : ℕ) → x < count → home x ≡ s → clock < stamp x + fuel → (j : ℕ) × (j < k) × (x ≡ steps next (suc j) s)
  covered l le k s head round zero x lt its enough = absurd (omega (arith, l.known x))
  covered l le k s head round (suc fuel) x lt its enough =
      let in_nodes : x < nodes = omega arith in
      let h : home (prev x) ≡ home x = home_before l x in_nodes in
      elim (cases_lt (prev x) count) [
        | inl place ↦
            let up : stamp x < stamp (prev x) = l.newer x lt (omega arith) place in
            let (j, less, e) = covered l le k s head round fuel (prev x) place (h ∙ its) (omega arith) in
            let next_is : x ≡ steps next (suc (suc j)) s = sym (l.forth x in_nodes) ∙ ap next e in
            elim (cases_lt (j + 1) k) [
              | inl more ↦ (suc j, omega arith, next_is)
              | inr last ↦
                  let same : suc j ≡ k = omega arith in
                  absurd (omega (arith, next_is ∙ ap (λ i. steps next (suc i) s) same ∙ round))
            ]
        | inr is_head ↦
            let at_head : prev x ≡ s = sym (l.heads (prev x) is_head) ∙ h ∙ its in
            let next_is : x ≡ next s = sym (l.forth x in_nodes) ∙ ap next at_head in
            elim (cases_lt 0 k) [
              | inl more ↦ (0, more, next_is)
              | inr last ↦
                  let same : 0 ≡ k = omega arith in
                  absurd (omega (arith, next_is ∙ ap (λ i. steps next (suc i) s) same ∙ round))
            ]
      ]

  pub place_of : AreLinked count nodes next prev home stamp clock → (x s : ℕ) → home x ≡ s → x ≢ s → x < count
  place_of l x s its ne = elim (cases_lt x count) [
    | inl lt ↦ lt
    | inr head ↦ absurd (ne (sym (l.heads x head) ∙ its))
  ]
