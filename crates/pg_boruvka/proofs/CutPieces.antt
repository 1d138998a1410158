-- The piece that is cut from the keys of labels.
use Rattle.std.proofs.Common.{◌≡◌, ◌≢◌, ℕ, ◌+◌, ◌-◌, ◌*◌, ◌<◌, ◌≤◌, List, ◌++◌, length, get_or, take, drop, refl, sym, ◌∙◌, ap, subst, ⊎_elim, arith}
use Rattle.std.specs.Prelude.{min, replicate, slice_index}
use Rattle.std.specs.List.{AllWithin, HoldsAt}
use Rattle.std.proofs.lemmas.Bool.{cases_lt}
use Rattle.std.proofs.lemmas.List.{length-take, length-drop, length-append, get_or-take, get_or-drop, get_or_append_left, get_or-append_right, get_or_past, get_or_default, get_or-replicate, ext_get_or}
use Rattle.pg_boruvka.specs.declared.TheConstants.{NO_KEY}
use Rattle.pg_boruvka.specs.declared.messages.Message.{Message}
use Rattle.pg_boruvka.specs.declared.messages.Message.TheVariants.{Piece as Keys}
use Rattle.pg_boruvka.specs.Winners.{entry, piece_from}
use Rattle.pg_boruvka.specs.Numbered.{IsPieceNo}
use Rattle.pg_boruvka.proofs.Pieces.{eight, eight_at, entry_within, entry_past}

-- Eight entries without a key.
abbrev pub blank : List ℕ
blank = replicate 8 NO_KEY

blank_at : (j : ℕ) → get_or blank j NO_KEY ≡ NO_KEY
blank_at j = ⊎_elim (λ h. get_or-replicate 8 j NO_KEY NO_KEY h) (λ h. get_or_past blank j NO_KEY (omega arith)) (cases_lt j 8)

module _ (keys : List ℕ) (past base end : ℕ) (end_is : end ≡ min past (base + 8)) (within : past ≤ length keys) (some : base < past) where
  abbrev given : List ℕ
  given = take (end - base) (drop base keys)

  long : length given ≡ end - base
  long = omega (arith, length-take (end - base) (drop base keys), length-drop base keys)

  given_at : (d e : ℕ) → base + d < end → get_or given d e ≡ slice_index keys (base + d)
  given_at d e h = get_or-take (end - base) (drop base keys) d e (omega arith) ∙ (get_or-drop base keys d e ∙ get_or_default keys (base + d) e 0 (omega arith))

  entry_at : (d : ℕ) → d < 8 → get_or (given ++ drop (length given) blank) d NO_KEY ≡ entry (slice_index keys) past (base + d)
  entry_at d h = ⊎_elim
      (λ inside.
      get_or_append_left given (drop (length given) blank) NO_KEY d (omega (arith, long))
      ∙ (given_at d NO_KEY inside ∙ sym (entry_within (slice_index keys) past (base + d) (omega arith))))
      (λ beyond.
      get_or-append_right given (drop (length given) blank) (length given) d NO_KEY refl (omega (arith, long))
      ∙ (get_or-drop (length given) blank (d - length given) NO_KEY
      ∙ (blank_at (length given + (d - length given)) ∙ sym (entry_past (slice_index keys) past (base + d) (omega arith)))))
      (cases_lt (base + d) end)

  entries : given ++ drop (length given) blank ≡ eight (slice_index keys) past base
  entries =
      let whole : length (given ++ drop (length given) blank) ≡ 8 = omega (arith, length-append given (drop (length given) blank), length-drop (length given) blank, long) in
      ext_get_or NO_KEY (given ++ drop (length given) blank) (eight (slice_index keys) past base) whole
      (λ d h. let short : d < 8 = omega (arith, whole) in entry_at d short ∙ sym (eight_at (slice_index keys) past base d short))

  pub piece_is : Keys (record { base = base; keys = given ++ drop (length given) blank }) ≡ piece_from (slice_index keys) past base
  piece_is = ap (λ (ks : List ℕ). Keys (record { base = base; keys = ks })) entries

  pub none_in_piece : AllWithin (λ x. x ≡ NO_KEY) given 0 (length given) → (l : ℕ) → base ≤ l → l < base + 8 → l < past → slice_index keys l ≡ NO_KEY
  none_in_piece all l from short before =
      let whole : base + (l - base) ≡ l = omega arith in
      subst (λ (x : ℕ). slice_index keys x ≡ NO_KEY) whole
      (sym (given_at (l - base) 0 (omega arith)) ∙ all (l - base) 0 (omega arith) (omega (arith, long)))

  -- A label of the piece that has a key.
  abbrev pub HasKey : Type 0
  HasKey = (l : ℕ) × (base ≤ l) × (l < base + 8) × (l < past) × (slice_index keys l ≡ NO_KEY → ⊥)

  pub key_in_piece : (k : ℕ) × (k < length given) × HoldsAt (λ x. x ≢ NO_KEY) given k → HasKey
  key_in_piece found =
      let k : ℕ = found.0 in
      let inside : base + k < end = omega (arith, found.1, long) in
      (base + k, omega arith, omega arith, omega arith, λ none. found.2 0 (given_at k 0 inside ∙ none))

-- Pieces by number, of labels of which none is past the last.
module _ (key : ℕ → ℕ) (first past : ℕ) (order : first ≤ past) (number : ℕ) where
  abbrev start : ℕ
  start = first + number * 8

  pub piece_by_no : (l : ℕ) (m : Message) → start ≤ l → l < start + 8 → l < past → (key l ≡ NO_KEY → ⊥) → m ≡ piece_from key past start
      → IsPieceNo key first (past - first) number m
  piece_by_no l m from short before used is =
      let at : first + (l - first) ≡ l = omega arith in
      let end : first + (past - first) ≡ past = omega arith in
      record {
        offset = l - first;
        below = omega arith;
        stands = omega arith;
        used = subst (λ (x : ℕ). key x ≢ NO_KEY) (sym at) used;
        is = subst (λ (x : ℕ). m ≡ piece_from key x start) (sym end) is;
      }

  pub no_piece_by_no : (m : Message) → ((l : ℕ) → start ≤ l → l < start + 8 → l < past → key l ≡ NO_KEY) → IsPieceNo key first (past - first) number m → ⊥
  no_piece_by_no m none is = is.used (none (first + is.offset) (omega (arith, is.stands)) (omega (arith, is.stands)) (omega (arith, is.below)))

  pub no_piece_past : (m : Message) → past - first ≤ number * 8 → IsPieceNo key first (past - first) number m → ⊥
  no_piece_past m far is = absurd (omega (arith, is.stands, is.below))
