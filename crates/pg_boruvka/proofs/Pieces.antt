-- Which keys a piece gives.
use Rattle.std.proofs.Common.{◌≡◌, ◌≢◌, ◌⊎◌, ℕ, zero, suc, ◌+◌, ◌-◌, ◌*◌, ◌/◌, ◌<◌, ◌≤◌, List, [], ◌∷◌, refl, sym, ◌∙◌, ap, subst, inl, inr, ⊎_elim, arith}
use Rattle.std.specs.Prelude.{nat_lt, slice_index_or}
use Rattle.std.proofs.lemmas.Bool.{cases_lt, lt-ltb, le-ltb, cond-true, cond-false}
use Rattle.pg_boruvka.specs.declared.TheConstants.{NO_KEY}
use Rattle.pg_boruvka.specs.declared.messages.Message.{Message}
use Rattle.pg_boruvka.specs.declared.messages.Message.TheVariants.{Piece as Keys}
use Rattle.pg_boruvka.specs.Winners.{given_key, entry, piece_from, IsPieceOf}

abbrev pub eight : (ℕ → ℕ) → ℕ → ℕ → List ℕ
eight key past base = entry key past base ∷ entry key past (base + 1) ∷ entry key past (base + 2) ∷ entry key past (base + 3)
    ∷ entry key past (base + 4) ∷ entry key past (base + 5) ∷ entry key past (base + 6) ∷ entry key past (base + 7) ∷ []

pub eight_at : (key : ℕ → ℕ) (past base d : ℕ) → d < 8 → slice_index_or (eight key past base) d NO_KEY ≡ entry key past (base + d)
eight_at key past base zero h = ap (entry key past) (omega arith)
eight_at key past base (suc zero) h = refl
eight_at key past base (suc (suc zero)) h = refl
eight_at key past base (suc (suc (suc zero))) h = refl
eight_at key past base (suc (suc (suc (suc zero)))) h = refl
eight_at key past base (suc (suc (suc (suc (suc zero))))) h = refl
eight_at key past base (suc (suc (suc (suc (suc (suc zero)))))) h = refl
eight_at key past base (suc (suc (suc (suc (suc (suc (suc zero))))))) h = refl
eight_at key past base (suc (suc (suc (suc (suc (suc (suc (suc d)))))))) h = absurd (omega arith)

eight_past : (key : ℕ → ℕ) (past base d : ℕ) → 8 ≤ d → slice_index_or (eight key past base) d NO_KEY ≡ NO_KEY
eight_past key past base zero h = absurd (omega arith)
eight_past key past base (suc zero) h = absurd (omega arith)
eight_past key past base (suc (suc zero)) h = absurd (omega arith)
eight_past key past base (suc (suc (suc zero))) h = absurd (omega arith)
eight_past key past base (suc (suc (suc (suc zero)))) h = absurd (omega arith)
eight_past key past base (suc (suc (suc (suc (suc zero))))) h = absurd (omega arith)
eight_past key past base (suc (suc (suc (suc (suc (suc zero)))))) h = absurd (omega arith)
eight_past key past base (suc (suc (suc (suc (suc (suc (suc zero))))))) h = absurd (omega arith)
eight_past key past base (suc (suc (suc (suc (suc (suc (suc (suc d)))))))) h = refl

pub entry_within : (key : ℕ → ℕ) (past l : ℕ) → l < past → entry key past l ≡ key l
entry_within key past l h = cond-true (nat_lt l past) (key l) NO_KEY (lt-ltb l past h)

pub entry_past : (key : ℕ → ℕ) (past l : ℕ) → past ≤ l → entry key past l ≡ NO_KEY
entry_past key past l h = cond-false (nat_lt l past) (key l) NO_KEY (le-ltb l past h)

-- What an entry of a piece is: nothing, or the key of a label before the past one.
pub entry_cases : (key : ℕ → ℕ) (past l : ℕ) → (entry key past l ≡ NO_KEY) ⊎ ((entry key past l ≡ key l) × (l < past))
entry_cases key past l = ⊎_elim (λ h. inr (entry_within key past l h, h)) (λ h. inl (entry_past key past l h)) (cases_lt l past)

eight_cases : (key : ℕ → ℕ) (past base d : ℕ) → (slice_index_or (eight key past base) d NO_KEY ≡ NO_KEY) ⊎ ((slice_index_or (eight key past base) d NO_KEY ≡ key (base + d)) × (base + d < past))
eight_cases key past base d = ⊎_elim
    (λ h. let at = eight_at key past base d h in
    ⊎_elim (λ none. inl (at ∙ none)) (λ some. inr (at ∙ some.0, some.1)) (entry_cases key past (base + d)))
    (λ h. inl (eight_past key past base d h))
    (cases_lt d 8)

pub given_within : (l base : ℕ) (keys : List ℕ) → base ≤ l → given_key l (Keys (record { base = base; keys = keys })) ≡ slice_index_or keys (l - base) NO_KEY
given_within l base keys h = cond-false (nat_lt l base) NO_KEY (slice_index_or keys (l - base) NO_KEY) (le-ltb l base h)

pub given_below : (l base : ℕ) (keys : List ℕ) → l < base → given_key l (Keys (record { base = base; keys = keys })) ≡ NO_KEY
given_below l base keys h = cond-true (nat_lt l base) NO_KEY (slice_index_or keys (l - base) NO_KEY) (lt-ltb l base h)

-- The piece gives the label nothing, or its key, and then the label is one of those that the pieces are of.
abbrev pub Gives : (ℕ → ℕ) → ℕ → ℕ → ℕ → Message → Type 0
Gives key first past l m = (given_key l m ≡ NO_KEY) ⊎ ((given_key l m ≡ key l) × (first ≤ l) × (l < past))

piece_from_gives : (key : ℕ → ℕ) (first past base l : ℕ) → first ≤ base → Gives key first past l (piece_from key past base)
piece_from_gives key first past base l from = ⊎_elim
    (λ h. inl (given_below l base (eight key past base) h))
    (λ h.
    let at = given_within l base (eight key past base) h in
    let whole : base + (l - base) ≡ l = omega arith in
    ⊎_elim
    (λ none. inl (at ∙ none))
    (λ some. inr (at ∙ (some.0 ∙ ap key whole), omega arith, omega (arith, some.1)))
    (eight_cases key past base (l - base)))
    (cases_lt l base)

pub piece_gives : (key : ℕ → ℕ) (first count l : ℕ) (m : Message) → IsPieceOf key first count m → Gives key first (first + count) l m
piece_gives key first count l m is =
    subst (Gives key first (first + count) l) (sym is.is) (piece_from_gives key first (first + count) (first + is.offset / 8 * 8) l (omega arith))

-- The label's own piece gives its key.
pub piece_has : (key : ℕ → ℕ) (first count offset : ℕ) → offset < count → given_key (first + offset) (piece_from key (first + count) (first + offset / 8 * 8)) ≡ key (first + offset)
piece_has key first count offset below =
    let past : ℕ = first + count in
    let base : ℕ = first + offset / 8 * 8 in
    let l : ℕ = first + offset in
    let whole : base + (l - base) ≡ l = omega arith in
    given_within l base (eight key past base) (omega arith)
    ∙ (eight_at key past base (l - base) (omega arith) ∙ (ap (entry key past) whole ∙ entry_within key past l (omega arith)))

-- The keys that stand in a piece are of labels before the past one.
pub piece_within : (key : ℕ → ℕ) (past base d : ℕ) → slice_index_or (eight key past base) d NO_KEY ≢ NO_KEY → base + d < past
piece_within key past base d used = ⊎_elim (λ none. absurd (used none)) (λ some. some.1) (eight_cases key past base d)
