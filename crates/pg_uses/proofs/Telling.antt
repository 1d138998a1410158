-- What was told to each rank, as one more is told and as the vote is cast.
use Rattle.std.proofs.Common.{◌≡◌, ◌≢◌, inl, inr, ℕ, ◌+◌, ◌<◌, ◌≤◌, true, false, List, [], ◌∷◌, ◌++◌, length, replicate, sym, ap, ◌∙◌, subst, arith, nat_lt, if◌then◌else◌, append-nil}
use Rattle.std.specs.Prelude.{Option, Some, None}
use Rattle.std.proofs.lemmas.Bool.{cases_eq, cases_lt}
use Rattle.std.proofs.lemmas.Bool.Decides.{nat_tests}
use Rattle.pg_group.specs.declared.messages.Body.{Body}
use Rattle.pg_group.specs.declared.messages.Body.TheVariants.{Item, Mark}
use Rattle.pg_group.specs.declared.messages.Vote.{Vote}
use Rattle.pg_group.specs.Ranked.{IsOther, append_at, list_at}
use Rattle.pg_group.specs.Supersteps.{append_others}
use Rattle.pg_group.proofs.RollLemmas.{Follows, from_next, list_at-append_same, list_at-append_else, list_at-append_others}
use Rattle.pg_uses.specs.Kept.{mark_of}
use Rattle.pg_uses.proofs.Hearing.{none_listed}

-- the number, if the rank stands below the next receiver
abbrev pub once : ℕ → ℕ → ℕ → List (Body ℕ)
once own next to = if nat_lt to next then Item own ∷ [] else []

not_yet : (own next to : ℕ) → next ≤ to → once own next to ≡ []
not_yet own next to h = let e : nat_lt to next ≡ false = grind (arith, nat_tests) in ap (λ b. if b then Item own ∷ [] else []) e

pub already : (own next to : ℕ) → to < next → once own next to ≡ Item own ∷ []
already own next to h = let e : nat_lt to next ≡ true = grind (arith, nat_tests) in ap (λ b. if b then Item own ∷ [] else []) e

same_once : (own rank next to k : ℕ) → Follows rank next to → k ≢ rank → k ≢ to → once own next k ≡ once own (to + 1) k
same_once own rank next to k follows other apart = elim (cases_lt k next) [
  | inl low ↦ already own next k low ∙ sym (already own (to + 1) k (omega (arith, from_next rank next to follows)))
  | inr high ↦ elim follows [
    | inl same ↦ not_yet own next k (omega arith) ∙ sym (not_yet own (to + 1) k (omega arith))
    | inr after ↦ not_yet own next k (omega arith) ∙ sym (not_yet own (to + 1) k (omega arith))
  ]
]

-- each other rank was told the number, if it stands below the next receiver, and the mark of the vote that is cast
abbrev pub AreTold : ℕ → ℕ → ℕ → ℕ → Option Vote → List (List (Body ℕ)) → Type 0
AreTold rank ranks own next cast sent = (to : ℕ) → IsOther rank ranks to → list_at sent to ≡ once own next to ++ mark_of cast

pub none_told : (rank ranks own next : ℕ) (cast : Option Vote) → next ≡ 0 → cast ≡ None → AreTold rank ranks own next cast (replicate ranks [])
none_told rank ranks own next cast first uncast to other =
    none_listed ranks to ∙ sym (ap (λ l. l ++ mark_of cast) (not_yet own next to (omega (arith, first))) ∙ ap mark_of uncast)

pub tells : (rank ranks own next to : ℕ) (cast : Option Vote) (sent more : List (List (Body ℕ))) → length sent ≡ ranks → cast ≡ None → IsOther rank ranks to → Follows rank next to
    → more ≡ append_at sent to (Item own) → AreTold rank ranks own next cast sent → AreTold rank ranks own (to + 1) cast more
tells rank ranks own next to cast sent more long uncast receiver follows grown before k other =
    let unmarked : mark_of cast ≡ [] = ap mark_of uncast in
    ap (λ l. list_at l k) grown ∙ elim (cases_eq k to) [
      | inl same ↦
          let was : list_at sent to ≡ [] = before to receiver ∙ (ap (λ l. l ++ mark_of cast) (not_yet own next to (from_next rank next to follows)) ∙ unmarked) in
          let now : list_at (append_at sent to (Item own)) to ≡ Item own ∷ [] = list_at-append_same sent to (Item own) (omega (arith, receiver.0, long)) ∙ ap (λ l. l ++ Item own ∷ []) was in
          let said : once own (to + 1) to ++ mark_of cast ≡ Item own ∷ [] = ap (λ l. l ++ mark_of cast) (already own (to + 1) to (omega arith)) ∙ ap (λ l. Item own ∷ l) unmarked in
          subst (λ j. list_at (append_at sent to (Item own)) j ≡ once own (to + 1) j ++ mark_of cast) (sym same) (now ∙ sym said)
      | inr apart ↦ list_at-append_else sent to k (Item own) apart ∙ (before k other ∙ ap (λ l. l ++ mark_of cast) (same_once own rank next to k follows other.1 apart))
    ]

pub tells_vote : (rank ranks own next : ℕ) (cast : Option Vote) (vote : Vote) (sent : List (List (Body ℕ))) → length sent ≡ ranks → cast ≡ None
    → AreTold rank ranks own next cast sent → AreTold rank ranks own next (Some vote) (append_others rank (Mark vote) sent)
tells_vote rank ranks own next cast vote sent long uncast before k other =
    list_at-append_others rank (Mark vote) sent k (omega (arith, other.0, long)) other.1
    ∙ ap (λ l. l ++ Mark vote ∷ []) (before k other ∙ (ap (λ l. once own next k ++ l) (ap mark_of uncast) ∙ append-nil (once own next k)))
