-- A relaxation that has ended did so with the first round all of whose votes are quiet.
use Rattle.std.proofs.Common.{◌≡◌, ◌==◌, ◌&&◌, ℕ, ◌<◌, ◌≤◌, Bool, true, false, List, refl, sym, ◌∙◌, subst, inl, inr, arith, Option, Some}
use Rattle.std.specs.Prelude.{slice_get, slice_index_or, nat_eq}
use Rattle.std.specs.List.{AllPass}
use Rattle.std.proofs.lemmas.Bool.{cases_Bool, cases_eq}
use Rattle.std.proofs.lemmas.Bool.Decides.{nat_tests}
use Rattle.std.proofs.lemmas.List.Sums.{AllPass-from_list_all, list_all-from_AllPass}
use Rattle.std.proofs.lemmas.Option.{slice_get_within, get_or_from_slice_get, slice_get-get_or}
use Rattle.pg_group.specs.declared.messages.Body.{Body}
use Rattle.pg_group.specs.declared.messages.Vote.{Vote}
use Rattle.pg_group.specs.Ranked.{IsOther}
use Rattle.pg_triggers.specs.Endings.{AreVotes}
use Rattle.pg_best.specs.declared.offers.Offer.{Offer}
use Rattle.pg_best.specs.Parts.{Part, LocalArc}
use Rattle.pg_best.specs.LocalRelax.{NONE}
use Rattle.pg_best.specs.Marks.{IsQuiet, Marks}
use Rattle.pg_best.proofs.Marking.{other_than}
use Rattle.pg_relax.specs.Endings.{is_quiet, all_quiet}

both : (x y : Bool) → (x && y) ≡ true → (x ≡ true) × (y ≡ true)
both true true h = (refl, refl)
both true false h = cc
both false y h = cc

quiet_is : (vote : Vote) → is_quiet vote ≡ true → IsQuiet vote
quiet_is vote h =
    let parts = both (vote.a == NONE) (vote.b == 0) h in
    record { a = grind (arith, nat_tests, parts); b = grind (arith, nat_tests, parts) }

is_quiet_so : (vote : Vote) → IsQuiet vote → is_quiet vote ≡ true
is_quiet_so vote q =
    let left : (vote.a == NONE) ≡ true = let e = q.a in grind (arith, nat_tests) in
    let right : (vote.b == 0) ≡ true = let e = q.b in grind (arith, nat_tests) in
    cc

pass_at : (votes : List Vote) → AllPass is_quiet votes → (r : ℕ) (w : Vote) → slice_get votes r ≡ Some w → is_quiet w ≡ true
pass_at votes all r w is = subst (λ v. is_quiet v ≡ true) (get_or_from_slice_get votes r w w is) (all r w (slice_get_within votes r w is))

pass_all : (votes : List Vote) → ((r : ℕ) (w : Vote) → slice_get votes r ≡ Some w → is_quiet w ≡ true) → AllPass is_quiet votes
pass_all votes each k d within = each k (slice_index_or votes k d) (slice_get-get_or votes k d within)

module _ (part : Part) (handled sent : List (List (Body Offer))) (due : LocalArc → Bool) (round : ℕ) (cast : Option Vote) (sends : Bool) (m : Marks part handled sent due round cast true sends)
    (some : 1 < part.ranks) where
  -- all votes of the last round are quiet
  quiet_at_last : (votes : List Vote) → AreVotes part.rank part.ranks round handled sent votes → (r : ℕ) (w : Vote) → slice_get votes r ≡ Some w → IsQuiet w
  quiet_at_last votes are r w is = elim (cases_eq r part.rank) [
    | inl same ↦
        let own = m.own refl in
        let other = other_than part.rank part.ranks some in
        let told = sym (are.mine other.0 other.1 ∙ subst (λ n. slice_get votes n ≡ Some w) same is) ∙ m.told own.0 own.1 other.0 other.1 in
        let w_is : own.0 ≡ w = cc in
        subst IsQuiet w_is own.2
    | inr apart ↦
        let other : IsOther part.rank part.ranks r = (omega (arith, slice_get_within votes r w is, are.each), apart) in
        m.ended refl r w other (are.others r other ∙ is)
  ]

  -- the rule holds for the last round and for no earlier one
  pub stops_when_quiet : (k : ℕ) (votes : List Vote) → k ≤ round → AreVotes part.rank part.ranks k handled sent votes → all_quiet k votes ≡ nat_eq k round
  stops_when_quiet k votes early are = elim (cases_eq k round) [
    | inl same ↦
        let here : all_quiet k votes ≡ true =
        list_all-from_AllPass is_quiet votes (pass_all votes (λ r w is. is_quiet_so w (quiet_at_last votes (subst (λ n. AreVotes part.rank part.ranks n handled sent votes) same are) r w is))) in
        let there : nat_eq k round ≡ true = grind (arith, nat_tests) in
        here ∙ sym there
    | inr apart ↦
        let there : nat_eq k round ≡ false = grind (arith, nat_tests) in
        elim (cases_Bool (all_quiet k votes)) [
          | inl all ↦
              let each : (r : ℕ) (w : Vote) → slice_get votes r ≡ Some w → IsQuiet w = λ r w is. quiet_is w (pass_at votes (AllPass-from_list_all is_quiet votes all) r w is) in
              absurd (m.going some k (omega arith) (record {
                others = λ from vote other is. each from vote (sym (are.others from other) ∙ is);
                mine = λ to vote other is. each part.rank vote (sym (are.mine to other) ∙ is);
              }))
          | inr still ↦ still ∙ sym there
        ]
  ]
