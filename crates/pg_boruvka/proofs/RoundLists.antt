-- The rounds of a list of bodies that a mark ends.
use Rattle.std.proofs.Common.{◌≡◌, ℕ, zero, suc, ◌≤◌, true, List, [], ◌∷◌, refl, arith}
use Rattle.pg_group.specs.declared.messages.Body.{Body}
use Rattle.pg_group.specs.declared.messages.Body.TheVariants.{Item, Mark}
use Rattle.pg_group.specs.Rounds.{marks, ends_with_mark, items_of_round}

module _ {B : Type 0} where
  some_mark : (bs : List (Body B)) → ends_with_mark bs ≡ true → 1 ≤ marks bs
  some_mark [] h = cc
  some_mark (Item x ∷ []) h = cc
  some_mark (Mark v ∷ []) h = omega arith
  some_mark (Item x ∷ c ∷ bs) h = some_mark (c ∷ bs) h
  some_mark (Mark v ∷ c ∷ bs) h = omega arith

  -- behind the last mark nothing stands
  pub none_past : (bs : List (Body B)) (k : ℕ) → ends_with_mark bs ≡ true → marks bs ≤ k → items_of_round k bs ≡ []
  none_past [] k h l = refl
  none_past (Item x ∷ []) k h l = cc
  none_past (Mark v ∷ []) zero h l = absurd (omega arith)
  none_past (Mark v ∷ []) (suc k) h l = refl
  none_past (Item x ∷ c ∷ bs) zero h l = absurd (omega (arith, some_mark (c ∷ bs) h))
  none_past (Item x ∷ c ∷ bs) (suc k) h l = none_past (c ∷ bs) (suc k) h l
  none_past (Mark v ∷ c ∷ bs) zero h l = absurd (omega arith)
  none_past (Mark v ∷ c ∷ bs) (suc k) h l = none_past (c ∷ bs) k h (omega arith)
