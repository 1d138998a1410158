-- The rounds of a list of bodies: a mark ends a round, and marks and rounds are counted from 0.
use Rattle.std.specs.Prelude.{ℕ, zero, suc, Bool, true, false, List, [], ◌∷◌}
use Rattle.pg_group.specs.declared.messages.Body.{Body}
use Rattle.pg_group.specs.declared.messages.Body.TheVariants.{Item, Mark}
use Rattle.pg_group.specs.declared.messages.Vote.{Vote}

module _ {B : Type 0} where
  abbrev pub is_mark : Body B → Bool
  is_mark (Item x) = false
  is_mark (Mark v) = true

  -- how many marks stand in the list
  abbrev pub marks : List (Body B) → ℕ
  marks [] = 0
  marks (Item x ∷ bs) = marks bs
  marks (Mark v ∷ bs) = suc (marks bs)

  -- the votes of the list's marks, in order
  abbrev pub votes_of : List (Body B) → List Vote
  votes_of [] = []
  votes_of (Item x ∷ bs) = votes_of bs
  votes_of (Mark v ∷ bs) = v ∷ votes_of bs

  -- the last body is a mark
  abbrev pub ends_with_mark : List (Body B) → Bool
  ends_with_mark [] = false
  ends_with_mark (b ∷ []) = is_mark b
  ends_with_mark (b ∷ c ∷ bs) = ends_with_mark (c ∷ bs)

  -- the items of a round, in order: those after the mark before it and before its own
  abbrev pub items_of_round : ℕ → List (Body B) → List B
  items_of_round k [] = []
  items_of_round zero (Item x ∷ bs) = x ∷ items_of_round zero bs
  items_of_round (suc k) (Item x ∷ bs) = items_of_round (suc k) bs
  items_of_round zero (Mark v ∷ bs) = []
  items_of_round (suc k) (Mark v ∷ bs) = items_of_round k bs
