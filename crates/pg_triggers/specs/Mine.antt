-- What one member of a pair has of the pair's lists: its items, and its marks up to the round with which it ended.
use Rattle.std.specs.Prelude.{ℕ, zero, suc, ◌+◌, Option, Some, None, List, [], ◌∷◌, map}
use Rattle.pg_group.specs.declared.messages.Body.{Body}
use Rattle.pg_group.specs.declared.messages.Body.TheVariants.{Item, Mark}
use Rattle.pg_group.specs.declared.messages.Vote.{Vote}
use Rattle.pg_group.specs.Ranked.{append_at}
use Rattle.pg_group.specs.Rounds.{marks}
use Rattle.pg_group.specs.Book.{PairLists}
use Rattle.pg_triggers.specs.declared.items.Of2.{Of2}
use Rattle.pg_triggers.specs.declared.items.Of2.TheVariants.{First, Second}

-- the first member reads a vote's a and b, with 0 for c and d
abbrev pub first_vote : Vote → Vote
first_vote vote = record { a = vote.a; b = vote.b; c = 0; d = 0 }

-- the second member reads a vote's c and d as a and b, with 0 for c and d
abbrev pub second_vote : Vote → Vote
second_vote vote = record { a = vote.c; b = vote.d; c = 0; d = 0 }

module _ {A B : Type 0} where
  abbrev pub first_item : Of2 A B → Option A
  first_item (First x) = Some x
  first_item (Second y) = None

  abbrev pub second_item : Of2 A B → Option B
  second_item (First x) = None
  second_item (Second y) = Some y

module _ {C X : Type 0} (item : C → Option X) (vote : Vote → Vote) where
  -- a body that is an item of the member, before the others
  abbrev pub with_item : Option X → List (Body X) → List (Body X)
  with_item None bodies = bodies
  with_item (Some x) bodies = Item x ∷ bodies

  -- the items of a member in a list, and its marks of the first rounds
  abbrev pub mine : List (Body C) → ℕ → List (Body X)
  mine [] rounds = []
  mine (Item x ∷ bodies) rounds = with_item (item x) (mine bodies rounds)
  mine (Mark v ∷ bodies) zero = mine bodies zero
  mine (Mark v ∷ bodies) (suc rounds) = Mark (vote v) ∷ mine bodies rounds

  -- the same of each list
  abbrev pub mine_each : ℕ → List (List (Body C)) → List (List (Body X))
  mine_each rounds lists = map (λ list. mine list rounds) lists

-- the member's items, and its marks up to this round, in each list by rank
module _ {A B : Type 0} where
  abbrev pub first_lists : ℕ → List (List (Body (Of2 A B))) → List (List (Body A))
  first_lists last lists = mine_each first_item first_vote (last + 1) lists

  abbrev pub second_lists : ℕ → List (List (Body (Of2 A B))) → List (List (Body B))
  second_lists last lists = mine_each second_item second_vote (last + 1) lists

  -- the same of the lists of all ranks
  abbrev pub first_book : ℕ → PairLists (Of2 A B) → PairLists A
  first_book last lists sender receiver = mine first_item first_vote (lists sender receiver) (last + 1)

  abbrev pub second_book : ℕ → PairLists (Of2 A B) → PairLists B
  second_book last lists sender receiver = mine second_item second_vote (lists sender receiver) (last + 1)

module _ {C X : Type 0} (item : C → Option X) (vote : Vote → Vote) where
  -- all of the member's items and marks, in each list by rank
  abbrev pub whole : List (List (Body C)) → List (List (Body X))
  whole lists = map (λ list. mine item vote list (marks list)) lists

-- the lists after these items were sent, each to its rank
abbrev pub post_all : {C X : Type 0} → (X → C) → List (ℕ × X) → List (List (Body C)) → List (List (Body C))
post_all wrap [] lists = lists
post_all wrap (post ∷ posts) lists = post_all wrap posts (append_at lists post.0 (Item (wrap post.1)))
