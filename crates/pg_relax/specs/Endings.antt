-- When a relaxation ends, by the votes of its rounds.
use Rattle.std.specs.Prelude.{◌≡◌, ◌==◌, ◌&&◌, ℕ, ◌<◌, Bool, List}
use Rattle.std.specs.List.{list_all}
use Rattle.pg_group.specs.declared.messages.Vote.{Vote}
use Rattle.pg_group.specs.Book.{PairLists, IsWhole, IsMarked}
use Rattle.pg_base.specs.Graph.{Arc}
use Rattle.pg_best.specs.declared.offers.Offer.{Offer}
use Rattle.pg_best.specs.Best.{Label}
use Rattle.pg_best.specs.LocalRelax.{NONE}
use Rattle.pg_relax.specs.Whole.{State, HasRelaxedOver, AreDivided}

-- The vote says that no offer was sent in its round and that nothing is pending.
abbrev pub is_quiet : Vote → Bool
is_quiet vote = vote.a == NONE && vote.b == 0

-- The rule by which a relaxation stops: after whatever round, once every vote of it is quiet.
abbrev pub all_quiet : ℕ → List Vote → Bool
all_quiet round votes = list_all is_quiet votes

-- Over a whole book, all ranks that have ended did so with the same round.
abbrev pub WholeEndsAlike : Type 0
WholeEndsAlike = (label : Label) (n ranks : ℕ) (arcs : List Arc) (owner place : ℕ → ℕ) (states : ℕ → State) (sent taken : PairLists Offer)
    → AreDivided label n ranks arcs owner place states → IsWhole ranks sent taken → IsMarked ranks sent
    → ((r : ℕ) → r < ranks → HasRelaxedOver label ranks r sent taken (states r))
    → (r s : ℕ) → r < ranks → s < ranks → (states r).round ≡ (states s).round
