-- What the program of one rank shows of itself, what its calls do, and what it promises of a whole run.
use Rattle.std.specs.Prelude.{◌≡◌, ◌⊎◌, ◌<◌, ℕ, false, List, [], ◌∷◌, ◌++◌, Option, Some, None, Contains, length, nat_lt, if◌then◌else◌}
use Rattle.pg_group.specs.declared.messages.Body.{Body}
use Rattle.pg_group.specs.declared.messages.Body.TheVariants.{Item, Mark}
use Rattle.pg_group.specs.declared.messages.Vote.{Vote}
use Rattle.pg_group.specs.Ranked.{IsOther, append_at, list_at}
use Rattle.pg_adj.specs.Portions.{Portion}
use Rattle.pg_uses.specs.declared.degrees.Degrees.{Degrees}
use Rattle.pg_uses.specs.Degrees.{IsOwnDegree}
use Rattle.pg_uses.specs.Greatest.{IsGreatest}

-- the greatest degree that it knows
abbrev pub greatest_in : Degrees → ℕ
greatest_in p = p.greatest

-- Nothing was called of it yet.
pub record IsNewDegrees (p : Degrees) : Type 0 where
  pub greatest : p.greatest ≡ p.own
  pub next : p.next ≡ 0
  pub idle : p.idle ≡ false
  pub cast : p.cast ≡ None
  pub ended : p.ended ≡ false

-- The new program of a part.
pub record IsProgramOf (part : Portion) (p : Degrees) : Type 0 where
  pub new : IsNewDegrees p
  pub rank : p.rank.0 ≡ part.rank
  pub ranks : p.ranks ≡ part.ranks
  pub own : IsGreatest (IsOwnDegree part) p.own

-- A number that the rank knows: its own, or one that it handled.
abbrev pub IsKnown : ℕ → List (List (Body ℕ)) → ℕ → Type 0
IsKnown own handled d = (d ≡ own) ⊎ ((from : ℕ) × Contains (list_at handled from) (Item d))

abbrev pub mark_of : Option Vote → List (Body ℕ)
mark_of None = []
mark_of (Some vote) = Mark vote ∷ []

-- What is sent to another rank: the own number once, and then the mark, once the vote is cast.
abbrev pub told : Degrees → ℕ → List (Body ℕ)
told p to = (if nat_lt to p.next then Item p.own ∷ [] else []) ++ mark_of p.cast

-- What a program keeps of a run: it knows the greatest of its own number and those handled, and what was sent to each
-- other rank is `told`.
pub record KeepsDegrees (start : Degrees) (handled sent : List (List (Body ℕ))) (p : Degrees) : Type 0 where
  pub same_rank : p.rank ≡ start.rank
  pub same_ranks : p.ranks ≡ start.ranks
  pub same_own : p.own ≡ start.own
  pub from_each : length handled ≡ p.ranks
  pub to_each : length sent ≡ p.ranks
  pub greatest : IsGreatest (IsKnown p.own handled) p.greatest
  pub tells : (to : ℕ) → IsOther p.rank.0 p.ranks to → list_at sent to ≡ told p to

-- the own number was sent to one other rank
abbrev pub TellsOne : Degrees → List (List (Body ℕ)) → List (List (Body ℕ)) → Type 0
TellsOne p sent more = (to : ℕ) × IsOther p.rank.0 p.ranks to × (more ≡ append_at sent to (Item p.own))

-- it was sent to every other rank
abbrev pub HasToldAll : Degrees → Type 0
HasToldAll p = (to : ℕ) → IsOther p.rank.0 p.ranks to → to < p.next
