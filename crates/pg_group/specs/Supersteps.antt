-- What the calls of a program answer, and what they add to the lists by rank.
-- Source: Valiant, A bridging model for parallel computation (CACM 33(8), 1990).
use Rattle.std.specs.Prelude.{◌≡◌, ℕ, zero, suc, Bool, true, false, ⊤, ◌⊎◌, List, [], ◌∷◌, ◌++◌, map, replicate}
use Rattle.pg_group.specs.declared.messages.Body.{Body}
use Rattle.pg_group.specs.declared.messages.Body.TheVariants.{Item, Mark}
use Rattle.pg_group.specs.declared.messages.Vote.{Vote}
use Rattle.pg_group.specs.declared.programs.Worked.{Worked}
use Rattle.pg_group.specs.declared.programs.Worked.TheVariants.{More, Idle, Blocked}
use Rattle.pg_group.specs.declared.programs.Next.{Next}
use Rattle.pg_group.specs.declared.programs.Next.TheVariants.{Again, Stop}
use Rattle.pg_group.specs.Ranked.{IsOther, append_at, flag_at}

-- no mark of this round was sent to any rank
abbrev pub AreUnmarked : List Bool → Type 0
AreUnmarked flags = (rank : ℕ) → flag_at flags rank ≡ false

abbrev pub OnMore : Worked → Type 0 → Type 0
OnMore More P = P
OnMore _ P = ⊤

abbrev pub OnIdle : Worked → Type 0 → Type 0
OnIdle Idle P = P
OnIdle _ P = ⊤

abbrev pub OnBlocked : Worked → (ℕ → Type 0) → Type 0
OnBlocked (Blocked to) P = P to.0
OnBlocked _ P = ⊤

abbrev pub OnAgain : Next → Type 0 → Type 0
OnAgain Again P = P
OnAgain Stop P = ⊤

abbrev pub OnStop : Next → Type 0 → Type 0
OnStop Again P = ⊤
OnStop Stop P = P

abbrev pub is_stop : Next → Bool
is_stop Again = false
is_stop Stop = true

module _ {B : Type 0} where
  -- an empty list for each rank
  abbrev pub nothing : ℕ → List (List (Body B))
  nothing size = replicate size []

  -- the lists by rank are as before, or one item joined the list of one other rank
  abbrev pub SentAtMostOne : ℕ → ℕ → List (List (Body B)) → List (List (Body B)) → Type 0
  SentAtMostOne own size sent more = (more ≡ sent) ⊎ ((to : ℕ) × (item : B) × IsOther own size to × (more ≡ append_at sent to (Item item)))

  -- the lists by rank after this body joined each but the own one
  abbrev pub append_others : ℕ → Body B → List (List (Body B)) → List (List (Body B))
  append_others own body [] = []
  append_others zero body (mine ∷ lists) = mine ∷ map (λ list. list ++ body ∷ []) lists
  append_others (suc own) body (list ∷ lists) = (list ++ body ∷ []) ∷ append_others own body lists

  -- the lists by rank after each rank's vote joined its list as a mark
  abbrev pub append_each : List Vote → List (List (Body B)) → List (List (Body B))
  append_each [] lists = lists
  append_each (vote ∷ votes) [] = []
  append_each (vote ∷ votes) (list ∷ lists) = (list ++ Mark vote ∷ []) ∷ append_each votes lists

  -- the same, but the own list stays
  abbrev pub append_marks : ℕ → List Vote → List (List (Body B)) → List (List (Body B))
  append_marks own [] lists = lists
  append_marks own (vote ∷ votes) [] = []
  append_marks zero (vote ∷ votes) (mine ∷ lists) = mine ∷ append_each votes lists
  append_marks (suc own) (vote ∷ votes) (list ∷ lists) = (list ++ Mark vote ∷ []) ∷ append_marks own votes lists
