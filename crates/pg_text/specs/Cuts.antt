-- Where the bytes of a text are cut into lines, and those of a line into words.
use Rattle.std.specs.Prelude.{◌≡◌, ◌⊎◌, ℕ, ◌+◌, ◌<◌, ◌≤◌, true, false, Option, List, [], ◌∷◌, ◌++◌, length, take, drop, All, MatchOption}
use Rattle.pg_text.specs.Text.{is_newline, is_blank, begins_word}

abbrev pub HasNoNewline : List ℕ → Type 0
HasNoNewline bytes = All (λ b. is_newline b ≡ false) bytes

-- The first newline of these bytes is at this place.
pub record EndsAt (bytes : List ℕ) (place : ℕ) : Type 0 where
  pub before : HasNoNewline (take place bytes)
  pub split : bytes ≡ take place bytes ++ 10 ∷ drop (place + 1) bytes
  pub within : place < length bytes

-- The place of the first newline, or none where there is none.
abbrev pub IsNewlineAt : List ℕ → Option ℕ → Type 0
IsNewlineAt bytes place = MatchOption place (HasNoNewline bytes) (EndsAt bytes)

-- The first line of these bytes, with its newline, is longer than the room.
pub record IsOverlong (room : ℕ) (bytes : List ℕ) : Type 0 where
  pub part : List ℕ
  pub rest : List ℕ
  pub plain : HasNoNewline part
  pub whole : bytes ≡ part ++ rest
  pub long : room ≤ length part
  pub past : room < length bytes

-- The blanks that the bytes begin with, and the rest.
pub record CutsBlanks (bytes blanks rest : List ℕ) : Type 0 where
  pub whole : bytes ≡ blanks ++ rest
  pub blank : All (λ b. is_blank b ≡ true) blanks
  pub stop : (rest ≡ []) ⊎ (begins_word rest ≡ true)

-- The longest front of the bytes without a blank, and the rest.
pub record CutsRun (bytes run rest : List ℕ) : Type 0 where
  pub whole : bytes ≡ run ++ rest
  pub solid : All (λ b. is_blank b ≡ false) run
  pub stop : begins_word rest ≡ false
