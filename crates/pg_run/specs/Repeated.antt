-- Steps one after another, and lists of which each entry took a step.
use Rattle.std.specs.Prelude.{◌≡◌, ◌≤◌, ℕ, zero, suc, Bool, false, List, length, slice_get, Some}
use Rattle.pg_group.specs.Entries.{Each}

module _ {T : Type 0} (Step : T → T → Type 0) where
  -- so many steps, one after another
  abbrev pub Repeated : ℕ → T → T → Type 0
  Repeated zero old new = new ≡ old
  Repeated (suc count) old new = (mid : T) × Repeated count old mid × Step mid new

  -- so many steps, or fewer where an end was met
  pub record RepeatedToEnd (ended : T → Bool) (bound : ℕ) (old new : T) : Type 0 where
    pub count : ℕ
    pub most : count ≤ bound
    pub steps : Repeated count old new
    pub all : ended new ≡ false → count ≡ bound

  -- each entry has become the one that stands in its place, by one step
  pub record AllStepped (old new : List T) : Type 0 where
    pub long : length new ≡ length old
    pub each : Each (λ place x. (was : T) × (slice_get old place ≡ Some was) × Step was x) new
