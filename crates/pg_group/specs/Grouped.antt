-- The ports of one group, by how each stands in it.
use Rattle.std.specs.Prelude.{◌≡◌, ◌≢◌, ℕ, ◌+◌, List, length, slice_get, Some}
use Rattle.pg_group.specs.Entries.{Each}
use Rattle.pg_group.specs.Ranked.{place_of, Wiring}

-- The ports of one group, in order: each has its rank, the group's size, and one lane to and one lane from each other
-- rank. The lane of r to s is the lane of s from r.
pub record AreOneGroup (ports : List Wiring) : Type 0 where
  pub ranks : Each (λ rank w. w.own ≡ rank) ports
  pub sizes : Each (λ rank w. w.size ≡ length ports) ports
  pub fit_out : Each (λ rank w. length w.lanes_out + 1 ≡ length ports) ports
  pub fit_in : Each (λ rank w. length w.lanes_in + 1 ≡ length ports) ports
  pub paired : (r s : ℕ) (v w : Wiring) → slice_get ports r ≡ Some v → slice_get ports s ≡ Some w → r ≢ s
      → slice_get v.lanes_out (place_of r s) ≡ slice_get w.lanes_in (place_of s r)
