-- The pieces of a rank's labels by their numbers, in the order in which they are sent.
use Rattle.std.specs.Prelude.{◌≡◌, ◌≢◌, ℕ, ◌+◌, ◌*◌, ◌/◌, ◌<◌}
use Rattle.pg_boruvka.specs.declared.TheConstants.{NO_KEY}
use Rattle.pg_boruvka.specs.declared.messages.Message.{Message}
use Rattle.pg_boruvka.specs.Winners.{piece_from}

-- The piece with this number of the labels from the first on, of which one has a key.
pub record IsPieceNo (key : ℕ → ℕ) (first count number : ℕ) (m : Message) : Type 0 where
  pub offset : ℕ
  pub below : offset < count
  pub stands : offset / 8 ≡ number
  pub used : key (first + offset) ≢ NO_KEY
  pub is : m ≡ piece_from key (first + count) (first + number * 8)
