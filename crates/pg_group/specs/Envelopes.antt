-- The envelopes of a lane.
use Rattle.std.specs.Prelude.{◌≡◌, ℕ, ◌%◌, ◌^◌, List, map, slice_get, Some}
use Rattle.pg_group.specs.declared.messages.Body.{Body}
use Rattle.pg_group.specs.declared.messages.Envelope.{Envelope}

module _ {B : Type 0} where
  abbrev pub bodies : List (Envelope B) → List (Body B)
  bodies es = map (λ e. e.body) es

  -- the envelope at place k, from 0, has the number k modulo 2^64
  abbrev pub IsNumbered : List (Envelope B) → Type 0
  IsNumbered es = (k : ℕ) (e : Envelope B) → slice_get es k ≡ Some e → e.number ≡ k % 2 ^ 64
