-- The events of a rank's cells in order, and the rounds that they make.
use Rattle.std.specs.Prelude.{◌≡◌, ◌==◌, ℕ, zero, suc, Bool, true, false, List, [], ◌∷◌, if◌then◌else◌}
use Rattle.pg_cells.specs.declared.bodies.CellBody.{CellBody}
use Rattle.pg_cells.specs.States.{CellState}
use Rattle.pg_cells.specs.Steps.{Event, CellsStep}
use Rattle.pg_cells.specs.Steps.Event.{put, handled, sent, closed, round_ended}

-- from the cells before these events to those after them
abbrev pub Run : (ℕ → ℕ → ℕ) → (ℕ → ℕ) → CellState → List Event → CellState → Type 0
Run join start s [] t = s ≡ t
Run join start s (e ∷ events) t = (u : CellState) × CellsStep join start s e u × Run join start u events t

-- how many rounds have ended
abbrev pub rounds : List Event → ℕ
rounds [] = 0
rounds (round_ended ∷ events) = suc (rounds events)
rounds (put v x ∷ events) = rounds events
rounds (handled from body ∷ events) = rounds events
rounds (sent to body ∷ events) = rounds events
rounds (closed ∷ events) = rounds events

-- the last event is a round's end
abbrev pub ends_a_round : List Event → Bool
ends_a_round [] = false
ends_a_round (round_ended ∷ []) = true
ends_a_round (e ∷ []) = false
ends_a_round (e ∷ f ∷ events) = ends_a_round (f ∷ events)

-- the events of round k, counted from 0, without its end
abbrev pub events_of : ℕ → List Event → List Event
events_of k [] = []
events_of zero (round_ended ∷ events) = []
events_of (suc k) (round_ended ∷ events) = events_of k events
events_of zero (e ∷ events) = e ∷ events_of zero events
events_of (suc k) (e ∷ events) = events_of (suc k) events

-- the bodies from this rank that were handled, in order
abbrev pub handled_from : ℕ → List Event → List CellBody
handled_from rank [] = []
handled_from rank (handled from body ∷ events) = if from == rank then body ∷ handled_from rank events else handled_from rank events
handled_from rank (e ∷ events) = handled_from rank events

-- the bodies that were sent to this rank, in order
abbrev pub sent_to : ℕ → List Event → List CellBody
sent_to rank [] = []
sent_to rank (sent to body ∷ events) = if to == rank then body ∷ sent_to rank events else sent_to rank events
sent_to rank (e ∷ events) = sent_to rank events

-- the values that were put to this vertex, in order
abbrev pub puts_to : ℕ → List Event → List ℕ
puts_to v [] = []
puts_to v (put u x ∷ events) = if u == v then x ∷ puts_to v events else puts_to v events
puts_to v (e ∷ events) = puts_to v events
