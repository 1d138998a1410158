-- Events of a map, one after another: what one more adds to a run, to its rounds and to what is handled, sent and put.
use Rattle.std.proofs.Common.{◌≡◌, ◌≢◌, ◌==◌, ℕ, zero, suc, ◌+◌, Bool, true, false, List, [], ◌∷◌, ◌++◌, cond, refl, sym, ap, ◌∙◌, subst, arith, Contains}
use Rattle.std.proofs.lemmas.Bool.{eq-eqb, ne_eqb}
use Rattle.pg_base.proofs.Members.{contains_first, contains_later}
use Rattle.pg_cells.specs.declared.bodies.CellBody.{CellBody}
use Rattle.pg_cells.specs.States.{CellState}
use Rattle.pg_cells.specs.Steps.{Event, CellsStep}
use Rattle.pg_cells.specs.Steps.Event.{put, handled, sent, closed, round_ended}
use Rattle.pg_cells.specs.Runs.{Run, rounds, ends_a_round, events_of, handled_from, sent_to, puts_to}

-- ---- a run

module _ (join : ℕ → ℕ → ℕ) (start : ℕ → ℕ) where
  pub run_append : (events more : List Event) (s t u : CellState) → Run join start s events t → Run join start t more u → Run join start s (events ++ more) u
  run_append [] more s t u before after = subst (λ c. Run join start c more u) (sym before) after
  run_append (e ∷ events) more s t u before after = (before.0, before.1, run_append events more before.0 t u before.2 after)

  pub run_push : (events : List Event) (e : Event) (s t u : CellState) → Run join start s events t → CellsStep join start t e u → Run join start s (events ++ e ∷ []) u
  run_push events e s t u before step = run_append events (e ∷ []) s t u before (u, step, refl)

-- ---- its rounds

-- An event that ends no round.
abbrev pub IsWithin : Event → Type 0
IsWithin e = rounds (e ∷ []) ≡ 0

pub rounds_append : (events more : List Event) → rounds (events ++ more) ≡ rounds events + rounds more
rounds_append [] more = omega arith
rounds_append (round_ended ∷ events) more = omega (arith, rounds_append events more)
rounds_append (put v x ∷ events) more = rounds_append events more
rounds_append (handled from body ∷ events) more = rounds_append events more
rounds_append (sent to body ∷ events) more = rounds_append events more
rounds_append (closed ∷ events) more = rounds_append events more

pub ends_appended : (events more : List Event) → ends_a_round more ≡ true → ends_a_round (events ++ more) ≡ true
ends_appended [] more ends = ends
ends_appended (e ∷ []) [] ends = absurd (cc ends)
ends_appended (e ∷ []) (f ∷ more) ends = ends
ends_appended (e ∷ f ∷ events) more ends = ends_appended (f ∷ events) more ends

first_within : (e : Event) → IsWithin e → events_of 0 (e ∷ []) ≡ e ∷ []
first_within round_ended within = absurd (omega (arith, within))
first_within (put v x) within = refl
first_within (handled from body) within = refl
first_within (sent to body) within = refl
first_within closed within = refl

later_none : (k : ℕ) (e : Event) → events_of (suc k) (e ∷ []) ≡ []
later_none k round_ended = refl
later_none k (put v x) = refl
later_none k (handled from body) = refl
later_none k (sent to body) = refl
later_none k closed = refl

-- An event that ends no round is one of the round that began last.
pub present_more : (k : ℕ) (events : List Event) (e : Event) → IsWithin e → k ≡ rounds events → events_of k (events ++ e ∷ []) ≡ events_of k events ++ e ∷ []
present_more zero [] e within now = first_within e within
present_more (suc k) [] e within now = absurd (omega (arith, now))
present_more zero (round_ended ∷ events) e within now = absurd (omega (arith, now))
present_more (suc k) (round_ended ∷ events) e within now = present_more k events e within (omega (arith, now))
present_more zero (put v x ∷ events) e within now = ap (λ l. put v x ∷ l) (present_more zero events e within now)
present_more (suc k) (put v x ∷ events) e within now = present_more (suc k) events e within now
present_more zero (handled from body ∷ events) e within now = ap (λ l. handled from body ∷ l) (present_more zero events e within now)
present_more (suc k) (handled from body ∷ events) e within now = present_more (suc k) events e within now
present_more zero (sent to body ∷ events) e within now = ap (λ l. sent to body ∷ l) (present_more zero events e within now)
present_more (suc k) (sent to body ∷ events) e within now = present_more (suc k) events e within now
present_more zero (closed ∷ events) e within now = ap (λ l. closed ∷ l) (present_more zero events e within now)
present_more (suc k) (closed ∷ events) e within now = present_more (suc k) events e within now

-- It is none of another round.
pub others_same : (k : ℕ) (events : List Event) (e : Event) → k ≢ rounds events → events_of k (events ++ e ∷ []) ≡ events_of k events
others_same zero [] e other = absurd (other refl)
others_same (suc k) [] e other = later_none k e
others_same zero (round_ended ∷ events) e other = refl
others_same (suc k) (round_ended ∷ events) e other = others_same k events e (λ same. other (ap suc same))
others_same zero (put v x ∷ events) e other = ap (λ l. put v x ∷ l) (others_same zero events e other)
others_same (suc k) (put v x ∷ events) e other = others_same (suc k) events e other
others_same zero (handled from body ∷ events) e other = ap (λ l. handled from body ∷ l) (others_same zero events e other)
others_same (suc k) (handled from body ∷ events) e other = others_same (suc k) events e other
others_same zero (sent to body ∷ events) e other = ap (λ l. sent to body ∷ l) (others_same zero events e other)
others_same (suc k) (sent to body ∷ events) e other = others_same (suc k) events e other
others_same zero (closed ∷ events) e other = ap (λ l. closed ∷ l) (others_same zero events e other)
others_same (suc k) (closed ∷ events) e other = others_same (suc k) events e other

-- The end of a round is in none.
pub end_in_none : (k : ℕ) (events : List Event) → events_of k (events ++ round_ended ∷ []) ≡ events_of k events
end_in_none zero [] = refl
end_in_none (suc k) [] = refl
end_in_none zero (round_ended ∷ events) = refl
end_in_none (suc k) (round_ended ∷ events) = end_in_none k events
end_in_none zero (put v x ∷ events) = ap (λ l. put v x ∷ l) (end_in_none zero events)
end_in_none (suc k) (put v x ∷ events) = end_in_none (suc k) events
end_in_none zero (handled from body ∷ events) = ap (λ l. handled from body ∷ l) (end_in_none zero events)
end_in_none (suc k) (handled from body ∷ events) = end_in_none (suc k) events
end_in_none zero (sent to body ∷ events) = ap (λ l. sent to body ∷ l) (end_in_none zero events)
end_in_none (suc k) (sent to body ∷ events) = end_in_none (suc k) events
end_in_none zero (closed ∷ events) = ap (λ l. closed ∷ l) (end_in_none zero events)
end_in_none (suc k) (closed ∷ events) = end_in_none (suc k) events

-- ---- what is handled, sent and put

passed_on : {X : Type 0} (b : Bool) (x : X) (xs ys zs : List X) → zs ≡ xs ++ ys → cond b (x ∷ zs) zs ≡ cond b (x ∷ xs) xs ++ ys
passed_on true x xs ys zs e = ap (λ l. x ∷ l) e
passed_on false x xs ys zs e = e

pub handled_append : (rank : ℕ) (events more : List Event) → handled_from rank (events ++ more) ≡ handled_from rank events ++ handled_from rank more
handled_append rank [] more = refl
handled_append rank (round_ended ∷ events) more = handled_append rank events more
handled_append rank (put v x ∷ events) more = handled_append rank events more
handled_append rank (handled from body ∷ events) more = passed_on (from == rank) body (handled_from rank events) (handled_from rank more) (handled_from rank (events ++ more)) (handled_append rank events more)
handled_append rank (sent to body ∷ events) more = handled_append rank events more
handled_append rank (closed ∷ events) more = handled_append rank events more

pub sent_append : (rank : ℕ) (events more : List Event) → sent_to rank (events ++ more) ≡ sent_to rank events ++ sent_to rank more
sent_append rank [] more = refl
sent_append rank (round_ended ∷ events) more = sent_append rank events more
sent_append rank (put v x ∷ events) more = sent_append rank events more
sent_append rank (handled from body ∷ events) more = sent_append rank events more
sent_append rank (sent to body ∷ events) more = passed_on (to == rank) body (sent_to rank events) (sent_to rank more) (sent_to rank (events ++ more)) (sent_append rank events more)
sent_append rank (closed ∷ events) more = sent_append rank events more

pub puts_append : (v : ℕ) (events more : List Event) → puts_to v (events ++ more) ≡ puts_to v events ++ puts_to v more
puts_append v [] more = refl
puts_append v (round_ended ∷ events) more = puts_append v events more
puts_append v (put u x ∷ events) more = passed_on (u == v) x (puts_to v events) (puts_to v more) (puts_to v (events ++ more)) (puts_append v events more)
puts_append v (handled from body ∷ events) more = puts_append v events more
puts_append v (sent to body ∷ events) more = puts_append v events more
puts_append v (closed ∷ events) more = puts_append v events more

pub handled_one : (from : ℕ) (body : CellBody) → handled_from from (handled from body ∷ []) ≡ body ∷ []
handled_one from body = ap (λ b. cond b (body ∷ []) []) (eq-eqb from from refl)

pub handled_none : (rank from : ℕ) (body : CellBody) → from ≢ rank → handled_from rank (handled from body ∷ []) ≡ []
handled_none rank from body other = ap (λ b. cond b (body ∷ []) []) (ne_eqb from rank other)

pub sent_one : (to : ℕ) (body : CellBody) → sent_to to (sent to body ∷ []) ≡ body ∷ []
sent_one to body = ap (λ b. cond b (body ∷ []) []) (eq-eqb to to refl)

pub sent_none : (rank to : ℕ) (body : CellBody) → to ≢ rank → sent_to rank (sent to body ∷ []) ≡ []
sent_none rank to body other = ap (λ b. cond b (body ∷ []) []) (ne_eqb to rank other)

pub put_one : (v x : ℕ) → puts_to v (put v x ∷ []) ≡ x ∷ []
put_one v x = ap (λ b. cond b (x ∷ []) []) (eq-eqb v v refl)

pub put_none : (v u x : ℕ) → u ≢ v → puts_to v (put u x ∷ []) ≡ []
put_none v u x other = ap (λ b. cond b (x ∷ []) []) (ne_eqb u v other)
