-- The rounds of two ranks side by side: what was handled in each of them was sent in it.
use Rattle.std.proofs.Common.{◌≡◌, ℕ, zero, suc, ◌<◌, ◌≤◌, List, [], ◌∷◌, ◌++◌, Bool, true, false, cond, eqb, refl, sym, ap, ◌∙◌, ap₂, arith}
use Rattle.pg_cells.specs.declared.bodies.CellBody.{CellBody}
use Rattle.pg_cells.specs.Steps.{Event}
use Rattle.pg_cells.specs.Steps.Event.{put, handled, sent, closed, round_ended}
use Rattle.pg_cells.specs.Runs.{rounds, ends_a_round, events_of, handled_from, sent_to}

-- every event has a round's end after it
abbrev pub AreWhole : List Event → Type 0
AreWhole [] = Unit {0}
AreWhole (round_ended ∷ events) = AreWhole events
AreWhole (put v x ∷ events) = (0 < rounds events) × AreWhole events
AreWhole (handled from body ∷ events) = (0 < rounds events) × AreWhole events
AreWhole (sent to body ∷ events) = (0 < rounds events) × AreWhole events
AreWhole (closed ∷ events) = (0 < rounds events) × AreWhole events

pub are_whole : (events : List Event) → ends_a_round events ≡ true → (0 < rounds events) × AreWhole events
are_whole [] h = absurd (cc h)
are_whole (round_ended ∷ []) h = (omega arith, tt)
are_whole (round_ended ∷ f ∷ events) h = (omega arith, (are_whole (f ∷ events) h).1)
are_whole (put v x ∷ []) h = absurd (cc h)
are_whole (put v x ∷ f ∷ events) h = let t = are_whole (f ∷ events) h in (t.0, t)
are_whole (handled from body ∷ []) h = absurd (cc h)
are_whole (handled from body ∷ f ∷ events) h = let t = are_whole (f ∷ events) h in (t.0, t)
are_whole (sent to body ∷ []) h = absurd (cc h)
are_whole (sent to body ∷ f ∷ events) h = let t = are_whole (f ∷ events) h in (t.0, t)
are_whole (closed ∷ []) h = absurd (cc h)
are_whole (closed ∷ f ∷ events) h = let t = are_whole (f ∷ events) h in (t.0, t)

-- no round is left
pub none_after : (events : List Event) → AreWhole events → rounds events ≡ 0 → events ≡ []
none_after [] whole none = refl
none_after (round_ended ∷ events) whole none = absurd (omega arith)
none_after (put v x ∷ events) whole none = absurd (omega (arith, whole.0, none))
none_after (handled from body ∷ events) whole none = absurd (omega (arith, whole.0, none))
none_after (sent to body ∷ events) whole none = absurd (omega (arith, whole.0, none))
none_after (closed ∷ events) whole none = absurd (omega (arith, whole.0, none))

-- what follows the first round's end
abbrev later : List Event → List Event
later [] = []
later (round_ended ∷ events) = events
later (put v x ∷ events) = later events
later (handled from body ∷ events) = later events
later (sent to body ∷ events) = later events
later (closed ∷ events) = later events

later_whole : (events : List Event) → AreWhole events → AreWhole (later events)
later_whole [] whole = tt
later_whole (round_ended ∷ events) whole = whole
later_whole (put v x ∷ events) whole = later_whole events whole.1
later_whole (handled from body ∷ events) whole = later_whole events whole.1
later_whole (sent to body ∷ events) whole = later_whole events whole.1
later_whole (closed ∷ events) whole = later_whole events whole.1

later_events : (k : ℕ) (events : List Event) → events_of (suc k) events ≡ events_of k (later events)
later_events k [] = refl
later_events k (round_ended ∷ events) = refl
later_events k (put v x ∷ events) = later_events k events
later_events k (handled from body ∷ events) = later_events k events
later_events k (sent to body ∷ events) = later_events k events
later_events k (closed ∷ events) = later_events k events

fewer_later : (n : ℕ) (events : List Event) → rounds events ≤ suc n → rounds (later events) ≤ n
fewer_later n [] few = omega arith
fewer_later n (round_ended ∷ events) few = omega (arith, few)
fewer_later n (put v x ∷ events) few = fewer_later n events few
fewer_later n (handled from body ∷ events) few = fewer_later n events few
fewer_later n (sent to body ∷ events) few = fewer_later n events few
fewer_later n (closed ∷ events) few = fewer_later n events few

passed_on : (b : Bool) (x : CellBody) (xs ys : List CellBody) → (if_not : List CellBody) → if_not ≡ xs ++ ys → cond b (x ∷ if_not) if_not ≡ cond b (x ∷ xs) xs ++ ys
passed_on true x xs ys zs e = ap (λ l. x ∷ l) e
passed_on false x xs ys zs e = e

handled_cut : (s : ℕ) (events : List Event) → handled_from s events ≡ handled_from s (events_of 0 events) ++ handled_from s (later events)
handled_cut s [] = refl
handled_cut s (round_ended ∷ events) = refl
handled_cut s (put v x ∷ events) = handled_cut s events
handled_cut s (handled from body ∷ events) =
    passed_on (eqb from s) body (handled_from s (events_of 0 events)) (handled_from s (later events)) (handled_from s events) (handled_cut s events)
handled_cut s (sent to body ∷ events) = handled_cut s events
handled_cut s (closed ∷ events) = handled_cut s events

sent_cut : (r : ℕ) (events : List Event) → sent_to r events ≡ sent_to r (events_of 0 events) ++ sent_to r (later events)
sent_cut r [] = refl
sent_cut r (round_ended ∷ events) = refl
sent_cut r (put v x ∷ events) = sent_cut r events
sent_cut r (handled from body ∷ events) = sent_cut r events
sent_cut r (sent to body ∷ events) =
    passed_on (eqb to r) body (sent_to r (events_of 0 events)) (sent_to r (later events)) (sent_to r events) (sent_cut r events)
sent_cut r (closed ∷ events) = sent_cut r events

-- Where one rank handled in each round what the other sent to it, it handled all that the other sent to it.
pub handled_is_sent : (n r s : ℕ) (here there : List Event) → AreWhole here → AreWhole there → rounds here ≤ n → rounds there ≤ n
    → ((k : ℕ) → k < n → handled_from s (events_of k here) ≡ sent_to r (events_of k there)) → handled_from s here ≡ sent_to r there
handled_is_sent zero r s here there whole_here whole_there few_here few_there each =
    let none_here : rounds here ≡ 0 = omega (arith, few_here) in
    let none_there : rounds there ≡ 0 = omega (arith, few_there) in
    ap (handled_from s) (none_after here whole_here none_here) ∙ sym (ap (sent_to r) (none_after there whole_there none_there))
handled_is_sent (suc n) r s here there whole_here whole_there few_here few_there each =
    let rest = handled_is_sent n r s (later here) (later there) (later_whole here whole_here) (later_whole there whole_there) (fewer_later n here few_here) (fewer_later n there few_there)
    (λ k low. ap (handled_from s) (sym (later_events k here)) ∙ each (suc k) (omega (arith, low)) ∙ ap (sent_to r) (later_events k there)) in
    handled_cut s here ∙ ap₂ ◌++◌ (each 0 (omega arith)) rest ∙ sym (sent_cut r there)
