-- What a settled lane shows, by what its two ends kept.
use Rattle.std.proofs.Common.{◌≡◌, ℕ, List, length, sym, ap, ◌∙◌, subst}
use Rattle.std.specs.Prelude.{Option, Some}
use Rattle.pg_lane.specs.declared.settling.Settled.{Settled}
use Rattle.pg_lane.specs.Settled.{settled_sent, settled_taken, settled_capacity}
use Rattle.pg_group.specs.declared.messages.Body.{Body}
use Rattle.pg_group.specs.declared.messages.Envelope.{Envelope}
use Rattle.pg_group.specs.Envelopes.{bodies, IsNumbered}
use Rattle.pg_group.specs.Settling.{IsSettledFrom}
use Rattle.pg_group.proofs.Lanes.{IsNumbered-take}

pub shows : {B : Type 0} (lane : Settled (Envelope B)) (out_sent in_taken : List (Envelope B)) (sent taken : List (Body B)) (room : ℕ) (capacity : Option ℕ)
    → settled_sent lane ≡ out_sent → settled_taken lane ≡ in_taken → settled_capacity lane ≡ room → IsNumbered out_sent
    → sent ≡ bodies out_sent → taken ≡ bodies in_taken → capacity ≡ Some room → IsSettledFrom sent taken capacity lane
shows lane out_sent in_taken sent taken room capacity same_sent same_taken same_room numbered is_sent is_taken is_room =
    let all_numbered : IsNumbered (settled_sent lane) = subst IsNumbered (sym same_sent) numbered in
    record {
      all_sent = ap bodies same_sent ∙ sym is_sent;
      all_taken = ap bodies same_taken ∙ sym is_taken;
      sent_numbered = all_numbered;
      taken_numbered = IsNumbered-take (length (settled_taken lane)) (settled_sent lane) (settled_taken lane) lane.prefix all_numbered;
      same_capacity = is_room ∙ ap Some (sym same_room);
    }
