use Rattle.std.proofs.Common.{false, ◌||◌, None, is_some, get_or, length, refl, sym, ap, subst, ◌∙◌, arith}
use Rattle.std.specs.Prelude.{slice_get, unwrap_or}
use Rattle.std.specs.Option.{option_or}
use Rattle.std.proofs.lemmas.List.{get_or_read}
use Rattle.std.proofs.lemmas.Option.{slice_get_read}
use Rattle.pg_adj.specs.declared.arcs.Ghost.{Ghost}
use Rattle.pg_adj.specs.Portions.{IsForeign}
use Rattle.pg_cells.specs.Shown.{state_of}
use Rattle.pg_cells.proofs.Padded.{at_most, get_padded, all_unset}
use Rattle.pg_cells.proofs.Owing.{is_pending-lt, next_is}
use Rattle.pg_cells.proofs.NextSends.{pending_outgoing}
use Rattle.pg_cells.proofs.cells.Cells.put_outgoing.Goals as goal

pub index-held-requires : goal.index-held-requires
index-held-requires g c =
    let s = c.args.self.now in
    let d = s.pending_puts in
    let count = length s.slots.held.items in
    let pending_put = next_is d.owed.items d.noted.items d.slots.items c.args.slot d.listed c.requires.0 in
    omega (arith, is_pending-lt d.owed.items d.noted.items c.args.slot count (at_most s.flags.forward d.owed.items count s.owed_each s.owed_none) (at_most s.flags.flush d.noted.items count s.noted_each s.noted_none) pending_put, s.slots.held.ok.0)

pub index-requires : goal.index-requires
index-requires g c =
    let s = c.args.self.now in
    let d = s.pending_puts in
    let count = length s.slots.held.items in
    let pending_put = next_is d.owed.items d.noted.items d.slots.items c.args.slot d.listed c.requires.0 in
    omega (arith, is_pending-lt d.owed.items d.noted.items c.args.slot count (at_most s.flags.forward d.owed.items count s.owed_each s.owed_none) (at_most s.flags.flush d.noted.items count s.noted_each s.noted_none) pending_put, s.ghosts.ok.0, s.ghosts_each)

pub returns-clause-foreign : goal.returns-clause-foreign
returns-clause-foreign g c =
    let s = c.args.self.now in
    let d = s.pending_puts in
    let count = length s.slots.held.items in
    let pending_put = next_is d.owed.items d.noted.items d.slots.items c.args.slot d.listed c.requires.0 in
    let lt = is_pending-lt d.owed.items d.noted.items c.args.slot count (at_most s.flags.forward d.owed.items count s.owed_each s.owed_none) (at_most s.flags.flush d.noted.items count s.noted_each s.noted_none) pending_put in
    subst (λ (x : Ghost). IsForeign s.part.value x.home.0) (sym c.index-held.ensures) (s.homes c.args.slot c.index-held.result.now lt)

pub returns-clause-sends : goal.returns-clause-sends
returns-clause-sends g c =
    let s = c.args.self.now in
    let d = s.pending_puts in
    let slot = c.args.slot in
    let count = length s.slots.held.items in
    let ghosts = length s.part.value.ghosts in
    let pending_put = next_is d.owed.items d.noted.items d.slots.items slot d.listed c.requires.0 in
    let lt = is_pending-lt d.owed.items d.noted.items slot count (at_most s.flags.forward d.owed.items count s.owed_each s.owed_none) (at_most s.flags.flush d.noted.items count s.noted_each s.noted_none) pending_put in
    let there = sym (ap (λ gs. slice_get gs slot) s.held) ∙ slice_get_read s.slots.held.items count slot c.index-held.result.now refl lt c.index-held.ensures in
    let cell = get_or_read s.ghosts.items slot c.index.result.now (omega (arith, s.ghosts_each)) c.index.ensures None in
    let put = get_padded s.flags.forward d.owed.items ghosts slot None s.owed_none in
    let note = get_padded s.flags.flush d.noted.items ghosts slot false s.noted_none in
    let value = c.unwrap_or-value.ensures ∙ ap (λ o. unwrap_or o 0) (c.or.ensures ∙ (ap (λ o. option_or o c.index.result.now) (c.owed_for.ensures ∙ sym put) ∙ ap (option_or (get_or (state_of s).owed slot None)) cell)) in
    pending_outgoing (state_of s) slot c.unwrap_or-value.result c.index-held.result.now
    record {
      owed = all_unset s.flags.forward d.owed.items ghosts None;
      noted = all_unset s.flags.flush d.noted.items ghosts false;
      values = λ k h. s.noted_values k (sym (get_padded s.flags.flush d.noted.items ghosts k false s.noted_none) ∙ h);
    } there value (ap (λ o. is_some o || get_or (state_of s).noted slot false) put ∙ (ap (λ n. is_some (get_or d.owed.items slot None) || n) note ∙ pending_put)) c.requires.1
