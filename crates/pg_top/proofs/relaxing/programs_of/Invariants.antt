use Rattle.std.proofs.Common.{◌≡◌, ℕ, ◌+◌, ◌≤◌, ◌++◌, length, map, reverse, vec_len}
use Rattle.std.specs.Vec.{vec_capacity}
use Rattle.pg_group.specs.Entries.{Each}
use Rattle.pg_agenda.specs.declared.shares.Share.{Share}
use Rattle.pg_relax.specs.Shown.{IsNewRelax, label_in, part_in, state_of}
use Rattle.pg_top.proofs.relaxing.programs_of.Given as goal

abbrev pub invariant-loop-part : goal.invariant-loop-part
invariant-loop-part g l =
    record {
      parts : l.fn.parts.items ≡ l.parts.items ++ map part_in (reverse l.programs.items);
      fit : length l.parts.items + length l.programs.items ≤ vec_capacity l.programs;
      new : Each (λ rank p. IsNewRelax p) (reverse l.programs.items);
      labels : Each (λ rank p. label_in p ≡ l.label) (reverse l.programs.items);
      shares : Each (λ rank p. (share : Share) (w : ℕ) → (state_of p).takes share w ≡ g.M.Agendas.takes l.agendas share w) (reverse l.programs.items);
    }

abbrev pub decreases-loop-part : goal.decreases-loop-part
decreases-loop-part g l = vec_len l.parts
