use Rattle.std.proofs.Common.{◌-◌, inl, inr, refl, sym, ◌∙◌, arith}
use Rattle.std.proofs.lemmas.Bool.{cases_lt}
use Rattle.pg_agenda.specs.Shares.{NONE}
use Rattle.pg_agenda.specs.Moves.{home}
use Rattle.pg_agenda.specs.BucketPhases.{bucket_of}
use Rattle.pg_agenda.proofs.Queues.{head_none}
use Rattle.pg_agenda.proofs.bucket_queues.move_lists.Goals as goal

pub loop-list-init : goal.loop-list-init
loop-list-init c =
    let buckets = c.args.buckets.now in
    let moves = c.args.lists.now.moves in
    record {
      nodes = refl;
      count = refl;
      moved = λ place lt. elim (cases_lt (bucket_of buckets place) NONE) [
        | inl some ↦ let between = c.requires.pending place lt some in inr (omega (arith, between.0), between.1, some)
        | inr none ↦ inl (c.requires.alone place lt none ∙ sym (head_none c.args.heads c.args.first buckets place none))
      ];
      bound = λ place lt h. elim (cases_lt (bucket_of buckets place) NONE) [
        | inl some ↦
            let between = c.requires.pending place lt some in
            absurd (c.requires.apart (home moves place - c.args.from) 1024 (omega (arith, between.0, between.1)) (omega arith) (omega (arith, between.0, h)))
        | inr none ↦ none
      ];
    }

pub move_list-bound-requires-clause-apart : goal.move_list-bound-requires-clause-apart
move_list-bound-requires-clause-apart c offset le e = c.requires.apart c.loop-list.list offset (omega arith) le e
