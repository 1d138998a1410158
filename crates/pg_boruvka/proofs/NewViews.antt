-- What a new program shows.
use Rattle.std.proofs.Common.{◌≡◌, ℕ, suc, ◌+◌, ◌<◌, ◌≤◌, Bool, true, false, cond, List, [], ◌∷◌, None, length, map, filter, refl, sym, ◌∙◌, ap, subst, arith, All, Contains}
use Rattle.std.specs.Prelude.{slice_index}
use Rattle.pg_group.specs.Supersteps.{nothing}
use Rattle.pg_boruvka.specs.declared.dense.Stage.TheVariants as stage
use Rattle.pg_boruvka.specs.Parts.{LocalArc}
use Rattle.pg_boruvka.specs.Winners.{first_label, labels_of}
use Rattle.pg_boruvka.specs.Arcs.{relabelled, is_apart, AreLeasts}
use Rattle.pg_boruvka.specs.Lowered.{AreBegun}
use Rattle.pg_boruvka.specs.Chosen.{marked_from}
use Rattle.pg_boruvka.specs.Orderly.{IsOrderly}
use Rattle.pg_boruvka.specs.Known.{View, label_of}
use Rattle.pg_boruvka.specs.Shown.{IsNewView}
use Rattle.pg_boruvka.proofs.DueMessages.{AgreeAt}
use Rattle.pg_boruvka.proofs.Relabelled.{kept_same, leasts_same}
use Rattle.pg_boruvka.proofs.BeginningPhases.{begun_winner, none_in_nothing}

step_none : (is : Bool) (i : ℕ) (marks : List Bool) → is ≡ false → marked_from (i + 1) marks ≡ [] → cond is (i ∷ marked_from (i + 1) marks) (marked_from (i + 1) marks) ≡ []
step_none true i marks off rest = cc
step_none false i marks off rest = rest

none_marked : (i : ℕ) (marks : List Bool) → All (λ is. is ≡ false) marks → marked_from i marks ≡ []
none_marked i [] none = refl
none_marked i (is ∷ marks) none = step_none is i marks (none 0 false (omega arith)) (none_marked (i + 1) marks (λ k d h. none (suc k) d (omega arith)))

pub new_view : (v : View) (from : List LocalArc) (targets : List ℕ) (first past : ℕ) → v.stage ≡ stage.Up → v.phase ≡ 0 → v.to ≡ 0 → v.at ≡ 0 → v.cast ≡ None → v.ended ≡ false
    → from ≡ v.part.arcs → v.known.arcs ≡ map (relabelled (slice_index targets)) (filter (is_apart (slice_index targets)) from)
    → AreLeasts from (slice_index targets) v.known.keys v.known.across → AreBegun v.known.keys first past v.known.winners
    → first ≡ first_label v.part v.part.rank → past ≡ first_label v.part v.part.rank + labels_of v.part v.part.rank → v.part.rank < v.part.ranks
    → ((a : LocalArc) → Contains v.part.arcs a → IsOrderly v.part.n a) → length v.known.keys ≡ v.part.n + 1 → length v.known.winners ≡ v.part.n + 1
    → ((x : ℕ) → x ≤ v.part.n → label_of v x ≡ x) → ((x : ℕ) → x ≤ v.part.n → slice_index targets x ≡ x) → All (λ is. is ≡ false) v.known.chosen → IsNewView v
new_view v from targets first past up begin to at cast ended same arcs leasts begun is_first is_past rank orderly keys winners labels own none =
    let agree : AgreeAt v.part.n (slice_index targets) (label_of v) = λ x vertex. own x vertex.last ∙ sym (labels x vertex.last) in
    let all : AreLeasts v.part.arcs (label_of v) v.known.keys v.known.across =
    leasts_same v.part (slice_index targets) (label_of v) orderly agree v.known.keys v.known.across
    (subst (λ (x : List LocalArc). AreLeasts x (slice_index targets) v.known.keys v.known.across) same leasts) in
    record {
      gathered = record {
        arcs = arcs ∙ ap (λ (x : List LocalArc). map (relabelled (slice_index targets)) (filter (is_apart (slice_index targets)) x)) same
            ∙ kept_same v.part (slice_index targets) (label_of v) orderly agree;
        leasts = all;
      };
      winners = begun_winner v.part (nothing v.part.ranks) (label_of v) 0 v.known.keys v.known.across v.known.winners first past rank orderly (none_in_nothing 0 v.part.ranks) (none_in_nothing 1 v.part.ranks)
          all keys winners is_first is_past begun;
      labels = λ x vertex. labels x vertex.last;
      unchosen = none_marked 0 v.known.chosen none;
      stage = up;
      phase = begin;
      to = to;
      at = at;
      cast = cast;
      ended = ended;
    }
