-- A phase begins with the own keys as winners, and a new program keeps its promise.
use Rattle.std.proofs.Common.{◌≡◌, ◌≢◌, ◌==◌, ◌⊎◌, ℕ, zero, suc, ◌+◌, ◌*◌, ◌<◌, ◌≤◌, Bool, true, false, List, [], ◌∷◌, ◌++◌, length, refl, sym, ◌∙◌, ap, subst, inl, inr, ⊎_elim, arith, Option, Some, None, Contains}
use Rattle.std.specs.Prelude.{min, slice_index}
use Rattle.pg_group.specs.declared.messages.Body.{Body}
use Rattle.pg_group.specs.declared.messages.Vote.{Vote}
use Rattle.pg_group.specs.Ranked.{IsOther, list_at}
use Rattle.pg_group.specs.Rounds.{items_of_round}
use Rattle.pg_group.specs.Supersteps.{nothing}
use Rattle.pg_adj.specs.Portions.{IsVertex}
use Rattle.pg_boruvka.specs.declared.TheConstants.{NO_KEY}
use Rattle.pg_boruvka.specs.declared.messages.Message.{Message}
use Rattle.pg_boruvka.specs.declared.dense.Stage.{Stage}
use Rattle.pg_boruvka.specs.declared.dense.Stage.TheVariants as stage
use Rattle.pg_boruvka.specs.Parts.{LocalArc, Part}
use Rattle.pg_boruvka.specs.Winners.{own_key, best_arc, key_of, winner, first_label, labels_of, least, given_keys, items_in}
use Rattle.pg_boruvka.specs.LocalDense.{State, AreSent, LocalDense}
use Rattle.pg_boruvka.specs.Steps.{opening}
use Rattle.pg_boruvka.specs.Arcs.{AreLeasts}
use Rattle.pg_boruvka.specs.Lowered.{IsBetween, AreBegun}
use Rattle.pg_boruvka.specs.Orderly.{IsOrderly}
use Rattle.pg_boruvka.specs.Known.{View, label_of, round_of, state_of, stage_no}
use Rattle.pg_boruvka.specs.Shown.{IsPassed, IsPassedMessage, AreSentSoFar, IsNewView, HasChosen}
use Rattle.pg_boruvka.specs.Calls.{IsOwnLabel}
use Rattle.pg_boruvka.proofs.Keeping.{opening_keeps, none_at}
use Rattle.pg_boruvka.proofs.Items.{none_in}
use Rattle.pg_boruvka.proofs.Leasts.{IsBestArc, best_arc_is}
use Rattle.pg_boruvka.proofs.Handled.{own_cases, own_winner, other_winner}

-- An own key is at most none.
own_small : (part : Part) (label : ℕ → ℕ) (l : ℕ) → ((a : LocalArc) → Contains part.arcs a → IsOrderly part.n a) → own_key part label l ≤ NO_KEY
own_small part label l orderly = by_best (best_arc part label l) (best_arc_is part label l) where
  by_best : (o : Option LocalArc) → IsBestArc part label l o → key_of o ≤ NO_KEY
  by_best None none = omega arith
  by_best (Some a) best = let small = (orderly a best.0.among).key in omega arith

-- Where nothing was handled in the phase yet, the winners are those with which it begins.
pub begun_winner : (part : Part) (handled : List (List (Body Message))) (label : ℕ → ℕ) (p : ℕ) (keys across winners : List ℕ) (first past : ℕ) → part.rank < part.ranks
    → ((a : LocalArc) → Contains part.arcs a → IsOrderly part.n a) → items_in (3 * p) handled ≡ [] → items_in (3 * p + 1) handled ≡ []
    → AreLeasts part.arcs label keys across → length keys ≡ part.n + 1 → length winners ≡ part.n + 1
    → first ≡ first_label part part.rank → past ≡ first_label part part.rank + labels_of part part.rank → AreBegun keys first past winners
    → (l : ℕ) → IsVertex part.n l → slice_index winners l ≡ winner part handled label p l
begun_winner part handled label p keys across winners first past rank orderly none_up none_down leasts each each_winner is_first is_past begun l vertex = ⊎_elim
    (λ own.
    let small = own_small part label l orderly in
    let key : slice_index keys l ≡ own_key part label l = leasts.key l (omega (arith, vertex.last, each)) in
    let none : least (given_keys l (items_in (3 * p) handled)) ≡ NO_KEY = ap (λ (x : List Message). least (given_keys l x)) none_up in
    begun.between l (record { from = omega (arith, own.from, is_first); before = omega (arith, own.before, is_past) })
    ∙ sym (own_winner part handled label p l own ∙ omega (arith, small, key, none)))
    (λ other.
    begun.others l (omega (arith, vertex.last, each_winner)) (λ b. other (record { from = omega (arith, b.from, is_first); before = omega (arith, b.before, is_past) }))
    ∙ sym (other_winner part handled label p l rank vertex other ∙ ap (λ (x : List Message). least (given_keys l x)) none_down))
    (own_cases part l)

pub none_in_nothing : (k n : ℕ) → items_in k (nothing {B = Message} n) ≡ []
none_in_nothing k zero = refl
none_in_nothing k (suc n) = none_in_nothing k n

-- The opening state with other labels of what is no vertex.
labelled : (far : ℕ) (part : Part) (label : ℕ → ℕ) → ((x : ℕ) → IsVertex part.n x → label x ≡ x)
    → LocalDense far part (nothing part.ranks) (nothing part.ranks) (record { round = 0; cast = None; ended = false; label = label; edges = [] })
labelled far part label own =
    let s : State = record { round = 0; cast = None; ended = false; label = label; edges = [] } in
    let o = opening_keeps far part in
    record {
      counted = record {
        from_each = o.counted.from_each;
        to_each = o.counted.to_each;
        running = o.counted.running;
        closed = o.counted.closed;
        given = o.counted.given;
        zeros = o.counted.zeros;
        later = o.counted.later;
      };
      phase = λ p sound.
          let is = o.phase p sound in
          record {
            up = λ to other. let are = is.up to other in record { due = are.due; once = are.once; all = are.all };
            down = λ to other. let are = is.down to other in record { due = are.due; once = are.once; all = are.all };
            hooks = λ to other. let are = is.hooks to other in record { due = are.due; once = are.once; all = are.all };
            labels = λ now x vertex. own x vertex ∙ is.labels now x vertex;
            ascending = is.ascending;
            edges = is.edges;
            ended = is.ended;
            going = is.going;
          };
    }

opening_as : (far : ℕ) (part : Part) (round : ℕ) (cast : Option Vote) (ended : Bool) (label : ℕ → ℕ) (edges : List ℕ) → round ≡ 0 → cast ≡ None → ended ≡ false → ((x : ℕ) → IsVertex part.n x → label x ≡ x)
    → edges ≡ [] → LocalDense far part (nothing part.ranks) (nothing part.ranks) (record { round = round; cast = cast; ended = ended; label = label; edges = edges })
opening_as far part round cast ended label edges r c e own none =
    subst (λ (x : ℕ). LocalDense far part (nothing part.ranks) (nothing part.ranks) (record { round = x; cast = cast; ended = ended; label = label; edges = edges })) (sym r)
    (subst (λ (x : Option Vote). LocalDense far part (nothing part.ranks) (nothing part.ranks) (record { round = 0; cast = x; ended = ended; label = label; edges = edges })) (sym c)
    (subst (λ (x : Bool). LocalDense far part (nothing part.ranks) (nothing part.ranks) (record { round = 0; cast = None; ended = x; label = label; edges = edges })) (sym e)
    (subst (λ (x : List ℕ). LocalDense far part (nothing part.ranks) (nothing part.ranks) (record { round = 0; cast = None; ended = false; label = label; edges = x })) (sym none)
    (labelled far part label own))))

not_hook : (s : Stage) → s ≡ stage.Up → s ≡ stage.Hook → ⊥
not_hook s up hook = let bad : stage.Up ≡ stage.Hook = sym up ∙ hook in cc

pub new_keeps : (far : ℕ) (v : View) → IsNewView v → HasChosen far (nothing v.part.ranks) (nothing v.part.ranks) v
new_keeps far v new = record {
  local = opening_as far v.part (round_of v) v.cast v.ended (label_of v) (state_of v).edges
      ((λ i. 3 * new.phase i + stage_no (new.stage i)) ∙ omega arith) new.cast new.ended new.labels new.unchosen;
  gathered = new.gathered;
  alone = none_at v.part.ranks v.part.rank;
  running = λ e. new.ended;
  winners = λ e l vertex. new.winners l vertex ∙ ap (λ (p : ℕ). winner v.part (nothing v.part.ranks) (label_of v) p l) (sym new.phase);
  hooks = λ e is. absurd (not_hook v.stage new.stage is);
  sent_so_far = λ e. record {
    due = λ to m other c. absurd (none_in (items_of_round (round_of v) (list_at (nothing v.part.ranks) to)) m (ap (items_of_round (round_of v)) (none_at v.part.ranks to)) c);
    all = λ to m other p. ⊎_elim (λ early. absurd (omega (arith, early, new.to))) (λ late. absurd (omega (arith, late.1, new.at))) p.passed;
  };
}
