-- The work of a grid, in the forms in which it is asked for.
use Rattle.std.proofs.Common.{◌≡◌, ℕ, Option, List, subst}
use Rattle.pg_base.specs.Graph.{Graph}
use Rattle.pg_lane.specs.declared.settling.Settled.{Settled}
use Rattle.pg_group.specs.declared.messages.Envelope.{Envelope}
use Rattle.pg_label.specs.declared.labels.Label.{Ghosts as LabelGhosts}
use Rattle.pg_agenda.specs.declared.agendas.Agenda.{Ghosts as AgendaGhosts}
use Rattle.pg_agenda.specs.Shares.{Places}
use Rattle.pg_best.specs.declared.offers.Offer.{Offer}
use Rattle.pg_relax.specs.declared.relaxing.Relax.{Relax}
use Rattle.pg_words.specs.Plan.{Meaning}
use Rattle.pg_words.specs.declared.plans.Algorithm.TheVariants as algorithm
use Rattle.pg_top.specs.declared.columns.Field.TheVariants.{Amount}
use Rattle.pg_top.specs.declared.works.Work.{Work}
use Rattle.pg_top.specs.declared.works.Work.TheVariants as work
use Rattle.pg_top.specs.Work.{IsCarried, IsSummarized, IsWork}

module _ {L A : Type 0} {l : LabelGhosts L} {a : AgendaGhosts A} where
  pub carried_for : (label : L) (takes : Places) (owners others : Option (List ℕ)) (ranks capacity : ℕ) (g k : Graph) (answers : List (Option ℕ)) (programs : List (Relax L A l a)) (lanes : List (Settled (Envelope Offer)))
      → owners ≡ others → g ≡ k → IsCarried label takes Amount owners ranks capacity g answers programs lanes → IsCarried label takes Amount others ranks capacity k answers programs lanes
  carried_for label takes owners others ranks capacity g k answers programs lanes alike same carried =
      subst (λ (x : Graph). IsCarried label takes Amount others ranks capacity x answers programs lanes) same
      (subst (λ (x : Option (List ℕ)). IsCarried label takes Amount x ranks capacity g answers programs lanes) alike carried)

is_work : (plan : Meaning) (g : Graph) (owners : Option (List ℕ)) (text : List ℕ) (found : Work) → plan.algorithm ≡ algorithm.Grid → IsSummarized plan.delta plan.ranks plan.capacity g text found → IsWork plan g owners text found
is_work plan g owners text work.None is h = absurd h
is_work plan g owners text (work.Hops f) is h = absurd h
is_work plan g owners text (work.Weights f) is h = absurd h
is_work plan g owners text (work.Roots f) is h = absurd h
is_work plan g owners text (work.Forest f) is h = absurd h
is_work plan g owners text (work.Colours f) is h = absurd h
is_work plan g owners text (work.Grid both weights forest colours) is h = (is, h)

pub summarized_for : (plan : Meaning) (g : Graph) (owners : Option (List ℕ)) (text : List ℕ) (found : Work) (ranks capacity : ℕ) → plan.algorithm ≡ algorithm.Grid → ranks ≡ plan.ranks → capacity ≡ plan.capacity
    → IsSummarized plan.delta ranks capacity g text found → IsWork plan g owners text found
summarized_for plan g owners text found ranks capacity is same_ranks same_capacity h =
    is_work plan g owners text found is
    (subst (λ (n : ℕ). IsSummarized plan.delta plan.ranks n g text found) same_capacity
    (subst (λ (n : ℕ). IsSummarized plan.delta n capacity g text found) same_ranks h))
