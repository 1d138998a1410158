-- A finished run of relaxations over a divided graph: the programs, the lanes, and how they belong together.
-- Source: Gregor and Lumsdaine, Lifting sequential graph algorithms for distributed-memory parallel computation (OOPSLA 2005).
use Rattle.std.specs.Prelude.{◌≡◌, ℕ, ◌+◌, ◌<◌, ◌≤◌, true, List, length, map, slice_get, slice_index_or, Option, Some, None, option_and_then}
use Rattle.pg_label.specs.declared.values.Value.{Value}
use Rattle.pg_best.specs.Labels.{amount_in}
use Rattle.pg_top.specs.declared.columns.Field.{Field}
use Rattle.pg_top.specs.declared.columns.Field.TheVariants.{Amount, Class}
use Rattle.pg_relax.specs.Tables.{value_at}
use Rattle.pg_base.specs.Graph.{Graph}
use Rattle.pg_lane.specs.declared.settling.Settled.{Settled}
use Rattle.pg_lane.specs.Settled.{settled_capacity}
use Rattle.pg_group.specs.declared.messages.Body.{Body}
use Rattle.pg_group.specs.declared.messages.Envelope.{Envelope}
use Rattle.pg_group.specs.Book.{PairLists, IsWhole, IsMarked}
use Rattle.pg_group.specs.Entries.{Each}
use Rattle.pg_group.specs.Ranked.{IsOther, list_at}
use Rattle.pg_run.specs.Lanes.{AreWhole, EachLane, sent_on, taken_on}
use Rattle.pg_label.specs.declared.labels.Label.{Ghosts as LabelGhosts}
use Rattle.pg_agenda.specs.declared.agendas.Agenda.{Ghosts as AgendaGhosts}
use Rattle.pg_agenda.specs.declared.shares.Share.{Share}
use Rattle.pg_agenda.specs.Shares.{Places}
use Rattle.pg_dist.specs.Sharing.{Sharing}
use Rattle.pg_adj.specs.Portions.{Portion}
use Rattle.pg_adj.specs.Division.{Divided}
use Rattle.pg_best.specs.declared.offers.Offer.{Offer}
use Rattle.pg_relax.specs.declared.relaxing.Relax.{Relax}
use Rattle.pg_relax.specs.Shown.{IsNewRelax, KeepsRelaxed, label_in, part_in, state_of}

module _ {L A : Type 0} {l : LabelGhosts L} {a : AgendaGhosts A} where
  -- The program has ended, and has kept its promise from its opening state over the lists of the book.
  pub record HasRelaxed (ranks rank : ℕ) (sent taken : PairLists Offer) (start now : Relax L A l a) : Type 0 where
    pub handled : List (List (Body Offer))
    pub promised : List (List (Body Offer))
    pub keeps : KeepsRelaxed start handled promised now
    pub ended : (state_of now).ended ≡ true
    pub handled_is : (from : ℕ) → IsOther rank ranks from → list_at handled from ≡ taken from rank
    pub sent_is : (to : ℕ) → IsOther rank ranks to → list_at promised to ≡ sent rank to

  -- A program for each part, new over it, whose agenda's shares take the arcs of these weights from first to last, and a lane of this
  -- capacity for each sender and receiver. All that was sent was taken, and each program has ended and kept its promise.
  pub record IsRunOver (label : L) (takes : Places) (ranks : ℕ) (parts : List Portion) (capacity : ℕ) (programs : List (Relax L A l a)) (lanes : List (Settled (Envelope Offer))) : Type 0 where
    pub openings : List (Relax L A l a)
    pub opened : map part_in openings ≡ parts
    pub new : Each (λ rank p. IsNewRelax p) openings
    pub labels : Each (λ rank p. label_in p ≡ label) openings
    pub shares : Each (λ rank p. (share : Share) (w : ℕ) → (state_of p).takes share w ≡ takes share w) openings
    pub final_shares : Each (λ rank p. (share : Share) (w : ℕ) → (state_of p).takes share w ≡ takes share w) programs
    pub count : length programs ≡ ranks
    pub lane_for_each : AreWhole ranks lanes
    pub capacities : EachLane ranks lanes (λ lane. settled_capacity lane ≡ capacity)
    pub book : IsWhole ranks (sent_on ranks lanes) (taken_on ranks lanes)
    pub marks : IsMarked ranks (sent_on ranks lanes)
    pub kept : Each (λ rank p. (start : Relax L A l a) → slice_get openings rank ≡ Some start → HasRelaxed ranks rank (sent_on ranks lanes) (taken_on ranks lanes) start p) programs

  -- The same over the parts of a graph that is divided by a distribution.
  pub record IsRelaxation (label : L) (takes : Places) (s : Sharing) (g : Graph) (capacity : ℕ) (programs : List (Relax L A l a)) (lanes : List (Settled (Envelope Offer))) : Type 0 where
    pub parts : List Portion
    pub divided : Divided s g parts
    pub run : IsRunOver label takes s.ranks parts capacity programs lanes

-- Each part has its rank, and there are as many as they say.
abbrev pub AreInOrder : List Portion → Type 0
AreInOrder parts = Each (λ rank p. (p.rank ≡ rank) × (p.ranks ≡ length parts)) parts

abbrev pub class_in : Option Value → Option ℕ
class_in None = None
class_in (Some x) = Some x.class

-- One number of a value, if there is one.
abbrev pub field_in : Field → Option Value → Option ℕ
field_in Amount value = amount_in value
field_in Class value = class_in value

module _ {L A : Type 0} {l : LabelGhosts L} {a : AgendaGhosts A} where
  -- The value that the program of the vertex's owner has at the vertex's place.
  abbrev pub value_of : Sharing → List (Relax L A l a) → ℕ → Option Value
  value_of s programs v = option_and_then (λ p. value_at (state_of p).values (s.local v)) (slice_get programs (s.owner v))

  -- Place v - 1 holds this number of the value of v.
  pub record AreAnswers (field : Field) (s : Sharing) (programs : List (Relax L A l a)) (answers : List (Option ℕ)) : Type 0 where
    pub count : length answers ≡ s.n
    pub each : (v : ℕ) → v < s.n → slice_index_or answers v None ≡ field_in field (value_of s programs (v + 1))

  -- The program of each vertex's owner has the vertex's place.
  abbrev pub HavePlaces : Sharing → List (Relax L A l a) → Type 0
  HavePlaces s programs = (v : ℕ) (p : Relax L A l a) → 1 ≤ v → v ≤ s.n → slice_get programs (s.owner v) ≡ Some p → s.local v < length (part_in p).vertices
