-- A finished run of two relaxations over one divided graph, as a pair on each rank: the pairs, the lanes between them, and what each
-- member has of both.
-- Source: Gregor and Lumsdaine, Lifting sequential graph algorithms for distributed-memory parallel computation (OOPSLA 2005).
use Rattle.std.specs.Prelude.{◌≡◌, ℕ, List, length, map, slice_get, Option, Some}
use Rattle.pg_base.specs.Graph.{Graph, arcs_of}
use Rattle.pg_lane.specs.declared.settling.Settled.{Settled}
use Rattle.pg_lane.specs.Settled.{settled_capacity}
use Rattle.pg_group.specs.declared.messages.Envelope.{Envelope}
use Rattle.pg_group.specs.declared.programs.Program.{Ghosts as ProgramGhosts}
use Rattle.pg_group.specs.Book.{PairLists, IsWhole, IsMarked}
use Rattle.pg_group.specs.Entries.{Each}
use Rattle.pg_run.specs.Lanes.{AreWhole, EachLane, sent_on, taken_on}
use Rattle.pg_triggers.specs.declared.items.Of2.{Of2}
use Rattle.pg_triggers.specs.declared.pairs.Pair.{Pair}
use Rattle.pg_triggers.specs.Mine.{first_book, second_book}
use Rattle.pg_label.specs.declared.labels.Label.{Ghosts as LabelGhosts}
use Rattle.pg_label.specs.declared.labels.Hops.{Hops}
use Rattle.pg_label.specs.declared.labels.Root.{Root}
use Rattle.pg_agenda.specs.declared.agendas.Agenda.{Ghosts as AgendaGhosts}
use Rattle.pg_agenda.specs.declared.levels.Levels.{Levels}
use Rattle.pg_agenda.specs.declared.shares.Share.{Share}
use Rattle.pg_agenda.specs.Shares.{Places, takes_all}
use Rattle.pg_dist.specs.Sharing.{Sharing, IsSharing}
use Rattle.pg_adj.specs.Portions.{Portion}
use Rattle.pg_adj.specs.Division.{Divided}
use Rattle.pg_best.specs.declared.offers.Offer.{Offer}
use Rattle.pg_best.specs.Relaxed.{Relaxed}
use Rattle.pg_relax.specs.declared.relaxing.Relax.{Relax}
use Rattle.pg_relax.specs.Shown.{IsNewRelax, label_in, part_in, state_of}
use Rattle.pg_relax.specs.States.{label_of}
use Rattle.pg_label.specs.contracts.labels.HopsLabel.TheImpl.{ghosts as by_hops}
use Rattle.pg_label.specs.contracts.labels.RootLabel.TheImpl.{ghosts as by_root}
use Rattle.pg_agenda.specs.contracts.levels.LevelsAgenda.TheImpl.{ghosts as by_level}
use Rattle.pg_top.specs.declared.columns.Field.TheVariants.{Amount, Class}
use Rattle.pg_top.specs.Distributions.{IsInBlocks}
use Rattle.pg_top.specs.Relaxed.{AreAnswers, HasRelaxed, value_of}

module _ {L A : Type 0} {l : LabelGhosts L} {a : AgendaGhosts A} where
  -- A relaxation by this label for each part of the divided graph, new over it, whose agenda's shares take the arcs of these weights.
  pub record AreOpen (label : L) (takes : Places) (s : Sharing) (g : Graph) (programs : List (Relax L A l a)) : Type 0 where
    pub parts : List Portion
    pub divided : Divided s g parts
    pub opened : map part_in programs ≡ parts
    pub new : Each (λ rank p. IsNewRelax p) programs
    pub labels : Each (λ rank p. label_in p ≡ label) programs
    pub shares : Each (λ rank p. (share : Share) (w : ℕ) → (state_of p).takes share w ≡ takes share w) programs

  -- Such relaxations, ended over a book that is whole and marked: each has kept its promise from its opening over the book's lists.
  pub record IsRelaxedOver (label : L) (takes : Places) (s : Sharing) (g : Graph) (sent taken : PairLists Offer) (programs : List (Relax L A l a)) : Type 0 where
    pub openings : List (Relax L A l a)
    pub opens : AreOpen label takes s g openings
    pub shares : Each (λ rank p. (share : Share) (w : ℕ) → (state_of p).takes share w ≡ takes share w) programs
    pub count : length programs ≡ s.ranks
    pub book : IsWhole s.ranks sent taken
    pub marks : IsMarked s.ranks sent
    pub kept : Each (λ rank p. (start : Relax L A l a) → slice_get openings rank ≡ Some start → HasRelaxed s.ranks rank sent taken start p) programs

-- A relaxation by numbers of arcs, and one by least vertices.
abbrev pub ByHops : Type 0
ByHops = Relax Hops Levels by_hops by_level

abbrev pub ByRoots : Type 0
ByRoots = Relax Root Levels by_root by_level

module _ {p : ProgramGhosts ByHops Offer} {q : ProgramGhosts ByRoots Offer} where
  abbrev pub hops_in : Pair ByHops ByRoots Offer Offer p q → ByHops
  hops_in pair = pair.first

  abbrev pub roots_in : Pair ByHops ByRoots Offer Offer p q → ByRoots
  roots_in pair = pair.second

  -- The pairs have ended over a lane of this capacity for each sender and receiver, on which all that was sent was taken. Each member has
  -- ended over a whole book of its own: its items on the lanes, and its marks up to the round with which it ended.
  pub record ArePaired (source : ℕ) (s : Sharing) (g : Graph) (capacity : ℕ) (programs : List (Pair ByHops ByRoots Offer Offer p q)) (lanes : List (Settled (Envelope (Of2 Offer Offer)))) : Type 0 where
    pub lane_for_each : AreWhole s.ranks lanes
    pub capacities : EachLane s.ranks lanes (λ lane. settled_capacity lane ≡ capacity)
    pub book : IsWhole s.ranks (sent_on s.ranks lanes) (taken_on s.ranks lanes)
    pub marks : IsMarked s.ranks (sent_on s.ranks lanes)
    pub last_hops : ℕ
    pub last_roots : ℕ
    pub hops : IsRelaxedOver (record { source = source }) takes_all s g (first_book last_hops (sent_on s.ranks lanes)) (first_book last_hops (taken_on s.ranks lanes)) (map hops_in programs)
    pub roots : IsRelaxedOver (record {}) takes_all s g (second_book last_roots (sent_on s.ranks lanes)) (second_book last_roots (taken_on s.ranks lanes)) (map roots_in programs)

  -- Such a run on so many ranks, among which the graph is divided in blocks, and the answers are numbers of the values that the members
  -- hold. The lanes carried, for both members, what relaxes each arc between two ranks.
  pub record IsPairCarried (source ranks capacity : ℕ) (g : Graph) (hops roots : List (Option ℕ)) (programs : List (Pair ByHops ByRoots Offer Offer p q)) (lanes : List (Settled (Envelope (Of2 Offer Offer)))) : Type 0 where
    pub sharing : Sharing
    pub laws : IsSharing sharing
    pub distribution : IsInBlocks g.n ranks sharing
    pub paired : ArePaired source sharing g capacity programs lanes
    pub hops_held : AreAnswers Amount sharing (map hops_in programs) hops
    pub roots_held : AreAnswers Class sharing (map roots_in programs) roots
    pub hops_relaxed : Relaxed (label_of (by_hops.start (record { source = source })) (by_hops.add (record { source = source }))) (arcs_of g.edges) sharing.owner sharing.local (value_of sharing (map hops_in programs))
        (first_book paired.last_hops (sent_on sharing.ranks lanes))
    pub roots_relaxed : Relaxed (label_of (by_root.start (record {})) (by_root.add (record {}))) (arcs_of g.edges) sharing.owner sharing.local (value_of sharing (map roots_in programs))
        (second_book paired.last_roots (sent_on sharing.ranks lanes))
