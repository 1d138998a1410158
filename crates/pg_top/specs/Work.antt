-- What a run leaves beside its texts: the final programs of its ranks and the lanes between them.
use Rattle.std.specs.Prelude.{◌≡◌, ℕ, Option, Some, None, List, map}
use Rattle.pg_base.specs.declared.edges.Edge.{Edge}
use Rattle.pg_base.specs.Graph.{Graph, arcs_of}
use Rattle.pg_outside.specs.Files.{NamedBytes}
use Rattle.pg_lane.specs.declared.settling.Settled.{Settled}
use Rattle.pg_group.specs.declared.messages.Envelope.{Envelope}
use Rattle.pg_group.specs.Entries.{Each}
use Rattle.pg_print.specs.Columns.{column_text}
use Rattle.pg_print.specs.Forests.{edges_at, forest_text}
use Rattle.pg_print.specs.Summaries.{summary_text}
use Rattle.pg_words.specs.Plan.{Meaning}
use Rattle.pg_words.specs.declared.plans.Algorithm.TheVariants as algorithm
use Rattle.pg_label.specs.declared.labels.Label.{Ghosts as LabelGhosts}
use Rattle.pg_agenda.specs.declared.agendas.Agenda.{Ghosts as AgendaGhosts}
use Rattle.pg_agenda.specs.BucketPhases.{takes_by}
use Rattle.pg_agenda.specs.Shares.{Places, takes_all}
use Rattle.pg_dist.specs.Sharing.{Sharing, IsSharing}
use Rattle.pg_best.specs.declared.offers.Offer.{Offer}
use Rattle.pg_best.specs.Relaxed.{Relaxed}
use Rattle.pg_relax.specs.declared.relaxing.Relax.{Relax}
use Rattle.pg_relax.specs.States.{label_of}
use Rattle.pg_boruvka.specs.declared.dense.Dense.{Dense}
use Rattle.pg_boruvka.specs.declared.messages.Message.{Message}
use Rattle.pg_boruvka.specs.Known.{edges_in}
use Rattle.pg_run.specs.Lanes.{sent_on}
use Rattle.pg_cells.specs.declared.bodies.CellBody.{CellBody}
use Rattle.pg_colour.specs.declared.colouring.Colouring.{Colouring}
use Rattle.pg_top.specs.declared.columns.Field.{Field}
use Rattle.pg_top.specs.declared.columns.Field.TheVariants.{Amount, Class}
use Rattle.pg_top.specs.Distributions.{IsDistribution}
use Rattle.pg_top.specs.Coloured.{AreHeld, AreKeptFresh, IsColouring, SeeOwners}
use Rattle.pg_top.specs.Grown.{IsGrowth}
use Rattle.pg_top.specs.Relaxed.{AreAnswers, IsRelaxation, value_of}
use Rattle.pg_top.specs.Files.{HasInput}
use Rattle.pg_top.specs.Paired.{ByHops, ByRoots, IsPairCarried}
use Rattle.pg_group.specs.declared.programs.Program.{Ghosts as ProgramGhosts}
use Rattle.pg_triggers.specs.declared.items.Of2.{Of2}
use Rattle.pg_triggers.specs.declared.pairs.Pair.{Pair}
use Rattle.pg_top.specs.Summary.{clash_count, summary_of}
use Rattle.pg_top.specs.Text.{AreColours, IsTextOf}
use Rattle.pg_top.specs.declared.works.Work.{Work}
use Rattle.pg_top.specs.declared.works.Work.TheVariants.{Hops, Weights, Roots, Forest, Colours, Grid}
use Rattle.pg_top.specs.declared.works.Work.TheVariants as work

module _ {L A : Type 0} {l : LabelGhosts L} {a : AgendaGhosts A} where
  -- The programs of a relaxation by this label, of which each share takes the arcs of these weights, ended over a whole book, on so many ranks
  -- over lanes of this capacity, among which the graph is divided by these owners or in blocks; and the answers are numbers of the values that
  -- the programs hold.
  pub record IsRelaxedBy (label : L) (takes : Places) (field : Field) (owners : Option (List ℕ)) (ranks capacity : ℕ) (g : Graph) (answers : List (Option ℕ)) (programs : List (Relax L A l a)) (lanes : List (Settled (Envelope Offer))) : Type 0 where
    pub sharing : Sharing
    pub laws : IsSharing sharing
    pub distribution : IsDistribution owners g.n ranks sharing
    pub relaxation : IsRelaxation label takes sharing g capacity programs lanes
    pub held : AreAnswers field sharing programs answers

  -- Likewise, and the lanes carried what relaxes each arc between two ranks.
  pub record IsCarried (label : L) (takes : Places) (field : Field) (owners : Option (List ℕ)) (ranks capacity : ℕ) (g : Graph) (answers : List (Option ℕ)) (programs : List (Relax L A l a)) (lanes : List (Settled (Envelope Offer))) : Type 0 where
    pub run : IsRelaxedBy label takes field owners ranks capacity g answers programs lanes
    pub relaxed : Relaxed (label_of (l.start label) (l.add label)) (arcs_of g.edges) run.sharing.owner run.sharing.local (value_of run.sharing programs) (sent_on ranks lanes)

  -- The text spells the answers of such a relaxation.
  pub record SpellsAnswers (label : L) (takes : Places) (field : Field) (owners : Option (List ℕ)) (ranks capacity : ℕ) (g : Graph) (text : List ℕ) (programs : List (Relax L A l a)) (lanes : List (Settled (Envelope Offer))) : Type 0 where
    pub answers : List (Option ℕ)
    pub carried : IsCarried label takes field owners ranks capacity g answers programs lanes
    pub spelled : text ≡ column_text answers

-- The programs of Borůvka's method, ended over a whole book, on so many ranks over lanes of this capacity, among which the graph is
-- divided by these owners or in blocks.
pub record IsGrownBy (owners : Option (List ℕ)) (ranks capacity : ℕ) (g : Graph) (programs : List Dense) (lanes : List (Settled (Envelope Message))) : Type 0 where
  pub sharing : Sharing
  pub laws : IsSharing sharing
  pub distribution : IsDistribution owners g.n ranks sharing
  pub growth : IsGrowth sharing g capacity programs lanes

-- The text spells the edges that each of these programs holds.
pub record SpellsForest (owners : Option (List ℕ)) (ranks capacity : ℕ) (g : Graph) (text : List ℕ) (programs : List Dense) (lanes : List (Settled (Envelope Message))) : Type 0 where
  pub tree : List Edge
  pub grown : IsGrownBy owners ranks capacity g programs lanes
  pub held : Each (λ rank p. edges_at g.edges (edges_in p) ≡ tree) programs
  pub spelled : text ≡ forest_text tree

-- The programs of a colouring, ended over a whole book, on so many ranks over lanes of this capacity, among which the graph is divided
-- by these owners or in blocks; and these are the colours that they hold.
pub record IsColouredBy (owners : Option (List ℕ)) (ranks capacity : ℕ) (g : Graph) (colours : List (Option ℕ)) (programs : List Colouring) (lanes : List (Settled (Envelope CellBody))) : Type 0 where
  pub sharing : Sharing
  pub laws : IsSharing sharing
  pub distribution : IsDistribution owners g.n ranks sharing
  pub colouring : IsColouring sharing g capacity programs lanes
  pub held : AreHeld sharing programs colours

-- The text spells the colours of such a colouring, in which the lanes kept the ghosts fresh, and each is seen with its owner's colour.
pub record SpellsColours (owners : Option (List ℕ)) (ranks capacity : ℕ) (g : Graph) (text : List ℕ) (programs : List Colouring) (lanes : List (Settled (Envelope CellBody))) : Type 0 where
  pub colours : List ℕ
  pub coloured : IsColouredBy owners ranks capacity g (map Some colours) programs lanes
  pub fresh : AreKeptFresh coloured.sharing coloured.colouring.parts programs lanes
  pub ghosts : SeeOwners coloured.sharing programs
  pub spelled : text ≡ column_text (map Some colours)

-- The programs of Borůvka's method, and these are the edges that each of them holds.
pub record HasForest (owners : Option (List ℕ)) (ranks capacity : ℕ) (g : Graph) (tree : List Edge) (programs : List Dense) (lanes : List (Settled (Envelope Message))) : Type 0 where
  pub grown : IsGrownBy owners ranks capacity g programs lanes
  pub held : Each (λ rank p. edges_at g.edges (edges_in p) ≡ tree) programs

-- The programs of a colouring, and these are the proper colours that they hold; the lanes kept the ghosts fresh, and each is seen with its
-- owner's colour.
pub record HasColours (owners : Option (List ℕ)) (ranks capacity : ℕ) (g : Graph) (answers : List (Option ℕ)) (programs : List Colouring) (lanes : List (Settled (Envelope CellBody))) : Type 0 where
  pub colours : List ℕ
  pub listed : answers ≡ map Some colours
  pub right : AreColours ranks g colours
  pub coloured : IsColouredBy owners ranks capacity g answers programs lanes
  pub fresh : AreKeptFresh coloured.sharing coloured.colouring.parts programs lanes
  pub ghosts : SeeOwners coloured.sharing programs

module _ {L A : Type 0} {l : LabelGhosts L} {a : AgendaGhosts A} {p : ProgramGhosts ByHops Offer} {q : ProgramGhosts ByRoots Offer} where
  -- The programs of every algorithm on a graph that is divided in blocks: a breadth-first search from vertex 1 and components in one run,
  -- a relaxation by this label, a least spanning forest and a colouring; and the text spells the numbers that are counted from the answers
  -- they hold.
  pub record SpellsSummary (label : L) (takes : Places) (ranks capacity : ℕ) (g : Graph) (text : List ℕ) (both : List (Pair ByHops ByRoots Offer Offer p q)) (both_lanes : List (Settled (Envelope (Of2 Offer Offer)))) (weighing : List (Relax L A l a)) (weighing_lanes : List (Settled (Envelope Offer)))
      (spanning : List Dense) (spanning_lanes : List (Settled (Envelope Message))) (colouring : List Colouring) (colouring_lanes : List (Settled (Envelope CellBody))) : Type 0 where
    pub hops : List (Option ℕ)
    pub weights : List (Option ℕ)
    pub roots : List (Option ℕ)
    pub tree : List Edge
    pub colours : List (Option ℕ)
    pub searched : IsPairCarried 1 ranks capacity g hops roots both both_lanes
    pub weighed : IsCarried label takes Amount None ranks capacity g weights weighing weighing_lanes
    pub spanned : HasForest None ranks capacity g tree spanning spanning_lanes
    pub coloured : HasColours None ranks capacity g colours colouring colouring_lanes
    pub spelled : text ≡ summary_text (summary_of g hops weights roots tree (clash_count g.edges colours))

-- The work is that of every algorithm on the graph, and the text spells its numbers.
abbrev pub IsSummarized : ℕ → ℕ → ℕ → Graph → List ℕ → Work → Type 0
IsSummarized delta ranks capacity g text (Grid both weights forest colours) = SpellsSummary (record { source = 1 }) (takes_by delta) ranks capacity g text both.programs.items both.lanes.items weights.programs.items weights.lanes.items forest.programs.items forest.lanes.items colours.programs.items colours.lanes.items
IsSummarized delta ranks capacity g text _ = ⊥

-- The programs and lanes of the plan's algorithm, which hold what this text spells. Least weights part light from heavy arcs at the plan's delta.
abbrev pub IsWork : Meaning → Graph → Option (List ℕ) → List ℕ → Work → Type 0
IsWork plan g owners text work.None = ⊥
IsWork plan g owners text (Hops f) = plan.algorithm ≡ algorithm.Bfs × SpellsAnswers (record { source = plan.source }) takes_all Amount owners plan.ranks plan.capacity g text f.programs.items f.lanes.items
IsWork plan g owners text (Weights f) = plan.algorithm ≡ algorithm.Sssp × SpellsAnswers (record { source = plan.source }) (takes_by plan.delta) Amount owners plan.ranks plan.capacity g text f.programs.items f.lanes.items
IsWork plan g owners text (Roots f) = plan.algorithm ≡ algorithm.Components × SpellsAnswers (record {}) takes_all Class owners plan.ranks plan.capacity g text f.programs.items f.lanes.items
IsWork plan g owners text (Forest f) = plan.algorithm ≡ algorithm.Forest × SpellsForest owners plan.ranks plan.capacity g text f.programs.items f.lanes.items
IsWork plan g owners text (Colours f) = plan.algorithm ≡ algorithm.Colour × SpellsColours owners plan.ranks plan.capacity g text f.programs.items f.lanes.items
IsWork plan g owners text (Grid both weights forest colours) = plan.algorithm ≡ algorithm.Grid × SpellsSummary (record { source = 1 }) (takes_by plan.delta) plan.ranks plan.capacity g text both.programs.items both.lanes.items
    weights.programs.items weights.lanes.items forest.programs.items forest.lanes.items colours.programs.items colours.lanes.items

-- P holds of a text that the plan means for the graph of its file, and the work holds what it spells.
abbrev pub HasWork : Meaning → Option (List NamedBytes) → Work → (List ℕ → Type 0) → Type 0
HasWork plan files work P = HasInput plan files (λ g owners. (text : List ℕ) × IsTextOf plan g text × IsWork plan g owners text work × P text)

-- What was found for the plan's graph with these owners: the text is the plan's, and the work holds what it spells.
pub record IsSolved (plan : Meaning) (g : Graph) (owners : Option (List ℕ)) (text : List ℕ) (work : Work) : Type 0 where
  pub right : IsTextOf plan g text
  pub carried : IsWork plan g owners text work
