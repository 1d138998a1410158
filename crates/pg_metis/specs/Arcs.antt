-- Which arcs the reader of lines has kept.
use Rattle.std.specs.Prelude.{◌≡◌, ◌<◌, true, false, List, ◌++◌, length}
use Rattle.pg_base.specs.Graph.{Arc}
use Rattle.pg_metis.specs.declared.arcs.NamedArcs.{NamedArcs}
use Rattle.pg_metis.specs.declared.pairing.NamedArc.{NamedArc}
use Rattle.pg_metis.specs.Pairing.{arcs_named}

-- All arcs are kept, or they are more than there may be.
pub record Keeps (arcs : NamedArcs) (all : List Arc) : Type 0 where
  pub kept : arcs.more ≡ false → arcs_named arcs.kept.items ≡ all
  pub past : arcs.more ≡ true → arcs.most < length all

-- These arcs follow those that were named before.
pub record Adds (old : NamedArcs) (named : List Arc) (new : NamedArcs) : Type 0 where
  pub most : new.most ≡ old.most
  pub keeps : (all : List Arc) → Keeps old all → Keeps new (all ++ named)

-- What was kept before stands before what was kept since.
pub record Extends (old new : NamedArcs) : Type 0 where
  pub most : new.most ≡ old.most
  pub since : List NamedArc
  pub kept : new.kept.items ≡ old.kept.items ++ since
