use Rattle.pg_base.proofs.ArcLemmas.{arcs_are_edges, arcs_from_leave, walks_stay_within}
use Rattle.pg_base.proofs.laws.arc_laws.Goals as goal

pub returns : goal.returns
returns c = record { edges = arcs_are_edges; leave = arcs_from_leave; within = walks_stay_within }
