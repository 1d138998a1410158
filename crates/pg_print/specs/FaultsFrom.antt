-- What a fault of a file is to a run.
use Rattle.pg_metis.specs.declared.faults.GraphFault.{GraphFault}
use Rattle.pg_metis.specs.declared.faults.GraphFault.TheVariants as graph
use Rattle.pg_metis.specs.declared.parts_faults.PartsFault.{PartsFault}
use Rattle.pg_metis.specs.declared.parts_faults.PartsFault.TheVariants as parts
use Rattle.pg_print.specs.declared.faults.Fault.{Fault}
use Rattle.pg_print.specs.declared.faults.Fault.TheVariants.{Graph, Parts, Read, Memory}

abbrev pub from_graph : GraphFault → Fault
from_graph (graph.Refused line kind) = Graph line kind
from_graph graph.Failed = Read
from_graph graph.OutOfMemory = Memory

abbrev pub from_parts : PartsFault → Fault
from_parts (parts.Refused line kind) = Parts line kind
from_parts parts.Failed = Read
from_parts parts.OutOfMemory = Memory
