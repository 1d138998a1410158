-- The path 1 --5-- 2 --2-- 3 with 4 apart, on two ranks of two vertices each.
use Rattle.std.specs.Prelude.{ℕ, zero, suc, true, Some, List, [], ◌∷◌}
use Rattle.pg_base.specs.Graph.{Graph}
use Rattle.pg_base.specs.Examples.{graph, path_edges}
use Rattle.pg_group.specs.declared.messages.Body.{Body}
use Rattle.pg_group.specs.declared.messages.Body.TheVariants.{Item, Mark}
use Rattle.pg_group.specs.declared.messages.Vote.{Vote}
use Rattle.pg_group.specs.Book.{PairLists}
use Rattle.pg_boruvka.specs.declared.TheConstants.{NO_KEY}
use Rattle.pg_boruvka.specs.declared.messages.Message.{Message}
use Rattle.pg_boruvka.specs.declared.messages.Message.TheVariants.{Piece as Keys, Hook as Hooked}
use Rattle.pg_boruvka.specs.Parts.{LocalArc, Part}
use Rattle.pg_boruvka.specs.LocalDense.{State}

abbrev pub path : Graph
path = graph 4 path_edges

abbrev pub arc : ℕ → ℕ → ℕ → ℕ → LocalArc
arc from to key edge = record { from = from; to = to; key = key; edge = edge }

abbrev pub part_of : ℕ → Part
part_of zero = record { rank = 0; ranks = 2; n = 4; edges = 2; arcs = arc 1 2 41943040 0 ∷ arc 2 1 41943040 0 ∷ arc 2 3 16777217 1 ∷ [] }
part_of (suc r) = record { rank = suc r; ranks = 2; n = 4; edges = 2; arcs = arc 3 2 16777217 1 ∷ [] }

-- The winners of two labels.
abbrev pub winners : ℕ → ℕ → ℕ → Body Message
winners base first second = Item (Keys (record { base = base; keys = first ∷ second ∷ NO_KEY ∷ NO_KEY ∷ NO_KEY ∷ NO_KEY ∷ NO_KEY ∷ NO_KEY ∷ [] }))

abbrev pub hook : ℕ → ℕ → ℕ → Body Message
hook source target edge = Item (Hooked (record { source = source; target = target; edge = edge }))

abbrev pub zeros : Vote
zeros = record { a = 0; b = 0; c = 0; d = 0 }

abbrev pub mark : Body Message
mark = Mark zeros

-- Labels 1 and 2 belong to rank 0 and have their keys there; label 3 has its key at rank 1, to which it belongs.
abbrev pub there : List (Body Message)
there = mark ∷ winners 1 41943040 16777217 ∷ mark ∷ hook 1 2 0 ∷ hook 2 3 1 ∷ mark ∷ mark ∷ mark ∷ []

abbrev pub back : List (Body Message)
back = mark ∷ winners 3 16777217 NO_KEY ∷ mark ∷ hook 3 2 1 ∷ mark ∷ mark ∷ mark ∷ []

abbrev pub lists : PairLists Message
lists zero receiver = there
lists (suc sender) receiver = back

-- The labels after the first phase.
abbrev pub label_after : ℕ → ℕ
label_after zero = 0
label_after (suc zero) = 2
label_after (suc (suc zero)) = 2
label_after (suc (suc (suc zero))) = 2
label_after (suc (suc (suc (suc v)))) = suc (suc (suc (suc v)))

-- Both ranks end with the second round of the second phase.
abbrev pub state : State
state = record { round = 4; cast = Some zeros; ended = true; label = label_after; edges = 0 ∷ 1 ∷ [] }
