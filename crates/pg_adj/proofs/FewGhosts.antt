-- There are no more ghosts than vertices.
use Rattle.std.proofs.Common.{◌<◌, ◌≤◌, ◌-◌, ℕ, zero, suc, List, AllPairs, All, length, get_or, ⊎_elim, arith}
use Rattle.std.proofs.lemmas.Bool.{cases_lt}
use Rattle.pg_adj.specs.declared.arcs.Ghost.{Ghost}
use Rattle.pg_adj.specs.Portions.{IsVertex}

abbrev pub some_ghost : Ghost
some_ghost = record { vertex = record { 0 = 0 }; home = record { 0 = 0 }; place = 0 }

above_slot : (held : List Ghost) → AllPairs (λ g h. g.vertex.0 < h.vertex.0) held → All (λ g. 1 ≤ g.vertex.0) held → (k : ℕ) (d : Ghost) → k < length held → k < (get_or held k d).vertex.0
above_slot held a one zero d lt = let h = one zero d lt in omega arith
above_slot held a one (suc k) d lt = let before = above_slot held a one k d (omega arith) in let up = a k (suc k) d (omega arith) lt in omega arith

-- no more ghosts than vertices
pub few_ghosts : (held : List Ghost) (n : ℕ) → AllPairs (λ g h. g.vertex.0 < h.vertex.0) held → All (λ g. IsVertex n g.vertex.0) held → length held ≤ n
few_ghosts held n a vertices = ⊎_elim
    (λ lt. let k = above_slot held a (λ k d l. (vertices k d l).first) (length held - 1) some_ghost (omega arith) in let b = (vertices (length held - 1) some_ghost (omega arith)).last in omega arith)
    (λ ge. omega arith) (cases_lt 0 (length held))
