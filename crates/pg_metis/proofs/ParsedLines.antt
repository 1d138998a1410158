-- Lines that stand in a list of bytes, one after another: what those so far tell, and the next one.
use Rattle.std.proofs.Common.{◌≡◌, ℕ, ◌+◌, ◌<◌, ◌≤◌, true, nat_le, Some, None, List, [], ◌∷◌, ◌++◌, length, map, take, drop, get_or, refl, sym, ap, ◌∙◌, subst, arith, append-nil}
use Rattle.std.proofs.lemmas.Bool.Decides.{nat_tests}
use Rattle.std.proofs.lemmas.List.{drop_more, length-map, length-take-le, map-append, take-append-drop, take_more}
use Rattle.pg_base.specs.Graph.{Arc}
use Rattle.pg_text.specs.Text.{words}
use Rattle.pg_metis.specs.declared.arcs.NamedArcs.{NamedArcs}
use Rattle.pg_metis.specs.declared.faults.Kind.{Kind}
use Rattle.pg_metis.specs.declared.gathering.LineAt.{LineAt}
use Rattle.pg_metis.specs.Arcs.{Adds}
use Rattle.pg_metis.specs.Batches.{line_of}
use Rattle.pg_metis.specs.Fault.{arcs_or_none, line_fault, lines_fault, named_arcs, vertex_fault}
use Rattle.pg_metis.specs.File.{Header, line_arcs}
use Rattle.pg_metis.proofs.NeighbourLemmas.{adds-more}
use Rattle.pg_metis.proofs.ReadingLemmas.{arcs-split, lines-split}

row-within : (header : Header) (v : ℕ) (ws : List (List ℕ)) → v ≤ header.n → line_fault header v ws ≡ vertex_fault header v ws
row-within header v ws last = let is : nat_le v header.n ≡ true = grind (arith, nat_tests) in rw is refl

module _ (header : Header) (v : ℕ) (bytes : List ℕ) (xs : List LineAt) (k : ℕ) (d : LineAt) (below : k < length xs) where
  so-far : length (map (line_of bytes) (take k xs)) ≡ k
  so-far = length-map (take k xs) (line_of bytes) ∙ length-take-le k xs (omega arith)

  one-more : map (line_of bytes) (take (k + 1) xs) ≡ map (line_of bytes) (take k xs) ++ line_of bytes (get_or xs k d) ∷ []
  one-more = ap (map (line_of bytes)) (take_more xs k d below) ∙ map-append (line_of bytes) (take k xs) (get_or xs k d ∷ [])

  all-lines : map (line_of bytes) xs ≡ map (line_of bytes) (take k xs) ++ line_of bytes (get_or xs k d) ∷ map (line_of bytes) (drop (k + 1) xs)
  all-lines = ap (map (line_of bytes)) (sym (take-append-drop k xs) ∙ ap (λ (l : List LineAt). take k xs ++ l) (drop_more xs k d below)) ∙ map-append (line_of bytes) (take k xs) (get_or xs k d ∷ drop (k + 1) xs)

  pub fault-more : v + k ≤ header.n → lines_fault header v (map (line_of bytes) (take k xs)) ≡ None → vertex_fault header (v + k) (words (line_of bytes (get_or xs k d)).bytes) ≡ None
      → lines_fault header v (map (line_of bytes) (take (k + 1) xs)) ≡ None
  fault-more last fine next =
      let line = line_of bytes (get_or xs k d) in
      let here : lines_fault header (v + k) (line ∷ []) ≡ None = rw (row-within header (v + k) (words line.bytes) last, next) refl in
      ap (lines_fault header v) one-more ∙ lines-split header v (map (line_of bytes) (take k xs)) (line ∷ []) ∙ rw (so-far, fine) here

  pub fault-here : (kind : Kind) (number : ℕ) → number ≡ (get_or xs k d).number → v + k ≤ header.n → lines_fault header v (map (line_of bytes) (take k xs)) ≡ None → vertex_fault header (v + k) (words (line_of bytes (get_or xs k d)).bytes) ≡ Some kind
      → lines_fault header v (map (line_of bytes) xs) ≡ Some (record { line = number; kind = kind })
  fault-here kind number at last fine bad =
      let line = line_of bytes (get_or xs k d) in
      let rest = map (line_of bytes) (drop (k + 1) xs) in
      let here : lines_fault header (v + k) (line ∷ rest) ≡ Some (record { line = number; kind = kind }) = rw (row-within header (v + k) (words line.bytes) last, bad, at) refl in
      ap (lines_fault header v) all-lines ∙ lines-split header v (map (line_of bytes) (take k xs)) (line ∷ rest) ∙ rw (so-far, fine) here

  pub arcs-more : (old mid new : NamedArcs) → Adds old (named_arcs header.format v (map (line_of bytes) (take k xs))) mid → Adds mid (arcs_or_none (line_arcs header.format (v + k) (line_of bytes (get_or xs k d)).bytes)) new
      → Adds old (named_arcs header.format v (map (line_of bytes) (take (k + 1) xs))) new
  arcs-more old mid new first second =
      let line = line_of bytes (get_or xs k d) in
      let named : named_arcs header.format v (map (line_of bytes) (take (k + 1) xs)) ≡ named_arcs header.format v (map (line_of bytes) (take k xs)) ++ arcs_or_none (line_arcs header.format (v + k) line.bytes) =
      ap (named_arcs header.format v) one-more ∙ arcs-split header.format v (map (line_of bytes) (take k xs)) (line ∷ [])
      ∙ ap (λ n. named_arcs header.format v (map (line_of bytes) (take k xs)) ++ named_arcs header.format (v + n) (line ∷ [])) so-far
      ∙ ap (λ l. named_arcs header.format v (map (line_of bytes) (take k xs)) ++ l) (append-nil (arcs_or_none (line_arcs header.format (v + k) line.bytes))) in
      subst (λ (l : List Arc). Adds old l new) (sym named) (adds-more old mid new (named_arcs header.format v (map (line_of bytes) (take k xs))) (arcs_or_none (line_arcs header.format (v + k) line.bytes)) first second)
