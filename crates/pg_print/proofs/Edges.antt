-- The edges that are printed, as far as they were gone through.
use Rattle.std.proofs.Common.{◌≡◌, ◌∙◌, ℕ, ◌+◌, ◌<◌, List, take, length, get_or, ap, sym, Some}
use Rattle.std.proofs.lemmas.List.Sums.{sum_by_push}
use Rattle.std.proofs.lemmas.Option.{slice_get-get_or, slice_get-map}
use Rattle.std.specs.List.{slice_get}
use Rattle.std.specs.Option.{option_map}
use Rattle.pg_base.specs.declared.edges.Edge.{Edge}
use Rattle.pg_base.specs.Forest.{total_weight}
use Rattle.pg_print.specs.Forests.{edges_at, no_edge}
use Rattle.pg_print.proofs.Writing.{take-one_more}

pub edge_there : (edges found : List Edge) (indices : List ℕ) (i : ℕ) → found ≡ edges → i < length indices → slice_get (edges_at edges indices) i ≡ Some (get_or found (get_or indices i 0) no_edge)
edge_there edges found indices i same within =
    slice_get-map (λ k. get_or edges k no_edge) indices i ∙ ap (option_map (λ k. get_or edges k no_edge)) (slice_get-get_or indices i 0 within)
    ∙ ap (λ (list : List Edge). Some (get_or list (get_or indices i 0) no_edge)) (sym same)

pub weight-more : (tree : List Edge) (i : ℕ) (e : Edge) → slice_get tree i ≡ Some e → total_weight (take (i + 1) tree) ≡ total_weight (take i tree) + e.w
weight-more tree i e at = ap total_weight (take-one_more tree i e at) ∙ sum_by_push (λ (d : Edge). d.w) (take i tree) e
