-- What a rank that relaxes shows, as the law of relaxation has it.
use Rattle.std.specs.Prelude.{◌==◌, ◌&&◌, ◌||◌, ℕ, zero, suc, Bool, false, Option, Some, None, List, [], ◌++◌, length, map, drop}
use Rattle.std.specs.List.{list_any}
use Rattle.pg_base.specs.Keyed.{row_of}
use Rattle.pg_group.specs.declared.messages.Body.{Body}
use Rattle.pg_label.specs.declared.values.Value.{Value}
use Rattle.pg_agenda.specs.declared.shares.Share.TheVariants as share
use Rattle.pg_agenda.specs.Shares.{Places}
use Rattle.pg_adj.specs.declared.arcs.Arc.{Arc}
use Rattle.pg_adj.specs.Portions.{Portion}
use Rattle.pg_best.specs.declared.offers.Offer.{Offer}
use Rattle.pg_best.specs.Best.{Label}
use Rattle.pg_best.specs.Parts.{Part, LocalArc}
use Rattle.pg_best.specs.LocalRelax.{LocalRelax}
use Rattle.pg_relax.specs.declared.ahead.Ahead.{Ahead}
use Rattle.pg_relax.specs.Tables.{value_at}

abbrev pub label_of : (ℕ → Option ℕ) → (ℕ → ℕ) → Label
label_of start add = record { start = start; add = add }

-- The arcs of a place.
abbrev pub row : Portion → ℕ → List Arc
row p i = row_of p.bounds p.arcs i

abbrev pub local_of : ℕ → Arc → LocalArc
local_of i a = record { at = i; to = a.to.0; home = a.home.0; place = a.place; weight = a.w }

-- The arcs of the first places.
abbrev pub arcs_below : Portion → ℕ → List LocalArc
arcs_below p zero = []
arcs_below p (suc i) = arcs_below p i ++ map (local_of i) (row p i)

-- The portion as the law has it.
abbrev pub part_of : Portion → Part
part_of p = record { rank = p.rank; ranks = p.ranks; vertices = p.vertices; arcs = arcs_below p (length p.vertices) }

-- Whether both are the same arc.
abbrev pub is_arc : LocalArc → LocalArc → Bool
is_arc a b = a.at == b.at && (a.to == b.to && (a.home == b.home && (a.place == b.place && a.weight == b.weight)))

-- Whether the arc is one of a place's from the next one on.
abbrev pub is_from : Portion → ℕ → ℕ → LocalArc → Bool
is_from p place next a = list_any (λ b. is_arc (local_of place b) a) (drop next (row p place))

-- Whether the arc is one of those that are still ahead.
abbrev pub is_ahead : Portion → Places → Option Ahead → LocalArc → Bool
is_ahead p takes None a = false
is_ahead p takes (Some h) a = takes h.share a.weight && is_from p h.place h.next a

-- Whether the arc is still to be relaxed with the value that its start has now.
abbrev pub due : Portion → Places → Places → Option Ahead → LocalArc → Bool
due p pending takes ahead a =
    (pending share.Light a.at || pending share.All a.at) || ((pending share.Heavy a.at && takes share.Heavy a.weight) || is_ahead p takes ahead a)

-- The law of relaxation over these lists, for what a rank shows.
abbrev pub Relaxes : Label → Portion → Places → List (List (Body Offer)) → List (List (Body Offer)) → List Value → Places → Option Ahead → Type 0
Relaxes label p takes handled sent values pending ahead = LocalRelax label (part_of p) handled sent (value_at values) (due p pending takes ahead)
