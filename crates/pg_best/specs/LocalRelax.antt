-- What one rank keeps of a relaxation, between the lists handled and sent, by rank, and its cells, by place.
use Rattle.std.specs.Prelude.{◌≡◌, ◌≢◌, ◌↔◌, ℕ, suc, ◌%◌, ◌<◌, ◌≤◌, Bool, true, false, Option, Some, List, [], slice_get, Contains}
use Rattle.pg_base.specs.Graph.{Arc}
use Rattle.pg_group.specs.declared.messages.Body.{Body}
use Rattle.pg_group.specs.declared.messages.Body.TheVariants.{Item}
use Rattle.pg_group.specs.declared.messages.Vote.{Vote}
use Rattle.pg_group.specs.Ranked.{IsOther, list_at}
use Rattle.pg_group.specs.Rounds.{marks, votes_of, items_of_round}
use Rattle.pg_label.specs.declared.values.Value.{Value}
use Rattle.pg_best.specs.declared.offers.Offer.{Offer}
use Rattle.pg_label.specs.Values.{AtMost, HasAtMost, IsWithin, measure, start_value, extended}
use Rattle.pg_best.specs.Best.{Label, Belongs}
use Rattle.pg_best.specs.Parts.{Part, LocalArc, IsAt, Include}

-- The offer is an item of the list by rank.
abbrev pub IsItemAt : List (List (Body Offer)) → ℕ → Offer → Type 0
IsItemAt lists rank o = Contains (list_at lists rank) (Item o)

-- The same, of a round from this one on.
pub record HasItemFrom (part : Part) (lists : List (List (Body Offer))) (round : ℕ) : Type 0 where
  pub rank : ℕ
  pub other : IsOther part.rank part.ranks rank
  pub later : ℕ
  pub from : round ≤ later
  pub item : Offer
  pub among : Contains (items_of_round later (list_at lists rank)) item

-- The offer's place holds its vertex, and its value is within the limits.
pub record Fits (part : Part) (o : Offer) : Type 0 where
  pub at : IsAt part o.place o.to.0
  pub within : IsWithin o.value

-- Bounds: each vertex that the label starts has at most its start, and the place of each handled offer that fits at
-- most the offer's value.
pub record IsBounded (label : Label) (part : Part) (handled : List (List (Body Offer))) (cell : ℕ → Option Value) : Type 0 where
  pub started : (i v class : ℕ) → IsAt part i v → label.start v ≡ Some class → HasAtMost (cell i) (start_value class)
  pub lowered : (from : ℕ) (o : Offer) → IsOther part.rank part.ranks from → IsItemAt handled from o → Fits part o → HasAtMost (cell o.place) o.value

-- An offer of this arc's end, of at most this value, was sent to the end's home.
pub record IsOffered (sent : List (List (Body Offer))) (a : LocalArc) (y : Value) : Type 0 where
  pub offer : Offer
  pub among : IsItemAt sent a.home offer
  pub to : offer.to.0 ≡ a.to
  pub place : offer.place ≡ a.place
  pub most : AtMost offer.value y

-- Relaxed arcs: for each arc that isn't due, where its start has a value and the extension is within the limits, an
-- own end has at most the extension, and to another one an offer of at most that was sent.
pub record AreRelaxed (label : Label) (part : Part) (sent : List (List (Body Offer))) (cell : ℕ → Option Value) (due : LocalArc → Bool) : Type 0 where
  pub own : (a : LocalArc) (x : Value) → Contains part.arcs a → due a ≡ false → cell a.at ≡ Some x → IsWithin (extended x (label.add a.weight))
      → a.home ≡ part.rank → HasAtMost (cell a.place) (extended x (label.add a.weight))
  pub other : (a : LocalArc) (x : Value) → Contains part.arcs a → due a ≡ false → cell a.at ≡ Some x → IsWithin (extended x (label.add a.weight))
      → a.home ≢ part.rank → IsOffered sent a (extended x (label.add a.weight))

-- Support: where the handled offers below a bound belong to walks, so do the values below it and the sent offers up to
-- it.
pub record IsSupported (label : Label) (part : Part) (handled sent : List (List (Body Offer))) (cell : ℕ → Option Value) : Type 0 where
  pub cells : (arcs : List Arc) (b : ℕ) → Include arcs part
      → ((from : ℕ) (o : Offer) → IsOther part.rank part.ranks from → IsItemAt handled from o → Fits part o → measure o.value < b → Belongs label arcs o.to.0 o.value)
      → (i v : ℕ) (x : Value) → IsAt part i v → cell i ≡ Some x → measure x < b → Belongs label arcs v x
  pub offers : (arcs : List Arc) (b : ℕ) → Include arcs part
      → ((from : ℕ) (o : Offer) → IsOther part.rank part.ranks from → IsItemAt handled from o → Fits part o → measure o.value < b → Belongs label arcs o.to.0 o.value)
      → (to : ℕ) (o : Offer) → IsOther part.rank part.ranks to → IsItemAt sent to o → measure o.value ≤ b → Belongs label arcs o.to.0 o.value
  pub within : (to : ℕ) (o : Offer) → IsOther part.rank part.ranks to → IsItemAt sent to o → IsWithin o.value

abbrev pub NONE : ℕ
NONE = 18446744073709551615

-- The end, where the program ended with this round.
pub record IsMarked (part : Part) (handled sent : List (List (Body Offer))) (due : LocalArc → Bool) (last : ℕ) : Type 0 where
  pub counted : (to : ℕ) → IsOther part.rank part.ranks to → marks (list_at sent to) ≡ suc last
  pub even : (to k : ℕ) (vote : Vote) → IsOther part.rank part.ranks to → slice_get (votes_of (list_at sent to)) k ≡ Some vote
      → (vote.b % 2 ≡ 0) ↔ ((other : ℕ) → IsOther part.rank part.ranks other → items_of_round k (list_at sent other) ≡ [])
  pub ended : (from : ℕ) (vote : Vote) → IsOther part.rank part.ranks from → slice_get (votes_of (list_at handled from)) last ≡ Some vote → (vote.a ≡ NONE) × (vote.b ≡ 0)
  pub left : (a : LocalArc) → due a ≡ true → HasItemFrom part handled last

-- The offer is for the end of an arc of the part, at the end's place of this rank, its home.
pub record IsAddressed (part : Part) (to : ℕ) (o : Offer) : Type 0 where
  pub arc : LocalArc
  pub among : Contains part.arcs arc
  pub home : arc.home ≡ to
  pub vertex : arc.to ≡ o.to.0
  pub place : arc.place ≡ o.place

-- Bounds, relaxed arcs and support, and each sent offer names its vertex's home and place.
pub record LocalRelax (label : Label) (part : Part) (handled sent : List (List (Body Offer))) (cell : ℕ → Option Value) (due : LocalArc → Bool) : Type 0 where
  pub bounded : IsBounded label part handled cell
  pub relaxed : AreRelaxed label part sent cell due
  pub supported : IsSupported label part handled sent cell
  pub addressed : (to : ℕ) (o : Offer) → IsOther part.rank part.ranks to → IsItemAt sent to o → IsAddressed part to o
