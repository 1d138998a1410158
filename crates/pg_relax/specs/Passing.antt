-- What passing an arc does.
use Rattle.std.specs.Prelude.{◌≡◌, ◌≢◌, ◌⊎◌, ◌<◌, ◌≤◌, ℕ, true, Option, Some, List, length, slice_index_or, ⊤}
use Rattle.pg_label.specs.declared.values.Value.{Value}
use Rattle.pg_label.specs.Values.{IsWithin, extended}
use Rattle.pg_agenda.specs.declared.shares.Share.{Share}
use Rattle.pg_agenda.specs.Shares.{Places, AreSame}
use Rattle.pg_adj.specs.declared.arcs.Arc.{Arc}
use Rattle.pg_best.specs.declared.offers.Offer.{Offer}
use Rattle.pg_base.specs.declared.numbers.RankNo.{RankNo}
use Rattle.pg_group.specs.declared.messages.Body.{Body}
use Rattle.pg_group.specs.Ranked.{IsOther}
use Rattle.pg_adj.specs.Portions.{Portion, IsOwnArc}
use Rattle.pg_best.specs.Best.{Label}
use Rattle.pg_relax.specs.declared.ahead.Ahead.{Ahead}
use Rattle.pg_relax.specs.declared.ahead.Passed.{Passed}
use Rattle.pg_relax.specs.declared.ahead.Passed.TheVariants.{All, UpTo}
use Rattle.pg_relax.specs.States.{row, Relaxes}
use Rattle.pg_relax.specs.Tables.{value_at}
use Rattle.pg_relax.specs.Frontiers.{IsLowered}
use Rattle.pg_relax.specs.declared.offered.Offered.{Offered}
use Rattle.pg_relax.specs.Offered.{IsKnown, AreOffered}

-- The place has a value, and an arc of this weight extends it to the other one, within the limits.
pub record Extends (cost : ℕ → ℕ) (values : List Value) (at w : ℕ) (y : Value) : Type 0 where
  pub value : Value
  pub has : value_at values at ≡ Some value
  pub is : y ≡ extended value (cost w)
  pub within : IsWithin y

-- An arc of this weight gives its end no value.
abbrev pub ExtendsNone : (ℕ → ℕ) → List Value → ℕ → ℕ → Type 0
ExtendsNone cost values at w = (x : Value) → value_at values at ≡ Some x → IsWithin (extended x (cost w)) → ⊥

-- Nothing changed, and the arc gives its end no value.
pub record GivesNone (cost : ℕ → ℕ) (takes : Places) (place : ℕ) (share : Share) (arc : Arc) (values : List Value) (pending : Places) (values' : List Value) (pending' : Places) : Type 0 where
  pub none : takes share arc.w ≡ true → ExtendsNone cost values place arc.w
  pub same : values' ≡ values
  pub rests : AreSame pending pending'

-- The end is an own one, and has the value by the arc or a lower one.
pub record LowersOwn (cost : ℕ → ℕ) (rank place : ℕ) (arc : Arc) (values : List Value) (pending : Places) (values' : List Value) (pending' : Places) : Type 0 where
  pub own : arc.home.0 ≡ rank
  pub end_value : Value
  pub extends : Extends cost values place arc.w end_value
  pub lowered : IsLowered arc.place end_value values pending values' pending'

-- Nothing changed, and the end is another rank's, to which as low a value was offered before.
pub record HoldsBack (cost : ℕ → ℕ) (p : Portion) (offered : Offered) (place : ℕ) (arc : Arc) (values : List Value) (pending : Places) (values' : List Value) (pending' : Places) : Type 0 where
  pub other : arc.home.0 ≢ p.rank
  pub offer : Offer
  pub to : offer.to ≡ arc.to
  pub place_is : offer.place ≡ arc.place
  pub extends : Extends cost values place arc.w offer.value
  pub known : IsKnown offered arc.home.0 offer
  pub same : values' ≡ values
  pub rests : AreSame pending pending'

abbrev pub IsPassed : (ℕ → ℕ) → Portion → Offered → Places → ℕ → Share → Arc → List Value → Places → List Value → Places → Type 0
IsPassed cost p offered takes place share arc values pending values' pending' =
    GivesNone cost takes place share arc values pending values' pending'
    ⊎ (LowersOwn cost p.rank place arc values pending values' pending' ⊎ HoldsBack cost p offered place arc values pending values' pending')

-- The value of the arc's end, for the rank that owns it.
pub record IsOfferOf (cost : ℕ → ℕ) (rank at : ℕ) (values : List Value) (arc : Arc) (offer : Offer) : Type 0 where
  pub other : arc.home.0 ≢ rank
  pub to : offer.to ≡ arc.to
  pub place : offer.place ≡ arc.place
  pub extends : Extends cost values at arc.w offer.value

-- What a rank kept of the law of relaxation, it keeps on, over the same lists.
abbrev pub KeepsOn : Label → Portion → Places → List Value → Places → Option Ahead → Places → List Value → Places → Option Ahead → Type 0
KeepsOn label p takes values pending ahead takes' values' pending' ahead' =
    (handled sent : List (List (Body Offer))) → Relaxes label p takes handled sent values pending ahead → Relaxes label p takes' handled sent values' pending' ahead'

-- The same, where what stands for a vertex was offered to it.
abbrev pub KeepsOver : Offered → Label → Portion → Places → List Value → Places → Option Ahead → Places → List Value → Places → Option Ahead → Type 0
KeepsOver offered label p takes values pending ahead takes' values' pending' ahead' =
    (handled sent : List (List (Body Offer))) → AreOffered sent offered
    → Relaxes label p takes handled sent values pending ahead → Relaxes label p takes' handled sent values' pending' ahead'

-- The arcs up to this one were passed, and its end is to be offered to another rank.
pub record IsUpTo (cost : ℕ → ℕ) (p : Portion) (ahead : Ahead) (values : List Value) (next : ℕ) (to : RankNo) (offer : Offer) : Type 0 where
  pub reached : ahead.next ≤ next
  pub below : next < length (row p ahead.place)
  pub arc : Arc
  pub stands : arc ≡ slice_index_or (row p ahead.place) next arc
  pub home : to ≡ arc.home
  pub is_offer : IsOfferOf cost p.rank ahead.place values arc offer
  pub other : IsOther p.rank p.ranks to.0
  pub known : IsOwnArc p arc
  pub within : next < 18446744073709551615

-- The same place and share from another arc on.
abbrev pub from_arc : Ahead → ℕ → Ahead
from_arc ahead next = record { place = ahead.place; share = ahead.share; next = next }

abbrev pub OnAll : Passed → Type 0 → Type 0
OnAll All P = P
OnAll (UpTo next to offer) P = ⊤

abbrev pub OnUpTo : Passed → (ℕ → RankNo → Offer → Type 0) → Type 0
OnUpTo All P = ⊤
OnUpTo (UpTo next to offer) P = P next to offer
