-- What an item of relaxation is: a place is taken up, or at least one arc ahead is passed. And what handling an offer
-- does.
use Rattle.std.specs.Prelude.{◌≡◌, ◌⊎◌, ◌<◌, ℕ, true, false, Option, Some, None, List, length, ⊤}
use Rattle.pg_label.specs.declared.values.Value.{Value}
use Rattle.pg_agenda.specs.declared.shares.Share.{Share}
use Rattle.pg_agenda.specs.Shares.{Places, AreSame}
use Rattle.pg_adj.specs.Portions.{Portion}
use Rattle.pg_best.specs.declared.offers.Offer.{Offer}
use Rattle.pg_relax.specs.declared.ahead.Ahead.{Ahead}
use Rattle.pg_relax.specs.Frontiers.{IsLowered}
use Rattle.pg_group.specs.declared.messages.Body.{Body}
use Rattle.pg_group.specs.declared.messages.Body.TheVariants.{Item}
use Rattle.pg_group.specs.Ranked.{append_at}
use Rattle.pg_relax.specs.Kept.{IsFitting}
use Rattle.pg_relax.specs.declared.offered.Offered.{Offered}
use Rattle.pg_relax.specs.Offered.{IsKnown, IsNoted}
use Rattle.pg_relax.specs.States.{row}

-- The arcs of the place are ahead from the first one on, for this share; or it has no arcs.
abbrev pub IsRowAhead : Portion → ℕ → Share → Option Ahead → Type 0
IsRowAhead p place share None = length (row p place) ≡ 0
IsRowAhead p place share (Some h) = h ≡ record { place = place; share = share; next = 0 }

-- A place that was ready for a share, and pending for it, is pending for it no more, and its arcs are ahead.
pub record IsTakenUp (p : Portion) (ready pending pending' : Places) (ahead' : Option Ahead) : Type 0 where
  pub place : ℕ
  pub share : Share
  pub turn : ready share place ≡ true
  pub was : pending share place ≡ true
  pub taken : pending' share place ≡ false
  pub ahead : IsRowAhead p place share ahead'

-- A ready place is taken up; or the same one is being relaxed, for the same share, from a later arc on; or its arcs are
-- all passed.
abbrev pub IsItem : Portion → Places → Places → Places → Option Ahead → Option Ahead → Type 0
IsItem p ready pending pending' None ahead = IsTakenUp p ready pending pending' ahead
IsItem p ready pending pending' (Some h) None = ⊤
IsItem p ready pending pending' (Some h) (Some k) = (k.place ≡ h.place) × (k.share ≡ h.share) × (h.next < k.next)

-- An offer is sent for whose vertex nothing as low stands. If it goes to a ghost, it stands then.
pub record SendsNew (p : Portion) (sent : List (List (Body Offer))) (offered : Offered) (sent' : List (List (Body Offer))) (offered' : Offered) : Type 0 where
  pub to : ℕ
  pub offer : Offer
  pub appended : sent' ≡ append_at sent to (Item offer)
  pub unknown : IsKnown offered to offer → ⊥
  pub noted : IsNoted p to offer offered offered'

-- At most one offer is sent, and none for whose vertex one as low stands.
abbrev pub SendsOnlyNew : Portion → List (List (Body Offer)) → Offered → List (List (Body Offer)) → Offered → Type 0
SendsOnlyNew p sent offered sent' offered' = ((sent' ≡ sent) × (offered' ≡ offered)) ⊎ SendsNew p sent offered sent' offered'

-- An offer whose place doesn't hold its vertex, or whose value is past the limits, changes nothing.
pub record IsIgnored (p : Portion) (offer : Offer) (values : List Value) (pending : Places) (values' : List Value) (pending' : Places) : Type 0 where
  pub unfit : IsFitting p offer → ⊥
  pub same : values' ≡ values
  pub rests : AreSame pending pending'

-- Any other one lowers the value of its place, if that isn't as low, and in that case alone marks it.
abbrev pub IsHandled : Portion → Offer → List Value → Places → List Value → Places → Type 0
IsHandled p offer values pending values' pending' =
    IsIgnored p offer values pending values' pending' ⊎ (IsFitting p offer × IsLowered offer.place offer.value values pending values' pending')
