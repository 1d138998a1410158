-- What was offered to the vertices of other ranks: the last value for each, and where it went, which saves later offers
-- that are no better.
-- Source: the ghost cells of Gregor and Lumsdaine, Lifting sequential graph algorithms for distributed-memory parallel
-- computation (OOPSLA 2005).
use Rattle.std.specs.Prelude.{◌≡◌, ◌⊎◌, ℕ, ◌+◌, ◌<◌, ◌≤◌, Some, List, length, slice_get, slice_set}
use Rattle.pg_group.specs.declared.messages.Body.{Body}
use Rattle.pg_label.specs.declared.values.Value.{Value}
use Rattle.pg_label.specs.Values.{HasAtMost}
use Rattle.pg_adj.specs.declared.arcs.Ghost.{Ghost}
use Rattle.pg_adj.specs.Portions.{Portion}
use Rattle.pg_best.specs.declared.offers.Offer.{Offer}
use Rattle.pg_best.specs.Parts.{LocalArc}
use Rattle.pg_best.specs.LocalRelax.{IsOffered}
use Rattle.pg_relax.specs.declared.offered.Told.{Told}
use Rattle.pg_relax.specs.declared.offered.Offered.{Offered}
use Rattle.pg_relax.specs.Tables.{nowhere, shown}

-- what stands for a vertex to which nothing was offered
abbrev pub untold : Told
untold = record { value = nowhere; home = record { 0 = 0 }; place = 0 }

-- what stands for a vertex once this was offered to it
abbrev pub told_of : ℕ → Offer → Told
told_of home offer = record { value = offer.value; home = record { 0 = home }; place = offer.place }

-- So many entries from this vertex on include one for each ghost.
abbrev pub Covers : List Ghost → ℕ → ℕ → Type 0
Covers ghosts first count = (slot : ℕ) (g : Ghost) → slice_get ghosts slot ≡ Some g → (first ≤ g.vertex.0) × (g.vertex.0 < first + count)

-- It went where the offer is to go, and its value is at most the offer's.
pub record WentAsLow (told : Told) (home : ℕ) (offer : Offer) : Type 0 where
  pub home_is : told.home.0 ≡ home
  pub place : told.place ≡ offer.place
  pub most : HasAtMost (shown told.value) offer.value

-- What stands for the offer's vertex went the same way, and its value is at most the offer's.
pub record IsKnown (offered : Offered) (home : ℕ) (offer : Offer) : Type 0 where
  pub index : ℕ
  pub told : Told
  pub stands : slice_get offered.told.items index ≡ Some told
  pub vertex : offered.first + index ≡ offer.to.0
  pub went : WentAsLow told home offer

-- The offer stands for its vertex. (In a divided graph all arcs to a vertex lead one way, so what stood there went that
-- way too.)
pub record IsSet (home : ℕ) (offer : Offer) (offered offered' : Offered) : Type 0 where
  pub index : ℕ
  pub within : index < length offered.told.items
  pub vertex : offered.first + index ≡ offer.to.0
  pub first : offered'.first ≡ offered.first
  pub set : offered'.told.items ≡ slice_set offered.told.items index (told_of home offer)

-- The offer goes to this ghost: to its vertex, at its place of its home.
pub record IsGhostOf (home : ℕ) (offer : Offer) (ghost : Ghost) : Type 0 where
  pub vertex : ghost.vertex.0 ≡ offer.to.0
  pub home_is : ghost.home.0 ≡ home
  pub place : ghost.place ≡ offer.place

-- Nothing changed, or the offer stands for its vertex; and where it goes to a ghost of the part it is known from now
-- on.
pub record IsNoted (p : Portion) (home : ℕ) (offer : Offer) (offered offered' : Offered) : Type 0 where
  pub changes : (offered' ≡ offered) ⊎ IsSet home offer offered offered'
  pub known : (slot : ℕ) (g : Ghost) → slice_get p.ghosts slot ≡ Some g → IsGhostOf home offer g → IsKnown offered' home offer

-- An arc to the vertex, where the offer went.
abbrev pub toward : ℕ → Told → LocalArc
toward v told = record { at = 0; to = v; home = told.home.0; place = told.place; weight = 0 }

-- What stands for a vertex was offered to it: an offer of at most that value was sent there.
abbrev pub AreOffered : List (List (Body Offer)) → Offered → Type 0
AreOffered sent offered = (index : ℕ) (told : Told) (y : Value) → slice_get offered.told.items index ≡ Some told → shown told.value ≡ Some y
    → IsOffered sent (toward (offered.first + index) told) y
