-- What a rank that relaxes promises of a whole run, and its opening state.
-- Source: after Gregor and Lumsdaine, Lifting sequential graph algorithms for distributed-memory parallel computation
-- (OOPSLA 2005).
use Rattle.std.specs.Prelude.{◌≡◌, ◌⊎◌, ◌<◌, ◌≤◌, ℕ, Bool, true, false, Option, Some, None, List, length, slice_index, slice_get}
use Rattle.pg_group.specs.declared.messages.Body.{Body}
use Rattle.pg_group.specs.declared.messages.Vote.{Vote}
use Rattle.pg_label.specs.declared.values.Value.{Value}
use Rattle.pg_label.specs.Values.{IsWithin, start_value}
use Rattle.pg_agenda.specs.declared.shares.Share.{Share}
use Rattle.pg_agenda.specs.declared.shares.Share.TheVariants as share
use Rattle.pg_agenda.specs.Shares.{Places}
use Rattle.pg_adj.specs.Portions.{Portion}
use Rattle.pg_best.specs.declared.offers.Offer.{Offer}
use Rattle.pg_best.specs.Best.{Label}
use Rattle.pg_best.specs.Marks.{Marks, IsQuiet}
use Rattle.pg_relax.specs.declared.ahead.Ahead.{Ahead}
use Rattle.pg_relax.specs.Tables.{value_at}
use Rattle.pg_relax.specs.States.{part_of, due, Relaxes}

-- The law of relaxation over these lists, and what it says of marks and votes. Once the vote is cast nothing is being
-- relaxed.
pub record HasRelaxed (label : Label) (p : Portion) (takes : Places) (handled sent : List (List (Body Offer))) (values : List Value) (pending : Places) (ahead : Option Ahead)
    (round : ℕ) (cast : Option Vote) (ended sends : Bool) : Type 0 where
  pub relaxes : Relaxes label p takes handled sent values pending ahead
  pub marked : Marks (part_of p) handled sent (due p pending takes ahead) round cast ended sends
  pub resting : (vote : Vote) → cast ≡ Some vote → ahead ≡ None

-- Each own vertex that starts has its start's value and is pending, and no other place has a value or is pending.
pub record IsOpening (label : Label) (p : Portion) (values : List Value) (pending : Places) : Type 0 where
  pub value : (i class : ℕ) → i < length p.vertices → label.start (slice_index p.vertices i) ≡ Some class → value_at values i ≡ Some (start_value class)
  pub marked : (i class : ℕ) → i < length p.vertices → label.start (slice_index p.vertices i) ≡ Some class → (pending share.All i ≡ true) ⊎ (pending share.Light i ≡ true)
  pub none : (i : ℕ) → i < length p.vertices → label.start (slice_index p.vertices i) ≡ None → value_at values i ≡ None
  pub rests : (i : ℕ) (share : Share) → i < length p.vertices → label.start (slice_index p.vertices i) ≡ None → pending share i ≡ false
  pub past : (i : ℕ) (share : Share) → length p.vertices ≤ i → pending share i ≡ false

-- The same of the first places; no later one has a value or is pending.
pub record IsOpenBelow (n : ℕ) (label : Label) (p : Portion) (values : List Value) (pending : Places) : Type 0 where
  pub value : (i class : ℕ) → i < n → label.start (slice_index p.vertices i) ≡ Some class → value_at values i ≡ Some (start_value class)
  pub marked : (i class : ℕ) → i < n → label.start (slice_index p.vertices i) ≡ Some class → (pending share.All i ≡ true) ⊎ (pending share.Light i ≡ true)
  pub none : (i : ℕ) → i < n → label.start (slice_index p.vertices i) ≡ None → value_at values i ≡ None
  pub rests : (i : ℕ) (share : Share) → i < n → label.start (slice_index p.vertices i) ≡ None → pending share i ≡ false
  pub later : (i : ℕ) → n ≤ i → value_at values i ≡ None
  pub past : (i : ℕ) (share : Share) → n ≤ i → pending share i ≡ false

-- Every vote of the round says that nothing is left.
abbrev pub AreQuiet : List Vote → Type 0
AreQuiet votes = (r : ℕ) (vote : Vote) → slice_get votes r ≡ Some vote → IsQuiet vote

-- The offer's place holds its vertex, and its value is within the limits.
pub record IsFitting (p : Portion) (o : Offer) : Type 0 where
  pub below : o.place < length p.vertices
  pub holds : slice_index p.vertices o.place ≡ o.to.0
  pub within : IsWithin o.value

-- Only the first two numbers of the vote say something.
pub record IsNarrow (vote : Vote) : Type 0 where
  pub c : vote.c ≡ 0
  pub d : vote.d ≡ 0
