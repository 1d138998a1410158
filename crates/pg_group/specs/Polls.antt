-- What a poll answered, case by case.
use Rattle.std.specs.Prelude.{Bool, true, false, ⊤}
use Rattle.pg_group.specs.declared.messages.Polled.{Polled}
use Rattle.pg_group.specs.declared.messages.Polled.TheVariants.{Item, Mark, Empty, Closed}
use Rattle.pg_group.specs.declared.messages.Vote.{Vote}

module _ {B : Type 0} where
  abbrev pub OnItem : Polled B → (B → Type 0) → Type 0
  OnItem (Item x) P = P x
  OnItem (Mark v) P = ⊤
  OnItem Empty P = ⊤
  OnItem Closed P = ⊤

  abbrev pub OnMark : Polled B → (Vote → Type 0) → Type 0
  OnMark (Item x) P = ⊤
  OnMark (Mark v) P = P v
  OnMark Empty P = ⊤
  OnMark Closed P = ⊤

  abbrev pub OnEmpty : Polled B → Type 0 → Type 0
  OnEmpty (Item x) P = ⊤
  OnEmpty (Mark v) P = ⊤
  OnEmpty Empty P = P
  OnEmpty Closed P = ⊤

  abbrev pub OnClosed : Polled B → Type 0 → Type 0
  OnClosed (Item x) P = ⊤
  OnClosed (Mark v) P = ⊤
  OnClosed Empty P = ⊤
  OnClosed Closed P = P

  abbrev pub is_closed : Polled B → Bool
  is_closed (Item x) = false
  is_closed (Mark v) = false
  is_closed Empty = false
  is_closed Closed = true
