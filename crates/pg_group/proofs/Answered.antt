-- What follows from what a poll answered.
use Rattle.pg_group.specs.declared.messages.Polled.{Polled}
use Rattle.pg_group.specs.declared.messages.Polled.TheVariants.{Item, Mark, Empty, Closed}
use Rattle.pg_group.specs.declared.messages.Vote.{Vote}
use Rattle.pg_group.specs.Polls.{OnItem, OnMark, OnEmpty, OnClosed}

module _ {B : Type 0} where
  pub item_so : (r : Polled B) (P Q : B → Type 0) → ((x : B) → P x → Q x) → OnItem r P → OnItem r Q
  item_so (Item x) P Q f h = f x h
  item_so (Mark v) P Q f h = h
  item_so Empty P Q f h = h
  item_so Closed P Q f h = h

  pub mark_so : (r : Polled B) (P Q : Vote → Type 0) → ((v : Vote) → P v → Q v) → OnMark r P → OnMark r Q
  mark_so (Item x) P Q f h = h
  mark_so (Mark v) P Q f h = f v h
  mark_so Empty P Q f h = h
  mark_so Closed P Q f h = h

  pub empty_so : (r : Polled B) (P Q : Type 0) → (P → Q) → OnEmpty r P → OnEmpty r Q
  empty_so (Item x) P Q f h = h
  empty_so (Mark v) P Q f h = h
  empty_so Empty P Q f h = f h
  empty_so Closed P Q f h = h

  pub closed_so : (r : Polled B) (P Q : Type 0) → (P → Q) → OnClosed r P → OnClosed r Q
  closed_so (Item x) P Q f h = h
  closed_so (Mark v) P Q f h = h
  closed_so Empty P Q f h = h
  closed_so Closed P Q f h = f h
