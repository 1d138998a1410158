-- Of an end of any kind of lane: what it may be after calls on it.
use Rattle.std.specs.Prelude.{◌≡◌}
use Rattle.pg_lane.specs.declared.ends.OutEnd.{Ghosts as OutGhosts}
use Rattle.pg_lane.specs.declared.ends.InEnd.{Ghosts as InGhosts}
use Rattle.pg_lane.specs.Later.{Later}

module _ {E M : Type 0} (o : OutGhosts E M) where
  pub record OutLater (earlier now : E) : Type 0 where
    pub lane : o.lane now ≡ o.lane earlier
    pub capacity : o.capacity now ≡ o.capacity earlier
    pub later : Later (o.sent earlier) (o.looks earlier) (o.sent now) (o.looks now)

module _ {E M : Type 0} (i : InGhosts E M) where
  pub record InLater (earlier now : E) : Type 0 where
    pub lane : i.lane now ≡ i.lane earlier
    pub capacity : i.capacity now ≡ i.capacity earlier
    pub later : Later (i.taken earlier) (i.looks earlier) (i.taken now) (i.looks now)
