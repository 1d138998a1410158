-- Being later is a preorder, of lists with looks and of the ends of any kind of lane.
use Rattle.std.proofs.Common.{◌≡◌, ℕ, ◌≤◌, List, [], ◌++◌, sym, refl, ap, ◌∙◌, append_assoc, append-nil, arith}
use Rattle.pg_lane.specs.declared.ends.OutEnd.{Ghosts as OutGhosts}
use Rattle.pg_lane.specs.declared.ends.InEnd.{Ghosts as InGhosts}
use Rattle.pg_lane.specs.Later.{Later}
use Rattle.pg_lane.specs.EndLater.{OutLater, InLater}

module _ {M : Type 0} where
  pub later_same : (xs : List M) (looks : ℕ) → Later xs looks xs looks
  later_same xs looks = record { grows = ([], sym (append-nil xs)); looks_on = omega arith }

  pub later_on : (xs ys zs : List M) (i j k : ℕ) → Later xs i ys j → Later ys j zs k → Later xs i zs k
  later_on xs ys zs i j k a b =
      let less : i ≤ j = a.looks_on in
      let more : j ≤ k = b.looks_on in record {
        grows = (a.grows.0 ++ b.grows.0, b.grows.1 ∙ (ap (λ (l : List M). l ++ b.grows.0) a.grows.1 ∙ append_assoc xs a.grows.0 b.grows.0));
        looks_on = omega arith;
      }

module _ {E M : Type 0} (o : OutGhosts E M) where
  pub out_same : (e : E) → OutLater o e e
  out_same e = record { lane = refl; capacity = refl; later = later_same (o.sent e) (o.looks e) }

  pub out_on : (a b c : E) → OutLater o a b → OutLater o b c → OutLater o a c
  out_on a b c x y = record {
    lane = y.lane ∙ x.lane;
    capacity = y.capacity ∙ x.capacity;
    later = later_on (o.sent a) (o.sent b) (o.sent c) (o.looks a) (o.looks b) (o.looks c) x.later y.later;
  }

module _ {E M : Type 0} (i : InGhosts E M) where
  pub in_same : (e : E) → InLater i e e
  in_same e = record { lane = refl; capacity = refl; later = later_same (i.taken e) (i.looks e) }

  pub in_on : (a b c : E) → InLater i a b → InLater i b c → InLater i a c
  in_on a b c x y = record {
    lane = y.lane ∙ x.lane;
    capacity = y.capacity ∙ x.capacity;
    later = later_on (i.taken a) (i.taken b) (i.taken c) (i.looks a) (i.looks b) (i.looks c) x.later y.later;
  }
