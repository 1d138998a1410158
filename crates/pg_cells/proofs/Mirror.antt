-- The refreshes of one division's parts mirror its ghosts, since its holders do.
use Rattle.std.proofs.Common.{◌≡◌, ◌≢◌, ℕ, List, Some, length, slice_get, refl}
use Rattle.pg_adj.specs.declared.arcs.Ghost.{Ghost}
use Rattle.std.proofs.lemmas.Option.{slice_get_within}
use Rattle.pg_adj.specs.Portions.{Portion}
use Rattle.pg_adj.specs.Mirrored.{AreMirrored}
use Rattle.pg_adj.proofs.Mirror.{ghosts_mirror_holders}
use Rattle.pg_adj.proofs.MirrorLists.{Contains-at, index_of, same_index}
use Rattle.pg_adj.proofs.MirrorHoldings.{holder_at}
use Rattle.pg_cells.specs.declared.refreshes.PendingRefresh.{PendingRefresh}
use Rattle.pg_cells.specs.States.{refreshes_of}
use Rattle.pg_cells.specs.Freshness.{AreOfOneDivision}
use Rattle.pg_cells.specs.RefreshesMirrored.{IsPendingFrom, IsPendingTo, AreRefreshesMirrored}
use Rattle.pg_cells.proofs.MirrorRefreshes.{pending_to, pending_from, pending_among, refreshes_apart}

module _ (parts : List Portion) (m : AreMirrored parts) where
  kept : (rank slot : ℕ) (p : Portion) (g : Ghost) → slice_get parts rank ≡ Some p → slice_get p.ghosts slot ≡ Some g → IsPendingFrom parts rank slot g
  kept rank slot p g at held =
      let k = m.kept rank slot p g at held in
      let inside = slice_get_within k.home.vertices g.place g.vertex.0 k.vertex in
      let pending = index_of (refreshes_of k.home) (pending_to g.place (holder_at rank slot)) (pending_among k.home (length k.home.vertices) g.place (holder_at rank slot) inside k.holder) in
      record { home = k.home; entry = pending.0; there = k.there; vertex = k.vertex; pending = pending.1 }

  held : (rank entry : ℕ) (p : Portion) (pending : PendingRefresh) → slice_get parts rank ≡ Some p → slice_get (refreshes_of p) entry ≡ Some pending → IsPendingTo parts rank pending
  held rank entry p pending at here =
      let from = pending_from p (length p.vertices) pending (Contains-at (refreshes_of p) entry pending here) in
      let h = m.held rank pending.place p pending.holder at from.below from.holder in
      record { holder = h.holder; ghost_there = h.ghost_there; there = h.there; held = h.held; home = h.home; place = h.at }

  one_pending : (rank k l : ℕ) (p : Portion) (pending : PendingRefresh) → slice_get parts rank ≡ Some p → slice_get (refreshes_of p) k ≡ Some pending → slice_get (refreshes_of p) l ≡ Some pending → k ≡ l
  one_pending rank k l p pending at here there =
      same_index (λ a b. a ≢ b) (refreshes_of p) (refreshes_apart p (length p.vertices) (λ place below. m.one_holder rank place p at below))
      k l pending pending here there (λ apart. apart refl) (λ apart. apart refl)

pub mirrored : (parts : List Portion) → AreOfOneDivision parts → AreRefreshesMirrored parts
mirrored parts of_one =
    let m = ghosts_mirror_holders of_one.0 of_one.1 parts of_one.2 of_one.3 in
    record { mirrored = m; kept = kept parts m; held = held parts m; one_pending = one_pending parts m }
