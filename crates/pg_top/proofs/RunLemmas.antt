-- What a run leaves of relaxations, from what it ensures of its machines.
use Rattle.std.proofs.Common.{◌≡◌, ℕ, zero, suc, ◌<◌, List, [], ◌∷◌, length, map, replicate, refl, sym, ap, ◌∙◌, subst, arith, Some}
use Rattle.std.specs.Prelude.{slice_get}
use Rattle.pg_group.specs.Entries.{Each}
use Rattle.pg_group.proofs.Growing.{entry_map}
use Rattle.pg_group.proofs.ByRank.{length_of_map}
use Rattle.pg_adj.specs.Portions.{Portion}
use Rattle.pg_label.specs.declared.labels.Label.{Ghosts as LabelGhosts}
use Rattle.pg_agenda.specs.declared.agendas.Agenda.{Ghosts as AgendaGhosts}
use Rattle.pg_relax.specs.declared.relaxing.Relax.{Relax}
use Rattle.pg_relax.specs.Shown.{part_in}
use Rattle.pg_top.specs.Relaxed.{AreInOrder}

-- the entry from which an entry of a mapped list was made
pub entry_from_map : {X Y : Type 0} (f : X → Y) (xs : List X) (k : ℕ) (y : Y) → slice_get (map f xs) k ≡ Some y → (x : X) × (slice_get xs k ≡ Some x) × (f x ≡ y)
entry_from_map f [] k y at = absurd (cc at)
entry_from_map f (x ∷ xs) zero y at = let same : f x ≡ y = cc in (x, refl, same)
entry_from_map f (x ∷ xs) (suc k) y at = entry_from_map f xs k y at

pub replicate_entry : {X : Type 0} (n k : ℕ) (c x : X) → slice_get (replicate n c) k ≡ Some x → x ≡ c
replicate_entry zero k c x at = absurd (cc at)
replicate_entry (suc n) zero c x at = cc
replicate_entry (suc n) (suc k) c x at = replicate_entry n k c x at

module _ {L A : Type 0} {l : LabelGhosts L} {a : AgendaGhosts A} where
  -- programs over parts that are in order have their ranks and their number
  pub in_order : (programs : List (Relax L A l a)) (parts : List Portion) → map part_in programs ≡ parts → AreInOrder parts
      → (k : ℕ) (p : Relax L A l a) → slice_get programs k ≡ Some p → ((part_in p).rank ≡ k) × ((part_in p).ranks ≡ length programs)
  in_order programs parts same order k p at =
      let there : slice_get parts k ≡ Some (part_in p) = ap (λ l. slice_get l k) (sym same) ∙ entry_map part_in programs k p at in
      let said = order k (part_in p) there in
      (said.0, said.1 ∙ (ap length (sym same) ∙ length_of_map part_in programs))

-- what each program has kept from the opening state that its machine shows, it has kept from the one in the list
pub from_openings : {R P : Type 0} (opening : R → P) (machines : List R) (openings : List P) → map opening machines ≡ openings → (K : ℕ → P → P → Type 0) (programs : List P)
    → Each (λ rank p. Each (λ place r. rank ≡ place → K rank (opening r) p) machines) programs
    → (rank : ℕ) (p start : P) → slice_get programs rank ≡ Some p → slice_get openings rank ≡ Some start → K rank start p
from_openings opening machines openings same K programs all rank p start at there =
    let m = entry_from_map opening machines rank start (ap (λ l. slice_get l rank) same ∙ there) in
    subst (λ s. K rank s p) m.2 (all rank p at rank m.0 m.1 refl)

pub entry_below : {X : Type 0} (xs : List X) (k : ℕ) → k < length xs → (x : X) × (slice_get xs k ≡ Some x)
entry_below [] k h = absurd (omega arith)
entry_below (x ∷ xs) zero h = (x, refl)
entry_below (x ∷ xs) (suc k) h = entry_below xs k (omega arith)
