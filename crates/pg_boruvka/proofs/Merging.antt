-- The winners of the labels of the other ranks are lowered in two parts.
use Rattle.std.proofs.Common.{◌≡◌, ◌⊎◌, ℕ, ◌+◌, ◌<◌, ◌≤◌, List, refl, sym, ◌∙◌, ap, subst, inl, inr, ⊎_elim, arith}
use Rattle.std.specs.Prelude.{min, slice_index}
use Rattle.std.proofs.lemmas.Bool.{cases_lt}
use Rattle.pg_adj.specs.Portions.{IsVertex}
use Rattle.pg_boruvka.specs.declared.messages.Piece.{Piece}
use Rattle.pg_boruvka.specs.declared.messages.Message.TheVariants.{Piece as Keys}
use Rattle.pg_boruvka.specs.declared.dense.Stage.{Stage}
use Rattle.pg_boruvka.specs.declared.dense.Stage.TheVariants as stage
use Rattle.pg_boruvka.specs.Winners.{first_label, labels_of, given_key}
use Rattle.pg_boruvka.specs.Lowered.{IsBetween, AreLowered}
use Rattle.pg_boruvka.specs.Known.{View}
use Rattle.pg_boruvka.specs.Calls.{IsOwnLabel, Counts, AreMerged}
use Rattle.pg_boruvka.proofs.Handled.{own_cases}

module _ (v : View) (piece : Piece) (first past : ℕ) (mid new : List ℕ) (at : v.stage ≡ stage.Down) (is_first : first ≡ first_label v.part v.part.rank)
    (is_past : past ≡ first_label v.part v.part.rank + labels_of v.part v.part.rank) (least : 1 ≤ first) (order : first ≤ past) (end : past ≤ v.part.n + 1)
    (below : AreLowered (Keys piece) 1 first v.known.winners mid) (above : AreLowered (Keys piece) past (v.part.n + 1) mid new) where
  between : (l : ℕ) → IsVertex v.part.n l → IsBetween 1 (v.part.n + 1) l
  between l vertex = record { from = vertex.first; before = omega (arith, vertex.last) }

  counting : (l : ℕ) → IsBetween 1 (v.part.n + 1) l → (IsOwnLabel v.part l → ⊥) → slice_index new l ≡ min (slice_index v.known.winners l) (given_key l (Keys piece))
  counting l between other = ⊎_elim
      (λ low.
      above.others l (λ b. omega (arith, b.from, low, is_first, is_past))
      ∙ below.between l (record { from = between.from; before = low }))
      (λ high.
      let beyond : past ≤ l = ⊎_elim (λ inside. absurd (other (record { from = omega (arith, high, is_first); before = omega (arith, inside, is_past) }))) (λ out. out) (cases_lt l past) in
      above.between l (record { from = beyond; before = between.before })
      ∙ ap (λ (x : ℕ). min x (given_key l (Keys piece))) (below.others l (λ b. omega (arith, b.before, high))))
      (cases_lt l first)

  own_stays : (l : ℕ) → IsOwnLabel v.part l → slice_index new l ≡ slice_index v.known.winners l
  own_stays l own =
      above.others l (λ b. omega (arith, b.from, own.before, is_past))
      ∙ below.others l (λ b. omega (arith, b.before, own.from, is_first))

  -- A number that isn't a label is in neither part, as the own labels lie between 1 and n.
  outside_stays : (l : ℕ) → (IsVertex v.part.n l → ⊥) → slice_index new l ≡ slice_index v.known.winners l
  outside_stays l outside =
      above.others l (λ b. outside (record { first = omega (arith, b.from, least, order); last = omega (arith, b.before) }))
      ∙ below.others l (λ b. outside (record { first = b.from; last = omega (arith, b.before, order, end) }))

  others : (l : ℕ) → ((IsVertex v.part.n l × (IsOwnLabel v.part l → ⊥)) → ⊥) → slice_index new l ≡ slice_index v.known.winners l
  others l none = ⊎_elim
      (λ own. own_stays l own)
      (λ other. outside_stays l (λ vertex. none (vertex, other)))
      (own_cases v.part l)

  pub merged_down : AreMerged v piece new
  merged_down = record {
    counting = λ l counts. let down = subst (λ (s : Stage). Counts v.part s l) at counts in counting l (between l down.0) down.1;
    others = λ l none. others l (λ down. none (subst (λ (s : Stage). Counts v.part s l) (sym at) down));
  }
