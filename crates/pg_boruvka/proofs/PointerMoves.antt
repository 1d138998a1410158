-- Labels that are moved along shortened pointers are where the hooks' pointers end.
use Rattle.std.proofs.Common.{◌≡◌, ℕ, zero, suc, ◌<◌, List, length, All, map, refl, sym, ap, ◌∙◌}
use Rattle.std.specs.Prelude.{slice_index}
use Rattle.std.proofs.lemmas.List.{get_or-map}
use Rattle.pg_forest.specs.Phases.{point}
use Rattle.pg_boruvka.specs.Pointers.{walk, AreMoved}

-- Two ways to step on that agree within a list walk alike.
same_walk : (f g : ℕ → ℕ) (count : ℕ) → ((l : ℕ) → l < count → f l ≡ g l) → ((l : ℕ) → l < count → f l < count) → (k l : ℕ) → l < count → walk f k l ≡ walk g k l
unfolding walk
same_walk f g count same inside zero l h = refl
same_walk f g count same inside (suc k) l h = same_walk f g count same inside k (f l) (inside l h) ∙ ap (walk g k) (same l h)

walk_inside : (f : ℕ → ℕ) (count : ℕ) → ((l : ℕ) → l < count → f l < count) → (k l : ℕ) → l < count → walk f k l < count
unfolding walk
walk_inside f count inside zero l h = h
walk_inside f count inside (suc k) l h = walk_inside f count inside k (f l) (inside l h)

module _ (far : ℕ) (targets pointers shortened old new : List ℕ)
    (points : (l : ℕ) → l < length pointers → slice_index pointers l ≡ point (slice_index targets) l)
    (within : All (λ l. l < length pointers) pointers)
    (ends : (l : ℕ) → l < length pointers → slice_index pointers (walk (slice_index pointers) far l) ≡ walk (slice_index pointers) far l → slice_index shortened l ≡ walk (slice_index pointers) far l)
    (labels : All (λ l. l < length pointers) old)
    (moved : new ≡ map (slice_index shortened) old) where
  inside : (l : ℕ) → l < length pointers → slice_index pointers l < length pointers
  inside l h = within l 0 h

  walks : (l : ℕ) → l < length pointers → walk (slice_index pointers) far l ≡ walk (point (slice_index targets)) far l
  walks l h = same_walk (slice_index pointers) (point (slice_index targets)) (length pointers) points inside far l h

  at_end : (l : ℕ) → l < length pointers → point (slice_index targets) (walk (point (slice_index targets)) far l) ≡ walk (point (slice_index targets)) far l
      → slice_index pointers (walk (slice_index pointers) far l) ≡ walk (slice_index pointers) far l
  at_end l h still =
      points (walk (slice_index pointers) far l) (walk_inside (slice_index pointers) (length pointers) inside far l h)
      ∙ ap (point (slice_index targets)) (walks l h) ∙ still ∙ sym (walks l h)

  -- Of targets that are made pointers and shortened.
  pub moved_along : AreMoved far targets old new
  moved_along v h still =
      let l = slice_index old v in
      let below : slice_index old v < length pointers = labels v 0 h in
      ap (λ (xs : List ℕ). slice_index xs v) moved ∙ get_or-map (slice_index shortened) old v 0 0 h
      ∙ ends l below (at_end l below still) ∙ walks l below
