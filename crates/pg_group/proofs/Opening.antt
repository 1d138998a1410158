-- A group in which nothing was sent: what each lane says, said by rank.
use Rattle.std.proofs.Common.{◌≡◌, ℕ, zero, suc, ◌+◌, ◌-◌, List, [], ◌∷◌, length, map, replicate, refl, ap, ◌∙◌, arith}
use Rattle.pg_group.specs.Entries.{Each}
use Rattle.pg_group.specs.Ranked.{by_rank, Wiring}
use Rattle.pg_group.specs.Grouped.{AreOneGroup}
use Rattle.pg_group.proofs.ByRank.{length_of_map}
use Rattle.pg_group.proofs.Growing.{entry_map}

module _ {X Y : Type 0} (f : X → Y) (d : Y) where
  same_all : (xs : List X) → Each (λ k x. f x ≡ d) xs → map f xs ≡ replicate (length xs) d
  same_all [] all = refl
  same_all (x ∷ xs) all = ap (λ y. y ∷ map f xs) (all 0 x refl) ∙ ap (λ l. d ∷ l) (same_all xs (λ k y at. all (suc k) y at))

  by_rank_same : (own m : ℕ) → by_rank d own (replicate m d) ≡ replicate (suc m) d
  by_rank_same zero m = refl
  by_rank_same (suc own) zero = refl
  by_rank_same (suc own) (suc m) = ap (λ l. d ∷ l) (by_rank_same own m)

  pub by_rank_all : (own n : ℕ) (xs : List X) → length xs + 1 ≡ n → Each (λ k x. f x ≡ d) xs → by_rank d own (map f xs) ≡ replicate n d
  by_rank_all own n xs fits all =
      let long : suc (length xs) ≡ n = omega (arith, fits) in
      ap (by_rank d own) (same_all xs all) ∙ by_rank_same own (length xs) ∙ ap (λ m. replicate m d) long

  pub list_all : (n : ℕ) (xs : List X) → length xs + 1 ≡ n → Each (λ k x. f x ≡ d) xs → map f xs ≡ replicate (n - 1) d
  list_all n xs fits all =
      let long : length xs ≡ n - 1 = omega (arith, fits) in
      same_all xs all ∙ ap (λ m. replicate m d) long

module _ {P X : Type 0} (wiring : P → Wiring) (lanes : P → List X) (ps : List P) (n : ℕ) (long : length ps ≡ n) (group : AreOneGroup (map wiring ps)) where
  pub count_out : ((p : P) → length (wiring p).lanes_out ≡ length (lanes p)) → Each (λ r p. length (lanes p) + 1 ≡ n) ps
  count_out same r p at = omega (arith, same p, group.fit_out r (wiring p) (entry_map wiring ps r p at), length_of_map wiring ps, long)

  pub count_in : ((p : P) → length (wiring p).lanes_in ≡ length (lanes p)) → Each (λ r p. length (lanes p) + 1 ≡ n) ps
  count_in same r p at = omega (arith, same p, group.fit_in r (wiring p) (entry_map wiring ps r p at), length_of_map wiring ps, long)
