-- One more in a sum that stands still at the end of 64 bits.
use Rattle.std.proofs.Common.{◌≡◌, ℕ, ◌+◌, List, length, map, arith}
use Rattle.std.specs.List.{sum_by, range_with_len}
use Rattle.std.proofs.lemmas.List.FromFn.{sum_by-map-range_with_len_more}
use Rattle.pg_bench.specs.Counts.{capped}

pub row_more : {X : Type 0} (lists : ℕ → List X) (i count more now : ℕ) → count ≡ capped (sum_by length (map lists (range_with_len 0 i))) → more ≡ length (lists i) → now ≡ capped (count + more)
    → now ≡ capped (sum_by length (map lists (range_with_len 0 (i + 1))))
row_more lists i count more now is size grown =
    let one = sum_by-map-range_with_len_more length lists 0 i i (omega arith) in
    omega arith
