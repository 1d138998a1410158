-- A rank is another one for two that have the same rank and size.
use Rattle.std.proofs.Common.{◌≡◌, ℕ, ◌<◌, sym, ◌∙◌, subst}
use Rattle.pg_group.specs.Ranked.{IsOther}

pub still_other : (own size mine all rank : ℕ) → mine ≡ own → all ≡ size → IsOther own size rank → IsOther mine all rank
still_other own size mine all rank same_own same_size other = (subst (λ n. rank < n) (sym same_size) other.0, λ is. other.1 (is ∙ same_own))
