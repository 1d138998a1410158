-- A list of answers that grows by one for each vertex.
use Rattle.std.proofs.Common.{◌≡◌, ℕ, ◌+◌, ◌<◌, ◌++◌, List, [], ◌∷◌, length, get_or, Option, Some, None, inl, inr, sym, ap, ◌∙◌, subst, arith}
use Rattle.std.specs.Prelude.{slice_get}
use Rattle.std.proofs.lemmas.Bool.{cases_lt}
use Rattle.std.proofs.lemmas.List.{get_or_append_left, get_or_push}
use Rattle.pg_top.proofs.RunLemmas.{entry_below}
use Rattle.pg_top.proofs.BestLemmas.{got}

-- what holds of each answer and of one behind them holds of all
pub one_more : (answers new : List (Option ℕ)) (x : Option ℕ) (n : ℕ) (E : ℕ → Option ℕ → Type 0) → new ≡ answers ++ x ∷ [] → length answers ≡ n
    → ((v : ℕ) → v < n → E v (get_or answers v None)) → E n x → (v : ℕ) → v < n + 1 → E v (get_or new v None)
one_more answers new x n E is long each last v h = elim (cases_lt v n) [
  | inl below ↦ subst (E v) (sym (ap (λ l. get_or l v None) is ∙ get_or_append_left answers (x ∷ []) None v (omega (arith, below, long)))) (each v below)
  | inr past ↦
      let here : n ≡ v = omega arith in
      subst (λ k. E k (get_or new k None)) here (subst (E n) (sym (ap (λ l. get_or l n None) is ∙ get_or_push answers x None n long)) last)
]

-- what an index reads stands there
pub read_is_there : {X : Type 0} (xs : List X) (k : ℕ) (x : X) → k < length xs → x ≡ get_or xs k x → slice_get xs k ≡ Some x
read_is_there xs k x h is =
    let e = entry_below xs k h in
    e.1 ∙ ap Some (sym (got xs k e.0 x e.1) ∙ sym is)
