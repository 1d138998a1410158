-- One rank's ghosts more.
use Rattle.std.proofs.Common.{◌≡◌, ℕ, ◌+◌, ◌<◌, List, [], ◌∷◌, ◌++◌, length, get_or, take, sym, ap, ◌∙◌, arith}
use Rattle.std.proofs.lemmas.List.{take_more, append-nil, append_assoc, length-take-le}
use Rattle.pg_adj.specs.declared.arcs.Ghost.{Ghost}
use Rattle.pg_adj.specs.Holdings.{holdings_of, holdings}

holdings-append : (rank : ℕ) (xs ys : List (List Ghost)) → holdings rank (xs ++ ys) ≡ holdings rank xs ++ holdings (rank + length xs) ys
holdings-append rank [] ys = let e : rank ≡ rank + 0 = omega arith in ap (λ r. holdings r ys) e
holdings-append rank (gs ∷ xs) ys =
    let same : rank + 1 + length xs ≡ rank + length (gs ∷ xs) = omega arith in
    ap (λ es. holdings_of rank 0 gs ++ es) (holdings-append (rank + 1) xs ys ∙ ap (λ r. holdings (rank + 1) xs ++ holdings r ys) same)
    ∙ sym (append_assoc (holdings_of rank 0 gs) (holdings (rank + 1) xs) (holdings (rank + length (gs ∷ xs)) ys))

pub holdings_more : (lists : List (List Ghost)) (i : ℕ) (held : List Ghost) → i < length lists → get_or lists i [] ≡ held
    → holdings 0 (take (i + 1) lists) ≡ holdings 0 (take i lists) ++ holdings_of i 0 held
holdings_more lists i held h e =
    let at : 0 + length (take i lists) ≡ i = omega (arith, length-take-le i lists (omega arith)) in
    ap (λ ls. holdings 0 ls) (take_more lists i [] h) ∙ (holdings-append 0 (take i lists) (get_or lists i [] ∷ [])
    ∙ (ap (λ r. holdings 0 (take i lists) ++ holdings r (get_or lists i [] ∷ [])) at
    ∙ (ap (λ gs. holdings 0 (take i lists) ++ holdings i (gs ∷ [])) e
    ∙ ap (λ es. holdings 0 (take i lists) ++ es) (append-nil (holdings_of i 0 held)))))
