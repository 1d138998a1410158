-- The words of a vertex's line have no fault exactly where they name a row of neighbours.
use Rattle.std.proofs.Common.{◌≡◌, ◌≢◌, ℕ, zero, suc, ◌≤◌, Bool, true, false, cond, ◌||◌, eqb, ltb, Option, Some, None, List, [], ◌∷◌, length, map, drop, get_or, refl, ◌∙◌, subst, arith, Contains}
use Rattle.std.specs.Prelude.{⊤, option_and_then}
use Rattle.std.specs.Option.{option_map}
use Rattle.std.specs.List.{list_any}
use Rattle.std.proofs.lemmas.Bool.{both_ways, cond-true, cond-false, eq-eqb, eqb-false, le-ltb, ltb-false, ne_eqb, or_from, or_parts}
use Rattle.std.proofs.lemmas.List.{get_or_default}
use Rattle.std.proofs.lemmas.List.Folds.{list_any_at, list_any_none}
use Rattle.pg_base.specs.Graph.{Arc}
use Rattle.pg_text.specs.Text.{decimal_value, is_number, number, numbers, words}
use Rattle.pg_metis.specs.declared.faults.Kind.{Kind}
use Rattle.pg_metis.specs.declared.faults.Kind.TheVariants.{BadNumber, OutOfRange, Repeated, SelfEdge, ShortLine, ZeroWeight}
use Rattle.pg_metis.specs.File.{Header, arcs_in, leading, line_arcs, plain_arc, weighted_arcs}
use Rattle.pg_metis.specs.Fault.{named_fault, neighbour_fault, neighbours_fault, number_fault, row_fault, vertex_fault, weight_fault, weighted_fault}
use Rattle.pg_metis.proofs.HeaderFaults.{none_parts, number_is, number_of_word, number_passes, word_of_number}

-- What a line of vertex v of n may name after these.
pub record IsNeighbour (n v : ℕ) (earlier : List ℕ) (to : ℕ) : Type 0 where
  pub first : 1 ≤ to
  pub last : to ≤ n
  pub other : to ≢ v
  pub new : Contains earlier to → ⊥

-- Arcs that a line of v may name after these neighbours.
abbrev pub IsRow : ℕ → ℕ → List ℕ → List Arc → Type 0
IsRow n v earlier [] = ⊤
IsRow n v earlier (a ∷ arcs) = (a.from ≡ v) × (1 ≤ a.weight) × IsNeighbour n v earlier a.to × IsRow n v (a.to ∷ earlier) arcs

none_else : (b : Bool) (kind : Kind) (o : Option Kind) → cond b (Some kind) o ≡ None → (b ≡ false) × (o ≡ None)
none_else true kind o e = cc
none_else false kind o e = (refl, e)

none_then : (b : Bool) (kind : Kind) (o : Option Kind) → cond b o (Some kind) ≡ None → (b ≡ true) × (o ≡ None)
none_then true kind o e = (refl, e)
none_then false kind o e = cc

not_among : (earlier : List ℕ) (to : ℕ) → list_any (λ other. eqb other to) earlier ≡ false → Contains earlier to → ⊥
not_among earlier to none c =
    both_ways (list_any (λ other. eqb other to) earlier) none (list_any_at (λ other. eqb other to) earlier c.0 to c.1 (eq-eqb (get_or earlier c.0 to) to c.2))

none_among : (earlier : List ℕ) (to : ℕ) → (Contains earlier to → ⊥) → list_any (λ other. eqb other to) earlier ≡ false
none_among earlier to out =
    list_any_none (λ other. eqb other to) earlier (λ k d within. ne_eqb (get_or earlier k d) to (λ same. out (k, within, get_or_default earlier k to d within ∙ same)))

is_neighbour : (n v : ℕ) (earlier : List ℕ) (to : ℕ) → named_fault n v earlier to ≡ None → IsNeighbour n v earlier to
is_neighbour n v earlier to none =
    let range = none_else (eqb to 0 || ltb n to) OutOfRange _ none in
    let self = none_else (eqb to v) SelfEdge _ range.1 in
    let new = none_else (list_any (λ other. eqb other to) earlier) Repeated None self.1 in
    let parts = or_parts (eqb to 0) (ltb n to) range.0 in
    let positive = eqb-false to 0 parts.0 in
    record {
      first = omega arith;
      last = ltb-false n to parts.1;
      other = eqb-false to v self.0;
      new = not_among earlier to new.0;
    }

neighbour_passes : (n v : ℕ) (earlier : List ℕ) (to : ℕ) → IsNeighbour n v earlier to → named_fault n v earlier to ≡ None
neighbour_passes n v earlier to is =
    let first = is.first in
    cond-false (eqb to 0 || ltb n to) (Some OutOfRange) _ (or_from (eqb to 0) (ltb n to) (ne_eqb to 0 (λ e. omega arith)) (le-ltb n to is.last)) ∙
    cond-false (eqb to v) (Some SelfEdge) _ (ne_eqb to v is.other) ∙
    cond-false (list_any (λ other. eqb other to) earlier) (Some Repeated) None (none_among earlier to is.new)

neighbour_of_word : (n v : ℕ) (earlier : List ℕ) (word : List ℕ) → neighbour_fault n v earlier word ≡ None → (number word ≡ Some (decimal_value word)) × IsNeighbour n v earlier (decimal_value word)
neighbour_of_word n v earlier word none =
    let both = none_then (is_number word) BadNumber _ none in
    (number_is word both.0, is_neighbour n v earlier (decimal_value word) both.1)

weight_of_word : (word : List ℕ) → weight_fault word ≡ None → (number word ≡ Some (decimal_value word)) × (1 ≤ decimal_value word)
weight_of_word word none =
    let both = none_then (is_number word) BadNumber _ none in
    let positive = eqb-false (decimal_value word) 0 (none_else (eqb (decimal_value word) 0) ZeroWeight None both.1).0 in
    (number_is word both.0, omega arith)

word_passes : (n v : ℕ) (earlier : List ℕ) (word : List ℕ) (to : ℕ) → number word ≡ Some to → IsNeighbour n v earlier to → neighbour_fault n v earlier word ≡ None
word_passes n v earlier word to given is =
    let parts = word_of_number word to given in
    cond-true (is_number word) _ (Some BadNumber) parts.0 ∙ (rw parts.1 (neighbour_passes n v earlier to is))

weight_passes : (word : List ℕ) (weight : ℕ) → number word ≡ Some weight → 1 ≤ weight → weight_fault word ≡ None
weight_passes word weight given positive =
    let parts = word_of_number word weight given in
    cond-true (is_number word) _ (Some BadNumber) parts.0 ∙ cond-false (eqb (decimal_value word) 0) (Some ZeroWeight) None (ne_eqb (decimal_value word) 0 (let same = parts.1 in λ e. omega arith))

pub numbers_more : (word : List ℕ) (rest : List (List ℕ)) (x : ℕ) (xs : List ℕ) → number word ≡ Some x → numbers rest ≡ Some xs → numbers (word ∷ rest) ≡ Some (x ∷ xs)
unfolding numbers
numbers_more word rest x xs p q = rw (p, q)

pub numbers_none : (given : List ℕ) → numbers [] ≡ Some given → given ≡ []
unfolding numbers
numbers_none given e = cc

-- The first of numbers, and the later ones.
numbers_parts : (word : List ℕ) (rest : List (List ℕ)) (given : List ℕ) → numbers (word ∷ rest) ≡ Some given → (x : ℕ) × (xs : List ℕ) × (number word ≡ Some x) × (numbers rest ≡ Some xs) × (given ≡ x ∷ xs)
unfolding numbers
numbers_parts word rest given e = go (number word) (numbers rest) e
  where
    go : (o : Option ℕ) (p : Option (List ℕ)) → option_and_then (λ first. option_map (λ more. first ∷ more) p) o ≡ Some given → (x : ℕ) × (xs : List ℕ) × (o ≡ Some x) × (p ≡ Some xs) × (given ≡ x ∷ xs)
    go None p e = cc
    go (Some x) None e = cc
    go (Some x) (Some xs) e = (x, xs, refl, refl, cc)

pub numbers_start : (word : List ℕ) (rest : List (List ℕ)) (x : ℕ) (xs : List ℕ) → numbers (word ∷ rest) ≡ Some (x ∷ xs) → (number word ≡ Some x) × (numbers rest ≡ Some xs)
numbers_start word rest x xs e =
    let parts = numbers_parts word rest (x ∷ xs) e in
    let p = parts.2 in
    let q = parts.3 in
    let r = parts.4 in
    (cc, cc)

pub no_numbers : (word : List ℕ) (rest : List (List ℕ)) → numbers (word ∷ rest) ≡ Some [] → ⊥
no_numbers word rest e = let parts = numbers_parts word rest [] e in let r = parts.4 in cc

plain_row : (n v : ℕ) (earlier : List ℕ) (ws : List (List ℕ)) → neighbours_fault n v earlier ws ≡ None → (given : List ℕ) × (numbers ws ≡ Some given) × IsRow n v earlier (map (plain_arc v) given)
unfolding numbers
plain_row n v earlier [] none = ([], refl, tt)
plain_row n v earlier (word ∷ ws) none =
    let parts = none_parts (neighbour_fault n v earlier word) _ none in
    let here = neighbour_of_word n v earlier word parts.0 in
    let later = plain_row n v (decimal_value word ∷ earlier) ws parts.1 in
    (decimal_value word ∷ later.0, numbers_more word ws _ _ here.0 later.1, (refl, omega arith, here.1, later.2))

plain_passes : (n v : ℕ) (earlier : List ℕ) (ws : List (List ℕ)) (given : List ℕ) → numbers ws ≡ Some given → IsRow n v earlier (map (plain_arc v) given) → neighbours_fault n v earlier ws ≡ None
plain_passes n v earlier [] given e row = refl
plain_passes n v earlier (word ∷ ws) [] e row = absurd (no_numbers word ws e)
plain_passes n v earlier (word ∷ ws) (to ∷ given) e row =
    let parts = numbers_start word ws to given e in
    let here = word_passes n v earlier word to parts.0 row.2 in
    let same : decimal_value word ≡ to = (word_of_number word to parts.0).1 in
    let later = plain_passes n v (to ∷ earlier) ws given parts.1 row.3 in
    rw (here, same) later

weighted_more : (v : ℕ) (to weight : ℕ) (given : List ℕ) (arcs : List Arc) → weighted_arcs v given ≡ Some arcs → weighted_arcs v (to ∷ weight ∷ given) ≡ Some (record { from = v; to = to; weight = weight } ∷ arcs)
weighted_more v to weight given arcs e = rw e

weighted_row : (n v : ℕ) (earlier : List ℕ) (ws : List (List ℕ)) → weighted_fault n v earlier ws ≡ None → (given : List ℕ) × (arcs : List Arc) × (numbers ws ≡ Some given) × (weighted_arcs v given ≡ Some arcs) × IsRow n v earlier arcs
unfolding numbers
weighted_row n v earlier [] none = ([], [], refl, refl, tt)
weighted_row n v earlier (word ∷ []) none =
    let parts = none_parts (neighbour_fault n v earlier word) (Some ShortLine) none in
    let short = parts.1 in
    cc
weighted_row n v earlier (word ∷ weight ∷ ws) none =
    let first = none_parts (neighbour_fault n v earlier word) _ none in
    let second = none_parts (weight_fault weight) _ first.1 in
    let here = neighbour_of_word n v earlier word first.0 in
    let weighs = weight_of_word weight second.0 in
    let later = weighted_row n v (decimal_value word ∷ earlier) ws second.1 in (
      decimal_value word ∷ decimal_value weight ∷ later.0,
      record { from = v; to = decimal_value word; weight = decimal_value weight } ∷ later.1,
      numbers_more word (weight ∷ ws) _ _ here.0 (numbers_more weight ws _ _ weighs.0 later.2),
      weighted_more v (decimal_value word) (decimal_value weight) later.0 later.1 later.3,
      (refl, weighs.1, here.1, later.4),
    )

weighted_parts : (v to weight : ℕ) (given : List ℕ) (arcs : List Arc) → weighted_arcs v (to ∷ weight ∷ given) ≡ Some arcs → (more : List Arc) × (weighted_arcs v given ≡ Some more) × (arcs ≡ record { from = v; to = to; weight = weight } ∷ more)
weighted_parts v to weight given arcs e = go (weighted_arcs v given) e
  where
    go : (o : Option (List Arc)) → option_map (λ arcs. (let a : Arc = record { from = v; to = to; weight = weight } in a) ∷ arcs) o ≡ Some arcs → (more : List Arc) × (o ≡ Some more) × (arcs ≡ record { from = v; to = to; weight = weight } ∷ more)
    go None p = cc
    go (Some more) p = (more, refl, cc)

weighted_passes : (n v : ℕ) (earlier : List ℕ) (ws : List (List ℕ)) (given : List ℕ) (arcs : List Arc) → numbers ws ≡ Some given → weighted_arcs v given ≡ Some arcs → IsRow n v earlier arcs → weighted_fault n v earlier ws ≡ None
weighted_passes n v earlier [] given arcs e named row = refl
weighted_passes n v earlier (word ∷ ws) [] arcs e named row = absurd (no_numbers word ws e)
weighted_passes n v earlier (word ∷ ws) (to ∷ []) arcs e named row = cc
weighted_passes n v earlier (word ∷ []) (to ∷ weight ∷ given) arcs e named row =
    let none = numbers_none (weight ∷ given) (numbers_start word [] to (weight ∷ given) e).1 in
    cc
weighted_passes n v earlier (word ∷ w ∷ ws) (to ∷ weight ∷ given) arcs e named row =
    let first = numbers_start word (w ∷ ws) to (weight ∷ given) e in
    let second = numbers_start w ws weight given first.1 in
    let more = weighted_parts v to weight given arcs named in
    let whole : IsRow n v earlier (record { from = v; to = to; weight = weight } ∷ more.0) = subst (IsRow n v earlier) more.2 row in
    let here = word_passes n v earlier word to first.0 whole.2 in
    let weighs = weight_passes w weight second.0 whole.1 in
    let same : decimal_value word ≡ to = (word_of_number word to first.0).1 in
    let later = weighted_passes n v (to ∷ earlier) ws given more.0 second.1 more.1 whole.3 in
    rw (here, weighs, same) later

-- So many numbers, and then a row.
abbrev HasRow : Header → ℕ → ℕ → List (List ℕ) → Type 0
HasRow header v more ws = (given : List ℕ) × (arcs : List Arc) × (numbers ws ≡ Some given) × (more ≤ length given) × (arcs_in header.format v (drop more given) ≡ Some arcs) × IsRow header.n v [] arcs

row_of_words : (header : Header) (v more : ℕ) (ws : List (List ℕ)) → row_fault header v more ws ≡ None → HasRow header v more ws
row_of_words header v zero ws none = go header.format.edge_weights none
  where
    go : (b : Bool) → cond b (weighted_fault header.n v [] ws) (neighbours_fault header.n v [] ws) ≡ None → (given : List ℕ) × (arcs : List Arc) × (numbers ws ≡ Some given) × (0 ≤ length given) × (cond b (weighted_arcs v given) (Some (map (plain_arc v) given)) ≡ Some arcs) × IsRow header.n v [] arcs
    go true e = let row = weighted_row header.n v [] ws e in (row.0, row.1, row.2, omega arith, row.3, row.4)
    go false e = let row = plain_row header.n v [] ws e in (row.0, map (plain_arc v) row.0, row.1, omega arith, refl, row.2)
row_of_words header v (suc more) [] none = cc
row_of_words header v (suc more) (word ∷ ws) none =
    let parts = none_parts (number_fault word) _ none in
    let here = number_of_word word parts.0 in
    let later = row_of_words header v more ws parts.1 in
    let enough = later.3 in
    (decimal_value word ∷ later.0, later.1, numbers_more word ws _ _ here later.2, omega arith, later.4, later.5)

row_passes : (header : Header) (v more : ℕ) (ws : List (List ℕ)) (given : List ℕ) (arcs : List Arc) → numbers ws ≡ Some given → more ≤ length given → arcs_in header.format v (drop more given) ≡ Some arcs → IsRow header.n v [] arcs → row_fault header v more ws ≡ None
row_passes header v zero ws given arcs e enough named row = go header.format.edge_weights named
  where
    go : (b : Bool) → cond b (weighted_arcs v given) (Some (map (plain_arc v) given)) ≡ Some arcs → cond b (weighted_fault header.n v [] ws) (neighbours_fault header.n v [] ws) ≡ None
    go true p = weighted_passes header.n v [] ws given arcs e p row
    go false p = let same : arcs ≡ map (plain_arc v) given = cc in plain_passes header.n v [] ws given e (subst (IsRow header.n v []) same row)
row_passes header v (suc more) ws [] arcs e enough named row = absurd (omega arith)
row_passes header v (suc more) [] (x ∷ given) arcs e enough named row = let none = numbers_none (x ∷ given) e in cc
row_passes header v (suc more) (word ∷ ws) (x ∷ given) arcs e enough named row =
    let parts = numbers_start word ws x given e in
    let later = row_passes header v more ws given arcs parts.1 (omega arith) named row in
    rw (number_passes word x parts.0) later

-- A line without a fault names a row.
pub line_row : (header : Header) (v : ℕ) (line : List ℕ) → vertex_fault header v (words line) ≡ None → (arcs : List Arc) × (line_arcs header.format v line ≡ Some arcs) × IsRow header.n v [] arcs
unfolding vertex_fault line_arcs
line_row header v line none =
    let row = row_of_words header v (leading header.format) (words line) none in
    let long : ltb (length row.0) (leading header.format) ≡ false = le-ltb (length row.0) (leading header.format) row.3 in
    (row.1, rw (row.2, long) row.4, row.5)

some_else : (b : Bool) (o : Option (List Arc)) (arcs : List Arc) → cond b None o ≡ Some arcs → (b ≡ false) × (o ≡ Some arcs)
some_else true o arcs p = cc
some_else false o arcs p = (refl, p)

-- A line that names a row has no fault.
pub row_line : (header : Header) (v : ℕ) (line : List ℕ) (arcs : List Arc) → line_arcs header.format v line ≡ Some arcs → IsRow header.n v [] arcs → vertex_fault header v (words line) ≡ None
unfolding vertex_fault line_arcs
row_line header v line arcs named row = go (numbers (words line)) refl named
  where
    go : (o : Option (List ℕ)) → numbers (words line) ≡ o → option_and_then (λ given. cond (ltb (length given) (leading header.format)) None (arcs_in header.format v (drop (leading header.format) given))) o ≡ Some arcs → row_fault header v (leading header.format) (words line) ≡ None
    go None e p = cc
    go (Some given) e p =
        let both = some_else (ltb (length given) (leading header.format)) _ arcs p in
        row_passes header v (leading header.format) (words line) given arcs e (ltb-false (length given) (leading header.format) both.0) both.1 row
