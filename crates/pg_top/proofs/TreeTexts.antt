-- What forests and colourings print on small graphs.
use Rattle.std.proofs.Common.{◌≡◌, ℕ, zero, suc, ◌-◌, List, [], ◌∷◌, get_or, refl, ap, ◌∙◌, subst, arith}
use Rattle.std.specs.Prelude.{codes}
use Rattle.std.specs.Fmt.{digits}
use Rattle.std.proofs.lemmas.Bool.{ne_eqb}
use Rattle.pg_base.specs.Colouring.{AreProper, IsFirstFit, colour_in}
use Rattle.pg_base.specs.Forest.{IsForest}
use Rattle.pg_base.specs.Examples.{graph, middle_one, path_edges, triangle_edges, triangle_tree}
use Rattle.pg_forest.proofs.WholeForests.{forest_is_least}
use Rattle.pg_words.specs.declared.plans.Algorithm.TheVariants.{Forest, Colour}
use Rattle.pg_top.specs.Text.{IsAnswerText}
use Rattle.pg_top.proofs.OneText.{text_is_one}

pub text_of_triangle : IsForest triangle_edges triangle_tree → IsAnswerText Forest 1 0 (graph 3 triangle_edges) (codes "1 2 4\n1 3 4\ntotal 8\n")
unfolding digits
text_of_triangle is =
    let least = forest_is_least triangle_edges triangle_tree is in
    record { tree = triangle_tree; right = record { forest = is; spans = least.0; least = least.1 }; spelled = refl }

pub no_other_tree : IsForest triangle_edges triangle_tree → IsAnswerText Forest 1 0 (graph 3 triangle_edges) (codes "1 2 4\n2 3 4\ntotal 8\n") → ⊥
no_other_tree is p =
    let same : codes "1 2 4\n1 3 4\ntotal 8\n" ≡ codes "1 2 4\n2 3 4\ntotal 8\n" = text_is_one Forest 1 1 0 (graph 3 triangle_edges) _ _ (λ e. absurd (cc e)) (text_of_triangle is) p in
    let seventh : ◌≡◌ {A = ℕ} 49 50 = ap (λ (text : List ℕ). get_or text 6 0) same in
    omega arith

pub no_part_of_tree : IsForest triangle_edges triangle_tree → IsAnswerText Forest 1 0 (graph 3 triangle_edges) (codes "1 2 4\ntotal 4\n") → ⊥
no_part_of_tree is p =
    let same : codes "1 2 4\n1 3 4\ntotal 8\n" ≡ codes "1 2 4\ntotal 4\n" = text_is_one Forest 1 1 0 (graph 3 triangle_edges) _ _ (λ e. absurd (cc e)) (text_of_triangle is) p in
    let seventh : ◌≡◌ {A = ℕ} 49 116 = ap (λ (text : List ℕ). get_or text 6 0) same in
    omega arith

abbrev path_colours : List ℕ
path_colours = 0 ∷ 1 ∷ 0 ∷ 0 ∷ []

in_the_middle : (v : ℕ) → middle_one v ≡ colour_in path_colours v
in_the_middle zero = refl
in_the_middle (suc zero) = refl
in_the_middle (suc (suc zero)) = refl
in_the_middle (suc (suc (suc zero))) = refl
in_the_middle (suc (suc (suc (suc zero)))) = refl
in_the_middle (suc (suc (suc (suc (suc v))))) =
    let none : middle_one (suc (suc (suc (suc (suc v))))) ≡ 0 = rw (ne_eqb (suc (suc (suc (suc (suc v))))) 2 (λ same. omega (arith, same))) refl in
    let place : suc (suc (suc (suc v))) ≡ suc (suc (suc (suc (suc v)))) - 1 = omega arith in
    none ∙ ap (λ (k : ℕ). get_or path_colours k 0) place

pub text_of_path : AreProper (graph 4 path_edges) path_colours → IsFirstFit (graph 4 path_edges) middle_one → IsAnswerText Colour 1 0 (graph 4 path_edges) (codes "0\n1\n0\n0\n")
unfolding digits
text_of_path proper first_fit =
    let same : middle_one ≡ colour_in path_colours = λ k v. in_the_middle v k in
    record { colours = path_colours; right = record { proper = proper; first_fit = λ one. subst (IsFirstFit (graph 4 path_edges)) same first_fit }; spelled = refl }

pub no_other_first : AreProper (graph 4 path_edges) path_colours → IsFirstFit (graph 4 path_edges) middle_one → IsAnswerText Colour 1 0 (graph 4 path_edges) (codes "1\n0\n1\n0\n") → ⊥
no_other_first proper first_fit p =
    let same : codes "0\n1\n0\n0\n" ≡ codes "1\n0\n1\n0\n" = text_is_one Colour 1 1 0 (graph 4 path_edges) _ _ (λ e. (refl, refl)) (text_of_path proper first_fit) p in
    let first : ◌≡◌ {A = ℕ} 48 49 = ap (λ (text : List ℕ). get_or text 0 0) same in
    omega arith
