-- The lines of each text, read off.
use Rattle.std.proofs.Common.{◌≡◌, [], ◌∷◌, refl, arith}
use Rattle.std.proofs.lemmas.List.Elements.{All-cons, All-nil}
use Rattle.pg_text.specs.Text.{decimal_value, lines, number, numbers, words}
use Rattle.pg_text.specs.Ahead.{lines_within}
use Rattle.pg_metis.specs.Content.{content_of}
use Rattle.pg_metis.specs.Examples.{commented_parts_text, idle_rank_text, parts_text}
use Rattle.pg_metis.proofs.PartsLemmas.{parts_of_given}
use Rattle.pg_metis.proofs.laws.parts_files.Goals as goal

pub returns-clause-two : goal.returns-clause-two
unfolding content_of lines_within lines words number numbers decimal_value
returns-clause-two c = parts_of_given parts_text 2 2 (0 ∷ 1 ∷ []) refl refl (refl, omega arith, (refl, omega arith, All-nil _))

pub returns-clause-idle : goal.returns-clause-idle
unfolding content_of lines_within lines words number numbers decimal_value
returns-clause-idle c =
    parts_of_given idle_rank_text 4 4 (0 ∷ 1 ∷ 3 ∷ 0 ∷ []) refl refl (refl, omega arith, (refl, omega arith, (refl, omega arith, (refl, omega arith, All-nil _))))

pub returns-clause-commented : goal.returns-clause-commented
unfolding content_of lines_within lines words number numbers decimal_value
returns-clause-commented c =
    parts_of_given commented_parts_text 2 2 (1 ∷ 0 ∷ []) refl refl (refl, omega arith, (refl, omega arith, All-cons (λ line. words line ≡ []) [] [] refl (All-nil (λ line. words line ≡ []))))

pub returns-clause-no_vertex : goal.returns-clause-no_vertex
unfolding content_of lines_within lines
returns-clause-no_vertex c = parts_of_given [] 0 2 [] refl refl (All-nil _)
