-- The plan of the words, from what clap makes of them.
use Rattle.std.proofs.Common.{◌≡◌, ◌≢◌, ◌∙◌, ◌&&◌, Bool, true, [], ◌∷◌, List, None, ap, ap₂, arith, codes, is_some, refl, sym}
use Rattle.clap.specs.Kinds.{Kinds}
use Rattle.clap.specs.Walk.{Row, Text}
use Rattle.pg_words.specs.CommandLine.{faults_in, found_in, told}
use Rattle.pg_words.specs.Needs.{delta_need, fits, fits_files, fits_task, is_met, size_need, source_need}
use Rattle.pg_words.specs.Plan.{plan_if, plan_in, plan_of}
use Rattle.pg_words.specs.declared.plans.Algorithm.{Algorithm}
use Rattle.pg_words.specs.declared.plans.Algorithm.TheVariants.{Grid}

pub plan_of-found : (words : List Text) (rows : List Row) → faults_in words ≡ [] → rows ≡ found_in words → plan_of words ≡ plan_in rows
unfolding plan_of
plan_of-found words rows none is = ap₂ plan_if none (sym is)

none_if : (kinds : Kinds) (rows : List Row) → kinds ≢ [] → plan_if kinds rows ≡ None
none_if [] rows some = absurd (some refl)
none_if (k ∷ kinds) rows some = refl

pub plan_of-refused : (words : List Text) → faults_in words ≢ [] → plan_of words ≡ None
unfolding plan_of
plan_of-refused words some = none_if (faults_in words) (found_in words) some

-- The third and the fourth of five tests, after another.
late_tests : (z a b c d e : Bool) → (z && (a && b && c && d && e)) ≡ true → (c ≡ true) × (d ≡ true)
late_tests z a b c d e h = grind arith

pub grid_sides : (a : Algorithm) (rows : List Row) → fits a rows ≡ true → a ≡ Grid → (is_some (told rows (codes "width")) ≡ true) × (is_some (told rows (codes "height")) ≡ true)
unfolding fits fits_task
grid_sides a rows h is = late_tests
    (fits_files Grid rows)
    (is_met (source_need Grid) (told rows (codes "source")))
    (is_met (delta_need Grid) (told rows (codes "delta")))
    (is_some (told rows (codes "width")))
    (is_some (told rows (codes "height")))
    (is_met (size_need Grid) (told rows (codes "seed")))
    (ap (λ (x : Algorithm). fits x rows) (sym is) ∙ h)
