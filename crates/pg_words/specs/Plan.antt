-- What the words of a command line mean.
use Rattle.std.specs.Prelude.{ℕ, ◌≡◌, ◌*◌, ◌≤◌, ◌&&◌, nat_le, if◌then◌else◌, Option, Some, None, option_and_then, unwrap_or, List, [], ◌∷◌, map, codes, string_bytes, String}
use Rattle.std.specs.Option.{option_map}
use Rattle.std.specs.declared.alloc.Global.{Global}
use Rattle.clap.specs.Walk.{Row, Text}
use Rattle.clap.specs.Kinds.{Kinds}
use Rattle.pg_text.specs.Text.{number}
use Rattle.pg_words.specs.CommandLine.{faults_in, found_in, told}
use Rattle.pg_words.specs.Needs.{algorithm_in, delta_need, fits}
use Rattle.pg_words.specs.declared.plans.Algorithm.{Algorithm}
use Rattle.pg_words.specs.declared.plans.Algorithm.TheVariants.{Grid}
use Rattle.pg_words.specs.declared.plans.Crew.{Crew}
use Rattle.pg_words.specs.declared.plans.Need.{Need}
use Rattle.pg_words.specs.declared.plans.Need.TheVariants.{Optional, Refused}
use Rattle.pg_words.specs.declared.plans.Numbers.{Numbers}
use Rattle.pg_words.specs.declared.plans.Plan.{Plan}
use Rattle.pg_words.specs.declared.plans.Search.{Search}
use Rattle.pg_words.specs.declared.plans.Size.{Size}

-- ---- what the numbers of the words are

-- A number from `least` to `most`.
unfoldable pub number_within : ℕ → ℕ → Text → Option ℕ
number_within least most word = option_and_then (λ value. if nat_le least value && nat_le value most then Some value else None) (number word)

-- Likewise, or `otherwise` where the word isn't there.
abbrev pub number_or : ℕ → ℕ → ℕ → Option Text → Option ℕ
number_or otherwise least most None = Some otherwise
number_or otherwise least most (Some word) = number_within least most word

abbrev pub u32_max : ℕ
u32_max = 4294967295

-- As many threads as ranks, where no word says otherwise.
unfoldable pub crew_in : List Row → Option Crew
crew_in rows =
    option_and_then (λ ranks.
    option_and_then (λ threads.
    option_map (λ capacity. record { ranks = ranks; threads = threads; capacity = capacity })
    (number_or 1024 1 1024 (told rows (codes "capacity"))))
    (number_or ranks 1 32 (told rows (codes "threads"))))
    (number_or 1 1 32 (told rows (codes "ranks")))

-- The delta of an algorithm that takes one is 32 where no word says otherwise.
abbrev pub usual_delta : Need → ℕ
usual_delta Refused = 0
usual_delta _ = 32

unfoldable pub search_in : Algorithm → List Row → Option Search
search_in a rows =
    option_and_then (λ source.
    option_map (λ delta. record { source = source; delta = delta })
    (number_or (usual_delta (delta_need a)) 1 u32_max (told rows (codes "delta"))))
    (number_or 0 0 u32_max (told rows (codes "source")))

-- At most 1,048,576 vertices.
unfoldable pub size_in : List Row → Option Size
size_in rows =
    option_and_then (λ width.
    option_and_then (λ height.
    option_and_then (λ seed. if nat_le (width * height) 1048576 then Some (record { width = width; height = height; seed = seed }) else None)
    (number_or 0 0 u32_max (told rows (codes "seed"))))
    (number_or 0 1 u32_max (told rows (codes "height"))))
    (number_or 0 1 u32_max (told rows (codes "width")))

-- The numbers of this algorithm's plan, where the words are those that it takes.
unfoldable pub numbers_in : Algorithm → List Row → Option Numbers
numbers_in a rows = if fits a rows
    then option_and_then (λ crew. option_and_then (λ search. option_map (λ size. record { crew = crew; search = search; size = size }) (size_in rows)) (search_in a rows)) (crew_in rows)
    else None

-- What holds of these numbers.
pub record IsCrewInRange (c : Crew) : Type 0 where
  pub ranks : (1 ≤ c.ranks) × (c.ranks ≤ 32)
  pub threads : (1 ≤ c.threads) × (c.threads ≤ 32)
  pub capacity : (1 ≤ c.capacity) × (c.capacity ≤ 1024)

pub record AreInRange (a : Algorithm) (n : Numbers) : Type 0 where
  pub crew : IsCrewInRange n.crew
  pub delta : delta_need a ≡ Optional → 1 ≤ n.search.delta
  pub sides : a ≡ Grid → (1 ≤ n.size.width) × (1 ≤ n.size.height)
  pub size : n.size.width * n.size.height ≤ 1048576

-- ---- the plan

-- A plan whose texts stand as lists of bytes.
pub record Meaning : Type 0 where
  pub algorithm : Algorithm
  pub file : Text
  pub ranks : ℕ
  pub threads : ℕ
  pub parts : Option Text
  pub source : ℕ
  pub delta : ℕ
  pub capacity : ℕ
  pub width : ℕ
  pub height : ℕ
  pub seed : ℕ

abbrev pub meaning_of : Plan → Meaning
meaning_of p = record { algorithm = p.algorithm; file = string_bytes p.file; ranks = p.ranks; threads = p.threads; parts = option_map string_bytes p.parts; source = p.source; delta = p.delta; capacity = p.capacity; width = p.width; height = p.height; seed = p.seed }

abbrev pub numbers_of : Plan → Numbers
numbers_of p = record {
  crew = record { ranks = p.ranks; threads = p.threads; capacity = p.capacity };
  search = record { source = p.source; delta = p.delta };
  size = record { width = p.width; height = p.height; seed = p.seed };
}

abbrev pub meaning : List Row → Algorithm → Numbers → Meaning
meaning rows a n = record { algorithm = a; file = unwrap_or (told rows (codes "file")) []; ranks = n.crew.ranks; threads = n.crew.threads; parts = told rows (codes "parts"); source = n.search.source; delta = n.search.delta; capacity = n.crew.capacity; width = n.size.width; height = n.size.height; seed = n.size.seed }

unfoldable pub plan_as : Algorithm → List Row → Option Meaning
plan_as a rows = option_map (meaning rows a) (numbers_in a rows)

unfoldable pub plan_in : List Row → Option Meaning
plan_in rows = option_and_then (λ a. plan_as a rows) (algorithm_in rows)

abbrev pub plan_if : Kinds → List Row → Option Meaning
plan_if [] rows = plan_in rows
plan_if (_ ∷ _) rows = None

-- clap takes the words, and what it finds in them is a plan.
unfoldable pub plan_of : List Text → Option Meaning
plan_of words = plan_if (faults_in words) (found_in words)

-- The words as lists of bytes.
abbrev pub texts : List (String Global) → List Text
texts words = map (λ word. string_bytes word) words
