-- What plans ask for.
use Rattle.std.specs.Prelude.{◌≡◌, ◌*◌, ◌≤◌, Some, List}
use Rattle.clap.specs.Walk.{Text}
use Rattle.pg_words.specs.Plan.{Meaning, plan_of}
use Rattle.pg_words.specs.declared.plans.Algorithm.TheVariants.{Sssp, Grid}

-- At least one column and one row, at most 1,048,576 vertices, and buckets of a width of at least 1.
pub record IsGridBuilt (plan : Meaning) : Type 0 where
  pub delta : 1 ≤ plan.delta
  pub width : 1 ≤ plan.width
  pub height : 1 ≤ plan.height
  pub size : plan.width * plan.height ≤ 1048576

-- An algorithm on 1 to 32 ranks and 1 to 32 threads, with lanes of 1 to 1,024 messages; least weights by buckets of a
-- width of at least 1.
pub record IsBuilt (plan : Meaning) : Type 0 where
  pub ranks : (1 ≤ plan.ranks) × (plan.ranks ≤ 32)
  pub threads : (1 ≤ plan.threads) × (plan.threads ≤ 32)
  pub capacity : (1 ≤ plan.capacity) × (plan.capacity ≤ 1024)
  pub delta : plan.algorithm ≡ Sssp → 1 ≤ plan.delta
  pub grid : plan.algorithm ≡ Grid → IsGridBuilt plan

-- No words mean a plan for anything else.
abbrev pub PlansAreBuilt : Type 0
PlansAreBuilt = (words : List Text) (plan : Meaning) → plan_of words ≡ Some plan → IsBuilt plan
