-- Every plan is one for what is built.
use Rattle.std.proofs.Common.{ℕ, ◌≡◌, ◌≤◌, ◌*◌, ◌∙◌, ◌&&◌, Bool, true, false, cond, [], ◌∷◌, List, Option, Some, None, ap, arith, codes, is_some, option_and_then, refl, subst, sym}
use Rattle.std.specs.Prelude.{nat_le, option_map}
use Rattle.clap.specs.Kinds.{Kinds}
use Rattle.clap.specs.Walk.{Row, Text}
use Rattle.pg_text.specs.Text.{number}
use Rattle.pg_words.specs.Built.{IsBuilt, IsGridBuilt, PlansAreBuilt}
use Rattle.pg_words.specs.CommandLine.{faults_in, found_in, told}
use Rattle.pg_words.specs.Needs.{algorithm_in, fits}
use Rattle.pg_words.specs.Plan.{IsCrewInRange, Meaning, crew_in, meaning, number_or, number_within, numbers_in, plan_as, plan_if, plan_in, plan_of, search_in, size_in, u32_max}
use Rattle.pg_words.specs.declared.plans.Algorithm.{Algorithm}
use Rattle.pg_words.specs.declared.plans.Algorithm.TheVariants.{Sssp, Grid}
use Rattle.pg_words.specs.declared.plans.Crew.{Crew}
use Rattle.pg_words.specs.declared.plans.Numbers.{Numbers}
use Rattle.pg_words.specs.declared.plans.Search.{Search}
use Rattle.pg_words.specs.declared.plans.Size.{Size}
use Rattle.pg_words.proofs.PlanLaws.{grid_sides}

kept : (least most n value : ℕ) (b : Bool) → (nat_le least value && nat_le value most) ≡ b → cond b (Some value) None ≡ Some n → (least ≤ n) × (n ≤ most)
kept least most n value true is h =
    let same : value ≡ n = cc in
    subst (λ (x : ℕ). (least ≤ x) × (x ≤ most)) same (grind arith, grind arith)
kept least most n value false is h = cc

within : (least most n : ℕ) (found : Option ℕ) → option_and_then (λ (value : ℕ). cond (nat_le least value && nat_le value most) (Some value) None) found ≡ Some n → (least ≤ n) × (n ≤ most)
within least most n None h = cc
within least most n (Some value) h = kept least most n value (nat_le least value && nat_le value most) refl h

number_or-range : (otherwise least most n : ℕ) (word : Option Text) → least ≤ otherwise → otherwise ≤ most → number_or otherwise least most word ≡ Some n → (least ≤ n) × (n ≤ most)
unfolding number_within
number_or-range otherwise least most n None low high h =
    let same : otherwise ≡ n = cc in
    (subst (λ (x : ℕ). least ≤ x) same low, subst (λ (x : ℕ). x ≤ most) same high)
number_or-range otherwise least most n (Some word) low high h = within least most n (number word) h

-- ---- the ranks, the threads and the capacity

crew_at : (r : ℕ) (threads capacity : Option ℕ) (c : Crew) → (1 ≤ r) × (r ≤ 32) → ((t : ℕ) → threads ≡ Some t → (1 ≤ t) × (t ≤ 32)) → ((k : ℕ) → capacity ≡ Some k → (1 ≤ k) × (k ≤ 1024))
    → option_and_then (λ (t : ℕ). option_map (λ (k : ℕ). record { ranks = r; threads = t; capacity = k }) capacity) threads ≡ Some c → IsCrewInRange c
crew_at r None capacity c ranks low high h = cc
crew_at r (Some t) None c ranks low high h = cc
crew_at r (Some t) (Some k) c ranks low high h =
    let whole : record { ranks = r; threads = t; capacity = k } ≡ c = cc in
    subst IsCrewInRange whole (record { ranks = ranks; threads = low t refl; capacity = high k refl })

crew_of : (ranks : Option ℕ) (threads capacity : Option Text) (c : Crew) → ((r : ℕ) → ranks ≡ Some r → (1 ≤ r) × (r ≤ 32))
    → option_and_then (λ (r : ℕ). option_and_then (λ (t : ℕ). option_map (λ (k : ℕ). record { ranks = r; threads = t; capacity = k }) (number_or 1024 1 1024 capacity)) (number_or r 1 32 threads)) ranks ≡ Some c → IsCrewInRange c
crew_of None threads capacity c range h = cc
crew_of (Some r) threads capacity c range h =
    let ranks = range r refl in
    crew_at r (number_or r 1 32 threads) (number_or 1024 1 1024 capacity) c ranks (λ t is. number_or-range r 1 32 t threads ranks.0 ranks.1 is) (λ k is. number_or-range 1024 1 1024 k capacity (omega arith) (omega arith) is) h

crew_built : (rows : List Row) (c : Crew) → crew_in rows ≡ Some c → IsCrewInRange c
unfolding crew_in
crew_built rows c h = crew_of (number_or 1 1 32 (told rows (codes "ranks"))) (told rows (codes "threads")) (told rows (codes "capacity")) c (λ r is. number_or-range 1 1 32 r (told rows (codes "ranks")) (omega arith) (omega arith) is) h

-- ---- the width of a bucket

delta_of : (source delta : Option ℕ) (s : Search) → ((d : ℕ) → delta ≡ Some d → 1 ≤ d)
    → option_and_then (λ (v : ℕ). option_map (λ (d : ℕ). record { source = v; delta = d }) delta) source ≡ Some s → 1 ≤ s.delta
delta_of None delta s range h = cc
delta_of (Some v) None s range h = cc
delta_of (Some v) (Some d) s range h =
    let whole : record { source = v; delta = d } ≡ s = cc in
    subst (λ (x : Search). 1 ≤ x.delta) whole (range d refl)

delta_built : (rows : List Row) (s : Search) → search_in Sssp rows ≡ Some s → 1 ≤ s.delta
unfolding search_in
delta_built rows s h = delta_of (number_or 0 0 u32_max (told rows (codes "source"))) (number_or 32 1 u32_max (told rows (codes "delta"))) s (λ d is. (number_or-range 32 1 u32_max d (told rows (codes "delta")) (omega arith) (omega arith) is).0) h

grid_delta : (rows : List Row) (s : Search) → search_in Grid rows ≡ Some s → 1 ≤ s.delta
unfolding search_in
grid_delta rows s h = delta_of (number_or 0 0 u32_max (told rows (codes "source"))) (number_or 32 1 u32_max (told rows (codes "delta"))) s (λ d is. (number_or-range 32 1 u32_max d (told rows (codes "delta")) (omega arith) (omega arith) is).0) h

-- ---- the size of a grid

size_kept : (w h seed : ℕ) (z : Size) (b : Bool) → nat_le (w * h) 1048576 ≡ b → cond b (Some (record { width = w; height = h; seed = seed })) None ≡ Some z → (w ≡ z.width) × (h ≡ z.height) × (z.width * z.height ≤ 1048576)
size_kept w h seed z true is found =
    let whole : record { width = w; height = h; seed = seed } ≡ z = cc in
    subst (λ (x : Size). (w ≡ x.width) × (h ≡ x.height) × (x.width * x.height ≤ 1048576)) whole (refl, refl, grind arith)
size_kept w h seed z false is found = cc

size_of : (width height seed : Option ℕ) (z : Size)
    → option_and_then (λ (w : ℕ). option_and_then (λ (h : ℕ). option_and_then (λ (s : ℕ). cond (nat_le (w * h) 1048576) (Some (record { width = w; height = h; seed = s })) None) seed) height) width ≡ Some z
    → (width ≡ Some z.width) × (height ≡ Some z.height) × (z.width * z.height ≤ 1048576)
size_of None height seed z h = cc
size_of (Some w) None seed z h = cc
size_of (Some w) (Some y) None z h = cc
size_of (Some w) (Some y) (Some s) z h =
    let (wide, high, small) = size_kept w y s z (nat_le (w * y) 1048576) refl h in
    (ap Some wide, ap Some high, small)

-- A number that a word gives is at least the least one.
told_least : (least n : ℕ) (word : Option Text) → is_some word ≡ true → number_or 0 least u32_max word ≡ Some n → least ≤ n
unfolding number_within
told_least least n None there h = cc
told_least least n (Some word) there h = (within least u32_max n (number word) h).0

size_built : (rows : List Row) (z : Size) → fits Grid rows ≡ true → size_in rows ≡ Some z → (1 ≤ z.width) × (1 ≤ z.height) × (z.width * z.height ≤ 1048576)
unfolding size_in
size_built rows z fit h =
    let (wide, high, small) = size_of (number_or 0 1 u32_max (told rows (codes "width"))) (number_or 0 1 u32_max (told rows (codes "height"))) (number_or 0 0 u32_max (told rows (codes "seed"))) z h in
    let (width, height) = grid_sides Grid rows fit refl in
    (told_least 1 z.width (told rows (codes "width")) width wide, told_least 1 z.height (told rows (codes "height")) height high, small)

-- ---- the plan

joined : (crew : Option Crew) (search : Option Search) (size : Option Size) (n : Numbers)
    → option_and_then (λ (c : Crew). option_and_then (λ (s : Search). option_map (λ (z : Size). record { crew = c; search = s; size = z }) size) search) crew ≡ Some n → (crew ≡ Some n.crew) × (search ≡ Some n.search) × (size ≡ Some n.size)
joined None search size n h = cc
joined (Some c) None size n h = cc
joined (Some c) (Some s) None n h = cc
joined (Some c) (Some s) (Some z) n h =
    let whole : record { crew = c; search = s; size = z } ≡ n = cc in
    (ap (λ (x : Numbers). Some x.crew) whole, ap (λ (x : Numbers). Some x.search) whole, ap (λ (x : Numbers). Some x.size) whole)

chosen : (fit : Bool) (numbers : Option Numbers) (n : Numbers) → cond fit numbers None ≡ Some n → (fit ≡ true) × (numbers ≡ Some n)
chosen true numbers n h = (refl, h)
chosen false numbers n h = cc

-- What the numbers of an algorithm's plan are.
record AreBuilt (a : Algorithm) (n : Numbers) : Type 0 where
  crew : IsCrewInRange n.crew
  delta : a ≡ Sssp → 1 ≤ n.search.delta
  grid_delta : a ≡ Grid → 1 ≤ n.search.delta
  size : a ≡ Grid → (1 ≤ n.size.width) × (1 ≤ n.size.height) × (n.size.width * n.size.height ≤ 1048576)

built_numbers : (a : Algorithm) (rows : List Row) (n : Numbers) → numbers_in a rows ≡ Some n → AreBuilt a n
unfolding numbers_in
built_numbers a rows n h =
    let (fit, found) = chosen (fits a rows) _ n h in
    let (crew, search, size) = joined (crew_in rows) (search_in a rows) (size_in rows) n found in
    record {
      crew = crew_built rows n.crew crew;
      delta = λ is. delta_built rows n.search (ap (λ (x : Algorithm). search_in x rows) (sym is) ∙ search);
      grid_delta = λ is. grid_delta rows n.search (ap (λ (x : Algorithm). search_in x rows) (sym is) ∙ search);
      size = λ is. size_built rows n.size (ap (λ (x : Algorithm). fits x rows) (sym is) ∙ fit) size;
    }

built_plan : (a : Algorithm) (rows : List Row) (numbers : Option Numbers) (plan : Meaning) → numbers_in a rows ≡ numbers → option_map (meaning rows a) numbers ≡ Some plan → IsBuilt plan
built_plan a rows None plan same h = cc
built_plan a rows (Some n) plan same h =
    let b = built_numbers a rows n same in
    let whole : meaning rows a n ≡ plan = cc in
    subst IsBuilt whole (record {
      ranks = b.crew.ranks;
      threads = b.crew.threads;
      capacity = b.crew.capacity;
      delta = b.delta;
      grid = λ is. record { delta = b.grid_delta is; width = (b.size is).0; height = (b.size is).1; size = (b.size is).2 };
    })

built_in : (rows : List Row) (found : Option Algorithm) (plan : Meaning) → algorithm_in rows ≡ found → option_and_then (λ (a : Algorithm). plan_as a rows) found ≡ Some plan → IsBuilt plan
unfolding plan_as
built_in rows None plan same h = cc
built_in rows (Some a) plan same h = built_plan a rows (numbers_in a rows) plan refl h

built_if : (kinds : Kinds) (rows : List Row) (plan : Meaning) → plan_if kinds rows ≡ Some plan → IsBuilt plan
unfolding plan_in
built_if [] rows plan h = built_in rows (algorithm_in rows) plan refl h
built_if (k ∷ kinds) rows plan h = cc

pub plans_are_built : PlansAreBuilt
unfolding plan_of
plans_are_built words plan h = built_if (faults_in words) (found_in words) plan h
