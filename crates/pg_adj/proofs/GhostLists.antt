-- The ghosts of a rank are pushed vertex after vertex.
use Rattle.std.proofs.Common.{◌≡◌, ℕ, ◌+◌, ◌-◌, ◌<◌, List, [], ◌∷◌, ◌++◌, length, get_or, slice_set, map, cond, Bool, true, false, not, ◌&&◌, refl, sym, ap, subst, ◌∙◌, inl, inr, arith, suc, vec_capacity, if◌then◌else◌}
use Rattle.std.proofs.lemmas.Bool.{cases_eq}
use Rattle.std.proofs.lemmas.List.{length-map, map-append, append-nil, get_or_default, get_or-set_same, get_or-set_other}
use Rattle.std.proofs.lemmas.List.Elements.{filter-append}
use Rattle.pg_adj.specs.declared.arcs.Ghost.{Ghost}
use Rattle.pg_adj.specs.declared.ghosts.GhostList.{GhostList}
use Rattle.pg_adj.specs.declared.rank_sets.RankSet.{RankSet}
use Rattle.pg_adj.specs.Division.{vertices_to}
use Rattle.pg_adj.specs.RankSets.{has, held_up_to, ranks_holding, no_ranks}
use Rattle.pg_adj.proofs.HolderRows.{held_next, kept_mono}
use Rattle.pg_adj.proofs.Members.{IsTaken, and_not, and_not_itself, and_not_true, taken_gone, others_stay}

picked : (f : ℕ → Ghost) (v : ℕ) (b : Bool) → map f (cond b (v ∷ []) []) ≡ cond b (f v ∷ []) []
picked f v true = refl
picked f v false = refl

-- the vertex behind the place k, where x is its set
held_more : (sets : List RankSet) (r k : ℕ) (x : RankSet) → get_or sets k no_ranks ≡ x → held_up_to sets r (suc k) ≡ held_up_to sets r k ++ cond (has x r) ((k + 1) ∷ []) []
held_more sets r k x at =
    let place : k + 1 - 1 ≡ k = omega arith in
    let read : ranks_holding sets (k + 1) ≡ x = ap (λ (i : ℕ). get_or sets i no_ranks) place ∙ at in
    filter-append (λ v. has (ranks_holding sets v) r) (vertices_to k) ((k + 1) ∷ [])
    ∙ ap (λ (y : RankSet). held_up_to sets r k ++ cond (has y r) ((k + 1) ∷ []) []) read

list_more : (f : ℕ → Ghost) (sets : List RankSet) (r k : ℕ) (x d : RankSet) (before after : List Ghost) → k < length sets → get_or sets k d ≡ x
    → before ≡ map f (held_up_to sets r k) → after ≡ before ++ cond (has x r) (f (k + 1) ∷ []) [] → after ≡ map f (held_up_to sets r (k + 1))
list_more f sets r k x d before after below at was put =
    let read : get_or sets k no_ranks ≡ x = get_or_default sets k no_ranks d below ∙ at in
    let next : suc k ≡ k + 1 = omega arith in
    put ∙ (ap (λ gs. gs ++ cond (has x r) (f (k + 1) ∷ []) []) was
    ∙ (ap (λ gs. map f (held_up_to sets r k) ++ gs) (sym (picked f (k + 1) (has x r)))
    ∙ (sym (map-append f (held_up_to sets r k) (cond (has x r) ((k + 1) ∷ []) []))
    ∙ (ap (map f) (sym (held_more sets r k x read))
    ∙ ap (λ (n : ℕ). map f (held_up_to sets r n)) next))))

pub lists_more : (f : ℕ → Ghost) (sets : List RankSet) (k : ℕ) (x : RankSet) (g : Ghost) (ranks : ℕ) (was before done after : List GhostList) → k < length sets → get_or sets k no_ranks ≡ x
    → g ≡ f (k + 1) → before ≡ was → after ≡ done → length was ≡ ranks
    → ((r : ℕ) (d : GhostList) → r < ranks → (get_or was r d).ghosts.items ≡ map f (held_up_to sets r k))
    → ((r : ℕ) (d : GhostList) → r < length before → (get_or done r d).ghosts.items ≡ (get_or before r d).ghosts.items ++ cond (has x r) (g ∷ []) [])
    → (r : ℕ) (d : GhostList) → r < ranks → (get_or after r d).ghosts.items ≡ map f (held_up_to sets r (k + 1))
lists_more f sets k x g ranks was before done after below at ghost same put size had pushed r d l =
    let l' : r < length before = omega (arith, ap length same) in
    let more : (get_or done r d).ghosts.items ≡ (get_or was r d).ghosts.items ++ cond (has x r) (f (k + 1) ∷ []) [] =
    pushed r d l' ∙ (ap (λ (ls : List GhostList). (get_or ls r d).ghosts.items ++ cond (has x r) (g ∷ []) []) same
    ∙ ap (λ (v : Ghost). (get_or was r d).ghosts.items ++ cond (has x r) (v ∷ []) []) ghost) in
    ap (λ (ls : List GhostList). (get_or ls r d).ghosts.items) put
    ∙ list_more f sets r k x no_ranks (get_or was r d).ghosts.items (get_or done r d).ghosts.items below at (had r d l) more

-- the ghosts of the rank r once all of the set but the rest have theirs
abbrev pub ghosts_then : RankSet → RankSet → Ghost → List GhostList → ℕ → GhostList → List Ghost
ghosts_then set rest g lists r d = (get_or lists r d).ghosts.items ++ cond (has set r && not (has rest r)) (g ∷ []) []

pub none_pushed : (set : RankSet) (g : Ghost) (lists : List GhostList) (r : ℕ) (d : GhostList) → (get_or lists r d).ghosts.items ≡ ghosts_then set set g lists r d
none_pushed set g lists r d =
    sym (ap (λ (b : Bool). (get_or lists r d).ghosts.items ++ cond b (g ∷ []) []) (and_not_itself (has set r)) ∙ append-nil (get_or lists r d).ghosts.items)

pub all_pushed : (set rest : RankSet) (g : Ghost) (old : List GhostList) (r : ℕ) (d : GhostList) (ghosts : List Ghost) → has rest r ≡ false → ghosts ≡ ghosts_then set rest g old r d
    → ghosts ≡ (get_or old r d).ghosts.items ++ cond (has set r) (g ∷ []) []
all_pushed set rest g old r d ghosts gone had = had ∙ ap (λ (b : Bool). (get_or old r d).ghosts.items ++ cond b (g ∷ []) []) (and_not (has set r) (has rest r) gone)

-- a rank that is left has its ghosts of before
waits : (set rest rest' : RankSet) (q : ℕ) (g : Ghost) (old : List GhostList) (d : GhostList) → IsTaken q rest rest' → ghosts_then set rest g old q d ≡ (get_or old q d).ghosts.items
waits set rest rest' q g old d h =
    ap (λ (b : Bool). (get_or old q d).ghosts.items ++ cond (has set q && not b) (g ∷ []) []) h.taken
    ∙ (ap (λ (b : Bool). (get_or old q d).ghosts.items ++ cond b (g ∷ []) []) (and_not_true (has set q)) ∙ append-nil (get_or old q d).ghosts.items)

pub one_pushed : (set rest rest' : RankSet) (q : ℕ) (g : Ghost) (old lists : List GhostList) (x : GhostList) → IsTaken q rest rest' → q < length lists → has set q ≡ true
    → ((d : GhostList) → x.ghosts.items ≡ (get_or lists q d).ghosts.items ++ g ∷ [])
    → ((r : ℕ) (d : GhostList) → r < length old → (get_or lists r d).ghosts.items ≡ ghosts_then set rest g old r d)
    → (r : ℕ) (d : GhostList) → r < length old → (get_or (slice_set lists q x) r d).ghosts.items ≡ ghosts_then set rest' g old r d
one_pushed set rest rest' q g old lists x h below member put had r d l = elim (cases_eq r q) [
  | inl same ↦
      let at = waits set rest rest' q g old d h in
      let now : ghosts_then set rest' g old q d ≡ (get_or old q d).ghosts.items ++ g ∷ [] =
      ap (λ (b : Bool). (get_or old q d).ghosts.items ++ cond (has set q && not b) (g ∷ []) []) (taken_gone q rest rest' h)
      ∙ ap (λ (b : Bool). (get_or old q d).ghosts.items ++ cond (b && true) (g ∷ []) []) member in
      subst (λ (i : ℕ). (get_or (slice_set lists q x) i d).ghosts.items ≡ ghosts_then set rest' g old i d) (sym same)
      (ap (λ (y : GhostList). y.ghosts.items) (get_or-set_same lists q x d below)
      ∙ (put d ∙ (ap (λ gs. gs ++ g ∷ []) (had q d (subst (λ (i : ℕ). i < length old) same l) ∙ at) ∙ sym now)))
  | inr other ↦
      ap (λ (y : GhostList). y.ghosts.items) (get_or-set_other lists q r x d other)
      ∙ (had r d l ∙ ap (λ (b : Bool). (get_or old r d).ghosts.items ++ cond (has set r && not b) (g ∷ []) []) (sym (others_stay q r rest rest' h other)))
]

abbrev pub room_of : List GhostList → ℕ → GhostList → ℕ
room_of lists r d = vec_capacity (get_or lists r d).ghosts

-- a rank that is left has room
pub room_left : (set rest rest' : RankSet) (q : ℕ) (g : Ghost) (old lists : List GhostList) (d : GhostList) → IsTaken q rest rest' → q < length old → has set q ≡ true
    → ((r : ℕ) (e : GhostList) → r < length old → has set r ≡ true → length (get_or old r e).ghosts.items < room_of old r e)
    → ((r : ℕ) (e : GhostList) → r < length old → (get_or lists r e).ghosts.items ≡ ghosts_then set rest g old r e)
    → ((r : ℕ) (e : GhostList) → r < length old → room_of lists r e ≡ room_of old r e)
    → length (get_or lists q d).ghosts.items < room_of lists q d
room_left set rest rest' q g old lists d h below member room had same =
    let size : length (get_or lists q d).ghosts.items ≡ length (get_or old q d).ghosts.items = ap length (had q d below ∙ waits set rest rest' q g old d h) in
    omega (arith, size, room q d below member, same q d below)

pub room_stays : (q : ℕ) (old lists : List GhostList) (x : GhostList) → q < length lists → ((d : GhostList) → vec_capacity x.ghosts ≡ room_of lists q d)
    → ((r : ℕ) (d : GhostList) → r < length old → room_of lists r d ≡ room_of old r d)
    → (r : ℕ) (d : GhostList) → r < length old → room_of (slice_set lists q x) r d ≡ room_of old r d
room_stays q old lists x below put same r d l = elim (cases_eq r q) [
  | inl is ↦
      subst (λ (i : ℕ). room_of (slice_set lists q x) i d ≡ room_of old i d) (sym is)
      (ap (λ (y : GhostList). vec_capacity y.ghosts) (get_or-set_same lists q x d below) ∙ (put d ∙ same q d (subst (λ (i : ℕ). i < length old) is l)))
  | inr other ↦ ap (λ (y : GhostList). vec_capacity y.ghosts) (get_or-set_other lists q r x d other) ∙ same r d l
]

-- there is room for the ghosts that come, as the room is for all of them
pub room_for_next : (f : ℕ → Ghost) (sets : List RankSet) (k ranks : ℕ) (was before : List GhostList) → k < length sets → before ≡ was → length was ≡ ranks
    → ((r : ℕ) (d : GhostList) → r < ranks → (get_or was r d).ghosts.items ≡ map f (held_up_to sets r k))
    → ((r : ℕ) (d : GhostList) → r < ranks → room_of was r d ≡ length (held_up_to sets r (length sets)))
    → (r : ℕ) (d : GhostList) → r < length before → has (get_or sets k no_ranks) r ≡ true → length (get_or before r d).ghosts.items < room_of before r d
room_for_next f sets k ranks was before below same size had room r d l member =
    let l' : r < ranks = omega (arith, ap length same, size) in
    let count : length (get_or before r d).ghosts.items ≡ length (held_up_to sets r k) =
    ap (λ (ls : List GhostList). length (get_or ls r d).ghosts.items) same ∙ (ap length (had r d l') ∙ length-map (held_up_to sets r k) f) in
    let next = held_next sets r k ∙ ap (λ (b : Bool). length (held_up_to sets r k) + (if b then 1 else 0)) member in
    let whole : k + 1 + (length sets - (k + 1)) ≡ length sets = omega arith in
    let most = kept_mono (λ v. has (ranks_holding sets v) r) (k + 1) (length sets - (k + 1)) in
    omega (arith, count, next, most, ap (λ (n : ℕ). length (held_up_to sets r n)) whole, ap (λ (ls : List GhostList). room_of ls r d) same, room r d l')

pub rooms_more : (was before done after : List GhostList) (ranks : ℕ) (need : ℕ → ℕ) → before ≡ was → after ≡ done → length was ≡ ranks
    → ((r : ℕ) (d : GhostList) → r < ranks → room_of was r d ≡ need r)
    → ((r : ℕ) (d : GhostList) → r < length before → room_of done r d ≡ room_of before r d)
    → (r : ℕ) (d : GhostList) → r < ranks → room_of after r d ≡ need r
rooms_more was before done after ranks need same put size had stays r d l =
    ap (λ (ls : List GhostList). room_of ls r d) put ∙ (stays r d (omega (arith, ap length same, size)) ∙ (ap (λ (ls : List GhostList). room_of ls r d) same ∙ had r d l))
