-- The rule of a ring, and what an end knows after each step.
-- Word 0, the head, is how many messages were taken, and word 16, the tail, how many were sent, both modulo 2^64.
-- The message of place p lies in slot p modulo the number of slots.
use Rattle.std.specs.Prelude.{◌≡◌, ℕ, zero, suc, ◌+◌, ◌-◌, ◌%◌, ◌^◌, ◌<◌, ◌≤◌, ◌⊎◌, Bool, true, false, List, [], ◌∷◌, ◌++◌, length, slice_index_or, Option, Some, None}
use mathlib.Core.Option.{none, some}
use mathlib.Core.Option as maybe
use lib.ListN.{get_elem?}
use Rattle.atomic_table.specs.Table.{State, Me, Step, step}
use Rattle.pg_lane.specs.declared.rules.Knows.{Knows}

-- 0 for 0, and otherwise 1
abbrev pub one : ℕ → ℕ
one zero = 0
one (suc n) = 1

abbrev pub Homes : Type 0 → Type 0
Homes M = List (maybe.Option (Option M))

-- what a seat knows, and the slots that it has
abbrev pub Seated : Type 0 → Type 0
Seated M = Me (Option M) (Knows M)

module _ {M : Type 0} where
  abbrev pub knows : Bool → Bool → List M → ℕ → List M → Option M → ℕ → ℕ → Knows M
  knows writes reads sent room taken hand looks shown =
      record { writes = writes; reads = reads; sent = sent; room = room; taken = taken; hand = hand; looks = looks; shown = shown }

  abbrev pub listed : Option M → List M
  listed None = []
  listed (Some x) = x ∷ []

  abbrev pub held : Option M → ℕ
  held None = 0
  held (Some x) = 1

  -- the messages lie at home from the place `first` on
  abbrev pub Lies : ℕ → Homes M → ℕ → List M → Type 0
  Lies n homes first queue = (p : ℕ) (x : M) → get_elem? queue p ≡ some x → get_elem? homes ((first + p) % n) ≡ some (some (Some x))

  -- the slots of the places from `low` up to `high` are at home, whatever lies in them
  abbrev pub Clear : ℕ → Homes M → ℕ → ℕ → Type 0
  Clear n homes low high = (p : ℕ) → low ≤ p → p < high → (y : Option M) × (get_elem? homes (p % n) ≡ some (some y))

  -- what a view says of its end, which is the only one of its kind
  abbrev pub Fits : ℕ → ℕ → List M → ℕ → List M → Option M → ℕ → Knows M → Type 0
  Fits writer reader sent room taken hand id v =
      (v.writes ≡ true → (id ≡ writer) × (v.sent ≡ sent) × (v.room ≡ room) × (v.shown ≤ length taken))
      × (v.reads ≡ true → (id ≡ reader) × (v.taken ≡ taken) × (v.hand ≡ hand) × (v.shown ≤ length sent))

  -- The writer has the slot of the next place while it knows of room, and the reader that of the message in its hand
  pub record Ring (s : State (Option M) (Knows M)) : Type 0 where
    pub writer : ℕ
    pub reader : ℕ
    pub sent : List M
    pub room : ℕ
    pub taken : List M
    pub hand : Option M
    pub queue : List M
    pub in_order : sent ≡ taken ++ (listed hand ++ queue)
    pub within : length sent + room ≤ length taken + length s.homes
    pub some_slot : 1 ≤ length s.homes
    pub few_slots : length s.homes ≤ 1024
    pub wide : length s.words ≡ 17
    pub head_is : slice_index_or s.words 0 0 ≡ length taken % 2 ^ 64
    pub tail_is : slice_index_or s.words 16 0 ≡ length sent % 2 ^ 64
    pub lies : Lies (length s.homes) s.homes (length taken + held hand) queue
    pub clear : Clear (length s.homes) s.homes (length sent + one room) (length taken + length s.homes)
    pub known : (id : ℕ) (v : Knows M) → get_elem? s.views id ≡ some v → Fits writer reader sent room taken hand id v

  -- the slots that the writer holds, and those that the reader holds
  abbrev pub free_slot : ℕ → ℕ → Option M → List (ℕ × Option M)
  free_slot zero k y = []
  free_slot (suc r) k y = (k, y) ∷ []

  -- what lies in the slot that was taken last
  abbrev pub spare : List (ℕ × Option M) → Option M
  spare [] = None
  spare (x ∷ xs) = x.1

  abbrev pub full_slot : Option M → ℕ → List (ℕ × Option M)
  full_slot None k = []
  full_slot (Some x) k = (k, Some x) ∷ []

  -- The writer saw how many were taken, and has a slot if there is room
  abbrev pub saw_taken : Step (Option M) → Seated M → ℕ → Seated M → Type 0
  saw_taken st m found m' = (found ≡ m'.0.shown % 2 ^ 64)
      × (st ≡ step st.slots 0 0 0 none)
      × (m'.0.shown ≤ length m.0.sent)
      × (length m.0.sent + m'.0.room ≡ m'.0.shown + st.slots)
      × (m'.0 ≡ knows m.0.writes m.0.reads m.0.sent m'.0.room m.0.taken m.0.hand (m.0.looks + 1) m'.0.shown)
      × (m'.1 ≡ free_slot m'.0.room (length m.0.sent % st.slots) (spare m'.1))

  -- the message in the slot that was taken last
  abbrev pub loaded : List (ℕ × Option M) → List M
  loaded [] = []
  loaded (x ∷ xs) = listed x.1

  -- The message in the writer's slot was sent, and it has the next slot if it knows of room
  abbrev pub sends : Step (Option M) → Seated M → ℕ → Seated M → Type 0
  sends st m found m' = (m'.0 ≡ knows m.0.writes m.0.reads (m.0.sent ++ loaded m.1) (m.0.room - 1) m.0.taken m.0.hand m.0.looks m.0.shown)
      × (m'.1 ≡ free_slot (m.0.room - 1) ((length m.0.sent + 1) % st.slots) (spare m'.1))

  -- The reader saw how many were sent, and has the next message if there is one
  abbrev pub saw_sent : Step (Option M) → Seated M → ℕ → Seated M → Type 0
  saw_sent st m found m' = (found ≡ m'.0.shown % 2 ^ 64)
      × (st ≡ step st.slots 16 0 0 none)
      × (length m.0.taken ≤ m'.0.shown)
      × (m'.0.shown ≤ length m.0.taken + st.slots)
      × (held m'.0.hand ≡ one (m'.0.shown - length m.0.taken))
      × (m'.0 ≡ knows m.0.writes m.0.reads m.0.sent m.0.room m.0.taken m'.0.hand (m.0.looks + 1) m'.0.shown)
      × (m'.1 ≡ full_slot m'.0.hand (length m.0.taken % st.slots))

  -- The message in the reader's hand was taken, and it has the next one if it knows of one
  abbrev pub receives : Step (Option M) → Seated M → ℕ → Seated M → Type 0
  receives st m found m' = (m'.0 ≡ knows m.0.writes m.0.reads m.0.sent m.0.room (m.0.taken ++ listed m.0.hand) m'.0.hand m.0.looks m.0.shown)
      × (held m'.0.hand ≡ one (m.0.shown - (length m.0.taken + 1)))
      × (m'.1 ≡ full_slot m'.0.hand ((length m.0.taken + 1) % st.slots))

  -- The reader gave its slot back, with the message in it
  abbrev pub lets_go : Step (Option M) → Seated M → ℕ → Seated M → Type 0
  lets_go st m found m' = (m'.0 ≡ knows m.0.writes m.0.reads m.0.sent m.0.room m.0.taken None m.0.looks m.0.shown) × (m'.1 ≡ [])

  -- Both ends together know that what was sent is what was taken and then no more than the slots hold
  abbrev pub shows_rest : Step (Option M) → Seated M → ℕ → Seated M → Type 0
  shows_rest st m found m' = (m'.0 ≡ m.0) × (m'.1 ≡ m.1) × ((items : List M) × (m.0.sent ≡ m.0.taken ++ items) × (length items ≤ st.slots))

  -- A step says no more of the other end than what it saw. Either it is no look, and nothing that was seen changes, or
  -- it is a load of the other end's word: one more look, which shows the number found.
  abbrev pub TellsWhatItSaw : ℕ → (Step (Option M) → Seated M → ℕ → Seated M → Type 0) → Type 0
  TellsWhatItSaw other play = (st : Step (Option M)) (m : Seated M) (found : ℕ) (m' : Seated M) → play st m found m'
      → ((m'.0.looks ≡ m.0.looks) × (m'.0.shown ≡ m.0.shown))
      ⊎ ((st ≡ step st.slots other 0 0 none) × (m'.0.looks ≡ m.0.looks + 1) × (found ≡ m'.0.shown % 2 ^ 64))

  -- how a new view is split, and how two are joined
  abbrev pub first_view : Knows M
  first_view = knows true true [] 0 [] None 0 0

  abbrev pub writer_view : Knows M → Knows M
  writer_view v = knows true false v.sent v.room [] None 0 0

  abbrev pub reader_view : Knows M → Knows M
  reader_view v = knows false true [] 0 v.taken v.hand 0 0

  abbrev pub both_views : Knows M → Knows M → Knows M
  both_views v w = knows true true v.sent v.room w.taken w.hand 0 0

  abbrev pub spent_view : Knows M
  spent_view = knows false false [] 0 [] None 0 0
