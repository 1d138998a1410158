-- The winner of a label: the least key of an edge that leaves it. Each rank has the keys of its own arcs; the label's
-- reducer takes the least of all ranks' keys, and sends it to every rank.
-- Source: Borůvka (1926); Dehne and Götz, Practical parallel algorithms for minimum spanning trees (1998).
use Rattle.std.specs.Prelude.{◌≡◌, ◌≢◌, ◌==◌, ◌&&◌, not, ℕ, ◌+◌, ◌-◌, ◌*◌, ◌/◌, ◌%◌, ◌<◌, Bool, Option, Some, None, List, [], ◌∷◌, ◌++◌, min, nat_lt, filter, map, slice_index_or, if◌then◌else◌}
use Rattle.pg_dist.specs.Blocks.{count_of, first_of, owner_of}
use Rattle.pg_group.specs.declared.messages.Body.{Body}
use Rattle.pg_group.specs.Rounds.{items_of_round}
use Rattle.pg_boruvka.specs.declared.TheConstants.{NO_KEY}
use Rattle.pg_boruvka.specs.declared.messages.Message.{Message}
use Rattle.pg_boruvka.specs.declared.messages.Message.TheVariants.{Piece as Keys, Hook as Hooked}
use Rattle.pg_boruvka.specs.Parts.{LocalArc, Part}

-- The arc leads from label l to another.
abbrev pub leaves : (ℕ → ℕ) → ℕ → LocalArc → Bool
leaves label l a = label a.from == l && not (label a.to == l)

abbrev pub lesser_arc : LocalArc → Option LocalArc → LocalArc
lesser_arc a None = a
lesser_arc a (Some b) = if nat_lt b.key a.key then b else a

-- The first of the arcs with the least key.
abbrev pub least_arc : List LocalArc → Option LocalArc
least_arc [] = None
least_arc (a ∷ arcs) = Some (lesser_arc a (least_arc arcs))

-- Of a rank's own arcs the least that leaves the label.
abbrev pub best_arc : Part → (ℕ → ℕ) → ℕ → Option LocalArc
best_arc part label l = least_arc (filter (leaves label l) part.arcs)

abbrev pub key_of : Option LocalArc → ℕ
key_of None = NO_KEY
key_of (Some a) = a.key

abbrev pub own_key : Part → (ℕ → ℕ) → ℕ → ℕ
own_key part label l = key_of (best_arc part label l)

abbrev pub least : List ℕ → ℕ
least [] = NO_KEY
least (key ∷ keys) = min key (least keys)

-- The items of a round of all lists by rank.
abbrev pub items_in : ℕ → List (List (Body Message)) → List Message
items_in k [] = []
items_in k (list ∷ lists) = items_of_round k list ++ items_in k lists

-- The key that a message gives for the label.
abbrev pub given_key : ℕ → Message → ℕ
given_key l (Keys piece) = if nat_lt l piece.base then NO_KEY else slice_index_or piece.keys (l - piece.base) NO_KEY
given_key l (Hooked hook) = NO_KEY

abbrev pub given_keys : ℕ → List Message → List ℕ
given_keys l messages = map (given_key l) messages

-- The labels 1 to n are divided among the ranks as blocks: a rank's first label, and how many it has.
abbrev pub first_label : Part → ℕ → ℕ
first_label part r = first_of (part.n / part.ranks) (part.n % part.ranks) r

abbrev pub labels_of : Part → ℕ → ℕ
labels_of part r = count_of (part.n / part.ranks) (part.n % part.ranks) r

-- The rank to which a label belongs.
abbrev pub reducer : Part → ℕ → ℕ
reducer part l = owner_of (part.n / part.ranks) (part.n % part.ranks) l

-- The winner of a label in a phase with these labels. Phase p has the rounds 3p, 3p + 1 and 3p + 2.
abbrev pub winner : Part → List (List (Body Message)) → (ℕ → ℕ) → ℕ → ℕ → ℕ
winner part handled label p l = if reducer part l == part.rank
    then min (own_key part label l) (least (given_keys l (items_in (3 * p) handled)))
    else least (given_keys l (items_in (3 * p + 1) handled))

-- The keys of eight labels from the base on, of those before the past one.
abbrev pub entry : (ℕ → ℕ) → ℕ → ℕ → ℕ
entry key past l = if nat_lt l past then key l else NO_KEY

abbrev pub piece_from : (ℕ → ℕ) → ℕ → ℕ → Message
piece_from key past base = Keys (record {
  base = base;
  keys = entry key past base ∷ entry key past (base + 1) ∷ entry key past (base + 2) ∷ entry key past (base + 3)
      ∷ entry key past (base + 4) ∷ entry key past (base + 5) ∷ entry key past (base + 6) ∷ entry key past (base + 7) ∷ [];
})

-- The labels from the first on are cut into pieces of eight, and this is the piece of a label that has a key.
pub record IsPieceOf (key : ℕ → ℕ) (first count : ℕ) (m : Message) : Type 0 where
  pub offset : ℕ
  pub below : offset < count
  pub used : key (first + offset) ≢ NO_KEY
  pub is : m ≡ piece_from key (first + count) (first + offset / 8 * 8)
