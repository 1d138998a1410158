-- The pass over a rank's arcs, arc after arc.
use Rattle.std.proofs.Common.{◌≡◌, ◌≢◌, ◌==◌, not, ◌⊎◌, ℕ, ◌+◌, ◌%◌, ◌<◌, ◌≤◌, Bool, true, false, cond, List, [], ◌∷◌, ◌++◌, length, map, get_or, set, take, refl, sym, ◌∙◌, ap, subst, inl, inr, ⊎_elim, arith, Option, Some, None, All, Contains}
use Rattle.std.specs.Prelude.{min, nat_lt, filter, slice_index}
use Rattle.std.proofs.lemmas.Bool.{cases_eq, cases_lt, eq-eqb, ne_eqb, lt-ltb, le-ltb, cond-true, cond-false, and_left, and_right, false≢true}
use Rattle.std.proofs.lemmas.List.{append-nil, get_or-set_same, get_or-set_other, length-set, get_or_default, map_more, get_or-drop}
use Rattle.std.proofs.lemmas.List.Elements.{filter-append, All-get_or, All-contains, All-set, All-map, All-filter}
use Rattle.std.proofs.lemmas.Nat.{mod-mul-add}
use Rattle.pg_base.specs.declared.TheConstants.{MAX_EDGES}
use Rattle.pg_base.proofs.Members.{Contains-filter}
use Rattle.pg_boruvka.specs.declared.TheConstants.{NO_KEY}
use Rattle.pg_boruvka.specs.declared.arcs.DenseArc.{DenseArc}
use Rattle.pg_boruvka.specs.Parts.{LocalArc}
use Rattle.pg_boruvka.specs.Winners.{leaves, lesser_arc, least_arc, key_of}
use Rattle.pg_boruvka.proofs.Leasts.{IsLeastArc, least_arc_is}
use Rattle.pg_boruvka.proofs.Items.{member_of_map}
use Rattle.pg_boruvka.proofs.MovedInPlace.{IsMovedInPlace, moved_past, moved_to_front}
use Rattle.pg_boruvka.specs.Arcs.{local, locals, relabelled, is_apart, IsInTables, AreLeasts, IsOfEdge}

-- The least arc when another comes after the others.
abbrev pub later_arc : Option LocalArc → LocalArc → LocalArc
later_arc None a = a
later_arc (Some b) a = cond (nat_lt a.key b.key) a b

lesser_some : (x a b : LocalArc) → lesser_arc x (Some (later_arc (Some b) a)) ≡ later_arc (Some (lesser_arc x (Some b))) a
lesser_some x a b = by_cases (cases_lt a.key b.key) (cases_lt b.key x.key) (cases_lt a.key x.key) where
  by_cases : (a.key < b.key) ⊎ (b.key ≤ a.key) → (b.key < x.key) ⊎ (x.key ≤ b.key) → (a.key < x.key) ⊎ (x.key ≤ a.key)
      → lesser_arc x (Some (later_arc (Some b) a)) ≡ later_arc (Some (lesser_arc x (Some b))) a
  by_cases (inl ab) (inl bx) (inl ax) = let e = lt-ltb a.key b.key ab in let f = lt-ltb b.key x.key bx in let g = lt-ltb a.key x.key ax in simp (e, f, g)
  by_cases (inl ab) (inl bx) (inr xa) = absurd (omega arith)
  by_cases (inl ab) (inr xb) (inl ax) = let e = lt-ltb a.key b.key ab in let f = le-ltb b.key x.key xb in simp (e, f)
  by_cases (inl ab) (inr xb) (inr xa) = let e = lt-ltb a.key b.key ab in let f = le-ltb b.key x.key xb in simp (e, f)
  by_cases (inr ba) (inl bx) (inl ax) = let e = le-ltb a.key b.key ba in let f = lt-ltb b.key x.key bx in simp (e, f)
  by_cases (inr ba) (inl bx) (inr xa) = let e = le-ltb a.key b.key ba in let f = lt-ltb b.key x.key bx in simp (e, f)
  by_cases (inr ba) (inr xb) (inl ax) = absurd (omega arith)
  by_cases (inr ba) (inr xb) (inr xa) = let e = le-ltb a.key b.key ba in let f = le-ltb b.key x.key xb in let g = le-ltb a.key x.key xa in simp (e, f, g)

lesser_later : (x a : LocalArc) (o : Option LocalArc) → lesser_arc x (Some (later_arc o a)) ≡ later_arc (Some (lesser_arc x o)) a
lesser_later x a None = refl
lesser_later x a (Some b) = lesser_some x a b

least_push : (arcs : List LocalArc) (a : LocalArc) → least_arc (arcs ++ a ∷ []) ≡ Some (later_arc (least_arc arcs) a)
least_push [] a = refl
least_push (x ∷ arcs) a = ap (λ (o : Option LocalArc). Some (lesser_arc x o)) (least_push arcs a) ∙ ap (λ (y : LocalArc). Some y) (lesser_later x a (least_arc arcs))

-- What is noted of a label whose least arc is this.
pub record IsNotedOf (label : ℕ → ℕ) (o : Option LocalArc) (key across : ℕ) : Type 0 where
  pub key_is : key ≡ key_of o
  pub leads : (a : LocalArc) → o ≡ Some a → across ≡ label a.to
  pub edge : (a : LocalArc) → o ≡ Some a → key % MAX_EDGES ≡ a.edge

-- An arc's key is less than none, and tells the edge.
pub record IsKeyed (a : LocalArc) : Type 0 where
  pub small : a.key < NO_KEY
  pub edge : a.key % MAX_EDGES ≡ a.edge

noted_first : (label : ℕ → ℕ) (a : LocalArc) → IsKeyed a → IsNotedOf label (Some a) a.key (label a.to)
noted_first label a keyed = record {
  key_is = refl;
  leads = λ b same. let e : a ≡ b = cc in ap (λ (x : LocalArc). label x.to) e;
  edge = λ b same. let e : a ≡ b = cc in keyed.edge ∙ ap (λ (x : LocalArc). x.edge) e;
}

noted_lesser : (label : ℕ → ℕ) (a : LocalArc) (key across : ℕ) → IsKeyed a → a.key < key
    → IsNotedOf label (Some a) (min key a.key) (cond (nat_lt a.key key) (label a.to) across)
noted_lesser label a key across keyed less =
    let low : a.key ≡ min key a.key = omega arith in
    let to : label a.to ≡ cond (nat_lt a.key key) (label a.to) across = sym (cond-true (nat_lt a.key key) (label a.to) across (lt-ltb a.key key less)) in
    subst (λ (t : ℕ). IsNotedOf label (Some a) (min key a.key) t) to (subst (λ (k : ℕ). IsNotedOf label (Some a) k (label a.to)) low (noted_first label a keyed))

noted_as_before : (label : ℕ → ℕ) (a b : LocalArc) (key across : ℕ) → key ≤ a.key → IsNotedOf label (Some b) key across
    → IsNotedOf label (Some b) (min key a.key) (cond (nat_lt a.key key) (label a.to) across)
noted_as_before label a b key across more noted =
    let low : key ≡ min key a.key = omega arith in
    let to : across ≡ cond (nat_lt a.key key) (label a.to) across = sym (cond-false (nat_lt a.key key) (label a.to) across (le-ltb a.key key more)) in
    subst (λ (t : ℕ). IsNotedOf label (Some b) (min key a.key) t) to (subst (λ (k : ℕ). IsNotedOf label (Some b) k across) low noted)

noted_later : (label : ℕ → ℕ) (a : LocalArc) (o : Option LocalArc) (key across : ℕ) → IsKeyed a → IsNotedOf label o key across
    → IsNotedOf label (Some (later_arc o a)) (min key a.key) (cond (nat_lt a.key key) (label a.to) across)
noted_later label a None key across keyed noted = noted_lesser label a key across keyed (omega (arith, noted.key_is, keyed.small))
noted_later label a (Some b) key across keyed noted = ⊎_elim
    (λ less. subst (λ (x : LocalArc). IsNotedOf label (Some x) (min key a.key) (cond (nat_lt a.key key) (label a.to) across))
    (sym (cond-true (nat_lt a.key b.key) a b (lt-ltb a.key b.key less)))
    (noted_lesser label a key across keyed (omega (arith, noted.key_is))))
    (λ more. subst (λ (x : LocalArc). IsNotedOf label (Some x) (min key a.key) (cond (nat_lt a.key key) (label a.to) across))
    (sym (cond-false (nat_lt a.key b.key) a b (le-ltb a.key b.key more)))
    (noted_as_before label a b key across (omega (arith, noted.key_is)) noted))
    (cases_lt a.key b.key)

-- Which label's least arc another arc changes.
apart_ends : (label : ℕ → ℕ) (a : LocalArc) → is_apart label a ≡ true → label a.to ≢ label a.from
apart_ends label a apart same =
    let e = eq-eqb (label a.from) (label a.to) (sym same) in
    false≢true (sym (ap not e) ∙ apart)

leaves_own : (label : ℕ → ℕ) (a : LocalArc) → is_apart label a ≡ true → leaves label (label a.from) a ≡ true
leaves_own label a apart =
    let e = eq-eqb (label a.from) (label a.from) refl in
    let f = ne_eqb (label a.to) (label a.from) (apart_ends label a apart) in
    simp (e, f)

leaves_else : (label : ℕ → ℕ) (l : ℕ) (a : LocalArc) → label a.from ≢ l → leaves label l a ≡ false
leaves_else label l a other = and_left (label a.from == l) (not (label a.to == l)) (ne_eqb (label a.from) l other)

leaves_none : (label : ℕ → ℕ) (l : ℕ) (a : LocalArc) → is_apart label a ≡ false → leaves label l a ≡ false
leaves_none label l a within = ⊎_elim
    (λ same. and_right (label a.from == l) (not (label a.to == l)) (ap not (eq-eqb (label a.to) l (sym both ∙ same))))
    (λ other. leaves_else label l a other)
    (cases_eq (label a.from) l) where
      both : label a.from ≡ label a.to
      both = ⊎_elim (λ same. same) (λ other. absurd (false≢true (sym within ∙ ap not (ne_eqb (label a.from) (label a.to) other)))) (cases_eq (label a.from) (label a.to))

kept_push : (p : LocalArc → Bool) (arcs : List LocalArc) (a : LocalArc) → p a ≡ true → filter p (arcs ++ a ∷ []) ≡ filter p arcs ++ a ∷ []
kept_push p arcs a passes = filter-append p arcs (a ∷ []) ∙ ap (λ (xs : List LocalArc). filter p arcs ++ xs) (cond-true (p a) (a ∷ []) [] passes)

left_push : (p : LocalArc → Bool) (arcs : List LocalArc) (a : LocalArc) → p a ≡ false → filter p (arcs ++ a ∷ []) ≡ filter p arcs
left_push p arcs a fails = filter-append p arcs (a ∷ []) ∙ (ap (λ (xs : List LocalArc). filter p arcs ++ xs) (cond-false (p a) (a ∷ []) [] fails) ∙ append-nil (filter p arcs))

abbrev least_of : (ℕ → ℕ) → ℕ → List LocalArc → Option LocalArc
least_of label l arcs = least_arc (filter (leaves label l) arcs)

noted_at : (arcs : List LocalArc) (label : ℕ → ℕ) (keys targets : List ℕ) → AreLeasts arcs label keys targets → (l : ℕ) → l < length keys
    → IsNotedOf label (least_of label l arcs) (slice_index keys l) (slice_index targets l)
noted_at arcs label keys targets are l h = record { key_is = are.key l h; leads = λ a is. are.across l a h is; edge = λ a is. are.edge l a h is }

leasts_from : (arcs : List LocalArc) (label : ℕ → ℕ) (keys targets : List ℕ)
    → ((l : ℕ) → l < length keys → IsNotedOf label (least_of label l arcs) (slice_index keys l) (slice_index targets l)) → AreLeasts arcs label keys targets
leasts_from arcs label keys targets at = record {
  key = λ l h. (at l h).key_is;
  across = λ l a h is. (at l h).leads a is;
  edge = λ l a h is. (at l h).edge a is;
}

pub leasts_of_none : (label : ℕ → ℕ) (keys targets : List ℕ) → ((l : ℕ) → l < length keys → slice_index keys l ≡ NO_KEY) → AreLeasts [] label keys targets
leasts_of_none label keys targets none = record {
  key = none;
  across = λ l a h is. absurd (not_some a is);
  edge = λ l a h is. absurd (not_some a is);
} where
  not_some : (a : LocalArc) → None ≡ Some a → ⊥
  not_some a is = cc

pub leasts_within : (arcs : List LocalArc) (label : ℕ → ℕ) (keys targets : List ℕ) (a : LocalArc) → AreLeasts arcs label keys targets → is_apart label a ≡ false
    → AreLeasts (arcs ++ a ∷ []) label keys targets
leasts_within arcs label keys targets a are within = leasts_from (arcs ++ a ∷ []) label keys targets (λ l h.
    subst (λ (xs : List LocalArc). IsNotedOf label (least_arc xs) (slice_index keys l) (slice_index targets l))
    (sym (left_push (leaves label l) arcs a (leaves_none label l a within)))
    (noted_at arcs label keys targets are l h))

-- An entry that was written under a condition.
at_written : (b : Bool) (xs : List ℕ) (i x : ℕ) → i < length xs → slice_index (cond b (set xs i x) xs) i ≡ cond b x (slice_index xs i)
at_written true xs i x h = get_or-set_same xs i x 0 h
at_written false xs i x h = refl

beside_written : (b : Bool) (xs : List ℕ) (i l x : ℕ) → l ≢ i → slice_index (cond b (set xs i x) xs) l ≡ slice_index xs l
beside_written true xs i l x other = get_or-set_other xs i l x 0 other
beside_written false xs i l x other = refl

module _ (arcs : List LocalArc) (label : ℕ → ℕ) (keys targets : List ℕ) (a : LocalArc) where
  abbrev from : ℕ
  from = label a.from

  abbrev key_then : ℕ
  key_then = slice_index keys from

  abbrev keys_then : List ℕ
  keys_then = set keys from (min key_then a.key)

  abbrev targets_then : List ℕ
  targets_then = cond (nat_lt a.key key_then) (set targets from (label a.to)) targets

  own_noted : AreLeasts arcs label keys targets → from < length keys → from < length targets → is_apart label a ≡ true → IsKeyed a
      → IsNotedOf label (least_of label from (arcs ++ a ∷ [])) (slice_index keys_then from) (slice_index targets_then from)
  own_noted are within also apart keyed =
      let o : Option LocalArc = least_of label from arcs in
      let list : filter (leaves label from) (arcs ++ a ∷ []) ≡ filter (leaves label from) arcs ++ a ∷ [] = kept_push (leaves label from) arcs a (leaves_own label a apart) in
      let least : least_of label from (arcs ++ a ∷ []) ≡ Some (later_arc o a) = ap (λ (xs : List LocalArc). least_arc xs) list ∙ least_push (filter (leaves label from) arcs) a in
      let key : slice_index keys_then from ≡ min key_then a.key = get_or-set_same keys from (min key_then a.key) 0 within in
      let target : slice_index targets_then from ≡ cond (nat_lt a.key key_then) (label a.to) (slice_index targets from) =
      at_written (nat_lt a.key key_then) targets from (label a.to) also in
      subst (λ (x : Option LocalArc). IsNotedOf label x (slice_index keys_then from) (slice_index targets_then from)) (sym least)
      (subst (λ (k : ℕ). IsNotedOf label (Some (later_arc o a)) k (slice_index targets_then from)) (sym key)
      (subst (λ (t : ℕ). IsNotedOf label (Some (later_arc o a)) (min key_then a.key) t) (sym target)
      (noted_later label a o key_then (slice_index targets from) keyed (noted_at arcs label keys targets are from within))))

  other_noted : AreLeasts arcs label keys targets → (l : ℕ) → l < length keys → l ≢ from
      → IsNotedOf label (least_of label l (arcs ++ a ∷ [])) (slice_index keys_then l) (slice_index targets_then l)
  other_noted are l within other =
      let list : filter (leaves label l) (arcs ++ a ∷ []) ≡ filter (leaves label l) arcs = left_push (leaves label l) arcs a (leaves_else label l a (λ e. other (sym e))) in
      let key : slice_index keys_then l ≡ slice_index keys l = get_or-set_other keys from l (min key_then a.key) 0 other in
      let target : slice_index targets_then l ≡ slice_index targets l = beside_written (nat_lt a.key key_then) targets from l (label a.to) other in
      subst (λ (xs : List LocalArc). IsNotedOf label (least_arc xs) (slice_index keys_then l) (slice_index targets_then l)) (sym list)
      (subst (λ (k : ℕ). IsNotedOf label (least_of label l arcs) k (slice_index targets_then l)) (sym key)
      (subst (λ (t : ℕ). IsNotedOf label (least_of label l arcs) (slice_index keys l) t) (sym target)
      (noted_at arcs label keys targets are l within)))

  pub leasts_apart : AreLeasts arcs label keys targets → from < length keys → from < length targets → is_apart label a ≡ true → IsKeyed a
      → AreLeasts (arcs ++ a ∷ []) label keys_then targets_then
  leasts_apart are within also apart keyed = leasts_from (arcs ++ a ∷ []) label keys_then targets_then (λ l h.
      let short : l < length keys = omega (arith, length-set keys from (min key_then a.key)) in
      ⊎_elim
      (λ same. subst (λ (x : ℕ). IsNotedOf label (least_of label x (arcs ++ a ∷ [])) (slice_index keys_then x) (slice_index targets_then x)) (sym same)
      (own_noted are within also apart keyed))
      (λ other. other_noted are l short other)
      (cases_eq l from))

-- The key of an arc in memory.
pub keyed_arc : (count : ℕ) (a : DenseArc) → IsInTables count MAX_EDGES a → (local a).key < NO_KEY → IsKeyed (local a)
keyed_arc count a in_tables small = record { small = small; edge = mod-mul-add a.weight MAX_EDGES a.edge in_tables.edge }

-- The arcs that the pass keeps, and as what.
abbrev pub apart : List ℕ → DenseArc → Bool
apart pointers a = is_apart (slice_index pointers) (local a)

abbrev pub moved : List ℕ → DenseArc → DenseArc
moved pointers a = record { from = slice_index pointers a.from; to = slice_index pointers a.to; weight = a.weight; edge = a.edge }

locals_step : (b : Bool) (x : DenseArc) (kept : List DenseArc) → locals (cond b (x ∷ kept) kept) ≡ cond b (local x ∷ locals kept) (locals kept)
locals_step true x kept = refl
locals_step false x kept = refl

locals_kept : (pointers : List ℕ) (arcs : List DenseArc) → locals (filter (apart pointers) arcs) ≡ filter (is_apart (slice_index pointers)) (locals arcs)
locals_kept pointers [] = refl
locals_kept pointers (x ∷ arcs) = locals_step (apart pointers x) x (filter (apart pointers) arcs)
    ∙ ap (λ (xs : List LocalArc). cond (apart pointers x) (local x ∷ xs) xs) (locals_kept pointers arcs)

locals_moved : (pointers : List ℕ) (arcs : List DenseArc) → locals (map (moved pointers) arcs) ≡ map (relabelled (slice_index pointers)) (locals arcs)
locals_moved pointers [] = refl
locals_moved pointers (x ∷ arcs) = ap (λ (xs : List LocalArc). local (moved pointers x) ∷ xs) (locals_moved pointers arcs)

pub locals_gathered : (pointers : List ℕ) (arcs : List DenseArc) → locals (map (moved pointers) (filter (apart pointers) arcs))
    ≡ map (relabelled (slice_index pointers)) (filter (is_apart (slice_index pointers)) (locals arcs))
locals_gathered pointers arcs = locals_moved pointers (filter (apart pointers) arcs) ∙ ap (map (relabelled (slice_index pointers))) (locals_kept pointers arcs)

-- The labels to which arcs lead are below what all pointers are below.
pub ends_gathered : (pointers : List ℕ) (arcs : List DenseArc) (count edges : ℕ) → All (IsInTables (length pointers) MAX_EDGES) arcs → All (λ l. l < count) pointers
    → All (IsInTables count edges) arcs → All (IsInTables count edges) (map (moved pointers) (filter (apart pointers) arcs))
ends_gathered pointers arcs count edges within below all =
    All-map (IsInTables count edges) (moved pointers) (filter (apart pointers) arcs)
    (All-filter (apart pointers) (λ a. IsInTables count edges (moved pointers a)) arcs
    (λ i d h. record {
      from = below (get_or arcs i d).from 0 (within i d h).from;
      to = below (get_or arcs i d).to 0 (within i d h).to;
      edge = (all i d h).edge;
    }))

-- The arc at the place is as it was at first.
pub read_at_first : (p : DenseArc → Bool) (f : DenseArc → DenseArc) (xs ys : List DenseArc) (k i : ℕ) (d : DenseArc) → IsMovedInPlace p f xs ys k i → get_or ys i d ≡ get_or xs i d
read_at_first p f xs ys k i d is =
    let e : get_or ys (i + 0) d ≡ get_or xs (i + 0) d = sym (get_or-drop i ys 0 d) ∙ (ap (λ (zs : List DenseArc). get_or zs 0 d) is.rest ∙ get_or-drop i xs 0 d) in
    let none : i + 0 ≡ i = omega arith in
    subst (λ (j : ℕ). get_or ys j d ≡ get_or xs j d) none e

pub read_in_tables : (P : DenseArc → Type 0) (p : DenseArc → Bool) (f : DenseArc → DenseArc) (xs ys : List DenseArc) (k i : ℕ) (x : DenseArc) → IsMovedInPlace p f xs ys k i → i < length ys
    → x ≡ get_or ys i x → All P xs → P x
read_in_tables P p f xs ys k i x is within read all =
    let within_first : i < length xs = omega (arith, is.long) in
    subst P (sym (read ∙ read_at_first p f xs ys k i x is)) (All-get_or P xs i x within_first all)

pub locals_more : (p : DenseArc → Bool) (f : DenseArc → DenseArc) (xs ys : List DenseArc) (k i : ℕ) (x : DenseArc) → IsMovedInPlace p f xs ys k i → i < length ys → x ≡ get_or ys i x
    → locals (take (i + 1) xs) ≡ locals (take i xs) ++ local x ∷ []
locals_more p f xs ys k i x is within read =
    let same : get_or xs i x ≡ x = sym (read ∙ read_at_first p f xs ys k i x is) in
    map_more local xs i x (omega (arith, is.long)) ∙ ap (λ (a : DenseArc). locals (take i xs) ++ local a ∷ []) same

-- The edges of the keys.
edge_by : (label : ℕ → ℕ) (arcs : List LocalArc) (edges key across : ℕ) (o : Option LocalArc) → IsNotedOf label o key across
    → ((a : LocalArc) → o ≡ Some a → a.edge < edges) → IsOfEdge edges key
edge_by label arcs edges key across None noted within some = absurd (some noted.key_is)
edge_by label arcs edges key across (Some a) noted within some = omega (arith, noted.edge a refl, within a refl)

pub keys_of_edges : (arcs : List DenseArc) (label : ℕ → ℕ) (keys targets : List ℕ) (count edges : ℕ) → AreLeasts (locals arcs) label keys targets
    → All (IsInTables count edges) arcs → All (IsOfEdge edges) keys
keys_of_edges arcs label keys targets count edges are in_tables k d within =
    let noted = noted_at (locals arcs) label keys targets are k within in
    subst (IsOfEdge edges) (get_or_default keys k 0 d within)
    (edge_by label (locals arcs) edges (slice_index keys k) (slice_index targets k) (least_of label k (locals arcs)) noted (λ a is. among a is))
  where
    among : (a : LocalArc) → least_of label k (locals arcs) ≡ Some a → a.edge < edges
    among a is =
        let best = least_arc_is (filter (leaves label k) (locals arcs)) in
        let member : Contains (filter (leaves label k) (locals arcs)) a = (subst (IsLeastArc (filter (leaves label k) (locals arcs))) is best).0 in
        let held = (Contains-filter (leaves label k) (locals arcs) a member).0 in
        let found = member_of_map local arcs a held in
        let at : IsInTables count edges found.0 = All-contains (IsInTables count edges) arcs found.0 in_tables found.1 in
        subst (λ (x : LocalArc). x.edge < edges) found.2 at.edge

-- The labels to which arcs lead are below what all labels are below.
targets_below : (count : ℕ) (b : Bool) (across : List ℕ) (i to : ℕ) → to < count → All (λ l. l < count) across → All (λ l. l < count) (cond b (set across i to) across)
targets_below count true across i to below all = All-set (λ l. l < count) across i to below all
targets_below count false across i to below all = all

-- Of the arcs xs so many are passed, and so many of these kept, in the front of ys, between the labels to which their ends lead.
pub record IsGathered (pointers : List ℕ) (xs ys : List DenseArc) (keys across_before across : List ℕ) (kept passed : ℕ) : Type 0 where
  pub arcs : IsMovedInPlace (apart pointers) (moved pointers) xs ys kept passed
  pub leasts : AreLeasts (locals (take passed xs)) (slice_index pointers) keys across
  pub targets : (count : ℕ) → All (λ x. x < count) across_before → All (λ x. x < count) pointers → All (λ x. x < count) across

module _ (pointers : List ℕ) (xs ys : List DenseArc) (keys across_before across : List ℕ) (kept passed : ℕ) (x : DenseArc)
    (before : IsGathered pointers xs ys keys across_before across kept passed) (within : passed < length ys) (read : x ≡ get_or ys passed x) where
  pub gathered_within : slice_index pointers x.from ≡ slice_index pointers x.to → IsGathered pointers xs ys keys across_before across kept (passed + 1)
  gathered_within same =
      let fails : apart pointers x ≡ false = ap not (eq-eqb (slice_index pointers x.from) (slice_index pointers x.to) same) in
      record {
        arcs = moved_past before.arcs within fails read;
        leasts = subst (λ (list : List LocalArc). AreLeasts list (slice_index pointers) keys across)
            (sym (locals_more (apart pointers) (moved pointers) xs ys kept passed x before.arcs within read))
            (leasts_within (locals (take passed xs)) (slice_index pointers) keys across (local x) before.leasts fails);
        targets = before.targets;
      }

  abbrev source : ℕ
  source = slice_index pointers x.from

  pub gathered_apart : (key : ℕ) → source ≢ slice_index pointers x.to → key ≡ (local x).key → key < NO_KEY → IsInTables (length pointers) MAX_EDGES x
      → All (λ l. l < length pointers) pointers → length keys ≡ length pointers → length across ≡ length pointers
      → IsGathered pointers xs (set ys kept (moved pointers x)) (set keys source (min (slice_index keys source) key)) across_before
      (cond (nat_lt key (slice_index keys source)) (set across source (slice_index pointers x.to)) across) (kept + 1) (passed + 1)
  gathered_apart key differ is small in_tables below long also =
      let passes : apart pointers x ≡ true = ap not (ne_eqb source (slice_index pointers x.to) differ) in
      let short : source < length pointers = All-get_or (λ l. l < length pointers) pointers x.from 0 in_tables.from below in
      let keyed = keyed_arc (length pointers) x in_tables (omega (arith, is)) in
      rw is record {
        arcs = moved_to_front before.arcs within passes read;
        leasts = subst (λ (list : List LocalArc). AreLeasts list (slice_index pointers) (set keys source (min (slice_index keys source) (local x).key))
            (cond (nat_lt (local x).key (slice_index keys source)) (set across source (slice_index pointers x.to)) across))
            (sym (locals_more (apart pointers) (moved pointers) xs ys kept passed x before.arcs within read))
            (leasts_apart (locals (take passed xs)) (slice_index pointers) keys across (local x) before.leasts (omega arith) (omega arith) passes keyed);
        targets = λ count first all. targets_below count (nat_lt (local x).key (slice_index keys source)) across source (slice_index pointers x.to)
            (All-get_or (λ l. l < count) pointers x.to 0 in_tables.to all) (before.targets count first all);
      }
