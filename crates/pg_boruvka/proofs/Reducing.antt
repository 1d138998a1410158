-- The winner of a label at every rank is the least key of any rank's arcs that leave it.
use Rattle.std.proofs.Common.{◌≡◌, ◌≢◌, ◌==◌, ◌⊎◌, ℕ, ◌+◌, ◌-◌, ◌*◌, ◌/◌, ◌%◌, ◌<◌, ◌≤◌, List, refl, sym, ◌∙◌, ap, subst, inl, inr, ⊎_elim, arith, Contains}
use Rattle.std.specs.Prelude.{min}
use Rattle.std.proofs.Math.Nat.{div-add-mod}
use Rattle.std.proofs.lemmas.Nat.{mod_below}
use Rattle.std.proofs.lemmas.Bool.{cases_eq, cases_lt, eq-eqb, ne_eqb, cond-true, cond-false}
use Rattle.std.proofs.lemmas.List.Elements.{All-contains, Contains-get_or}
use Rattle.pg_base.specs.declared.TheConstants.{MAX_WEIGHT}
use Rattle.pg_base.specs.declared.edges.Edge.{Edge}
use Rattle.pg_base.specs.Graph.{Graph}
use Rattle.pg_dist.specs.Blocks.{count_of, first_of, owner_of, place_of}
use Rattle.pg_dist.specs.Sharing.{IsSharing}
use Rattle.pg_dist.specs.BlockLaws.{block_laws}
use Rattle.pg_group.specs.declared.messages.Body.{Body}
use Rattle.pg_group.specs.Ranked.{IsOther, list_at}
use Rattle.pg_group.specs.Rounds.{items_of_round}
use Rattle.pg_boruvka.specs.declared.TheConstants.{NO_KEY}
use Rattle.pg_boruvka.specs.declared.messages.Message.{Message}
use Rattle.pg_adj.specs.Division.{no_edge}
use Rattle.pg_adj.specs.Portions.{IsVertex}
use Rattle.pg_boruvka.specs.Parts.{LocalArc, Part, IsArc, edge_at}
use Rattle.pg_boruvka.specs.Winners.{own_key, winner, reducer, first_label, labels_of, least, given_key, given_keys, items_in, IsPieceOf, piece_from}
use Rattle.pg_boruvka.specs.Hooks.{label_in}
use Rattle.pg_boruvka.specs.LocalDense.{State, AreSent, IsPhase}
use Rattle.pg_boruvka.proofs.Leasts.{IsLeastOf, IsOwnKey, own_is_least, least_is_one, least_most, least_cases}
use Rattle.pg_boruvka.proofs.Pieces.{piece_gives, piece_has}
use Rattle.pg_boruvka.proofs.Items.{CameFrom, items_have, items_came, member_of_map, mapped_member, none_in}
use Rattle.pg_boruvka.proofs.Runs.{Kept}

-- The same pieces by the same keys and labels.
moved : (s : State) (k : ℕ) (list : List (Body Message)) (key key' : ℕ → ℕ) (first first' count count' : ℕ) → key ≡ key' → first ≡ first' → count ≡ count'
    → AreSent s k (IsPieceOf key first count) list → AreSent s k (IsPieceOf key' first' count') list
moved s k list key key' first first' count count' keys firsts counts are =
    subst (λ (x : ℕ). AreSent s k (IsPieceOf key' first' x) list) counts
    (subst (λ (x : ℕ). AreSent s k (IsPieceOf key' x count) list) firsts
    (subst (λ (f : ℕ → ℕ). AreSent s k (IsPieceOf f first count) list) keys are))

module _ (far : ℕ) (g : Graph) (ranks : ℕ) (parts : ℕ → Part) (states : ℕ → State) (handled promised : ℕ → List (List (Body Message))) (kept : Kept far g ranks parts states handled promised) where
  pub as_other : (r s : ℕ) → r < ranks → IsOther r ranks s → IsOther (parts r).rank (parts r).ranks s
  as_other r s h other = (omega (arith, other.0, kept.divided.group r h), λ same. other.1 (same ∙ kept.divided.rank r h))

  -- The blocks of the labels.
  abbrev pub home : ℕ → ℕ
  home l = owner_of (g.n / ranks) (g.n % ranks) l

  abbrev pub first_at : ℕ → ℕ
  first_at r = first_of (g.n / ranks) (g.n % ranks) r

  abbrev pub count_at : ℕ → ℕ
  count_at r = count_of (g.n / ranks) (g.n % ranks) r

  abbrev pub place_at : ℕ → ℕ
  place_at l = place_of (g.n / ranks) (g.n % ranks) l

  pub blocks : 0 < ranks → IsSharing (record { n = g.n; ranks = ranks; owner = home; local = place_at; count = count_at; global = λ r i. first_at r + i })
  blocks pos = block_laws g.n ranks (g.n / ranks) (g.n % ranks) kept.graph.vertices (sym (div-add-mod g.n ranks)) (mod_below g.n ranks pos)

  home_is : (r l : ℕ) → r < ranks → reducer (parts r) l ≡ home l
  home_is r l h =
      ap (λ (x : ℕ). owner_of (x / (parts r).ranks) (x % (parts r).ranks) l) (kept.divided.vertices r h)
      ∙ ap (λ (x : ℕ). owner_of (g.n / x) (g.n % x) l) (kept.divided.group r h)

  first_is : (r s : ℕ) → r < ranks → first_label (parts r) s ≡ first_at s
  first_is r s h =
      ap (λ (x : ℕ). first_of (x / (parts r).ranks) (x % (parts r).ranks) s) (kept.divided.vertices r h)
      ∙ ap (λ (x : ℕ). first_of (g.n / x) (g.n % x) s) (kept.divided.group r h)

  count_is : (r s : ℕ) → r < ranks → labels_of (parts r) s ≡ count_at s
  count_is r s h =
      ap (λ (x : ℕ). count_of (x / (parts r).ranks) (x % (parts r).ranks) s) (kept.divided.vertices r h)
      ∙ ap (λ (x : ℕ). count_of (g.n / x) (g.n % x) s) (kept.divided.group r h)

  -- A key of some rank's arc that leaves the label.
  pub record IsLeavingKey (label : ℕ → ℕ) (l x : ℕ) : Type 0 where
    pub rank : ℕ
    pub within : rank < ranks
    pub own : IsOwnKey (parts rank) label l x

  pub arc_is : (r : ℕ) (a : LocalArc) → r < ranks → Contains (parts r).arcs a → IsArc g a
  arc_is r a h c = All-contains (IsArc g) (parts r).arcs a (kept.divided.no_other r h) c

  pub key_is_small : (a : LocalArc) → IsArc g a → a.key < NO_KEY
  key_is_small a is =
      let e : Edge = edge_at g a.edge in
      let w : e.w ≤ MAX_WEIGHT = All-contains (λ (x : Edge). x.w ≤ MAX_WEIGHT) g.edges e kept.weights (Contains-get_or g.edges a.edge no_edge is.edge) in
      omega (arith, w, is.key, is.edge, kept.graph.size)

  pub leaving_is_small : (label : ℕ → ℕ) (l x : ℕ) → IsLeavingKey label l x → x < NO_KEY
  leaving_is_small label l x is =
      omega (arith, is.own.key, key_is_small is.own.arc (arc_is is.rank is.own.arc is.within is.own.from.among))

  -- A key that was sent reaches the one to whom it was sent.
  reaches : (r s k : ℕ) (key : ℕ → ℕ) (first count offset : ℕ) → r < ranks → IsOther r ranks s → k ≤ kept.last
      → AreSent (states r) k (IsPieceOf key first count) (list_at (promised r) s) → offset < count → key (first + offset) ≢ NO_KEY
      → least (given_keys (first + offset) (items_in k (handled s))) ≤ key (first + offset)
  reaches r s k key first count offset h other within are below used =
      let m : Message = piece_from key (first + count) (first + offset / 8 * 8) in
      let sent : Contains (items_of_round k (list_at (promised r) s)) m = are.all (omega (arith, kept.voted_is r s h other)) m (record { offset = offset; below = below; used = used; is = refl }) in
      let there : Contains (items_in k (handled s)) m = items_have k (handled s) r m (subst (λ (list : List (Body Message)). Contains (items_of_round k list) m) (sym (kept.taken r s h other)) sent) in
      omega (
        arith,
        least_most (given_keys (first + offset) (items_in k (handled s))) (given_key (first + offset) m) (mapped_member (given_key (first + offset)) (items_in k (handled s)) m there),
        piece_has key first count offset below,
      )

  -- A message of another rank.
  pub record Received (s k : ℕ) (m : Message) : Type 0 where
    pub rank : ℕ
    pub within : rank < ranks
    pub other : IsOther rank ranks s
    pub among : Contains (items_of_round k (list_at (promised rank) s)) m

  received_by : (s k : ℕ) (m : Message) → s < ranks → (c : CameFrom k (handled s) m) → (c.rank ≡ s) ⊎ (c.rank ≢ s) → Received s k m
  received_by s k m h c (inl same) =
      absurd (none_in (items_of_round k (list_at (handled s) c.rank)) m (ap (λ (r : ℕ). items_of_round k (list_at (handled s) r)) same ∙ ap (items_of_round k) (kept.own_handled s h)) c.among)
  received_by s k m h c (inr apart) =
      let within : c.rank < ranks = omega (arith, c.below, (kept.keeps s h).counted.from_each, kept.divided.group s h) in
      let other : IsOther c.rank ranks s = (h, λ e. apart (sym e)) in
      record {
        rank = c.rank;
        within = within;
        other = other;
        among = subst (λ (list : List (Body Message)). Contains (items_of_round k list) m) (kept.taken c.rank s within other) c.among;
      }

  pub received : (s k : ℕ) (m : Message) → s < ranks → Contains (items_in k (handled s)) m → Received s k m
  received s k m h among =
      let c = items_came k (handled s) m among in received_by s k m h c (cases_eq c.rank s)

  module _ (p : ℕ) (label : ℕ → ℕ) (same : (r : ℕ) → r < ranks → label_in far (parts r) (handled r) p ≡ label)
      (phases : (r : ℕ) → r < ranks → IsPhase far (parts r) (handled r) (promised r) (states r) p) (late : 3 * p + 1 ≤ kept.last) where
    pub up_sent : (r s : ℕ) → r < ranks → IsOther r ranks s → AreSent (states r) (3 * p) (IsPieceOf (own_key (parts r) label) (first_at s) (count_at s)) (list_at (promised r) s)
    up_sent r s h other =
        moved (states r) (3 * p) (list_at (promised r) s) (own_key (parts r) (label_in far (parts r) (handled r) p)) (own_key (parts r) label)
        (first_label (parts r) s) (first_at s) (labels_of (parts r) s) (count_at s) (ap (own_key (parts r)) (same r h)) (first_is r s h) (count_is r s h)
        ((phases r h).up s (as_other r s h other))

    pub down_sent : (r s : ℕ) → r < ranks → IsOther r ranks s → AreSent (states r) (3 * p + 1) (IsPieceOf (winner (parts r) (handled r) label p) (first_at r) (count_at r)) (list_at (promised r) s)
    down_sent r s h other =
        moved (states r) (3 * p + 1) (list_at (promised r) s) (winner (parts r) (handled r) (label_in far (parts r) (handled r) p) p) (winner (parts r) (handled r) label p)
        (first_label (parts r) (parts r).rank) (first_at r) (labels_of (parts r) (parts r).rank) (count_at r)
        (ap (λ (f : ℕ → ℕ). winner (parts r) (handled r) f p) (same r h))
        (first_is r (parts r).rank h ∙ ap first_at (kept.divided.rank r h))
        (count_is r (parts r).rank h ∙ ap count_at (kept.divided.rank r h))
        ((phases r h).down s (as_other r s h other))

    abbrev gathered : ℕ → ℕ → ℕ
    gathered s l = least (given_keys l (items_in (3 * p) (handled s)))

    abbrev told : ℕ → ℕ → ℕ
    told s l = least (given_keys l (items_in (3 * p + 1) (handled s)))

    winner_home : (s l : ℕ) → s < ranks → home l ≡ s → winner (parts s) (handled s) label p l ≡ min (own_key (parts s) label l) (gathered s l)
    winner_home s l h is =
        cond-true (reducer (parts s) l == (parts s).rank) (min (own_key (parts s) label l) (gathered s l)) (told s l)
        (eq-eqb (reducer (parts s) l) (parts s).rank (home_is s l h ∙ (is ∙ sym (kept.divided.rank s h))))

    winner_away : (s l : ℕ) → s < ranks → home l ≢ s → winner (parts s) (handled s) label p l ≡ told s l
    winner_away s l h apart =
        cond-false (reducer (parts s) l == (parts s).rank) (min (own_key (parts s) label l) (gathered s l)) (told s l)
        (ne_eqb (reducer (parts s) l) (parts s).rank (λ e. apart (sym (home_is s l h) ∙ (e ∙ kept.divided.rank s h))))

    own_key_least : (r l x : ℕ) → IsOwnKey (parts r) label l x → own_key (parts r) label l ≤ x
    own_key_least r l x is = (own_is_least (parts r) label l).lowest x is

    gathered_most : (r s l x : ℕ) → r < ranks → s < ranks → IsVertex g.n l → home l ≡ s → IsOwnKey (parts r) label l x → (r ≡ s) ⊎ (r ≢ s)
        → min (own_key (parts s) label l) (gathered s l) ≤ x
    gathered_most r s l x hr hs v is own (inl here) =
        let least_here : own_key (parts s) label l ≤ x = subst (λ (q : ℕ). own_key (parts q) label l ≤ x) here (own_key_least r l x own) in
        omega (arith, least_here)
    gathered_most r s l x hr hs v is own (inr apart) =
        let laws = blocks (omega (arith, hr)) in
        let other : IsOther r ranks s = (hs, λ e. apart (sym e)) in
        let low = own_key_least r l x own in
        let small = leaving_is_small label l x (record { rank = r; within = hr; own = own }) in
        let below : place_at l < count_at s = subst (λ (q : ℕ). place_at l < count_at q) is (laws.local_below l v.first v.last) in
        let at : first_at s + place_at l ≡ l = subst (λ (q : ℕ). first_at q + place_at l ≡ l) is (laws.global_of_local l v.first v.last) in
        let used : own_key (parts r) label (first_at s + place_at l) ≢ NO_KEY = λ e. omega (arith, low, small, sym (ap (own_key (parts r) label) at) ∙ e) in
        let there : gathered s (first_at s + place_at l) ≤ own_key (parts r) label (first_at s + place_at l) =
        reaches r s (3 * p) (own_key (parts r) label) (first_at s) (count_at s) (place_at l) hr other (omega arith) (up_sent r s hr other) below used in
        let here : gathered s l ≤ own_key (parts r) label l = subst (λ (q : ℕ). gathered s q ≤ own_key (parts r) label q) at there in
        omega (arith, here, low)

    leaving_from : (r l x : ℕ) → r < ranks → x ≡ own_key (parts r) label l → (x ≡ NO_KEY) ⊎ IsLeavingKey label l x
    leaving_from r l x h is = ⊎_elim
        (λ none. inl (is ∙ none))
        (λ own. inr (record { rank = r; within = h; own = subst (IsOwnKey (parts r) label l) (sym is) own }))
        (own_is_least (parts r) label l).one

    gathered_one : (s l : ℕ) → s < ranks → (gathered s l ≡ NO_KEY) ⊎ IsLeavingKey label l (gathered s l)
    gathered_one s l h = ⊎_elim
        (λ none. inl none)
        (λ c.
        let found = member_of_map (given_key l) (items_in (3 * p) (handled s)) (gathered s l) c in
        let from = received s (3 * p) found.0 h found.1 in
        let due = All-contains (IsPieceOf (own_key (parts from.rank) label) (first_at s) (count_at s)) (items_of_round (3 * p) (list_at (promised from.rank) s)) found.0
        (up_sent from.rank s from.within from.other).due from.among in
        ⊎_elim
        (λ none. inl (sym found.2 ∙ none))
        (λ some. leaving_from from.rank l (gathered s l) from.within (sym found.2 ∙ some.0))
        (piece_gives (own_key (parts from.rank) label) (first_at s) (count_at s) l found.0 due))
        (least_cases (given_keys l (items_in (3 * p) (handled s))))

    min_one : (P : ℕ → Type 0) (a b : ℕ) → (a ≡ NO_KEY) ⊎ P a → (b ≡ NO_KEY) ⊎ P b → (min a b ≡ NO_KEY) ⊎ P (min a b)
    min_one P a b first second = ⊎_elim
        (λ less. let is : min a b ≡ a = omega arith in subst (λ (x : ℕ). (x ≡ NO_KEY) ⊎ P x) (sym is) first)
        (λ more. let is : min a b ≡ b = omega arith in subst (λ (x : ℕ). (x ≡ NO_KEY) ⊎ P x) (sym is) second)
        (cases_lt a b)

    pub home_is_least : (s l : ℕ) → s < ranks → IsVertex g.n l → home l ≡ s → IsLeastOf (IsLeavingKey label l) (winner (parts s) (handled s) label p l)
    home_is_least s l h v is =
        subst (IsLeastOf (IsLeavingKey label l)) (sym (winner_home s l h is)) (record {
          lowest = λ x leaving. gathered_most leaving.rank s l x leaving.within h v is leaving.own (cases_eq leaving.rank s);
          one = min_one (IsLeavingKey label l) (own_key (parts s) label l) (gathered s l) (leaving_from s l (own_key (parts s) label l) h refl) (gathered_one s l h);
        })

    told_most : (s t l x : ℕ) → s < ranks → t < ranks → IsVertex g.n l → home l ≡ s → s ≢ t → IsLeavingKey label l x → told t l ≤ x
    told_most s t l x hs ht v is apart leaving =
        let laws = blocks (omega (arith, hs)) in
        let other : IsOther s ranks t = (ht, λ e. apart (sym e)) in
        let win = home_is_least s l hs v is in
        let low = win.lowest x leaving in
        let small = leaving_is_small label l x leaving in
        let below : place_at l < count_at s = subst (λ (q : ℕ). place_at l < count_at q) is (laws.local_below l v.first v.last) in
        let at : first_at s + place_at l ≡ l = subst (λ (q : ℕ). first_at q + place_at l ≡ l) is (laws.global_of_local l v.first v.last) in
        let key : ℕ → ℕ = winner (parts s) (handled s) label p in
        let used : key (first_at s + place_at l) ≢ NO_KEY = λ e. omega (arith, low, small, sym (ap key at) ∙ e) in
        let there : told t (first_at s + place_at l) ≤ key (first_at s + place_at l) =
        reaches s t (3 * p + 1) key (first_at s) (count_at s) (place_at l) hs other late (down_sent s t hs other) below used in
        let here : told t l ≤ key l = subst (λ (q : ℕ). told t q ≤ key q) at there in
        omega (arith, here, low)

    home_of : (r l : ℕ) → r < ranks → first_at r ≤ l → l < first_at r + count_at r → home l ≡ r
    home_of r l h low high =
        let at : first_at r + (l - first_at r) ≡ l = omega arith in
        subst (λ (q : ℕ). home q ≡ r) at ((blocks (omega (arith, h))).owner_of_global r (l - first_at r) h (omega arith))

    told_one : (t l : ℕ) → t < ranks → IsVertex g.n l → (told t l ≡ NO_KEY) ⊎ IsLeavingKey label l (told t l)
    told_one t l h v = ⊎_elim
        (λ none. inl none)
        (λ c.
        let found = member_of_map (given_key l) (items_in (3 * p + 1) (handled t)) (told t l) c in
        let from = received t (3 * p + 1) found.0 h found.1 in
        let key : ℕ → ℕ = winner (parts from.rank) (handled from.rank) label p in
        let due = All-contains (IsPieceOf key (first_at from.rank) (count_at from.rank)) (items_of_round (3 * p + 1) (list_at (promised from.rank) t)) found.0
        (down_sent from.rank t from.within from.other).due from.among in
        ⊎_elim
        (λ none. inl (sym found.2 ∙ none))
        (λ some.
        let is : told t l ≡ key l = sym found.2 ∙ some.0 in
        subst (λ (x : ℕ). (x ≡ NO_KEY) ⊎ IsLeavingKey label l x) (sym is) (home_is_least from.rank l from.within v (home_of from.rank l from.within some.1 some.2)).one)
        (piece_gives key (first_at from.rank) (count_at from.rank) l found.0 due))
        (least_cases (given_keys l (items_in (3 * p + 1) (handled t))))

    winner_by : (t l : ℕ) → t < ranks → IsVertex g.n l → (home l ≡ t) ⊎ (home l ≢ t) → IsLeastOf (IsLeavingKey label l) (winner (parts t) (handled t) label p l)
    winner_by t l h v (inl here) = home_is_least t l h v here
    winner_by t l h v (inr away) =
        let hs : home l < ranks = (blocks (omega (arith, h))).owner_is_rank l v.first v.last in
        subst (IsLeastOf (IsLeavingKey label l)) (sym (winner_away t l h away)) (record {
          lowest = λ x leaving. told_most (home l) t l x hs h v refl away leaving;
          one = told_one t l h v;
        })

    -- Every rank's winner is the least key of any rank's arcs.
    pub winner_is_least : (t l : ℕ) → t < ranks → IsVertex g.n l → IsLeastOf (IsLeavingKey label l) (winner (parts t) (handled t) label p l)
    winner_is_least t l h v = winner_by t l h v (cases_eq (home l) t)

    pub winners_same : (r s l : ℕ) → r < ranks → s < ranks → IsVertex g.n l → winner (parts r) (handled r) label p l ≡ winner (parts s) (handled s) label p l
    winners_same r s l hr hs v =
        least_is_one (IsLeavingKey label l) (λ x is. leaving_is_small label l x is) (winner (parts r) (handled r) label p l) (winner (parts s) (handled s) label p l)
        (winner_is_least r l hr v) (winner_is_least s l hs v)
