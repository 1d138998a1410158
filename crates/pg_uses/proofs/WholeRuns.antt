-- A whole run over the parts of a graph: each rank ends with the greatest degree of the graph.
use Rattle.std.proofs.Common.{◌≡◌, ◌⊎◌, inl, inr, ℕ, zero, suc, ◌<◌, ◌≤◌, true, List, [], ◌∷◌, ◌++◌, length, map, refl, sym, ap, ◌∙◌, subst, arith}
use Rattle.std.specs.Prelude.{Contains, Option, Some, None, slice_get, slice_index}
use Rattle.std.proofs.lemmas.Bool.{cases_eq, cases_lt}
use Rattle.std.proofs.lemmas.Option.{get_or_from_slice_get, slice_get_within}
use Rattle.pg_base.proofs.Members.{contains_cases}
use Rattle.pg_base.specs.Colouring.{degree}
use Rattle.pg_base.specs.Graph.{Graph, IsGraph}
use Rattle.pg_base.specs.Keyed.{row_of}
use Rattle.pg_dist.specs.Sharing.{Sharing, IsSharing}
use Rattle.pg_adj.specs.Portions.{Portion}
use Rattle.pg_adj.specs.Division.{Divided, IsPartOf, undivided}
use Rattle.pg_group.proofs.ByRank.{length_of_map}
use Rattle.pg_group.specs.declared.messages.Body.{Body}
use Rattle.pg_group.specs.declared.messages.Body.TheVariants.{Item, Mark}
use Rattle.pg_group.specs.declared.messages.Envelope.{Envelope}
use Rattle.pg_group.specs.declared.messages.Vote.{Vote}
use Rattle.pg_group.specs.Ranked.{IsOther, list_at}
use Rattle.pg_lane.specs.declared.settling.Settled.{Settled}
use Rattle.pg_run.specs.Lanes.{sent_on, taken_on}
use Rattle.pg_uses.specs.declared.degrees.Degrees.{Degrees}
use Rattle.pg_uses.specs.Degrees.{IsDegree, IsGreatestDegree, IsOwnDegree}
use Rattle.pg_uses.specs.Greatest.{IsGreatest}
use Rattle.pg_uses.specs.Kept.{IsKnown, mark_of, told}
use Rattle.pg_uses.specs.Runs.{HasKept, IsRunOver}
use Rattle.pg_uses.proofs.DegreeLemmas.{leaving_is_degree}
use Rattle.pg_uses.proofs.Greatests.{greatest_alike, greatest_of_greatest}
use Rattle.pg_uses.proofs.Telling.{already}

pub entry_below : {X : Type 0} (xs : List X) (k : ℕ) → k < length xs → (x : X) × (slice_get xs k ≡ Some x)
entry_below [] k h = absurd (omega arith)
entry_below (x ∷ xs) zero h = (x, refl)
entry_below (x ∷ xs) (suc k) h = entry_below xs k (omega arith)

pub past_end : {X : Type 0} (lists : List (List X)) (k : ℕ) → length lists ≤ k → list_at lists k ≡ []
past_end [] k h = refl
past_end (l ∷ ls) zero h = absurd (omega arith)
past_end (l ∷ ls) (suc k) h = past_end ls k (omega arith)

none_in : (list : List (Body ℕ)) (b : Body ℕ) → list ≡ [] → Contains list b → ⊥
none_in list b none c = omega (arith, c.1, ap length none)

-- ---- what a program that has ended told

tells_itself : (own : ℕ) (cast : Option Vote) → Contains (Item own ∷ mark_of cast) (Item own)
tells_itself own cast = (0, omega arith, refl)

tells_only : (own y : ℕ) (cast : Option Vote) → Contains (Item own ∷ mark_of cast) (Item y) → y ≡ own
tells_only own y None c = elim (contains_cases (Item own) [] (Item y) c) [
  | inl same ↦ cc
  | inr rest ↦ absurd (none_in [] (Item y) refl rest)
]
tells_only own y (Some vote) c = elim (contains_cases (Item own) (Mark vote ∷ []) (Item y) c) [
  | inl same ↦ cc
  | inr rest ↦ elim (contains_cases (Mark vote) [] (Item y) rest) [
    | inl other ↦ absurd (cc other)
    | inr none ↦ absurd (none_in [] (Item y) refl none)
  ]
]

told_at_end : (p : Degrees) (to : ℕ) → p.ended ≡ true → IsOther p.rank.0 p.ranks to → told p to ≡ Item p.own ∷ mark_of p.cast
told_at_end p to ended other = ap (λ l. l ++ mark_of p.cast) (already p.own p.next to (p.told_all (p.voted (p.over ended)) to other))

-- ---- the ranks together

-- A part has a vertex of this degree.
abbrev pub IsDegreeAmong : List Portion → ℕ → Type 0
IsDegreeAmong parts d = (rank : ℕ) × (part : Portion) × (slice_get parts rank ≡ Some part) × IsOwnDegree part d

module _ (parts : List Portion) (programs : List Degrees) (lanes : List (Settled (Envelope ℕ))) (run : IsRunOver parts programs lanes)
    (order : (rank : ℕ) (part : Portion) → slice_get parts rank ≡ Some part → (part.rank ≡ rank) × (part.ranks ≡ length parts)) where
  abbrev Kept : ℕ → Portion → Degrees → Type 0
  Kept rank part p = HasKept (length parts) rank (sent_on (length parts) lanes) (taken_on (length parts) lanes) part p

  -- a rank's program
  program_at : (rank : ℕ) (part : Portion) → slice_get parts rank ≡ Some part → (p : Degrees) × Kept rank part p
  program_at rank part there =
      let within = slice_get_within parts rank part there in
      let q = entry_below programs rank (omega (arith, within, run.count)) in
      (q.0, run.kept rank q.0 q.1 part there)

  own_rank : (rank : ℕ) (part : Portion) (p : Degrees) → slice_get parts rank ≡ Some part → Kept rank part p → p.rank.0 ≡ rank
  own_rank rank part p there k = ap (λ r. r.0) k.keeps.same_rank ∙ (k.is_new.rank ∙ (order rank part there).0)

  all_ranks : (rank : ℕ) (part : Portion) (p : Degrees) → slice_get parts rank ≡ Some part → Kept rank part p → p.ranks ≡ length parts
  all_ranks rank part p there k = k.keeps.same_ranks ∙ (k.is_new.ranks ∙ (order rank part there).1)

  own_is : (rank : ℕ) (part : Portion) (p : Degrees) → Kept rank part p → IsGreatest (IsOwnDegree part) p.own
  own_is rank part p k = subst (IsGreatest (IsOwnDegree part)) (sym k.keeps.same_own) k.is_new.own

  -- what one rank handled from another
  handled_from : (r s : ℕ) (here there : Portion) (p q : Degrees) → slice_get parts r ≡ Some here → slice_get parts s ≡ Some there → (k : Kept r here p) → Kept s there q
      → IsOther r (length parts) s → list_at k.handled s ≡ Item q.own ∷ mark_of q.cast
  handled_from r s here there p q at_r at_s k l other =
      let back : IsOther s (length parts) r = (slice_get_within parts r here at_r, λ e. other.1 (sym e)) in
      let rank_is = own_rank s there q at_s l in
      let ranks_are = all_ranks s there q at_s l in
      let to_r : IsOther q.rank.0 q.ranks r = subst (λ n. IsOther q.rank.0 n r) (sym ranks_are) (subst (λ n. IsOther n (length parts) r) (sym rank_is) back) in
      k.handled_is s other ∙ (run.book s r other.0 back ∙ (sym (l.sent_is r back) ∙ (l.keeps.tells r to_r ∙ told_at_end q r l.ended to_r)))

  -- what a rank knows is a degree of some part, or nothing
  known_is : (r : ℕ) (here : Portion) (p : Degrees) → slice_get parts r ≡ Some here → (k : Kept r here p) → (y : ℕ) → IsKnown p.own k.handled y → IsDegreeAmong parts y ⊎ (y ≡ 0)
  known_is r here p at k y (inl same) = elim (own_is r here p k).reached [
    | inl none ↦ inr (same ∙ none)
    | inr own ↦ inl (r, here, at, subst (IsOwnDegree here) (sym same) own)
  ]
  known_is r here p at k y (inr heard) = elim (cases_eq heard.0 r) [
    | inl mine ↦ absurd (none_in (list_at k.handled heard.0) (Item y) (ap (list_at k.handled) mine ∙ k.own_handled) heard.1)
    | inr other ↦ elim (cases_lt heard.0 (length parts)) [
      | inr past ↦ absurd (none_in (list_at k.handled heard.0) (Item y) (past_end k.handled heard.0 (omega (arith, past, k.keeps.from_each, all_ranks r here p at k))) heard.1)
      | inl within ↦
          let there = entry_below parts heard.0 within in
          let q = program_at heard.0 there.0 there.1 in
          let list = handled_from r heard.0 here there.0 p q.0 at there.1 k q.1 (within, other) in
          let same : y ≡ q.0.own = tells_only q.0.own y q.0.cast (subst (λ l. Contains l (Item y)) list heard.1) in
          elim (own_is heard.0 there.0 q.0 q.1).reached [
            | inl none ↦ inr (same ∙ none)
            | inr own ↦ inl (heard.0, there.0, there.1, subst (IsOwnDegree there.0) (sym same) own)
          ]
    ]
  ]

  -- a degree of some part is at most what that part's rank told
  known_above : (r : ℕ) (here : Portion) (p : Degrees) → slice_get parts r ≡ Some here → (k : Kept r here p) → (y : ℕ) → IsDegreeAmong parts y → (z : ℕ) × IsKnown p.own k.handled z × (y ≤ z)
  known_above r here p at k y (s, there, at_s, own) = elim (cases_eq s r) [
    | inl same ↦
        let is : there ≡ here = cc in
        (p.own, inl refl, (own_is r here p k).bounds y (subst (λ part. IsOwnDegree part y) is own))
    | inr other ↦
        let q = program_at s there at_s in
        let list = handled_from r s here there p q.0 at at_s k q.1 (slice_get_within parts s there at_s, other) in
        (q.0.own, inr (s, subst (λ l. Contains l (Item q.0.own)) (sym list) (tells_itself q.0.own q.0.cast)), (own_is s there q.0 q.1).bounds y own)
  ]

  pub each_knows : (r : ℕ) (here : Portion) (p : Degrees) → slice_get parts r ≡ Some here → slice_get programs r ≡ Some p → IsGreatest (IsDegreeAmong parts) p.greatest
  each_knows r here p at is =
      let k = run.kept r p is here at in
      greatest_of_greatest (IsKnown p.own k.handled) (IsDegreeAmong parts) p.greatest k.keeps.greatest (known_is r here p at k) (known_above r here p at k)

-- ---- the graph

module _ (s : Sharing) (laws : IsSharing s) (g : Graph) (graph : IsGraph g) (n : g.n ≡ s.n) (parts : List Portion) (divided : Divided s g parts) where
  pub part_is : (r : ℕ) (p : Portion) → slice_get parts r ≡ Some p → IsPartOf s g (map (λ q. q.ghosts) parts) r p
  part_is r p at =
      let within = slice_get_within parts r p at in
      subst (IsPartOf s g (map (λ q. q.ghosts) parts) r) (get_or_from_slice_get parts r p p at) (divided.part r p (omega (arith, within, divided.count)))

  pub in_order : (r : ℕ) (p : Portion) → slice_get parts r ≡ Some p → (p.rank ≡ r) × (p.ranks ≡ length parts)
  in_order r p at = let part = part_is r p at in (part.rank, part.ranks ∙ sym divided.count)

  pub row_degree : (r : ℕ) (p : Portion) → slice_get parts r ≡ Some p → (i : ℕ) → i < length p.vertices → degree g.edges (slice_index p.vertices i) ≡ length (row_of p.bounds p.arcs i)
  row_degree r p at i within =
      let v = slice_index p.vertices i in
      let part = part_is r p at in
      sym (sym (length_of_map (undivided v) (row_of p.bounds p.arcs i)) ∙ (ap length (part.arcs i within) ∙ leaving_is_degree g.n g.edges v graph.within))

  own_degree_is : (y : ℕ) → IsDegreeAmong parts y → IsDegree g y
  own_degree_is y (r, p, at, own) =
      let part = part_is r p at in
      let below : r < s.ranks = omega (arith, slice_get_within parts r p at, divided.count) in
      let place : own.place < s.count r = omega (arith, own.within, part.share.count) in
      let is : slice_index p.vertices own.place ≡ s.global r own.place = part.share.vertex own.place place in
      record {
        vertex = slice_index p.vertices own.place;
        first = omega (arith, is, laws.global_first r own.place below place);
        last = omega (arith, is, laws.global_last r own.place below place, n);
        has = row_degree r p at own.place own.within ∙ own.has;
      }

  degree_is_own : (y : ℕ) → IsDegree g y → IsDegreeAmong parts y
  degree_is_own y d =
      let last : d.vertex ≤ s.n = omega (arith, d.last, n) in
      let r = s.owner d.vertex in
      let below : r < s.ranks = laws.owner_is_rank d.vertex d.first last in
      let found = entry_below parts r (omega (arith, below, divided.count)) in
      let part = part_is r found.0 found.1 in
      let place : s.local d.vertex < s.count r = laws.local_below d.vertex d.first last in
      let within : s.local d.vertex < length found.0.vertices = omega (arith, place, part.share.count) in
      let is : slice_index found.0.vertices (s.local d.vertex) ≡ d.vertex = part.share.vertex (s.local d.vertex) place ∙ laws.global_of_local d.vertex d.first last in (
        r,
        found.0,
        found.1,
        record {
          place = s.local d.vertex;
          within = within;
          has = sym (row_degree r found.0 found.1 (s.local d.vertex) within) ∙ (ap (degree g.edges) is ∙ d.has);
        },
      )

  -- The greatest degree of all parts is that of the graph.
  pub greatest_is : (x : ℕ) → IsGreatest (IsDegreeAmong parts) x → IsGreatestDegree g x
  greatest_is x is = greatest_alike (IsDegreeAmong parts) (IsDegree g) x own_degree_is degree_is_own is

-- What each program of a whole run ends with.
pub found_greatest : (s : Sharing) → IsSharing s → (g : Graph) → IsGraph g → g.n ≡ s.n → (parts : List Portion) → Divided s g parts → (programs : List Degrees) (lanes : List (Settled (Envelope ℕ))) → IsRunOver parts programs lanes
    → (r : ℕ) (p : Degrees) → slice_get programs r ≡ Some p → IsGreatestDegree g p.greatest
found_greatest s laws g graph n parts divided programs lanes run r p is =
    let here = entry_below parts r (omega (arith, slice_get_within programs r p is, run.count)) in
    greatest_is s laws g graph n parts divided p.greatest (each_knows parts programs lanes run (in_order s laws g graph n parts divided) r here.0 p here.1 is)
