-- A colouring of a divided graph ends with proper colours, on one rank those of first fit.
use Rattle.std.proofs.Common.{◌≡◌, ℕ, suc, zero, ◌+◌, ◌-◌, ◌<◌, ◌≤◌, List, [], ◌∷◌, length, map, get_or, refl, sym, ap, ◌∙◌, subst, arith, inl, inr, Option, Some, None}
use Rattle.std.specs.Prelude.{option_and_then, slice_get, slice_index_or, unwrap_or}
use Rattle.std.proofs.lemmas.Bool.{cases_lt, ne_eqb}
use Rattle.std.proofs.lemmas.List.Elements.{All-contains}
use Rattle.std.proofs.lemmas.Option.{get_or_from_slice_get, slice_get_within}
use Rattle.pg_base.specs.Graph.{Graph, IsEdge, IsGraph}
use Rattle.pg_base.specs.Colouring.{AreJoined, IsFirstFit, IsProper, colour_in as listed, degree}
use Rattle.pg_group.specs.declared.messages.Envelope.{Envelope}
use Rattle.pg_group.proofs.Growing.{entry_map}
use Rattle.pg_group.proofs.ByRank.{length_of_map}
use Rattle.pg_lane.specs.declared.settling.Settled.{Settled}
use Rattle.pg_run.specs.Lanes.{sent_on, taken_on}
use Rattle.pg_dist.specs.Sharing.{Sharing, IsSharing}
use Rattle.pg_adj.specs.Portions.{Portion}
use Rattle.pg_adj.specs.Division.{ghosts_of}
use Rattle.pg_adj.proofs.MirrorGhosts.{ghost_from}
use Rattle.pg_cells.specs.declared.bodies.CellBody.{CellBody}
use Rattle.pg_colour.specs.declared.TheConstants.{NO_COLOUR}
use Rattle.pg_colour.specs.declared.colouring.Colouring.{Colouring}
use Rattle.pg_colour.specs.LocalColour.{LocalColour, State}
use Rattle.pg_colour.specs.Shown.{part_in, state_of}
use Rattle.pg_colour.specs.Whole.{HasEndedOver, IsWholeRun, colour_in, colour_of}
use Rattle.pg_colour.proofs.Ending.{one_rank_fits_first, whole_is_coloured, whole_is_fresh, whole_is_proper, whole_is_sound, whole_sees_owners}
use Rattle.pg_colour.proofs.Kept.{are_histories, history_by}
use Rattle.pg_print.specs.Columns.{column_text}
use Rattle.pg_top.specs.Coloured.{AreHeld, AreKeptFresh, HavePlaces, IsColouring, SeeOwners, held_colour, shown_by, states_of}
use Rattle.pg_top.specs.Relaxed.{AreInOrder}
use Rattle.pg_top.specs.Text.{AreColours, IsColourText}
use Rattle.pg_top.specs.Work.{HasColours, IsColouredBy, SpellsColours}
use Rattle.pg_top.proofs.BestLemmas.{got}
use Rattle.pg_top.proofs.RightLemmas.{distribution_n, distribution_ranks}
use Rattle.pg_top.proofs.RunLemmas.{entry_below}

-- ---- colours that agree on the vertices

record AreVertices (n v w : ℕ) : Type 0 where
  first : 1 ≤ v
  last : v ≤ n
  other_first : 1 ≤ w
  other_last : w ≤ n

joined_vertices : (g : Graph) → IsGraph g → (v w : ℕ) → AreJoined g.edges v w → AreVertices g.n v w
joined_vertices g is v w joined =
    let e = All-contains (IsEdge g.n) g.edges joined.edge is.within joined.among in
    elim joined.ends [
      | inl ends ↦ record { first = omega (arith, e.first, ends.0); last = omega (arith, e.ascends, e.last, ends.0); other_first = omega (arith, e.first, e.ascends, ends.1); other_last = omega (arith, e.last, ends.1) }
      | inr ends ↦ record { first = omega (arith, e.first, e.ascends, ends.1); last = omega (arith, e.last, ends.1); other_first = omega (arith, e.first, ends.0); other_last = omega (arith, e.ascends, e.last, ends.0) }
    ]

module _ (g : Graph) (is : IsGraph g) (c d : ℕ → ℕ) (same : (v : ℕ) → 1 ≤ v → v ≤ g.n → c v ≡ d v) where
  proper_alike : IsProper g c → IsProper g d
  proper_alike p = record {
    apart = λ k e h eq.
        let edge = is.within k e h in
        let at = slice_index_or g.edges k e in
        p.apart k e h (same at.u edge.first (omega (arith, edge.ascends, edge.last)) ∙ (eq ∙ sym (same at.v (omega (arith, edge.first, edge.ascends)) edge.last)));
    bounded = λ v first last. subst (λ x. x ≤ degree g.edges v) (same v first last) (p.bounded v first last);
  }

  first_fit_alike : IsFirstFit g c → IsFirstFit g d
  first_fit_alike p = record {
    free = λ u v joined less eq.
        let ends = joined_vertices g is v u joined in
        p.free u v joined less (same u ends.other_first ends.other_last ∙ (eq ∙ sym (same v ends.first ends.last)));
    least = λ v x first last less.
        let found = p.least v x first last (omega (arith, same v first last, less)) in
        let ends = joined_vertices g is v found.0 found.2 in
        (found.0, found.1, found.2, sym (same found.0 ends.other_first ends.other_last) ∙ found.3);
  }

-- ---- the run

-- programs over parts that are in order have their ranks and their number
pub in_order : (programs : List Colouring) (parts : List Portion) → map part_in programs ≡ parts → AreInOrder parts
    → (k : ℕ) (p : Colouring) → slice_get programs k ≡ Some p → ((part_in p).rank ≡ k) × ((part_in p).ranks ≡ length programs)
in_order programs parts same order k p at =
    let there : slice_get parts k ≡ Some (part_in p) = ap (λ l. slice_get l k) (sym same) ∙ entry_map part_in programs k p at in
    let said = order k (part_in p) there in
    (said.0, said.1 ∙ (ap length (sym same) ∙ length_of_map part_in programs))

module _ (s : Sharing) (g : Graph) (capacity : ℕ) (programs : List Colouring) (lanes : List (Settled (Envelope CellBody))) (run : IsColouring s g capacity programs lanes) where
  below_ranks : (r : ℕ) (p : Colouring) → slice_get programs r ≡ Some p → r < s.ranks
  below_ranks r p at = omega (arith, slice_get_within programs r p at, run.run.count)

  opening_at : (r : ℕ) → r < s.ranks → (start : Colouring) × (slice_get run.run.openings r ≡ Some start)
  opening_at r h = entry_below run.run.openings r (omega (arith, h, run.divided.count, ap length run.run.opened, length_of_map part_in run.run.openings))

  -- a rank's part stays that of the division
  part_stays : (r : ℕ) (p : Colouring) → slice_get programs r ≡ Some p → slice_get run.parts r ≡ Some (part_in p)
  part_stays r p at =
      let o = opening_at r (below_ranks r p at) in
      ap (λ l. slice_get l r) (sym run.run.opened) ∙ (entry_map part_in run.run.openings r o.0 o.1 ∙ ap Some (sym (run.run.kept r p at o.0 o.1).keeps.part))

  pub places_of : IsSharing s → HavePlaces s programs
  places_of laws v p first last at =
      let part = run.divided.part (s.owner v) (part_in p) (laws.owner_is_rank v first last) in
      let same : slice_index_or run.parts (s.owner v) (part_in p) ≡ part_in p = got run.parts (s.owner v) (part_in p) (part_in p) (part_stays (s.owner v) p at) in
      omega (arith, laws.local_below v first last, part.share.count, ap (λ (q : Portion). length q.vertices) same)

  module _ (laws : IsSharing s) (is : IsGraph g) (same : g.n ≡ s.n) where
    abbrev states : ℕ → State
    states = states_of programs

    shown : (r : ℕ) (p : Colouring) → slice_get programs r ≡ Some p → states r ≡ state_of p
    shown r p at = ap shown_by at

    here : (r : ℕ) → r < s.ranks → (q : Colouring) × (slice_get programs r ≡ Some q)
    here r h = entry_below programs r (omega (arith, h, run.run.count))

    ended_by : (r : ℕ) (p : Portion) → slice_get run.parts r ≡ Some p → HasEndedOver s.ranks r (sent_on s.ranks lanes) (taken_on s.ranks lanes) p (states r)
    ended_by r p at =
        let h : r < s.ranks = omega (arith, slice_get_within run.parts r p at, run.divided.count) in
        let q = here r h in
        let o = opening_at r h in
        let k = run.run.kept r q.0 q.1 o.0 o.1 in
        let there = part_stays r q.0 q.1 in
        let is_part : part_in q.0 ≡ p = cc in
        subst (λ x. HasEndedOver s.ranks r (sent_on s.ranks lanes) (taken_on s.ranks lanes) p x) (sym (shown r q.0 q.1))
        (record {
          handled = k.handled;
          promised = k.promised;
          ended = k.ended;
          keeps = subst (λ x. LocalColour x k.handled k.promised (state_of q.0)) is_part k.keeps.coloured;
          handled_is = k.handled_is;
          sent_is = k.sent_is;
        })

    whole : IsWholeRun s g run.parts states (sent_on s.ranks lanes) (taken_on s.ranks lanes)
    whole = record {
      sharing = laws;
      graph = is;
      vertices = same;
      divided = run.divided;
      whole = run.run.book;
      marked = run.run.marks;
      kept = ended_by;
    }

    -- the owner's cell, as a colour
    has_colour : (x : ℕ) → x < NO_COLOUR → colour_in x ≡ Some x
    has_colour x h = rw (ne_eqb x NO_COLOUR (λ eq. omega (arith, h, eq))) refl

    cell_is_held : (v : ℕ) → 1 ≤ v → v ≤ s.n → held_colour s programs v ≡ colour_in (colour_of s states v)
    cell_is_held v first last =
        let q = here (s.owner v) (laws.owner_is_rank v first last) in
        ap (option_and_then (λ p. colour_in ((state_of p).own (s.local v)))) q.1 ∙ ap (λ x. colour_in (x.own (s.local v))) (sym (shown (s.owner v) q.0 q.1))

    pub held_is : (v : ℕ) → 1 ≤ v → v ≤ s.n → held_colour s programs v ≡ Some (colour_of s states v)
    held_is v first last = cell_is_held v first last ∙ has_colour (colour_of s states v) (whole_is_coloured s g run.parts states _ _ whole v first (omega (arith, last, same)))

    pub cells_are_proper : IsProper g (colour_of s states)
    cells_are_proper = whole_is_proper s g run.parts states _ _ whole

    pub cells_are_first_fit : s.ranks ≡ 1 → IsFirstFit g (colour_of s states)
    cells_are_first_fit one = one_rank_fits_first s g run.parts states _ _ whole one

    pub owners_are_seen : SeeOwners s programs
    owners_are_seen rank slot p remote at ghost =
        let h = below_ranks rank p at in
        let part = run.divided.part rank (part_in p) h in
        let there = part_stays rank p at in
        let is_part : slice_index_or run.parts rank (part_in p) ≡ part_in p = got run.parts rank (part_in p) (part_in p) there in
        let list : (part_in p).ghosts ≡ ghosts_of s.owner s.local s.n rank (part_in p).arcs = subst (λ (q : Portion). q.ghosts ≡ ghosts_of s.owner s.local s.n rank q.arcs) is_part part.share.ghost_list in
        let listed : slice_get (ghosts_of s.owner s.local s.n rank (part_in p).arcs) slot ≡ Some remote = ap (λ l. slice_get l slot) (sym list) ∙ ghost in
        let found = ghost_from s.owner s.local s.n rank (part_in p).arcs remote (slot, slice_get_within _ slot remote listed, get_or_from_slice_get _ slot remote remote listed) in
        cell_is_held remote.vertex.0 found.vertex.first found.vertex.last
        ∙ ap colour_in (sym (whole_sees_owners s g run.parts states _ _ whole rank slot (part_in p) remote there ghost) ∙ ap (λ x. x.seen slot) (shown rank p at))

    pub are_kept_fresh : AreKeptFresh s run.parts programs lanes
    are_kept_fresh = record {
      histories = λ r. history_by s g run.parts states _ _ whole r (cases_lt r s.ranks);
      told = are_histories s g run.parts states _ _ whole;
      sound = λ r p at. whole_is_sound s g run.parts states _ _ whole r p at (are_histories s g run.parts states _ _ whole r p at).0;
      refreshed = λ rank j. whole_is_fresh s g run.parts states _ _ whole (λ r. history_by s g run.parts states _ _ whole r (cases_lt r s.ranks)) (are_histories s g run.parts states _ _ whole) rank j;
    }

-- ---- the text

abbrev known : List (Option ℕ) → List ℕ
known answers = map (λ a. unwrap_or a 0) answers

known_at : (answers : List (Option ℕ)) (k x : ℕ) → k < length answers → slice_index_or answers k None ≡ Some x → get_or (known answers) k 0 ≡ x
known_at [] k x h is = absurd (omega arith)
known_at (a ∷ answers) zero x h is = ap (λ (o : Option ℕ). unwrap_or o 0) is
known_at (a ∷ answers) (suc k) x h is = known_at answers k x (omega arith) is

all_known : (answers : List (Option ℕ)) → ((k : ℕ) → k < length answers → (x : ℕ) × (slice_index_or answers k None ≡ Some x)) → map Some (known answers) ≡ answers
all_known [] each = refl
all_known (a ∷ answers) each =
    let x = each 0 (omega arith) in
    let first : Some (unwrap_or a 0) ≡ a = ap (λ (o : Option ℕ). Some (unwrap_or o 0)) x.1 ∙ sym x.1 in
    let rest : map Some (known answers) ≡ answers = all_known answers (λ k h. each (suc k) (omega arith)) in
    λ k. first k ∷ rest k

module _ (owners : Option (List ℕ)) (ranks capacity : ℕ) (g : Graph) (answers : List (Option ℕ)) (programs : List Colouring) (lanes : List (Settled (Envelope CellBody)))
    (c : IsColouredBy owners ranks capacity g answers programs lanes) (is : IsGraph g) where
  n_is : g.n ≡ c.sharing.n
  n_is = sym (distribution_n owners g.n ranks c.sharing c.distribution)

  ranks_are : c.sharing.ranks ≡ ranks
  ranks_are = distribution_ranks owners g.n ranks c.sharing c.distribution

  abbrev cell : ℕ → ℕ
  cell v = colour_of c.sharing (states_of programs) v

  answer_is : (k : ℕ) → k < length answers → slice_index_or answers k None ≡ Some (cell (k + 1))
  answer_is k h =
      let within : k < c.sharing.n = omega (arith, h, c.held.count) in
      c.held.each k within ∙ held_is c.sharing g capacity programs lanes c.colouring c.laws is n_is (k + 1) (omega arith) (omega (arith, within))

  cell_is : (v : ℕ) → 1 ≤ v → v ≤ g.n → cell v ≡ listed (known answers) v
  cell_is v low high =
      let within : v - 1 < length answers = omega (arith, low, high, n_is, c.held.count) in
      let back : (v - 1) + 1 ≡ v = omega (arith, low) in
      ap cell (sym back) ∙ sym (known_at answers (v - 1) (cell ((v - 1) + 1)) within (answer_is (v - 1) within))

  same_answers : map Some (known answers) ≡ answers
  same_answers = all_known answers (λ k h. (cell (k + 1), answer_is k h))

  are_colours : AreColours ranks g (known answers)
  are_colours = record {
    proper = record {
      count = length_of_map (λ (a : Option ℕ). unwrap_or a 0) answers ∙ (c.held.count ∙ sym n_is);
      proper = proper_alike g is cell (listed (known answers)) cell_is (cells_are_proper c.sharing g capacity programs lanes c.colouring c.laws is n_is);
    };
    first_fit = λ one. first_fit_alike g is cell (listed (known answers)) cell_is (cells_are_first_fit c.sharing g capacity programs lanes c.colouring c.laws is n_is (ranks_are ∙ one));
  }

  pub colours_are_had : HasColours owners ranks capacity g answers programs lanes
  colours_are_had = record {
    colours = known answers;
    listed = sym same_answers;
    right = are_colours;
    coloured = c;
    fresh = are_kept_fresh c.sharing g capacity programs lanes c.colouring c.laws is n_is;
    ghosts = owners_are_seen c.sharing g capacity programs lanes c.colouring c.laws is n_is;
  }

  pub colours_are_right : IsColourText ranks g (column_text answers)
  colours_are_right = record { colours = known answers; right = are_colours; spelled = ap column_text (sym same_answers) }

  pub colours_are_spelled : SpellsColours owners ranks capacity g (column_text answers) programs lanes
  colours_are_spelled = record {
    colours = known answers;
    coloured = record {
      sharing = c.sharing;
      laws = c.laws;
      distribution = c.distribution;
      colouring = c.colouring;
      held = subst (λ list. AreHeld c.sharing programs list) (sym same_answers) c.held;
    };
    fresh = are_kept_fresh c.sharing g capacity programs lanes c.colouring c.laws is n_is;
    ghosts = owners_are_seen c.sharing g capacity programs lanes c.colouring c.laws is n_is;
    spelled = ap column_text (sym same_answers);
  }
