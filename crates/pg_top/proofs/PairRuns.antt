-- What a run of pairs leaves: each member has relaxed over a whole book of its own.
use Rattle.std.proofs.Common.{◌≡◌, ℕ, ◌<◌, ◌≤◌, true, List, [], ◌∷◌, ◌++◌, length, map, refl, sym, ap, ◌∙◌, subst, arith, Some}
use Rattle.std.specs.Prelude.{slice_get, slice_index_or}
use Rattle.std.proofs.lemmas.Option.{slice_get_within}
use Rattle.pg_base.specs.Graph.{Graph}
use Rattle.pg_lane.specs.declared.settling.Settled.{Settled}
use Rattle.pg_lane.specs.Settled.{settled_capacity}
use Rattle.pg_group.specs.declared.messages.Body.{Body}
use Rattle.pg_group.specs.declared.messages.Envelope.{Envelope}
use Rattle.pg_group.specs.declared.programs.Program.{Ghosts as ProgramGhosts}
use Rattle.pg_group.specs.Book.{PairLists, IsWhole, IsMarked, KeepsOver, HasEnded}
use Rattle.pg_group.specs.Entries.{Each}
use Rattle.pg_group.proofs.Growing.{entry_map}
use Rattle.pg_group.proofs.ByRank.{length_of_map}
use Rattle.pg_run.specs.Lanes.{AreWhole, EachLane, sent_on, taken_on}
use Rattle.pg_triggers.specs.declared.items.Of2.{Of2}
use Rattle.pg_triggers.specs.declared.pairs.Pair.{Pair}
use Rattle.pg_triggers.specs.Endings.{GivesBook, HaveBook, StopsBy}
use Rattle.pg_triggers.specs.Mine.{first_book, second_book}
use Rattle.pg_dist.specs.Sharing.{Sharing}
use Rattle.pg_label.specs.declared.labels.Label.{Ghosts as LabelGhosts}
use Rattle.pg_agenda.specs.declared.agendas.Agenda.{Ghosts as AgendaGhosts}
use Rattle.pg_agenda.specs.Shares.{Places, takes_all}
use Rattle.pg_best.specs.declared.offers.Offer.{Offer}
use Rattle.pg_relax.specs.declared.relaxing.Relax.{Relax}
use Rattle.pg_relax.specs.Endings.{all_quiet}
use Rattle.pg_relax.specs.Shown.{KeepsRelaxed, part_in, state_of}
use Rattle.pg_top.specs.Paired.{AreOpen, ArePaired, ByHops, ByRoots, IsRelaxedOver, hops_in, roots_in}
use Rattle.pg_top.specs.Relaxed.{HasRelaxed}
use Rattle.pg_top.proofs.BestLemmas.{divided_in_order, got}
use Rattle.pg_top.proofs.RunLemmas.{entry_below, entry_from_map, in_order}

-- the last entry of a front stands where the front without it ends
pub last_stands : {X : Type 0} (all front rest behind : List X) (x : X) → all ≡ front ++ behind → front ≡ rest ++ x ∷ [] → slice_get all (length rest) ≡ Some x
last_stands all front rest behind x is last = ap (λ l. slice_get l (length rest)) (is ∙ ap (λ l. l ++ behind) last) ∙ stands rest behind x where
  stands : {X : Type 0} (rest behind : List X) (x : X) → slice_get ((rest ++ x ∷ []) ++ behind) (length rest) ≡ Some x
  stands [] behind x = refl
  stands (y ∷ rest) behind x = stands rest behind x

module _ {L A : Type 0} {l : LabelGhosts L} {a : AgendaGhosts A} {takes : Places} (label : L) (s : Sharing) (g : Graph) (programs : List (Relax L A l a)) (opens : AreOpen label takes s g programs) where
  pub open_count : length programs ≡ s.ranks
  open_count = sym (length_of_map part_in programs) ∙ (ap length opens.opened ∙ opens.divided.count)

  pub open_ranks : (k : ℕ) (p : Relax L A l a) → slice_get programs k ≡ Some p → ((part_in p).rank ≡ k) × ((part_in p).ranks ≡ length programs)
  open_ranks k p at = in_order programs opens.parts opens.opened (divided_in_order s g opens.parts opens.divided) k p at

-- What a run leaves of programs, by rank.
pub record HasLeft {P B : Type 0} (p : ProgramGhosts P B) (capacity n : ℕ) (openings programs : List P) (lanes : List (Settled (Envelope B))) : Type 0 where
  pub count : length programs ≡ n
  pub lane_for_each : AreWhole n lanes
  pub capacities : EachLane n lanes (λ lane. settled_capacity lane ≡ capacity)
  pub book : IsWhole n (sent_on n lanes) (taken_on n lanes)
  pub marks : IsMarked n (sent_on n lanes)
  pub ended : (d : P) (rank : ℕ) → rank < n → HasEnded p n rank (sent_on n lanes) (taken_on n lanes) (slice_index_or openings rank d) (slice_index_or programs rank d)

-- Where each program has ended and kept its promise from the opening state that its machine shows, so has each rank's from the list.
pub ended_at : {R P B : Type 0} (p : ProgramGhosts P B) (opening : R → P) (machines : List R) (openings programs : List P) (sent taken : PairLists B) → map opening machines ≡ openings → length programs ≡ length machines
    → Each (λ rank x. p.ended x ≡ true) programs
    → Each (λ rank x. Each (λ place r. rank ≡ place → KeepsOver p (length machines) rank sent taken (opening r) x) machines) programs
    → (d : P) (rank : ℕ) → rank < length machines → HasEnded p (length machines) rank sent taken (slice_index_or openings rank d) (slice_index_or programs rank d)
ended_at p opening machines openings programs sent taken same count ended keeps d rank h =
    let q = entry_below programs rank (omega (arith, h, count)) in
    let m = entry_below machines rank h in
    let o : slice_get openings rank ≡ Some (opening m.0) = ap (λ l. slice_get l rank) (sym same) ∙ entry_map opening machines rank m.0 m.1 in
    subst (λ x. HasEnded p (length machines) rank sent taken x (slice_index_or programs rank d)) (sym (got openings rank (opening m.0) d o))
    (subst (λ x. HasEnded p (length machines) rank sent taken (opening m.0) x) (sym (got programs rank q.0 d q.1))
    (record { within = h; keeps = keeps rank q.0 q.1 rank m.0 m.1 refl; ended = ended rank q.0 q.1 }))

-- A member of programs that have ended, where it is a relaxation.
module _ {P B L A : Type 0} {l : LabelGhosts L} {a : AgendaGhosts A} (p : ProgramGhosts P B) (q : ProgramGhosts (Relax L A l a) Offer) (member : P → Relax L A l a) (part : ℕ → PairLists B → PairLists Offer)
    (keeps : (start now : Relax L A l a) (handled sent : List (List (Body Offer))) → q.Keeps start handled sent now → KeepsRelaxed start handled sent now)
    (ends : (now : Relax L A l a) → q.ended now ≡ true → (state_of now).ended ≡ true) where
  relaxed_from : (ranks rank : ℕ) (sent taken : PairLists Offer) (was start is now : Relax L A l a) → HasEnded q ranks rank sent taken was is → was ≡ start → is ≡ now → HasRelaxed ranks rank sent taken start now
  relaxed_from ranks rank sent taken was start is now h e f =
      subst (λ x. HasRelaxed ranks rank sent taken x now) e (subst (λ x. HasRelaxed ranks rank sent taken was x) f (record {
        handled = h.keeps.handled;
        promised = h.keeps.promised;
        keeps = keeps was is h.keeps.handled h.keeps.promised h.keeps.keeps;
        ended = ends is h.ended;
        handled_is = h.keeps.handled_is;
        sent_is = h.keeps.sent_is;
      }))

  pub member_relaxed : {takes : Places} (label : L) (s : Sharing) (g : Graph) (sent taken : PairLists B) (openings programs : List P) (d : P) → AreOpen label takes s g (map member openings) → length programs ≡ s.ranks
      → (book : HaveBook p q member part s.ranks sent taken (λ r. slice_index_or openings r d) (λ r. slice_index_or programs r d))
      → IsRelaxedOver label takes s g (part book.last sent) (part book.last taken) (map member programs)
  member_relaxed label s g sent taken openings programs d opens count book =
      let many : length openings ≡ s.ranks = sym (length_of_map member openings) ∙ open_count label s g (map member openings) opens in
      let kept : (rank : ℕ) (x start : Relax L A l a) → slice_get (map member programs) rank ≡ Some x → slice_get (map member openings) rank ≡ Some start
      → HasRelaxed s.ranks rank (part book.last sent) (part book.last taken) start x = λ rank x start at there.
      let now = entry_from_map member programs rank x at in
      let was = entry_from_map member openings rank start there in
      relaxed_from s.ranks rank (part book.last sent) (part book.last taken) (member (slice_index_or openings rank d)) start (member (slice_index_or programs rank d)) x
      (book.ended rank (omega (arith, slice_get_within programs rank now.0 now.1, count)))
      (ap member (got openings rank was.0 d was.1) ∙ was.2) (ap member (got programs rank now.0 d now.1) ∙ now.2) in
      record {
        openings = map member openings;
        opens = opens;
        shares = λ rank x at share w.
            let start = entry_below (map member openings) rank (omega (arith, slice_get_within (map member programs) rank x at, length_of_map member programs, length_of_map member openings, count, many)) in
            (kept rank x start.0 at start.1).keeps.takes share w ∙ opens.shares rank start.0 start.1 share w;
        count = length_of_map member programs ∙ count;
        book = book.whole;
        marks = book.marked;
        kept = λ rank x at start there. kept rank x start at there;
      }

-- Pairs that have ended, where relaxations stop by their rule.
module _ {p : ProgramGhosts ByHops Offer} {q : ProgramGhosts ByRoots Offer} (pair : ProgramGhosts (Pair ByHops ByRoots Offer Offer p q) (Of2 Offer Offer))
    (keeps_hops : (start now : ByHops) (handled sent : List (List (Body Offer))) → p.Keeps start handled sent now → KeepsRelaxed start handled sent now)
    (keeps_roots : (start now : ByRoots) (handled sent : List (List (Body Offer))) → q.Keeps start handled sent now → KeepsRelaxed start handled sent now)
    (hops_end : (now : ByHops) → p.ended now ≡ true → (state_of now).ended ≡ true) (roots_end : (now : ByRoots) → q.ended now ≡ true → (state_of now).ended ≡ true)
    (first : GivesBook pair p hops_in first_book) (second : GivesBook pair q roots_in second_book)
    (hops_stop : (start : ByHops) → StopsBy p all_quiet start) (roots_stop : (start : ByRoots) → StopsBy q all_quiet start) where
  pub are_paired : (source : ℕ) (s : Sharing) (g : Graph) (capacity n : ℕ) (openings programs : List (Pair ByHops ByRoots Offer Offer p q)) (lanes : List (Settled (Envelope (Of2 Offer Offer))))
      → 1 ≤ n → n ≡ s.ranks → AreOpen (record { source = source }) takes_all s g (map hops_in openings) → AreOpen (record {}) takes_all s g (map roots_in openings)
      → HasLeft pair capacity n openings programs lanes → ArePaired source s g capacity programs lanes
  are_paired source s g capacity n openings programs lanes some long hops roots left =
      let here : HasLeft pair capacity s.ranks openings programs lanes = subst (λ k. HasLeft pair capacity k openings programs lanes) long left in
      let d : Pair ByHops ByRoots Offer Offer p q = (entry_below programs 0 (omega (arith, here.count, some, long))).0 in
      let sent : PairLists (Of2 Offer Offer) = sent_on s.ranks lanes in
      let taken : PairLists (Of2 Offer Offer) = taken_on s.ranks lanes in
      let of_hops = first s.ranks sent taken (λ r. slice_index_or openings r d) (λ r. slice_index_or programs r d) all_quiet here.book here.marks (here.ended d) (λ r h. hops_stop (hops_in (slice_index_or openings r d))) in
      let of_roots = second s.ranks sent taken (λ r. slice_index_or openings r d) (λ r. slice_index_or programs r d) all_quiet here.book here.marks (here.ended d) (λ r h. roots_stop (roots_in (slice_index_or openings r d))) in
      record {
        lane_for_each = here.lane_for_each;
        capacities = here.capacities;
        book = here.book;
        marks = here.marks;
        last_hops = of_hops.last;
        last_roots = of_roots.last;
        hops = member_relaxed pair p hops_in first_book keeps_hops hops_end (record { source = source }) s g sent taken openings programs d hops here.count of_hops;
        roots = member_relaxed pair q roots_in second_book keeps_roots roots_end (record {}) s g sent taken openings programs d roots here.count of_roots;
      }
