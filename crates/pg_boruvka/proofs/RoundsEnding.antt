-- A rank keeps its promise when a round ends.
use Rattle.std.proofs.Common.{◌≡◌, ℕ, zero, suc, ◌+◌, ◌*◌, ◌/◌, ◌<◌, ◌≤◌, Bool, true, false, List, [], ◌∷◌, ◌++◌, length, map, filter, refl, sym, ◌∙◌, ap, subst, ⊎_elim, arith, Option, Some, None, Contains}
use Rattle.std.specs.Prelude.{slice_index, slice_get}
use Rattle.std.proofs.lemmas.Bool.{cases_eq, true≢false}
use Rattle.std.proofs.lemmas.List.{get_or-map}
use Rattle.std.proofs.lemmas.List.Elements.{Contains-append_left, Contains-append_cases}
use Rattle.pg_group.specs.declared.messages.Body.{Body}
use Rattle.pg_group.specs.declared.messages.Vote.{Vote}
use Rattle.pg_group.specs.Ranked.{IsOther, list_at}
use Rattle.pg_group.specs.Rounds.{items_of_round}
use Rattle.pg_group.specs.Supersteps.{append_marks}
use Rattle.pg_group.proofs.RollLemmas.{round-to_come}
use Rattle.pg_adj.specs.Portions.{IsVertex}
use Rattle.pg_boruvka.specs.declared.TheConstants.{NO_KEY}
use Rattle.pg_boruvka.specs.declared.messages.Hook.{Hook}
use Rattle.pg_boruvka.specs.declared.messages.Message.{Message}
use Rattle.pg_boruvka.specs.declared.dense.Stage.TheVariants as stage
use Rattle.pg_boruvka.specs.Parts.{LocalArc, Part}
use Rattle.pg_boruvka.specs.Winners.{winner, first_label, labels_of, items_in}
use Rattle.pg_boruvka.specs.Hooks.{hooks_among, own_hooks, hooks_up_to, hooks_of, AreSoundBefore}
use Rattle.pg_boruvka.specs.LocalDense.{IsPresent, NoWinner, LocalDense}
use Rattle.pg_boruvka.specs.Steps.{ArePhase, in_next_round}
use Rattle.pg_boruvka.specs.Arcs.{relabelled, is_apart, AreLeasts}
use Rattle.pg_boruvka.specs.Lowered.{AreBegun}
use Rattle.pg_boruvka.specs.Noted.{noted, AreStill, own_hook_at}
use Rattle.pg_boruvka.specs.Chosen.{marked, AreMarked}
use Rattle.pg_boruvka.specs.Pointers.{AreMoved}
use Rattle.pg_boruvka.specs.Known.{Known, View, with_hooks, with_known, in_stage, label_of, round_of, state_of, stage_no}
use Rattle.pg_boruvka.specs.Shown.{AreSentSoFar, AreNotedOf, HasChosen}
use Rattle.pg_boruvka.proofs.Agreeing.{winners_agree}
use Rattle.pg_boruvka.proofs.Items.{none_in}
use Rattle.pg_boruvka.proofs.Stepping.{items_marks, going_on_keeps, ending_keeps}
use Rattle.pg_boruvka.proofs.DueMessages.{IsRegular, AgreeAt, winner_is, won_is_own, own_is_won}
use Rattle.pg_boruvka.proofs.Relabelled.{kept_on, leasts_on, kept_same, leasts_same}
use Rattle.pg_boruvka.proofs.BeginningPhases.{begun_winner}
use Rattle.pg_boruvka.proofs.EndingPhases.{next_phase}

-- The vote of a rank is among the votes.
vote_at : (votes : List Vote) (k : ℕ) → k < length votes → (vote : Vote) × (slice_get votes k ≡ Some vote)
vote_at [] k h = absurd (omega arith)
vote_at (v ∷ vs) zero h = (v, refl)
vote_at (v ∷ vs) (suc k) h = vote_at vs k (omega arith)

pub own_vote : (votes : List Vote) (k n : ℕ) (cast : Option Vote) → length votes ≡ n → k < n → slice_get votes k ≡ cast → (vote : Vote) × (cast ≡ Some vote)
own_vote votes k n cast each within mine = let found = vote_at votes k (omega arith) in (found.0, sym mine ∙ found.1)

-- The own list gets no mark.
pub alone_marks : (own : ℕ) (votes : List Vote) (lists : List (List (Body Message))) → list_at (append_marks own votes lists) own ≡ list_at lists own
alone_marks own [] lists = refl
alone_marks own (v ∷ vs) [] = refl
alone_marks zero (v ∷ vs) (l ∷ ls) = refl
alone_marks (suc own) (v ∷ vs) (l ∷ ls) = alone_marks own vs ls

-- A round of which no list has items.
none_of_all : (k : ℕ) (lists : List (List (Body Message))) → ((r : ℕ) → r < length lists → items_of_round k (list_at lists r) ≡ []) → items_in k lists ≡ []
none_of_all k [] none = refl
none_of_all k (l ∷ ls) none =
    let first : items_of_round k l ≡ [] = none 0 (omega arith) in
    let rest : items_in k ls ≡ [] = none_of_all k ls (λ r h. none (suc r) (omega arith)) in
    λ i. first i ++ rest i

no_vote : (vote : Vote) (cast : Option Vote) → cast ≡ Some vote → cast ≡ None → ⊥
no_vote vote cast some none = let bad : Some vote ≡ None = sym some ∙ none in cc

true_not_false : (b : Bool) → b ≡ false → b ≡ true → ⊥
true_not_false b low high = true≢false (sym high ∙ low)

up_not_hook : stage.Up ≡ stage.Hook → ⊥
up_not_hook e = cc

down_not_hook : stage.Down ≡ stage.Hook → ⊥
down_not_hook e = cc

no_hook : (o : Option Hook) (h : Hook) → o ≡ Some h → o ≡ None → ⊥
no_hook o h some none = let bad : Some h ≡ None = sym some ∙ none in cc

module _ (far : ℕ) (handled sent : List (List (Body Message))) (v : View) (regular : IsRegular v) (keeps : HasChosen far handled sent v) (votes : List Vote) (vote : Vote)
    (running : v.ended ≡ false) (each : length votes ≡ v.part.ranks) (cast : v.cast ≡ Some vote) where
  abbrev ended_round : List (List (Body Message))
  ended_round = append_marks v.part.rank votes handled

  same_items : (k : ℕ) → items_in k ended_round ≡ items_in k handled
  same_items k = items_marks k v.part.rank votes handled

  -- Nothing was handled yet in a round to come.
  none_handled : (k : ℕ) → round_of v < k → items_in k handled ≡ []
  none_handled k late = none_of_all k handled (λ r h. ⊎_elim
      (λ own. ap (λ (x : ℕ). items_of_round k (list_at handled x)) own ∙ ap (items_of_round k) keeps.alone)
      (λ apart. round-to_come k (list_at handled r) (omega (arith, late, keeps.local.counted.running running r (omega (arith, h, keeps.local.counted.from_each), apart))))
      (cases_eq r v.part.rank))

  same_winner : (label : ℕ → ℕ) (p : ℕ) → winner v.part ended_round label p ≡ winner v.part handled label p
  same_winner label p = winners_agree far v.part ended_round handled label p (same_items (3 * p)) (same_items (3 * p + 1))

  -- The present phase's labels and edges.
  this_phase : AreSoundBefore far v.part handled v.phase → (3 * v.phase ≤ round_of v) × (round_of v < 3 * v.phase + 3) → ArePhase far v.part handled v.phase (label_of v) (marked v.known.chosen)
  this_phase sound stands =
      let is = keeps.local.phase v.phase sound in
      let present : IsPresent v.phase (round_of v) = record { first = stands.0; last = stands.1 } in
      record {
        labels = λ x vertex. is.labels present x vertex;
        ascending = is.ascending present;
        chosen = λ i. is.edges present i;
      }

  -- In a new round nothing was passed, and nothing sent.
  fresh : (w : View) → w.part ≡ v.part → round_of w ≡ round_of v + 1 → w.to ≡ 0 → w.at ≡ 0 → AreSentSoFar sent w
  fresh w part round to at = record {
    due = λ r m other c.
        let there : IsOther v.part.rank v.part.ranks r = subst (λ (p : Part). IsOther p.rank p.ranks r) part other in
        absurd (none_in (items_of_round (round_of w) (list_at sent r)) m (keeps.local.counted.later r (round_of w) there (omega arith)) c);
    all = λ r m other p. ⊎_elim (λ early. absurd (omega (arith, early, to))) (λ late. absurd (omega (arith, late.1, at))) p.passed;
  }

  -- The law in the next round, by what is shown.
  next_local : (round : ℕ) (ended : Bool) (label : ℕ → ℕ) (edges : List ℕ) → round ≡ round_of v + 1 → ended ≡ false
      → LocalDense far v.part ended_round sent (in_next_round (state_of v) label edges)
      → LocalDense far v.part ended_round sent (record { round = round; cast = None; ended = ended; label = label; edges = edges })
  next_local round ended label edges r e local =
      subst (λ (x : ℕ). LocalDense far v.part ended_round sent (record { round = x; cast = None; ended = ended; label = label; edges = edges })) (sym r)
      (subst (λ (x : Bool). LocalDense far v.part ended_round sent (record { round = round_of v + 1; cast = None; ended = x; label = label; edges = edges })) (sym e) local)

  -- From the first round of a phase to the second.
  pub up_keeps : v.stage ≡ stage.Up → HasChosen far ended_round sent (in_stage v stage.Down)
  up_keeps at =
      let no : stage_no v.stage ≡ 0 = ap stage_no at in
      record {
        local = next_local (3 * v.phase + 1) v.ended (label_of v) (marked v.known.chosen) (omega arith) running
            (going_on_keeps far v.part handled sent (state_of v) votes vote (label_of v) (marked v.known.chosen) each cast running
            (λ sound second. absurd (omega arith))
            (λ sound. phase_as (omega arith) (this_phase (subst (AreSoundBefore far v.part handled) (omega arith) sound) (omega arith, omega arith)))
            keeps.local);
        gathered = record { arcs = keeps.gathered.arcs; leasts = keeps.gathered.leasts };
        alone = alone_marks v.part.rank votes handled ∙ keeps.alone;
        running = λ e. running;
        winners = λ e l vertex. keeps.winners running l vertex ∙ sym (ap (λ (w : ℕ → ℕ). w l) (same_winner (label_of v) v.phase));
        hooks = λ e is. absurd (down_not_hook is);
        sent_so_far = λ e. fresh (in_stage v stage.Down) refl (omega arith) refl refl;
      } where
        phase_as : {p : ℕ} → v.phase ≡ p → ArePhase far v.part handled v.phase (label_of v) (marked v.known.chosen) → ArePhase far v.part handled p (label_of v) (marked v.known.chosen)
        phase_as same are = subst (λ (q : ℕ). ArePhase far v.part handled q (label_of v) (marked v.known.chosen)) same are

  abbrev Over : Type 0
  Over = (l : ℕ) → 1 ≤ l → l < length v.known.labels → slice_index v.known.winners l ≡ NO_KEY

  over_by : AreSoundBefore far v.part handled v.phase → NoWinner far v.part handled v.phase → Over
  over_by sound none l first below =
      let vertex : IsVertex v.part.n l = record { first = first; last = omega (arith, below, regular.labels) } in
      winner_is far handled sent v regular keeps running sound l vertex ∙ none l vertex

  none_by : AreSoundBefore far v.part handled v.phase → Over → NoWinner far v.part handled v.phase
  none_by sound over l vertex =
      sym (winner_is far handled sent v regular keeps running sound l vertex) ∙ over l vertex.first (omega (arith, vertex.last, regular.labels))

  -- The last round.
  abbrev at_stop : View
  at_stop = record {
    part = v.part;
    stage = v.stage;
    phase = v.phase;
    to = v.to;
    at = v.at;
    cast = v.cast;
    ended = true;
    known = v.known;
  }

  pub stop_keeps : v.stage ≡ stage.Down → Over → HasChosen far ended_round sent at_stop
  stop_keeps at over =
      let no : stage_no v.stage ≡ 1 = ap stage_no at in
      record {
        local = ending_keeps far v.part handled sent (state_of v) votes vote each cast running
            (λ sound.
            let phase : round_of v / 3 ≡ v.phase = omega arith in
            (omega arith, subst (NoWinner far v.part handled) (sym phase) (none_by (subst (AreSoundBefore far v.part handled) phase sound) over)))
            keeps.local;
        gathered = record { arcs = keeps.gathered.arcs; leasts = keeps.gathered.leasts };
        alone = alone_marks v.part.rank votes handled ∙ keeps.alone;
        running = λ e. absurd (no_vote vote v.cast cast e);
        winners = λ e. absurd (true≢false e);
        hooks = λ e. absurd (true≢false e);
        sent_so_far = λ e. absurd (no_vote vote v.cast cast e);
      }

  -- From the second round of a phase to the third.
  module _ (targets edges : List ℕ) (at : v.stage ≡ stage.Down) (going : Over → ⊥) (first : noted targets edges 0 ≡ None)
      (own : (l : ℕ) → 1 ≤ l → l < length v.known.keys → noted targets edges l ≡ own_hook_at v.known.keys v.known.across v.known.winners l) (still : AreStill targets edges) where
    abbrev hooked : View
    hooked = in_stage (with_known v (with_hooks v.known targets edges)) stage.Hook

    these : List Hook
    these = hooks_up_to v.part (label_of v) (winner v.part handled (label_of v) v.phase) v.part.n

    second : stage_no v.stage ≡ 1
    second = ap stage_no at

    none_yet : items_in (3 * v.phase + 2) ended_round ≡ []
    none_yet = same_items (3 * v.phase + 2) ∙ none_handled (3 * v.phase + 2) (let two = second in omega arith)

    own_these : own_hooks v.part ended_round (label_of v) v.phase ≡ these
    unfolding these
    own_these = ap (λ (w : ℕ → ℕ). hooks_up_to v.part (label_of v) w v.part.n) (same_winner (label_of v) v.phase)

    of_these : (h : Hook) → Contains these h → Contains (hooks_of v.part ended_round (label_of v) v.phase) h
    of_these h c =
        Contains-append_left (own_hooks v.part ended_round (label_of v) v.phase) (hooks_among v.part (items_in (3 * v.phase + 2) ended_round)) h
        (subst (λ (x : List Hook). Contains x h) (sym own_these) c)

    are_these : (h : Hook) → Contains (hooks_of v.part ended_round (label_of v) v.phase) h → Contains these h
    are_these h c = ⊎_elim
        (λ found. subst (λ (x : List Hook). Contains x h) own_these found)
        (λ late. absurd (none_in (hooks_among v.part (items_in (3 * v.phase + 2) ended_round)) h (ap (hooks_among v.part) none_yet) late))
        (Contains-append_cases (own_hooks v.part ended_round (label_of v) v.phase) (hooks_among v.part (items_in (3 * v.phase + 2) ended_round)) h c)

    won : (l : ℕ) (h : Hook) → IsVertex v.part.n l → own_hook_at v.known.keys v.known.across v.known.winners l ≡ Some h → Contains these h
    unfolding these
    won = won_is_own v.part (label_of v) (winner v.part handled (label_of v) v.phase) v.known.keys v.known.across v.known.winners keeps.gathered.leasts regular.keys regular.orderly (keeps.winners running)

    is_won : (h : Hook) → Contains these h → IsVertex v.part.n h.source × (own_hook_at v.known.keys v.known.across v.known.winners h.source ≡ Some h)
    unfolding these
    is_won = own_is_won v.part (label_of v) (winner v.part handled (label_of v) v.phase) v.known.keys v.known.across v.known.winners keeps.gathered.leasts regular.keys regular.orderly (keeps.winners running)

    noted_won : (l : ℕ) (h : Hook) → l ≤ v.part.n → noted targets edges l ≡ Some h → Contains these h
    noted_won zero h last e = absurd (no_hook (noted targets edges 0) h e first)
    noted_won (suc l) h last e =
        won (suc l) h (record { first = omega arith; last = last }) (sym (own (suc l) (omega arith) (omega (arith, regular.keys, last))) ∙ e)

    noted_own : AreNotedOf (hooks_of v.part ended_round (label_of v) v.phase) hooked
    noted_own = record {
      some = λ l h last e. of_these h (noted_won l h last e);
      all = λ h c e.
          let is = is_won h (are_these h c) in
          no_hook (noted targets edges h.source) h (own h.source is.0.first (omega (arith, is.0.last, regular.keys)) ∙ is.1) e;
      still = still;
    }

    pub down_keeps : HasChosen far ended_round sent hooked
    down_keeps =
        let no : stage_no v.stage ≡ 1 = ap stage_no at in
        record {
          local = next_local (3 * v.phase + 2) v.ended (label_of v) (marked v.known.chosen) (omega arith) running
              (going_on_keeps far v.part handled sent (state_of v) votes vote (label_of v) (marked v.known.chosen) each cast running
              (λ sound is none.
              let phase : round_of v / 3 ≡ v.phase = omega arith in
              going (over_by (subst (AreSoundBefore far v.part handled) phase sound) (subst (NoWinner far v.part handled) phase none)))
              (λ sound. phase_as (omega arith) (this_phase (subst (AreSoundBefore far v.part handled) (omega arith) sound) (omega arith, omega arith)))
              keeps.local);
          gathered = record { arcs = keeps.gathered.arcs; leasts = keeps.gathered.leasts };
          alone = alone_marks v.part.rank votes handled ∙ keeps.alone;
          running = λ e. running;
          winners = λ e l vertex. keeps.winners running l vertex ∙ sym (ap (λ (w : ℕ → ℕ). w l) (same_winner (label_of v) v.phase));
          hooks = λ e is. noted_own;
          sent_so_far = λ e. fresh hooked refl (omega arith) refl refl;
        } where
          phase_as : {p : ℕ} → v.phase ≡ p → ArePhase far v.part handled v.phase (label_of v) (marked v.known.chosen) → ArePhase far v.part handled p (label_of v) (marked v.known.chosen)
          phase_as same are = subst (λ (q : ℕ). ArePhase far v.part handled q (label_of v) (marked v.known.chosen)) same are

  -- From the last round of a phase to the next phase, which knows this.
  module _ (k : Known) (to_chosen : length k.chosen ≡ length v.known.chosen) (first past : ℕ) (at : v.stage ≡ stage.Hook)
      (moved : AreMoved far v.known.targets v.known.labels k.labels) (pointers : List ℕ) (mapped : k.labels ≡ map (slice_index pointers) v.known.labels)
      (grown : AreMarked v.known.edges v.known.chosen k.chosen) (arcs : k.arcs ≡ map (relabelled (slice_index pointers)) (filter (is_apart (slice_index pointers)) v.known.arcs))
      (leasts : AreLeasts v.known.arcs (slice_index pointers) k.keys k.across)
      (begun : AreBegun k.keys first past k.winners) (is_first : first ≡ first_label v.part v.part.rank) (is_past : past ≡ first_label v.part v.part.rank + labels_of v.part v.part.rank)
      (each_key : length k.keys ≡ v.part.n + 1) (each_winner : length k.winners ≡ v.part.n + 1) where
    abbrev next : View
    next = record {
      part = v.part;
      stage = stage.Up;
      phase = v.phase + 1;
      to = 0;
      at = 0;
      cast = None;
      ended = v.ended;
      known = k;
    }

    third : stage_no v.stage ≡ 2
    third = ap stage_no at

    -- Each vertex has the label to which its last one leads.
    abbrev led : ℕ → ℕ
    led x = slice_index pointers (label_of v x)

    leads : AgreeAt v.part.n led (slice_index k.labels)
    leads x vertex = sym (ap (λ (l : List ℕ). slice_index l x) mapped ∙ get_or-map (slice_index pointers) v.known.labels x 0 0 (omega (arith, vertex.last, regular.labels)))

    arcs_then : k.arcs ≡ map (relabelled (slice_index k.labels)) (filter (is_apart (slice_index k.labels)) v.part.arcs)
    arcs_then =
        arcs ∙ ap (λ (x : List LocalArc). map (relabelled (slice_index pointers)) (filter (is_apart (slice_index pointers)) x)) keeps.gathered.arcs
        ∙ kept_on v.part.arcs (label_of v) (slice_index pointers) ∙ kept_same v.part led (slice_index k.labels) regular.orderly leads

    leasts_then : AreLeasts v.part.arcs (slice_index k.labels) k.keys k.across
    leasts_then = leasts_same v.part led (slice_index k.labels) regular.orderly leads k.keys k.across
        (leasts_on v.part.arcs (label_of v) (slice_index pointers) k.keys k.across
        (subst (λ (x : List LocalArc). AreLeasts x (slice_index pointers) k.keys k.across) keeps.gathered.arcs leasts))

    none_next : (j : ℕ) → round_of v < j → items_in j ended_round ≡ []
    none_next j late = same_items j ∙ none_handled j late

    pub phase_keeps : HasChosen far ended_round sent next
    phase_keeps =
        let no : stage_no v.stage ≡ 2 = ap stage_no at in
        record {
          local = next_local (3 * (v.phase + 1) + 0) v.ended (slice_index k.labels) (marked k.chosen) (omega arith) running
              (going_on_keeps far v.part handled sent (state_of v) votes vote (slice_index k.labels) (marked k.chosen) each cast running
              (λ sound is none. absurd (omega arith))
              (λ sound. phase_as (omega arith)
              (next_phase far handled sent v regular keeps running at k.labels k.chosen moved grown to_chosen (subst (AreSoundBefore far v.part handled) (omega arith) sound)))
              keeps.local);
          gathered = record { arcs = arcs_then; leasts = leasts_then };
          alone = alone_marks v.part.rank votes handled ∙ keeps.alone;
          running = λ e. running;
          winners = λ e l vertex.
              begun_winner v.part ended_round (slice_index k.labels) (v.phase + 1) k.keys k.across k.winners first past regular.rank regular.orderly
              (none_next (3 * (v.phase + 1)) (omega arith)) (none_next (3 * (v.phase + 1) + 1) (omega arith)) leasts_then each_key each_winner is_first is_past begun l vertex;
          hooks = λ e is. absurd (up_not_hook is);
          sent_so_far = λ e. fresh next refl (omega arith) refl refl;
        } where
          phase_as : {p : ℕ} → v.phase + 1 ≡ p → ArePhase far v.part handled (v.phase + 1) (slice_index k.labels) (marked k.chosen) → ArePhase far v.part handled p (slice_index k.labels) (marked k.chosen)
          phase_as same are = subst (λ (q : ℕ). ArePhase far v.part handled q (slice_index k.labels) (marked k.chosen)) same are
