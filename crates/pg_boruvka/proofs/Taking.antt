-- A rank keeps its promise when it handles a message.
use Rattle.std.proofs.Common.{◌≡◌, ◌≢◌, ◌==◌, ◌⊎◌, ℕ, zero, suc, ◌+◌, ◌*◌, ◌/◌, ◌%◌, ◌<◌, ◌≤◌, Bool, true, false, List, [], ◌∷◌, ◌++◌, length, refl, sym, ◌∙◌, ap, subst, inl, inr, ⊎_elim, arith, Option, Some, None, Contains}
use Rattle.std.specs.Prelude.{min, slice_index, if◌then◌else◌}
use Rattle.std.proofs.lemmas.Bool.{cases_eq, cases_lt, ne_eqb, cond-false, cases_Bool, true≢false}
use Rattle.std.proofs.lemmas.List.Elements.{Contains-append_left, Contains-append_right, Contains-append_cases}
use Rattle.pg_group.specs.declared.messages.Body.{Body}
use Rattle.pg_group.specs.declared.messages.Body.TheVariants.{Item, Mark}
use Rattle.pg_group.specs.Ranked.{IsOther, list_at, append_at}
use Rattle.pg_group.specs.Rounds.{marks, items_of_round}
use Rattle.pg_group.proofs.RollLemmas.{list_at-append_else}
use Rattle.pg_adj.specs.Portions.{IsVertex}
use Rattle.pg_boruvka.specs.declared.TheConstants.{NO_KEY}
use Rattle.pg_boruvka.specs.declared.hooks.TheConstants.{NO_EDGE}
use Rattle.pg_boruvka.specs.declared.messages.Hook.{Hook}
use Rattle.pg_boruvka.specs.declared.messages.Piece.{Piece}
use Rattle.pg_boruvka.specs.declared.messages.Message.{Message}
use Rattle.pg_boruvka.specs.declared.messages.Message.TheVariants.{Piece as Keys, Hook as Hooked}
use Rattle.pg_boruvka.specs.declared.dense.Stage.{Stage}
use Rattle.pg_boruvka.specs.declared.dense.Stage.TheVariants as stage
use Rattle.pg_boruvka.specs.Parts.{Part}
use Rattle.pg_boruvka.specs.Winners.{own_key, winner, first_label, labels_of, least, given_key, given_keys, items_in}
use Rattle.pg_boruvka.specs.Hooks.{is_within, hooks_among, own_hooks, hooks_up_to, hooks_of}
use Rattle.pg_boruvka.specs.LocalDense.{LocalDense}
use Rattle.pg_boruvka.specs.Lowered.{IsBetween}
use Rattle.pg_boruvka.specs.Noted.{noted, AreStill, IsNoted, own_hook_by}
use Rattle.pg_boruvka.specs.Numbered.{IsPieceNo}
use Rattle.pg_boruvka.specs.Known.{Known, View, with_winners, with_hooks, with_known, label_of, round_of, state_of, stage_no}
use Rattle.pg_boruvka.specs.Shown.{IsIn, IsAt, IsPassedMessage, AreSentSoFar, IsGathered, AreNotedOf, HasChosen}
use Rattle.pg_boruvka.specs.Calls.{IsOwnLabel, Counts, AreMerged, IsTaken}
use Rattle.pg_boruvka.proofs.Agreeing.{own_hooks_agree}
use Rattle.pg_boruvka.proofs.Keeping.{handling_keeps, pieces_same}
use Rattle.pg_boruvka.proofs.Handled.{Grown, items_grown, items_same, least_grown, least_small, hooks_grown, hooks_stay, hook_joins, own_cases, own_winner, other_winner}

-- Keys that agree on a block give the same pieces of it, by number.
pub numbered_same : (key key' : ℕ → ℕ) (first count number : ℕ) (m : Message) → ((l : ℕ) → IsBetween first (first + count) l → key l ≡ key' l) → IsPieceNo key first count number m → IsPieceNo key' first count number m
numbered_same key key' first count number m same is =
    let below = is.below in
    record {
      offset = is.offset;
      below = is.below;
      stands = is.stands;
      used = λ e. is.used (same (first + is.offset) (record { from = omega arith; before = omega (arith, below) }) ∙ e);
      is = is.is ∙ pieces_same key key' (first + count) (first + number * 8) (λ l low high. same l (record { from = omega (arith, low); before = high }));
    }

module _ (part : Part) (handled : List (List (Body Message))) (label : ℕ → ℕ) (p from : ℕ) (m : Message) (rank : part.rank < part.ranks) (here : from < length handled) where
  abbrev more : List (List (Body Message))
  more = append_at handled from (Item m)

  least_same : (k l : ℕ) → (marks (list_at handled from) ≡ k → ⊥) → least (given_keys l (items_in k more)) ≡ least (given_keys l (items_in k handled))
  least_same k l apart = ap (λ (x : List Message). least (given_keys l x)) (items_same k handled from m apart)

  least_more : (k l : ℕ) → marks (list_at handled from) ≡ k → least (given_keys l (items_in k more)) ≡ min (least (given_keys l (items_in k handled))) (given_key l m)
  least_more k l at = least_grown l m (items_in k handled) (items_in k more) (items_grown k handled from m here at)

  -- In the first round of the phase the message counts for own labels, and in the second for the others.
  pub up_own : (l : ℕ) → marks (list_at handled from) ≡ 3 * p → IsOwnLabel part l → winner part more label p l ≡ min (winner part handled label p l) (given_key l m)
  up_own l at own =
      own_winner part more label p l own
      ∙ (ap (min (own_key part label l)) (least_more (3 * p) l at)
      ∙ (grouped (own_key part label l) (least (given_keys l (items_in (3 * p) handled))) (given_key l m)
      ∙ ap (λ (x : ℕ). min x (given_key l m)) (sym (own_winner part handled label p l own)))) where
        grouped : (a b c : ℕ) → min a (min b c) ≡ min (min a b) c
        grouped a b c = omega arith

  pub up_other : (l : ℕ) → marks (list_at handled from) ≡ 3 * p → IsVertex part.n l → (IsOwnLabel part l → ⊥) → winner part more label p l ≡ winner part handled label p l
  up_other l at vertex other =
      other_winner part more label p l rank vertex other
      ∙ (least_same (3 * p + 1) l (λ e. omega (arith, e, at)) ∙ sym (other_winner part handled label p l rank vertex other))

  pub down_own : (l : ℕ) → marks (list_at handled from) ≡ 3 * p + 1 → IsOwnLabel part l → winner part more label p l ≡ winner part handled label p l
  down_own l at own =
      own_winner part more label p l own
      ∙ (ap (min (own_key part label l)) (least_same (3 * p) l (λ e. omega (arith, e, at))) ∙ sym (own_winner part handled label p l own))

  pub down_other : (l : ℕ) → marks (list_at handled from) ≡ 3 * p + 1 → IsVertex part.n l → (IsOwnLabel part l → ⊥) → winner part more label p l ≡ min (winner part handled label p l) (given_key l m)
  down_other l at vertex other =
      other_winner part more label p l rank vertex other
      ∙ (least_more (3 * p + 1) l at ∙ ap (λ (x : ℕ). min x (given_key l m)) (sym (other_winner part handled label p l rank vertex other)))

  pub hook_same : (l : ℕ) → marks (list_at handled from) ≡ 3 * p + 2 → IsVertex part.n l → winner part more label p l ≡ winner part handled label p l
  hook_same l at vertex = ⊎_elim
      (λ own.
      own_winner part more label p l own
      ∙ (ap (min (own_key part label l)) (least_same (3 * p) l (λ e. omega (arith, e, at))) ∙ sym (own_winner part handled label p l own)))
      (λ other.
      other_winner part more label p l rank vertex other
      ∙ (least_same (3 * p + 1) l (λ e. omega (arith, e, at)) ∙ sym (other_winner part handled label p l rank vertex other)))
      (own_cases part l)

  -- In the last round of the phase the own hooks stay.
  pub own_hooks_same : marks (list_at handled from) ≡ 3 * p + 2 → own_hooks part more label p ≡ own_hooks part handled label p
  own_hooks_same at =
      own_hooks_agree 0 part more handled label p
      (items_same (3 * p) handled from m (λ e. omega (arith, e, at)))
      (items_same (3 * p + 1) handled from m (λ e. omega (arith, e, at)))

  -- The hooks in the last round: one more, if the message is one.
  pub hooks_of_more : (h : Hook) → marks (list_at handled from) ≡ 3 * p + 2 → Contains (hooks_of part more label p) h
      → ((m ≡ Hooked h) × (is_within part h ≡ true)) ⊎ Contains (hooks_of part handled label p) h
  hooks_of_more h at c = ⊎_elim
      (λ own. inr (Contains-append_left (own_hooks part handled label p) (hooks_among part (items_in (3 * p + 2) handled)) h (subst (λ (x : List Hook). Contains x h) (own_hooks_same at) own)))
      (λ late. ⊎_elim
      (λ same. inl same)
      (λ there. inr (Contains-append_right (own_hooks part handled label p) (hooks_among part (items_in (3 * p + 2) handled)) h there))
      (hooks_grown part m (items_in (3 * p + 2) handled) (items_in (3 * p + 2) more) h (items_grown (3 * p + 2) handled from m here at) late))
      (Contains-append_cases (own_hooks part more label p) (hooks_among part (items_in (3 * p + 2) more)) h c)

  pub hooks_of_stay : (h : Hook) → marks (list_at handled from) ≡ 3 * p + 2 → Contains (hooks_of part handled label p) h → Contains (hooks_of part more label p) h
  hooks_of_stay h at c = ⊎_elim
      (λ own. Contains-append_left (own_hooks part more label p) (hooks_among part (items_in (3 * p + 2) more)) h (subst (λ (x : List Hook). Contains x h) (sym (own_hooks_same at)) own))
      (λ late. Contains-append_right (own_hooks part more label p) (hooks_among part (items_in (3 * p + 2) more)) h
      (hooks_stay part m (items_in (3 * p + 2) handled) (items_in (3 * p + 2) more) h (items_grown (3 * p + 2) handled from m here at) late))
      (Contains-append_cases (own_hooks part handled label p) (hooks_among part (items_in (3 * p + 2) handled)) h c)

  pub hook_of_joins : (h : Hook) → m ≡ Hooked h → is_within part h ≡ true → marks (list_at handled from) ≡ 3 * p + 2 → Contains (hooks_of part more label p) h
  hook_of_joins h is within at =
      Contains-append_right (own_hooks part more label p) (hooks_among part (items_in (3 * p + 2) more)) h
      (hook_joins part (items_in (3 * p + 2) handled) (items_in (3 * p + 2) more) h
      (subst (λ (x : Message). Grown x (items_in (3 * p + 2) handled) (items_in (3 * p + 2) more)) is (items_grown (3 * p + 2) handled from m here at)) within)

-- What is the same in every message that is handled.
module _ (far : ℕ) (handled sent : List (List (Body Message))) (v : View) (from : ℕ) (m : Message) (rank : v.part.rank < v.part.ranks) (other : IsOther v.part.rank v.part.ranks from) (keeps : HasChosen far handled sent v) where
  pub in_here : from < length handled
  in_here = omega (arith, other.0, keeps.local.counted.from_each)

  pub marks_here : v.ended ≡ false → marks (list_at handled from) ≡ 3 * v.phase + stage_no v.stage
  marks_here running = keeps.local.counted.running running from other

  pub local_more : LocalDense far v.part (append_at handled from (Item m)) sent (state_of v)
  local_more = handling_keeps far v.part handled sent (state_of v) from m other keeps.local

  pub alone_more : list_at (append_at handled from (Item m)) v.part.rank ≡ []
  alone_more = list_at-append_else handled from v.part.rank (Item m) (λ e. other.1 (sym e)) ∙ keeps.alone

module _ (far : ℕ) (handled sent : List (List (Body Message))) (v : View) (from : ℕ) (piece : Piece) (winners : List ℕ) (rank : v.part.rank < v.part.ranks) (other : IsOther v.part.rank v.part.ranks from)
    (merged : AreMerged v piece winners) (keeps : HasChosen far handled sent v) where
  abbrev m : Message
  m = Keys piece

  abbrev new : View
  new = with_known v (with_winners v.known winners)

  merged_winners : (s : Stage) → v.stage ≡ s → v.ended ≡ false → (l : ℕ) → IsVertex v.part.n l → IsOwnLabel v.part l ⊎ (IsOwnLabel v.part l → ⊥)
      → slice_index winners l ≡ winner v.part (append_at handled from (Item m)) (label_of v) v.phase l
  merged_winners stage.Up is running l vertex (inl own) =
      let at : marks (list_at handled from) ≡ 3 * v.phase = marks_here far handled sent v from m rank other keeps running ∙ (ap (λ (s : Stage). 3 * v.phase + stage_no s) is ∙ omega arith) in
      merged.counting l (subst (λ (s : Stage). Counts v.part s l) (sym is) own)
      ∙ (ap (λ (x : ℕ). min x (given_key l m)) (keeps.winners running l vertex)
      ∙ sym (up_own v.part handled (label_of v) v.phase from m rank (in_here far handled sent v from m rank other keeps) l at own))
  merged_winners stage.Up is running l vertex (inr apart) =
      let at : marks (list_at handled from) ≡ 3 * v.phase = marks_here far handled sent v from m rank other keeps running ∙ (ap (λ (s : Stage). 3 * v.phase + stage_no s) is ∙ omega arith) in
      merged.others l (λ c. apart (subst (λ (s : Stage). Counts v.part s l) is c))
      ∙ (keeps.winners running l vertex
      ∙ sym (up_other v.part handled (label_of v) v.phase from m rank (in_here far handled sent v from m rank other keeps) l at vertex apart))
  merged_winners stage.Down is running l vertex (inl own) =
      let at : marks (list_at handled from) ≡ 3 * v.phase + 1 = marks_here far handled sent v from m rank other keeps running ∙ ap (λ (s : Stage). 3 * v.phase + stage_no s) is in
      merged.others l (λ c. (subst (λ (s : Stage). Counts v.part s l) is c).1 own)
      ∙ (keeps.winners running l vertex
      ∙ sym (down_own v.part handled (label_of v) v.phase from m rank (in_here far handled sent v from m rank other keeps) l at own))
  merged_winners stage.Down is running l vertex (inr apart) =
      let at : marks (list_at handled from) ≡ 3 * v.phase + 1 = marks_here far handled sent v from m rank other keeps running ∙ ap (λ (s : Stage). 3 * v.phase + stage_no s) is in
      merged.counting l (subst (λ (s : Stage). Counts v.part s l) (sym is) (vertex, apart))
      ∙ (ap (λ (x : ℕ). min x (given_key l m)) (keeps.winners running l vertex)
      ∙ sym (down_other v.part handled (label_of v) v.phase from m rank (in_here far handled sent v from m rank other keeps) l at vertex apart))
  merged_winners stage.Hook is running l vertex any =
      let at : marks (list_at handled from) ≡ 3 * v.phase + 2 = marks_here far handled sent v from m rank other keeps running ∙ ap (λ (s : Stage). 3 * v.phase + stage_no s) is in
      merged.others l (λ c. subst (λ (s : Stage). Counts v.part s l) is c)
      ∙ (keeps.winners running l vertex
      ∙ sym (hook_same v.part handled (label_of v) v.phase from m rank (in_here far handled sent v from m rank other keeps) l at vertex))

  not_keys : (h : Hook) → m ≡ Hooked h → ⊥
  not_keys h e = cc

  merged_hooks : v.ended ≡ false → v.stage ≡ stage.Hook → AreNotedOf (hooks_of v.part (append_at handled from (Item m)) (label_of v) v.phase) new
  merged_hooks running is =
      let at : marks (list_at handled from) ≡ 3 * v.phase + 2 = marks_here far handled sent v from m rank other keeps running ∙ ap (λ (s : Stage). 3 * v.phase + stage_no s) is in
      let here = in_here far handled sent v from m rank other keeps in
      let was = keeps.hooks running is in
      record {
        some = λ l h last e. hooks_of_stay v.part handled (label_of v) v.phase from m rank here h at (was.some l h last e);
        all = λ h c e. ⊎_elim (λ bad. absurd (not_keys h bad.0)) (λ old. was.all h old e) (hooks_of_more v.part handled (label_of v) v.phase from m rank here h at c);
        still = was.still;
      }

  -- What is due in this round stays.
  same_in : (s : Stage) → v.stage ≡ s → (to number : ℕ) (o : Message) → IsIn v s to number o → IsIn new s to number o
  same_in stage.Up is to number o at = at
  same_in stage.Down is to number o at =
      numbered_same (slice_index v.known.winners) (slice_index winners) (first_label v.part v.part.rank) (labels_of v.part v.part.rank) number o
      (λ l own. sym (merged.others l (λ c. (subst (λ (s : Stage). Counts v.part s l) is c).1 own))) at
  same_in stage.Hook is to number o at =
      let same : slice_index winners number ≡ slice_index v.known.winners number = merged.others number (λ c. subst (λ (s : Stage). Counts v.part s number) is c) in
      record {
        hook = at.hook;
        label = at.label;
        own = ap (own_hook_by number (slice_index v.known.keys number) (slice_index v.known.across number)) same ∙ at.own;
        is = at.is;
      }

  same_back : (s : Stage) → v.stage ≡ s → (to number : ℕ) (o : Message) → IsIn new s to number o → IsIn v s to number o
  same_back stage.Up is to number o at = at
  same_back stage.Down is to number o at =
      numbered_same (slice_index winners) (slice_index v.known.winners) (first_label v.part v.part.rank) (labels_of v.part v.part.rank) number o
      (λ l own. merged.others l (λ c. (subst (λ (s : Stage). Counts v.part s l) is c).1 own)) at
  same_back stage.Hook is to number o at =
      let same : slice_index winners number ≡ slice_index v.known.winners number = merged.others number (λ c. subst (λ (s : Stage). Counts v.part s number) is c) in
      record {
        hook = at.hook;
        label = at.label;
        own = ap (own_hook_by number (slice_index v.known.keys number) (slice_index v.known.across number)) (sym same) ∙ at.own;
        is = at.is;
      }

  pub merged_keeps : HasChosen far (append_at handled from (Item m)) sent new
  merged_keeps = record {
    local = local_more far handled sent v from m rank other keeps;
    gathered = record { arcs = keeps.gathered.arcs; leasts = keeps.gathered.leasts };
    alone = alone_more far handled sent v from m rank other keeps;
    running = keeps.running;
    winners = λ running l vertex. merged_winners v.stage refl running l vertex (own_cases v.part l);
    hooks = merged_hooks;
    sent_so_far = λ uncast.
        let was = keeps.sent_so_far uncast in
        record {
          due = λ to o far c. let old = was.due to o far c in record { number = old.number; passed = old.passed; is = same_in v.stage refl to old.number o old.is };
          all = λ to o far passed. was.all to o far (record { number = passed.number; passed = passed.passed; is = same_back v.stage refl to passed.number o passed.is });
        };
  }

hooked_same : (g h : Hook) → Hooked g ≡ Hooked h → g ≡ h
hooked_same g h e = cc

some_hook : (g h : Hook) → Some g ≡ Some h → g ≡ h
some_hook g h e = cc

none_some : (h : Hook) → None ≡ Some h → ⊥
none_some h e = cc

no_hook : (o : Option Hook) (h : Hook) → o ≡ Some h → o ≡ None → ⊥
no_hook o h some none = none_some h (sym none ∙ some)

module _ (far : ℕ) (handled sent : List (List (Body Message))) (v : View) (from : ℕ) (h : Hook) (targets edges : List ℕ) (rank : v.part.rank < v.part.ranks) (other : IsOther v.part.rank v.part.ranks from)
    (taken : IsTaken v h targets edges) (keeps : HasChosen far handled sent v) where
  abbrev g : Message
  g = Hooked h

  abbrev after : View
  after = with_known v (with_hooks v.known targets edges)

  min_small : (x : ℕ) → x ≤ NO_KEY → min x (given_key 0 g) ≡ x
  min_small x small = omega arith

  winner_small : (l : ℕ) → IsVertex v.part.n l → winner v.part handled (label_of v) v.phase l ≤ NO_KEY
  winner_small l vertex = ⊎_elim
      (λ own. omega (arith, own_winner v.part handled (label_of v) v.phase l own, least_small (given_keys l (items_in (3 * v.phase) handled))))
      (λ apart. omega (arith, other_winner v.part handled (label_of v) v.phase l rank vertex apart, least_small (given_keys l (items_in (3 * v.phase + 1) handled))))
      (own_cases v.part l)

  -- A hook gives no key.
  taken_winners : (s : Stage) → v.stage ≡ s → v.ended ≡ false → (l : ℕ) → IsVertex v.part.n l → IsOwnLabel v.part l ⊎ (IsOwnLabel v.part l → ⊥)
      → winner v.part handled (label_of v) v.phase l ≡ winner v.part (append_at handled from (Item g)) (label_of v) v.phase l
  taken_winners stage.Up is running l vertex (inl own) =
      let at : marks (list_at handled from) ≡ 3 * v.phase = marks_here far handled sent v from g rank other keeps running ∙ (ap (λ (s : Stage). 3 * v.phase + stage_no s) is ∙ omega arith) in
      sym (up_own v.part handled (label_of v) v.phase from g rank (in_here far handled sent v from g rank other keeps) l at own ∙ min_small (winner v.part handled (label_of v) v.phase l) (winner_small l vertex))
  taken_winners stage.Up is running l vertex (inr apart) =
      let at : marks (list_at handled from) ≡ 3 * v.phase = marks_here far handled sent v from g rank other keeps running ∙ (ap (λ (s : Stage). 3 * v.phase + stage_no s) is ∙ omega arith) in
      sym (up_other v.part handled (label_of v) v.phase from g rank (in_here far handled sent v from g rank other keeps) l at vertex apart)
  taken_winners stage.Down is running l vertex (inl own) =
      let at : marks (list_at handled from) ≡ 3 * v.phase + 1 = marks_here far handled sent v from g rank other keeps running ∙ ap (λ (s : Stage). 3 * v.phase + stage_no s) is in
      sym (down_own v.part handled (label_of v) v.phase from g rank (in_here far handled sent v from g rank other keeps) l at own)
  taken_winners stage.Down is running l vertex (inr apart) =
      let at : marks (list_at handled from) ≡ 3 * v.phase + 1 = marks_here far handled sent v from g rank other keeps running ∙ ap (λ (s : Stage). 3 * v.phase + stage_no s) is in
      sym (down_other v.part handled (label_of v) v.phase from g rank (in_here far handled sent v from g rank other keeps) l at vertex apart ∙ min_small (winner v.part handled (label_of v) v.phase l) (winner_small l vertex))
  taken_winners stage.Hook is running l vertex any =
      let at : marks (list_at handled from) ≡ 3 * v.phase + 2 = marks_here far handled sent v from g rank other keeps running ∙ ap (λ (s : Stage). 3 * v.phase + stage_no s) is in
      sym (hook_same v.part handled (label_of v) v.phase from g rank (in_here far handled sent v from g rank other keeps) l at vertex)

  taken_hooks : (within : Bool) → is_within v.part h ≡ within → v.ended ≡ false → v.stage ≡ stage.Hook → AreNotedOf (hooks_of v.part (append_at handled from (Item g)) (label_of v) v.phase) after
  taken_hooks true within running is =
      let at : marks (list_at handled from) ≡ 3 * v.phase + 2 = marks_here far handled sent v from g rank other keeps running ∙ ap (λ (s : Stage). 3 * v.phase + stage_no s) is in
      let here = in_here far handled sent v from g rank other keeps in
      let was = keeps.hooks running is in
      let note = taken.within is within in
      let joins : Contains (hooks_of v.part (append_at handled from (Item g)) (label_of v) v.phase) h = hook_of_joins v.part handled (label_of v) v.phase from g rank here h refl within at in
      record {
        some = λ l f last e. ⊎_elim
            (λ same. ⊎_elim
            (λ first. subst (Contains (hooks_of v.part (append_at handled from (Item g)) (label_of v) v.phase))
            (some_hook h f (sym (note.first first) ∙ (ap (noted targets edges) (sym same) ∙ e))) joins)
            (λ later. hooks_of_stay v.part handled (label_of v) v.phase from g rank here f at
            (was.some h.source f (subst (λ (x : ℕ). x ≤ v.part.n) same last) (sym (note.later later) ∙ (ap (noted targets edges) (sym same) ∙ e))))
            (cases_eq (slice_index v.known.edges h.source) NO_EDGE))
            (λ apart. hooks_of_stay v.part handled (label_of v) v.phase from g rank here f at (was.some l f last (sym (note.others l apart) ∙ e)))
            (cases_eq l h.source);
        all = λ f c e. ⊎_elim
            (λ is_h. has_one f (ap (λ (x : Hook). x.source) (sym (hooked_same h f is_h.0))) e (cases_eq (slice_index v.known.edges h.source) NO_EDGE))
            (λ old. ⊎_elim
            (λ same. has_one f same e (cases_eq (slice_index v.known.edges h.source) NO_EDGE))
            (λ apart. was.all f old (sym (note.others f.source apart) ∙ e))
            (cases_eq f.source h.source))
            (hooks_of_more v.part handled (label_of v) v.phase from g rank here f at c);
        still = taken.still was.still;
      } where
        has_one : (f : Hook) → f.source ≡ h.source → noted targets edges f.source ≡ None → (slice_index v.known.edges h.source ≡ NO_EDGE) ⊎ (slice_index v.known.edges h.source ≢ NO_EDGE) → ⊥
        has_one f same e (inl first) = no_hook (noted targets edges h.source) h ((taken.within is within).first first) (ap (noted targets edges) (sym same) ∙ e)
        has_one f same e (inr later) =
            let old : noted v.known.targets v.known.edges h.source ≡ Some (record { source = h.source; target = slice_index v.known.targets h.source; edge = slice_index v.known.edges h.source }) =
            cond-false (slice_index v.known.edges h.source == NO_EDGE) None (Some (record { source = h.source; target = slice_index v.known.targets h.source; edge = slice_index v.known.edges h.source }))
            (ne_eqb (slice_index v.known.edges h.source) NO_EDGE later) in
            no_hook (noted targets edges h.source) (record { source = h.source; target = slice_index v.known.targets h.source; edge = slice_index v.known.edges h.source })
            ((taken.within is within).later later ∙ old) (ap (noted targets edges) (sym same) ∙ e)
  taken_hooks false within running is =
      let at : marks (list_at handled from) ≡ 3 * v.phase + 2 = marks_here far handled sent v from g rank other keeps running ∙ ap (λ (s : Stage). 3 * v.phase + stage_no s) is in
      let here = in_here far handled sent v from g rank other keeps in
      let was = keeps.hooks running is in
      let same = taken.ignored within in
      record {
        some = λ l f last e. hooks_of_stay v.part handled (label_of v) v.phase from g rank here f at
            (was.some l f last ((λ i. noted (sym same.0 i) (sym same.1 i) l) ∙ e));
        all = λ f c e. ⊎_elim
            (λ is_h. absurd (true≢false (sym is_h.1 ∙ (ap (is_within v.part) (sym (hooked_same h f is_h.0)) ∙ within))))
            (λ old. was.all f old ((λ i. noted (sym same.0 i) (sym same.1 i) f.source) ∙ e))
            (hooks_of_more v.part handled (label_of v) v.phase from g rank here f at c);
        still = taken.still was.still;
      }

  -- What is due doesn't depend on hooks.
  same_after : (s : Stage) (to number : ℕ) (o : Message) → IsIn v s to number o → IsIn after s to number o
  same_after stage.Up to number o at = at
  same_after stage.Down to number o at = at
  same_after stage.Hook to number o at = record { hook = at.hook; label = at.label; own = at.own; is = at.is }

  before_same : (s : Stage) (to number : ℕ) (o : Message) → IsIn after s to number o → IsIn v s to number o
  before_same stage.Up to number o at = at
  before_same stage.Down to number o at = at
  before_same stage.Hook to number o at = record { hook = at.hook; label = at.label; own = at.own; is = at.is }

  pub taken_keeps : HasChosen far (append_at handled from (Item g)) sent after
  taken_keeps = record {
    local = local_more far handled sent v from g rank other keeps;
    gathered = record { arcs = keeps.gathered.arcs; leasts = keeps.gathered.leasts };
    alone = alone_more far handled sent v from g rank other keeps;
    running = keeps.running;
    winners = λ running l vertex. keeps.winners running l vertex ∙ taken_winners v.stage refl running l vertex (own_cases v.part l);
    hooks = taken_hooks (is_within v.part h) refl;
    sent_so_far = λ uncast.
        let was = keeps.sent_so_far uncast in
        record {
          due = λ to o far c. let old = was.due to o far c in record { number = old.number; passed = old.passed; is = same_after v.stage to old.number o old.is };
          all = λ to o far passed. was.all to o far (record { number = passed.number; passed = passed.passed; is = before_same v.stage to passed.number o passed.is });
        };
  }
