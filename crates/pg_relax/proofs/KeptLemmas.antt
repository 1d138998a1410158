-- What a rank promises is kept by each of its calls, and holds of the opening state.
use Rattle.std.proofs.Common.{◌≡◌, ◌↔◌, ℕ, zero, suc, ◌<◌, ◌+◌, ◌%◌, ◌&&◌, ◌||◌, Bool, true, false, List, [], ◌∷◌, length, refl, sym, ap, ◌∙◌, subst, arith, Option, Some, None}
use Rattle.std.specs.Prelude.{slice_get}
use Rattle.pg_group.specs.declared.messages.Body.{Body}
use Rattle.pg_group.specs.declared.messages.Body.TheVariants.{Item, Mark}
use Rattle.pg_group.specs.declared.messages.Vote.{Vote}
use Rattle.pg_group.specs.Ranked.{IsOther, append_at}
use Rattle.pg_group.specs.Supersteps.{append_others, append_marks}
use Rattle.pg_label.specs.declared.values.Value.{Value}
use Rattle.pg_agenda.specs.declared.shares.Share.TheVariants as share
use Rattle.pg_agenda.specs.Shares.{Places, AreSame, AreNone}
use Rattle.pg_adj.specs.Portions.{Portion}
use Rattle.pg_best.specs.declared.offers.Offer.{Offer}
use Rattle.pg_best.specs.Best.{Label}
use Rattle.pg_best.specs.Parts.{Part, LocalArc}
use Rattle.pg_best.specs.LocalRelax.{NONE}
use Rattle.pg_best.specs.Marks.{IsQuiet, Marks}
use Rattle.pg_best.proofs.Marking.{handle_marks, send_marks, vote_marks, again_marks, stop_marks, still_handled}
use Rattle.pg_relax.specs.declared.ahead.Ahead.{Ahead}
use Rattle.pg_relax.specs.States.{part_of, due, Relaxes}
use Rattle.pg_relax.specs.Frontiers.{IsLowered}
use Rattle.pg_relax.specs.Kept.{HasRelaxed, AreQuiet, IsFitting}
use Rattle.pg_relax.proofs.DueLemmas.{not_due}
use Rattle.pg_relax.proofs.ListLemmas.{voted_items, ended_items, same_items}
use Rattle.pg_relax.proofs.StepLemmas.{lists_keep, handled_keeps, ignored_keeps}

-- before the vote it doesn't matter which arcs are due
pub due_marks : (part : Part) (handled sent : List (List (Body Offer))) (due due' : LocalArc → Bool) (round : ℕ) (over sends : Bool)
    → Marks part handled sent due round None over sends → Marks part handled sent due' round None over sends
due_marks part handled sent due due' round over sends m = record {
  from_each = m.from_each;
  to_each = m.to_each;
  running = m.running;
  closed = m.closed;
  given = m.given;
  even = m.even;
  cast_even = λ vote e. cc;
  present = m.present;
  after = m.after;
  quiet = λ vote e q a busy. cc;
  ended = m.ended;
  own = m.own;
  told = m.told;
  going = m.going;
}

-- a rank without a vote has not ended
pub runs : (part : Part) (handled sent : List (List (Body Offer))) (due : LocalArc → Bool) (round : ℕ) (over sends : Bool) → Marks part handled sent due round None over sends → over ≡ false
runs part handled sent due round true sends m = let own = m.own refl in let e : None ≡ Some own.0 = own.1 in cc
runs part handled sent due round false sends m = refl

vote_at : (votes : List Vote) (k : ℕ) → k < length votes → (vote : Vote) × (slice_get votes k ≡ Some vote)
vote_at [] k h = absurd (omega arith)
vote_at (v ∷ vs) zero h = (v, refl)
vote_at (v ∷ vs) (suc k) h = vote_at vs k (omega arith)

even_of : (b : ℕ) → (b % 2 ≡ 1 → ⊥) → b % 2 ≡ 0
even_of b h = omega arith

even_unsent : (vote : Vote) (sends : Bool) → ((vote.b % 2 ≡ 1) ↔ (sends ≡ true)) → (vote.b % 2 ≡ 0) ↔ (sends ≡ false)
even_unsent vote true odd = (λ e. absurd (omega (arith, odd.1 refl)), λ e. cc)
even_unsent vote false odd = (λ e. refl, λ e. even_of (vote.b) (λ o. let t : false ≡ true = odd.0 o in cc))

-- an offer is handled
pub handle_kept : (label : Label) (p : Portion) (takes takes' : Places) (handled sent : List (List (Body Offer))) (values values' : List Value) (pending pending' : Places) (ahead : Option Ahead)
    (round : ℕ) (cast : Option Vote) (ended sends : Bool) (from : ℕ) (o : Offer) → length values ≡ length p.vertices → AreSame takes takes' → IsFitting p o → IsOther p.rank p.ranks from
    → IsLowered o.place o.value values pending values' pending'
    → HasRelaxed label p takes handled sent values pending ahead round cast ended sends
    → HasRelaxed label p takes' (append_at handled from (Item o)) sent values' pending' ahead round cast ended sends
handle_kept label p takes takes' handled sent values values' pending pending' ahead round cast ended sends from o each same fits other low kept = record {
  relaxes = handled_keeps label p takes takes' handled sent values values' pending pending' ahead from o each same
      (record { at = record { within = fits.below; vertex = fits.holds }; within = fits.within }) other (omega (arith, other.0, kept.marked.from_each)) low kept.relaxes;
  resting = kept.resting;
  marked = handle_marks (part_of p) handled sent (due p pending takes ahead) round cast ended sends kept.marked from o (due p pending' takes' ahead) other;
}

pub ignore_kept : (label : Label) (p : Portion) (takes : Places) (handled sent : List (List (Body Offer))) (values : List Value) (pending : Places) (ahead : Option Ahead)
    (round : ℕ) (cast : Option Vote) (ended sends : Bool) (from : ℕ) (o : Offer) → (IsFitting p o → ⊥) → IsOther p.rank p.ranks from
    → HasRelaxed label p takes handled sent values pending ahead round cast ended sends
    → HasRelaxed label p takes (append_at handled from (Item o)) sent values pending ahead round cast ended sends
ignore_kept label p takes handled sent values pending ahead round cast ended sends from o unfit other kept = record {
  relaxes = ignored_keeps label p takes handled sent values pending ahead from o (λ f. unfit (record { below = f.at.within; holds = f.at.vertex; within = f.within })) kept.relaxes;
  resting = kept.resting;
  marked = handle_marks (part_of p) handled sent (due p pending takes ahead) round cast ended sends kept.marked from o (due p pending takes ahead) other;
}

-- nothing was sent by a call of work
pub quiet_kept : (label : Label) (p : Portion) (takes takes' : Places) (handled sent : List (List (Body Offer))) (values values' : List Value) (pending pending' : Places) (ahead ahead' : Option Ahead)
    (round : ℕ) (ended sends : Bool)
    → (Relaxes label p takes handled sent values pending ahead → Relaxes label p takes' handled sent values' pending' ahead')
    → HasRelaxed label p takes handled sent values pending ahead round None ended sends
    → HasRelaxed label p takes' handled sent values' pending' ahead' round None ended sends
quiet_kept label p takes takes' handled sent values values' pending pending' ahead ahead' round ended sends step kept = record {
  relaxes = step kept.relaxes;
  resting = λ vote e. cc;
  marked = due_marks (part_of p) handled sent (due p pending takes ahead) (due p pending' takes' ahead') round ended sends kept.marked;
}

-- an offer was sent by a call of work
pub sent_kept : (label : Label) (p : Portion) (takes takes' : Places) (handled sent sent' : List (List (Body Offer))) (values values' : List Value) (pending pending' : Places) (ahead ahead' : Option Ahead)
    (round : ℕ) (ended sends : Bool) (to : ℕ) (o : Offer) → IsOther p.rank p.ranks to → sent' ≡ append_at sent to (Item o)
    → (length sent ≡ p.ranks → Relaxes label p takes handled sent values pending ahead → Relaxes label p takes' handled sent' values' pending' ahead')
    → HasRelaxed label p takes handled sent values pending ahead round None ended sends
    → HasRelaxed label p takes' handled sent' values' pending' ahead' round None ended true
sent_kept label p takes takes' handled sent sent' values values' pending pending' ahead ahead' round ended sends to o other grew step kept =
    let part : Part = part_of p in
    let is : ended ≡ false = runs part handled sent (due p pending takes ahead) round ended sends kept.marked in
    record {
      resting = λ vote e. cc;
      relaxes = step kept.marked.to_each kept.relaxes;
      marked = subst (λ lists. Marks part handled lists (due p pending' takes' ahead') round None ended true) (sym grew)
          (send_marks part handled sent (due p pending takes ahead) round None ended sends kept.marked to o (due p pending' takes' ahead') other refl is);
    }

-- the vote is cast, with nothing ahead
pub vote_kept : (label : Label) (p : Portion) (takes takes' : Places) (handled sent : List (List (Body Offer))) (values : List Value) (pending pending' : Places)
    (round : ℕ) (ended sends : Bool) (vote : Vote) → AreSame takes takes' → AreSame pending pending'
    → ((vote.b % 2 ≡ 1) ↔ (sends ≡ true)) → (vote.a ≡ NONE → vote.b < 2 → AreNone pending)
    → HasRelaxed label p takes handled sent values pending None round None ended sends
    → HasRelaxed label p takes' handled (append_others p.rank (Mark vote) sent) values pending' None round (Some vote) ended sends
vote_kept label p takes takes' handled sent values pending pending' round ended sends vote st sp odd none kept =
    let part : Part = part_of p in
    let is : ended ≡ false = runs part handled sent (due p pending takes None) round ended sends kept.marked in
    record {
      resting = λ w e. refl;
      relaxes = lists_keep label p takes takes' handled sent handled (append_others p.rank (Mark vote) sent) values pending pending' None
          (same_items handled) (voted_items p.rank vote sent) st sp kept.relaxes;
      marked = vote_marks part handled sent (due p pending' takes' None) round None ended sends
          (due_marks part handled sent (due p pending takes None) (due p pending' takes' None) round ended sends kept.marked)
          vote refl is (even_unsent vote sends odd)
          (λ q a. not_due p pending' takes' None a (record {
            light = sp share.Light a.at ∙ none q.a (omega (arith, q.b)) share.Light a.at;
            whole = sp share.All a.at ∙ none q.a (omega (arith, q.b)) share.All a.at;
            heavy = ap (λ t. t && takes' share.Heavy a.weight) (sp share.Heavy a.at ∙ none q.a (omega (arith, q.b)) share.Heavy a.at);
            behind = refl;
          }));
    }

-- a round ends, with another one to follow
pub again_kept : (label : Label) (p : Portion) (takes takes' : Places) (handled sent : List (List (Body Offer))) (values : List Value) (pending pending' : Places) (ahead : Option Ahead)
    (round : ℕ) (cast : Option Vote) (sends : Bool) (votes : List Vote) → AreSame takes takes' → AreSame pending pending' → length votes ≡ p.ranks → slice_get votes p.rank ≡ cast → p.rank < p.ranks → (AreQuiet votes → ⊥)
    → HasRelaxed label p takes handled sent values pending ahead round cast false sends
    → HasRelaxed label p takes' (append_marks p.rank votes handled) sent values pending' ahead (round + 1) None false false
again_kept label p takes takes' handled sent values pending pending' ahead round cast sends votes st sp each mine within left kept =
    let part : Part = part_of p in
    let own = vote_at votes p.rank (omega (arith, each, within)) in
    record {
      resting = λ w e. cc;
      relaxes = lists_keep label p takes takes' handled sent (append_marks p.rank votes handled) sent values pending pending' ahead
          (ended_items p.rank votes handled) (same_items sent) st sp kept.relaxes;
      marked = again_marks part handled sent (due p pending takes ahead) round cast false sends kept.marked votes own.0 (due p pending' takes' ahead) refl each (sym mine ∙ own.1) mine left;
    }

-- the last round ends
pub stop_kept : (label : Label) (p : Portion) (takes : Places) (handled sent : List (List (Body Offer))) (values : List Value) (pending : Places) (ahead : Option Ahead)
    (round : ℕ) (cast : Option Vote) (sends : Bool) (votes : List Vote) → length votes ≡ p.ranks → slice_get votes p.rank ≡ cast → p.rank < p.ranks → AreQuiet votes
    → HasRelaxed label p takes handled sent values pending ahead round cast false sends
    → HasRelaxed label p takes (append_marks p.rank votes handled) sent values pending ahead round cast true sends
stop_kept label p takes handled sent values pending ahead round cast sends votes each mine within quiet kept =
    let part : Part = part_of p in
    let now : LocalArc → Bool = due p pending takes ahead in
    let own = vote_at votes p.rank (omega (arith, each, within)) in
    let was : cast ≡ Some own.0 = sym mine ∙ own.1 in
    let still : IsQuiet own.0 = quiet p.rank own.0 own.1 in
    record {
      resting = kept.resting;
      relaxes = lists_keep label p takes takes handled sent (append_marks p.rank votes handled) sent values pending pending ahead
          (ended_items p.rank votes handled) (same_items sent) (λ s i. refl) (λ s i. refl) kept.relaxes;
      marked = stop_marks part handled sent now round cast false sends kept.marked votes own.0 refl each was still quiet
          (λ a busy. still_handled part handled sent now round cast false sends kept.marked votes each (kept.marked.quiet own.0 was still a busy));
    }

-- What a rank keeps, by what it shows of its state.
module _ (label : Label) (p : Portion) (takes takes' : Places) (handled sent : List (List (Body Offer))) (values values' : List Value) (pending pending' : Places) (ahead ahead' : Option Ahead)
    (round : ℕ) (cast : Option Vote) (ended sends : Bool) (kept : HasRelaxed label p takes handled sent values pending ahead round cast ended sends) where
  pub at_vote : (vote : Vote) → ahead ≡ None → cast ≡ None → AreSame takes takes' → AreSame pending pending'
      → ((vote.b % 2 ≡ 1) ↔ (sends ≡ true)) → (vote.a ≡ NONE → vote.b < 2 → AreNone pending)
      → HasRelaxed label p takes' handled (append_others p.rank (Mark vote) sent) values pending' ahead round (Some vote) ended sends
  at_vote vote rests uncast st sp odd none =
      subst (λ h. HasRelaxed label p takes' handled (append_others p.rank (Mark vote) sent) values pending' h round (Some vote) ended sends) (sym rests)
      (vote_kept label p takes takes' handled sent values pending pending' round ended sends vote st sp odd none
      (subst (λ h. HasRelaxed label p takes handled sent values pending h round None ended sends) rests
      (subst (λ c. HasRelaxed label p takes handled sent values pending ahead round c ended sends) uncast kept)))

  pub at_again : (votes : List Vote) → ended ≡ false → AreSame takes takes' → AreSame pending pending' → length votes ≡ p.ranks → slice_get votes p.rank ≡ cast → p.rank < p.ranks → (AreQuiet votes → ⊥)
      → (round' : ℕ) → round' ≡ round + 1 → HasRelaxed label p takes' (append_marks p.rank votes handled) sent values pending' ahead round' None ended false
  at_again votes going st sp each mine within left round' next =
      subst (λ e. HasRelaxed label p takes' (append_marks p.rank votes handled) sent values pending' ahead round' None e false) (sym going)
      (subst (λ r. HasRelaxed label p takes' (append_marks p.rank votes handled) sent values pending' ahead r None false false) (sym next)
      (again_kept label p takes takes' handled sent values pending pending' ahead round cast sends votes st sp each mine within left
      (subst (λ e. HasRelaxed label p takes handled sent values pending ahead round cast e sends) going kept)))

  pub at_stop : (votes : List Vote) → ended ≡ false → length votes ≡ p.ranks → slice_get votes p.rank ≡ cast → p.rank < p.ranks → AreQuiet votes
      → HasRelaxed label p takes (append_marks p.rank votes handled) sent values pending ahead round cast true sends
  at_stop votes going each mine within quiet =
      stop_kept label p takes handled sent values pending ahead round cast sends votes each mine within quiet
      (subst (λ e. HasRelaxed label p takes handled sent values pending ahead round cast e sends) going kept)

  pub at_rest : cast ≡ None → (Relaxes label p takes handled sent values pending ahead → Relaxes label p takes' handled sent values' pending' ahead')
      → HasRelaxed label p takes' handled sent values' pending' ahead' round cast ended sends
  at_rest uncast step =
      subst (λ c. HasRelaxed label p takes' handled sent values' pending' ahead' round c ended sends) (sym uncast)
      (quiet_kept label p takes takes' handled sent values values' pending pending' ahead ahead' round ended sends step
      (subst (λ c. HasRelaxed label p takes handled sent values pending ahead round c ended sends) uncast kept))

  pub at_send : (sent' : List (List (Body Offer))) (to : ℕ) (o : Offer) → cast ≡ None → IsOther p.rank p.ranks to → sent' ≡ append_at sent to (Item o)
      → (length sent ≡ p.ranks → Relaxes label p takes handled sent values pending ahead → Relaxes label p takes' handled sent' values' pending' ahead')
      → HasRelaxed label p takes' handled sent' values' pending' ahead' round cast ended true
  at_send sent' to o uncast other grew step =
      subst (λ c. HasRelaxed label p takes' handled sent' values' pending' ahead' round c ended true) (sym uncast)
      (sent_kept label p takes takes' handled sent sent' values values' pending pending' ahead ahead' round ended sends to o other grew step
      (subst (λ c. HasRelaxed label p takes handled sent values pending ahead round c ended sends) uncast kept))

or_true : (b : Bool) → (b || true) ≡ true
or_true true = refl
or_true false = refl

or_false : (b : Bool) → (b || false) ≡ b
or_false true = refl
or_false false = refl

-- What passing arcs came to: an offer was sent or none.
pub at_work : (label : Label) (p : Portion) (takes takes' : Places) (handled sent sent' : List (List (Body Offer))) (values values' : List Value) (pending pending' : Places) (ahead ahead' : Option Ahead)
    (round : ℕ) (cast : Option Vote) (ended sends did : Bool) → HasRelaxed label p takes handled sent values pending ahead round cast ended sends → cast ≡ None
    → (did ≡ true → (to : ℕ) × (o : Offer) × IsOther p.rank p.ranks to × (sent' ≡ append_at sent to (Item o))) → (did ≡ false → sent' ≡ sent)
    → (length sent ≡ p.ranks → Relaxes label p takes handled sent values pending ahead → Relaxes label p takes' handled sent' values' pending' ahead')
    → HasRelaxed label p takes' handled sent' values' pending' ahead' round cast ended (sends || did)
at_work label p takes takes' handled sent sent' values values' pending pending' ahead ahead' round cast ended sends true kept uncast some none step =
    let s = some refl in
    subst (λ b. HasRelaxed label p takes' handled sent' values' pending' ahead' round cast ended b) (sym (or_true sends))
    (at_send label p takes takes' handled sent values values' pending pending' ahead ahead' round cast ended sends kept sent' s.0 s.1 uncast s.2 s.3 step)
at_work label p takes takes' handled sent sent' values values' pending pending' ahead ahead' round cast ended sends false kept uncast some none step =
    let same : sent' ≡ sent = none refl in
    subst (λ b. HasRelaxed label p takes' handled sent' values' pending' ahead' round cast ended b) (sym (or_false sends))
    (subst (λ lists. HasRelaxed label p takes' handled lists values' pending' ahead' round cast ended sends) (sym same)
    (at_rest label p takes takes' handled sent values values' pending pending' ahead ahead' round cast ended sends kept uncast
    (λ rel. subst (λ lists. Relaxes label p takes' handled lists values' pending' ahead') same (step kept.marked.to_each rel))))
