-- Which arcs are due.
use Rattle.std.proofs.Common.{◌≡◌, ◌⊎◌, ◌<◌, ◌≤◌, ◌+◌, ◌&&◌, ◌||◌, Bool, true, false, ◌∷◌, length, refl, sym, ap, ◌∙◌, inl, inr, Option, Some}
use Rattle.std.proofs.lemmas.List.{drop_more}
use Rattle.std.proofs.Math.ListN.{drop_of_length-le}
use Rattle.std.specs.Prelude.{drop, slice_index_or}
use Rattle.std.specs.List.{list_any}
use Rattle.pg_agenda.specs.declared.shares.Share.TheVariants as share
use Rattle.pg_agenda.specs.Shares.{Places}
use Rattle.pg_adj.specs.declared.arcs.Arc.{Arc}
use Rattle.pg_adj.specs.Portions.{Portion}
use Rattle.pg_best.specs.Parts.{LocalArc}
use Rattle.pg_relax.specs.declared.ahead.Ahead.{Ahead}
use Rattle.pg_relax.specs.States.{row, local_of, is_arc, is_ahead, due}
use Rattle.pg_relax.proofs.ArcLemmas.{same_arc}

-- The arc is not due, for each of the reasons to be due.
pub record IsDone (p : Portion) (pending takes : Places) (ahead : Option Ahead) (a : LocalArc) : Type 0 where
  pub light : pending share.Light a.at ≡ false
  pub whole : pending share.All a.at ≡ false
  pub heavy : (pending share.Heavy a.at && takes share.Heavy a.weight) ≡ false
  pub behind : is_ahead p takes ahead a ≡ false

or_none : (a b : Bool) → (a || b) ≡ false → (a ≡ false) × (b ≡ false)
or_none false false e = (refl, refl)
or_none false true e = cc
or_none true b e = cc

none_or : (a b : Bool) → a ≡ false → b ≡ false → (a || b) ≡ false
none_or false false d e = refl
none_or false true d e = cc
none_or true b d e = cc

pub is_done : (p : Portion) (pending takes : Places) (ahead : Option Ahead) (a : LocalArc) → due p pending takes ahead a ≡ false → IsDone p pending takes ahead a
is_done p pending takes ahead a e =
    let first = or_none (pending share.Light a.at || pending share.All a.at) ((pending share.Heavy a.at && takes share.Heavy a.weight) || is_ahead p takes ahead a) e in
    let marked = or_none (pending share.Light a.at) (pending share.All a.at) first.0 in
    let rest = or_none (pending share.Heavy a.at && takes share.Heavy a.weight) (is_ahead p takes ahead a) first.1 in
    record { light = marked.0; whole = marked.1; heavy = rest.0; behind = rest.1 }

pub not_due : (p : Portion) (pending takes : Places) (ahead : Option Ahead) (a : LocalArc) → IsDone p pending takes ahead a → due p pending takes ahead a ≡ false
not_due p pending takes ahead a d =
    none_or (pending share.Light a.at || pending share.All a.at) ((pending share.Heavy a.at && takes share.Heavy a.weight) || is_ahead p takes ahead a)
    (none_or (pending share.Light a.at) (pending share.All a.at) d.light d.whole)
    (none_or (pending share.Heavy a.at && takes share.Heavy a.weight) (is_ahead p takes ahead a) d.heavy d.behind)

-- an arc that is no longer ahead after one was passed was not ahead before, or is the one that was passed
step_cases : (t m r : Bool) → (t && r) ≡ false → ((t && (m || r)) ≡ false) ⊎ ((m ≡ true) × (t ≡ true))
step_cases true true false e = inr (refl, refl)
step_cases true false false e = inl refl
step_cases true m true e = cc
step_cases false m r e = inl refl

pub passed_cases : (p : Portion) (takes : Places) (h : Ahead) (b : Arc) (a : LocalArc) → h.next < length (row p h.place) → b ≡ slice_index_or (row p h.place) h.next b
    → is_ahead p takes (Some (record { place = h.place; share = h.share; next = h.next + 1 })) a ≡ false
    → (is_ahead p takes (Some h) a ≡ false) ⊎ ((local_of h.place b ≡ a) × (takes h.share a.weight ≡ true))
passed_cases p takes h b a l e behind =
    let arcs = row p h.place in
    let test : Arc → Bool = λ c. is_arc (local_of h.place c) a in
    let split : drop h.next arcs ≡ b ∷ drop (h.next + 1) arcs = drop_more arcs h.next b l ∙ ap (λ c. c ∷ drop (h.next + 1) arcs) (sym e) in
    elim (step_cases (takes h.share a.weight) (test b) (list_any test (drop (h.next + 1) arcs)) behind) [
      | inl still ↦ inl (ap (λ arcs. takes h.share a.weight && list_any test arcs) split ∙ still)
      | inr now ↦ inr (same_arc (local_of h.place b) a now.0, now.1)
    ]

and_none : (b : Bool) → (b && false) ≡ false
and_none true = refl
and_none false = refl

-- no arc is from a place's last one on
pub none_from : (p : Portion) (takes : Places) (h : Ahead) (a : LocalArc) → length (row p h.place) ≤ h.next → is_ahead p takes (Some h) a ≡ false
none_from p takes h a past =
    ap (λ arcs. takes h.share a.weight && list_any (λ b. is_arc (local_of h.place b) a) arcs) (drop_of_length-le (row p h.place) past) ∙ and_none (takes h.share a.weight)
