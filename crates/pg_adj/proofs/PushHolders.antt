-- A row of holders, a rank after another of the vertex's set.
use Rattle.std.proofs.Common.{◌≡◌, ℕ, ◌+◌, ◌<◌, ◌≤◌, List, [], ◌∷◌, ◌++◌, length, map, get_or, set, All, sym, ap, refl, ◌∙◌, arith, append_assoc}
use Rattle.std.proofs.lemmas.List.{append-nil, length-append, length-map}
use Rattle.pg_adj.specs.RankSets.{members}
use Rattle.pg_adj.specs.declared.arcs.Holder.{Holder}
use Rattle.pg_adj.specs.declared.rank_sets.RankSet.{RankSet}
use Rattle.pg_adj.proofs.HolderRows.{holder}
use Rattle.pg_adj.proofs.RankSets.{members-le}
use Rattle.pg_adj.proofs.Members.{IsTaken, AreCounted, none_counted, not_counted, one_counted}

-- The ranks of the set but for the rest have their holders behind the old ones, and each of them has moved to its next slot.
pub record ArePushed (all rest : RankSet) (slots slots' : List ℕ) (old new : List Holder) : Type 0 where
  pub held : new ++ map (λ r. holder r (get_or slots r 0)) (members rest) ≡ old ++ map (λ r. holder r (get_or slots r 0)) (members all)
  pub moved : AreCounted all rest slots slots'

pub none_pushed : (all : RankSet) (slots : List ℕ) (old : List Holder) → All (λ r. r < length slots) (members all) → ArePushed all all slots slots old old
none_pushed all slots old below = record { held = refl; moved = none_counted all slots below }

pub one_pushed : {q : ℕ} {all rest rest' : RankSet} {slots slots' : List ℕ} {old new new' : List Holder} → ArePushed all rest slots slots' old new → IsTaken q rest rest'
    → new' ≡ new ++ holder q (get_or slots' q 0) ∷ [] → ArePushed all rest' slots (set slots' q (get_or slots' q 0 + 1)) old new'
one_pushed {q} {all} {rest} {rest'} {slots} {slots'} {old} {new} h t put =
    let f : ℕ → Holder = λ r. holder r (get_or slots r 0) in
    let same : holder q (get_or slots' q 0) ≡ f q = ap (holder q) (not_counted h.moved t) in
    record {
      held = ap (λ (hs : List Holder). hs ++ map f (members rest')) (put ∙ ap (λ (x : Holder). new ++ x ∷ []) same)
          ∙ (append_assoc new (f q ∷ []) (map f (members rest')) ∙ (ap (λ (rs : List ℕ). new ++ map f rs) (sym t.lowest) ∙ h.held));
      moved = one_counted h.moved t;
    }

-- with nobody left the row has all
pub all_held : {all rest : RankSet} {slots slots' : List ℕ} {old new : List Holder} → ArePushed all rest slots slots' old new → members rest ≡ []
    → new ≡ old ++ map (λ r. holder r (get_or slots r 0)) (members all)
all_held {all} {rest} {slots} {slots'} {old} {new} h none =
    sym (append-nil new) ∙ (ap (λ (rs : List ℕ). new ++ map (λ r. holder r (get_or slots r 0)) rs) (sym none) ∙ h.held)

pub few_pushed : {all rest : RankSet} {slots slots' : List ℕ} {old new : List Holder} → ArePushed all rest slots slots' old new → length new ≤ length old + 32
few_pushed {all} {rest} {slots} {slots'} {old} {new} h =
    let f : ℕ → Holder = λ r. holder r (get_or slots r 0) in
    omega (arith, ap length h.held, length-append new (map f (members rest)), length-append old (map f (members all)), length-map (members all) f, members-le all)

-- of the holders that the row will have in all, one more comes
pub one_comes : {q : ℕ} {all rest rest' : RankSet} {slots slots' : List ℕ} {old new : List Holder} → ArePushed all rest slots slots' old new → IsTaken q rest rest'
    → length new < length old + length (members all)
one_comes {q} {all} {rest} {rest'} {slots} {slots'} {old} {new} h t =
    let f : ℕ → Holder = λ r. holder r (get_or slots r 0) in
    omega (arith, ap length h.held, length-append new (map f (members rest)), length-append old (map f (members all)), length-map (members all) f, length-map (members rest) f, ap length t.lowest)
