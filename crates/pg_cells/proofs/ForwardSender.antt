-- What a rank with forward puts to a ghost goes to the ghost's owner, several puts joined into one.
use Rattle.std.proofs.Common.{option_to_list, ◌≡◌, ◌≢◌, inl, inr, ℕ, zero, suc, ◌<◌, List, [], ◌∷◌, ◌++◌, Bool, true, false, cond, eqb, length, replicate, Option, Some, None, All, refl, sym, ap, ◌∙◌, subst, get_or, set, slice_get, arith, eq-eqb, ne_eqb, length-set, get_or-set_other}
use Rattle.std.proofs.lemmas.Bool.{cases_eq, cases_lt}
use Rattle.std.proofs.lemmas.Grind.{get_or-set_at}
use Rattle.std.proofs.lemmas.List.{get_or_past, get_or-replicate, length-replicate}
use Rattle.std.proofs.lemmas.Option.{slice_get_within, get_or_from_slice_get}
use Rattle.pg_adj.specs.Portions.{Portion}
use Rattle.pg_adj.specs.declared.arcs.Ghost.{Ghost}
use Rattle.pg_cells.specs.declared.bodies.CellBody.{CellBody}
use Rattle.pg_cells.specs.declared.bodies.CellBody.TheVariants.{Put as PutBody, Refresh}
use Rattle.pg_cells.specs.declared.flags.Flags.{Flags}
use Rattle.pg_cells.specs.States.{CellState, IsOwn, new_cells}
use Rattle.pg_cells.specs.Steps.{Event, CellsStep, SendsOwed, after_body, joined, join_own, join_ghost}
use Rattle.pg_cells.specs.Steps.Event.{put, handled, sent, closed, round_ended}
use Rattle.pg_cells.specs.Runs.{Run, sent_to, puts_to}
use Rattle.pg_cells.proofs.ForwardGroups.{AreGroups, groups_longer}
use Rattle.pg_cells.proofs.ForwardPhases.{framed, round_held, OwesNothing}

-- the values that are put to this place
abbrev pub values_at : ℕ → List CellBody → List ℕ
values_at place [] = []
values_at place (PutBody other x ∷ bodies) = cond (eqb other place) (x ∷ values_at place bodies) (values_at place bodies)
values_at place (Refresh slot x ∷ bodies) = values_at place bodies

pub chosen : {X : Type 0} (b : Bool) (x y : X) → b ≡ true → cond b x y ≡ x
chosen true x y h = refl
chosen false x y h = absurd (cc h)

pub unchosen : {X : Type 0} (b : Bool) (x y : X) → b ≡ false → cond b x y ≡ y
unchosen true x y h = absurd (cc h)
unchosen false x y h = refl

pub refresh_skipped : (b : Bool) (place slot x : ℕ) (bodies : List CellBody) → values_at place (cond b (Refresh slot x ∷ bodies) bodies) ≡ values_at place bodies
refresh_skipped true place slot x bodies = refl
refresh_skipped false place slot x bodies = refl

none_replicated : (n k : ℕ) → get_or (replicate {A = Option ℕ} n None) k None ≡ None
none_replicated zero k = refl
none_replicated (suc n) zero = refl
none_replicated (suc n) (suc k) = none_replicated n k

-- A portion has this vertex, which is own at place i of rank r, as a ghost in slot k, or in no slot, and then none is k.
pub record IsSeen (q : Portion) (v r i k : ℕ) : Type 0 where
  pub not_own : (place : ℕ) → IsOwn q v place → ⊥
  pub slot : (l : ℕ) (g : Ghost) → slice_get q.ghosts l ≡ Some g → g.vertex.0 ≡ v → l ≡ k
  pub vertex : (g : Ghost) → slice_get q.ghosts k ≡ Some g → g.vertex.0 ≡ v
  pub home : (g : Ghost) → slice_get q.ghosts k ≡ Some g → g.home.0 ≡ r
  pub place : (g : Ghost) → slice_get q.ghosts k ≡ Some g → g.place ≡ i
  pub only : (l : ℕ) (g : Ghost) → slice_get q.ghosts l ≡ Some g → g.home.0 ≡ r → g.place ≡ i → l ≡ k

-- the cells of this portion, with forward and so without flush
pub record AreForwarding (q : Portion) (s : CellState) : Type 0 where
  pub part : s.part ≡ q
  pub forward : s.flags.forward ≡ true
  pub flush : s.flags.flush ≡ false
  pub each : length s.owed ≡ length q.ghosts
  pub noted : (slot : ℕ) → slice_get s.noted slot ≡ Some true → ⊥

no_note : (n slot : ℕ) → slice_get (replicate n false) slot ≡ Some true → ⊥
no_note n slot there =
    let low : slot < n = subst (λ m. slot < m) (length-replicate n false) (slice_get_within (replicate n false) slot true there) in
    cc (get_or_from_slice_get (replicate n false) slot true false there, get_or-replicate n slot false false low)

forwarding_anew : (start : ℕ → ℕ) (q : Portion) (flags : Flags) → flags.forward ≡ true → flags.flush ≡ false → AreForwarding q (new_cells start q flags)
forwarding_anew start q flags forward flush = record { part = refl; forward = forward; flush = flush; each = length-replicate (length q.ghosts) None; noted = no_note (length q.ghosts) }

none_owed : (s : CellState) (k : ℕ) → All (λ owed. owed ≡ None) s.owed → get_or s.owed k None ≡ None
none_owed s k none = elim (cases_lt k (length s.owed)) [ inl low ↦ none k None low | inr high ↦ get_or_past s.owed k None high ]

module _ (join : ℕ → ℕ → ℕ) (start : ℕ → ℕ) where
  body_owed : (body : CellBody) (s : CellState) → (after_body join start body s).owed ≡ s.owed
  body_owed (PutBody place value) s = refl
  body_owed (Refresh slot value) s = refl

  body_noted : (body : CellBody) (s : CellState) → (after_body join start body s).noted ≡ s.noted
  body_noted (PutBody place value) s = refl
  body_noted (Refresh slot value) s = refl

  ghost_owed : (slot x : ℕ) (s t : CellState) → t ≡ join_ghost join start slot x s → s.flags.forward ≡ true → t.owed ≡ set s.owed slot (Some (joined join start (get_or s.owed slot None) x))
  ghost_owed slot x s t is forward = ap (λ c. c.owed) is ∙ chosen s.flags.forward _ _ forward

  ghost_noted : (slot x : ℕ) (s t : CellState) → t ≡ join_ghost join start slot x s → s.flags.flush ≡ false → t.noted ≡ s.noted
  ghost_noted slot x s t is flush = ap (λ c. c.noted) is ∙ unchosen s.flags.flush _ _ flush

  -- the same groups, written otherwise
  same_groups : (ys zs : List ℕ) (o p : Option ℕ) (xs ws : List ℕ) → ys ≡ zs → o ≡ p → xs ≡ ws → AreGroups join zs (option_to_list p ++ ws) → AreGroups join ys (option_to_list o ++ xs)
  same_groups ys zs o p xs ws e f g h =
      subst (λ l. AreGroups join l (option_to_list o ++ xs)) (sym e) (subst (λ u. AreGroups join zs (option_to_list u ++ xs)) (sym f) (subst (λ l. AreGroups join zs (option_to_list p ++ l)) (sym g) h))

  -- with one value more the first group begins earlier
  joined_groups : (ys : List ℕ) (o : Option ℕ) (x : ℕ) (xs : List ℕ) → AreGroups join ys (joined join start o x ∷ xs) → AreGroups join ys (option_to_list o ++ (x ∷ xs))
  joined_groups ys None x xs h = h
  joined_groups ys (Some y) x xs h = groups_longer join ys y x xs h

  module _ (q : Portion) where
    as_long : (s : CellState) (e : Event) (t : CellState) → AreForwarding q s → CellsStep join start s e t → length t.owed ≡ length s.owed
    as_long s (put v x) t now step = elim step.1 [
      | inl own ↦ ap (λ c. length c.owed) own.2
      | inr ghost ↦ ap length (ghost_owed ghost.0 x s t ghost.2 now.forward) ∙ length-set s.owed ghost.0 _
    ]
    as_long s (handled from body) t now step = ap (λ c. length c.owed) step ∙ ap length (body_owed body s)
    as_long s (sent to body) t now step = elim step [
      | inl paid ↦ ap (λ c. length c.owed) paid.after ∙ length-set s.owed paid.slot None
      | inr (inl note) ↦ absurd (now.noted note.slot note.noted)
      | inr (inr pending) ↦ ap (λ c. length c.owed) pending.after
    ]
    as_long s closed t now step = ap (λ c. length c.owed) step.1
    as_long s round_ended t now step = ap (λ c. length c.owed) step.1 ∙ ap (λ held. length held.3) (round_held join start s.phase s)

    as_noted : (s : CellState) (e : Event) (t : CellState) → AreForwarding q s → CellsStep join start s e t → t.noted ≡ s.noted
    as_noted s (put v x) t now step = elim step.1 [
      | inl own ↦ ap (λ c. c.noted) own.2
      | inr ghost ↦ ghost_noted ghost.0 x s t ghost.2 now.flush
    ]
    as_noted s (handled from body) t now step = ap (λ c. c.noted) step ∙ body_noted body s
    as_noted s (sent to body) t now step = elim step [
      | inl paid ↦ ap (λ c. c.noted) paid.after
      | inr (inl note) ↦ absurd (now.noted note.slot note.noted)
      | inr (inr pending) ↦ ap (λ c. c.noted) pending.after
    ]
    as_noted s closed t now step = ap (λ c. c.noted) step.1
    as_noted s round_ended t now step = ap (λ c. c.noted) step.1 ∙ ap (λ held. held.4) (round_held join start s.phase s)

    forwarding_on : (s : CellState) (e : Event) (t : CellState) → AreForwarding q s → CellsStep join start s e t → AreForwarding q t
    forwarding_on s e t now step =
        let frame = framed join start s e t step in
        record {
          part = ap (λ f. f.0) frame ∙ now.part;
          forward = ap (λ f. f.1.forward) frame ∙ now.forward;
          flush = ap (λ f. f.1.flush) frame ∙ now.flush;
          each = as_long s e t now step ∙ now.each;
          noted = λ slot there. now.noted slot (ap (λ l. slice_get l slot) (sym (as_noted s e t now step)) ∙ there);
        }

    module _ (v r i k : ℕ) (seen : IsSeen q v r i k) where
      -- the values that are sent to the place are groups of what is owed, with what is put from here on
      abbrev Reaches : Option ℕ → List Event → Type 0
      Reaches owed events = AreGroups join (values_at i (sent_to r events)) (option_to_list owed ++ puts_to v events)

      put_here : (u x : ℕ) (events : List Event) → u ≡ v → puts_to v (put u x ∷ events) ≡ x ∷ puts_to v events
      put_here u x events same = chosen (eqb u v) _ _ (eq-eqb u v same)

      put_elsewhere : (u x : ℕ) (events : List Event) → u ≢ v → puts_to v (put u x ∷ events) ≡ puts_to v events
      put_elsewhere u x events apart = unchosen (eqb u v) _ _ (ne_eqb u v apart)

      sent_here : (to place x : ℕ) (events : List Event) → to ≡ r → place ≡ i → values_at i (sent_to r (sent to (PutBody place x) ∷ events)) ≡ x ∷ values_at i (sent_to r events)
      sent_here to place x events is_r is_i = ap (values_at i) (chosen (eqb to r) _ _ (eq-eqb to r is_r)) ∙ chosen (eqb place i) _ _ (eq-eqb place i is_i)

      sent_elsewhere : (to place x : ℕ) (events : List Event) → (to ≡ r → place ≡ i → ⊥) → values_at i (sent_to r (sent to (PutBody place x) ∷ events)) ≡ values_at i (sent_to r events)
      sent_elsewhere to place x events apart = elim (cases_eq to r) [
        | inl is_r ↦ ap (values_at i) (chosen (eqb to r) _ _ (eq-eqb to r is_r)) ∙ unchosen (eqb place i) _ _ (ne_eqb place i (apart is_r))
        | inr not_r ↦ ap (values_at i) (unchosen (eqb to r) _ _ (ne_eqb to r not_r))
      ]

      ghost_put : (s t : CellState) (u x slot : ℕ) (g : Ghost) (events : List Event) → AreForwarding q s → slice_get q.ghosts slot ≡ Some g → g.vertex.0 ≡ u → t ≡ join_ghost join start slot x s
          → Reaches (get_or t.owed k None) events → Reaches (get_or s.owed k None) (put u x ∷ events)
      ghost_put s t u x slot g events now there vertex is after =
          let owed = ghost_owed slot x s t is now.forward in
          let low : slot < length s.owed = omega (arith, slice_get_within q.ghosts slot g there, now.each) in
          elim (cases_eq u v) [
            | inl same ↦
                let here : slot ≡ k = seen.slot slot g there (vertex ∙ same) in
                let owed_here : get_or t.owed k None ≡ Some (joined join start (get_or s.owed k None) x) =
                ap (λ l. get_or l k None) owed ∙ get_or-set_at s.owed slot k _ None (sym here) low ∙ ap (λ l. Some (joined join start (get_or s.owed l None) x)) here in
                let grown = same_groups _ _ _ _ _ _ refl (sym owed_here) refl after in
                subst (λ l. AreGroups join (values_at i (sent_to r events)) (option_to_list (get_or s.owed k None) ++ l)) (sym (put_here u x events same))
                (joined_groups (values_at i (sent_to r events)) (get_or s.owed k None) x (puts_to v events) grown)
            | inr apart ↦
                let other : k ≢ slot = λ e. apart (sym vertex ∙ seen.vertex g (ap (slice_get q.ghosts) e ∙ there)) in
                same_groups _ _ _ _ _ _ refl (sym (ap (λ l. get_or l k None) owed ∙ get_or-set_other s.owed slot k _ None other)) (put_elsewhere u x events apart) after
          ]

      own_put : (s t : CellState) (u x place : ℕ) (events : List Event) → AreForwarding q s → IsOwn q u place → t ≡ join_own join start place x s
          → Reaches (get_or t.owed k None) events → Reaches (get_or s.owed k None) (put u x ∷ events)
      own_put s t u x place events now own is after =
          same_groups _ _ _ _ _ _ refl (sym (ap (λ c. get_or c.owed k None) is)) (put_elsewhere u x events (λ e. seen.not_own place (own ∙ ap Some e))) after

      owed_sent : (s : CellState) (to : ℕ) (body : CellBody) (t : CellState) (events : List Event) → AreForwarding q s → SendsOwed s to body t
          → Reaches (get_or t.owed k None) events → Reaches (get_or s.owed k None) (sent to body ∷ events)
      owed_sent s to body t events now paid after =
          let there : slice_get q.ghosts paid.slot ≡ Some paid.held = ap (λ p. slice_get p.ghosts paid.slot) (sym now.part) ∙ paid.there in
          let low : paid.slot < length s.owed = slice_get_within s.owed paid.slot (Some paid.value) paid.owed in
          let body_is = ap (λ b. values_at i (sent_to r (sent to b ∷ events))) paid.body_is in
          elim (cases_eq paid.slot k) [
            | inl here ↦
                let at : slice_get q.ghosts k ≡ Some paid.held = ap (slice_get q.ghosts) (sym here) ∙ there in
                let none : get_or t.owed k None ≡ None = ap (λ c. get_or c.owed k None) paid.after ∙ get_or-set_at s.owed paid.slot k None None (sym here) low in
                let some : get_or s.owed k None ≡ Some paid.value = ap (λ l. get_or s.owed l None) (sym here) ∙ get_or_from_slice_get s.owed paid.slot (Some paid.value) None paid.owed in
                let sends = body_is ∙ sent_here to paid.held.place paid.value events (paid.home ∙ seen.home paid.held at) (seen.place paid.held at) in
                let rest = same_groups _ _ _ _ _ _ refl (sym none) refl after in
                same_groups _ _ _ _ _ _ sends some refl (paid.value, [], puts_to v events, refl, refl, rest)
            | inr apart ↦
                let kept : get_or t.owed k None ≡ get_or s.owed k None = ap (λ c. get_or c.owed k None) paid.after ∙ get_or-set_other s.owed paid.slot k None None (λ e. apart (sym e)) in
                let sends = body_is ∙ sent_elsewhere to paid.held.place paid.value events (λ is_r is_i. apart (seen.only paid.slot paid.held there (sym paid.home ∙ is_r) is_i)) in
                same_groups _ _ _ _ _ _ sends (sym kept) refl after
          ]

      -- an event more in front
      one_more : (s : CellState) (e : Event) (t : CellState) (events : List Event) → AreForwarding q s → CellsStep join start s e t
          → Reaches (get_or t.owed k None) events → Reaches (get_or s.owed k None) (e ∷ events)
      one_more s (put u x) t events now step after = elim step.1 [
        | inl own ↦ own_put s t u x own.0 events now (ap (λ p. slice_get p.vertices own.0) (sym now.part) ∙ own.1) own.2 after
        | inr ghost ↦ ghost_put s t u x ghost.0 ghost.1.0 events now (ap (λ p. slice_get p.ghosts ghost.0) (sym now.part) ∙ ghost.1.1) ghost.1.2 ghost.2 after
      ]
      one_more s (handled from body) t events now step after =
          same_groups _ _ _ _ _ _ refl (sym (ap (λ c. get_or c.owed k None) step ∙ ap (λ l. get_or l k None) (body_owed body s))) refl after
      one_more s (sent to body) t events now step after = elim step [
        | inl paid ↦ owed_sent s to body t events now paid after
        | inr (inl note) ↦ absurd (now.noted note.slot note.noted)
        | inr (inr pending) ↦ same_groups _ _ _ _ _ _ (ap (λ b. values_at i (sent_to r (sent to b ∷ events))) pending.body_is ∙ refresh_skipped (eqb to r) i pending.pending.holder.slot _ (sent_to r events))
            (sym (ap (λ c. get_or c.owed k None) pending.after)) refl after
      ]
      one_more s closed t events now step after = same_groups _ _ _ _ _ _ refl (sym (ap (λ c. get_or c.owed k None) step.1)) refl after
      one_more s round_ended t events now step after =
          same_groups _ _ _ _ _ _ refl (sym (ap (λ c. get_or c.owed k None) step.1 ∙ ap (λ held. get_or held.3 k None) (round_held join start s.phase s))) refl after

      all_sent : (events : List Event) (s t : CellState) → AreForwarding q s → Run join start s events t → get_or t.owed k None ≡ None → Reaches (get_or s.owed k None) events
      all_sent [] s t now run none = ap (λ o. option_to_list o ++ []) (ap (λ c. get_or c.owed k None) run ∙ none)
      all_sent (e ∷ events) s t now run none =
          one_more s e run.0 events now run.1 (all_sent events run.0 t (forwarding_on s e run.0 now run.1) run.2 none)

      -- Once nothing is owed, each value that was sent to the vertex's place is a group of those that were put to it.
      pub sent_in_groups : (events : List Event) (flags : Flags) (t : CellState) → flags.forward ≡ true → flags.flush ≡ false → Run join start (new_cells start q flags) events t → OwesNothing join start t
          → AreGroups join (values_at i (sent_to r events)) (puts_to v events)
      sent_in_groups events flags t forward flush run none =
          same_groups _ _ None (get_or (new_cells start q flags).owed k None) _ _ refl (sym (none_replicated (length q.ghosts) k)) refl
          (all_sent events (new_cells start q flags) t (forwarding_anew start q flags forward flush) run (none_owed t k none))
