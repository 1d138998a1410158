-- A new ring, whose one view is split between the two ends, and an old one, whose ends' views are joined.
use Rattle.std.proofs.Common.{◌≡◌, ◌≢◌, ℕ, zero, suc, ◌+◌, ◌%◌, ◌<◌, ◌≤◌, ⊎_elim, true, true≢false, List, [], ◌∷◌, ◌++◌, map, length, get_or, set, replicate, sym, refl, ap, ◌∙◌, subst, length-append, mod-lt, arith}
use mathlib.Core.Option.{none, some, some-ne-none}
use lib.ListN.{get_elem?, length-map, length-replicate}
use Rattle.std.proofs.lemmas.List.{set-get_or}
use Rattle.std.specs.Prelude.{Option, None}
use Rattle.atomic_table.specs.Table.{step, keeps, opening, Splits, Joins, Allows}
use Rattle.atomic_table.proofs.Lists.{at_set, at_snoc, set_again}
use Rattle.pg_lane.specs.declared.rules.Knows.{Knows}
use Rattle.pg_lane.specs.Ring.{listed, Homes, Fits, Ring, Seated, first_view, writer_view, reader_view, both_views, spent_view, shows_rest}
use Rattle.pg_lane.proofs.Moves.{Board, each_set}

blank : {M : Type 0} (n i : ℕ) → i < n → get_elem? (map some (replicate {A = Option M} n None)) i ≡ some (some None)
blank zero i near = absurd (omega arith)
blank (suc n) zero near = refl
blank (suc n) (suc i) near = blank n i (omega arith)

module _ {M : Type 0} where
  only_last : (l : List (Knows M)) (a b : Knows M) (j : ℕ) → get_elem? l j ≢ some b → get_elem? (l ++ a ∷ []) j ≡ some b → j ≡ length l
  only_last [] a b zero n e = refl
  only_last [] a b (suc j) n e = absurd (some-ne-none b (sym e))
  only_last (x ∷ xs) a b zero n e = absurd (n e)
  only_last (x ∷ xs) a b (suc j) n e = ap suc (only_last xs a b j n e)

  -- other views, with the words and the homes as they are
  viewed : (s : Board M) (r : Ring s) (views : List (Knows M)) (writer reader : ℕ)
      → ((j : ℕ) (u : Knows M) → get_elem? views j ≡ some u → Fits writer reader r.sent r.room r.taken r.hand j u)
      → Ring record { words = s.words; homes = s.homes; views = views }
  viewed s r views writer reader known = record {
    writer = writer;
    reader = reader;
    sent = r.sent;
    room = r.room;
    taken = r.taken;
    hand = r.hand;
    queue = r.queue;
    in_order = r.in_order;
    within = r.within;
    some_slot = r.some_slot;
    few_slots = r.few_slots;
    wide = r.wide;
    head_is = r.head_is;
    tail_is = r.tail_is;
    lies = r.lies;
    clear = r.clear;
    known = known;
  }

  pub splits : (id : ℕ) (v : Knows M) → v.writes ≡ true → v.reads ≡ true → Splits Ring id v (writer_view v) (reader_view v)
  splits id v a b s r at =
      let w : Knows M = writer_view v in
      let t : Knows M = reader_view v in
      let mine = r.known id v at in
      let vs : List (Knows M) = set s.views id w in
      let Old : ℕ → Knows M → Type 0 = λ j u. Fits r.writer r.reader r.sent r.room r.taken r.hand j u × (u.reads ≢ true) in
      let none_seen : 0 ≤ length r.taken = omega arith in
      let none_seen' : 0 ≤ length r.sent = omega arith in
      let m = mine.0 a in
      let n = mine.1 b in
      let old : (j : ℕ) (u : Knows M) → get_elem? vs j ≡ some u → Old j u =
      each_set Old s.views id w (((λ _. (m.0, m.1, m.2, none_seen)), λ p. absurd (true≢false (sym p))), λ p. true≢false (sym p))
      (λ j u other e. (r.known j u e, λ p. other (((r.known j u e).1 p).0 ∙ sym n.0))) in
      viewed s r (vs ++ t ∷ []) r.writer (length vs) (λ j u e.
      ⊎_elim (λ (x : get_elem? vs j ≡ some u). ((old j u x).0.0, λ p. absurd ((old j u x).1 p)))
      (λ (is : t ≡ u). (
        (λ p. absurd (true≢false (sym (ap (λ (y : Knows M). y.writes) is ∙ p)))),
        λ p. (
          only_last vs t u j (λ x. (old j u x).1 p) e,
          ap (λ (y : Knows M). y.taken) (sym is) ∙ n.1,
          ap (λ (y : Knows M). y.hand) (sym is) ∙ n.2,
          subst (λ (y : Knows M). y.shown ≤ length r.sent) is none_seen',
        ),
      ))
      (at_snoc vs t u j e))

  pub joins : (id : ℕ) (v : Knows M) (other : ℕ) (u : Knows M) → v.writes ≡ true → u.reads ≡ true → Joins Ring id v other u (both_views v u) spent_view
  joins id v other u a b s r at two at' =
      let both : Knows M = both_views v u in
      let vs : List (Knows M) = set s.views id both in
      let was : get_elem? s.views other ≡ some u = ⊎_elim (λ (x : (other ≡ id) × (both ≡ u)). absurd (two x.0)) (λ (x : (other ≢ id) × (get_elem? s.views other ≡ some u)). x.1) (at_set s.views id other both u at') in
      let m = (r.known id v at).0 a in
      let n = (r.known other u was).1 b in
      let none_seen : 0 ≤ length r.taken = omega arith in
      let none_seen' : 0 ≤ length r.sent = omega arith in
      let Now : ℕ → Knows M → Type 0 = λ j y. j ≢ other → Fits r.writer id r.sent r.room r.taken r.hand j y in
      let now : (j : ℕ) (y : Knows M) → get_elem? vs j ≡ some y → Now j y =
      each_set Now s.views id both (λ _. ((λ _. (m.0, m.1, m.2, none_seen)), λ _. (refl, n.1, n.2, none_seen')))
      (λ j y _ e apart. ((r.known j y e).0, λ p. absurd (apart (((r.known j y e).1 p).0 ∙ sym n.0)))) in
      viewed s r (set vs other spent_view) r.writer id
      (each_set (Fits r.writer id r.sent r.room r.taken r.hand) vs other spent_view ((λ p. absurd (true≢false (sym p))), λ p. absurd (true≢false (sym p)))
      (λ j y apart e. now j y e apart))

  -- both ends together see what is left
  pub sees_rest : (n id : ℕ) (me : Seated M) → me.0.writes ≡ true → me.0.reads ≡ true → Allows Ring n id me 0 (λ x. x) (shows_rest (step n 0 0 0 none) me)
  sees_rest n id me a b s r size at _ =
      let v : Knows M = me.0 in
      let m = (r.known id v at).0 a in
      let t = (r.known id v at).1 b in
      let within : length r.sent + r.room ≤ length r.taken + length s.homes = r.within in
      let items : List M = listed r.hand ++ r.queue in
      let long : length r.sent ≡ length r.taken + length items = ap length r.in_order ∙ length-append r.taken items in
      let rule : Ring s = viewed s r s.views r.writer r.reader r.known in
      let same_views : set s.views id v ≡ s.views = set_again s.views id v at in (
        v,
        keeps,
        tt,
        subst (λ (ws : List ℕ). Ring record { words = ws; homes = s.homes; views = set s.views id v }) (sym (set-get_or s.words 0 0))
            (subst (λ (vs : List (Knows M)). Ring record { words = s.words; homes = s.homes; views = vs }) (sym same_views) rule),
        (refl, refl, (items, m.1 ∙ (r.in_order ∙ ap (λ (l : List M). l ++ items) (sym t.1)), (let f : length items ≤ n = omega arith in f))),
      )

  pub opens : (words : List ℕ) (n : ℕ) → length words ≡ 17 → get_or words 0 0 ≡ 0 → get_or words 16 0 ≡ 0 → 1 ≤ n → n ≤ 1024
      → Ring (opening words (replicate n None) (first_view {M = M}))
  opens words n wide head tail some_slot few =
      let xs : List (Option M) = replicate n None in
      let homes : Homes M = map some xs in
      let size : length homes ≡ n = length-map xs some ∙ length-replicate n None in
      let some_home : 1 ≤ length homes = omega arith in
      let few_homes : length homes ≤ 1024 = omega arith in
      let nothing : 0 ≤ 0 = omega arith in
      record {
        writer = 0;
        reader = 0;
        sent = [];
        room = 0;
        taken = [];
        hand = None;
        queue = [];
        in_order = refl;
        within = omega arith;
        some_slot = some_home;
        few_slots = few_homes;
        wide = wide;
        head_is = head;
        tail_is = tail;
        lies = λ p x e. absurd (some-ne-none x (sym e));
        clear = λ p a b. (None, blank n (p % length homes) (let h : p % length homes < length homes = mod-lt p (omega arith) in omega arith));
        known = each_set (Fits 0 0 [] 0 [] None) (first_view {M = M} ∷ []) 0 (first_view {M = M}) ((λ _. (refl, refl, refl, nothing)), λ _. (refl, refl, refl, nothing))
            (λ j u other e. absurd (other (only_last [] (first_view {M = M}) u j (λ x. some-ne-none u (sym x)) e)));
      }
