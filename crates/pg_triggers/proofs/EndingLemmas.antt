-- Ranks of one run whose members stop by one rule have ended them with the same round, and the members' parts of a whole book are whole.
use Rattle.std.proofs.Common.{◌≡◌, inl, inr, ℕ, zero, suc, ◌+◌, ◌<◌, ◌≤◌, ◌&&◌, ◌||◌, max, Bool, true, false, List, [], ◌∷◌, length, map, take, refl, sym, ap, ◌∙◌, subst, arith}
use Rattle.std.specs.Prelude.{Option, Some, None, option_map, slice_get, nat_eq}
use Rattle.std.proofs.lemmas.Bool.{cases_eq, cases_lt}
use Rattle.std.proofs.lemmas.Bool.Decides.{nat_tests}
use Rattle.std.proofs.lemmas.Option.{slice_get-map}
use Rattle.pg_group.specs.declared.messages.Body.{Body}
use Rattle.pg_group.specs.declared.messages.Body.TheVariants.{Item, Mark}
use Rattle.pg_group.specs.declared.messages.Vote.{Vote}
use Rattle.pg_group.specs.declared.programs.Program.{Ghosts as ProgramGhosts}
use Rattle.pg_group.specs.Ranked.{IsOther, list_at}
use Rattle.pg_group.specs.Rounds.{marks, ends_with_mark, votes_of}
use Rattle.pg_group.specs.Book.{PairLists, IsWhole, IsMarked, KeepsOver, HasEnded}
use Rattle.pg_group.proofs.ByRank.{length_of_map}
use Rattle.pg_group.proofs.Counting.{some_at, marks_counted}
use Rattle.pg_triggers.specs.declared.items.Of2.{Of2}
use Rattle.pg_triggers.specs.Mine.{mine, mine_each, with_item, first_item, second_item, first_vote, second_vote}
use Rattle.pg_triggers.specs.Paired.{BothKeep, AreClosed, over}
use Rattle.pg_triggers.specs.Endings.{AreVotes, StopsBy, HaveBook}
use Rattle.pg_triggers.proofs.MineLemmas.{list_at-mine}

module _ {X : Type 0} where
  behind : (Q : ℕ → X → Type 0) (n : ℕ) (x : X) (xs : List X) → Q 0 x → ((t : ℕ) → t < n → (y : X) × (slice_get xs t ≡ Some y) × Q (suc t) y)
      → (t : ℕ) → t < suc n → (y : X) × (slice_get (x ∷ xs) t ≡ Some y) × Q t y
  behind Q n x xs first rest zero h = (x, refl, first)
  behind Q n x xs first rest (suc t) h = rest t (omega arith)

  -- one entry for each of the first numbers
  tabled : (Q : ℕ → X → Type 0) (n : ℕ) → ((t : ℕ) → t < n → (x : X) × Q t x)
      → (xs : List X) × (length xs ≡ n) × ((t : ℕ) → t < n → (x : X) × (slice_get xs t ≡ Some x) × Q t x)
  tabled Q zero each = ([], refl, λ t h. absurd (omega arith))
  tabled Q (suc n) each =
      let first = each 0 (omega arith) in
      let rest = tabled (λ t. Q (suc t)) n (λ t h. each (suc t) (omega arith)) in
      (first.0 ∷ rest.0, ap suc rest.1, behind Q n first.0 rest.0 first.1 rest.2)

-- another rank than this one
other_than : (n s : ℕ) → 1 < n → s < n → (r : ℕ) × IsOther s n r
other_than n s some s_in =
    elim (cases_eq s 0) [
      | inl e ↦ (1, (some, λ f. absurd (omega (arith, e, f))))
      | inr e ↦ (0, (omega arith, λ f. e (sym f)))
    ]

module _ {C X : Type 0} (item : C → Option X) (read : Vote → Vote) where
  votes_item : (o : Option X) (xs : List (Body X)) → votes_of (with_item item read o xs) ≡ votes_of xs
  votes_item None xs = refl
  votes_item (Some x) xs = refl

  marks_item : (o : Option X) (xs : List (Body X)) → marks (with_item item read o xs) ≡ marks xs
  marks_item None xs = refl
  marks_item (Some x) xs = refl

  vote_mine : (bs : List (Body C)) (rounds k : ℕ) → k < rounds → slice_get (votes_of (mine item read bs rounds)) k ≡ option_map read (slice_get (votes_of bs) k)
  vote_mine [] rounds k h = refl
  vote_mine (Item x ∷ bs) rounds k h = ap (λ vs. slice_get vs k) (votes_item (item x) (mine item read bs rounds)) ∙ vote_mine bs rounds k h
  vote_mine (Mark v ∷ bs) zero k h = absurd (omega arith)
  vote_mine (Mark v ∷ bs) (suc rounds) zero h = refl
  vote_mine (Mark v ∷ bs) (suc rounds) (suc k) h = vote_mine bs rounds k (omega arith)

  -- a member's votes of the first rounds are read off those of the pair
  votes_mine : (bs : List (Body C)) (rounds : ℕ) → votes_of (mine item read bs rounds) ≡ map read (take rounds (votes_of bs))
  votes_mine [] zero = refl
  votes_mine [] (suc rounds) = refl
  votes_mine (Item x ∷ bs) rounds = votes_item (item x) (mine item read bs rounds) ∙ votes_mine bs rounds
  votes_mine (Mark v ∷ bs) zero = votes_mine bs zero
  votes_mine (Mark v ∷ bs) (suc rounds) = ap (λ vs. read v ∷ vs) (votes_mine bs rounds)

  -- a list with as many marks gives the member one for each of its rounds
  marks_mine : (bs : List (Body C)) (rounds : ℕ) → rounds ≤ marks bs → marks (mine item read bs rounds) ≡ rounds
  marks_mine [] rounds h = omega arith
  marks_mine (Item x ∷ bs) rounds h = marks_item (item x) (mine item read bs rounds) ∙ marks_mine bs rounds h
  marks_mine (Mark v ∷ bs) zero h = marks_mine bs zero (omega arith)
  marks_mine (Mark v ∷ bs) (suc rounds) h = ap suc (marks_mine bs rounds (omega arith))

module _ {C : Type 0} (ranks : ℕ) (sent taken : PairLists C) (whole : IsWhole ranks sent taken) (marked : IsMarked ranks sent) where
  -- the vote of a rank in a round, as all its lists carry it
  abbrev pub Told : ℕ → ℕ → Vote → Type 0
  Told k sender vote = (receiver : ℕ) → IsOther sender ranks receiver → slice_get (votes_of (sent sender receiver)) k ≡ Some vote

  told : (k : ℕ) → k < marked.rounds → 1 < ranks → (s : ℕ) → s < ranks → (vote : Vote) × Told k s vote
  told k in_rounds some s s_in =
      let r = other_than ranks s some s_in in
      let long : length (votes_of (sent s r.0)) ≡ marked.rounds = sym (marks_counted (sent s r.0)) ∙ marked.marked s r.0 s_in r.1 in
      let v = some_at (votes_of (sent s r.0)) k (omega arith) in
      (v.0, λ receiver other. ap (λ vs. slice_get vs k) (marked.same_votes s receiver s_in other r.0 r.1) ∙ v.1)

  pub all_told : (k : ℕ) → k < marked.rounds → 1 < ranks
      → (votes : List Vote) × (length votes ≡ ranks) × ((t : ℕ) → t < ranks → (vote : Vote) × (slice_get votes t ≡ Some vote) × Told k t vote)
  all_told k in_rounds some = tabled (Told k) ranks (told k in_rounds some)

  module _ {P : Type 0} (p : ProgramGhosts P C) (rank : ℕ) (start now : P) (rank_in : rank < ranks) (keeps : KeepsOver p ranks rank sent taken start now) where
    handled_here : (s : ℕ) → IsOther rank ranks s → list_at keeps.handled s ≡ sent s rank
    handled_here s other = keeps.handled_is s other ∙ whole s rank other.0 (rank_in, λ e. other.1 (sym e))

    -- as many marks were handled from another rank as the book has rounds
    pub handled_marks : (s : ℕ) → IsOther rank ranks s → marks (list_at keeps.handled s) ≡ marked.rounds
    handled_marks s other = ap marks (handled_here s other) ∙ marked.marked s rank other.0 (rank_in, λ e. other.1 (sym e))

    module _ {X : Type 0} (item : C → Option X) (read : Vote → Vote) (k : ℕ) (votes : List Vote) (long : length votes ≡ ranks)
        (each : (t : ℕ) → t < ranks → (vote : Vote) × (slice_get votes t ≡ Some vote) × Told k t vote) where
      read_at : (t : ℕ) (bs : List (Body C)) (rounds r : ℕ) → k < rounds → t < ranks → IsOther t ranks r → bs ≡ sent t r
          → slice_get (votes_of (mine item read bs rounds)) k ≡ slice_get (map read votes) t
      read_at t bs rounds r h t_in other is =
          let v = each t t_in in
          vote_mine item read bs rounds k h ∙ ap (λ b. option_map read (slice_get (votes_of b) k)) is ∙ ap (option_map read) (v.2 r other) ∙ sym (ap (option_map read) v.1) ∙ sym (slice_get-map read votes t)

      pub are_votes : (own size rounds : ℕ) → own ≡ rank → size ≡ ranks → k < rounds
          → AreVotes own size k (mine_each item read rounds keeps.handled) (mine_each item read rounds keeps.promised) (map read votes)
      are_votes own size rounds is_own is_size h =
          subst (λ o. AreVotes o size k (mine_each item read rounds keeps.handled) (mine_each item read rounds keeps.promised) (map read votes)) (sym is_own)
          (subst (λ n. AreVotes rank n k (mine_each item read rounds keeps.handled) (mine_each item read rounds keeps.promised) (map read votes)) (sym is_size)
          (record {
            each = length_of_map read votes ∙ long;
            others = λ s other.
                ap (λ bs. slice_get (votes_of bs) k) (list_at-mine item read keeps.handled rounds s)
                ∙ read_at s (list_at keeps.handled s) rounds rank h other.0 (rank_in, λ e. other.1 (sym e)) (handled_here s other);
            mine = λ r other.
                ap (λ bs. slice_get (votes_of bs) k) (list_at-mine item read keeps.promised rounds r)
                ∙ read_at rank (list_at keeps.promised r) rounds r h rank_in other (keeps.sent_is r other);
          }))

-- A member of a program has ended within the rounds of the book, kept its promise over its own part of the lists, and sent nothing
-- after its last mark.
pub record MemberEnded {C X Q : Type 0} (q : ProgramGhosts Q X) (item : C → Option X) (read : Vote → Vote) (ranks rank rounds : ℕ) (start now : Q) (handled sent : List (List (Body C))) : Type 0 where
  pub keeps : q.Keeps start (mine_each item read (q.round now + 1) handled) (mine_each item read (q.round now + 1) sent) now
  pub ended : q.ended now ≡ true
  pub own : q.own now ≡ rank
  pub size : q.size now ≡ ranks
  pub within : (other : ℕ) → IsOther rank ranks other → q.round now < rounds
  pub closed : AreClosed rank ranks (mine_each item read (q.round now + 1) sent)

module _ {C : Type 0} (ranks : ℕ) (sent taken : PairLists C) (whole : IsWhole ranks sent taken) (marked : IsMarked ranks sent)
    {P X Q : Type 0} (p : ProgramGhosts P C) (q : ProgramGhosts Q X) (item : C → Option X) (read : Vote → Vote) (rule : ℕ → List Vote → Bool) where
  -- A member of this rank's program has ended, and stops by the rule.
  pub record RuledAt (rank : ℕ) (start now : P) (m_start m : Q) : Type 0 where
    pub within : rank < ranks
    pub keeps : KeepsOver p ranks rank sent taken start now
    pub member : MemberEnded q item read ranks rank marked.rounds m_start m keeps.handled keeps.promised
    pub stops : StopsBy q rule m_start

  not_before : (r s : ℕ) (start now start' now' : P) (m_start m m_start' m' : Q) → IsOther r ranks s → RuledAt r start now m_start m → RuledAt s start' now' m_start' m' → q.round m < q.round m' → ⊥
  not_before r s start now start' now' m_start m m_start' m' apart a b before =
      let k = q.round m in
      let some : 1 < ranks = omega (arith, a.within, apart.0, apart.1) in
      let all = all_told ranks sent taken whole marked k (a.member.within s apart) some in
      let votes = map read all.0 in
      let here : rule k votes ≡ nat_eq k (q.round m) = a.stops _ _ m a.member.keeps a.member.ended (subst (λ n. 1 < n) (sym a.member.size) some) k votes (omega arith)
      (are_votes ranks sent taken whole marked p r start now a.within a.keeps item read k all.0 all.1 all.2 (q.own m) (q.size m) (k + 1) a.member.own a.member.size (omega arith)) in
      let there : rule k votes ≡ nat_eq k (q.round m') = b.stops _ _ m' b.member.keeps b.member.ended (subst (λ n. 1 < n) (sym b.member.size) some) k votes (omega arith)
      (are_votes ranks sent taken whole marked p s start' now' b.within b.keeps item read k all.0 all.1 all.2 (q.own m') (q.size m') (q.round m' + 1) b.member.own b.member.size (omega arith)) in
      let same : nat_eq k (q.round m) ≡ true = grind (arith, nat_tests) in
      let differs : nat_eq k (q.round m') ≡ false = grind (arith, nat_tests) in
      cc (here, there, same, differs)

  pub same_end : (r s : ℕ) (start now start' now' : P) (m_start m m_start' m' : Q) → IsOther r ranks s → RuledAt r start now m_start m → RuledAt s start' now' m_start' m' → q.round m ≡ q.round m'
  same_end r s start now start' now' m_start m m_start' m' apart a b =
      elim (cases_lt (q.round m) (q.round m')) [
        | inl h ↦ absurd (not_before r s start now start' now' m_start m m_start' m' apart a b h)
        | inr h ↦ elim (cases_eq (q.round m) (q.round m')) [
          | inl e ↦ e
          | inr e ↦ absurd (not_before s r start' now' start now m_start' m' m_start m (a.within, λ f. apart.1 (sym f)) b a (omega arith))
        ]
      ]

  -- the member's part of the lists up to a round
  abbrev pub part : ℕ → PairLists C → PairLists X
  part last lists sender receiver = mine item read (lists sender receiver) (last + 1)

  -- the members of all ranks, which have ended and stop by the rule
  module _ (member : P → Q) (start now : ℕ → P) (all : (rank : ℕ) → rank < ranks → RuledAt rank (start rank) (now rank) (member (start rank)) (member (now rank))) where
    last : ℕ
    last = q.round (member (now 0))

    same_round : (rank : ℕ) → rank < ranks → q.round (member (now rank)) ≡ last
    unfolding last
    same_round zero h = refl
    same_round (suc rank) h =
        same_end (suc rank) 0 (start (suc rank)) (now (suc rank)) (start 0) (now 0) (member (start (suc rank))) (member (now (suc rank))) (member (start 0)) (member (now 0))
        (omega (arith, h), λ e. absurd (omega (arith, e))) (all (suc rank) h) (all 0 (omega (arith, h)))

    kept_at : (rank : ℕ) (n : ℕ) → rank < ranks → q.round (member (now rank)) ≡ n → HasEnded q ranks rank (part n sent) (part n taken) (member (start rank)) (member (now rank))
    kept_at rank n h is =
        let a = all rank h in
        record {
          within = h;
          keeps = record {
            own = a.member.own;
            size = a.member.size;
            handled = mine_each item read (n + 1) a.keeps.handled;
            promised = mine_each item read (n + 1) a.keeps.promised;
            keeps = subst (λ m. q.Keeps (member (start rank)) (mine_each item read (m + 1) a.keeps.handled) (mine_each item read (m + 1) a.keeps.promised) (member (now rank))) is a.member.keeps;
            ranks_handled = length_of_map (λ list. mine item read list (n + 1)) a.keeps.handled ∙ a.keeps.ranks_handled;
            ranks_sent = length_of_map (λ list. mine item read list (n + 1)) a.keeps.promised ∙ a.keeps.ranks_sent;
            own_handled = list_at-mine item read a.keeps.handled (n + 1) rank ∙ ap (λ bs. mine item read bs (n + 1)) a.keeps.own_handled;
            own_sent = list_at-mine item read a.keeps.promised (n + 1) rank ∙ ap (λ bs. mine item read bs (n + 1)) a.keeps.own_sent;
            handled_is = λ from other. list_at-mine item read a.keeps.handled (n + 1) from ∙ ap (λ bs. mine item read bs (n + 1)) (a.keeps.handled_is from other);
            sent_is = λ to other. list_at-mine item read a.keeps.promised (n + 1) to ∙ ap (λ bs. mine item read bs (n + 1)) (a.keeps.sent_is to other);
          };
          ended = a.member.ended;
        }

    marks_at : (s r n : ℕ) → s < ranks → IsOther s ranks r → q.round (member (now s)) ≡ n → marks (part n sent s r) ≡ suc n
    marks_at s r n h other is =
        let a = all s h in
        let most : q.round (member (now s)) < marked.rounds = a.member.within r other in
        let some : n + 1 ≤ marks (sent s r) = omega (arith, most, is, marked.marked s r h other) in
        marks_mine item read (sent s r) (n + 1) some ∙ omega arith

    closed_at : (s r n : ℕ) → s < ranks → IsOther s ranks r → q.round (member (now s)) ≡ n → ends_with_mark (part n sent s r) ≡ true
    closed_at s r n h other is =
        let a = all s h in
        ap (λ bs. ends_with_mark (mine item read bs (n + 1))) (sym (a.keeps.sent_is r other))
        ∙ ap ends_with_mark (sym (list_at-mine item read a.keeps.promised (n + 1) r))
        ∙ subst (λ m. ends_with_mark (list_at (mine_each item read (m + 1) a.keeps.promised) r) ≡ true) is (a.member.closed r other)

    votes_alike : (s r t n : ℕ) → s < ranks → IsOther s ranks r → IsOther s ranks t → votes_of (part n sent s r) ≡ votes_of (part n sent s t)
    votes_alike s r t n h other apart =
        votes_mine item read (sent s r) (n + 1) ∙ ap (λ vs. map read (take (n + 1) vs)) (marked.same_votes s r h other t apart) ∙ sym (votes_mine item read (sent s t) (n + 1))

    pub own_book : HaveBook p q member part ranks sent taken start now
    own_book = record {
      last = last;
      whole = λ s r h other. ap (λ bs. mine item read bs (last + 1)) (whole s r h other);
      marked = record {
        rounds = suc last;
        some_round = omega arith;
        marked = λ s r h other. marks_at s r last h other (same_round s h);
        last = λ s r h other. closed_at s r last h other (same_round s h);
        same_votes = λ s r h other t apart. votes_alike s r t last h other apart;
      };
      counted = refl;
      ended = λ rank h. kept_at rank last h (same_round rank h);
      same_round = same_round;
    }

first_of : (x y : Bool) → (x && y) ≡ true → x ≡ true
first_of true y h = refl
first_of false y h = h

second_of : (x y : Bool) → (x && y) ≡ true → y ≡ true
second_of true y h = h
second_of false y h = absurd (cc h)

or_first : (x y : Bool) → x ≡ true → (x || y) ≡ true
or_first true y h = refl
or_first false y h = absurd (cc h)

closed_of : {X : Type 0} (own size rank ranks : ℕ) (lists : List (List (Body X))) → own ≡ rank → size ≡ ranks → AreClosed own size lists → AreClosed rank ranks lists
closed_of own size rank ranks lists e f closed r other = closed r (omega (arith, f, other.0), λ x. other.1 (x ∙ e))

module _ {A B : Type 0} (ranks : ℕ) (sent taken : PairLists (Of2 A B)) (whole : IsWhole ranks sent taken) (marked : IsMarked ranks sent) {P : Type 0} (p : ProgramGhosts P (Of2 A B))
    (rank : ℕ) (start now : P) (here : HasEnded p ranks rank sent taken start now) where
  -- the later round of the two members is the last one of the book
  last_round : {KA : List (List (Body A)) → List (List (Body A)) → Type 0} {KB : List (List (Body B)) → List (List (Body B)) → Type 0} (own size rA rB : ℕ) (eA eB : Bool) (vote : Option Vote)
      → own ≡ rank → size ≡ ranks → (eA && eB) ≡ true → BothKeep KA KB own size rA rB eA eB vote here.keeps.handled here.keeps.promised
      → (other : ℕ) → IsOther rank ranks other → max rA rB + 1 ≡ marked.rounds
  last_round own size rA rB eA eB vote is_own is_size ends both other apart =
      let there : IsOther own size other = subst (λ o. IsOther o size other) (sym is_own) (subst (λ n. IsOther rank n other) (sym is_size) apart) in
      sym (both.handled_marks.others other there ∙ ap (over (max rA rB)) ends) ∙ handled_marks ranks sent taken whole marked p rank start now here.within here.keeps other apart

  -- both members of a pair have ended where it has
  pub pair_ended : {QA QB : Type 0} (a : ProgramGhosts QA A) (b : ProgramGhosts QB B) (start_A now_A : QA) (start_B now_B : QB) (eA eB : Bool) (vote : Option Vote)
      → a.own now_A ≡ rank → a.size now_A ≡ ranks → b.own now_B ≡ a.own now_A → b.size now_B ≡ a.size now_A → eA ≡ a.ended now_A → eB ≡ b.ended now_B → (eA && eB) ≡ true
      → BothKeep (λ h s. a.Keeps start_A h s now_A) (λ h s. b.Keeps start_B h s now_B) (a.own now_A) (a.size now_A) (a.round now_A) (b.round now_B) eA eB vote here.keeps.handled here.keeps.promised
      → MemberEnded a first_item first_vote ranks rank marked.rounds start_A now_A here.keeps.handled here.keeps.promised
      × MemberEnded b second_item second_vote ranks rank marked.rounds start_B now_B here.keeps.handled here.keeps.promised
  pair_ended a b start_A now_A start_B now_B eA eB vote is_own is_size same_own same_size ends_A ends_B ends both =
      let last = last_round (a.own now_A) (a.size now_A) (a.round now_A) (b.round now_B) eA eB vote is_own is_size ends both in
      let first_ended : eA ≡ true = first_of eA eB ends in
      let second_ended : eB ≡ true = second_of eA eB ends in (
        record {
          keeps = both.first.keeps;
          ended = sym ends_A ∙ first_ended;
          own = is_own;
          size = is_size;
          within = λ other apart. omega (arith, last other apart);
          closed = closed_of _ _ rank ranks _ is_own is_size (both.first.silent (or_first eA _ first_ended));
        },
        record {
          keeps = both.second.keeps;
          ended = sym ends_B ∙ second_ended;
          own = same_own ∙ is_own;
          size = same_size ∙ is_size;
          within = λ other apart. omega (arith, last other apart);
          closed = closed_of _ _ rank ranks _ is_own is_size (both.second.silent (or_first eB _ second_ended));
        },
      )
