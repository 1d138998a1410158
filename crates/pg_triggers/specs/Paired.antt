-- What a pair keeps of a run: what each of its members keeps, of the member's own messages.
use Rattle.std.specs.Prelude.{◌≡◌, ℕ, ◌+◌, ◌<◌, Bool, true, false, ◌&&◌, ◌||◌, if◌then◌else◌, max, Option, Some, None, List, length}
use Rattle.pg_group.specs.declared.messages.Body.{Body}
use Rattle.pg_group.specs.declared.messages.Vote.{Vote}
use Rattle.pg_group.specs.Ranked.{IsOther, list_at}
use Rattle.pg_group.specs.Rounds.{marks, ends_with_mark}
use Rattle.pg_triggers.specs.Mine.{first_item, second_item, first_vote, second_vote, first_lists, second_lists, whole}
use Rattle.pg_triggers.specs.declared.items.Of2.{Of2}
use Rattle.pg_triggers.specs.declared.items.Of2.TheVariants.{First, Second}

-- so many marks in the list of each other rank, and none in the own one
pub record AreMarked {C : Type 0} (own size n : ℕ) (lists : List (List (Body C))) : Type 0 where
  pub count : length lists ≡ size
  pub others : (rank : ℕ) → IsOther own size rank → marks (list_at lists rank) ≡ n
  pub none : marks (list_at lists own) ≡ 0

-- the last body of the list of each other rank is a mark
abbrev pub AreClosed : {X : Type 0} → ℕ → ℕ → List (List (Body X)) → Type 0
AreClosed own size lists = (rank : ℕ) → IsOther own size rank → ends_with_mark (list_at lists rank) ≡ true

abbrev pub is_cast : Option Vote → Bool
is_cast None = false
is_cast (Some vote) = true

-- how many rounds are over, where `passed` says whether the present one is
abbrev pub over : ℕ → Bool → ℕ
over round passed = if passed then round + 1 else round

-- One member of a pair: it keeps its promise over its own part of the lists, and it sent nothing after its last mark
-- where it has ended, or has voted in this round. A member that has ended did so in a round that is over.
pub record MemberKeeps {X : Type 0} (Keeps : List (List (Body X)) → List (List (Body X)) → Type 0) (own size finished round : ℕ) (ended cast : Bool)
    (handled sent : List (List (Body X))) : Type 0 where
  pub keeps : Keeps handled sent
  pub silent : (ended || cast) ≡ true → AreClosed own size sent
  pub before : ended ≡ true → round < finished

-- Both members of a pair, each over its own part of the lists, by the rounds of the two and whether they have ended.
pub record BothKeep {A B : Type 0} (Keeps_first : List (List (Body A)) → List (List (Body A)) → Type 0) (Keeps_second : List (List (Body B)) → List (List (Body B)) → Type 0)
    (own size first_round second_round : ℕ) (first_ended second_ended : Bool) (vote : Option Vote) (handled sent : List (List (Body (Of2 A B)))) : Type 0 where
  pub handled_marks : AreMarked own size (over (max first_round second_round) (first_ended && second_ended)) handled
  pub sent_marks : AreMarked own size (over (max first_round second_round) (is_cast vote)) sent
  pub first : MemberKeeps Keeps_first own size (over (max first_round second_round) (first_ended && second_ended)) first_round first_ended (is_cast vote)
      (first_lists first_round handled) (first_lists first_round sent)
  pub second : MemberKeeps Keeps_second own size (over (max first_round second_round) (first_ended && second_ended)) second_round second_ended (is_cast vote)
      (second_lists second_round handled) (second_lists second_round sent)

-- One member, which has not ended, did an item over its own part of the lists sent. The other one's part is the same.
pub record MemberDid {C X Y : Type 0} (item : C → Option X) (read : Vote → Vote) (other_item : C → Option Y) (other_read : Vote → Vote)
    (Did : List (List (Body X)) → List (List (Body X)) → Type 0) (ended : Bool) (sent more : List (List (Body C))) : Type 0 where
  pub runs : ended ≡ false
  pub did : Did (whole item read sent) (whole item read more)
  pub other : whole other_item other_read more ≡ whole other_item other_read sent

module _ {A B : Type 0} where
  -- a fact of an item of the first member, and one of an item of the second
  abbrev pub OnMember : Of2 A B → (A → Type 0) → (B → Type 0) → Type 0
  OnMember (First x) P Q = P x
  OnMember (Second y) P Q = Q y

  abbrev pub FirstDid : (List (List (Body A)) → List (List (Body A)) → Type 0) → Bool → List (List (Body (Of2 A B))) → List (List (Body (Of2 A B))) → Type 0
  FirstDid = MemberDid first_item first_vote second_item second_vote

  abbrev pub SecondDid : (List (List (Body B)) → List (List (Body B)) → Type 0) → Bool → List (List (Body (Of2 A B))) → List (List (Body (Of2 A B))) → Type 0
  SecondDid = MemberDid second_item second_vote first_item first_vote
