use Rattle.std.proofs.Common.{◌≡◌, ◌≤◌, [], ◌∷◌, ◌++◌, length, ap, ◌∙◌}
use Rattle.std.specs.Bool.{⊤}
use Rattle.std.specs.Option.{option_to_list}
use Rattle.std.proofs.lemmas.Option.{MatchOption-at_some}
use Rattle.pg_group.proofs.Popped.{flag_clear, popped_left, popped_right, stands_at}
use Rattle.pg_group_tests.proofs.tests.a_roll_sends_one_number_a_round_and_counts_what_it_gets.Goals as goal

pub roll_right-requires-clause-left : goal.roll_right-requires-clause-left
roll_right-requires-clause-left g c =
    let left = c.in_ok-left.left in
    let right = c.in_ok-right.right in
    let xs = c.in_ok-group.group.items in
    let ys = c.pop.new.self.items in
    let zs = c.pop-2.new.self.items in
    let made = c.in_ok-group.ensures in
    let two : length xs ≡ 2 = made.count ∙ (MatchOption-at_some ⊤ (λ m. (m ≡ 2) × (1 ≤ 2) × (2 ≤ 32)) c.in_ok-ranks.ranks c.in_ok-ranks.ensures.ok_part c.new.ensures.value).0 in
    let first : xs ≡ ys ++ right ∷ [] = c.pop.ensures.items ∙ ap (λ o. ys ++ option_to_list o) c.in_ok-right.ensures.ok_part in
    let second : ys ≡ zs ++ left ∷ [] = c.pop-2.ensures.items ∙ ap (λ o. zs ++ option_to_list o) c.in_ok-left.ensures.ok_part in
    stands_at xs _ 2 0 left made.group two (popped_left xs ys zs left right two first second)

pub roll_right-requires-clause-right : goal.roll_right-requires-clause-right
roll_right-requires-clause-right g c =
    let left = c.in_ok-left.left in
    let right = c.in_ok-right.right in
    let xs = c.in_ok-group.group.items in
    let ys = c.pop.new.self.items in
    let zs = c.pop-2.new.self.items in
    let made = c.in_ok-group.ensures in
    let two : length xs ≡ 2 = made.count ∙ (MatchOption-at_some ⊤ (λ m. (m ≡ 2) × (1 ≤ 2) × (2 ≤ 32)) c.in_ok-ranks.ranks c.in_ok-ranks.ensures.ok_part c.new.ensures.value).0 in
    let first : xs ≡ ys ++ right ∷ [] = c.pop.ensures.items ∙ ap (λ o. ys ++ option_to_list o) c.in_ok-right.ensures.ok_part in
    let second : ys ≡ zs ++ left ∷ [] = c.pop-2.ensures.items ∙ ap (λ o. zs ++ option_to_list o) c.in_ok-left.ensures.ok_part in
    stands_at xs _ 2 1 right made.group two (popped_right xs ys zs left right two first second)

pub roll_right-requires-clause-unmarked : goal.roll_right-requires-clause-unmarked
roll_right-requires-clause-unmarked g c =
    let left = c.in_ok-left.left in
    let right = c.in_ok-right.right in
    let xs = c.in_ok-group.group.items in
    let ys = c.pop.new.self.items in
    let zs = c.pop-2.new.self.items in
    let made = c.in_ok-group.ensures in
    let two : length xs ≡ 2 = made.count ∙ (MatchOption-at_some ⊤ (λ m. (m ≡ 2) × (1 ≤ 2) × (2 ≤ 32)) c.in_ok-ranks.ranks c.in_ok-ranks.ensures.ok_part c.new.ensures.value).0 in
    let first : xs ≡ ys ++ right ∷ [] = c.pop.ensures.items ∙ ap (λ o. ys ++ option_to_list o) c.in_ok-right.ensures.ok_part in
    let second : ys ≡ zs ++ left ∷ [] = c.pop-2.ensures.items ∙ ap (λ o. zs ++ option_to_list o) c.in_ok-left.ensures.ok_part in
    λ rank. flag_clear _ c.in_ok-ranks.ranks rank (made.marks_sent 0 left (popped_left xs ys zs left right two first second))
