-- The items of lists by rank to which marks were appended.
use Rattle.std.proofs.Common.{◌≡◌, ℕ, zero, suc, List, [], ◌∷◌, ◌++◌, map, ⊎_elim, Contains}
use Rattle.std.proofs.lemmas.List.Elements.{Contains-append_left, Contains-push_cases}
use Rattle.pg_group.specs.declared.messages.Body.{Body}
use Rattle.pg_group.specs.declared.messages.Body.TheVariants.{Item, Mark}
use Rattle.pg_group.specs.declared.messages.Vote.{Vote}
use Rattle.pg_group.specs.Ranked.{list_at}
use Rattle.pg_group.specs.Supersteps.{append_others, append_each, append_marks}
use Rattle.pg_best.specs.declared.offers.Offer.{Offer}

-- The lists of the second have the same items as those of the first.
pub record SameItems (lists lists' : List (List (Body Offer))) : Type 0 where
  pub kept : (r : ℕ) (o : Offer) → Contains (list_at lists r) (Item o) → Contains (list_at lists' r) (Item o)
  pub none_more : (r : ℕ) (o : Offer) → Contains (list_at lists' r) (Item o) → Contains (list_at lists r) (Item o)

mark_is_no_item : (v : Vote) (o : Offer) → Mark v ≡ Item o → ⊥
mark_is_no_item v o e = cc

unmarked : (list : List (Body Offer)) (v : Vote) (o : Offer) → Contains (list ++ Mark v ∷ []) (Item o) → Contains list (Item o)
unmarked list v o c = ⊎_elim (λ before. before) (λ e. absurd (mark_is_no_item v o e)) (Contains-push_cases list (Mark v) (Item o) c)

marked : (list : List (Body Offer)) (v : Vote) (o : Offer) → Contains list (Item o) → Contains (list ++ Mark v ∷ []) (Item o)
marked list v o c = Contains-append_left list (Mark v ∷ []) (Item o) c

all_to : (v : Vote) (lists : List (List (Body Offer))) (r : ℕ) (o : Offer) → Contains (list_at lists r) (Item o) → Contains (list_at (map (λ list. list ++ Mark v ∷ []) lists) r) (Item o)
all_to v [] r o c = c
all_to v (l ∷ ls) zero o c = marked l v o c
all_to v (l ∷ ls) (suc r) o c = all_to v ls r o c

all_from : (v : Vote) (lists : List (List (Body Offer))) (r : ℕ) (o : Offer) → Contains (list_at (map (λ list. list ++ Mark v ∷ []) lists) r) (Item o) → Contains (list_at lists r) (Item o)
all_from v [] r o c = c
all_from v (l ∷ ls) zero o c = unmarked l v o c
all_from v (l ∷ ls) (suc r) o c = all_from v ls r o c

others_to : (own : ℕ) (v : Vote) (lists : List (List (Body Offer))) (r : ℕ) (o : Offer) → Contains (list_at lists r) (Item o) → Contains (list_at (append_others own (Mark v) lists) r) (Item o)
others_to own v [] r o c = c
others_to zero v (l ∷ ls) zero o c = c
others_to zero v (l ∷ ls) (suc r) o c = all_to v ls r o c
others_to (suc own) v (l ∷ ls) zero o c = marked l v o c
others_to (suc own) v (l ∷ ls) (suc r) o c = others_to own v ls r o c

others_from : (own : ℕ) (v : Vote) (lists : List (List (Body Offer))) (r : ℕ) (o : Offer) → Contains (list_at (append_others own (Mark v) lists) r) (Item o) → Contains (list_at lists r) (Item o)
others_from own v [] r o c = c
others_from zero v (l ∷ ls) zero o c = c
others_from zero v (l ∷ ls) (suc r) o c = all_from v ls r o c
others_from (suc own) v (l ∷ ls) zero o c = unmarked l v o c
others_from (suc own) v (l ∷ ls) (suc r) o c = others_from own v ls r o c

-- a vote is no item
pub voted_items : (own : ℕ) (v : Vote) (lists : List (List (Body Offer))) → SameItems lists (append_others own (Mark v) lists)
voted_items own v lists = record { kept = others_to own v lists; none_more = others_from own v lists }

each_to : (votes : List Vote) (lists : List (List (Body Offer))) (r : ℕ) (o : Offer) → Contains (list_at lists r) (Item o) → Contains (list_at (append_each votes lists) r) (Item o)
each_to [] lists r o c = c
each_to (v ∷ vs) [] r o c = c
each_to (v ∷ vs) (l ∷ ls) zero o c = marked l v o c
each_to (v ∷ vs) (l ∷ ls) (suc r) o c = each_to vs ls r o c

each_from : (votes : List Vote) (lists : List (List (Body Offer))) (r : ℕ) (o : Offer) → Contains (list_at (append_each votes lists) r) (Item o) → Contains (list_at lists r) (Item o)
each_from [] lists r o c = c
each_from (v ∷ vs) [] r o c = c
each_from (v ∷ vs) (l ∷ ls) zero o c = unmarked l v o c
each_from (v ∷ vs) (l ∷ ls) (suc r) o c = each_from vs ls r o c

ends_to : (own : ℕ) (votes : List Vote) (lists : List (List (Body Offer))) (r : ℕ) (o : Offer) → Contains (list_at lists r) (Item o) → Contains (list_at (append_marks own votes lists) r) (Item o)
ends_to own [] lists r o c = c
ends_to own (v ∷ vs) [] r o c = c
ends_to zero (v ∷ vs) (l ∷ ls) zero o c = c
ends_to zero (v ∷ vs) (l ∷ ls) (suc r) o c = each_to vs ls r o c
ends_to (suc own) (v ∷ vs) (l ∷ ls) zero o c = marked l v o c
ends_to (suc own) (v ∷ vs) (l ∷ ls) (suc r) o c = ends_to own vs ls r o c

ends_from : (own : ℕ) (votes : List Vote) (lists : List (List (Body Offer))) (r : ℕ) (o : Offer) → Contains (list_at (append_marks own votes lists) r) (Item o) → Contains (list_at lists r) (Item o)
ends_from own [] lists r o c = c
ends_from own (v ∷ vs) [] r o c = c
ends_from zero (v ∷ vs) (l ∷ ls) zero o c = c
ends_from zero (v ∷ vs) (l ∷ ls) (suc r) o c = each_from vs ls r o c
ends_from (suc own) (v ∷ vs) (l ∷ ls) zero o c = unmarked l v o c
ends_from (suc own) (v ∷ vs) (l ∷ ls) (suc r) o c = ends_from own vs ls r o c

-- the marks that end a round are no items
pub ended_items : (own : ℕ) (votes : List Vote) (lists : List (List (Body Offer))) → SameItems lists (append_marks own votes lists)
ended_items own votes lists = record { kept = ends_to own votes lists; none_more = ends_from own votes lists }

pub same_items : (lists : List (List (Body Offer))) → SameItems lists lists
same_items lists = record { kept = λ r o c. c; none_more = λ r o c. c }
