-- The items of a round of all lists by rank.
use Rattle.std.proofs.Common.{◌≡◌, ◌⊎◌, ◌∙◌, ℕ, zero, suc, ◌<◌, Bool, true, false, cond, List, [], ◌∷◌, length, refl, sym, ap, subst, inl, inr, ⊎_elim, arith, map, Contains}
use Rattle.std.proofs.lemmas.Bool.{false≢true}
use Rattle.std.proofs.lemmas.List.Elements.{Contains-append_left, Contains-append_right, Contains-append_cases}
use Rattle.pg_base.proofs.Members.{contains_first, contains_later, contains_cases}
use Rattle.pg_group.specs.declared.messages.Body.{Body}
use Rattle.pg_group.specs.Ranked.{list_at}
use Rattle.pg_group.specs.Rounds.{items_of_round}
use Rattle.pg_boruvka.specs.declared.messages.Hook.{Hook}
use Rattle.pg_boruvka.specs.declared.messages.Piece.{Piece}
use Rattle.pg_boruvka.specs.declared.messages.Message.{Message}
use Rattle.pg_boruvka.specs.declared.messages.Message.TheVariants.{Piece as Keys, Hook as Hooked}
use Rattle.pg_boruvka.specs.Parts.{Part}
use Rattle.pg_boruvka.specs.Winners.{items_in}
use Rattle.pg_boruvka.specs.Hooks.{is_within, hooks_among}

-- the members of a list that was mapped
module _ {X Y : Type 0} where
  pub member_of_map : (f : X → Y) (xs : List X) (y : Y) → Contains (map f xs) y → (x : X) × Contains xs x × (f x ≡ y)
  member_of_map f [] y c = absurd (omega (arith, c.1))
  member_of_map f (x ∷ xs) y c = ⊎_elim
      (λ same. (x, contains_first x xs, same))
      (λ later. let found = member_of_map f xs y later in (found.0, contains_later x xs found.0 found.1, found.2))
      (contains_cases (f x) (map f xs) y c)

  pub mapped_member : (f : X → Y) (xs : List X) (x : X) → Contains xs x → Contains (map f xs) (f x)
  mapped_member f [] x c = absurd (omega (arith, c.1))
  mapped_member f (y ∷ xs) x c = ⊎_elim
      (λ same. subst (λ (z : X). Contains (map f (y ∷ xs)) (f z)) same (contains_first (f y) (map f xs)))
      (λ later. contains_later (f y) (map f xs) (f x) (mapped_member f xs x later))
      (contains_cases y xs x c)

pub none_in : {X : Type 0} (xs : List X) (x : X) → xs ≡ [] → Contains xs x → ⊥
none_in {X} xs x e c = let empty : Contains [] x = subst (λ (l : List X). Contains l x) e c in omega (arith, empty.1)

-- What a round of one list has is among those of all lists, and the other way round.
pub items_have : (k : ℕ) (lists : List (List (Body Message))) (from : ℕ) (m : Message) → Contains (items_of_round k (list_at lists from)) m → Contains (items_in k lists) m
items_have k [] from m c = absurd (omega (arith, c.1))
items_have k (list ∷ lists) zero m c = Contains-append_left (items_of_round k list) (items_in k lists) m c
items_have k (list ∷ lists) (suc from) m c = Contains-append_right (items_of_round k list) (items_in k lists) m (items_have k lists from m c)

-- A rank from which the message came.
pub record CameFrom (k : ℕ) (lists : List (List (Body Message))) (m : Message) : Type 0 where
  pub rank : ℕ
  pub below : rank < length lists
  pub among : Contains (items_of_round k (list_at lists rank)) m

pub items_came : (k : ℕ) (lists : List (List (Body Message))) (m : Message) → Contains (items_in k lists) m → CameFrom k lists m
items_came k [] m c = absurd (omega (arith, c.1))
items_came k (list ∷ lists) m c = ⊎_elim
    (λ here. record { rank = 0; below = omega arith; among = here })
    (λ later. let found = items_came k lists m later in record { rank = suc found.rank; below = omega (arith, found.below); among = found.among })
    (Contains-append_cases (items_of_round k list) (items_in k lists) m c)

-- A hook that was handled is a message; a message's hook within range is one that was handled.
hook_step : (part : Part) (g : Hook) (messages : List Message) (h : Hook) (within : Bool) → is_within part g ≡ within
    → (Contains (hooks_among part messages) h → Contains messages (Hooked h)) → Contains (cond within (g ∷ hooks_among part messages) (hooks_among part messages)) h
    → Contains (Hooked g ∷ messages) (Hooked h)
hook_step part g messages h true is rest c = ⊎_elim
    (λ same. subst (λ (x : Hook). Contains (Hooked g ∷ messages) (Hooked x)) same (contains_first (Hooked g) messages))
    (λ later. contains_later (Hooked g) messages (Hooked h) (rest later))
    (contains_cases g (hooks_among part messages) h c)
hook_step part g messages h false is rest c = contains_later (Hooked g) messages (Hooked h) (rest c)

pub hook_is_message : (part : Part) (messages : List Message) (h : Hook) → Contains (hooks_among part messages) h → Contains messages (Hooked h)
hook_is_message part [] h c = absurd (omega (arith, c.1))
hook_is_message part (Keys piece ∷ messages) h c = contains_later (Keys piece) messages (Hooked h) (hook_is_message part messages h c)
hook_is_message part (Hooked g ∷ messages) h c = hook_step part g messages h (is_within part g) refl (hook_is_message part messages h) c

hooked_same : (g h : Hook) → Hooked g ≡ Hooked h → g ≡ h
hooked_same g h e = cc

not_hooked : (piece : Piece) (h : Hook) → Keys piece ≡ Hooked h → ⊥
not_hooked piece h e = cc

message_step : (part : Part) (g : Hook) (hooks : List Hook) (h : Hook) (within : Bool) → is_within part g ≡ within → is_within part h ≡ true
    → ((g ≡ h) ⊎ Contains hooks h) → Contains (cond within (g ∷ hooks) hooks) h
message_step part g hooks h true is inside (inl same) = subst (Contains (g ∷ hooks)) same (contains_first g hooks)
message_step part g hooks h true is inside (inr later) = contains_later g hooks h later
message_step part g hooks h false is inside (inl same) =
    let no : false ≡ true = sym is ∙ (ap (is_within part) same ∙ inside) in absurd (false≢true no)
message_step part g hooks h false is inside (inr later) = later

pub message_is_hook : (part : Part) (messages : List Message) (h : Hook) → is_within part h ≡ true → Contains messages (Hooked h) → Contains (hooks_among part messages) h
message_is_hook part [] h inside c = absurd (omega (arith, c.1))
message_is_hook part (Keys piece ∷ messages) h inside c = ⊎_elim
    (λ same. absurd (not_hooked piece h same))
    (λ later. message_is_hook part messages h inside later)
    (contains_cases (Keys piece) messages (Hooked h) c)
message_is_hook part (Hooked g ∷ messages) h inside c =
    message_step part g (hooks_among part messages) h (is_within part g) refl inside
    (⊎_elim (λ same. inl (hooked_same g h same)) (λ later. inr (message_is_hook part messages h inside later)) (contains_cases (Hooked g) messages (Hooked h) c))
