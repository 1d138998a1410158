-- What stands for a vertex of another rank was offered to it, at each step.
use Rattle.std.proofs.Common.{◌≡◌, ◌≢◌, ◌⊎◌, ℕ, zero, suc, ◌+◌, ◌-◌, ◌<◌, ◌≤◌, List, length, AllPairs, get_or, set, replicate, refl, sym, ap, ◌∙◌, subst, inl, inr, arith, Option, Some, None, Contains}
use Rattle.std.specs.Prelude.{slice_get, slice_set}
use Rattle.std.specs.Global.{Vec}
use Rattle.std.specs.Vec.{with_item}
use Rattle.std.proofs.lemmas.Bool.{cases_eq, cases_lt}
use Rattle.std.proofs.lemmas.Option.{slice_get_within, slice_get-get_or, get_or_from_slice_get}
use Rattle.std.proofs.lemmas.List.{get_or-set_same, get_or-set_other, length-set}
use Rattle.std.proofs.lemmas.List.Elements.{Contains-push}
use Rattle.pg_group.proofs.RollLemmas.{list_at-append_same}
use Rattle.pg_group.specs.declared.messages.Body.{Body}
use Rattle.pg_group.specs.declared.messages.Body.TheVariants.{Item}
use Rattle.pg_group.specs.Ranked.{list_at, append_at}
use Rattle.pg_label.specs.declared.values.Value.{Value}
use Rattle.pg_label.specs.Values.{AtMost, HasAtMost, IsWithin}
use Rattle.pg_adj.specs.declared.arcs.Ghost.{Ghost}
use Rattle.pg_adj.specs.Portions.{Portion}
use Rattle.pg_best.specs.declared.offers.Offer.{Offer}
use Rattle.pg_best.specs.Parts.{LocalArc}
use Rattle.pg_best.specs.LocalRelax.{IsItemAt, IsOffered}
use Rattle.pg_best.proofs.Steps.{joined_before}
use Rattle.pg_best.proofs.ValueLemmas.{most_refl, most_trans}
use Rattle.pg_relax.specs.declared.offered.Told.{Told}
use Rattle.pg_relax.specs.declared.offered.Offered.{Offered}
use Rattle.pg_relax.specs.Tables.{shown}
use Rattle.pg_relax.specs.Offered.{IsKnown, IsSet, IsNoted, IsGhostOf, Covers, told_of, toward, untold, AreOffered}
use Rattle.pg_relax.proofs.ListLemmas.{SameItems}
use Rattle.pg_relax.proofs.TableLemmas.{shown_within}

some_at : (c : Option Value) (z : Value) → HasAtMost c z → (y : Value) × (c ≡ Some y) × AtMost y z
some_at None z h = absurd h
some_at (Some y) z h = (y, refl, h)

-- what is known was offered along any arc to the same vertex
pub offered_along : (sent : List (List (Body Offer))) (offered : Offered) (home : ℕ) (o : Offer) (a : LocalArc) → AreOffered sent offered → IsKnown offered home o
    → o.to.0 ≡ a.to → home ≡ a.home → o.place ≡ a.place → IsOffered sent a o.value
offered_along sent offered home o a are k to home_is place =
    let found = some_at (shown k.told.value) o.value k.went.most in
    let was = are k.index k.told found.0 k.stands found.1 in
    record {
      offer = was.offer;
      among = subst (λ r. IsItemAt sent r was.offer) (k.went.home_is ∙ home_is) was.among;
      to = was.to ∙ (k.vertex ∙ to);
      place = was.place ∙ (k.went.place ∙ place);
      most = most_trans was.offer.value found.0 o.value was.most found.2;
    }

-- one offer more was sent
pub offered_more : (sent : List (List (Body Offer))) (offered : Offered) (home : ℕ) (o : Offer) → AreOffered sent offered → AreOffered (append_at sent home (Item o)) offered
offered_more sent offered home o are index t y stands has =
    let was = are index t y stands has in
    record { offer = was.offer; among = joined_before sent home t.home.0 (Item o) (Item was.offer) was.among; to = was.to; place = was.place; most = was.most }

set_told : (xs : List Told) (i : ℕ) (t u : Told) → i < length xs → slice_get (slice_set xs i t) i ≡ Some u → t ≡ u
set_told xs i t u within at =
    let here = get_or_from_slice_get (set xs i t) i u u at in
    sym (get_or-set_same xs i t u within) ∙ here

set_apart : (xs : List Told) (i j : ℕ) (t u : Told) → j ≢ i → slice_get (slice_set xs i t) j ≡ Some u → slice_get xs j ≡ Some u
set_apart xs i j t u apart at =
    slice_get-get_or xs j u (omega (arith, slice_get_within (set xs i t) j u at, length-set xs i t))
    ∙ ap Some (sym (get_or-set_other xs i j t u apart) ∙ get_or_from_slice_get (set xs i t) j u u at)

-- and noted
pub offered_noted : (sent : List (List (Body Offer))) (p : Portion) (offered offered' : Offered) (home : ℕ) (o : Offer) → home < length sent → IsWithin o.value
    → IsNoted p home o offered offered' → AreOffered sent offered → AreOffered (append_at sent home (Item o)) offered'
offered_noted sent p offered offered' home o listed near noted are = elim noted.changes [
  | inl same ↦ subst (AreOffered (append_at sent home (Item o))) (sym same) (offered_more sent offered home o are)
  | inr put ↦ λ index t y stands has.
      let there : slice_get (slice_set offered.told.items put.index (told_of home o)) index ≡ Some t = ap (λ xs. slice_get xs index) (sym put.set) ∙ stands in
      subst (λ first. IsOffered (append_at sent home (Item o)) (toward (first + index) t) y) (sym put.first)
      (elim (cases_eq index put.index) [
        | inl same ↦
            let t_is : told_of home o ≡ t = set_told offered.told.items put.index (told_of home o) t put.within (ap (slice_get (slice_set offered.told.items put.index (told_of home o))) (sym same) ∙ there) in
            let y_is : Some o.value ≡ Some y = sym (shown_within o.value near) ∙ (ap (λ (u : Told). shown u.value) t_is ∙ has) in
            let y_same : o.value ≡ y = cc in
            subst (λ (u : Told). IsOffered (append_at sent home (Item o)) (toward (offered.first + index) u) y) t_is (record {
              offer = o;
              among = subst (λ l. Contains l (Item o)) (sym (list_at-append_same sent home (Item o) listed)) (Contains-push (list_at sent home) (Item o));
              to = sym (ap (λ i. offered.first + i) same ∙ put.vertex);
              place = refl;
              most = subst (AtMost o.value) y_same (most_refl o.value);
            })
        | inr apart ↦ offered_more sent offered home o are index t y (set_apart offered.told.items put.index index (told_of home o) t apart there) has
      ])
]

-- marks are no offers
pub offered_marked : (sent sent' : List (List (Body Offer))) (offered : Offered) → SameItems sent sent' → AreOffered sent offered → AreOffered sent' offered
offered_marked sent sent' offered s are index t y stands has =
    let was = are index t y stands has in
    record { offer = was.offer; among = s.kept t.home.0 was.offer was.among; to = was.to; place = was.place; most = was.most }

untold_is : (t : Told) → Some untold ≡ Some t → shown t.value ≡ None
untold_is t e = let same : untold ≡ t = cc in subst (λ (u : Told). shown u.value ≡ None) same refl

pub nothing_told : (count index : ℕ) (t : Told) → slice_get (replicate count untold) index ≡ Some t → shown t.value ≡ None
nothing_told zero index t at = cc
nothing_told (suc count) zero t at = untold_is t at
nothing_told (suc count) (suc index) t at = nothing_told count index t at

-- nothing was offered yet
pub none_offered : (sent : List (List (Body Offer))) (offered : Offered) → ((index : ℕ) (t : Told) → slice_get offered.told.items index ≡ Some t → shown t.value ≡ None) → AreOffered sent offered
none_offered sent offered none index t y stands has = let e : None ≡ Some y = sym (none index t stands) ∙ has in cc

-- an offer for a ghost has an entry
pub ghost_entry : (ghosts : List Ghost) (first count slot home : ℕ) (o : Offer) (g : Ghost) → Covers ghosts first count → slice_get ghosts slot ≡ Some g → IsGhostOf home o g
    → (index : ℕ) × (index < count) × (first + index ≡ o.to.0)
ghost_entry ghosts first count slot home o g covers at goes =
    let has = covers slot g at in
    (g.vertex.0 - first, omega (arith, has.0, has.1), omega (arith, has.0, has.1, goes.vertex))

-- what noting an offer comes to
pub noted_of : (p : Portion) (home : ℕ) (o : Offer) (offered offered' : Offered) → Covers p.ghosts offered.first (length offered.told.items)
    → (offered' ≡ offered) ⊎ IsSet home o offered offered' → ((index : ℕ) → index < length offered.told.items → offered.first + index ≡ o.to.0 → IsKnown offered' home o) → IsNoted p home o offered offered'
noted_of p home o offered offered' covers changes known = record {
  changes = changes;
  known = λ slot g at goes.
      let entry = ghost_entry p.ghosts offered.first (length offered.told.items) slot home o g covers at goes in
      known entry.0 entry.1 entry.2;
}

-- an offer that stands for its vertex is known
pub known_of : (first : ℕ) (told : Vec Told) (at index home : ℕ) (o : Offer) → at < length told.items → first + at ≡ o.to.0 → IsWithin o.value
    → IsKnown (record { first = first; told = with_item told at (told_of home o) }) home o
known_of first told at index home o within vertex near = record {
  index = at;
  told = told_of home o;
  stands = slice_get-get_or (set told.items at (told_of home o)) at (told_of home o) (omega (arith, within, length-set told.items at (told_of home o)))
      ∙ ap Some (get_or-set_same told.items at (told_of home o) (told_of home o) within);
  vertex = vertex;
  went = record { home_is = refl; place = refl; most = subst (λ c. HasAtMost c o.value) (sym (shown_within o.value near)) (most_refl o.value) };
}

-- the first ghost comes before the last one
pub ghosts_between : (ghosts : List Ghost) (d : Ghost) → AllPairs (λ a b. a.vertex.0 < b.vertex.0) ghosts
    → (slot : ℕ) (g : Ghost) → slice_get ghosts slot ≡ Some g → ((get_or ghosts 0 d).vertex.0 ≤ g.vertex.0) × (g.vertex.0 ≤ (get_or ghosts (length ghosts - 1) d).vertex.0)
ghosts_between ghosts d ascend slot g at =
    let within = slice_get_within ghosts slot g at in
    let is : get_or ghosts slot d ≡ g = get_or_from_slice_get ghosts slot g d at in
    let up : (i j : ℕ) → i ≤ j → j < length ghosts → (get_or ghosts i d).vertex.0 ≤ (get_or ghosts j d).vertex.0 = λ i j le below. elim (cases_lt i j) [
      | inl less ↦ omega (arith, ascend i j d less below)
      | inr more ↦ let same : i ≡ j = omega (arith, le, more) in omega (arith, ap (λ k. (get_or ghosts k d).vertex.0) same)
    ] in (
      subst (λ (h : Ghost). (get_or ghosts 0 d).vertex.0 ≤ h.vertex.0) is (up 0 slot (omega arith) within),
      subst (λ (h : Ghost). h.vertex.0 ≤ (get_or ghosts (length ghosts - 1) d).vertex.0) is (up slot (length ghosts - 1) (omega (arith, within)) (omega (arith, within))),
    )
