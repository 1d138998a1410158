-- The example of one rank is a whole run.
use Rattle.std.proofs.Common.{◌≡◌, ◌↔◌, ℕ, zero, suc, ◌+◌, ◌*◌, ◌<◌, ◌≤◌, List, [], ◌∷◌, Some, length, slice_get, get_or, refl, sym, ◌∙◌, ap, subst, inl, ⊎_elim, arith, AllPairs, Contains, true≢false}
use Rattle.std.proofs.lemmas.Option.{same_Some, none-some, slice_get_within}
use Rattle.pg_base.proofs.Members.{contains_first}
use Rattle.pg_base.specs.Keyed.{row_of}
use Rattle.pg_dist.specs.Sharing.{IsSharing}
use Rattle.pg_group.specs.declared.messages.Body.{Body}
use Rattle.pg_group.specs.Book.{IsMarked}
use Rattle.pg_group.specs.Ranked.{IsOther}
use Rattle.pg_adj.specs.declared.arcs.Arc.{Arc}
use Rattle.pg_adj.specs.Portions.{Portion}
use Rattle.pg_adj.specs.Division.{IsPartOf, Divided}
use Rattle.pg_cells.specs.declared.bodies.CellBody.{CellBody}
use Rattle.pg_cells.specs.Example.{pair}
use Rattle.pg_proper.proofs.ExampleRun.{is_graph, only}
use Rattle.pg_colour.specs.Passes.{Cells, no_colours, with_cell, IsTaken, IsLeastFree, IsClash, Passes}
use Rattle.pg_colour.specs.Refreshed.{seen_after}
use Rattle.pg_colour.specs.LocalColour.{History, own_before, IsVoteIn, HasNothing, LocalColour}
use Rattle.pg_colour.specs.Whole.{HasEndedOver, IsWholeRun}
use Rattle.pg_colour.specs.Example.{vote, lone, lone_part, lone_state, no_lists}

both : (P : ℕ → Type 0) → P 0 → P 1 → (i : ℕ) → i < 2 → P i
both P first second zero less = first
both P first second (suc zero) less = second
both P first second (suc (suc i)) less = absurd (omega arith)

sharing_laws : IsSharing lone
sharing_laws = record {
  n_within = omega arith;
  owner_is_rank = λ v low high. omega arith;
  local_below = λ v low high. omega arith;
  global_of_local = λ v low high. omega arith;
  count_within = λ r rank. omega arith;
  global_first = λ r i rank place. omega arith;
  global_last = λ r i rank place. omega arith;
  owner_of_global = λ r i rank place. omega arith;
  local_of_global = λ r i rank place. omega arith;
  global_ascends = λ r i j rank order place. omega arith;
}

within : (bounds : List ℕ) (size : ℕ) → get_or bounds 0 0 ≤ size → get_or bounds 1 0 ≤ size → get_or bounds 2 0 ≤ size → (i : ℕ) → i ≤ 2 → get_or bounds i 0 ≤ size
within bounds size a b c zero less = a
within bounds size a b c (suc zero) less = b
within bounds size a b c (suc (suc zero)) less = c
within bounds size a b c (suc (suc (suc i))) less = absurd (omega arith)

part_is : IsPartOf lone pair ([] ∷ []) 0 lone_part
part_is = record {
  rank = refl;
  ranks = refl;
  n = refl;
  share = record {
    count = refl;
    vertex = both _ refl refl;
    row = record {
      bounded = record {
        each = refl;
        ascend = both (λ i. get_or lone_part.bounds i 0 ≤ get_or lone_part.bounds (i + 1) 0) (omega arith) (omega arith);
        within = within lone_part.bounds 2 (omega arith) (omega arith) (omega arith);
      };
      first = refl;
      last = refl;
      row = both _ refl refl;
    };
    ghost_list = refl;
  };
  arcs = both _ refl refl;
  ascend = both (λ i. AllPairs (λ a b. a.to.0 < b.to.0) (row_of lone_part.bounds lone_part.arcs i)) (λ i j d less l. absurd (omega arith)) (λ i j d less l. absurd (omega arith));
  holders = record {
    bounded = record {
      each = refl;
      ascend = both (λ i. get_or lone_part.holder_bounds i 0 ≤ get_or lone_part.holder_bounds (i + 1) 0) (omega arith) (omega arith);
      within = within lone_part.holder_bounds 0 (omega arith) (omega arith) (omega arith);
    };
    first = refl;
    last = refl;
    row = both _ refl refl;
  };
}

each_part : (r : ℕ) (d : Portion) → r < 1 → IsPartOf lone pair ([] ∷ []) r (get_or (lone_part ∷ []) r d)
each_part zero d less = part_is
each_part (suc r) d less = absurd (omega arith)

divided : Divided lone pair (lone_part ∷ [])
divided = record { count = refl; part = each_part }

no_other : (q : ℕ) → IsOther 0 1 q → ⊥
no_other q other = other.1 (omega (arith, other.0))

abbrev colours : Cells
colours = with_cell (with_cell no_colours 0 0) 1 1

list_of : ℕ → List ℕ
list_of zero = 0 ∷ 1 ∷ []
list_of (suc j) = []

abbrev history : History
history = record { list = list_of; own = λ j. colours }

abbrev handled : List (List (Body CellBody))
handled = [] ∷ []

abbrev first_arc : Arc
first_arc = record { to = record { 0 = 2 }; home = record { 0 = 0 }; place = 1; w = 1; edge = 0 }

abbrev second_arc : Arc
second_arc = record { to = record { 0 = 1 }; home = record { 0 = 0 }; place = 0; w = 1; edge = 0 }

no_slot : (slot : ℕ) → slot < 0 → ⊥
no_slot slot less = omega arith

-- Each vertex has only the other one's colour near it.
first_taken : (own seen : Cells) (c : ℕ) → IsTaken lone_part own seen 0 c → own 1 ≡ c
first_taken own seen c t =
    ⊎_elim
    (λ mine. ap (λ (a : Arc). own a.place) (only first_arc t.arc t.among) ∙ mine.1)
    (λ away. absurd (no_slot away.0 (slice_get_within lone_part.ghosts away.0 away.1.0 away.1.1)))
    t.ends

second_taken : (own seen : Cells) (c : ℕ) → IsTaken lone_part own seen 1 c → own 0 ≡ c
second_taken own seen c t =
    ⊎_elim
    (λ mine. ap (λ (a : Arc). own a.place) (only second_arc t.arc t.among) ∙ mine.1)
    (λ away. absurd (no_slot away.0 (slice_get_within lone_part.ghosts away.0 away.1.0 away.1.1)))
    t.ends

first_fits : (seen : Cells) → IsLeastFree lone_part no_colours seen 0 0
first_fits seen = record { colour = omega arith; free = λ t. omega (arith, first_taken no_colours seen 0 t); least = λ d less. absurd (omega (arith, less)) }

second_fits : (seen : Cells) → IsLeastFree lone_part (with_cell no_colours 0 0) seen 1 1
second_fits seen = record {
  colour = omega arith;
  free = λ t. omega (arith, second_taken (with_cell no_colours 0 0) seen 1 t);
  least = λ d less.
      let none : 0 ≡ d = omega (arith, less) in
      record { arc = second_arc; among = contains_first second_arc []; ends = inl (refl, none) };
}

no_clash : (own seen : Cells) (place : ℕ) → IsClash lone_part own seen place → ⊥
no_clash own seen place c = no_slot c.slot (slice_get_within lone_part.ghosts c.slot c.ghost_at.0 c.ghost_at.1)

ascends : (j : ℕ) → AllPairs (λ k l. k < l) (list_of j)
unfolding list_of
ascends zero zero zero d less below = absurd (omega (arith, less))
ascends zero zero (suc zero) d less below = omega arith
ascends zero zero (suc (suc l)) d less below = absurd (omega (arith, below))
ascends zero (suc k) zero d less below = absurd (omega (arith, less))
ascends zero (suc k) (suc zero) d less below = absurd (omega (arith, less))
ascends zero (suc k) (suc (suc l)) d less below = absurd (omega (arith, below))
ascends (suc j) k l d less below = absurd (omega (arith, below))

clashes : (j place : ℕ) → Contains (list_of (suc j)) place ↔ ((place < 2) × IsClash lone_part colours (seen_after lone_part handled (2 * j + 2)) place)
unfolding list_of
clashes j place = (λ c. absurd (omega (arith, c.1)), λ found. absurd (no_clash colours (seen_after lone_part handled (2 * j + 2)) place found.1))

passes : (j : ℕ) → 2 * j < 2 → Passes lone_part (seen_after lone_part handled (2 * j)) (list_of j) (own_before history j) colours
unfolding list_of
passes zero less = (0, first_fits (seen_after lone_part handled 0), (1, second_fits (seen_after lone_part handled 0), λ place. refl))
passes (suc j) less = absurd (omega arith)

first_list : list_of 0 ≡ 0 ∷ 1 ∷ []
unfolding list_of
first_list = refl

last_list : list_of 1 ≡ []
unfolding list_of
last_list = refl

last_pass : Passes lone_part (seen_after lone_part handled 2) [] colours colours
last_pass = λ place. refl

second : (j : ℕ) → 2 ≡ 2 * j → j ≡ 1
second j e = omega (arith, e)

vote_is : IsVoteIn history 2 (vote 0)
vote_is = record {
  pass = λ j e. sym (ap (λ (n : ℕ). length (list_of n)) (second j e) ∙ ap length last_list);
  refresh = λ j e. absurd (omega (arith, e));
  b = refl;
  c = refl;
  d = refl;
}

not_yet : (j : ℕ) → 2 * j < 2 → HasNothing lone_part handled history j → ⊥
not_yet zero less none = omega (arith, ap length (sym first_list ∙ none.own))
not_yet (suc j) less none = absurd (omega arith)

keeps : LocalColour lone_part handled handled lone_state
keeps = record {
  history = history;
  counted = record {
    from_each = refl;
    to_each = refl;
    alone = refl;
    running = λ e. absurd (true≢false e);
    closed = λ e q other. absurd (no_other q other);
    stopped = λ e none. absurd (none-some (vote 0) (sym none));
    given = λ q other. absurd (no_other q other);
    later = λ q k other late. absurd (no_other q other);
  };
  refreshes = record { even = λ q j other. absurd (no_other q other); odd = λ q j other. absurd (no_other q other) };
  coloured = λ sound. record {
    passes = record {
      begins = first_list;
      ascends = λ j low. ascends j;
      clashes = λ j place low. clashes j place;
      passes = passes;
    };
    present = record {
      list = λ j e. sym (ap list_of (second j e) ∙ last_list);
      partly = λ j e. subst (λ (n : ℕ). Passes lone_part (seen_after lone_part handled (2 * n)) [] (own_before history n) colours) (sym (second j e)) last_pass;
      coloured_all = λ j v e at. refl;
      own = λ j place e. absurd (omega (arith, e));
      seen = λ slot below. absurd (no_slot slot below);
    };
    sends = record { all = λ q j other less. absurd (no_other q other); some = λ q j other e. absurd (no_other q other) };
    voting = record {
      votes = λ q n v other at. absurd (no_other q other);
      cast = λ v at. subst (IsVoteIn history 2) (same_Some (vote 0) v at) vote_is;
    };
    ending = record {
      ended = λ e. record { pass = 1; round_is = refl; nothing = record { own = last_list; others = λ q v other at. absurd (no_other q other) } };
      going = not_yet;
    };
  };
}

over : HasEndedOver 1 0 no_lists no_lists lone_part lone_state
over = record {
  handled = handled;
  promised = handled;
  ended = refl;
  keeps = keeps;
  handled_is = λ q other. absurd (no_other q other);
  sent_is = λ q other. absurd (no_other q other);
}

kept : (r : ℕ) (p : Portion) → slice_get (lone_part ∷ []) r ≡ Some p → HasEndedOver 1 r no_lists no_lists p lone_state
kept zero p at = subst (λ (q : Portion). HasEndedOver 1 0 no_lists no_lists q lone_state) (same_Some lone_part p at) over
kept (suc r) p at = absurd (none-some p at)

no_pair : (q r : ℕ) → q < 1 → IsOther q 1 r → ⊥
no_pair q r h other = other.1 (omega (arith, h, other.0))

marked : IsMarked 1 no_lists
marked = record {
  rounds = 1;
  some_round = omega arith;
  marked = λ q r h other. absurd (no_pair q r h other);
  last = λ q r h other. absurd (no_pair q r h other);
  same_votes = λ q r h other third more. refl;
}

pub lone_is : IsWholeRun lone pair (lone_part ∷ []) (λ r. lone_state) no_lists no_lists
lone_is = record {
  sharing = sharing_laws;
  graph = is_graph;
  vertices = refl;
  divided = divided;
  whole = λ q r h other. refl;
  marked = marked;
  kept = kept;
}
