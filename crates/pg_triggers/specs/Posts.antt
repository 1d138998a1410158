-- Items sent one after the other.
use Rattle.std.specs.Prelude.{◌≡◌, ℕ, List, [], ◌∷◌, ◌++◌, refl}
use Rattle.std.proofs.Common.{ap, sym, ◌∙◌}
use Rattle.pg_group.specs.declared.messages.Body.{Body}
use Rattle.pg_group.specs.declared.messages.Body.TheVariants.{Item}
use Rattle.pg_group.specs.Ranked.{append_at}
use Rattle.pg_triggers.specs.Mine.{post_all}

module _ {C X : Type 0} (wrap : X → C) where
  post_all-append : (ps qs : List (ℕ × X)) (lists : List (List (Body C))) → post_all wrap (ps ++ qs) lists ≡ post_all wrap qs (post_all wrap ps lists)
  post_all-append [] qs lists = refl
  post_all-append (p ∷ ps) qs lists = post_all-append ps qs (append_at lists p.0 (Item (wrap p.1)))

  pub posts-after : (ps qs : List (ℕ × X)) (before mid after : List (List (Body C))) → mid ≡ post_all wrap ps before → after ≡ post_all wrap qs mid → after ≡ post_all wrap (ps ++ qs) before
  posts-after ps qs before mid after e f = f ∙ ap (post_all wrap qs) e ∙ sym (post_all-append ps qs before)
