-- A pass that goes one place further, and passes over cells that are alike.
use Rattle.std.proofs.Common.{◌≡◌, ℕ, ◌<◌, List, [], ◌∷◌, ◌++◌, length, sym, ◌∙◌, ap, subst, inl, inr, ⊎_elim}
use Rattle.std.proofs.lemmas.Option.{slice_get_within}
use Rattle.pg_adj.specs.Portions.{Portion}
use Rattle.pg_colour.specs.Passes.{Cells, IsTaken, IsLeastFree, with_cell, Passes, IsClash}

-- Ghosts are seen alike.
abbrev pub SeenAlike : Portion → Cells → Cells → Type 0
SeenAlike part seen other = (slot : ℕ) → slot < length part.ghosts → seen slot ≡ other slot

taken_alike : (part : Portion) (own seen other : Cells) (place c : ℕ) → SeenAlike part seen other → IsTaken part own seen place c → IsTaken part own other place c
taken_alike part own seen other place c alike t = record {
  arc = t.arc;
  among = t.among;
  ends = ⊎_elim
      (λ mine. inl mine)
      (λ away. inr (away.0, away.1, sym (alike away.0 (slice_get_within part.ghosts away.0 away.1.0 away.1.1)) ∙ away.2))
      t.ends;
}

pub free_alike : (part : Portion) (own seen other : Cells) (place c : ℕ) → SeenAlike part seen other → IsLeastFree part own seen place c → IsLeastFree part own other place c
free_alike part own seen other place c alike l = record {
  colour = l.colour;
  free = λ t. l.free (taken_alike part own other seen place c (λ slot h. sym (alike slot h)) t);
  least = λ d less. taken_alike part own seen other place d alike (l.least d less);
}

pub clash_alike : (part : Portion) (own own' seen seen' : Cells) (place : ℕ) → own place ≡ own' place → SeenAlike part seen seen' → IsClash part own seen place → IsClash part own' seen' place
clash_alike part own own' seen seen' place same alike c = record {
  arc = c.arc;
  slot = c.slot;
  among = c.among;
  ghost_at = c.ghost_at;
  lesser = c.lesser;
  same = sym (alike c.slot (slice_get_within part.ghosts c.slot c.ghost_at.0 c.ghost_at.1)) ∙ (c.same ∙ same);
}

pub pass_more : (part : Portion) (seen : Cells) (list : List ℕ) (before mid after : Cells) (place c : ℕ) → Passes part seen list before mid → IsLeastFree part mid seen place c
    → ((p : ℕ) → after p ≡ with_cell mid place c p) → Passes part seen (list ++ place ∷ []) before after
pass_more part seen [] before mid after place c passes l ends =
    let same : mid ≡ before = λ i p. passes p i in
    (c, subst (λ (cells : Cells). IsLeastFree part cells seen place c) same l, λ p. ends p ∙ ap (λ (cells : Cells). with_cell cells place c p) same)
pass_more part seen (q ∷ list) before mid after place c passes l ends =
    (passes.0, passes.1, pass_more part seen list (with_cell before q passes.0) mid after place c passes.2 l ends)

pub pass_end : (part : Portion) (seen : Cells) (list : List ℕ) (before mid after : Cells) → ((p : ℕ) → after p ≡ mid p) → Passes part seen list before mid → Passes part seen list before after
pass_end part seen list before mid after same passes =
    let alike : mid ≡ after = λ i p. sym (same p) i in
    subst (λ (cells : Cells). Passes part seen list before cells) alike passes
