-- The refreshes of one place more.
use Rattle.std.proofs.Common.{◌≡◌, ◌<◌, ◌+◌, ◌++◌, ℕ, List, All, map, length, add-one, sym, ap, ◌∙◌, subst}
use Rattle.std.proofs.lemmas.List.Elements.{All-append, All-map}
use Rattle.pg_base.specs.Keyed.{row_of}
use Rattle.pg_adj.specs.declared.arcs.Holder.{Holder}
use Rattle.pg_adj.specs.Portions.{Portion, IsForeign}
use Rattle.pg_cells.specs.declared.refreshes.PendingRefresh.{PendingRefresh}
use Rattle.pg_cells.specs.States.{refreshes_below}

abbrev pending_to : ℕ → Holder → PendingRefresh
pending_to place h = record { place = place; holder = h }

pub refreshes_more : (part : Portion) (place : ℕ) (before after : List PendingRefresh) (holders : List Holder) → after ≡ before ++ map (λ h. record { place = place; holder = h }) holders
    → before ≡ refreshes_below part place → holders ≡ row_of part.holder_bounds part.holders place → after ≡ refreshes_below part (place + 1)
refreshes_more part place before after holders e b h =
    e ∙ (ap (λ (ds : List PendingRefresh). ds ++ map (pending_to place) holders) b ∙ (ap (λ hs. refreshes_below part place ++ map (pending_to place) hs) h ∙ sym (ap (refreshes_below part) (add-one place))))

pub foreign_more : (part : Portion) (place : ℕ) (before after : List PendingRefresh) (holders : List Holder) → after ≡ before ++ map (λ h. record { place = place; holder = h }) holders
    → All (λ pending. IsForeign part pending.holder.rank.0) before → All (λ h. IsForeign part h.rank.0) holders → All (λ pending. IsForeign part pending.holder.rank.0) after
foreign_more part place before after holders e b h =
    let P : PendingRefresh → Type 0 = λ pending. IsForeign part pending.holder.rank.0 in
    subst (λ ds. All P ds) (sym e) (All-append P before (map (pending_to place) holders) b (All-map P (pending_to place) holders h))

pub places_more : (part : Portion) (place : ℕ) (before after : List PendingRefresh) (holders : List Holder) → after ≡ before ++ map (λ h. record { place = place; holder = h }) holders
    → All (λ pending. pending.place < length part.vertices) before → place < length part.vertices → All (λ pending. pending.place < length part.vertices) after
places_more part place before after holders e b h =
    let P : PendingRefresh → Type 0 = λ pending. pending.place < length part.vertices in
    subst (λ ds. All P ds) (sym e) (All-append P before (map (pending_to place) holders) b (All-map P (pending_to place) holders (λ k d l. h)))
