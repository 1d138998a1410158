-- The rows of all ranks, taken from places where each was left.
use Rattle.std.proofs.Common.{◌≡◌, ℕ, ◌<◌, ◌++◌, List, length, take, map, get_or, Option, Some, Result, IfOk, IfSome, subst, sym}
use Rattle.std.proofs.Math.ListN.{get_or-map}
use Rattle.std.proofs.lemmas.Result.{IfOk-weaker}
use Rattle.pg_base.specs.declared.edges.Edge.{Edge}
use Rattle.pg_base.proofs.KeyedRows.{kept_whole}
use Rattle.pg_dist.specs.Sharing.{Sharing}
use Rattle.pg_adj.specs.declared.rows.ArcRows.{ArcRows}
use Rattle.pg_adj.specs.Owning.{HasRowsOf}

abbrev HaveRows : Sharing → List Edge → List (Option ArcRows) → Type 0
HaveRows s edges made = (r : ℕ) (d : Option ArcRows) → r < s.ranks → IfSome (get_or made r d) (HasRowsOf s edges r)

each_taken : (s : Sharing) (edges : List Edge) (rows : List ArcRows) (made : List (Option ArcRows)) → map Some rows ≡ made → HaveRows s edges made
    → (r : ℕ) (d : ArcRows) → r < s.ranks → HasRowsOf s edges r (get_or rows r d)
each_taken s edges rows made same have r d l =
    let left : HaveRows s edges (map Some rows) = subst (λ (xs : List (Option ArcRows)). HaveRows s edges xs) (sym same) have in
    subst (λ (x : Option ArcRows). IfSome x (HasRowsOf s edges r)) (get_or-map Some rows r d) (left r (Some d) l)

pub taken_rows : {V E : Type 0} (s : Sharing) (edges seen : List Edge) (new rest : List (Option ArcRows)) (n : ℕ) (result : Result V E) (items : V → List ArcRows)
    → seen ≡ edges → length new ≡ n → ((r : ℕ) (d : Option ArcRows) → r < s.ranks → IfSome (get_or new r d) (HasRowsOf s seen r))
    → IfOk result (λ rows. map Some (items rows) ≡ take n (new ++ rest))
    → IfOk result (λ rows. (r : ℕ) (d : ArcRows) → r < s.ranks → HasRowsOf s edges r (get_or (items rows) r d))
taken_rows {V} s edges seen new rest n result items same size have taken =
    let kept : HaveRows s edges (take n (new ++ rest)) = kept_whole (λ (xs : List (Option ArcRows)). HaveRows s edges xs) new rest n size (subst (λ (es : List Edge). HaveRows s es new) same have) in
    IfOk-weaker result (λ rows. map Some (items rows) ≡ take n (new ++ rest)) (λ rows. (r : ℕ) (d : ArcRows) → r < s.ranks → HasRowsOf s edges r (get_or (items rows) r d))
    (λ rows is r d l. each_taken s edges (items rows) (take n (new ++ rest)) is kept r d l) taken
