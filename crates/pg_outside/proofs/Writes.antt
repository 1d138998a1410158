-- Bytes that are appended in turn.
use Rattle.std.proofs.Common.{◌≡◌, ℕ, List, [], ◌++◌, length, take, drop, Option, Some, None, Result, Ok, Err, OnErr, refl, sym, ap, ◌∙◌, subst}
use Rattle.std.proofs.lemmas.List.{append_assoc, append-nil, take-append-drop, take_at}
use Rattle.std.specs.Io.KnownBytes.{Appends, Keeps}
use Rattle.pg_outside.specs.Written.{AppendsFront}

-- One text grows by these bytes, and the next by those.
pub appends_more : (a b c : Option (List ℕ)) (xs ys : List ℕ) → Appends a b xs → Appends b c ys → Appends a c (xs ++ ys)
appends_more None b c xs ys first then = tt
appends_more (Some a) None c xs ys first then = absurd first
appends_more (Some a) (Some b) None xs ys first then = absurd then
appends_more (Some a) (Some b) (Some c) xs ys first then =
    then ∙ ap (λ (t : List ℕ). t ++ ys) first ∙ append_assoc a xs ys

-- What was appended stays.
pub appends_keeps : (a b c : Option (List ℕ)) (xs : List ℕ) → Appends a b xs → Keeps b c → Appends a c xs
appends_keeps None b c xs first then = tt
appends_keeps (Some a) None c xs first then = absurd first
appends_keeps (Some a) (Some b) None xs first then = absurd then
appends_keeps (Some a) (Some b) (Some c) xs first then = then ∙ first

-- Nothing was appended yet.
pub appends_none : (a : Option (List ℕ)) → Appends a a []
appends_none None = tt
appends_none (Some a) = sym (append-nil a)

-- What was written so far, where `rest` is still to be written.
pub record WrittenUpTo (old now : Option (List ℕ)) (bytes rest : List ℕ) : Type 0 where
  pub front : List ℕ
  pub split : bytes ≡ front ++ rest
  pub appends : Appends old now front

pub starts : (old : Option (List ℕ)) (bytes : List ℕ) → WrittenUpTo old old bytes bytes
starts old bytes = record { front = []; split = refl; appends = appends_none old }

pub goes_on : (old now later : Option (List ℕ)) (bytes rest after : List ℕ) (n : ℕ) → WrittenUpTo old now bytes rest → Appends now later (take n rest) → after ≡ drop n rest → WrittenUpTo old later bytes after
goes_on old now later bytes rest after n w took is = record {
  front = w.front ++ take n rest;
  split = w.split ∙ ap (λ (t : List ℕ). w.front ++ t) (sym (take-append-drop n rest)) ∙ sym (append_assoc w.front (take n rest) (drop n rest)) ∙ ap (λ (t : List ℕ). w.front ++ take n rest ++ t) (sym is);
  appends = appends_more old now later w.front (take n rest) w.appends took;
}

pub ends : (old now : Option (List ℕ)) (bytes rest : List ℕ) → WrittenUpTo old now bytes rest → rest ≡ [] → Appends old now bytes
ends old now bytes rest w none =
    subst (λ (t : List ℕ). Appends old now t) (sym (w.split ∙ ap (λ (t : List ℕ). w.front ++ t) none ∙ append-nil w.front)) w.appends

-- A front was written where the rest is given up.
pub gives_up : (old now : Option (List ℕ)) (bytes rest : List ℕ) → WrittenUpTo old now bytes rest → AppendsFront old now bytes
gives_up old now bytes rest w =
    (length w.front, subst (λ (t : List ℕ). Appends old now t) (sym (take_at w.front rest (length w.front) refl) ∙ ap (take (length w.front)) (sym w.split)) w.appends)

pub keeps_up : (old now later : Option (List ℕ)) (bytes rest : List ℕ) → WrittenUpTo old now bytes rest → Keeps now later → WrittenUpTo old later bytes rest
keeps_up old now later bytes rest w stays = record {
  front = w.front;
  split = w.split;
  appends = appends_keeps old now later w.front w.appends stays;
}

-- All of it is a front.
pub front_by_whole : (old now : Option (List ℕ)) (bytes : List ℕ) → Appends old now bytes → AppendsFront old now bytes
front_by_whole old now bytes whole = gives_up old now bytes [] (record { front = bytes; split = sym (append-nil bytes); appends = whole })

-- What holds anyway holds at an error.
pub on_any_err : {T E P : Type 0} (r : Result T E) → P → OnErr r P
on_any_err (Ok value) holds = tt
on_any_err (Err error) holds = holds
