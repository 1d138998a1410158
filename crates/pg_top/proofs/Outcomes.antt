-- From what a write came to, to what a run came to.
use Rattle.std.proofs.Common.{◌≡◌, sym, subst}
use Rattle.std.specs.Prelude.{OnOk, OnErr, IfErr, IfOk, Result, Ok, Err}
use Rattle.pg_print.specs.declared.faults.Fault.{Fault}
use Rattle.pg_print.specs.declared.faults.Fault.TheVariants.{Write}

pub on_ok : {P Q : Type 0} (r : Result (Unit {0}) Fault) → OnOk r P → (P → Q) → OnOk r Q
on_ok (Ok x) h f = f h
on_ok (Err e) h f = h

pub on_ok_of : {T E P Q : Type 0} (r : Result T E) → OnOk r P → (P → Q) → OnOk r Q
on_ok_of (Ok x) h f = f h
on_ok_of (Err e) h f = h

pub on_err : {P : Type 0} (r : Result (Unit {0}) Fault) (R : Fault → Type 0) → OnErr r P → ((e : Fault) → P → R e) → IfErr r R
on_err (Ok x) R h f = h
on_err (Err e) R h f = f e h

pub on_write : {P Q : Type 0} (r : Result (Unit {0}) Fault) (R : Fault → Type 0) → OnErr r P → OnErr r Q → IfErr r (λ e. e ≡ Write) → (P → Q → R Write) → IfErr r R
on_write (Ok x) R p q w f = p
on_write (Err e) R p q w f = subst R (sym w) (f p q)

-- what holds of an outcome that is known
pub from_ok : {P : Type 0} (r : Result (Unit {0}) Fault) (x : Unit {0}) → r ≡ Ok x → OnOk r P → P
from_ok {P = P} r x is h = subst (λ o. OnOk o P) is h

pub from_err : (r : Result (Unit {0}) Fault) (e : Fault) (R : Fault → Type 0) → r ≡ Err e → IfErr r R → R e
from_err r e R is h = subst (λ o. IfErr o R) is h

-- what two facts of a value that is there give
pub ok_both : {T E : Type 0} (r : Result T E) (P Q R : T → Type 0) → IfOk r P → IfOk r Q → ((x : T) → P x → Q x → R x) → IfOk r R
ok_both (Ok x) P Q R p q f = f x p q
ok_both (Err e) P Q R p q f = p

pub ok_then : {T E : Type 0} (r : Result T E) (P Q : T → Type 0) → IfOk r P → ((x : T) → P x → Q x) → IfOk r Q
ok_then (Ok x) P Q p f = f x p
ok_then (Err e) P Q p f = p
