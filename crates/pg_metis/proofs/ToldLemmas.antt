-- From step to step, where what was ahead is told.
use Rattle.std.proofs.Common.{Option, Some, None, IfSome}
use Rattle.pg_text.specs.Coming.{Told}

pub told-on : {X Y Z : Type 0} (a : Option X) (b : Option Y) (c : Option Z) (P : X → Y → Type 0) (Q : Y → Z → Type 0) (R : X → Z → Type 0) → Told a b P → Told b c Q → ((x : X) (y : Y) (z : Z) → P x y → Q y z → R x z) → Told a c R
told-on None b c P Q R h k f = tt
told-on (Some x) None c P Q R h k f = absurd h
told-on (Some x) (Some y) None P Q R h k f = absurd k
told-on (Some x) (Some y) (Some z) P Q R h k f = f x y z h k

pub told-if : {X Y : Type 0} (a : Option X) (b : Option Y) (P : X → Y → Type 0) (Q : Y → Type 0) (R : X → Type 0) → Told a b P → IfSome b Q → ((x : X) (y : Y) → P x y → Q y → R x) → IfSome a R
told-if None b P Q R h k f = tt
told-if (Some x) None P Q R h k f = absurd h
told-if (Some x) (Some y) P Q R h k f = f x y h k

pub told-then : {X Y : Type 0} (a : Option X) (b : Option Y) (P : X → Y → Type 0) (Q : X → Type 0) → Told a b P → ((x : X) (y : Y) → P x y → Q x) → IfSome a Q
told-then None b P Q h f = tt
told-then (Some x) None P Q h f = absurd h
told-then (Some x) (Some y) P Q h f = f x y h

pub if_some-weaker : {X : Type 0} (a : Option X) (P Q : X → Type 0) → IfSome a P → ((x : X) → P x → Q x) → IfSome a Q
if_some-weaker None P Q h f = tt
if_some-weaker (Some x) P Q h f = f x h

pub if_some-both : {X : Type 0} (a : Option X) (P Q R : X → Type 0) → IfSome a P → IfSome a Q → ((x : X) → P x → Q x → R x) → IfSome a R
if_some-both None P Q R h k f = tt
if_some-both (Some x) P Q R h k f = f x h k
