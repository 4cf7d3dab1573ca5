-- What follows from what a result says.
use Rattle.std.proofs.Common.{Result, Ok, Err, OnOk, OnErr}

pub after_ok : {A E : Type 0} {P Q : Type 0} (r : Result A E) → OnOk r P → (P → Q) → OnOk r Q
after_ok (Ok x) h f = f h
after_ok (Err e) h f = h

pub after_err : {A E : Type 0} {P Q : Type 0} (r : Result A E) → OnErr r P → (P → Q) → OnErr r Q
after_err (Ok x) h f = h
after_err (Err e) h f = f h

pub on_err : {A E : Type 0} {P : Type 0} (r : Result A E) → P → OnErr r P
on_err (Ok x) h = tt
on_err (Err e) h = h
