-- What an outcome says of another
use Rattle.std.proofs.Common.{Result, Ok, Err}
use Rattle.std.specs.Prelude.{OnOk, OnErr, IfOk}

pub on_ok_map : {A E : Type 0} (r : Result A E) (P Q : Type 0) → OnOk r P → (P → Q) → OnOk r Q
on_ok_map (Ok x) P Q p f = f p
on_ok_map (Err e) P Q p f = tt

pub if_ok_map : {A E : Type 0} (r : Result A E) (P Q : A → Type 0) → IfOk r P → ((x : A) → P x → Q x) → IfOk r Q
if_ok_map (Ok x) P Q p f = f x p
if_ok_map (Err e) P Q p f = tt

-- what follows in both cases
pub either : {A E : Type 0} (r : Result A E) (P Q R : Type 0) → OnOk r P → OnErr r Q → (P → R) → (Q → R) → R
either (Ok x) P Q R p q f g = f p
either (Err e) P Q R p q f g = g q

pub on_err : {A E : Type 0} (r : Result A E) (P : Type 0) → P → OnErr r P
on_err (Ok x) P p = tt
on_err (Err e) P p = p
