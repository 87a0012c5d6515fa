-- What an outcome says of another
use Rattle.std.proofs.Common.{◌≡◌, Result, Ok, Err}
use Rattle.std.proofs.lemmas.Bool.{false≢true}
use Rattle.std.specs.Result.{is_err}
use Rattle.std.specs.Prelude.{false, OnOk, OnErr, IsOk, IfOk}

pub on_err : {A E : Type 0} (r : Result A E) (P : Type 0) → P → OnErr r P
on_err (Ok x) P p = tt
on_err (Err e) P p = p

-- what holds where the second outcome is right holds where the first is, which is right only there
pub on_ok_through : {A B E F : Type 0} (r : Result A E) (o : Result B F) (P Q R : Type 0) → OnOk r (P × IsOk o) → OnOk o Q → (P → Q → R) → OnOk r R
on_ok_through (Ok x) (Ok y) P Q R first second both = both first.0 second
on_ok_through (Ok x) (Err e) P Q R first second both = absurd (false≢true first.1)
on_ok_through (Err e) o P Q R first second both = tt

pub at_ok : {B F : Type 0} (o : Result B F) (Q : Type 0) → IsOk o → OnOk o Q → Q
at_ok (Ok x) Q ok q = q
at_ok (Err e) Q ok q = absurd (false≢true ok)

pub on_ok_map : {A E : Type 0} (r : Result A E) (P Q : Type 0) → OnOk r P → (P → Q) → OnOk r Q
on_ok_map (Ok x) P Q p f = f p
on_ok_map (Err e) P Q p f = tt

pub on_err_map : {A E : Type 0} (r : Result A E) (P Q : Type 0) → OnErr r P → (P → Q) → OnErr r Q
on_err_map (Ok x) P Q p f = tt
on_err_map (Err e) P Q p f = f p

pub if_ok_map : {A E : Type 0} (r : Result A E) (P Q : A → Type 0) → IfOk r P → ((x : A) → P x → Q x) → IfOk r Q
if_ok_map (Ok x) P Q p f = f x p
if_ok_map (Err e) P Q p f = tt

pub where_ok : {A E : Type 0} (r : Result A E) (P : Type 0) → false ≡ is_err r → OnOk r P → P
where_ok (Ok x) P ok p = p
where_ok (Err e) P ok p = absurd (false≢true ok)
