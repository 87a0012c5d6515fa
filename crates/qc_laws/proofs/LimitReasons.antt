-- Which reasons for the end stand among deeds: an error with AEAD_LIMIT_REACHED's code does only where something holds.
use Rattle.std.proofs.Common.{◌≡◌, List, [], ◌∷◌, ◌++◌, refl, subst, Bool, true, false, Some, None, if◌then◌else◌, arith}
use Rattle.qc_base.specs.declared.transport_error.TransportError.{TransportError}
use Rattle.qc_state.specs.declared.deeds.Did.{Did}
use Rattle.qc_state.specs.declared.deeds.Did.TheVariants as did
use Rattle.qc_state.specs.declared.life.ConnectionError.{ConnectionError}
use Rattle.qc_state.specs.declared.life.ConnectionError.TheVariants as lost
use Rattle.qc_state.specs.Sending.{internal_error}
use Rattle.qc_state.specs.Stopping.{key_limit_error, violation_at}
use Rattle.qc_laws.specs.KeyLaws.{limit_reached}

-- where a reason is an error with this code, this holds
abbrev pub GivenSo : (P : Type 0) → ConnectionError → Type 0
GivenSo P (lost.TransportError error) = error.code ≡ limit_reached.code → P
GivenSo P _ = Unit {0}

abbrev pub LostSo : (P : Type 0) → List Did → Type 0
LostSo P [] = Unit {0}
LostSo P (did.Lost why ∷ ds) = GivenSo P why × LostSo P ds
LostSo P (_ ∷ ds) = LostSo P ds

pub lost_append : (P : Type 0) (xs ys : List Did) → LostSo P xs → LostSo P ys → LostSo P (xs ++ ys)
lost_append P [] ys h k = k
lost_append P (did.Lost why ∷ xs) ys h k = (h.0, lost_append P xs ys h.1 k)
lost_append P (_ ∷ xs) ys h k = lost_append P xs ys h k

lost_behind : (P : Type 0) (d : Did) (ds : List Did) → LostSo P (d ∷ ds) → LostSo P ds
lost_behind P (did.Lost why) ds h = h.1
lost_behind P _ ds h = h

pub lost_one : (P : Type 0) (ds before behind : List Did) (error : TransportError) → LostSo P ds → ds ≡ before ++ did.Lost (lost.TransportError error) ∷ behind → error.code ≡ limit_reached.code → P
lost_one P ds [] behind error h is code = (subst (LostSo P) is h).0 code
lost_one P ds (d ∷ before) behind error h is code =
    let others : List Did = before ++ did.Lost (lost.TransportError error) ∷ behind in
    lost_one P others before behind error (lost_behind P d others (subst (LostSo P) is h)) refl code

given_any : (P : Type 0) (why : ConnectionError) → GivenSo ⊥ why → GivenSo P why
given_any P (lost.TransportError error) h = λ code. absurd (h code)
given_any P _ h = tt

pub lost_any : (P : Type 0) (ds : List Did) → LostSo ⊥ ds → LostSo P ds
lost_any P [] h = tt
lost_any P (did.Lost why ∷ ds) h = (given_any P why h.0, lost_any P ds h.1)
lost_any P (_ ∷ ds) h = lost_any P ds h

-- why a packet can't begin
same_given : (P : Type 0) (why known : ConnectionError) → Some known ≡ Some why → GivenSo P known → GivenSo P why
same_given P why known is h = let same : known ≡ why = cc in subst (GivenSo P) same h

pub kill_given : (P : Type 0) (worn used long : Bool) (why : ConnectionError) →
    (if worn then Some (lost.TransportError key_limit_error) else if used then Some internal_error else if long then Some (lost.TransportError (violation_at None)) else None) ≡ Some why → (worn ≡ true → P) → GivenSo P why
kill_given P true used long why h near = same_given P why (lost.TransportError key_limit_error) h (λ code. near refl)
kill_given P false true long why h near = same_given P why internal_error h (λ code. let c : 1 ≡ 0x0f = code in absurd (omega (arith, c)))
kill_given P false false true why h near = same_given P why (lost.TransportError (violation_at None)) h (λ code. let c : 0x0a ≡ 0x0f = code in absurd (omega (arith, c)))
kill_given P false false false why h near = absurd cc

pub kill_limit : (worn used long : Bool) (why : ConnectionError) →
    (if worn then Some (lost.TransportError key_limit_error) else if used then Some internal_error else if long then Some (lost.TransportError (violation_at None)) else None) ≡ Some why → worn ≡ true → why ≡ lost.TransportError limit_reached
kill_limit true used long why h worn = cc
kill_limit false used long why h worn = absurd cc
