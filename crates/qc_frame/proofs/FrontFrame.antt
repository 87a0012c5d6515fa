-- The frame at the front of bytes
use Rattle.std.proofs.Common.{◌≡◌, ℕ, ◌<◌, List, length, Option, None, Some, MatchOption, IfOk, IfErr, IsOkAnd, Result, Ok, Err, refl, ap, ◌∙◌, subst, arith}
use Rattle.qc_base.specs.Reading.{Gives, varint_of}
use Rattle.qc_base.specs.Grammar.{IsBytes, Varint}
use Rattle.qc_base.proofs.Exact.{Ends, ends_both, ends_bytes, ends_length, same_value, same_rest}
use Rattle.qc_base.proofs.Varints.{found_varint, varint_shorter}
use Rattle.qc_frame.specs.Frame.{FrameValue, TypedValue}
use Rattle.qc_frame.specs.FrameReading.{behind_type, naming, fields_at, frame_at}
use Rattle.qc_frame.specs.FrameGrammar.{FrameAt, NoFrameAt}
use Rattle.qc_frame.specs.declared.fault.FrameFault.{FrameFault}
use Rattle.qc_frame.specs.declared.fault.InvalidFrame.{InvalidFrame}
use Rattle.qc_frame.proofs.AllKinds.{fields_again, fields_takes, fields_end}

was_read : (ty : ℕ) (v : Result (FrameValue × List ℕ) FrameFault) (f : TypedValue) (z : List ℕ) → naming ty v ≡ Ok (f, z)
    → (ty ≡ f.ty) × (v ≡ Ok (f.frame, z))
was_read ty (Ok x) f z e =
    let told : TypedValue = record { ty = ty; frame = x.0 } in
    let is : told ≡ f = same_value (naming ty (Ok x)) (told, x.1) (f, z) refl e in
    let rest : x.1 ≡ z = same_rest (naming ty (Ok x)) (told, x.1) (f, z) refl e in
    (ap (λ (t : TypedValue). t.ty) is, ap (λ (t : TypedValue). Ok (t.frame, x.1)) is ∙ ap (λ (b : List ℕ). Ok (f.frame, b)) rest)
was_read ty (Err x) f z e = cc

-- the type, and what was read behind it
steps : (v : Option (ℕ × List ℕ)) (f : TypedValue) (z : List ℕ) → behind_type v ≡ Ok (f, z)
    → (b : List ℕ) × (v ≡ Some (f.ty, b)) × (fields_at f.ty b ≡ Ok (f.frame, z))
steps None f z e = cc
steps (Some x) f z e =
    let w = was_read x.0 (fields_at x.0 x.1) f z e in
    (x.1, ap (λ (ty : ℕ). Some (ty, x.1)) w.0, subst (λ (ty : ℕ). fields_at ty x.1 ≡ Ok (f.frame, z)) w.0 w.1)

pub frame_takes : (a : List ℕ) (f : TypedValue) (z : List ℕ) → IsBytes a → frame_at a ≡ Ok (f, z) → FrameAt f a z
unfolding frame_at
frame_takes a f z h e =
    let w = steps (varint_of a) f z e in
    (w.0, found_varint.takes a f.ty w.0 h w.1, fields_takes f.frame w.0 z f.ty (ends_bytes a w.0 (found_varint.ends a f.ty w.0 w.1) h) w.2)

pub frame_again : (a : List ℕ) (f : TypedValue) (z : List ℕ) → FrameAt f a z → frame_at a ≡ Ok (f, z)
unfolding frame_at
frame_again a f z g = ap behind_type (found_varint.again a f.ty g.0 g.1) ∙ ap (naming f.ty) (fields_again f.frame g.0 z f.ty g.2)

pub frame_ends : (a : List ℕ) (f : TypedValue) (z : List ℕ) → frame_at a ≡ Ok (f, z) → Ends a z
unfolding frame_at
frame_ends a f z e =
    let w = steps (varint_of a) f z e in
    ends_both a w.0 z (found_varint.ends a f.ty w.0 w.1) (fields_end f.frame w.0 z f.ty w.2)

-- a frame has at least one byte
pub frame_shorter : (a : List ℕ) (f : TypedValue) (z : List ℕ) → frame_at a ≡ Ok (f, z) → length z < length a
unfolding frame_at
frame_shorter a f z e =
    let w = steps (varint_of a) f z e in
    let ty = varint_shorter a f.ty w.0 w.1 in
    let fields = ends_length w.0 z (fields_end f.frame w.0 z f.ty w.2) in
    omega (arith, ty, fields)

fault_type : Result (TypedValue × List ℕ) InvalidFrame → Option ℕ
fault_type (Ok _) = None
fault_type (Err invalid) = invalid.ty

named : (ty : ℕ) (v : Result (FrameValue × List ℕ) FrameFault) (invalid : InvalidFrame) → naming ty v ≡ Err invalid → Some ty ≡ invalid.ty
unfolding fault_type
named ty (Ok x) invalid e = cc
named ty (Err why) invalid e = ap fault_type e

nameless : (invalid : InvalidFrame) → behind_type None ≡ Err invalid → None ≡ invalid.ty
unfolding fault_type
nameless invalid e = ap fault_type e

-- where no type is read none is spelled, and else the fault names the type
no_type : (a : List ℕ) (v : Option (ℕ × List ℕ)) (invalid : InvalidFrame) → varint_of a ≡ v → behind_type v ≡ Err invalid → IsBytes a
    → MatchOption invalid.ty ((n : ℕ) (b : List ℕ) → Varint n a b → ⊥) (λ n. (b : List ℕ) × Varint n a b)
no_type a None invalid is e h =
    subst (λ (t : Option ℕ). MatchOption t ((n : ℕ) (b : List ℕ) → Varint n a b → ⊥) (λ n. (b : List ℕ) × Varint n a b)) (nameless invalid e)
    (λ n b s. let there = found_varint.again a n b s in cc)
no_type a (Some ty) invalid is e h =
    subst (λ (t : Option ℕ). MatchOption t ((n : ℕ) (b : List ℕ) → Varint n a b → ⊥) (λ n. (b : List ℕ) × Varint n a b)) (named ty.0 (fields_at ty.0 ty.1) invalid e)
    (ty.1, found_varint.takes a ty.0 ty.1 h is)

pub frame_none : (a : List ℕ) (invalid : InvalidFrame) → IsBytes a → frame_at a ≡ Err invalid → NoFrameAt a invalid.ty
unfolding frame_at
frame_none a invalid h e = record {
  none = λ f z g. let is = frame_again a f z g in cc;
  typed = no_type a (varint_of a) invalid refl e h;
}

-- ---- of a function that gives this reading

pub gives_found : {A : Type 0} (view : A → TypedValue × List ℕ) (r : Result A InvalidFrame) (a : List ℕ) → IsBytes a → Gives view r (frame_at a)
    → IfOk r (λ x. FrameAt (view x).0 a (view x).1)
gives_found view (Ok x) a h g = frame_takes a (view x).0 (view x).1 h g
gives_found view (Err invalid) a h g = tt

pub gives_only : {A : Type 0} (view : A → TypedValue × List ℕ) (r : Result A InvalidFrame) (a : List ℕ) → Gives view r (frame_at a)
    → (f : TypedValue) (z : List ℕ) → FrameAt f a z → IsOkAnd r (λ x. ((view x).0 ≡ f) × ((view x).1 ≡ z))
gives_only view (Ok x) a g f z s =
    let is = frame_again a f z s in
    (same_value (frame_at a) (view x) (f, z) g is, same_rest (frame_at a) (view x) (f, z) g is)
gives_only view (Err invalid) a g f z s = let is = frame_again a f z s in cc

pub gives_refused : {A : Type 0} (view : A → TypedValue × List ℕ) (r : Result A InvalidFrame) (a : List ℕ) → IsBytes a → Gives view r (frame_at a)
    → IfErr r (λ e. NoFrameAt a e.ty)
gives_refused view (Ok x) a h g = tt
gives_refused view (Err invalid) a h g = frame_none a invalid h g
