-- A frame that isn't refused leaves a receiving side within its credit, and brings no more new bytes than the connection has room for
use Rattle.std.proofs.Common.{◌≡◌, ℕ, ◌+◌, ◌-◌, ◌≤◌, Bool, true, false, cond, ◌||◌, nat_lt, List, length, Option, None, Some, is_some, arith, refl}
use Rattle.std.proofs.lemmas.Bool.Decides.{nat_tests}
use Rattle.qc_base.specs.declared.varint.VarInt.{VarInt}
use Rattle.qc_recv.specs.declared.fault.Refusal.{Refusal}
use Rattle.qc_recv.specs.declared.fault.Refusal.TheVariants.{FinalSize, FlowControl}
use Rattle.qc_recv.specs.declared.recv.Recv.{Recv}
use Rattle.qc_recv.specs.Receiving.{above_credit, bytes_taken, counted, credit, end_refusal, end_taken, first_row, is_ended, keeps, new_bytes, reset_refusal, reset_taken, stream_refusal, stream_taken}
use Rattle.qc_streams.specs.Within.{TakesWithin}

-- What a receiving side may become, where the connection has room for so many new bytes
pub record CanBe (q : Recv) (room : ℕ) (r : Recv) : Type 0 where
  pub within : TakesWithin (Some r) → TakesWithin (Some q)
  pub fits : q.greatest - r.greatest ≤ room

-- it may stay as it is
still : (room : ℕ) (r : Recv) → CanBe r room r
still room r = record { within = λ h. h; fits = omega arith }

-- ---- an end that isn't refused

third : (a b c : Bool) (x y z : Refusal) → cond a (Some x) (cond b (Some y) (cond c (Some z) None)) ≡ None → c ≡ false
third true b c x y z is = absurd (cc)
third false true c x y z is = absurd (cc)
third false false true x y z is = absurd (cc)
third false false false x y z is = refl

not_above : (end : ℕ) (last : Bool) (room : ℕ) (r : Recv) → end_refusal end last room r ≡ None → above_credit end room r ≡ false
unfolding end_refusal first_row
not_above end last room r is = third _ _ (above_credit end room r) FlowControl FinalSize FlowControl is

or-none : (b c : Bool) → (b || c) ≡ false → (b ≡ false) × (c ≡ false)
or-none true c is = absurd (cc)
or-none false c is = (refl, is)

reaches : (n m : ℕ) → nat_lt n m ≡ false → m ≤ n
reaches n m is = grind (arith, nat_tests)

end_within : (end : ℕ) (last : Bool) (room : ℕ) (r : Recv) → end_refusal end last room r ≡ None → (end ≤ credit r) × (end - r.greatest ≤ room)
unfolding above_credit new_bytes
end_within end last room r is =
    let both = or-none (nat_lt (credit r) end) (nat_lt room (new_bytes end r)) (not_above end last room r is) in
    (reaches (credit r) end both.0, reaches room (new_bytes end r) both.1)

-- with it, on a side whose counts are those of another
end_can : (end : ℕ) (last : Bool) (room : ℕ) (r q : Recv) → q.greatest ≡ r.greatest → q.read ≡ r.read → q.window ≡ r.window → q.announced ≡ r.announced
    → end_refusal end last room r ≡ None → CanBe (end_taken end last q) room r
unfolding end_taken credit counted
end_can end last room r q greatest read window announced is =
    let fits = end_within end last room r is in
    record {
      within = λ h. (omega (arith, fits.0, h.0, greatest, read, window), omega (arith, h.1, read, window, announced));
      fits = omega (arith, fits.1, greatest);
    }

none_of : (o : Option Refusal) (rest : Option Refusal) → cond (is_some o) o rest ≡ None → o ≡ None
none_of None rest is = refl
none_of (Some x) rest is = absurd (cc)

-- ---- a STREAM frame

kept_can : (b : Bool) (o : ℕ) (bs : List ℕ) (last : Bool) (room : ℕ) (r q : Recv) → q.greatest ≡ r.greatest → q.read ≡ r.read → q.window ≡ r.window
    → q.announced ≡ r.announced → end_refusal (o + length bs) last room r ≡ None → CanBe (end_taken (o + length bs) last (cond b q r)) room r
kept_can true o bs last room r q g e w a is = end_can (o + length bs) last room r q g e w a is
kept_can false o bs last room r q g e w a is = end_can (o + length bs) last room r r refl refl refl refl is

stream_by : (b c : Bool) (o : ℕ) (bs : List ℕ) (last : Bool) (room : ℕ) (r : Recv) (rest : Option Refusal)
    → cond b None (cond (is_some (end_refusal (o + length bs) last room r)) (end_refusal (o + length bs) last room r) rest) ≡ None
    → CanBe (cond (b || c) r (end_taken (o + length bs) last (bytes_taken o bs r))) room r
unfolding bytes_taken
stream_by true c o bs last room r rest is = still room r
stream_by false true o bs last room r rest is = still room r
stream_by false false o bs last room r rest is =
    kept_can (keeps r) o bs last room r _ refl refl refl refl (none_of (end_refusal (o + length bs) last room r) rest is)

pub stream_can : (o : ℕ) (bs : List ℕ) (last : Bool) (room : ℕ) (r : Recv) → stream_refusal o bs last room r ≡ None → CanBe (stream_taken o bs last r) room r
unfolding stream_refusal stream_taken
stream_can o bs last room r is = stream_by (is_ended r) (is_some r.reset) o bs last room r _ is

-- ---- a RESET_STREAM frame

reset_by : (b c : Bool) (code : VarInt) (size room : ℕ) (r q : Recv) → q.greatest ≡ r.greatest → q.read ≡ r.read → q.window ≡ r.window
    → q.announced ≡ r.announced → cond b None (end_refusal size true room r) ≡ None
    → CanBe (cond (b || c) r (end_taken size true q)) room r
reset_by true c code size room r q g e w a is = still room r
reset_by false true code size room r q g e w a is = still room r
reset_by false false code size room r q g e w a is = end_can size true room r q g e w a is

pub reset_can : (code : VarInt) (size room : ℕ) (r : Recv) → reset_refusal size room r ≡ None → CanBe (reset_taken code size r) room r
unfolding reset_refusal reset_taken
reset_can code size room r is = reset_by (is_ended r) (is_some r.reset) code size room r _ refl refl refl refl is
