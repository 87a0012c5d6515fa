-- What a change of a sending side leaves of whether it waits
use Rattle.std.proofs.Common.{◌≡◌, ◌∙◌, ℕ, ◌+◌, ◌≤◌, Bool, true, false, cond, not, ◌&&◌, ◌||◌, nat_le, max, List, length, Option, None, Some, is_some, ap, sym, arith, refl}
use Rattle.std.specs.Option.{option_map}
use Rattle.std.proofs.lemmas.Bool.Decides.{nat_tests}
use Rattle.qc_base.specs.declared.varint.VarInt.{VarInt}
use Rattle.qc_send_stream.specs.Buffer.{bytes_written, range_acked, range_lost, range_sealed}
use Rattle.qc_send_stream.specs.declared.send.Reset.{Reset}
use Rattle.qc_send_stream.specs.declared.send.SendPart.{SendPart}
use Rattle.qc_send_stream.specs.declared.send.Standing.{Standing}
use Rattle.qc_send_stream.specs.Sending.{acked_standing, end_with, finished, is_closed, is_done, limit_raised, lost_standing, part_acked, part_lost, part_sealed, part_written, reset_acked, reset_lost, reset_sealed, reset_with, sealed_standing, unblocked, was_reset, was_stopped}
use Rattle.qc_streams.specs.declared.stream.Stream.{Stream}
use Rattle.qc_streams.specs.Calls.{if_known}
use Rattle.qc_streams.specs.Stream.{limit_taken, stop_taken, with_sending}
use Rattle.qc_streams.specs.Writable.{awaits, credit_of, has_credit}
use Rattle.qc_streams.proofs.Waits.{no_credit_closed, or-right}

option_alike : (g : SendPart → SendPart) → ((p : SendPart) → awaits (Some (g p)) ≡ awaits (Some p)) → (o : Option SendPart) → awaits (option_map g o) ≡ awaits o
option_alike g same None = refl
option_alike g same (Some p) = same p

-- a stream waits as before where its sending side does
pub side_alike : (g : SendPart → SendPart) → ((p : SendPart) → awaits (Some (g p)) ≡ awaits (Some p)) → (st : Stream)
    → awaits (with_sending g st).sending ≡ awaits st.sending
unfolding with_sending
side_alike g same st = option_alike g same st.sending

pub end_some : (f : Standing → Standing) (last : Bool) (end : Option Standing) → is_some (end_with f last end) ≡ is_some end
end_some f last None = refl
end_some f true (Some x) = refl
end_some f false (Some x) = refl

pub reset_some : (f : Standing → Standing) (r : Option Reset) → is_some (reset_with f r) ≡ is_some r
reset_some f None = refl
reset_some f (Some r) = refl

pub sealed_alike : (start stop : ℕ) (last : Bool) (p : SendPart) → awaits (Some (part_sealed start stop last p)) ≡ awaits (Some p)
unfolding part_sealed range_sealed has_credit is_closed
sealed_alike start stop last p =
    ap (λ (b : Bool). p.blocked && not ((b || is_some p.reset) || nat_le p.limit p.buffer.written)) (end_some sealed_standing last p.end)

pub acked_alike : (start stop : ℕ) (last : Bool) (p : SendPart) → awaits (Some (part_acked start stop last p)) ≡ awaits (Some p)
unfolding part_acked range_acked has_credit is_closed
acked_alike start stop last p =
    ap (λ (b : Bool). p.blocked && not ((b || is_some p.reset) || nat_le p.limit p.buffer.written)) (end_some acked_standing last p.end)

pub lost_alike : (start stop : ℕ) (last : Bool) (p : SendPart) → awaits (Some (part_lost start stop last p)) ≡ awaits (Some p)
unfolding part_lost range_lost has_credit is_closed
lost_alike start stop last p =
    ap (λ (b : Bool). p.blocked && not ((b || is_some p.reset) || nat_le p.limit p.buffer.written)) (end_some lost_standing last p.end)

pub reset_sealed_alike : (p : SendPart) → awaits (Some (reset_sealed p)) ≡ awaits (Some p)
unfolding reset_sealed has_credit is_closed
reset_sealed_alike p =
    ap (λ (b : Bool). p.blocked && not ((is_some p.end || b) || nat_le p.limit p.buffer.written)) (reset_some sealed_standing p.reset)

pub reset_acked_alike : (p : SendPart) → awaits (Some (reset_acked p)) ≡ awaits (Some p)
unfolding reset_acked has_credit is_closed
reset_acked_alike p =
    ap (λ (b : Bool). p.blocked && not ((is_some p.end || b) || nat_le p.limit p.buffer.written)) (reset_some acked_standing p.reset)

pub reset_lost_alike : (p : SendPart) → awaits (Some (reset_lost p)) ≡ awaits (Some p)
unfolding reset_lost has_credit is_closed
reset_lost_alike p =
    ap (λ (b : Bool). p.blocked && not ((is_some p.end || b) || nat_le p.limit p.buffer.written)) (reset_some lost_standing p.reset)

stop-by : (d : Bool) (code : VarInt) (p : SendPart) → awaits (Some (cond d p (was_stopped code p))) ≡ awaits (Some p)
unfolding was_stopped has_credit is_closed
stop-by true code p = refl
stop-by false code p = refl

pub stop_alike : (code : VarInt) (p : SendPart) → awaits (Some (stop_taken code p)) ≡ awaits (Some p)
unfolding stop_taken
stop_alike code p = stop-by (is_done p) code p

-- ---- a side that has credit waits as before

credit-in : (g : SendPart → SendPart) → ((p : SendPart) → has_credit (g p) ≡ true → awaits (Some (g p)) ≡ awaits (Some p))
    → (d : Bool) (p : SendPart) → has_credit (cond d p (g p)) ≡ true → awaits (Some (cond d p (g p))) ≡ awaits (Some p)
credit-in g same true p is = refl
credit-in g same false p is = same p is

credit-of : (g : SendPart → SendPart) → ((p : SendPart) → has_credit (g p) ≡ true → awaits (Some (g p)) ≡ awaits (Some p))
    → (o : Option SendPart) → credit_of (option_map (if_known g) o) ≡ true → awaits (option_map (if_known g) o) ≡ awaits o
credit-of g same None is = refl
credit-of g same (Some p) is = credit-in g same (is_done p) p is

pub side_credit : (g : SendPart → SendPart) → ((p : SendPart) → has_credit (g p) ≡ true → awaits (Some (g p)) ≡ awaits (Some p)) → (st : Stream)
    → credit_of (with_sending (if_known g) st).sending ≡ true → awaits (with_sending (if_known g) st).sending ≡ awaits st.sending
unfolding with_sending
side_credit g same st is = credit-of g same st.sending is

lacks-not : (p q : SendPart) → has_credit p ≡ false → has_credit p ≡ true → awaits (Some p) ≡ awaits (Some q)
lacks-not p q lacks has = absurd (cc)

pub finished-closed : (p : SendPart) → is_closed (finished p) ≡ true
unfolding finished is_closed
finished-closed p = refl

pub reset-closed : (code : VarInt) (p : SendPart) → is_closed (was_reset code p) ≡ true
unfolding was_reset is_closed
reset-closed code p = or-right (is_some p.end) true refl

pub finished_credit : (p : SendPart) → has_credit (finished p) ≡ true → awaits (Some (finished p)) ≡ awaits (Some p)
finished_credit p is = lacks-not (finished p) p (no_credit_closed (finished p) (finished-closed p)) is

pub reset_credit : (code : VarInt) (p : SendPart) → has_credit (was_reset code p) ≡ true → awaits (Some (was_reset code p)) ≡ awaits (Some p)
reset_credit code p is = lacks-not (was_reset code p) p (no_credit_closed (was_reset code p) (reset-closed code p)) is

more-credit : (closed : Bool) (limit written n : ℕ) → not (closed || nat_le limit (written + n)) ≡ true → not (closed || nat_le limit written) ≡ true
more-credit true limit written n is = absurd (cc)
more-credit false limit written n is = grind (arith, nat_tests)

both : (b c d : Bool) → c ≡ true → d ≡ true → (b && c) ≡ (b && d)
both b c d x y = ap (λ (t : Bool). b && t) (x ∙ sym y)

pub written_credit : (bs : List ℕ) (p : SendPart) → has_credit (part_written bs p) ≡ true → awaits (Some (part_written bs p)) ≡ awaits (Some p)
unfolding part_written bytes_written has_credit is_closed
written_credit bs p is = both p.blocked _ _ is (more-credit (is_closed p) p.limit p.buffer.written (length bs) is)

-- ---- a side that is given credit

limit-keeps : (closed blocked : Bool) (old new written : ℕ) → old ≤ new → (blocked && not (closed || nat_le new written)) ≡ false
    → (blocked && not (closed || nat_le old written)) ≡ false
limit-keeps closed false old new written up is = refl
limit-keeps true true old new written up is = refl
limit-keeps false true old new written up is = grind (arith, nat_tests)

limit-by : (d : Bool) (limit : ℕ) (p : SendPart) → awaits (Some (cond d p (limit_raised limit p))) ≡ false → awaits (Some p) ≡ false
unfolding limit_raised has_credit is_closed
limit-by true limit p is = is
limit-by false limit p is = limit-keeps (is_some p.end || is_some p.reset) p.blocked p.limit (max p.limit limit) p.buffer.written (omega arith) is

limit-of : (limit : ℕ) (o : Option SendPart) → awaits (option_map (limit_taken limit) o) ≡ false → awaits o ≡ false
unfolding limit_taken
limit-of limit None is = refl
limit-of limit (Some p) is = limit-by (is_done p) limit p is

pub side_limit : (limit : ℕ) (st : Stream) → awaits (with_sending (limit_taken limit) st).sending ≡ false → awaits st.sending ≡ false
unfolding with_sending
side_limit limit st is = limit-of limit st.sending is

-- ---- a side of which it was told

told-of : (o : Option SendPart) → awaits (option_map unblocked o) ≡ false
unfolding unblocked
told-of None = refl
told-of (Some p) = refl

pub side_told : (st : Stream) → awaits (with_sending unblocked st).sending ≡ false
unfolding with_sending
side_told st = told-of st.sending
