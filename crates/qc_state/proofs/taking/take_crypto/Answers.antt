use Rattle.std.proofs.Common.{◌∙◌, ◌≤◌, ◌-◌, length, arith, inr, refl, sym, ap}
use Rattle.std.specs.Option.{is_some}
use Rattle.qc_send_stream.specs.Buffer.{Buffer, has_bytes, waiting}
use Rattle.qc_state.proofs.Taken.{crypto_end, crypto_none, crypto_taken}
use Rattle.qc_state.proofs.taking.take_crypto.Goals as goal

-- the frame has a head and the bytes
pub crypto_len-left-requires : goal.crypto_len-left-requires
crypto_len-left-requires c =
    let few : length c.in-Some.bytes ≤ c.loop-left.left - 17 = rw c.in-Some.is at c.in_ok-take.ensures.most in
    omega (arith, few, c.loop-left-test.true)

pub overflow_sub-left-in-Some : goal.overflow_sub-left-in-Some
overflow_sub-left-in-Some c =
    let few : length c.in-Some.bytes ≤ c.loop-left.left - 17 = rw c.in-Some.is at c.in_ok-take.ensures.most in
    omega (arith, few, c.loop-left-test.true, c.crypto_len-left.ensures.most)

pub loop-left-smaller : goal.loop-left-smaller
loop-left-smaller c =
    let few : length c.in-Some.bytes ≤ c.loop-left.left - 17 = rw c.in-Some.is at c.in_ok-take.ensures.most in
    omega (arith, few, c.loop-left-test.true, c.crypto_len-left.ensures.most, c.crypto_len-left.ensures.some)

-- one frame more was taken
pub loop-left-preserved : goal.loop-left-preserved
loop-left-preserved c = λ w gs n takes.
    let few : length c.in-Some.bytes ≤ c.loop-left.left - 17 = rw c.in-Some.is at c.in_ok-take.ensures.most in
    c.loop-left.invariant w gs n
    (crypto_taken c.loop-left.left c.crypto_len-left.result n c.loop-left.space w c.loop-left.frames _ gs c.take.new.self c.in-Some.offset c.in-Some.bytes c.in-Some.bytes c.in-Some.bytes
    (rw c.in-Some.is at c.in_ok-take.ensures.part) c.crypto_len-left.ensures.value (omega (arith, few, c.loop-left-test.true, c.crypto_len-left.ensures.most))
    (rw c.in-Some.is at c.in_ok-take.ensures.taken) refl refl c.in_ok-push-in-Some.ensures.ok takes)

-- there is no room for another
pub returns-clause-takes : goal.returns-clause-takes
returns-clause-takes c = c.loop-left.invariant _ _ _ (crypto_none c.loop-left.left c.loop-left.space c.loop-left.frames (inr c.loop-left-test.false))

pub returns-clause-full : goal.returns-clause-full
returns-clause-full c = λ more. absurd (omega (arith, more, c.loop-left-test.false))

-- no byte waits
pub returns-in-None-clause-takes : goal.returns-in-None-clause-takes
returns-in-None-clause-takes c =
    c.loop-left.invariant _ _ _ (crypto_end c.loop-left.left c.loop-left.space c.take.new.self c.loop-left.frames (sym c.in_ok-take.ensures.given ∙ ap is_some c.in-None.is) (rw c.in-None.is at c.in_ok-take.ensures.none))

pub returns-in-None-clause-full : goal.returns-in-None-clause-full
returns-in-None-clause-full c = λ more. ap (λ (q : Buffer). has_bytes (waiting q)) (rw c.in-None.is at c.in_ok-take.ensures.none) ∙ sym c.in_ok-take.ensures.given ∙ ap is_some c.in-None.is
