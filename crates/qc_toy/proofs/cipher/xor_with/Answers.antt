use Rattle.std.proofs.Common.{◌≡◌, ◌+◌, ◌-◌, ◌*◌, ◌/◌, ◌++◌, ◌∙◌, ap, refl, take, drop, length, arith}
use Rattle.qc_toy.specs.Cipher.{xored}
use Rattle.qc_toy.proofs.CipherLemmas.{xored_part, xored_end}
use Rattle.qc_toy.proofs.cipher.xor_with.Goals as goal

pub loop-i-preserved : goal.loop-i-preserved
loop-i-preserved c =
    let key = c.args.key.now in
    let xs = c.args.bytes.now in
    let i = c.loop-i.i in
    let k = 16 * i + 16 - 16 * i in
    let part = xored_part key xs (xored key 0 (take (16 * i) xs)) i k (omega arith) refl in
    let next : 16 * i + k ≡ 16 * (i + 1) = omega arith in
    rw (c.xor_block.ensures, c.loop-i.invariant) (part ∙ ap (λ n. xored key 0 (take n xs) ++ drop n xs) next)

pub returns : goal.returns
returns c =
    let xs = c.args.bytes.now in
    let b = length xs / 16 in
    let i : c.loop-i.i ≡ b = omega arith in
    let bytes : c.loop-i.bytes ≡ xored c.args.key.now 0 (take (16 * b) xs) ++ drop (16 * b) xs =
    c.loop-i.invariant ∙ ap (λ n. xored c.args.key.now 0 (take (16 * n) xs) ++ drop (16 * n) xs) i in
    rw c.xor_few.ensures (xored_end c.args.key.now xs c.loop-i.bytes b (omega arith) c.loop-i.auto.bytes bytes)
