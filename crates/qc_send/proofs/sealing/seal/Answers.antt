use Rattle.std.proofs.Common.{arith, ap, subst, ◌≤◌, ◌∙◌, ℕ}
use Rattle.qc_state.specs.Numbers.{next_number}
use Rattle.qc_state.specs.View.{ideal}
use Rattle.qc_send.proofs.Headers.{begins_still, fills_by, flies_by, moved_by, padding_by, room_still, size_by, sized, sized_still, spelled_by}
use Rattle.qc_send.proofs.sealing.seal.Goals as goal

-- the packet can be begun
pub seal_with-requires-clause-begins : goal.seal_with-requires-clause-begins
seal_with-requires-clause-begins g c =
    begins_still c.args.left (ideal g.U.Random.Rng.stream c.args.core.now) c.args.form c.in_ok-header.header c.requires.most c.in_ok-header.ensures c.requires.fresh c.requires.low c.requires.near
    (subst (λ (n : ℕ). 25 ≤ n) c.requires.room c.requires.wide)

pub seal_with-requires-clause-sized : goal.seal_with-requires-clause-sized
seal_with-requires-clause-sized g c =
    sized_still c.args.left (ideal g.U.Random.Rng.stream c.args.core.now) c.args.form c.in_ok-header.header c.in_ok-header.ensures (subst (λ (n : ℕ). 25 ≤ n) c.requires.room c.requires.wide)

-- and its frames have room
pub seal_with-requires-clause-room : goal.seal_with-requires-clause-room
seal_with-requires-clause-room g c =
    room_still c.args.left c.args.room (ideal g.U.Random.Rng.stream c.args.core.now) c.args.form c.in_ok-header.header c.args.frames c.in_ok-header.ensures c.requires.room c.requires.wide c.requires.fits

-- sealing is the move
pub returns-clause-leads : goal.returns-clause-leads
returns-clause-leads g c =
    moved_by (ideal g.U.Random.Rng.stream c.args.core.now) c.args.did.now c.args.now c.args.form c.in_ok-header.header c.next_number-number.result _ c.args.least c.args.frames _ _
    c.in_ok-header.ensures (c.next_number-number.ensures ∙ ap (λ id. next_number c.args.core.now.numbers id) c.space.ensures) c.in_ok-seal_with.ensures.frames
    (size_by (ideal g.U.Random.Rng.stream c.args.core.now) c.args.form c.in_ok-header.header c.args.least _ _ _ c.args.frames c.in_ok-header.ensures c.in_ok-seal_with.ensures.full
    (omega (arith, c.saturating_sub-size.ensures, c.len-end.ensures, c.len-start.ensures)))
    c.in_ok-do_seal.ensures

pub returns-clause-bytes : goal.returns-clause-bytes
returns-clause-bytes g c =
    rw (← c.reserve.ensures.items)
    (spelled_by _ (ideal g.U.Random.Rng.stream c.args.core.now) c.args.form c.in_ok-header.header c.args.least c.args.frames _ _ _ c.in_ok-header.ensures c.in_ok-seal_with.ensures.frames c.in_ok-seal_with.ensures.bytes)

pub returns-clause-full : goal.returns-clause-full
returns-clause-full g c =
    rw (← c.reserve.ensures.items)
    (sized (ideal g.U.Random.Rng.stream c.args.core.now) c.args.form c.in_ok-header.header c.args.least _ _ c.args.frames c.in_ok-header.ensures c.in_ok-seal_with.ensures.full)

pub returns-clause-long : goal.returns-clause-long
returns-clause-long g c = omega (arith, c.len-end.ensures, c.len-end.type_inv)

pub returns-clause-size : goal.returns-clause-size
returns-clause-size g c =
    size_by (ideal g.U.Random.Rng.stream c.args.core.now) c.args.form c.in_ok-header.header c.args.least _ _ _ c.args.frames c.in_ok-header.ensures c.in_ok-seal_with.ensures.full
    (omega (arith, c.saturating_sub-size.ensures, c.len-end.ensures, c.len-start.ensures))

pub returns-clause-padding : goal.returns-clause-padding
returns-clause-padding g c =
    padding_by (ideal g.U.Random.Rng.stream c.args.core.now) c.args.form c.in_ok-header.header c.args.least c.args.left c.args.room _ _ c.saturating_sub-size.result c.plain_size-plain.result _ c.args.frames
    c.in_ok-header.ensures c.requires.room c.requires.wide c.in_ok-seal_with.ensures.full (omega (arith, c.saturating_sub-size.ensures, c.len-end.ensures, c.len-start.ensures)) c.plain_size-plain.ensures
    c.saturating_sub-padding.ensures

pub returns-clause-fills : goal.returns-clause-fills
returns-clause-fills g c =
    fills_by (ideal g.U.Random.Rng.stream c.args.core.now) c.args.form c.in_ok-header.header c.args.least c.args.frames _ c.fills_up-fills.result c.in_ok-header.ensures c.in_ok-seal_with.ensures.frames c.fills_up-fills.ensures

pub returns-clause-counts : goal.returns-clause-counts
returns-clause-counts g c =
    flies_by (ideal g.U.Random.Rng.stream c.args.core.now) c.args.form c.in_ok-header.header c.args.least c.args.frames _ c.is_flown-counts.result c.in_ok-header.ensures c.in_ok-seal_with.ensures.frames c.is_flown-counts.ensures
