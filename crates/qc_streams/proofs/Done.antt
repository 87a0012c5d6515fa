-- What is sealed or lost is acknowledged no more and no less
use Rattle.std.proofs.Common.{◌≡◌, ◌∙◌, ℕ, ◌==◌, min, Bool, true, false, cond, not, ◌&&◌, ◌||◌, List, [], ◌∷◌, Option, None, Some, is_some, ap, sym, refl}
use Rattle.qc_send_stream.specs.declared.send.SendPart.{SendPart}
use Rattle.qc_send_stream.specs.declared.send.Reset.{Reset}
use Rattle.qc_send_stream.specs.declared.send.Standing.{Standing}
use Rattle.qc_send_stream.specs.declared.send.Standing.TheVariants.{Waiting, InFlight, Acknowledged}
use Rattle.qc_send_stream.specs.Buffer.{Kept, has_bytes, marked, range_sealed, range_lost}
use Rattle.qc_send_stream.specs.declared.fault.WriteError.{WriteError}
use Rattle.qc_send_stream.specs.declared.fault.WriteError.TheVariants.{Blocked, ClosedStream}
use Rattle.qc_send_stream.specs.Sending.{done_with, end_acked, end_with, is_acked, is_closed, is_done, lost_standing, part_lost, part_sealed, part_written, reset_lost, reset_sealed, reset_with, sealed_standing, write_refusal}

acked-sealed : (x : Standing) → is_acked (sealed_standing x) ≡ is_acked x
acked-sealed Waiting = refl
acked-sealed InFlight = refl
acked-sealed Acknowledged = refl

acked-lost : (x : Standing) → is_acked (lost_standing x) ≡ is_acked x
acked-lost Waiting = refl
acked-lost InFlight = refl
acked-lost Acknowledged = refl

end-kept : (f : Standing → Standing) → ((x : Standing) → is_acked (f x) ≡ is_acked x) → (last : Bool) (end : Option Standing)
    → end_acked (end_with f last end) ≡ end_acked end
end-kept f keeps last None = refl
end-kept f keeps true (Some x) = keeps x
end-kept f keeps false (Some x) = refl

reset-kept : (f : Standing → Standing) → ((x : Standing) → is_acked (f x) ≡ is_acked x) → (r : Option Reset) (all : Bool)
    → done_with (reset_with f r) all ≡ done_with r all
reset-kept f keeps None all = refl
reset-kept f keeps (Some r) all = keeps r.standing

has-marked : (l : Bool) (start stop : ℕ) (ks : List Kept) → has_bytes (marked l start stop ks) ≡ has_bytes ks
unfolding has_bytes marked
has-marked l start stop [] = refl
has-marked l start stop (k ∷ ks) = refl

sealed_done : (start stop : ℕ) (last : Bool) (p : SendPart) → is_done (part_sealed start stop last p) ≡ is_done p
unfolding is_done part_sealed range_sealed
sealed_done start stop last p =
    ap (λ (e : Bool). done_with p.reset (e && not (has_bytes (marked false start stop p.buffer.kept)))) (end-kept sealed_standing acked-sealed last p.end)
    ∙ ap (λ (b : Bool). done_with p.reset (end_acked p.end && not b)) (has-marked false start stop p.buffer.kept)

lost_done : (start stop : ℕ) (last : Bool) (p : SendPart) → is_done (part_lost start stop last p) ≡ is_done p
unfolding is_done part_lost range_lost
lost_done start stop last p =
    ap (λ (e : Bool). done_with p.reset (e && not (has_bytes (marked true start (min stop p.buffer.sent) p.buffer.kept)))) (end-kept lost_standing acked-lost last p.end)
    ∙ ap (λ (b : Bool). done_with p.reset (end_acked p.end && not b)) (has-marked true start (min stop p.buffer.sent) p.buffer.kept)

pub sealed_still : (start stop : ℕ) (last : Bool) (p p' : SendPart) → p' ≡ part_sealed start stop last p → is_done p' ≡ is_done p
sealed_still start stop last p p' is = ap (λ (x : SendPart). is_done x) is ∙ sealed_done start stop last p

pub lost_still : (start stop : ℕ) (last : Bool) (p p' : SendPart) → p' ≡ part_lost start stop last p → is_done p' ≡ is_done p
lost_still start stop last p p' is = ap (λ (x : SendPart). is_done x) is ∙ lost_done start stop last p

pub reset_sealed_still : (p p' : SendPart) → p' ≡ reset_sealed p → is_done p' ≡ is_done p
unfolding is_done reset_sealed
reset_sealed_still p p' is = ap (λ (x : SendPart). is_done x) is ∙ reset-kept sealed_standing acked-sealed p.reset _

pub reset_lost_still : (p p' : SendPart) → p' ≡ reset_lost p → is_done p' ≡ is_done p
unfolding is_done reset_lost
reset_lost_still p p' is = ap (λ (x : SendPart). is_done x) is ∙ reset-kept lost_standing acked-lost p.reset _

-- nothing is acknowledged of a side that is neither finished nor reset
not-done : (end : Option Standing) (r : Option Reset) (b : Bool) → (is_some end || is_some r) ≡ false → done_with r (end_acked end && b) ≡ false
not-done None None b is = refl
not-done None (Some r) b is = absurd (cc)
not-done (Some x) r b is = absurd (cc)

not-closed : (none closed : Bool) (rest : Option WriteError) → cond none (Some Blocked) (cond closed (Some ClosedStream) rest) ≡ None → closed ≡ false
not-closed true closed rest is = absurd (cc)
not-closed false true rest is = absurd (cc)
not-closed false false rest is = refl

-- a side on which a write isn't refused is neither finished nor reset
pub open_side : (budget : ℕ) (p : SendPart) → write_refusal budget p ≡ None → (is_some p.end || is_some p.reset) ≡ false
unfolding is_closed write_refusal
open_side budget p fits = not-closed (budget == 0) (is_some p.end || is_some p.reset) _ fits

-- a write leaves it so
pub written_still : (budget : ℕ) (bs : List ℕ) (p p' : SendPart) → write_refusal budget p ≡ None → p' ≡ part_written bs p → is_done p' ≡ is_done p
unfolding is_done part_written
written_still budget bs p p' fits is =
    let open_then : (is_some p.end || is_some p.reset) ≡ false = open_side budget p fits in
    ap (λ (x : SendPart). is_done x) is ∙ not-done p.end p.reset _ open_then ∙ sym (not-done p.end p.reset _ open_then)
