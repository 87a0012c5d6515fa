-- Where nothing waits
use Rattle.std.proofs.Common.{◌≡◌, ◌∙◌, ℕ, Bool, true, false, if◌then◌else◌, not, ◌&&◌, ◌||◌, List, [], ◌∷◌, length, Option, None, is_some, ap, refl}
use Rattle.qc_send_stream.specs.declared.send.SendPart.{SendPart}
use Rattle.qc_send_stream.specs.declared.send.Standing.{Standing}
use Rattle.qc_send_stream.specs.Buffer.{Kept, from_lost, from_offset, has_bytes, waiting}
use Rattle.qc_send_stream.specs.Sending.{end_waits, has_more}
use Rattle.qc_turns.specs.Ids.{first_id, without_id}
use Rattle.qc_streams.specs.declared.waiting.Dues.{Dues}
use Rattle.qc_streams.specs.declared.waiting.Waiting.{Waiting}
use Rattle.qc_streams.specs.Queues.{has_some, owes_frames, put_if, sets_filed}

-- of no stream none leaves
none_leaves : (id : ℕ) (ids : List ℕ) → is_some (first_id ids) ≡ false → without_id id ids ≡ ids
none_leaves id [] is = refl
none_leaves id (x ∷ xs) is = absurd (cc)

first_not : (a b : Bool) → (a || b) ≡ false → a ≡ false
first_not true b is = absurd (cc)
first_not false b is = refl

second_not : (a b : Bool) → (a || b) ≡ false → b ≡ false
second_not true b is = absurd (cc)
second_not false b is = is

put_none : (owes : Bool) (id : ℕ) (ids : List ℕ) → owes ≡ false → is_some (first_id ids) ≡ false → put_if owes id ids ≡ ids
put_none true id ids owed is = absurd (cc)
put_none false id ids owed is = none_leaves id ids is

-- a stream that owes no frame without bytes leaves sets as they are in which there is none
pub none_filed : (d : Dues) (id : ℕ) (w : Waiting) → owes_frames d ≡ false → has_some w ≡ false → sets_filed d id w ≡ w
unfolding sets_filed
none_filed d id w owed is =
    let others : (d.stop || d.credit) ≡ false = second_not d.reset (d.stop || d.credit) owed in
    let rest : (is_some (first_id w.stops) || is_some (first_id w.credits)) ≡ false =
    second_not (is_some (first_id w.resets)) (is_some (first_id w.stops) || is_some (first_id w.credits)) is in
    ap (λ (l : List ℕ). (let x : Waiting = record w { resets = l; stops = put_if d.stop id w.stops; credits = put_if d.credit id w.credits } in x))
    (put_none d.reset id w.resets (first_not d.reset (d.stop || d.credit) owed)
    (first_not (is_some (first_id w.resets)) (is_some (first_id w.stops) || is_some (first_id w.credits)) is))
    ∙ ap (λ (l : List ℕ). (let x : Waiting = record w { stops = l; credits = put_if d.credit id w.credits } in x))
    (put_none d.stop id w.stops (first_not d.stop d.credit others) (first_not (is_some (first_id w.stops)) (is_some (first_id w.credits)) rest))
    ∙ ap (λ (l : List ℕ). (let x : Waiting = record w { credits = l } in x))
    (put_none d.credit id w.credits (second_not d.stop d.credit others) (second_not (is_some (first_id w.stops)) (is_some (first_id w.credits)) rest))

waiting_in : List Kept → ℕ → Bool
waiting_in ks sent = has_bytes (if has_bytes (from_lost ks) then from_lost ks else from_offset sent ks)

none_waits : (ks : List Kept) (sent : ℕ) → length ks ≡ 0 → waiting_in ks sent ≡ false
unfolding waiting_in has_bytes from_lost from_offset
none_waits [] sent is = refl
none_waits (k ∷ ks) sent is = absurd (cc)

no_end : (end : Option Standing) → end ≡ None → end_waits end ≡ false
no_end end is = ap (λ (e : Option Standing). end_waits e) is

neither : (b : Bool) → (b && (false || false)) ≡ false
neither true = refl
neither false = refl

-- a sending side that keeps no bytes and has no end has nothing to send
pub nothing_more : (p : SendPart) → length p.buffer.kept ≡ 0 → p.end ≡ None → has_more p ≡ false
unfolding has_more waiting waiting_in
nothing_more p none unfinished =
    ap (λ (b : Bool). not (is_some p.reset) && (b || end_waits p.end)) (none_waits p.buffer.kept p.buffer.sent none)
    ∙ ap (λ (b : Bool). not (is_some p.reset) && (false || b)) (no_end p.end unfinished)
    ∙ neither (not (is_some p.reset))
