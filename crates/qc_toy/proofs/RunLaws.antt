-- Any calls of a toy session
use Rattle.std.specs.Prelude.{Bool, true, false, ◌==◌, cond, map, nat_le, Option, Some, None}
use Rattle.std.proofs.Common.{◌≡◌, ℕ, suc, ◌-◌, ◌≤◌, List, [], ◌∷◌, length, refl, arith}
use Rattle.qc_base.specs.declared.side.Side.{Side}
use Rattle.qc_base.specs.declared.side.Side.TheVariants.{Client, Server}
use Rattle.qc_toy.specs.declared.messages.Kind.{Kind}
use Rattle.qc_toy.specs.declared.session.ToySession.{ToySession}
use Rattle.qc_toy.specs.Handshake.{IsFresh, IsSound, steps_of}
use Rattle.qc_toy.specs.Messages.{Message, decode_error, first_message, has_form, kind_byte, message_then, messages, peer_messages, refusal, unexpected_message}
use Rattle.qc_toy.specs.Runs.{CompletesBehindBoth, HearsInOrder, SessionCall, Read, Write, NextKeys, session_after, session_run}
use Rattle.qc_toy.specs.SessionLaws.{all_heard, all_made, toy_fresh_sound, toy_sound_next, toy_sound_read, toy_sound_write}

call_sound : (call : SessionCall) (s : ToySession) → IsSound s → IsSound (session_after call s)
unfolding session_after
call_sound (Read bytes) s h = toy_sound_read s bytes h
call_sound Write s h = toy_sound_write s h
call_sound NextKeys s h = toy_sound_next s h

run_sound : (calls : List SessionCall) (s : ToySession) → IsSound s → IsSound (session_run calls s)
run_sound [] s h = h
run_sound (call ∷ calls) s h = run_sound calls (session_after call s) (call_sound call s h)

pub hears_in_order : (s : ToySession) (calls : List SessionCall) → IsFresh s → HearsInOrder (session_run calls s)
unfolding HearsInOrder
hears_in_order s calls h = (run_sound calls s (toy_fresh_sound s h)).heard

-- ---- the end of the handshake

some_none : {x : ℕ} → Some x ≡ None → ⊥
some_none e = cc

taken_by : (b c : Bool) (rest : Option ℕ) → cond b (cond c rest (Some decode_error)) (Some unexpected_message) ≡ None → (b ≡ true) × (rest ≡ None)
taken_by true true rest e = (refl, e)
taken_by true false rest e = absurd (some_none e)
taken_by false c rest e = absurd (some_none e)

same_kind : (k n : ℕ) → k == n ≡ true → k ≡ n
same_kind k n e = grind (arith, e)

none_whole : (n : ℕ) → suc n ≤ 0 → ⊥
none_whole n h = omega (arith, h)

-- one more message, where the following ones are of their kinds
one_heard : (kind : Kind) (kinds : List Kind) → ((rest : List ℕ) → refusal kinds (messages (suc (length kinds)) rest) ≡ None → length kinds ≤ length (messages (length kinds) rest)
    → map (λ (m : Message). m.kind) (messages (length kinds) rest) ≡ map kind_byte kinds) → (o : Option Message)
    → refusal (kind ∷ kinds) (message_then (λ rest. messages (suc (length kinds)) rest) o) ≡ None → suc (length kinds) ≤ length (message_then (λ rest. messages (length kinds) rest) o)
    → map (λ (m : Message). m.kind) (message_then (λ rest. messages (length kinds) rest) o) ≡ map kind_byte (kind ∷ kinds)
one_heard kind kinds others None r l = absurd (none_whole (length kinds) l)
one_heard kind kinds others (Some m) r l =
    let taken = taken_by (m.kind == kind_byte kind) (has_form kind m.body) (refusal kinds (messages (suc (length kinds)) m.rest)) r in
    rw (same_kind m.kind (kind_byte kind) taken.0, others m.rest taken.1 (omega (arith, l))) refl

-- as many whole messages as there are kinds, none of them refused, are of these kinds
kinds_heard : (kinds : List Kind) (bytes : List ℕ) → refusal kinds (messages (suc (length kinds)) bytes) ≡ None → length kinds ≤ length (messages (length kinds) bytes)
    → map (λ (m : Message). m.kind) (messages (length kinds) bytes) ≡ map kind_byte kinds
unfolding messages
kinds_heard [] bytes r l = refl
kinds_heard (kind ∷ kinds) bytes r l = one_heard kind kinds (λ rest. kinds_heard kinds rest) (first_message bytes) r l

two_heard : (n : ℕ) → nat_le 2 n ≡ true → 2 ≤ n
two_heard n e = grind (arith, e)

peer_heard : (side : Side) (heard : List ℕ) → refusal (peer_messages side) (messages 3 heard) ≡ None → 2 ≤ length (messages 2 heard)
    → map (λ (m : Message). m.kind) (messages 2 heard) ≡ map kind_byte (peer_messages side)
peer_heard Client heard r l = kinds_heard (peer_messages Client) heard r l
peer_heard Server heard r l = kinds_heard (peer_messages Server) heard r l

none_left : (n most : ℕ) → n == most ≡ true → most - n ≡ 0
none_left n most e = grind (arith, e)

pub completes_behind_both : (s : ToySession) (calls : List SessionCall) → IsFresh s → CompletesBehindBoth (session_run calls s)
unfolding CompletesBehindBoth
completes_behind_both s calls h = λ over.
    let t = session_run calls s in
    let sound = run_sound calls s (toy_fresh_sound s h) in
    record {
      written = none_left t.steps (length (steps_of t.side)) (all_made t over);
      heard = peer_heard t.side t.heard sound.heard (two_heard (length (messages 2 t.heard)) (all_heard t over));
    }
