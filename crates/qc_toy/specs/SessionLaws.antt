-- The laws that the toy's sessions keep.
use Rattle.std.specs.Prelude.{Bool, true, false, not, ◌&&◌, ◌⊎◌, ◌==◌, cond, nat_le, slice_get, is_some, IsSome, Option, Some, None, Result, Ok, Err}
use Rattle.std.proofs.Common.{◌≡◌, ◌≢◌, ℕ, zero, suc, ◌+◌, ◌-◌, ◌*◌, ◌/◌, ◌%◌, ◌^◌, ◌<◌, ◌≤◌, List, [], ◌++◌, length, refl, ap, sym, ◌∙◌, subst, arith, lit<, lit≤, inl, inr}
use Rattle.qc_base.specs.declared.side.Side.{Side}
use Rattle.qc_base.specs.declared.side.Side.TheVariants.{Client, Server}
use Rattle.qc_base.specs.declared.side.SpaceId.{SpaceId}
use Rattle.qc_base.specs.declared.transport_error.TransportError.{TransportError}
use Rattle.qc_params.specs.declared.params.TransportParameters.{TransportParameters}
use Rattle.qc_params.specs.declared.error.ParamError.{ParamError}
use Rattle.qc_params.specs.declared.error.ParamError.TheVariants.{IllegalValue}
use Rattle.qc_params.specs.ParametersReading.{parameters_read, parameters_of, judged, is_legal}
use Rattle.qc_crypto.specs.Mates.{AreEarlyMates, OpensItsPackets, OpensNoOtherNumber, ReadEachOther, ArePacketMates, ArePacketsApart, AreMates}
use Rattle.qc_crypto.specs.Refusal.{IsSendable}
use Rattle.qc_toy.specs.declared.messages.Kind.{Kind}
use Rattle.qc_crypto.specs.GivenKeys.{keys_given, space_of_change}
use Rattle.qc_crypto.specs.declared.keys.KeyPair.{KeyPair}
use Rattle.qc_crypto.specs.declared.keys.Keys.{Keys}
use Rattle.qc_toy.specs.declared.packet_key.ToyPacketKey.{ToyPacketKey}
use Rattle.qc_toy.specs.declared.header_key.ToyHeaderKey.{ToyHeaderKey}
use Rattle.qc_toy.specs.declared.key_bytes.Level.{Level}
use Rattle.qc_toy.specs.declared.key_bytes.Level.TheVariants as level
use Rattle.qc_toy.specs.declared.key_bytes.Usage.{Usage}
use Rattle.qc_toy.specs.declared.key_bytes.Usage.TheVariants as usage
use Rattle.qc_toy.specs.KeyBytes.{key_bytes}
use Rattle.qc_toy.specs.declared.session.ToySession.{ToySession}
use Rattle.qc_toy.specs.declared.session.Step.{Step}
use Rattle.std.proofs.lemmas.Option.{slice_get_within}
use Rattle.qc_toy.specs.declared.settings.ToySettings.{ToySettings}
use Rattle.qc_toy.specs.Cipher.{toy_seal, toy_opening, toy_mask}
use Rattle.qc_toy.specs.CipherLaws.{opens_sealed, opens_no_other, opens_no_other_epoch}
use Rattle.qc_toy.specs.Messages.{message, messages, first_message, first_body, second_body, refusal, peer_messages}
use Rattle.qc_toy.specs.MessageLaws.{length-message, first_stays, messages_grow, one_is_first, refusal_small}
use Rattle.qc_toy.specs.ToyKeys.{level_keys, packet_keys, packet_key, header_key, other_side}
use Rattle.qc_toy.specs.Handshake.{steps_of, heard_count, if_heard, session_due, body_for, bytes_for, written_for, keys_for, given_for, steps_after, session_writes, session_write_keys, session_after_write, steps_left, bytes_left, changes_by, changes_of, made_all, session_reads, session_after_read, read_answer, heard_after, session_handshaking, session_negotiated, ready_unit, early_keys, has_early, session_early_taken, session_next_keys, session_after_next, session_parameters, parameters_by, parameters_in, parameters_before, parameters_or_error, heard_parameters, parameter_error, cached_parameters, keys_of_level, keys_of_space, keys_of_epoch, keys_of_id, level_of, exported_bytes, ArePaired, IsFresh, IsSound}

true_false : true ≡ false → ⊥
true_false e = cc

-- ---- writing

some_step : {x y : Step} → Some x ≡ Some y → x ≡ y
some_step e = cc

none_step : {x : Step} → None ≡ Some x → ⊥
none_step e = cc

heard_step : (n : ℕ) (o : Option Step) (x : Step) → if_heard n o ≡ Some x → (o ≡ Some x) × (nat_le x.heard n ≡ true)
heard_step n None x e = absurd (none_step e)
heard_step n (Some y) x e = by (nat_le y.heard n) refl e where
  by : (b : Bool) → nat_le y.heard n ≡ b → cond b (Some y) None ≡ Some x → (Some y ≡ Some x) × (nat_le x.heard n ≡ true)
  by true h e = (e, subst (λ (z : Step). nat_le z.heard n ≡ true) (some_step e) h)
  by false h e = absurd (none_step e)

-- the step that is due is the next one, and enough was heard for it
due_step : (s : ToySession) (x : Step) → session_due s ≡ Some x → (slice_get (steps_of s.side) s.steps ≡ Some x) × (nat_le x.heard (heard_count s) ≡ true)
unfolding session_due
due_step s x e = heard_step (heard_count s) (slice_get (steps_of s.side) s.steps) x e

due_few : (s : ToySession) (x : Step) → session_due s ≡ Some x → s.steps < length (steps_of s.side)
due_few s x e = slice_get_within (steps_of s.side) s.steps x (due_step s x e).0

pub toy_falls : (s : ToySession) → (0 < length (session_writes s)) ⊎ IsSome (session_write_keys s) → steps_left (session_after_write s) < steps_left s
unfolding session_writes session_write_keys session_after_write
toy_falls s h = by (session_due s) refl h where
  by : (o : Option Step) → session_due s ≡ o → (0 < length (written_for s o)) ⊎ IsSome (given_for s o)
      → length (steps_of s.side) - steps_after s.steps o < length (steps_of s.side) - s.steps
  by None e (inl l) = omega (arith, l)
  by None e (inr x) = absurd (true_false (sym x))
  by (Some x) e h = omega (arith, due_few s x e)

no_keys_some : {k : Keys ToyHeaderKey ToyPacketKey} → Some k ≡ None → ⊥
no_keys_some e = cc

no_message : (kind : Kind) (body : List ℕ) → message kind body ≡ [] → ⊥
unfolding message
no_message kind body e = cc

-- each step writes a message or gives keys
no_idle_step : (s : ToySession) (side : Side) (n : ℕ) (x : Step) → slice_get (steps_of side) n ≡ Some x → bytes_for s x.writes ≡ [] → keys_for s x.gives ≡ None → ⊥
no_idle_step s Client zero x e b k = no_message _ _ (subst (λ (y : Step). bytes_for s y.writes ≡ []) (sym (some_step e)) b)
no_idle_step s Client (suc zero) x e b k = no_keys_some (subst (λ (y : Step). keys_for s y.gives ≡ None) (sym (some_step e)) k)
no_idle_step s Client (suc (suc zero)) x e b k = no_message _ _ (subst (λ (y : Step). bytes_for s y.writes ≡ []) (sym (some_step e)) b)
no_idle_step s Client (suc (suc (suc n))) x e b k = none_step e
no_idle_step s Server zero x e b k = no_message _ _ (subst (λ (y : Step). bytes_for s y.writes ≡ []) (sym (some_step e)) b)
no_idle_step s Server (suc zero) x e b k = no_message _ _ (subst (λ (y : Step). bytes_for s y.writes ≡ []) (sym (some_step e)) b)
no_idle_step s Server (suc (suc n)) x e b k = none_step e

pub toy_idle : (s : ToySession) → session_writes s ≡ [] → session_write_keys s ≡ None → session_after_write s ≡ s
unfolding session_writes session_write_keys session_after_write
toy_idle s b k = by (session_due s) refl b k where
  by : (o : Option Step) → session_due s ≡ o → written_for s o ≡ [] → given_for s o ≡ None → record s { steps = steps_after s.steps o } ≡ s
  by None e b k = refl
  by (Some x) e b k = absurd (no_idle_step s s.side s.steps x (due_step s x e).0 b k)

length-bytes : (s : ToySession) (kind : Option Kind) → length (bytes_for s kind) ≤ 65538
length-bytes s None = lit≤ tt
length-bytes s (Some kind) = length-message kind (body_for s kind)

few_steps : (side : Side) → length (steps_of side) ≤ 3
few_steps Client = lit≤ tt
few_steps Server = lit≤ tt

pub toy_unwritten_most : (s : ToySession) → bytes_left s < 2 ^ 62
toy_unwritten_most s = let few = few_steps s.side in omega (arith, few)

pub toy_unwritten_write : (s : ToySession) → length (session_writes s) + bytes_left (session_after_write s) ≤ bytes_left s
unfolding session_writes session_after_write
toy_unwritten_write s = by (session_due s) refl where
  by : (o : Option Step) → session_due s ≡ o
      → length (written_for s o) + (length (steps_of s.side) - steps_after s.steps o) * 65538 ≤ (length (steps_of s.side) - s.steps) * 65538
  by None e = omega arith
  by (Some x) e = omega (arith, due_few s x e, length-bytes s x.writes)

pub toy_unwritten_read : (s : ToySession) (bytes : List ℕ) → bytes_left (session_after_read s bytes) ≤ bytes_left s
unfolding session_after_read
toy_unwritten_read s bytes = omega arith

pub toy_unwritten_next : (s : ToySession) → bytes_left (session_after_next s) ≤ bytes_left s
unfolding session_after_next
toy_unwritten_next s = omega arith

pub toy_left_next : (s : ToySession) → steps_left (session_after_next s) ≤ steps_left s
unfolding session_after_next
toy_left_next s = omega arith

-- ---- changes of keys

pub toy_changes_most : (s : ToySession) → IsSound s → changes_of s ≤ 2
toy_changes_most s h = most s.side s.steps h.few where
  most : (side : Side) (n : ℕ) → n ≤ length (steps_of side) → changes_by side n ≤ 2
  most Client n h = omega (arith, h)
  most Server n h = h

changes_at : (s : ToySession) (side : Side) (n : ℕ) (x : Step) → slice_get (steps_of side) n ≡ Some x → changes_by side (n + 1) ≡ changes_by side n + keys_given (keys_for s x.gives)
changes_at s Client zero x e = subst (λ (y : Step). changes_by Client (zero + 1) ≡ changes_by Client zero + keys_given (keys_for s y.gives)) (some_step e) refl
changes_at s Client (suc zero) x e = subst (λ (y : Step). changes_by Client (suc zero + 1) ≡ changes_by Client (suc zero) + keys_given (keys_for s y.gives)) (some_step e) refl
changes_at s Client (suc (suc zero)) x e = subst (λ (y : Step). changes_by Client (suc (suc zero) + 1) ≡ changes_by Client (suc (suc zero)) + keys_given (keys_for s y.gives)) (some_step e) refl
changes_at s Client (suc (suc (suc n))) x e = absurd (none_step e)
changes_at s Server zero x e = subst (λ (y : Step). changes_by Server (zero + 1) ≡ changes_by Server zero + keys_given (keys_for s y.gives)) (some_step e) refl
changes_at s Server (suc zero) x e = subst (λ (y : Step). changes_by Server (suc zero + 1) ≡ changes_by Server (suc zero) + keys_given (keys_for s y.gives)) (some_step e) refl
changes_at s Server (suc (suc n)) x e = absurd (none_step e)

pub toy_changes_write : (s : ToySession) → changes_of (session_after_write s) ≡ changes_of s + keys_given (session_write_keys s)
unfolding session_after_write session_write_keys
toy_changes_write s = by (session_due s) refl where
  by : (o : Option Step) → session_due s ≡ o → changes_by s.side (steps_after s.steps o) ≡ changes_by s.side s.steps + keys_given (given_for s o)
  by None e = omega arith
  by (Some x) e = changes_at s s.side s.steps x (due_step s x e).0

pub toy_changes_read : (s : ToySession) (bytes : List ℕ) → changes_of (session_after_read s bytes) ≡ changes_of s
unfolding session_after_read
toy_changes_read s bytes = refl

pub toy_changes_next : (s : ToySession) → changes_of (session_after_next s) ≡ changes_of s
unfolding session_after_next
toy_changes_next s = refl

-- ---- the handshake's end

not_false : (b : Bool) → not b ≡ false → b ≡ true
not_false true e = refl
not_false false e = absurd (true_false e)

both : (a b : Bool) → (a && b) ≡ true → (a ≡ true) × (b ≡ true)
both true true e = (refl, refl)
both true false e = absurd (true_false (sym e))
both false b e = absurd (true_false (sym e))

-- all steps were made exactly where the keys have changed twice
all_test : (side : Side) (n : ℕ) → (n == length (steps_of side)) ≡ (changes_by side n == 2)
all_test Client n = by (n == 3) refl where
  by : (b : Bool) → n == 3 ≡ b → b ≡ (n - 1 == 2)
  by true e = grind (arith, e)
  by false e = grind (arith, e)
all_test Server n = refl

two : (n : ℕ) → n == 2 ≡ true → n ≡ 2
two n e = grind (arith, e)

pub all_made : (s : ToySession) → session_handshaking s ≡ false → made_all s ≡ true
unfolding session_handshaking
all_made s e = (both (made_all s) (nat_le 2 (heard_count s)) (not_false _ e)).0

pub all_heard : (s : ToySession) → session_handshaking s ≡ false → nat_le 2 (heard_count s) ≡ true
unfolding session_handshaking
all_heard s e = (both (made_all s) (nat_le 2 (heard_count s)) (not_false _ e)).1

pub toy_over_late : (s : ToySession) → session_handshaking s ≡ false → changes_of s ≡ 2
toy_over_late s e = two (changes_of s) (sym (all_test s.side s.steps) ∙ all_made s e)

-- what was whole stays whole as a session reads on
first_kept : (alert : Option ℕ) (before more : List ℕ) → is_some (first_body before) ≡ true → is_some (first_body (heard_after alert before (before ++ more))) ≡ true
first_kept None before more h = first_stays before more h
first_kept (Some alert) before more h = h

count_kept : (alert : Option ℕ) (before more : List ℕ) → nat_le 2 (length (messages 2 before)) ≡ true → nat_le 2 (length (messages 2 (heard_after alert before (before ++ more)))) ≡ true
count_kept None before more h = let l = messages_grow 2 before more in grind (arith, l, h)
count_kept (Some alert) before more h = h

pub toy_over_read : (s : ToySession) (bytes : List ℕ) → session_handshaking s ≡ false → session_handshaking (session_after_read s bytes) ≡ false
unfolding session_handshaking session_after_read
toy_over_read s bytes e =
    let b = both (made_all s) (nat_le 2 (heard_count s)) (not_false _ e) in
    rw (b.0, count_kept (refusal (peer_messages s.side) (messages 3 (s.heard ++ bytes))) s.heard bytes b.1) refl

pub toy_over_write : (s : ToySession) → session_handshaking s ≡ false → session_handshaking (session_after_write s) ≡ false
unfolding session_handshaking session_after_write
toy_over_write s e = by (session_due s) refl where
  by : (o : Option Step) → session_due s ≡ o → not ((steps_after s.steps o == length (steps_of s.side)) && nat_le 2 (heard_count s)) ≡ false
  by None d = e
  by (Some x) d = absurd (late (due_few s x d) (all_made s e)) where
    late : s.steps < length (steps_of s.side) → s.steps == length (steps_of s.side) ≡ true → ⊥
    late l a = grind (arith, l, a)

pub toy_over_next : (s : ToySession) → session_handshaking s ≡ false → session_handshaking (session_after_next s) ≡ false
unfolding session_handshaking session_after_next
toy_over_next s e = e

-- ---- early keys, and the data of the handshake

early_by : (b : Bool) (x : ToyHeaderKey × ToyPacketKey) → IsSome (cond b (Some x) None) → b ≡ true
early_by true x e = refl
early_by false x e = absurd (true_false (sym e))

pub toy_over_early : (s : ToySession) → session_handshaking s ≡ false → IsSome (early_keys s) → IsSome (session_early_taken s)
unfolding early_keys session_early_taken
toy_over_early s e h = rw (e, early_by (has_early s) _ h) refl

-- the answers of a read, at their type
abbrev ok_read : Bool → Result Bool TransportError
ok_read ready = Ok ready

abbrev err_read : TransportError → Result Bool TransportError
err_read error = Err error

ok_same : {a b : Bool} → ok_read a ≡ ok_read b → a ≡ b
ok_same e = cc

err_same : {x y : TransportError} → err_read x ≡ err_read y → x ≡ y
err_same e = cc

ok_err : {a : Bool} {x : TransportError} → ok_read a ≡ err_read x → ⊥
ok_err e = cc

read_ok : (alert : Option ℕ) (ready : Bool) → read_answer alert ready ≡ Ok true → (alert ≡ None) × (ready ≡ true)
read_ok None ready e = (refl, ok_same e)
read_ok (Some alert) ready e = absurd (ok_err (sym e))

newly : (a b : Bool) → (not a && b) ≡ true → (a ≡ false) × (b ≡ true)
newly false true e = (refl, refl)
newly false false e = absurd (true_false (sym e))
newly true b e = absurd (true_false (sym e))

pub toy_ready_once : (s : ToySession) (bytes : List ℕ) → session_reads s bytes ≡ Ok true → session_negotiated s ≡ None
unfolding session_reads session_negotiated
toy_ready_once s bytes e =
    let before = is_some (first_body s.heard) in
    let after = is_some (first_body (s.heard ++ bytes)) in
    let r = read_ok (refusal (peer_messages s.side) (messages 3 (s.heard ++ bytes))) (not before && after) e in
    ap ready_unit ((newly before after r.1).0)

pub toy_ready_then : (s : ToySession) (bytes : List ℕ) → session_reads s bytes ≡ Ok true → IsSome (session_negotiated (session_after_read s bytes))
unfolding session_reads session_after_read session_negotiated
toy_ready_then s bytes e =
    let before = is_some (first_body s.heard) in
    let after = is_some (first_body (s.heard ++ bytes)) in
    let r = read_ok (refusal (peer_messages s.side) (messages 3 (s.heard ++ bytes))) (not before && after) e in
    rw (r.0, (newly before after r.1).1) refl

ready_by : (b : Bool) → IsSome (ready_unit b) → b ≡ true
ready_by true e = refl
ready_by false e = absurd (true_false (sym e))

pub toy_ready_read : (s : ToySession) (bytes : List ℕ) → IsSome (session_negotiated s) → IsSome (session_negotiated (session_after_read s bytes))
unfolding session_negotiated session_after_read
toy_ready_read s bytes e = rw (first_kept (refusal (peer_messages s.side) (messages 3 (s.heard ++ bytes))) s.heard bytes (ready_by (is_some (first_body s.heard)) e)) refl

pub toy_ready_write : (s : ToySession) → IsSome (session_negotiated s) → IsSome (session_negotiated (session_after_write s))
unfolding session_negotiated session_after_write
toy_ready_write s e = e

pub toy_ready_next : (s : ToySession) → IsSome (session_negotiated s) → IsSome (session_negotiated (session_after_next s))
unfolding session_negotiated session_after_next
toy_ready_next s e = e

-- ---- refusals and parameters

read_err : (alert : Option ℕ) (ready : Bool) (error : TransportError) → ((a : ℕ) → alert ≡ Some a → a < 256) → read_answer alert ready ≡ Err error → IsSendable error
read_err None ready error small e = absurd (ok_err e)
read_err (Some a) ready error small e = subst IsSendable (err_same e) (record { code = omega (arith, small a refl); frame = tt })

pub toy_refusal : (s : ToySession) (bytes : List ℕ) (error : TransportError) → session_reads s bytes ≡ Err error → IsSendable error
unfolding session_reads
toy_refusal s bytes error e = read_err _ _ error (λ a h. refusal_small (peer_messages s.side) (messages 3 (s.heard ++ bytes)) a h) e

-- a key holds the epoch as eight bytes, which are those of its rest by 2^64
key_of_rest : (secret : List ℕ) (l : Level) (from : Side) (usage : Usage) (n : ℕ) → key_bytes secret l from usage (n % 2 ^ 64) ≡ key_bytes secret l from usage n
unfolding key_bytes
key_of_rest secret l from usage n =
    let b0 : n % 2 ^ 64 / 72057594037927936 % 256 ≡ n / 72057594037927936 % 256 = omega arith in
    let b1 : n % 2 ^ 64 / 281474976710656 % 256 ≡ n / 281474976710656 % 256 = omega arith in
    let b2 : n % 2 ^ 64 / 1099511627776 % 256 ≡ n / 1099511627776 % 256 = omega arith in
    let b3 : n % 2 ^ 64 / 4294967296 % 256 ≡ n / 4294967296 % 256 = omega arith in
    let b4 : n % 2 ^ 64 / 16777216 % 256 ≡ n / 16777216 % 256 = omega arith in
    let b5 : n % 2 ^ 64 / 65536 % 256 ≡ n / 65536 % 256 = omega arith in
    let b6 : n % 2 ^ 64 / 256 % 256 ≡ n / 256 % 256 = omega arith in
    let b7 : n % 2 ^ 64 % 256 ≡ n % 256 = omega arith in
    rw (b0, b1, b2, b3, b4, b5, b6, b7) refl

-- so the keys of an epoch are those of its rest
pub epoch_of_rest : (settings : ToySettings) (secret : List ℕ) (l : Level) (side : Side) (n : ℕ) → packet_keys settings secret l side (n % 2 ^ 64) ≡ packet_keys settings secret l side n
epoch_of_rest settings secret l side n =
    rw (key_of_rest secret l side usage.Packet n, key_of_rest secret l (other_side side) usage.Packet n) refl

pub toy_given_next : (s : ToySession) → session_next_keys s ≡ cond (changes_of s == 2) (Some (keys_of_epoch s (s.epoch + 1))) None
unfolding session_next_keys
toy_given_next s =
    ap (λ b. cond b (Some (keys_of_epoch s ((s.epoch + 1) % 2 ^ 64))) None) (all_test s.side s.steps)
    ∙ ap (λ (keys : KeyPair ToyPacketKey). cond (changes_of s == 2) (Some keys) None) (epoch_of_rest s.settings s.settings.secret level.Data s.side (s.epoch + 1))

pub toy_next_epoch : (s : ToySession) → s.epoch + 1 < 2 ^ 64 → (session_after_next s).epoch ≡ cond (changes_of s == 2) (s.epoch + 1) s.epoch
unfolding session_after_next
toy_next_epoch s h =
    let small : (s.epoch + 1) % 2 ^ 64 ≡ s.epoch + 1 = omega (arith, h) in
    rw small (ap (λ b. cond b (s.epoch + 1) s.epoch) (all_test s.side s.steps))

some_keys : {x y : Keys ToyHeaderKey ToyPacketKey} → Some x ≡ Some y → x ≡ y
some_keys e = cc

some_level : {x y : Level} → Some x ≡ Some y → x ≡ y
some_level e = cc

none_level : {x : Level} → None ≡ Some x → ⊥
none_level e = cc

-- the first step that gives keys gives those of the Handshake space, and the next those of the Data space
level_at : (side : Side) (n : ℕ) (x : Step) (l : Level) → slice_get (steps_of side) n ≡ Some x → x.gives ≡ Some l → l ≡ level_of (space_of_change (changes_by side n))
level_at Client zero x l e g = absurd (none_level (subst (λ (y : Step). y.gives ≡ Some l) (sym (some_step e)) g))
level_at Client (suc zero) x l e g = sym (some_level (subst (λ (y : Step). y.gives ≡ Some l) (sym (some_step e)) g))
level_at Client (suc (suc zero)) x l e g = sym (some_level (subst (λ (y : Step). y.gives ≡ Some l) (sym (some_step e)) g))
level_at Client (suc (suc (suc n))) x l e g = absurd (none_step e)
level_at Server zero x l e g = sym (some_level (subst (λ (y : Step). y.gives ≡ Some l) (sym (some_step e)) g))
level_at Server (suc zero) x l e g = sym (some_level (subst (λ (y : Step). y.gives ≡ Some l) (sym (some_step e)) g))
level_at Server (suc (suc n)) x l e g = absurd (none_step e)

pub toy_given_keys : (s : ToySession) (keys : Keys ToyHeaderKey ToyPacketKey) → session_write_keys s ≡ Some keys → keys ≡ keys_of_space (session_after_write s) (space_of_change (changes_of s))
unfolding session_write_keys session_after_write
toy_given_keys s keys h = by (session_due s) refl h where
  by_level : (x : Step) → slice_get (steps_of s.side) s.steps ≡ Some x → (g : Option Level) → x.gives ≡ g → keys_for s g ≡ Some keys
      → keys ≡ keys_of_level s (level_of (space_of_change (changes_of s)))
  by_level x e None g h = absurd (no_keys_some (sym h))
  by_level x e (Some l) g h = sym (some_keys h) ∙ ap (λ l. keys_of_level s l) (level_at s.side s.steps x l e g)

  by : (o : Option Step) → session_due s ≡ o → given_for s o ≡ Some keys → keys ≡ keys_of_level s (level_of (space_of_change (changes_of s)))
  by None e h = absurd (no_keys_some (sym h))
  by (Some x) e h = by_level x (due_step s x e).0 x.gives refl h

-- ---- mates

-- the mask that a header key gives for a sample
abbrev pub mask_by : ToyHeaderKey → List ℕ → List ℕ
mask_by key = toy_mask key.bytes

-- how a packet key seals: by its bytes alone, whatever its limits are
abbrev pub seal_by : ToyPacketKey → ℕ → List ℕ → List ℕ → List ℕ
seal_by key = toy_seal key.bytes

-- how a packet key opens: by its bytes alone, whatever its limits are
abbrev pub open_by : ToyPacketKey → ℕ → List ℕ → List ℕ → Option (List ℕ)
open_by key = toy_opening key.bytes

pub opens_its_packets : (key : List ℕ) → OpensItsPackets (toy_seal key) (toy_opening key)
opens_its_packets key = record { same = opens_sealed key }

pub opens_no_number : (key : List ℕ) → OpensNoOtherNumber (toy_seal key) (toy_opening key)
opens_no_number key = record { other = opens_no_other key }

-- keys of one secret, level and epoch are mates, whatever their limits
pub packets_mate : (one other : ToySettings) (secret : List ℕ) (l : Level) (epoch : ℕ)
    → ArePacketMates seal_by open_by (packet_keys one secret l Client epoch) (packet_keys other secret l Server epoch)
packets_mate one other secret l epoch = record { opens = record { forth = opens_its_packets _; back = opens_its_packets _ }; forth = opens_no_number _; back = opens_no_number _ }

pub levels_mate : (one other : ToySettings) (secret : List ℕ) (l : Level)
    → AreMates mask_by seal_by open_by (level_keys one secret l Client) (level_keys other secret l Server)
levels_mate one other secret l = record { header = record { forth = λ _. refl; back = λ _. refl }; packet = packets_mate one other secret l 0 }

-- mates read each other
pub levels_read : (one other : ToySettings) (secret : List ℕ) (l : Level)
    → ReadEachOther mask_by seal_by open_by (level_keys one secret l Client) (level_keys other secret l Server)
levels_read one other secret l = let m = levels_mate one other secret l in record { header = m.header; packet = m.packet.opens }

pub toy_initial_fits : (s : ToySession) (id : List ℕ) → ReadEachOther mask_by seal_by open_by (keys_of_id s id Client) (keys_of_id s id Server)
toy_initial_fits s id = levels_read s.settings s.settings _ level.Initial

pub toy_initial_mates : (client server : ToySession) (id : List ℕ) → AreMates mask_by seal_by open_by (keys_of_id client id Client) (keys_of_id server id Server)
toy_initial_mates client server id = levels_mate client.settings server.settings _ level.Initial

spaces_mate : (one other : ToySettings) (l : Level) (c t : Side) (secret their : List ℕ) → c ≡ Client → t ≡ Server → secret ≡ their
    → AreMates mask_by seal_by open_by (level_keys one secret l c) (level_keys other their l t)
spaces_mate one other l c t secret their hc ht hs =
    subst (λ x. AreMates mask_by seal_by open_by (level_keys one secret l x) (level_keys other their l t)) (sym hc)
    (subst (λ x. AreMates mask_by seal_by open_by (level_keys one secret l Client) (level_keys other their l x)) (sym ht)
    (subst (λ x. AreMates mask_by seal_by open_by (level_keys one secret l Client) (level_keys other x l Server)) hs (levels_mate one other secret l)))

pub toy_space_mates : (client server : ToySession) (space : SpaceId) → ArePaired client server
    → AreMates mask_by seal_by open_by (keys_of_space client space) (keys_of_space server space)
toy_space_mates client server space h =
    spaces_mate client.settings server.settings (level_of space) client.side server.side client.settings.secret server.settings.secret h.client_side h.server_side h.secret

-- a fact of the packet keys of a client and a server with one secret holds of those of paired sessions
paired : (R : KeyPair ToyPacketKey → KeyPair ToyPacketKey → Type 0) (client server : ToySession) (e f : ℕ) → ArePaired client server
    → R (packet_keys client.settings client.settings.secret level.Data Client e) (packet_keys server.settings client.settings.secret level.Data Server f)
    → R (keys_of_epoch client e) (keys_of_epoch server f)
paired R client server e f h r =
    subst (λ x. R (packet_keys client.settings client.settings.secret level.Data x e) (keys_of_epoch server f)) (sym h.client_side)
    (subst (λ x. R (packet_keys client.settings client.settings.secret level.Data Client e) (packet_keys server.settings server.settings.secret level.Data x f)) (sym h.server_side)
    (subst (λ x. R (packet_keys client.settings client.settings.secret level.Data Client e) (packet_keys server.settings x level.Data Server f)) h.secret r))

-- the early keys of a session that has them
abbrev early_pair : ToySession → ToyHeaderKey × ToyPacketKey
early_pair s = (header_key s.settings.secret level.Early Client, packet_key s.settings s.settings.secret level.Early Client 0)

some_pair : {x y : ToyHeaderKey × ToyPacketKey} → Some x ≡ Some y → x ≡ y
some_pair e = cc

none_pair : {x : ToyHeaderKey × ToyPacketKey} → None ≡ Some x → ⊥
none_pair e = cc

early_is : (b : Bool) (x y : ToyHeaderKey × ToyPacketKey) → cond b (Some x) None ≡ Some y → x ≡ y
early_is true x y e = some_pair e
early_is false x y e = absurd (none_pair e)

early_mate : (one other : ToySettings) (secret their : List ℕ) → secret ≡ their
    → AreEarlyMates mask_by seal_by open_by (header_key secret level.Early Client, packet_key one secret level.Early Client 0) (header_key their level.Early Client, packet_key other their level.Early Client 0)
early_mate one other secret their h =
    subst (λ x. AreEarlyMates mask_by seal_by open_by (header_key secret level.Early Client, packet_key one secret level.Early Client 0) (header_key x level.Early Client, packet_key other x level.Early Client 0)) h
    (record { header = λ _. refl; packet = opens_its_packets _; number = opens_no_number _ })

pub toy_early_mates : (client server : ToySession) (one other : ToyHeaderKey × ToyPacketKey) → ArePaired client server → early_keys client ≡ Some one → early_keys server ≡ Some other
    → AreEarlyMates mask_by seal_by open_by one other
unfolding early_keys
toy_early_mates client server one other h e f =
    subst (λ x. AreEarlyMates mask_by seal_by open_by x other) (early_is (has_early client) (early_pair client) one e)
    (subst (λ x. AreEarlyMates mask_by seal_by open_by (early_pair client) x) (early_is (has_early server) (early_pair server) other f)
    (early_mate client.settings server.settings client.settings.secret server.settings.secret h.secret))

pub toy_epoch_mates : (client server : ToySession) (epoch : ℕ) → ArePaired client server
    → ArePacketMates seal_by open_by (keys_of_epoch client epoch) (keys_of_epoch server epoch)
toy_epoch_mates client server epoch h =
    paired (ArePacketMates seal_by open_by) client server epoch epoch h (packets_mate client.settings server.settings client.settings.secret level.Data epoch)

-- keys of one secret and level, but of two epochs, are apart
pub packets_apart : (one other : ToySettings) (secret : List ℕ) (l : Level) (e f : ℕ) → e < 2 ^ 64 → f < 2 ^ 64 → e ≢ f
    → ArePacketsApart seal_by open_by (packet_keys one secret l Client e) (packet_keys other secret l Server f)
packets_apart one other secret l e f he hf ne =
    record {
      forth = record { none = λ n m h p. opens_no_other_epoch secret l Client usage.Packet e f n m h p he hf ne };
      back = record { none = λ n m h p. opens_no_other_epoch secret l Server usage.Packet f e n m h p hf he (λ same. ne (sym same)) };
    }

pub toy_epochs_apart : (client server : ToySession) (one other : ℕ) → ArePaired client server → one < 2 ^ 64 → other < 2 ^ 64 → one ≢ other
    → ArePacketsApart seal_by open_by (keys_of_epoch client one) (keys_of_epoch server other)
toy_epochs_apart client server one other h ho ht ne =
    paired (ArePacketsApart seal_by open_by) client server one other h (packets_apart client.settings server.settings client.settings.secret level.Data one other ho ht ne)

-- ---- parameters

-- the answers of `transport_parameters`, at their type
abbrev some_parameters : TransportParameters → Result (Option TransportParameters) TransportError
some_parameters p = Ok (Some p)

abbrev no_parameters : Result (Option TransportParameters) TransportError
no_parameters = Ok None

abbrev err_parameters : TransportError → Result (Option TransportParameters) TransportError
err_parameters e = Err e

same_parameters : {p q : TransportParameters} → some_parameters p ≡ some_parameters q → p ≡ q
same_parameters e = cc

none_some_parameters : {p : TransportParameters} → no_parameters ≡ some_parameters p → ⊥
none_some_parameters e = cc

err_some_parameters : {e : TransportError} {p : TransportParameters} → err_parameters e ≡ some_parameters p → ⊥
err_some_parameters h = cc

err_none_parameters : {e : TransportError} → err_parameters e ≡ no_parameters → ⊥
err_none_parameters h = cc

same_error : {x y : TransportError} → err_parameters x ≡ err_parameters y → x ≡ y
same_error h = cc

sendable : (error : TransportError) → err_parameters parameter_error ≡ err_parameters error → IsSendable error
sendable error e = subst IsSendable (same_error e) (record { code = lit< tt; frame = tt })

read_sendable : (r : Result TransportParameters ParamError) (error : TransportError) → parameters_or_error r ≡ Err error → IsSendable error
read_sendable (Ok p) error e = absurd (err_some_parameters (sym e))
read_sendable (Err x) error e = sendable error e

heard_sendable : (side : Side) (before : Option TransportParameters) (body : Option (List ℕ)) (error : TransportError) → parameters_in side before body ≡ Err error → IsSendable error
heard_sendable side None None error e = absurd (err_none_parameters (sym e))
heard_sendable side (Some p) None error e = absurd (err_some_parameters (sym e))
heard_sendable side before (Some body) error e = read_sendable _ error e

unreadable_of : (s : ToySession) (side : Side) (error : TransportError) → parameters_by side s ≡ Err error → IsSendable error
unreadable_of s Client error e = heard_sendable Client (parameters_before s.settings.early) (second_body s.heard) error e
unreadable_of s Server error e = heard_sendable Server None (first_body s.heard) error e

pub toy_unreadable : (s : ToySession) (error : TransportError) → session_parameters s ≡ Err error → IsSendable error
unfolding session_parameters
toy_unreadable s error e = unreadable_of s s.side error e

-- what is read is allowed
abbrev ok_of : TransportParameters → Result TransportParameters ParamError
ok_of p = Ok p

abbrev err_of : ParamError → Result TransportParameters ParamError
err_of e = Err e

refused : {e : ParamError} {p : TransportParameters} → err_of e ≡ ok_of p → ⊥
refused h = cc

same_read : {p q : TransportParameters} → ok_of p ≡ ok_of q → p ≡ q
same_read h = cc

judged_legal : (side : Side) (o : Option TransportParameters) (p : TransportParameters) → judged side o ≡ Ok p → is_legal side p ≡ true
judged_legal side None p e = absurd (refused e)
judged_legal side (Some q) p e = by_test (is_legal side q) refl e where
  by_test : (b : Bool) → is_legal side q ≡ b → cond b (Ok q) (Err IllegalValue) ≡ Ok p → is_legal side p ≡ true
  by_test true h e = subst (λ x. is_legal side x ≡ true) (same_read e) h
  by_test false h e = absurd (refused e)

read_legal : (side : Side) (bytes : List ℕ) (p : TransportParameters) → heard_parameters side bytes ≡ Ok (Some p) → is_legal side p ≡ true
unfolding parameters_read
read_legal side bytes p e = by_read (judged side (parameters_of bytes)) refl e where
  by_read : (r : Result TransportParameters ParamError) → judged side (parameters_of bytes) ≡ r → parameters_or_error r ≡ Ok (Some p) → is_legal side p ≡ true
  by_read (Ok q) h e = judged_legal side (parameters_of bytes) p (h ∙ ap (λ x. ok_of x) (same_parameters e))
  by_read (Err x) h e = absurd (err_some_parameters e)

cached_legal : is_legal Client cached_parameters ≡ true
unfolding is_legal
cached_legal = refl

allowed_of : (s : ToySession) (side : Side) (p : TransportParameters) → parameters_by side s ≡ Ok (Some p) → is_legal side p ≡ true
allowed_of s Client p e = client (second_body s.heard) s.settings.early e where
  client : (body : Option (List ℕ)) (early : Bool) → parameters_in Client (parameters_before early) body ≡ Ok (Some p) → is_legal Client p ≡ true
  client None true e = subst (λ x. is_legal Client x ≡ true) (same_parameters e) cached_legal
  client None false e = absurd (none_some_parameters e)
  client (Some body) early e = read_legal Client _ p e
allowed_of s Server p e = server (first_body s.heard) e where
  server : (body : Option (List ℕ)) → parameters_in Server None body ≡ Ok (Some p) → is_legal Server p ≡ true
  server None e = absurd (none_some_parameters e)
  server (Some body) e = read_legal Server _ p e

pub toy_allowed : (s : ToySession) (p : TransportParameters) → session_parameters s ≡ Ok (Some p) → is_legal s.side p ≡ true
unfolding session_parameters
toy_allowed s p e = allowed_of s s.side p e

some_knows : (r : Result TransportParameters ParamError) → parameters_or_error r ≡ Ok None → ⊥
some_knows (Ok p) e = none_some_parameters (sym e)
some_knows (Err x) e = err_none_parameters e

-- a server that gave keys has made a step
made_step : (side : Side) (n : ℕ) → side ≡ Server → 0 < changes_by side n → 0 < n
made_step Client n e c = omega (arith, c)
made_step Server n e c = c

pub toy_server_knows : (s : ToySession) → IsSound s → s.side ≡ Server → 0 < changes_of s → session_parameters s ≢ Ok None
unfolding session_parameters
toy_server_knows s h side changed e =
    knows (first_body s.heard) (h.hello side (made_step s.side s.steps side changed)) (subst (λ x. parameters_by x s ≡ Ok None) side e) where
      knows : (body : Option (List ℕ)) → is_some body ≡ true → parameters_in Server None body ≡ Ok None → ⊥
      knows None h e = true_false (sym h)
      knows (Some body) h e = some_knows _ e

write_parameters_of : (s : ToySession) (side : Side) → parameters_by side (session_after_write s) ≡ parameters_by side s
unfolding session_after_write
write_parameters_of s Client = refl
write_parameters_of s Server = refl

pub toy_write_parameters : (s : ToySession) → session_parameters (session_after_write s) ≡ session_parameters s
unfolding session_parameters session_after_write
toy_write_parameters s = write_parameters_of s s.side

pub toy_write_early : (s : ToySession) → early_keys (session_after_write s) ≡ early_keys s
unfolding early_keys session_after_write
toy_write_early s = refl

pub toy_next_parameters : (s : ToySession) → session_parameters (session_after_next s) ≡ session_parameters s
unfolding session_parameters session_after_next
toy_next_parameters s = by_side s.side where
  by_side : (side : Side) → parameters_by side (session_after_next s) ≡ parameters_by side s
  by_side Client = refl
  by_side Server = refl

-- a client's early keys are those of its settings, whatever it read
pub toy_early_read : (s : ToySession) (bytes : List ℕ) (keys : ToyHeaderKey × ToyPacketKey) → s.side ≡ Client → early_keys s ≡ Some keys → early_keys (session_after_read s bytes) ≡ Some keys
unfolding early_keys session_after_read
toy_early_read s bytes keys c e = rw c (rw c at e)

pub toy_next_early : (s : ToySession) → early_keys (session_after_next s) ≡ early_keys s
unfolding early_keys session_after_next
toy_next_early s = refl

pub toy_next_writes : (s : ToySession) → session_writes (session_after_next s) ≡ session_writes s
unfolding session_writes session_after_next session_due
toy_next_writes s = refl

pub toy_next_write_keys : (s : ToySession) → session_write_keys (session_after_next s) ≡ session_write_keys s
unfolding session_write_keys session_after_next session_due
toy_next_write_keys s = refl

-- ---- the same end, and the same keys

pub toy_side_read : (s : ToySession) (bytes : List ℕ) → (session_after_read s bytes).side ≡ s.side
unfolding session_after_read
toy_side_read s bytes = refl

pub toy_side_write : (s : ToySession) → (session_after_write s).side ≡ s.side
unfolding session_after_write
toy_side_write s = refl

pub toy_side_next : (s : ToySession) → (session_after_next s).side ≡ s.side
unfolding session_after_next
toy_side_next s = refl

pub toy_initial_read : (s : ToySession) (bytes id : List ℕ) (side : Side) → keys_of_id (session_after_read s bytes) id side ≡ keys_of_id s id side
unfolding session_after_read
toy_initial_read s bytes id side = refl

pub toy_initial_write : (s : ToySession) (id : List ℕ) (side : Side) → keys_of_id (session_after_write s) id side ≡ keys_of_id s id side
unfolding session_after_write
toy_initial_write s id side = refl

pub toy_initial_next : (s : ToySession) (id : List ℕ) (side : Side) → keys_of_id (session_after_next s) id side ≡ keys_of_id s id side
unfolding session_after_next
toy_initial_next s id side = refl

pub toy_space_read : (s : ToySession) (bytes : List ℕ) (space : SpaceId) → keys_of_space (session_after_read s bytes) space ≡ keys_of_space s space
unfolding session_after_read
toy_space_read s bytes space = refl

pub toy_space_write : (s : ToySession) (space : SpaceId) → keys_of_space (session_after_write s) space ≡ keys_of_space s space
unfolding session_after_write
toy_space_write s space = refl

pub toy_space_next : (s : ToySession) (space : SpaceId) → keys_of_space (session_after_next s) space ≡ keys_of_space s space
unfolding session_after_next
toy_space_next s space = refl

pub toy_epochs_read : (s : ToySession) (bytes : List ℕ) (n : ℕ) → keys_of_epoch (session_after_read s bytes) n ≡ keys_of_epoch s n
unfolding session_after_read
toy_epochs_read s bytes n = refl

pub toy_epochs_write : (s : ToySession) (n : ℕ) → keys_of_epoch (session_after_write s) n ≡ keys_of_epoch s n
unfolding session_after_write
toy_epochs_write s n = refl

pub toy_epochs_next : (s : ToySession) (n : ℕ) → keys_of_epoch (session_after_next s) n ≡ keys_of_epoch s n
unfolding session_after_next
toy_epochs_next s n = refl

pub toy_epoch_read : (s : ToySession) (bytes : List ℕ) → (session_after_read s bytes).epoch ≡ s.epoch
unfolding session_after_read
toy_epoch_read s bytes = refl

pub toy_epoch_write : (s : ToySession) → (session_after_write s).epoch ≡ s.epoch
unfolding session_after_write
toy_epoch_write s = refl

-- ---- pairs

pub toy_pair_client_read : (client server : ToySession) (bytes : List ℕ) → ArePaired client server → ArePaired (session_after_read client bytes) server
unfolding session_after_read
toy_pair_client_read client server bytes h = record { client_side = h.client_side; server_side = h.server_side; secret = h.secret }

pub toy_pair_client_write : (client server : ToySession) → ArePaired client server → ArePaired (session_after_write client) server
unfolding session_after_write
toy_pair_client_write client server h = record { client_side = h.client_side; server_side = h.server_side; secret = h.secret }

pub toy_pair_client_next : (client server : ToySession) → ArePaired client server → ArePaired (session_after_next client) server
unfolding session_after_next
toy_pair_client_next client server h = record { client_side = h.client_side; server_side = h.server_side; secret = h.secret }

pub toy_pair_server_read : (client server : ToySession) (bytes : List ℕ) → ArePaired client server → ArePaired client (session_after_read server bytes)
unfolding session_after_read
toy_pair_server_read client server bytes h = record { client_side = h.client_side; server_side = h.server_side; secret = h.secret }

pub toy_pair_server_write : (client server : ToySession) → ArePaired client server → ArePaired client (session_after_write server)
unfolding session_after_write
toy_pair_server_write client server h = record { client_side = h.client_side; server_side = h.server_side; secret = h.secret }

pub toy_pair_server_next : (client server : ToySession) → ArePaired client server → ArePaired client (session_after_next server)
unfolding session_after_next
toy_pair_server_next client server h = record { client_side = h.client_side; server_side = h.server_side; secret = h.secret }

pub toy_same_exports : (client server : ToySession) (count : ℕ) (label context : List ℕ) → ArePaired client server
    → exported_bytes client.settings.secret count label context ≡ exported_bytes server.settings.secret count label context
toy_same_exports client server count label context h = ap (λ (secret : List ℕ). exported_bytes secret count label context) h.secret

-- ---- sound sessions

none_heard : (kinds : List Kind) (heard : List ℕ) → heard ≡ [] → refusal kinds (messages 3 heard) ≡ None
unfolding messages first_message
none_heard kinds heard e = rw e refl

pub toy_fresh_sound : (s : ToySession) → IsFresh s → IsSound s
toy_fresh_sound s h = record { few = omega (arith, h.steps); hello = λ _ n. absurd (none n); heard = none_heard (peer_messages s.side) s.heard h.heard } where
  none : 0 < s.steps → ⊥
  none n = omega (arith, h.steps, n)

-- no alert refuses what was heard, since nothing is kept of a reading that one refuses
in_order : (alert : Option ℕ) (kinds : List Kind) (before joined : List ℕ) → refusal kinds (messages 3 joined) ≡ alert → refusal kinds (messages 3 before) ≡ None
    → refusal kinds (messages 3 (heard_after alert before joined)) ≡ None
in_order None kinds before joined e h = e
in_order (Some alert) kinds before joined e h = h

pub toy_sound_read : (s : ToySession) (bytes : List ℕ) → IsSound s → IsSound (session_after_read s bytes)
unfolding session_after_read
toy_sound_read s bytes h =
    let alert = refusal (peer_messages s.side) (messages 3 (s.heard ++ bytes)) in
    record {
      few = h.few;
      hello = λ e n. first_kept alert s.heard bytes (h.hello e n);
      heard = in_order alert (peer_messages s.side) s.heard (s.heard ++ bytes) refl h.heard;
    }

-- each of a server's steps needs the hello
server_hears : (side : Side) (n : ℕ) (x : Step) → side ≡ Server → slice_get (steps_of side) n ≡ Some x → x.heard ≡ 1
server_hears Client n x s e = cc
server_hears Server zero x s e = ap (λ (y : Step). y.heard) (sym (some_step e))
server_hears Server (suc zero) x s e = ap (λ (y : Step). y.heard) (sym (some_step e))
server_hears Server (suc (suc n)) x s e = absurd (none_step e)

pub toy_sound_write : (s : ToySession) → IsSound s → IsSound (session_after_write s)
unfolding session_after_write
toy_sound_write s h = by (session_due s) refl where
  by : (o : Option Step) → session_due s ≡ o → IsSound (record s { steps = steps_after s.steps o })
  by None e = record { few = h.few; hello = h.hello; heard = h.heard }
  by (Some x) e =
      let d = due_step s x e in
      record {
        few = omega (arith, due_few s x e);
        hello = λ side n. one_is_first s.heard (let one = server_hears s.side s.steps x side d.0 in grind (arith, one, d.1));
        heard = h.heard;
      }

pub toy_sound_next : (s : ToySession) → IsSound s → IsSound (session_after_next s)
unfolding session_after_next
toy_sound_next s h = record { few = h.few; hello = h.hello; heard = h.heard }
