-- The laws that these sessions keep.
use Rattle.std.specs.Prelude.{Bool, true, false, not, ◌&&◌, ◌||◌, ◌⊎◌, ◌==◌, cond, nat_lt, is_some, IsSome, Option, Some, None, Result, Ok, Err}
use Rattle.std.proofs.Common.{◌≡◌, ◌≢◌, ℕ, zero, suc, ◌+◌, ◌-◌, ◌%◌, ◌^◌, ◌<◌, ◌≤◌, List, [], ◌∷◌, length, refl, ap, sym, ◌∙◌, subst, arith, lit<, inl, inr}
use Rattle.qc_base.specs.declared.side.Side.{Side}
use Rattle.qc_base.specs.declared.side.Side.TheVariants.{Client, Server}
use Rattle.qc_base.specs.declared.side.SpaceId.{SpaceId}
use Rattle.qc_base.specs.declared.side.SpaceId.TheVariants.{Handshake, Data}
use Rattle.qc_base.specs.declared.transport_error.TransportError.{TransportError}
use Rattle.qc_params.specs.declared.params.TransportParameters.{TransportParameters}
use Rattle.qc_params.specs.ParametersReading.{is_legal}
use Rattle.qc_params.specs.ParametersSpelling.{default_parameters}
use Rattle.qc_crypto.specs.declared.keys.KeyPair.{KeyPair}
use Rattle.qc_crypto.specs.declared.keys.Keys.{Keys}
use Rattle.qc_crypto.specs.GivenKeys.{keys_given, space_of_change}
use Rattle.qc_crypto.specs.Mates.{ReadEachOther}
use Rattle.qc_crypto.specs.Refusal.{IsSendable}
use Rattle.qc_toy.specs.declared.key_bytes.Level.TheVariants as level
use Rattle.qc_toy.specs.declared.packet_key.ToyPacketKey.{ToyPacketKey}
use Rattle.qc_toy.specs.declared.header_key.ToyHeaderKey.{ToyHeaderKey}
use Rattle.qc_toy.specs.KeyBytes.{initial_secret}
use Rattle.qc_toy.specs.Settings.{default_settings}
use Rattle.qc_toy.specs.SessionLaws.{mask_by, seal_by, open_by, levels_read, epoch_of_rest}
use Rattle.qc_shares.specs.declared.session.SharesSession.{SharesSession}
use Rattle.qc_shares.specs.Shares.{IsFresh, IsSound, session_secret, initial_of, keys_in, keys_of_epoch, is_client, moves, written, given, after_writing, goes_on, out_of_turn, read_answer, heard_after, after_reading, ready, known_parameters, next_of, after_next_of}

true_false : true ≡ false → ⊥
true_false e = cc

-- ---- sound sessions

pub shares_fresh_sound : (s : SharesSession) → IsFresh s → IsSound s
shares_fresh_sound s h = record { few = omega (arith, h.steps); heard = λ n. absurd (late n) } where
  late : 2 ≤ s.steps → ⊥
  late n = omega (arith, h.steps, n)

heard_stays : (h : Option ℕ) (bytes : List ℕ) → IsSome h → IsSome (heard_after h bytes)
heard_stays None bytes e = absurd (true_false (sym e))
heard_stays (Some share) [] e = e
heard_stays (Some share) (b ∷ bytes) e = e

pub shares_sound_read : (s : SharesSession) (bytes : List ℕ) → IsSound s → IsSound (after_reading s bytes)
shares_sound_read s bytes h = record { few = h.few; heard = λ n. heard_stays s.heard bytes (h.heard n) }

both : (a b : Bool) → (a && b) ≡ true → (a ≡ true) × (b ≡ true)
both true true e = (refl, refl)
both true false e = absurd (true_false (sym e))
both false b e = absurd (true_false (sym e))

one_of : (x e c : Bool) → (x || (e && c)) ≡ true → e ≡ false → x ≡ true
one_of true e c h n = refl
one_of false true c h n = absurd (true_false n)
one_of false false c h n = absurd (true_false (sym h))

-- a step is one of three
moved_few : (s : SharesSession) → moves s ≡ true → s.steps < 3
moved_few s m = let lt = (both (nat_lt s.steps 3) (is_some s.heard || (s.steps == 0 && is_client s.side)) m).0 in grind (arith, lt)

-- and but for the first it is made by one that has heard the peer
moved_heard : (s : SharesSession) → moves s ≡ true → 1 ≤ s.steps → IsSome s.heard
moved_heard s m n =
    let later : (s.steps == 0) ≡ false = grind (arith, n) in
    one_of (is_some s.heard) (s.steps == 0) (is_client s.side) ((both (nat_lt s.steps 3) (is_some s.heard || (s.steps == 0 && is_client s.side)) m).1) later

pub shares_sound_write : (s : SharesSession) → IsSound s → IsSound (after_writing s)
unfolding after_writing
shares_sound_write s h = by (moves s) refl where
  by : (b : Bool) → moves s ≡ b → IsSound (record s { steps = cond b (s.steps + 1) s.steps })
  by true m = record { few = omega (arith, moved_few s m); heard = λ n. moved_heard s m (omega (arith, n)) }
  by false m = record { few = h.few; heard = h.heard }

pub shares_sound_next : (s : SharesSession) → IsSound s → IsSound (after_next_of s)
unfolding after_next_of
shares_sound_next s h = record { few = h.few; heard = h.heard }

-- ---- a client's start

pub shares_hello_first : (s : SharesSession) → IsFresh s → s.side ≡ Client → 0 < length (written s)
unfolding written
shares_hello_first s h c = rw (h.heard, h.steps, c) (lit< tt)

pub shares_hello_no_keys : (s : SharesSession) → IsFresh s → s.side ≡ Client → given s ≡ None
unfolding given
shares_hello_no_keys s h c = rw (h.heard, h.steps, c) refl

pub shares_hello_whole : (s : SharesSession) → IsFresh s → s.side ≡ Client → written (after_writing s) ≡ []
unfolding written after_writing
shares_hello_whole s h c = rw (h.heard, h.steps, c) refl

pub shares_hello_alone : (s : SharesSession) → IsFresh s → s.side ≡ Client → given (after_writing s) ≡ None
unfolding given after_writing
shares_hello_alone s h c = rw (h.heard, h.steps, c) refl

-- ---- writing

one_byte : {b : ℕ} → b ∷ [] ≡ [] → ⊥
one_byte e = cc

no_keys : {k : Keys ToyHeaderKey ToyPacketKey} → Some k ≡ None → ⊥
no_keys e = cc

some_keys : {x y : Keys ToyHeaderKey ToyPacketKey} → Some x ≡ Some y → x ≡ y
some_keys e = cc

pub shares_falls : (s : SharesSession) → (0 < length (written s)) ⊎ IsSome (given s) → 3 - (after_writing s).steps < 3 - s.steps
unfolding written given after_writing
shares_falls s h = by (moves s) refl h where
  by : (b : Bool) → moves s ≡ b
      → (0 < length (cond (b && s.steps == 0) (s.share ∷ []) [])) ⊎ IsSome (cond (b && not (s.steps == 0)) (Some (keys_in s (cond (s.steps == 1) Handshake Data))) None)
      → 3 - cond b (s.steps + 1) s.steps < 3 - s.steps
  by true m h = omega (arith, moved_few s m)
  by false m (inl l) = omega arith
  by false m (inr x) = absurd (true_false (sym x))

pub shares_idle : (s : SharesSession) → written s ≡ [] → given s ≡ None → after_writing s ≡ s
unfolding written given after_writing
shares_idle s e g = by (moves s) (s.steps == 0) e g where
  by : (b first : Bool)
      → cond (b && first) (s.share ∷ []) [] ≡ [] → cond (b && not first) (Some (keys_in s (cond (s.steps == 1) Handshake Data))) None ≡ None
      → record s { steps = cond b (s.steps + 1) s.steps } ≡ s
  by true true e g = absurd (one_byte e)
  by true false e g = absurd (no_keys g)
  by false first e g = refl

is_zero : (n : ℕ) → n == 0 ≡ true → n ≡ 0
is_zero n e = grind (arith, e)

not_zero : (n : ℕ) → n == 0 ≡ false → 1 ≤ n
not_zero n e = grind (arith, e)

pub shares_unwritten_write : (s : SharesSession) → length (written s) + (1 - (after_writing s).steps) ≤ 1 - s.steps
unfolding written after_writing
shares_unwritten_write s = by (moves s) (s.steps == 0) refl where
  by : (b first : Bool) → s.steps == 0 ≡ first → length (cond (b && first) (s.share ∷ []) []) + (1 - cond b (s.steps + 1) s.steps) ≤ 1 - s.steps
  by true true z = omega (arith, is_zero s.steps z)
  by true false z = omega arith
  by false first z = omega arith

pub shares_changes_write : (s : SharesSession) → (after_writing s).steps - 1 ≡ s.steps - 1 + keys_given (given s)
unfolding given after_writing
shares_changes_write s = by (moves s) (s.steps == 0) refl where
  by : (b first : Bool) → s.steps == 0 ≡ first
      → cond b (s.steps + 1) s.steps - 1 ≡ s.steps - 1 + keys_given (cond (b && not first) (Some (keys_in s (cond (s.steps == 1) Handshake Data))) None)
  by true true z = omega (arith, is_zero s.steps z)
  by true false z = omega (arith, not_zero s.steps z)
  by false first z = omega arith

-- ---- the handshake's end, and its data

over : (n : ℕ) → goes_on n ≡ false → n ≡ 3
over n e = grind (arith, e)

pub shares_over_late : (s : SharesSession) → goes_on s.steps ≡ false → s.steps - 1 ≡ 2
shares_over_late s e = omega (arith, over s.steps e)

pub shares_over_write : (s : SharesSession) → goes_on s.steps ≡ false → goes_on (after_writing s).steps ≡ false
unfolding after_writing
shares_over_write s e = by (moves s) refl where
  by : (b : Bool) → moves s ≡ b → goes_on (cond b (s.steps + 1) s.steps) ≡ false
  by true m = absurd (late (moved_few s m) (over s.steps e)) where
    late : s.steps < 3 → s.steps ≡ 3 → ⊥
    late a b = omega (arith, a, b)
  by false m = e

pub shares_over_next : (s : SharesSession) → goes_on s.steps ≡ false → goes_on (after_next_of s).steps ≡ false
unfolding after_next_of
shares_over_next s e = e

abbrev ok_read : Bool → Result Bool TransportError
ok_read b = Ok b

abbrev err_read : TransportError → Result Bool TransportError
err_read error = Err error

ok_same : {a b : Bool} → ok_read a ≡ ok_read b → a ≡ b
ok_same e = cc

ok_err : {a : Bool} {x : TransportError} → ok_read a ≡ err_read x → ⊥
ok_err e = cc

err_same : {x y : TransportError} → err_read x ≡ err_read y → x ≡ y
err_same e = cc

pub shares_ready_once : (h : Option ℕ) (bytes : List ℕ) → read_answer h bytes ≡ Ok true → ready h ≡ None
shares_ready_once None bytes e = refl
shares_ready_once (Some share) [] e = absurd (true_false (sym (ok_same e)))
shares_ready_once (Some share) (b ∷ bytes) e = absurd (ok_err (sym e))

pub shares_ready_then : (h : Option ℕ) (bytes : List ℕ) → read_answer h bytes ≡ Ok true → IsSome (ready (heard_after h bytes))
shares_ready_then None [] e = absurd (true_false (sym (ok_same e)))
shares_ready_then None (share ∷ []) e = refl
shares_ready_then None (share ∷ b ∷ bytes) e = absurd (ok_err (sym e))
shares_ready_then (Some share) [] e = refl
shares_ready_then (Some share) (b ∷ bytes) e = refl

pub shares_ready_read : (h : Option ℕ) (bytes : List ℕ) → IsSome (ready h) → IsSome (ready (heard_after h bytes))
shares_ready_read None bytes e = absurd (true_false (sym e))
shares_ready_read (Some share) [] e = refl
shares_ready_read (Some share) (b ∷ bytes) e = refl

sends : (error : TransportError) → err_read out_of_turn ≡ err_read error → IsSendable error
sends error e = subst IsSendable (err_same e) (record { code = lit< tt; frame = tt })

pub shares_refusal : (h : Option ℕ) (bytes : List ℕ) (error : TransportError) → read_answer h bytes ≡ Err error → IsSendable error
shares_refusal None [] error e = absurd (ok_err e)
shares_refusal None (share ∷ []) error e = absurd (ok_err e)
shares_refusal None (share ∷ b ∷ bytes) error e = sends error e
shares_refusal (Some share) [] error e = absurd (ok_err e)
shares_refusal (Some share) (b ∷ bytes) error e = sends error e

-- ---- parameters

abbrev some_parameters : TransportParameters → Result (Option TransportParameters) TransportError
some_parameters p = Ok (Some p)

abbrev no_parameters : Result (Option TransportParameters) TransportError
no_parameters = Ok None

abbrev err_parameters : TransportError → Result (Option TransportParameters) TransportError
err_parameters e = Err e

same_parameters : {p q : TransportParameters} → some_parameters p ≡ some_parameters q → p ≡ q
same_parameters e = cc

none_some : {p : TransportParameters} → no_parameters ≡ some_parameters p → ⊥
none_some e = cc

some_err : {p : TransportParameters} {e : TransportError} → some_parameters p ≡ err_parameters e → ⊥
some_err h = cc

none_err : {e : TransportError} → no_parameters ≡ err_parameters e → ⊥
none_err h = cc

pub shares_unreadable : (h : Option ℕ) (error : TransportError) → known_parameters h ≡ Err error → IsSendable error
shares_unreadable None error e = absurd (none_err e)
shares_unreadable (Some share) error e = absurd (some_err e)

default_legal : (side : Side) → is_legal side default_parameters ≡ true
unfolding is_legal
default_legal Client = refl
default_legal Server = refl

pub shares_allowed : (side : Side) (h : Option ℕ) (p : TransportParameters) → known_parameters h ≡ Ok (Some p) → is_legal side p ≡ true
shares_allowed side None p e = absurd (none_some e)
shares_allowed side (Some share) p e = subst (λ x. is_legal side x ≡ true) (same_parameters e) (default_legal side)

pub shares_knows : (h : Option ℕ) → IsSome h → known_parameters h ≢ Ok None
shares_knows None h e = absurd (true_false (sym h))
shares_knows (Some share) h e = none_some (sym e)

pub shares_server_knows : (s : SharesSession) → IsSound s → s.side ≡ Server → 0 < s.steps - 1 → known_parameters s.heard ≢ Ok None
shares_server_knows s h side c = shares_knows s.heard (h.heard (omega (arith, c)))

-- ---- what calls leave

pub shares_next_writes : (s : SharesSession) → written (after_next_of s) ≡ written s
unfolding written after_next_of
shares_next_writes s = refl

pub shares_next_write_keys : (s : SharesSession) → given (after_next_of s) ≡ given s
unfolding given after_next_of
shares_next_write_keys s = refl

pub shares_write_parameters : (s : SharesSession) → known_parameters (after_writing s).heard ≡ known_parameters s.heard
unfolding after_writing
shares_write_parameters s = refl

pub shares_next_parameters : (s : SharesSession) → known_parameters (after_next_of s).heard ≡ known_parameters s.heard
unfolding after_next_of
shares_next_parameters s = refl

pub shares_ready_write : (s : SharesSession) → IsSome (ready s.heard) → IsSome (ready (after_writing s).heard)
unfolding after_writing
shares_ready_write s e = e

pub shares_ready_next : (s : SharesSession) → IsSome (ready s.heard) → IsSome (ready (after_next_of s).heard)
unfolding after_next_of
shares_ready_next s e = e

pub shares_side_write : (s : SharesSession) → (after_writing s).side ≡ s.side
unfolding after_writing
shares_side_write s = refl

pub shares_side_next : (s : SharesSession) → (after_next_of s).side ≡ s.side
unfolding after_next_of
shares_side_next s = refl

pub shares_steps_next : (s : SharesSession) → (after_next_of s).steps ≡ s.steps
unfolding after_next_of
shares_steps_next s = refl

pub shares_epoch_write : (s : SharesSession) → (after_writing s).epoch ≡ s.epoch
unfolding after_writing
shares_epoch_write s = refl

-- ---- keys

space_at : (k : ℕ) → cond (k + 1 == 1) Handshake Data ≡ space_of_change k
space_at zero = refl
space_at (suc k) = let other : (suc k + 1 == 1) ≡ false = grind arith in rw other refl

pub shares_given_keys : (s : SharesSession) (keys : Keys ToyHeaderKey ToyPacketKey) → given s ≡ Some keys → keys ≡ keys_in (after_writing s) (space_of_change (s.steps - 1))
unfolding given after_writing
shares_given_keys s keys e = by (moves s) (s.steps == 0) refl e where
  by : (b first : Bool) → s.steps == 0 ≡ first → cond (b && not first) (Some (keys_in s (cond (s.steps == 1) Handshake Data))) None ≡ Some keys
      → keys ≡ keys_in s (space_of_change (s.steps - 1))
  by true true z e = absurd (no_keys (sym e))
  by true false z e =
      let n : s.steps ≡ s.steps - 1 + 1 = omega (arith, not_zero s.steps z) in
      sym (some_keys e) ∙ ap (λ space. keys_in s space) (ap (λ n. cond (n == 1) Handshake Data) n ∙ space_at (s.steps - 1))
  by false first z e = absurd (no_keys (sym e))

-- what was heard stays
heard_same : (h : Option ℕ) (bytes : List ℕ) → IsSome h → heard_after h bytes ≡ h
heard_same None bytes e = absurd (true_false (sym e))
heard_same (Some share) [] e = refl
heard_same (Some share) (b ∷ bytes) e = refl

-- so a session that has given keys is left by what it reads
pub shares_read_same : (s : SharesSession) (bytes : List ℕ) → IsSound s → 0 < s.steps - 1 → after_reading s bytes ≡ s
shares_read_same s bytes h c = ap (λ heard. record s { heard = heard }) (heard_same s.heard bytes (h.heard (omega (arith, c))))

pub shares_space_read : (s : SharesSession) (bytes : List ℕ) (space : SpaceId) → IsSound s → 0 < s.steps - 1 → keys_in (after_reading s bytes) space ≡ keys_in s space
shares_space_read s bytes space h c = ap (λ (t : SharesSession). keys_in t space) (shares_read_same s bytes h c)

pub shares_data_read : (s : SharesSession) (bytes : List ℕ) → IsSound s → s.steps - 1 ≡ 2 → keys_in (after_reading s bytes) Data ≡ keys_in s Data
shares_data_read s bytes h c = shares_space_read s bytes Data h (omega (arith, c))

pub shares_epochs_read : (s : SharesSession) (bytes : List ℕ) (n : ℕ) → IsSound s → s.steps - 1 ≡ 2 → keys_of_epoch (after_reading s bytes) n ≡ keys_of_epoch s n
shares_epochs_read s bytes n h c = ap (λ (t : SharesSession). keys_of_epoch t n) (shares_read_same s bytes h (omega (arith, c)))

pub shares_space_write : (s : SharesSession) (space : SpaceId) → keys_in (after_writing s) space ≡ keys_in s space
unfolding after_writing
shares_space_write s space = refl

pub shares_space_next : (s : SharesSession) (space : SpaceId) → keys_in (after_next_of s) space ≡ keys_in s space
unfolding after_next_of
shares_space_next s space = refl

pub shares_epochs_write : (s : SharesSession) (n : ℕ) → keys_of_epoch (after_writing s) n ≡ keys_of_epoch s n
unfolding after_writing
shares_epochs_write s n = refl

pub shares_epochs_next : (s : SharesSession) (n : ℕ) → keys_of_epoch (after_next_of s) n ≡ keys_of_epoch s n
unfolding after_next_of
shares_epochs_next s n = refl

third : (n : ℕ) → (n == 3) ≡ (n - 1 == 2)
third n = by (n == 3) refl where
  by : (b : Bool) → n == 3 ≡ b → b ≡ (n - 1 == 2)
  by true e = grind (arith, e)
  by false e = grind (arith, e)

pub shares_given_next : (s : SharesSession) → next_of s ≡ cond (s.steps - 1 == 2) (Some (keys_of_epoch s (s.epoch + 1))) None
unfolding next_of
shares_given_next s =
    ap (λ b. cond b (Some (keys_of_epoch s ((s.epoch + 1) % 2 ^ 64))) None) (third s.steps)
    ∙ ap (λ (keys : KeyPair ToyPacketKey). cond (s.steps - 1 == 2) (Some keys) None) (epoch_of_rest default_settings (session_secret s) level.Data s.side (s.epoch + 1))

pub shares_next_epoch : (s : SharesSession) → s.epoch + 1 < 2 ^ 64 → (after_next_of s).epoch ≡ cond (s.steps - 1 == 2) (s.epoch + 1) s.epoch
unfolding after_next_of
shares_next_epoch s h =
    let small : (s.epoch + 1) % 2 ^ 64 ≡ s.epoch + 1 = omega (arith, h) in
    rw small (ap (λ b. cond b (s.epoch + 1) s.epoch) (third s.steps))

pub shares_initial_fits : (id : List ℕ) → ReadEachOther mask_by seal_by open_by (initial_of id Client) (initial_of id Server)
shares_initial_fits id = levels_read default_settings default_settings (initial_secret id) level.Initial

-- there are no early keys
pub no_early : {B : Type 0} → false ≡ true → B
no_early e = absurd (true_false (sym e))

pub few_unwritten : (s : SharesSession) → 1 - s.steps < 2 ^ 62
few_unwritten s = omega arith

pub unwritten_same : (s : SharesSession) → 1 - s.steps ≤ 1 - s.steps
unwritten_same s = omega arith

pub shares_unwritten_next : (s : SharesSession) → 1 - (after_next_of s).steps ≤ 1 - s.steps
shares_unwritten_next s = omega (arith, shares_steps_next s)

pub shares_left_next : (s : SharesSession) → 3 - (after_next_of s).steps ≤ 3 - s.steps
shares_left_next s = omega (arith, shares_steps_next s)

pub few_changes : (s : SharesSession) → IsSound s → s.steps - 1 ≤ 2
few_changes s h = omega (arith, h.few)

pub shares_changes_next : (s : SharesSession) → (after_next_of s).steps - 1 ≡ s.steps - 1
shares_changes_next s = ap (λ n. n - 1) (shares_steps_next s)
