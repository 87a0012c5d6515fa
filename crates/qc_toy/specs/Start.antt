-- How the toy's sessions start.
use Rattle.std.specs.Prelude.{ℕ, ◌-◌, ◌<◌, ◌==◌, ◌&&◌, nat_le, List, [], ◌∷◌, ◌++◌, Bool, true, false, cond, None, Some, IsSome, length, ◌≡◌, refl}
use Rattle.std.proofs.Common.{sym, ap}
use Rattle.qc_base.specs.declared.side.Side.{Side}
use Rattle.qc_base.specs.declared.side.Side.TheVariants.{Client, Server}
use Rattle.qc_params.specs.declared.params.TransportParameters.{TransportParameters}
use Rattle.qc_params.specs.ParametersSpelling.{parameters_spelling}
use Rattle.qc_crypto.specs.Start.{GivesParameters}
use Rattle.qc_toy.specs.declared.session.ToySession.{ToySession}
use Rattle.qc_toy.specs.declared.settings.ToySettings.{ToySettings}
use Rattle.qc_toy.specs.declared.packet_key.ToyPacketKey.{ToyPacketKey}
use Rattle.qc_toy.specs.declared.header_key.ToyHeaderKey.{ToyHeaderKey}
use Rattle.qc_toy.specs.Messages.{first_message}
use Rattle.qc_toy.specs.MessageLaws.{message_begins}
use Rattle.qc_toy.specs.declared.messages.Kind.TheVariants as kind
use Rattle.qc_toy.specs.Messages.{message, messages}
use Rattle.qc_toy.specs.Handshake.{flag_byte, IsFresh, changes_by, parameters_in, session_due, session_writes, session_write_keys, session_after_write, session_parameters, early_keys, parameters_before, changes_of, keys_of_id, retry_tag, fits_retry}
use Rattle.std.proofs.Common.{arith, length-append}
use Rattle.std.proofs.lemmas.List.{take_at, drop_at}
use Rattle.std.proofs.lemmas.Slice.Eq.{bytes_eq-Decides}
use Rattle.qc_crypto.specs.Mates.{ReadEachOther}
use Rattle.qc_toy.specs.declared.key_bytes.Level.TheVariants as level
use Rattle.qc_toy.specs.KeyBytes.{initial_secret}
use Rattle.qc_toy.specs.ToyKeys.{level_keys}
use Rattle.qc_toy.specs.CipherLaws.{length-tag}
use Rattle.qc_toy.specs.SessionLaws.{mask_by, seal_by, open_by, levels_read}

true_false : true ≡ false → ⊥
true_false e = cc

-- The session of an end that has read and written nothing.
unfoldable pub session_of : ToySettings → Side → TransportParameters → ToySession
session_of settings side params =
    record { side = side; settings = settings; parameters = parameters_spelling params; heard = []; steps = 0; epoch = 0 }

pub start_fresh : (settings : ToySettings) (side : Side) (params : TransportParameters) → IsFresh (session_of settings side params)
unfolding session_of
start_fresh settings side params = record { heard = refl; steps = refl; epoch = refl }

pub start_side : (settings : ToySettings) (side : Side) (params : TransportParameters) → (session_of settings side params).side ≡ side
unfolding session_of
start_side settings side params = refl

-- a fresh session of a client writes its hello, and then waits
pub fresh_writes : (s : ToySession) → IsFresh s → s.side ≡ Client → session_writes s ≡ message kind.Hello (flag_byte s.settings.early ∷ s.parameters)
unfolding session_writes session_due messages first_message
fresh_writes s h c = rw (c, h.steps, h.heard) refl

pub fresh_hello : (s : ToySession) → IsFresh s → s.side ≡ Client → 0 < length (session_writes s)
fresh_hello s h c = rw (fresh_writes s h c) (message_begins _ _)

pub fresh_no_keys : (s : ToySession) → IsFresh s → s.side ≡ Client → session_write_keys s ≡ None
unfolding session_write_keys session_due messages first_message
fresh_no_keys s h c = rw (c, h.steps, h.heard) refl

fresh_after : (s : ToySession) → IsFresh s → s.side ≡ Client → session_after_write s ≡ record s { steps = 1 }
unfolding session_after_write session_due messages first_message
fresh_after s h c = rw (c, h.steps, h.heard) refl

fresh_waits : (s : ToySession) → s.side ≡ Client → s.heard ≡ [] → session_due (record s { steps = 1 }) ≡ None
unfolding session_due messages first_message
fresh_waits s c h = rw (c, h) refl

pub fresh_whole : (s : ToySession) → IsFresh s → s.side ≡ Client → session_writes (session_after_write s) ≡ []
unfolding session_writes
fresh_whole s h c = rw (fresh_after s h c, fresh_waits s c h.heard) refl

pub fresh_alone : (s : ToySession) → IsFresh s → s.side ≡ Client → session_write_keys (session_after_write s) ≡ None
unfolding session_write_keys
fresh_alone s h c = rw (fresh_after s h c, fresh_waits s c h.heard) refl

gives : (early : Bool) (keys : ToyHeaderKey × ToyPacketKey) → IsSome (cond (early && true) (Some keys) None) → GivesParameters (parameters_in Client (parameters_before early) None)
gives true keys h = tt
gives false keys h = absurd (true_false (sym h))

pub fresh_early : (s : ToySession) → IsFresh s → s.side ≡ Client → IsSome (early_keys s) → GivesParameters (session_parameters s)
unfolding early_keys session_parameters first_message
fresh_early s h c e = rw (c, h.heard) (gives s.settings.early _ (rw c at e))

pub fresh_changes : (s : ToySession) → IsFresh s → changes_of s ≡ 0
fresh_changes s h = none s.side s.steps h.steps where
  none : (side : Side) (n : ℕ) → n ≡ 0 → changes_by side n ≡ 0
  none Client n e = omega (arith, e)
  none Server n e = e

pub server_fits : (settings : ToySettings) (session : ToySession) (id : List ℕ)
    → ReadEachOther mask_by seal_by open_by (keys_of_id session id Client) (level_keys settings (initial_secret id) level.Initial Server)
server_fits settings session id = levels_read session.settings settings (initial_secret id) level.Initial

pub same_initial : (settings : ToySettings) (session : ToySession) (params : TransportParameters) (id : List ℕ) → session ≡ session_of settings Server params
    → keys_of_id session id Server ≡ level_keys settings (initial_secret id) level.Initial Server
unfolding session_of
same_initial settings session params id e = ap (λ (s : ToySession). keys_of_id s id Server) e

-- the list of versions holds 1 alone
pub version_one : (version : ℕ) → version == 1 ≡ true → 1 ≡ version
version_one version h = grind (arith, h)

length-retry_tag : (id packet : List ℕ) → length (retry_tag id packet) ≡ 16
unfolding retry_tag
length-retry_tag id packet = length-tag _ _ _

-- a payload that ends in the tag fits
pub server_retry_fits : (id header token : List ℕ) → fits_retry id header (token ++ retry_tag id (header ++ token)) ≡ true
unfolding fits_retry
server_retry_fits id header token =
    let t = retry_tag id (header ++ token) in
    let n : length (token ++ t) - 16 ≡ length token = omega (arith, length-append token t, length-retry_tag id (header ++ token)) in
    let long : nat_le 16 (length (token ++ t)) ≡ true = grind (arith, length-append token t, length-retry_tag id (header ++ token)) in
    rw (long, n, take_at token t (length token) refl, drop_at token t (length token) refl) ((bytes_eq-Decides t t).1 refl)
