-- What a read and a write of the session make of a connection.
use Rattle.std.proofs.Common.{◌≡◌, ℕ, ◌<◌, ◌≤◌, List, [], ◌∷◌, ◌++◌, length, refl, ap, sym, ◌∙◌, subst, Bool, true, false, ◌==◌, Option, Some, None, Result, inl, inr, arith}
use Rattle.std.proofs.lemmas.Bool.Decides.{nat_tests}
use Rattle.std.specs.Prelude.{◌&&◌, ◌⊎◌, is_none, IsSome}
use Rattle.rand_core.specs.Stream.{Stream}
use Rattle.qc_base.specs.declared.side.SpaceId.{SpaceId}
use Rattle.qc_base.specs.declared.side.SpaceId.TheVariants.{Initial, Handshake, «Data»}
use Rattle.qc_base.specs.declared.transport_error.TransportError.{TransportError}
use Rattle.qc_admit.specs.Reading.{HasRead, HasWritten, keys_taken}
use Rattle.qc_crypto.specs.declared.keys.KeyPair.{KeyPair}
use Rattle.qc_crypto.specs.declared.keys.Keys.{Keys}
use Rattle.qc_state.proofs.Ready.{first_none}
use Rattle.qc_assembler.specs.Assembly.{Assembly}
use Rattle.qc_state.specs.declared.deeds.Did.{Did}
use Rattle.qc_state.specs.declared.deeds.Did.TheVariants as did
use Rattle.qc_state.specs.declared.deeds.Layer.TheVariants as layer
use Rattle.qc_state.specs.declared.lower.Lower.{Lower}
use Rattle.qc_state.specs.declared.waiting.Waiting.{Waiting}
use Rattle.qc_state.specs.declared.keys.KeyGroup.{KeyGroup}
use Rattle.qc_state.specs.declared.keys.OneRttKeys.{OneRttKeys}
use Rattle.qc_state.specs.declared.keys.SpaceKeys.{SpaceKeys}
use Rattle.qc_state.specs.Keys.{DataKeys, HandshakeKeys, keys_given, new_keys, new_ring}
use Rattle.qc_state.specs.Lower.{ready_bytes, stream_of, session_read, session_wrote}
use Rattle.qc_state.specs.Moves.{move_to, state_move, numbers_move, keys_move, life_move, paths_move, timers_move, waiting_move, setup_move, lower_move, deeds_move}
use Rattle.qc_state.specs.Progress.{is_written, keys_behind, ring_with, session_behind, write_after}
use Rattle.qc_state.specs.Setup.{ideal_setup}
use Rattle.qc_state.specs.Types.{Types, Meaning}
use Rattle.qc_state.specs.View.{Held, View, at, held, ideal}
use Rattle.qc_state.specs.Waiting.{crypto_written}

-- bytes of which there are none
no_bytes : (bytes : List ℕ) → (length bytes == 0) ≡ true → bytes ≡ []
no_bytes [] e = refl
no_bytes (b ∷ bytes) e = let some : (length (b ∷ bytes) == 0) ≡ false = grind (arith, nat_tests) in cc (e, some)

-- bytes of which there are some
some_bytes : (bytes : List ℕ) → (length bytes == 0) ≡ false → 0 < length bytes
some_bytes bytes e = grind (arith, nat_tests)

-- no keys
no_keys : {A : Type 0} (keys : Option A) → is_none keys ≡ true → keys ≡ None
no_keys None e = refl
no_keys (Some k) e = cc e

-- both hold, so the first does
left_holds : (x y : Bool) → (x && y) ≡ true → x ≡ true
left_holds true y e = refl
left_holds false y e = e

-- and the second
right_holds : (x y : Bool) → (x && y) ≡ true → y ≡ true
right_holds true y e = e
right_holds false y e = cc e

-- neither bytes nor keys
neither : {A : Type 0} (bytes : List ℕ) (keys : Option A) → ((length bytes == 0) && is_none keys) ≡ true → (bytes ≡ []) × (keys ≡ None)
neither bytes keys e = (no_bytes bytes (left_holds (length bytes == 0) (is_none keys) e), no_keys keys (right_holds (length bytes == 0) (is_none keys) e))

-- bytes or keys
either : {A : Type 0} (bytes : List ℕ) (keys : Option A) → ((length bytes == 0) && is_none keys) ≡ false → (0 < length bytes) ⊎ IsSome keys
either [] None e = cc e
either [] (Some k) e = inr refl
either (b ∷ bytes) keys e = inl (omega arith)

module _ {S : Type 0} where
  -- reading no bytes changes nothing
  nothing_by : (l : Lower S) (id : SpaceId) (bytes : List ℕ) → bytes ≡ [] → session_read l id (length bytes) l.session ≡ l
  unfolding session_read
  nothing_by l Initial bytes e = ap (λ (a : Assembly). record l { crypto = record l.crypto { initial = a } }) (sym (first_none l.crypto.initial bytes e))
  nothing_by l Handshake bytes e = ap (λ (a : Assembly). record l { crypto = record l.crypto { handshake = a } }) (sym (first_none l.crypto.handshake bytes e))
  nothing_by l Data bytes e = ap (λ (a : Assembly). record l { crypto = record l.crypto { application = a } }) (sym (first_none l.crypto.application bytes e))

  -- the session behind a read
  session_by : (l l' : Lower S) (id : SpaceId) (count : ℕ) (session : S) → l' ≡ session_read l id count session → l'.session ≡ session
  unfolding session_read
  session_by l l' id count session e = ap (λ (x : Lower S). x.session) e

module _ {t : Types} {R : Type 0} (m : Meaning t) (stream : R → Stream) where
  -- there was nothing to read
  pub nothing_read : (v w : Held t R) (id : SpaceId) (bytes slice : List ℕ) (l : Lower t.S) (ds : List Did) (empty : Bool) → w ≡ v → bytes ≡ ready_bytes (stream_of w.lower id) →
      l ≡ session_read w.lower id (length bytes) w.lower.session → slice ≡ bytes → empty ≡ (length slice == 0) → empty ≡ true →
      HasRead m id (ready_bytes (stream_of v.lower id)) None (held stream v ds) (held stream (record w { lower = l }) ds)
  nothing_read v w id bytes slice l ds empty same is is_l is_slice is_empty e =
      let none : bytes ≡ [] = sym is_slice ∙ no_bytes slice (sym is_empty ∙ e) in
      subst (λ (x : Held t R). HasRead m id (ready_bytes (stream_of x.lower id)) None (held stream x ds) (held stream (record w { lower = l }) ds)) same
      ((sym is ∙ none), ap (λ (x : Lower t.S). held stream (record w { lower = x }) ds) (is_l ∙ nothing_by w.lower id bytes none))

  -- the session read
  pub something_read : (v w : Held t R) (id : SpaceId) (bytes slice slice' body : List ℕ) (l : Lower t.S) (session : t.S) (answer : Result Bool TransportError) (ds ds' : List Did) (empty : Bool) → w ≡ v →
      bytes ≡ ready_bytes (stream_of w.lower id) → l ≡ session_read w.lower id (length bytes) w.lower.session → slice ≡ bytes → empty ≡ (length slice == 0) → empty ≡ false →
      slice' ≡ bytes → answer ≡ m.reads l.session slice' → session ≡ m.after_read l.session slice' → body ≡ bytes → ds' ≡ ds ++ did.Gave layer.Session body ∷ [] →
      HasRead m id (ready_bytes (stream_of v.lower id)) (Some answer) (held stream v ds) (held stream (record w { lower = record l { session = session } }) ds')
  unfolding move_to state_move numbers_move keys_move life_move paths_move timers_move waiting_move setup_move lower_move deeds_move session_read
  something_read v w id bytes slice slice' body l session answer ds ds' empty same is is_l is_slice is_empty e is_slice' is_answer is_session is_body is_ds' =
      let ready : List ℕ = ready_bytes (stream_of w.lower id) in
      let some : 0 < length ready = subst (λ (x : List ℕ). 0 < length x) (is_slice ∙ is) (some_bytes slice (sym is_empty ∙ e)) in
      let first : l.session ≡ w.lower.session = session_by w.lower l id (length bytes) w.lower.session is_l in
      let answers : answer ≡ m.reads w.lower.session ready = is_answer ∙ ap (λ (x : t.S). m.reads x slice') first ∙ ap (m.reads w.lower.session) (is_slice' ∙ is) in
      let after : session ≡ m.after_read w.lower.session ready = is_session ∙ ap (λ (x : t.S). m.after_read x slice') first ∙ ap (m.after_read w.lower.session) (is_slice' ∙ is) in
      let lower : record l { session = session } ≡ session_read w.lower id (length ready) (m.after_read w.lower.session ready) =
      ap (λ (x : Lower t.S). record x { session = session }) (is_l ∙ ap (λ (x : List ℕ). session_read w.lower id (length x) w.lower.session) is) ∙ ap (λ (x : t.S). session_read w.lower id (length ready) x) after in
      let deeds : ds' ≡ ds ++ did.Gave layer.Session ready ∷ [] = is_ds' ∙ ap (λ (x : List ℕ). ds ++ did.Gave layer.Session x ∷ []) (is_body ∙ is) in
      subst (λ (x : Held t R). HasRead m id (ready_bytes (stream_of x.lower id)) (Some answer) (held stream x ds) (held stream (record w { lower = record l { session = session } }) ds')) same (
        some,
        (
          answers,
          λ i. record {
            state = record {
              numbers = w.numbers;
              keys = w.keys;
              life = w.life;
              paths = w.paths;
              timers = w.timers;
              waiting = w.waiting;
              setup = ideal_setup stream w.setup;
              lower = lower i;
              issuer = w.issuer;
            };
            did = deeds i;
          },
        ),
      )

  -- what a write says
  tells : (s : t.S) (bytes first slice : List ℕ) (keys : Option (Keys t.H t.P)) (nothing : Bool) → keys ≡ m.write_keys s → first ≡ [] → bytes ≡ first ++ m.writes s → slice ≡ bytes →
      nothing ≡ ((length slice == 0) && is_none keys) → is_written m s ≡ nothing
  unfolding is_written
  tells s bytes first slice keys nothing is_keys is_first is_bytes is_slice is =
      let all : m.writes s ≡ slice = sym (is_slice ∙ is_bytes ∙ ap (λ (x : List ℕ). x ++ m.writes s) is_first) in
      ap (λ (x : List ℕ). (length x == 0) && is_none (m.write_keys s)) all ∙ ap (λ (k : Option (Keys t.H t.P)). (length slice == 0) && is_none k) (sym is_keys) ∙ sym is

  -- the session wrote nothing
  pub nothing_written : (v w : Held t R) (bytes first slice : List ℕ) (keys : Option (Keys t.H t.P)) (session : t.S) (ds : List Did) (nothing : Bool) → w ≡ v → keys ≡ m.write_keys w.lower.session → first ≡ [] →
      bytes ≡ first ++ m.writes w.lower.session → slice ≡ bytes → nothing ≡ ((length slice == 0) && is_none keys) → nothing ≡ true →
      (m.writes w.lower.session ≡ [] → m.write_keys w.lower.session ≡ None → session ≡ w.lower.session) →
      HasWritten m false (held stream v ds) (held stream (record w { lower = record w.lower { session = session } }) ds)
  unfolding is_written
  nothing_written v w bytes first slice keys session ds nothing same is_keys is_first is_bytes is_slice is e idle =
      let done : is_written m w.lower.session ≡ true = tells w.lower.session bytes first slice keys nothing is_keys is_first is_bytes is_slice is ∙ e in
      let none = neither (m.writes w.lower.session) (m.write_keys w.lower.session) done in
      subst (λ (x : Held t R). HasWritten m false (held stream x ds) (held stream (record w { lower = record w.lower { session = session } }) ds)) same
      (done, ap (λ (x : t.S). held stream (record w { lower = record w.lower { session = x } }) ds) (idle none.0 none.1))

  -- the keys of a write were taken where this space was the highest
  abbrev taken_at : SpaceId → Option (Keys t.H t.P) → View t → View t
  taken_at id keys s =
      record s { keys = keys_given s.keys (keys_behind m id keys s.lower.session); lower = session_wrote s.lower (session_behind m id keys s.lower.session) }

  taken_is_at : (s : View t) (keys given : Option (Keys t.H t.P)) (id : SpaceId) → s.keys.highest ≡ id → keys ≡ given → keys_taken m keys s ≡ taken_at id given s
  unfolding keys_taken
  taken_is_at s keys given id is_highest is_given = ap (λ (x : Option (Keys t.H t.P)). taken_at s.keys.highest x s) is_given ∙ ap (λ (x : SpaceId). taken_at x given s) is_highest

  -- where there were none, nothing changes
  none_taken : (s : View t) (id : SpaceId) → taken_at id None s ≡ s
  unfolding keys_given session_wrote
  none_taken s Initial = refl
  none_taken s Handshake = refl
  none_taken s Data = refl

  pub taken_none : (v : Held t R) (keys : Option (Keys t.H t.P)) → keys ≡ None → ideal stream v ≡ keys_taken m keys (ideal stream v)
  taken_none v keys none = sym (taken_is_at (ideal stream v) keys None v.keys.highest refl none ∙ none_taken (ideal stream v) v.keys.highest)

  -- the keys of the Handshake space
  pub taken_first : (v w : Held t R) (keys : Option (Keys t.H t.P)) (k : Keys t.H t.P) (given : SpaceKeys t.H t.P) (group : KeyGroup t.H t.P) → w ≡ v → w.keys.highest ≡ Initial → keys ≡ Some k →
      given ≡ new_keys m.seal_limit m.failure_limit k → group ≡ keys_given w.keys (HandshakeKeys given) → ideal stream (record w { keys = group }) ≡ keys_taken m keys (ideal stream v)
  unfolding session_wrote
  taken_first v w keys k given group same is_highest is_keys is_given is_group =
      let all : group ≡ keys_given w.keys (HandshakeKeys (new_keys m.seal_limit m.failure_limit k)) = is_group ∙ ap (λ (x : SpaceKeys t.H t.P). keys_given w.keys (HandshakeKeys x)) is_given in
      let taken : ideal stream (record w { keys = group }) ≡ taken_at Initial (Some k) (ideal stream w) = ap (λ (x : KeyGroup t.H t.P). ideal stream (record w { keys = x })) all in
      subst (λ (x : Held t R). ideal stream (record w { keys = group }) ≡ keys_taken m keys (ideal stream x)) same (taken ∙ sym (taken_is_at (ideal stream w) keys (Some k) Initial is_highest is_keys))

  -- the 1-RTT keys, with those of the next epoch
  pub taken_next : (v w : Held t R) (keys : Option (Keys t.H t.P)) (k : Keys t.H t.P) (found : Option (KeyPair t.P)) (next : KeyPair t.P) (session : t.S) (given : OneRttKeys t.H t.P) (group : KeyGroup t.H t.P) → w ≡ v →
      w.keys.highest ≡ Handshake → keys ≡ Some k → found ≡ m.next_keys w.lower.session → found ≡ Some next → session ≡ m.after_next w.lower.session → given ≡ new_ring m.seal_limit m.failure_limit k next →
      group ≡ keys_given w.keys (DataKeys given) → ideal stream (record w { keys = group; lower = record w.lower { session = session } }) ≡ keys_taken m keys (ideal stream v)
  unfolding session_wrote
  taken_next v w keys k found next session given group same is_highest is_keys is_found some after is_given is_group =
      let told : m.next_keys w.lower.session ≡ Some next = sym is_found ∙ some in
      let all : group ≡ keys_given w.keys (ring_with m k (m.next_keys w.lower.session)) =
      is_group ∙ ap (λ (x : OneRttKeys t.H t.P). keys_given w.keys (DataKeys x)) is_given ∙ ap (λ (x : Option (KeyPair t.P)). keys_given w.keys (ring_with m k x)) (sym told) in
      let taken : ideal stream (record w { keys = group; lower = record w.lower { session = session } }) ≡ taken_at Handshake (Some k) (ideal stream w) =
      λ i. ideal stream (record w { keys = all i; lower = record w.lower { session = after i } }) in
      subst (λ (x : Held t R). ideal stream (record w { keys = group; lower = record w.lower { session = session } }) ≡ keys_taken m keys (ideal stream x)) same
      (taken ∙ sym (taken_is_at (ideal stream w) keys (Some k) Handshake is_highest is_keys))

  -- none, where the session gives none of the next epoch
  pub taken_missing : (v w : Held t R) (keys : Option (Keys t.H t.P)) (k : Keys t.H t.P) (found : Option (KeyPair t.P)) (session : t.S) → w ≡ v → w.keys.highest ≡ Handshake → keys ≡ Some k →
      found ≡ m.next_keys w.lower.session → found ≡ None → session ≡ m.after_next w.lower.session → ideal stream (record w { lower = record w.lower { session = session } }) ≡ keys_taken m keys (ideal stream v)
  unfolding session_wrote keys_given
  taken_missing v w keys k found session same is_highest is_keys is_found none after =
      let told : m.next_keys w.lower.session ≡ None = sym is_found ∙ none in
      let all : w.keys ≡ keys_given w.keys (ring_with m k (m.next_keys w.lower.session)) = ap (λ (x : Option (KeyPair t.P)). keys_given w.keys (ring_with m k x)) (sym told) in
      let taken : ideal stream (record w { lower = record w.lower { session = session } }) ≡ taken_at Handshake (Some k) (ideal stream w) =
      λ i. ideal stream (record w { keys = all i; lower = record w.lower { session = after i } }) in
      subst (λ (x : Held t R). ideal stream (record w { lower = record w.lower { session = session } }) ≡ keys_taken m keys (ideal stream x)) same
      (taken ∙ sym (taken_is_at (ideal stream w) keys (Some k) Handshake is_highest is_keys))

  -- none behind the 1-RTT keys
  late_taken : (s : View t) (k : Keys t.H t.P) → taken_at Data (Some k) s ≡ s
  unfolding keys_given session_wrote
  late_taken s k = refl

  pub taken_late : (v w : Held t R) (keys : Option (Keys t.H t.P)) (k : Keys t.H t.P) → w ≡ v → w.keys.highest ≡ Data → keys ≡ Some k → ideal stream v ≡ keys_taken m keys (ideal stream v)
  taken_late v w keys k same is_highest is_keys =
      sym (taken_is_at (ideal stream v) keys (Some k) Data (ap (λ (x : Held t R). x.keys.highest) (sym same) ∙ is_highest) is_keys ∙ late_taken (ideal stream v) k)

  -- what the keys that were taken make of a view
  taken_is : (z w : View t) (keys given : Option (Keys t.H t.P)) → keys ≡ given → z ≡ keys_taken m keys w → z ≡ keys_taken m given w
  taken_is z w keys given same is = is ∙ ap (λ (x : Option (Keys t.H t.P)). keys_taken m x w) same

  -- the session wrote something, or gave keys
  pub something_written : (v w z : Held t R) (bytes first slice slice' : List ℕ) (keys : Option (Keys t.H t.P)) (session : t.S) (waiting : Waiting) (ds : List Did) (nothing : Bool) → w ≡ v →
      keys ≡ m.write_keys w.lower.session → first ≡ [] → bytes ≡ first ++ m.writes w.lower.session → slice ≡ bytes → nothing ≡ ((length slice == 0) && is_none keys) → nothing ≡ false →
      ((0 < length (m.writes w.lower.session)) ⊎ IsSome (m.write_keys w.lower.session) → m.left session < m.left w.lower.session) → session ≡ m.after_write w.lower.session → slice' ≡ bytes →
      waiting ≡ crypto_written w.waiting w.keys.highest slice' → ideal stream z ≡ keys_taken m keys (ideal stream (record w { waiting = waiting; lower = record w.lower { session = session } })) → m.left z.lower.session ≤ m.left session →
      HasWritten m true (held stream v ds) (held stream z ds)
  unfolding is_written write_after move_to state_move numbers_move keys_move life_move paths_move timers_move waiting_move setup_move lower_move deeds_move session_wrote keys_taken
  something_written v w z bytes first slice slice' keys session waiting ds nothing same is_keys is_first is_bytes is_slice is e falls after is_slice' is_waiting is_z left =
      let more : is_written m w.lower.session ≡ false = tells w.lower.session bytes first slice keys nothing is_keys is_first is_bytes is_slice is ∙ e in
      let less : m.left session < m.left w.lower.session = falls (either (m.writes w.lower.session) (m.write_keys w.lower.session) more) in
      let all : slice' ≡ m.writes w.lower.session = is_slice' ∙ is_bytes ∙ ap (λ (x : List ℕ). x ++ m.writes w.lower.session) is_first in
      let waits : waiting ≡ crypto_written w.waiting w.keys.highest (m.writes w.lower.session) = is_waiting ∙ ap (crypto_written w.waiting w.keys.highest) all in
      let given : ideal stream z ≡ keys_taken m (m.write_keys w.lower.session) (ideal stream (record w { waiting = waiting; lower = record w.lower { session = session } })) =
      taken_is (ideal stream z) (ideal stream (record w { waiting = waiting; lower = record w.lower { session = session } })) keys (m.write_keys w.lower.session) is_keys is_z in
      let behind : keys_taken m (m.write_keys w.lower.session) (ideal stream (record w { waiting = waiting; lower = record w.lower { session = session } })) ≡
      keys_taken m (m.write_keys w.lower.session) (ideal stream (record w { waiting = crypto_written w.waiting w.keys.highest (m.writes w.lower.session); lower = record w.lower { session = m.after_write w.lower.session } })) =
      λ i. keys_taken m (m.write_keys w.lower.session) (ideal stream (record w { waiting = waits i; lower = record w.lower { session = after i } })) in
      subst (λ (x : Held t R). HasWritten m true (held stream x ds) (held stream z ds)) same
      (more, (ap (λ (x : View t). at x ds) (given ∙ behind), omega (arith, less, left)))
