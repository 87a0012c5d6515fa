-- Over a run the connection ids of both ends are the fold of their steps.
use Rattle.std.proofs.Common.{◌≡◌, ℕ, ◌+◌, List, [], ◌∷◌, ◌++◌, refl, sym, ap, ◌∙◌, subst, Bool, true, false, Option, Some, None, if◌then◌else◌, append_assoc, append-nil}
use Rattle.std.proofs.lemmas.List.Elements.{filter-append}
use Rattle.std.specs.Prelude.{◌==◌, filter}
use Rattle.qc_base.specs.declared.side.SpaceId.{SpaceId}
use Rattle.qc_cids.specs.Steps.{Step, NewCame, Switched, Renamed, Preferred, RetireCame, Asked, Given, Expired, TellSealed, RetireSealed, TellLost, RetireLost, after}
use Rattle.qc_cids.specs.declared.connection_ids.ConnectionIds.{ConnectionIds}
use Rattle.qc_flight.specs.Packets.{Entry}
use Rattle.qc_flight.specs.declared.sent.SentPacket.{SentPacket}
use Rattle.qc_frame.specs.Frame.{FrameValue}
use Rattle.qc_frame.specs.declared.frames.FrameOf.TheVariants as frames
use Rattle.qc_params.specs.declared.params.PreferredAddress.{PreferredAddress}
use Rattle.qc_recovery.specs.declared.calls.Fired.{Fired}
use Rattle.qc_recovery.specs.declared.calls.Fired.TheVariants as fired
use Rattle.qc_state.specs.declared.deeds.Did.{Did}
use Rattle.qc_state.specs.declared.deeds.Did.TheVariants as did
use Rattle.qc_state.specs.declared.deeds.Verdict.TheVariants as verdict
use Rattle.qc_state.specs.declared.deeds.Layer.TheVariants as layer
use Rattle.qc_state.specs.declared.form.Form.{Form}
use Rattle.qc_state.specs.declared.input.Input.{Input}
use Rattle.qc_state.specs.declared.input.Input.TheVariants as input
use Rattle.qc_state.specs.declared.lower.Lower.{Lower}
use Rattle.qc_state.specs.declared.trace.Step.{Step as TraceStep}
use Rattle.qc_state.specs.Flight.{flown_packet}
use Rattle.qc_state.specs.Forms.{number_space}
use Rattle.qc_state.specs.Headline.{deeds_of}
use Rattle.qc_state.specs.Ids.{active_limit, again_ids, fired_ids, learned_cids, lost_cid, lost_cids, lost_ids, preferred_steps, sealed_cids}
use Rattle.qc_state.specs.Keys.{epoch_in}
use Rattle.qc_state.specs.Forms.{is_early}
use Rattle.qc_state.specs.Lower.{bytes_came, datagrams_stepped, events_told, flight_dropped, frame_handed, frames_sealed as frames_taken, ids_stepped, limits_learned, packets_settled, session_read, session_wrote, streams_closed, streams_stepped, timer_fired}
use Rattle.qc_state.specs.Moves.{Ack, Begin, Call, Fire, Fix, Hand, Insert, IsTold, Issue, Learn, MayMove, Move, Outlive, Post, ReportStream, ReportStreams, Retire, Seal, Switch, Take, Tell, Want, deeds_move, keys_move, lower_move, move_to, state_move, Renew}
use Rattle.qc_state.specs.Numbers.{next_number}
use Rattle.qc_state.specs.Offers.{begun_ids, oldest_in, probe_ids, wants_sending}
use Rattle.qc_state.specs.Run.{IsAllowed, IsStep, Run, began, called, called_all, input_after, reported, time_of}
use Rattle.qc_state.specs.Run as run
use Rattle.qc_state.specs.Sending.{Choice, packet_size}
use Rattle.qc_state.specs.Spaces.{space_of}
use Rattle.qc_state.specs.Types.{Types, Meaning}
use Rattle.qc_state.specs.View.{View, At}
use Rattle.qc_state.specs.Waiting.{probe_spent}
use Rattle.qc_streams.specs.Waits as streams
use Rattle.qc_state.proofs.IdSteps.{cids_append}
use Rattle.qc_state.proofs.IdsSettled.{after_append}
use Rattle.qc_state.proofs.Probed.{begun_streams}
use Rattle.qc_state.proofs.Telling.{told_appends}
use Rattle.qc_state.proofs.Transmitted.{IsSealable}
use Rattle.qc_laws.specs.IdLaws.{AreCame, FoldsIds, given_by, given_to_ids, is_came, is_given, is_sealed}
use Rattle.qc_laws.specs.StreamsLaws.{frames_sealed}
use Rattle.qc_laws.proofs.IdsHold.{flown_ids}
use Rattle.qc_laws.proofs.KnownMoves.{IsElsewhere, IsKnownAbout, IsKnownMove, IsUncalled, known_about, known_other}
use Rattle.qc_laws.proofs.StreamCalls.{called_input, handed_told}
use Rattle.qc_laws.proofs.StreamsSealed.{frames_append}

-- ---- deeds, one list behind another

pub given_append : (ds es : List Did) → given_to_ids (ds ++ es) ≡ given_to_ids ds ++ given_to_ids es
given_append [] es = refl
given_append (did.Gave layer.Ids body ∷ ds) es = ap (λ (bodies : List (List ℕ)). body ∷ bodies) (given_append ds es)
given_append (did.Gave layer.Session body ∷ ds) es = given_append ds es
given_append (did.Gave layer.Recovery body ∷ ds) es = given_append ds es
given_append (did.Gave layer.Life body ∷ ds) es = given_append ds es
given_append (did.Gave layer.Store body ∷ ds) es = given_append ds es
given_append (did.Gave layer.Streams body ∷ ds) es = given_append ds es
given_append (did.Piece space number v ∷ ds) es = given_append ds es
given_append (did.Sealed space n epoch early fs ∷ ds) es = given_append ds es
given_append (did.Rose life ∷ ds) es = given_append ds es
given_append (did.Lost why ∷ ds) es = given_append ds es
given_append (did.Quiet why ∷ ds) es = given_append ds es

came_append : (bodies more : List (List ℕ)) (xs ys : List Step) → AreCame bodies xs → AreCame more ys → AreCame (bodies ++ more) (xs ++ ys)
came_append [] more xs ys h g = subst (λ (zs : List Step). AreCame more (zs ++ ys)) (sym h) g
came_append (body ∷ bodies) more xs ys h g = (h.0, h.1, h.2 ++ ys, h.3, h.4, ap (λ (zs : List Step). zs ++ ys) h.5, came_append bodies more h.2 ys h.6 g)

given_one : (i : Input) (is : List Input) → given_by (i ∷ is) ≡ given_by (i ∷ []) ++ given_by is
given_one (input.Identifiers time ids) is = refl
given_one _ is = refl

-- ---- what is said of steps and the deeds that they go with

record Are (steps : List Step) (ds : List Did) (given : List Step) : Type 0 where
  pub came : AreCame (given_to_ids ds) (filter is_came steps)
  pub issued : filter is_given steps ≡ given
  pub sealed : filter is_sealed steps ≡ sealed_cids (frames_sealed ds)

are_append : (xs ys : List Step) (ds es : List Did) (g h : List Step) → Are xs ds g → Are ys es h → Are (xs ++ ys) (ds ++ es) (g ++ h)
are_append xs ys ds es g h a b = record {
  came = subst (λ (bodies : List (List ℕ)). AreCame bodies (filter is_came (xs ++ ys))) (sym (given_append ds es))
      (subst (λ (zs : List Step). AreCame (given_to_ids ds ++ given_to_ids es) zs) (sym (filter-append is_came xs ys)) (came_append (given_to_ids ds) (given_to_ids es) (filter is_came xs) (filter is_came ys) a.came b.came));
  issued = filter-append is_given xs ys ∙ ap (λ (l : List Step). l ++ filter is_given ys) a.issued ∙ ap (λ (l : List Step). g ++ l) b.issued;
  sealed = filter-append is_sealed xs ys ∙ ap (λ (l : List Step). l ++ filter is_sealed ys) a.sealed ∙ ap (λ (l : List Step). sealed_cids (frames_sealed ds) ++ l) b.sealed
      ∙ sym (cids_append (frames_sealed ds) (frames_sealed es)) ∙ ap sealed_cids (sym (frames_append ds es));
}

-- ---- steps that are neither

abbrev IsApart : Step → Type 0
IsApart (NewCame new) = ⊥
IsApart (RetireCame limit n) = ⊥
IsApart (Given ids time) = ⊥
IsApart (TellSealed n) = ⊥
IsApart (RetireSealed n) = ⊥
IsApart _ = Unit {0}

abbrev AreApart : List Step → Type 0
AreApart [] = Unit {0}
AreApart (x ∷ xs) = IsApart x × AreApart xs

record NoneOf (xs : List Step) : Type 0 where
  pub came : filter is_came xs ≡ []
  pub issued : filter is_given xs ≡ []
  pub sealed : filter is_sealed xs ≡ []

none_of : (xs : List Step) → AreApart xs → NoneOf xs
none_of [] h = record { came = refl; issued = refl; sealed = refl }
none_of (NewCame new ∷ xs) h = absurd h.0
none_of (RetireCame limit n ∷ xs) h = absurd h.0
none_of (Given ids time ∷ xs) h = absurd h.0
none_of (TellSealed n ∷ xs) h = absurd h.0
none_of (RetireSealed n ∷ xs) h = absurd h.0
none_of (Switched ∷ xs) h = let more = none_of xs h.1 in record { came = more.came; issued = more.issued; sealed = more.sealed }
none_of (Renamed id ∷ xs) h = let more = none_of xs h.1 in record { came = more.came; issued = more.issued; sealed = more.sealed }
none_of (Preferred new ∷ xs) h = let more = none_of xs h.1 in record { came = more.came; issued = more.issued; sealed = more.sealed }
none_of (Asked n ∷ xs) h = let more = none_of xs h.1 in record { came = more.came; issued = more.issued; sealed = more.sealed }
none_of (Expired ∷ xs) h = let more = none_of xs h.1 in record { came = more.came; issued = more.issued; sealed = more.sealed }
none_of (TellLost c ∷ xs) h = let more = none_of xs h.1 in record { came = more.came; issued = more.issued; sealed = more.sealed }
none_of (RetireLost n ∷ xs) h = let more = none_of xs h.1 in record { came = more.came; issued = more.issued; sealed = more.sealed }

-- with deeds that give the ids nothing, and seal nothing
apart_are : (xs : List Step) (ds : List Did) → AreApart xs → given_to_ids ds ≡ [] → frames_sealed ds ≡ [] → Are xs ds []
unfolding sealed_cids
apart_are xs ds apart gave sealed =
    let none : NoneOf xs = none_of xs apart in
    record {
      came = subst (λ (bodies : List (List ℕ)). AreCame bodies (filter is_came xs)) (sym gave) none.came;
      issued = none.issued;
      sealed = none.sealed ∙ ap sealed_cids (sym sealed);
    }

apart_append : (xs ys : List Step) → AreApart xs → AreApart ys → AreApart (xs ++ ys)
apart_append [] ys h g = g
apart_append (x ∷ xs) ys h g = (h.0, apart_append xs ys h.1 g)

lost_one : (f : FrameValue) → AreApart (lost_cid f)
lost_one (frames.NewConnectionId new) = (tt, tt)
lost_one (frames.RetireConnectionId n) = (tt, tt)
lost_one _ = tt

lost_apart : (fs : List FrameValue) → AreApart (lost_cids fs)
unfolding lost_cids
lost_apart [] = tt
lost_apart (f ∷ fs) = apart_append (lost_cid f) (lost_cids fs) (lost_one f) (lost_apart fs)

packets_apart : (es : List Entry) → AreApart (lost_ids es)
unfolding lost_ids
packets_apart [] = tt
packets_apart (e ∷ es) = apart_append (lost_cids e.1.frames) (lost_ids es) (lost_apart e.1.frames) (packets_apart es)

fired_apart : (f : Fired) → AreApart (fired_ids f)
fired_apart (fired.Lost id lost) = packets_apart lost
fired_apart (fired.Probe id count) = tt
fired_apart fired.Nothing = tt

again_apart : (b : Bool) (o : Option SentPacket) → AreApart (if b then [] else again_ids o)
again_apart true o = tt
again_apart false None = tt
again_apart false (Some packet) = lost_apart packet.frames

preferred_apart : (o : Option PreferredAddress) → AreApart (preferred_steps o)
preferred_apart None = tt
preferred_apart (Some address) = (tt, tt)

-- ---- steps with which frames are sealed

record AllSealed (fs : List FrameValue) : Type 0 where
  pub came : filter is_came (sealed_cids fs) ≡ []
  pub issued : filter is_given (sealed_cids fs) ≡ []
  pub sealed : filter is_sealed (sealed_cids fs) ≡ sealed_cids fs

all_sealed : (fs : List FrameValue) → AllSealed fs
unfolding sealed_cids
all_sealed [] = record { came = refl; issued = refl; sealed = refl }
all_sealed (frames.NewConnectionId new ∷ fs) = let more = all_sealed fs in record { came = more.came; issued = more.issued; sealed = ap (λ (l : List Step). TellSealed new.sequence ∷ l) more.sealed }
all_sealed (frames.RetireConnectionId n ∷ fs) = let more = all_sealed fs in record { came = more.came; issued = more.issued; sealed = ap (λ (l : List Step). RetireSealed n ∷ l) more.sealed }
all_sealed (_ ∷ fs) = let more = all_sealed fs in record { came = more.came; issued = more.issued; sealed = more.sealed }

sealed_are : (space : SpaceId) (n epoch : ℕ) (early : Bool) (fs : List FrameValue) → Are (sealed_cids fs) (did.Sealed space n epoch early fs ∷ []) []
sealed_are space n epoch early fs =
    let all : AllSealed fs = all_sealed fs in
    record { came = all.came; issued = all.issued; sealed = all.sealed ∙ ap sealed_cids (sym (append-nil fs)) }

-- what is told by itself gives them nothing
told_are : (d : Did) → IsTold d → IsElsewhere d → Are [] (d ∷ []) []
told_are (did.Piece space number v) h k = apart_are [] (did.Piece space number v ∷ []) tt refl refl
told_are (did.Gave layer.Session body) h k = apart_are [] (did.Gave layer.Session body ∷ []) tt refl refl
told_are (did.Gave layer.Recovery body) h k = apart_are [] (did.Gave layer.Recovery body ∷ []) tt refl refl
told_are (did.Gave layer.Life body) h k = apart_are [] (did.Gave layer.Life body ∷ []) tt refl refl
told_are (did.Gave layer.Store body) h k = apart_are [] (did.Gave layer.Store body ∷ []) tt refl refl
told_are (did.Gave layer.Ids body) h k = absurd k
told_are (did.Gave layer.Streams body) h k = absurd k
told_are _ h k = absurd h

module _ {t : Types} where
  -- ---- moves

  begun_apart : (id : SpaceId) (opens : Bool) (s : View t) → AreApart (begun_ids id opens s)
  unfolding begun_ids probe_ids
  begun_apart id opens s = begun_by ((space_of s.waiting.spaces id).probes == 0)
    where
      begun_by : (b : Bool) → AreApart (if b then [] else probe_ids id (if opens then record s { waiting = probe_spent s.waiting id } else s))
      begun_by true = tt
      begun_by false = let v : View t = if opens then record s { waiting = probe_spent s.waiting id } else s in again_apart (wants_sending v id) (oldest_in v id)

  -- which of their steps a move is
  abbrev pub steps_by : Move t → View t → List Step
  steps_by (Begin id opens) s = begun_ids id opens s
  steps_by (Ack id n r) s = lost_ids r.lost
  steps_by (Fire r) s = fired_ids r.fired
  steps_by (Fix cid) s = Renamed cid ∷ []
  steps_by (Renew time cid token keys) s = Renamed cid ∷ []
  steps_by (Want time count) s = Asked count ∷ []
  steps_by (Insert new) s = NewCame new ∷ []
  steps_by Switch s = Switched ∷ []
  steps_by (Retire time n) s = RetireCame (active_limit s.setup.peer) n ∷ []
  steps_by (Issue time given) s = Given given time ∷ []
  steps_by Outlive s = Expired ∷ []
  steps_by (Learn p) s = learned_cids p
  steps_by _ s = []

  pub moved_ids : (m : Meaning t) (x : Move t) (s : View t) → IsKnownAbout m x s → (lower_move x s).ids ≡ after (steps_by x s) s.lower.ids
  unfolding lower_move ids_stepped streams_stepped datagrams_stepped bytes_came session_read session_wrote flight_dropped packets_settled timer_fired frame_handed streams_closed limits_learned after
  moved_ids m (Take id fs) s k = absurd k
  moved_ids m (Seal time form n size fs) s k = absurd k
  moved_ids m ReportStream s k = absurd k
  moved_ids m ReportStreams s k = absurd k
  moved_ids m (Begin id opens) s k = ap (λ (l : Lower t.S). l.ids) (begun_streams id opens s)
  moved_ids m _ s k = refl

  moved_are : (m : Meaning t) (x : Move t) (s : View t) → IsKnownMove m x s → IsUncalled x → MayMove x s → Are (steps_by x s) (deeds_move x s) []
  unfolding deeds_move MayMove sealed_cids
  moved_are m (Take id fs) s k u may = absurd k
  moved_are m (Seal time form n size fs) s k u may = absurd k
  moved_are m (Issue time given) s k u may = absurd u
  moved_are m (Call x) s k u may = absurd u
  moved_are m (Post x) s k u may = absurd u
  moved_are m (Begin id opens) s k u may = apart_are (begun_ids id opens s) [] (begun_apart id opens s) refl refl
  moved_are m (Ack id n r) s k u may = apart_are (lost_ids r.lost) [] (packets_apart r.lost) refl refl
  moved_are m (Fire r) s k u may = apart_are (fired_ids r.fired) [] (fired_apart r.fired) refl refl
  moved_are m (Fix cid) s k u may = apart_are (Renamed cid ∷ []) [] (tt, tt) refl refl
  moved_are m (Renew time cid token keys) s k u may = apart_are (Renamed cid ∷ []) (did.Piece None None verdict.RetryTaken ∷ []) (tt, tt) refl refl
  moved_are m (Want time count) s k u may = apart_are (Asked count ∷ []) [] (tt, tt) refl refl
  moved_are m Switch s k u may = apart_are (Switched ∷ []) [] (tt, tt) refl refl
  moved_are m Outlive s k u may = apart_are (Expired ∷ []) [] (tt, tt) refl refl
  moved_are m (Learn p) s k u may = apart_are (learned_cids p) [] (preferred_apart p.preferred_address) refl refl
  moved_are m (Insert new) s k u may = record { came = (frames.NewConnectionId new, NewCame new, [], refl, refl, refl, refl); issued = refl; sealed = refl }
  moved_are m (Retire time n) s k u may = record {
    came = (frames.RetireConnectionId n, RetireCame (active_limit s.setup.peer) n, [], refl, (active_limit s.setup.peer, refl), refl, refl);
    issued = refl;
    sealed = refl;
  }
  moved_are m (Tell d) s k u may = told_are d may k
  moved_are m (Hand frame) s k u may = handed_told (λ ds. Are [] ds []) frame (apart_are [] [] tt refl refl) (λ body. apart_are [] (did.Gave layer.Streams body ∷ []) tt refl refl)
  moved_are m x s k u may = apart_are [] (deeds_move x s) tt refl refl

  -- ---- from one moment of an input to another, where it is no call of the application's

  record Folds (given : List Step) (a b : At t) : Type 0 where
    pub since : List Did
    pub appended : b.did ≡ a.did ++ since
    pub steps : List Step
    pub leads : b.state.lower.ids ≡ after steps a.state.lower.ids
    pub are : Are steps since given

  folds_here : (a : At t) → Folds [] a a
  unfolding after
  folds_here a = record { since = []; appended = sym (append-nil a.did); steps = []; leads = refl; are = apart_are [] [] tt refl refl }

  folds_next : (a b c : At t) → Folds [] a b → Folds [] b c → Folds [] a c
  folds_next a b c g h = record {
    since = g.since ++ h.since;
    appended = h.appended ∙ ap (λ (x : List Did). x ++ h.since) g.appended ∙ append_assoc a.did g.since h.since;
    steps = g.steps ++ h.steps;
    leads = h.leads ∙ ap (λ (x : ConnectionIds). after h.steps x) g.leads ∙ sym (after_append g.steps h.steps a.state.lower.ids);
    are = are_append g.steps h.steps g.since h.since [] [] g.are h.are;
  }

  move_folds : (m : Meaning t) (x : Move t) (a : At t) → IsKnownMove m x a.state → IsUncalled x → MayMove x a.state → Folds [] a (move_to x a)
  unfolding move_to state_move
  move_folds m x a k u may = record {
    since = deeds_move x a.state;
    appended = told_appends a.did (deeds_move x a.state);
    steps = steps_by x a.state;
    leads = moved_ids m x a.state (known_about m x a.state k);
    are = moved_are m x a.state k u may;
  }

  -- a packet is taken and sealed
  packet_folds : (time : ℕ) (form : Form) (fs : List FrameValue) (a : At t) → IsSealable time a.state form fs →
      Folds [] a (move_to (Seal time form (next_number a.state.numbers (number_space form)) (packet_size a.state form fs) fs) (move_to (Take (number_space form) fs) a))
  unfolding move_to state_move lower_move keys_move deeds_move frames_taken ids_stepped streams_stepped datagrams_stepped
  packet_folds time form fs a may =
      let b : At t = move_to (Take (number_space form) fs) a in
      let n : ℕ = next_number a.state.numbers (number_space form) in
      record {
        since = did.Sealed (number_space form) n (epoch_in a.state.keys form) (is_early form) fs ∷ [];
        appended = refl;
        steps = sealed_cids fs;
        leads = flown_ids b.state.waiting.close_owed b.state.lower (number_space form) n (flown_packet time (packet_size a.state form fs) fs);
        are = sealed_are (number_space form) n (epoch_in a.state.keys form) (is_early form) fs;
      }

  -- a call of the streams leaves them
  call_folds : (x : streams.Step) (a : At t) → MayMove (Call x) a.state → Folds [] a (move_to (Call x) a)
  unfolding move_to state_move lower_move deeds_move streams_stepped after
  call_folds x a may = record { since = []; appended = sym (append-nil a.did); steps = []; leads = refl; are = apart_are [] [] tt refl refl }

  -- ---- inputs

  input_folds : (m : Meaning t) (i : Input) (choice : Choice) (a : At t) → IsAllowed m i choice a → Folds (given_by (i ∷ [])) a (input_after m i choice a)
  unfolding move_to state_move lower_move deeds_move datagrams_stepped ids_stepped input_after IsAllowed after sealed_cids
  input_folds m (input.Datagram time remote ecn bytes) choice a may = known_other m (Folds []) folds_here folds_next (move_folds m) packet_folds (input.Datagram time remote ecn bytes) choice a refl may
  input_folds m (input.Timeout time) choice a may = known_other m (Folds []) folds_here folds_next (move_folds m) packet_folds (input.Timeout time) choice a refl may
  input_folds m (input.Transmit time max) choice a may = known_other m (Folds []) folds_here folds_next (move_folds m) packet_folds (input.Transmit time max) choice a refl may
  input_folds m (input.Close time code reason) choice a may = known_other m (Folds []) folds_here folds_next (move_folds m) packet_folds (input.Close time code reason) choice a refl may
  input_folds m (input.Ping time) choice a may = known_other m (Folds []) folds_here folds_next (move_folds m) packet_folds (input.Ping time) choice a refl may
  input_folds m (input.Update time) choice a may = known_other m (Folds []) folds_here folds_next (move_folds m) packet_folds (input.Update time) choice a refl may
  input_folds m (input.SendDatagram time body) choice a may = record { since = []; appended = sym (append-nil a.did); steps = []; leads = refl; are = apart_are [] [] tt refl refl }
  input_folds m (input.RecvDatagram time) choice a may = record { since = []; appended = sym (append-nil a.did); steps = []; leads = refl; are = apart_are [] [] tt refl refl }
  input_folds m (input.Identifiers time given) choice a may = record {
    since = [];
    appended = sym (append-nil a.did);
    steps = Given given time ∷ [];
    leads = refl;
    are = record { came = refl; issued = refl; sealed = refl };
  }
  input_folds m i choice a may = called_input (Folds []) folds_here folds_next call_folds i choice.read a may

  -- ---- steps and runs

  record Over (is : List Input) (ds : List Did) (s s' : View t) : Type 0 where
    pub steps : List Step
    pub leads : s'.lower.ids ≡ after steps s.lower.ids
    pub are : Are steps ds (given_by is)

  step_over : (m : Meaning t) (k : ℕ) (s : View t) (i : Input) (x : TraceStep) (s' : View t) → IsStep m k s i x s' → Over (i ∷ []) x.did s s'
  unfolding called began run.step_after reported state_move lower_move events_told streams_stepped
  step_over m k s i x s' h =
      let f : Folds (given_by (i ∷ [])) (began s (time_of i)) (input_after m i h.choice (began s (time_of i))) = input_folds m i h.choice (began s (time_of i)) h.allowed in
      record {
        steps = f.steps;
        leads = ap (λ (l : Lower t.S). l.ids) h.lower ∙ f.leads;
        are = subst (λ (ds : List Did). Are f.steps ds (given_by (i ∷ []))) (sym (h.deeds ∙ f.appended)) f.are;
      }

  run_over : (m : Meaning t) (k : ℕ) (s : View t) (is : List Input) (xs : List TraceStep) (s' : View t) → Run m k s is xs s' → Over is (deeds_of xs) s s'
  unfolding Run after
  run_over m k s [] [] s' r = record { steps = []; leads = ap (λ (v : View t). v.lower.ids) r; are = apart_are [] [] tt refl refl }
  run_over m k s (i ∷ is) (x ∷ xs) s' r =
      let one : Over (i ∷ []) x.did s r.0 = step_over m k s i x r.0 r.1 in
      let more : Over is (deeds_of xs) r.0 s' = run_over m (k + 1) r.0 is xs s' r.2 in
      record {
        steps = one.steps ++ more.steps;
        leads = more.leads ∙ ap (λ (y : ConnectionIds). after more.steps y) one.leads ∙ sym (after_append one.steps more.steps s.lower.ids);
        are = subst (λ (g : List Step). Are (one.steps ++ more.steps) (x.did ++ deeds_of xs) g) (sym (given_one i is)) (are_append one.steps more.steps x.did (deeds_of xs) (given_by (i ∷ [])) (given_by is) one.are more.are);
      }
  run_over m k s [] (x ∷ xs) s' r = absurd r
  run_over m k s (i ∷ is) [] s' r = absurd r

  pub run_folds_ids : (m : Meaning t) (k : ℕ) (s : View t) (is : List Input) (xs : List TraceStep) (s' : View t) → Run m k s is xs s' → FoldsIds is xs s s'
  run_folds_ids m k s is xs s' r =
      let o : Over is (deeds_of xs) s s' = run_over m k s is xs s' r in
      record { steps = o.steps; leads = o.leads; came = o.are.came; given = o.are.issued; sealed = o.are.sealed }
