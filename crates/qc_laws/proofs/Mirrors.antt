-- Over a run the session, the 1-RTT keys and the numbers of 1-RTT packets go by the steps of a ledger.
use Rattle.std.proofs.Common.{◌≡◌, ℕ, ◌+◌, ◌≤◌, ◌<◌, ◌⊎◌, inl, inr, List, [], ◌∷◌, ◌++◌, length, refl, ap, sym, ◌∙◌, subst, Bool, true, false, Option, None, Ok, Err, IsSome, if◌then◌else◌, append_assoc, append-nil, arith}
use Rattle.std.specs.Prelude.{max}
use Rattle.qc_base.specs.declared.side.SpaceId.{SpaceId}
use Rattle.qc_base.specs.declared.side.SpaceId.TheVariants.{Initial, Handshake, «Data»}
use Rattle.qc_datagrams.specs.Steps as datagrams
use Rattle.qc_frame.specs.Frame.{FrameValue}
use Rattle.qc_header.specs.HeaderGrammar.{DatagramItem}
use Rattle.qc_header.specs.Piece.{Piece}
use Rattle.qc_header.specs.Pieces.{pieces_of}
use Rattle.qc_state.specs.declared.deeds.Did.{Did}
use Rattle.qc_state.specs.declared.deeds.Did.TheVariants as did
use Rattle.qc_state.specs.declared.form.Form.{Form}
use Rattle.qc_state.specs.declared.form.Form.TheVariants as form
use Rattle.qc_state.specs.declared.input.Input.{Input}
use Rattle.qc_state.specs.declared.input.Input.TheVariants as input
use Rattle.qc_state.specs.declared.keys.KeyGroup.{KeyGroup}
use Rattle.qc_state.specs.declared.keys.OneRttKeys.{OneRttKeys}
use Rattle.qc_state.specs.declared.life.Close.{Close}
use Rattle.qc_state.specs.declared.lower.Lower.{Lower}
use Rattle.qc_state.specs.declared.numbers.Numbers.{Numbers}
use Rattle.qc_state.specs.declared.setup.Fixed.{Fixed}
use Rattle.qc_state.specs.declared.trace.Step.{Step}
use Rattle.qc_state.specs.declared.waiting.Waiting.{Waiting}
use Rattle.qc_state.specs.Flight.{flown_packet}
use Rattle.qc_state.specs.Forms.{is_early, is_one_rtt, number_space}
use Rattle.qc_state.specs.Headline.{AcksKnown, AcksOnly, IsKept, deeds_of}
use Rattle.qc_state.specs.Keys.{epoch_in, epoch_with, has_keys_for, key_used, ring_used}
use Rattle.qc_state.specs.Life.{is_open}
use Rattle.qc_state.specs.Lower.{event_told, events_told, frames_sealed, ids_stepped, datagrams_stepped, packet_flown, streams_closed, streams_stepped}
use Rattle.qc_state.specs.Moves.{Ask, Call, Issue, MayMove, Move, Post, Seal, Shut, Take, deeds_move, keys_move, lower_move, move_to, numbers_move, setup_move, state_move, waiting_move, Finish, Spend}
use Rattle.qc_state.specs.Numbers.{next_number, number_used, received_number, used_in}
use Rattle.qc_state.specs.Receiving.{cut_of}
use Rattle.qc_state.specs.Run.{IsAllowed, IsStep, Run, began, called, close_after, datagram_limit, input_after, reported, step_after, time_of}
use Rattle.qc_state.specs.Sending.{Choice, packet_size, spent_after, told_sent}
use Rattle.qc_state.specs.Spaces.{is_space}
use Rattle.qc_state.specs.Types.{Types, Meaning}
use Rattle.qc_state.specs.View.{View, At}
use Rattle.qc_streams.specs.Waits as streams
use Rattle.qc_state.proofs.Expired.{holds_timeout}
use Rattle.qc_state.proofs.Telling.{open_rank}
use Rattle.qc_state.proofs.Transmitted.{IsSealable, transmit_told, untold_sending}
use Rattle.qc_state.proofs.Tried.{holds_tried}
use Rattle.qc_state.proofs.Updates.{holds_updated}
use Rattle.qc_laws.specs.MirrorLaws.{Accepts, Acknowledges, AllMayLedger, Calls, ComesWith, Discards, GivenTold, Gives, Goes, IsAmongPieces, Ledger, LedgerStep, MayLedger, Mirrors, Opens, Passes, RunMirrors, SealedTold, Seals, Takes, Updates, bound, given_told, ledger_after, sealed_told, told_here}
use Rattle.qc_laws.specs.UpdateLaws.{AreLast}
use Rattle.qc_laws.proofs.AcksAccepted.{Knows, knows_move, knows_packet}
use Rattle.qc_laws.proofs.AcksKnown.{KnownSince, only_more}
use Rattle.qc_laws.proofs.FieldsKept.{run_fields}
use Rattle.qc_laws.proofs.Receives.{IsPieceOf}
use Rattle.qc_laws.proofs.StreamCalls.{called_input}
use Rattle.qc_laws.proofs.StreamSteps.{last_of, same_since}
use Rattle.qc_laws.proofs.Ledgers.{given_append, goes_here, goes_next, goes_one, told_append}
use Rattle.qc_laws.proofs.LedgerMoves.{Follows, Led, datagram_follows, follows_here, follows_next, other_follows, sending_follows, timed_follows, update_follows, untold_unupdated}

module _ {t : Types} (m : Meaning t) (Comes : Piece → Type 0) where
  -- ---- a packet that is sealed

  used_next : (v : Numbers) (id : SpaceId) (n : ℕ) → is_space id «Data» ≡ false → next_number (number_used v id n) «Data» ≡ next_number v «Data»
  unfolding next_number number_used used_in
  used_next v Initial n h = refl
  used_next v Handshake n h = refl
  used_next v «Data» n h = absurd cc

  used_rx : (v : Numbers) (id : SpaceId) (n : ℕ) → received_number (number_used v id n) «Data» ≡ received_number v «Data»
  unfolding received_number number_used used_in
  used_rx v Initial n = refl
  used_rx v Handshake n = refl
  used_rx v «Data» n = refl

  flown_session : (l : Lower t.S) (id : SpaceId) (n time size : ℕ) (fs : List FrameValue) (b : Bool) → (if b then l else packet_flown l id n (flown_packet time size fs)).session ≡ l.session
  unfolding packet_flown
  flown_session l id n time size fs true = refl
  flown_session l id n time size fs false = refl

  some_keys : (v : KeyGroup t.H t.P) → has_keys_for v form.OneRtt ≡ true → IsSome v.«data»
  unfolding has_keys_for
  some_keys v h = h

  -- the next number doesn't fall
  all_next : (v : Numbers) (id : SpaceId) → next_number v «Data» ≤ next_number (number_used v id (next_number v id)) «Data»
  unfolding next_number number_used used_in
  all_next v Initial = omega arith
  all_next v Handshake = omega arith
  all_next v «Data» = omega arith

  none_told : (f : Form) (n epoch : ℕ) (fs : List FrameValue) → is_one_rtt f ≡ false → told_here (number_space f) n epoch (is_early f) fs ≡ []
  none_told form.Initial n epoch fs h = refl
  none_told form.Handshake n epoch fs h = refl
  none_told form.Early n epoch fs h = refl
  none_told form.OneRtt n epoch fs h = absurd cc

  used_data : (v : KeyGroup t.H t.P) (f : Form) (n : ℕ) → is_one_rtt f ≡ false → (key_used v f n).«data» ≡ v.«data»
  unfolding key_used
  used_data v form.Initial n h = refl
  used_data v form.Handshake n h = refl
  used_data v form.Early n h = refl
  used_data v form.OneRtt n h = absurd cc

  used_last : (v : KeyGroup t.H t.P) (f : Form) (n : ℕ) → (v.highest ≡ «Data») ⊎ (v.«data» ≡ None) → ((key_used v f n).highest ≡ «Data») ⊎ ((key_used v f n).«data» ≡ None)
  unfolding key_used ring_used
  used_last v form.Initial n l = l
  used_last v form.Handshake n l = l
  used_last v form.Early n l = l
  used_last v form.OneRtt n (inl high) = inl high
  used_last v form.OneRtt n (inr none) = inr (ap (λ (k : Option (OneRttKeys t.H t.P)). ring_used n k) none)

  -- what stands once a packet was taken and sealed
  record IsSealedHere (time : ℕ) (f : Form) (fs : List FrameValue) (a b : At t) : Type 0 where
    pub appended : b.did ≡ a.did ++ did.Sealed (number_space f) (next_number a.state.numbers (number_space f)) (epoch_in a.state.keys f) (is_early f) fs ∷ []
    pub session : b.state.lower.session ≡ a.state.lower.session
    pub keys : b.state.keys ≡ key_used a.state.keys f (next_number a.state.numbers (number_space f))
    pub numbers : b.state.numbers ≡ number_used a.state.numbers (number_space f) (next_number a.state.numbers (number_space f))
    pub kept : (k : ℕ) → IsKept «Data» b.state.waiting k → IsKept «Data» a.state.waiting k
    pub known : is_space «Data» (number_space f) ≡ true → AcksOnly (IsKept «Data» a.state.waiting) fs

  sealed_here_so : (time : ℕ) (f : Form) (fs : List FrameValue) (a : At t) → IsSealable time a.state f fs →
      IsSealedHere time f fs a (move_to (Seal time f (next_number a.state.numbers (number_space f)) (packet_size a.state f fs) fs) (move_to (Take (number_space f) fs) a))
  unfolding move_to state_move numbers_move keys_move lower_move deeds_move frames_sealed ids_stepped datagrams_stepped streams_stepped
  sealed_here_so time f fs a may =
      let n : ℕ = next_number a.state.numbers (number_space f) in
      let d : Did = did.Sealed (number_space f) n (epoch_in a.state.keys f) (is_early f) fs in
      let knows : Knows «Data» a (move_to (Seal time f n (packet_size a.state f fs) fs) (move_to (Take (number_space f) fs) a)) = knows_packet «Data» time f fs a may in
      let since : knows.since ≡ d ∷ [] = same_since a.did knows.since (d ∷ []) (sym knows.appended) in
      record {
        appended = refl;
        session = flown_session (frames_sealed fs a.state.lower) (number_space f) n time (packet_size a.state f fs) fs _;
        keys = refl;
        numbers = refl;
        kept = λ k h. subst (λ (ds : List Did). KnownSince «Data» (IsKept «Data» a.state.waiting) ds k) since (knows.kept k h);
        known = (subst (λ (ds : List Did). AcksKnown «Data» (IsKept «Data» a.state.waiting) ds) since knows.known).0;
      }

  -- a packet of another form
  seal_other : (time : ℕ) (f : Form) (fs : List FrameValue) (a b : At t) → is_one_rtt f ≡ false → IsSealedHere time f fs a b → Follows m Comes a b
  seal_other time f fs a b other h = record {
    since = did.Sealed (number_space f) (next_number a.state.numbers (number_space f)) (epoch_in a.state.keys f) (is_early f) fs ∷ [];
    appended = h.appended;
    given = [];
    told = λ now. refl;
    last = λ l. subst (λ (v : KeyGroup t.H t.P). (v.highest ≡ «Data») ⊎ (v.«data» ≡ None)) (sym h.keys) (used_last a.state.keys f (next_number a.state.numbers (number_space f)) l);
    led = λ e g l. record {
      end = e;
      goes = goes_here m Comes e;
      mirrors = record {
        session = g.session ∙ sym h.session;
        keys = g.keys ∙ sym (ap (λ (v : KeyGroup t.H t.P). v.«data») h.keys ∙ used_data a.state.keys f (next_number a.state.numbers (number_space f)) other);
        next = omega (arith, g.next, all_next a.state.numbers (number_space f), ap (λ (v : Numbers). next_number v «Data») h.numbers);
        rx = g.rx ∙ sym (ap (λ (v : Numbers). received_number v «Data») h.numbers ∙ used_rx a.state.numbers (number_space f) (next_number a.state.numbers (number_space f)));
        kept = λ k there. g.kept k (h.kept k there);
      };
      sent = sym (append-nil e.sent)
          ∙ ap (λ (x : List SealedTold). e.sent ++ (x ++ [])) (sym (none_told f (next_number a.state.numbers (number_space f)) (epoch_in a.state.keys f) fs other));
      given = sym (append-nil e.given);
    };
  }

  -- a 1-RTT packet
  used_behind : (v : Numbers) (n : ℕ) → next_number (number_used v «Data» n) «Data» ≡ n + 1
  unfolding next_number number_used used_in
  used_behind v n = refl

  seal_own : (time : ℕ) (fs : List FrameValue) (a b : At t) → has_keys_for a.state.keys form.OneRtt ≡ true → IsSealedHere time form.OneRtt fs a b → Follows m Comes a b
  unfolding epoch_in key_used
  seal_own time fs a b keyed h =
      let n : ℕ = next_number a.state.numbers «Data» in
      record {
        since = did.Sealed «Data» n (epoch_with a.state.keys.«data») false fs ∷ [];
        appended = h.appended;
        given = [];
        told = λ now. refl;
        last = λ l. subst (λ (v : KeyGroup t.H t.P). (v.highest ≡ «Data») ⊎ (v.«data» ≡ None)) (sym h.keys) (used_last a.state.keys form.OneRtt n l);
        led = λ e g l. record {
          end = ledger_after (Seals n fs) e;
          goes = goes_one m Comes (Seals n fs) e
              (g.next, subst (λ (k : Option (OneRttKeys t.H t.P)). IsSome k) (sym g.keys) (some_keys a.state.keys keyed), only_more (IsKept «Data» a.state.waiting) (λ k. k < bound e.opened) (λ k there. g.kept k there) fs (h.known refl));
          mirrors = record {
            session = g.session ∙ sym h.session;
            keys = ap (λ (k : Option (OneRttKeys t.H t.P)). ring_used n k) g.keys ∙ sym (ap (λ (v : KeyGroup t.H t.P). v.«data») h.keys);
            next = omega (arith, used_behind a.state.numbers n, ap (λ (v : Numbers). next_number v «Data») h.numbers);
            rx = g.rx ∙ sym (ap (λ (v : Numbers). received_number v «Data») h.numbers ∙ used_rx a.state.numbers «Data» n);
            kept = λ k there. g.kept k (h.kept k there);
          };
          sent = ap (λ (k : Option (OneRttKeys t.H t.P)). e.sent ++ (record { number = n; epoch = epoch_with k; frames = fs }) ∷ []) g.keys;
          given = sym (append-nil e.given);
        };
      }

  seal_follows : (time : ℕ) (f : Form) (fs : List FrameValue) (a : At t) → IsSealable time a.state f fs → Follows m Comes a (move_to (Seal time f (next_number a.state.numbers (number_space f)) (packet_size a.state f fs) fs) (move_to (Take (number_space f) fs) a))
  seal_follows time form.Initial fs a may = seal_other time form.Initial fs a _ refl (sealed_here_so time form.Initial fs a may)
  seal_follows time form.Handshake fs a may = seal_other time form.Handshake fs a _ refl (sealed_here_so time form.Handshake fs a may)
  seal_follows time form.Early fs a may = seal_other time form.Early fs a _ refl (sealed_here_so time form.Early fs a may)
  seal_follows time form.OneRtt fs a may = seal_own time fs a _ may.keyed (sealed_here_so time form.OneRtt fs a may)

  -- ---- inputs, steps and runs

  pub among_same : (p : Piece) (items : List DatagramItem) → IsPieceOf p items → IsAmongPieces p items
  among_same p (Ok q ∷ items) (inl is) = inl is
  among_same p (Ok q ∷ items) (inr among) = inr (among_same p items among)
  among_same p (Err fault ∷ items) h = absurd h
  among_same p [] h = absurd h

  called_follows : (x : streams.Step) (a : At t) → MayMove (Call x) a.state → Follows m Comes a (move_to (Call x) a)
  unfolding numbers_move keys_move lower_move deeds_move streams_stepped
  called_follows x a may = other_follows m Comes (Call x) a refl refl refl refl refl (λ now. refl) refl (knows_move «Data» (Call x) a may tt)

  shut_follows : (time : ℕ) (close : Close) (a : At t) (b : Bool) → is_open a.state.life.state ≡ b → Follows m Comes a (if b then move_to (Shut time close) a else a)
  unfolding numbers_move keys_move lower_move deeds_move streams_closed MayMove streams_stepped
  shut_follows time close a true is = other_follows m Comes (Shut time close) a refl refl refl refl refl (λ now. refl) refl (knows_move «Data» (Shut time close) a (open_rank a.state.life.state is) tt)
  shut_follows time close a false is = follows_here m Comes a

  input_follows : (i : Input) (choice : Choice) (a : At t) → IsAllowed m i choice a → ((p : Piece) → ComesWith a.state (i ∷ []) p → Comes p) → Follows m Comes a (input_after m i choice a)
  unfolding IsAllowed input_after close_after spent_after told_sent numbers_move keys_move lower_move deeds_move streams_stepped datagrams_stepped ids_stepped MayMove
  input_follows (input.Datagram time remote ecn bytes) choice a may come = datagram_follows m Comes (record { time = time; remote = remote; mark = ecn }) bytes a (λ p among. come p (inl (among_same p (cut_of a.state bytes) among)))
  input_follows (input.Timeout time) choice a may come = holds_timeout (Follows m Comes) (follows_here m Comes) (follows_next m Comes) (λ x h b may_be. timed_follows m Comes x h b may_be) m time a
  input_follows (input.Transmit time max) choice a may come =
      transmit_told m (Follows m Comes) (follows_here m Comes) (follows_next m Comes) (λ x r b h. sending_follows m Comes x (untold_sending x r) (untold_unupdated x r) b h)
      (λ f b. holds_tried m (Follows m Comes) (follows_here m Comes) (λ c h. update_follows m Comes c h) f b)
      (λ at size b. sending_follows m Comes (Spend _) tt tt b tt) (λ at batch b. sending_follows m Comes (Finish batch.total _) tt tt b tt) (λ at f fs b h. seal_follows at f fs b h) time max choice a may
  input_follows (input.Close time code reason) choice a may come = shut_follows time _ a (is_open a.state.life.state) refl
  input_follows (input.Ping time) choice a may come = other_follows m Comes (Ask a.state.keys.highest) a refl refl refl refl refl (λ now. refl) refl (knows_move «Data» (Ask a.state.keys.highest) a tt tt)
  input_follows (input.Update time) choice a may come = holds_updated m (Follows m Comes) (follows_here m Comes) (λ b h. update_follows m Comes b h) a
  input_follows (input.SendDatagram time body) choice a may come =
      let x : Move t = Post (datagrams.Sent (datagram_limit a.state) true body) in other_follows m Comes x a refl refl refl refl refl (λ now. refl) refl (knows_move «Data» x a refl tt)
  input_follows (input.RecvDatagram time) choice a may come = other_follows m Comes (Post datagrams.Taken) a refl refl refl refl refl (λ now. refl) refl (knows_move «Data» (Post datagrams.Taken) a refl tt)
  input_follows (input.Identifiers time given) choice a may come = other_follows m Comes (Issue time given) a refl refl refl refl refl (λ now. refl) refl (knows_move «Data» (Issue time given) a may tt)
  input_follows i choice a may come = called_input (Follows m Comes) (follows_here m Comes) (follows_next m Comes) (λ x b h. called_follows x b h) i choice.read a may

-- steps that may be made where some pieces come may be made where others do
module _ {t : Types} (m : Meaning t) (Comes Others : Piece → Type 0) (more : (p : Piece) → Comes p → Others p) where
  may_more : (x : LedgerStep t) (e : Ledger t) → MayLedger m Comes x e → MayLedger m Others x e
  may_more (Opens p number payload which fresh session) e h = (more p h.0, h.1, h.2, h.3, h.4, h.5)
  may_more (Calls session) e h = h
  may_more (Takes keys session) e h = h
  may_more (Passes next) e h = h
  may_more (Seals number fs) e h = h
  may_more (Updates fresh session) e h = h
  may_more (Accepts number) e h = h
  may_more (Acknowledges payload largest) e h = h
  may_more (Gives payload to body) e h = h
  may_more Discards e h = h

  all_more : (xs : List (LedgerStep t)) (e : Ledger t) → AllMayLedger m Comes xs e → AllMayLedger m Others xs e
  all_more [] e h = tt
  all_more (x ∷ xs) e h = (may_more x e h.0, all_more xs (ledger_after x e) h.1)

  goes_more : (e f : Ledger t) → Goes m Comes e f → Goes m Others e f
  goes_more e f g = record { steps = g.steps; may = all_more g.steps e g.may; leads = g.leads }

module _ {t : Types} (m : Meaning t) where
  -- one step
  record StepShown (is : List Input) (ds : List Did) (s s' : View t) : Type 0 where
    pub given : List GivenTold
    pub told : (now : Bool) → given_told now ds ≡ given
    pub last : AreLast s → AreLast s'
    pub led : (e : Ledger t) → Mirrors s e → AreLast s → Led m (ComesWith s is) s' e (sealed_told ds) given

  pub began_comes : (s : View t) (time : ℕ) (is : List Input) (p : Piece) → ComesWith (began s time).state is p → ComesWith s is p
  unfolding began state_move setup_move
  began_comes s time is p h = h

  began_mirrors : (s : View t) (time : ℕ) (e : Ledger t) → Mirrors s e → Mirrors (began s time).state e
  unfolding began state_move numbers_move keys_move lower_move waiting_move
  began_mirrors s time e h = record { session = h.session; keys = h.keys; next = h.next; rx = h.rx; kept = h.kept }

  step_shown : (k : ℕ) (s : View t) (i : Input) (x : Step) (s' : View t) → IsStep m k s i x s' → StepShown (i ∷ []) x.did s s'
  unfolding called began step_after reported state_move numbers_move keys_move lower_move waiting_move event_told events_told streams_stepped
  step_shown k s i x s' h =
      let a : At t = began s (time_of i) in
      let b : At t = input_after m i h.choice a in
      let f : Follows m (ComesWith s (i ∷ [])) a b = input_follows m (ComesWith s (i ∷ [])) i h.choice a h.allowed (λ p comes. began_comes s (time_of i) (i ∷ []) p comes) in
      let deeds : x.did ≡ f.since = h.deeds ∙ f.appended in
      let session : s'.lower.session ≡ b.state.lower.session = ap (λ (l : Lower t.S). l.session) h.lower in
      let keys : s'.keys ≡ b.state.keys = h.keys in
      let numbers : s'.numbers ≡ b.state.numbers = h.numbers in
      let waiting : s'.waiting ≡ b.state.waiting = h.waiting in
      record {
        given = f.given;
        told = λ now. ap (λ (ds : List Did). given_told now ds) deeds ∙ f.told now;
        last = λ l. subst (λ (v : KeyGroup t.H t.P). (v.highest ≡ «Data») ⊎ (v.«data» ≡ None)) (sym keys) (f.last l);
        led = λ e g l.
            let d : Led m (ComesWith s (i ∷ [])) b.state e (sealed_told f.since) f.given = f.led e (began_mirrors s (time_of i) e g) l in
            record {
              end = d.end;
              goes = d.goes;
              mirrors = record {
                session = d.mirrors.session ∙ sym session;
                keys = d.mirrors.keys ∙ sym (ap (λ (v : KeyGroup t.H t.P). v.«data») keys);
                next = subst (λ (v : Numbers). d.end.next ≤ next_number v «Data») (sym numbers) d.mirrors.next;
                rx = d.mirrors.rx ∙ sym (ap (λ (v : Numbers). received_number v «Data») numbers);
                kept = λ n there. d.mirrors.kept n (subst (λ (v : Waiting). IsKept «Data» v n) waiting there);
              };
              sent = d.sent ∙ ap (λ (ds : List Did). e.sent ++ sealed_told ds) (sym deeds);
              given = d.given;
            };
      }

  -- a datagram is cut alike as long as what is fixed stays
  pub comes_later : (s mid : View t) → mid.setup.fixed ≡ s.setup.fixed → (is : List Input) (p : Piece) → ComesWith mid is p → ComesWith s is p
  comes_later s mid same [] p h = absurd h
  comes_later s mid same (input.Datagram time remote ecn bytes ∷ is) p (inl among) =
      inl (subst (λ (f : Fixed). IsAmongPieces p (pieces_of (length f.local_cid) (f.version ∷ []) f.grease_quic_bit bytes)) same among)
  comes_later s mid same (input.Datagram time remote ecn bytes ∷ is) p (inr later) = inr (comes_later s mid same is p later)
  comes_later s mid same (i ∷ is) p h = comes_later s mid same is p h

  pub comes_first : (s : View t) (i : Input) (is : List Input) (p : Piece) → ComesWith s (i ∷ []) p → ComesWith s (i ∷ is) p
  comes_first s (input.Datagram time remote ecn bytes) is p (inl among) = inl among
  comes_first s (input.Datagram time remote ecn bytes) is p (inr none) = absurd none
  comes_first s i is p h = absurd h

  pub comes_behind : (s : View t) (i : Input) (is : List Input) (p : Piece) → ComesWith s is p → ComesWith s (i ∷ is) p
  comes_behind s (input.Datagram time remote ecn bytes) is p h = inr h
  comes_behind s i is p h = h

  run_shown : (k : ℕ) (s : View t) (is : List Input) (xs : List Step) (s' : View t) → Run m k s is xs s' → StepShown is (deeds_of xs) s s'
  unfolding Run
  run_shown k s [] [] s' r = record {
    given = [];
    told = λ now. refl;
    last = λ l. subst (λ (v : View t). AreLast v) (sym r) l;
    led = λ e h l. record { end = e; goes = goes_here m (ComesWith s []) e; mirrors = subst (λ (v : View t). Mirrors v e) (sym r) h; sent = sym (append-nil e.sent); given = sym (append-nil e.given) };
  }
  run_shown k s (i ∷ is) (x ∷ xs) s' r =
      let mid : View t = r.0 in
      let same : mid.setup.fixed ≡ s.setup.fixed = (run_fields m k s (i ∷ []) (x ∷ []) mid (mid, r.1, refl)).fixed in
      let g : StepShown (i ∷ []) x.did s mid = step_shown k s i x mid r.1 in
      let h : StepShown is (deeds_of xs) mid s' = run_shown (k + 1) mid is xs s' r.2 in
      record {
        given = g.given ++ h.given;
        told = λ now. given_append now x.did (deeds_of xs) ∙ (λ j. g.told now j ++ h.told (last_of «Data» now x.did) j);
        last = λ l. h.last (g.last l);
        led = λ e c l.
            let p : Led m (ComesWith s (i ∷ [])) mid e (sealed_told x.did) g.given = g.led e c l in
            let q : Led m (ComesWith mid is) s' p.end (sealed_told (deeds_of xs)) h.given = h.led p.end p.mirrors (g.last l) in
            record {
              end = q.end;
              goes = goes_next m (ComesWith s (i ∷ is)) e p.end q.end
                  (goes_more m (ComesWith s (i ∷ [])) (ComesWith s (i ∷ is)) (comes_first s i is) e p.end p.goes)
                  (goes_more m (ComesWith mid is) (ComesWith s (i ∷ is)) (λ piece later. comes_behind s i is piece (comes_later s mid same is piece later)) p.end q.end q.goes);
              mirrors = q.mirrors;
              sent = q.sent ∙ ap (λ (l : List SealedTold). l ++ sealed_told (deeds_of xs)) p.sent ∙ append_assoc e.sent (sealed_told x.did) (sealed_told (deeds_of xs)) ∙ ap (λ (l : List SealedTold). e.sent ++ l) (sym (told_append x.did (deeds_of xs)));
              given = q.given ∙ ap (λ (l : List GivenTold). l ++ h.given) p.given ∙ append_assoc e.given g.given h.given;
            };
      }
  run_shown k s [] (x ∷ xs) s' r = absurd r
  run_shown k s (i ∷ is) [] s' r = absurd r

  pub run_mirrors : (k : ℕ) (s : View t) (is : List Input) (xs : List Step) (s' : View t) → Run m k s is xs s' → AreLast s → RunMirrors m is xs s s'
  run_mirrors k s is xs s' r last e h =
      let shown : StepShown is (deeds_of xs) s s' = run_shown k s is xs s' r in
      let d : Led m (ComesWith s is) s' e (sealed_told (deeds_of xs)) shown.given = shown.led e h last in
      record {
        end = d.end;
        goes = d.goes;
        mirrors = d.mirrors;
        sent = d.sent;
        given = d.given ∙ ap (λ (l : List GivenTold). e.given ++ l) (sym (shown.told false));
      }
