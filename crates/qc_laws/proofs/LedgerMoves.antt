-- A ledger of the 1-RTT keys, by packets that opened and by each other move but the sealing of a packet.
use Rattle.std.proofs.Common.{◌≡◌, ℕ, ◌≤◌, ◌<◌, ◌⊎◌, inl, inr, List, [], ◌∷◌, ◌++◌, refl, ap, sym, ◌∙◌, subst, Bool, true, false, Option, Some, None, append_assoc, append-nil, arith}
use Rattle.std.specs.Prelude.{is_some, option_map}
use Rattle.qc_base.specs.declared.side.LongType.TheVariants as long
use Rattle.qc_base.specs.declared.side.SpaceId.{SpaceId}
use Rattle.qc_base.specs.declared.side.SpaceId.TheVariants.{Initial, Handshake, «Data»}
use Rattle.qc_header.specs.Piece.{Piece, space_of}
use Rattle.qc_header.specs.declared.protected.ProtectedHeader.{ProtectedHeader}
use Rattle.qc_header.specs.declared.protected.ProtectedHeader.TheVariants as protected
use Rattle.qc_packet.specs.OpenedPacket.{is_unanswered}
use Rattle.qc_rings.specs.declared.which.Which.{Which}
use Rattle.qc_rings.specs.declared.which.Which.TheVariants.{Current, Next, Previous}
use Rattle.qc_state.specs.declared.coming.Coming.{Coming}
use Rattle.qc_state.specs.declared.deeds.Did.{Did}
use Rattle.qc_state.specs.declared.deeds.Did.TheVariants as did
use Rattle.qc_state.specs.declared.deeds.Verdict.{Verdict}
use Rattle.qc_state.specs.declared.keys.Fresh.{Fresh}
use Rattle.qc_state.specs.declared.keys.OneRttKeys.{OneRttKeys}
use Rattle.qc_state.specs.declared.life.Life.{Life}
use Rattle.qc_state.specs.declared.lower.Lower.{Lower}
use Rattle.qc_state.specs.declared.numbers.Numbers.{Numbers}
use Rattle.qc_state.specs.declared.opening.Opening.TheVariants.{Opened}
use Rattle.qc_state.specs.Draws.{word}
use Rattle.qc_state.specs.Headline.{IsKept, KnownBehind, accepted_in, accepted_number}
use Rattle.qc_state.specs.Keys.{failure_counted, fresh_for, key_discarded, key_opened, key_updated, opening_key, plain_keys, ring_discarded, ring_may_update, ring_of, ring_opened, ring_updated, unmasking_key}
use Rattle.qc_state.specs.Life.{is_over}
use Rattle.qc_state.specs.Lower.{ids_stepped, limits_learned, streams_closed, streams_stepped, timer_fired, datagrams_stepped}
use Rattle.qc_state.specs.Moves.{Accept, Ack, Begin, Call, Come, Discard, Enter, Fail, Fire, Forget, Hand, Insert, Learn, MayMove, Move, Post, Read, ReportStream, ReportStreams, Retire, Seal, Skip, Take, Tell, Unseal, Update, Write, deeds_move, keys_move, lower_move, move_to, numbers_move, state_move, waiting_move, Renew}
use Rattle.qc_state.specs.Numbers.{next_number, number_skipped, received_number, used_in}
use Rattle.qc_state.specs.Offers.{packet_begun}
use Rattle.qc_state.specs.Opening.{opened_at, opened_form, opened_in, opening_of}
use Rattle.qc_state.specs.Receiving.{cut_of, datagram_after}
use Rattle.qc_state.specs.Spaces.{is_space}
use Rattle.qc_state.specs.Types.{Types, Meaning}
use Rattle.qc_state.specs.Updating.{fresh_by, fresh_now, session_by, unsealed_after}
use Rattle.qc_state.specs.Verdicts.{verdict_of}
use Rattle.qc_state.specs.View.{View, At, at}
use Rattle.qc_state.proofs.Expired.{IsTimed}
use Rattle.qc_state.proofs.KeySteps.{discarded_moves, opened_moves, still_no_ring, updated_moves}
use Rattle.qc_state.proofs.OpenPackets.{holds_packet, packet_beside, packet_received, unsealed_life}
use Rattle.qc_state.proofs.PacketMoves.{OpenPacket, in_packet_piece}
use Rattle.qc_state.proofs.Probed.{begun_streams}
use Rattle.qc_state.proofs.ReceivedMoves.{IsOutside, outside_received, piece_received}
use Rattle.qc_state.proofs.Telling.{told_appends}
use Rattle.qc_state.proofs.Transmitted.{IsSending, IsUntold}
use Rattle.qc_state.proofs.WhichOpened.{IsNamed, opened_named}
use Rattle.qc_laws.specs.MirrorLaws.{Discards, GivenTold, Goes, IsIn, Ledger, LedgerStep, MayLedger, Mirrors, Opens, OpensPiece, SealedTold, Updates, bound, fresh_of, given_told, ledger_after, sealed_told}
use Rattle.qc_laws.specs.PieceLaws.{TellsPiece, gifts_by}
use Rattle.qc_laws.specs.UpdateLaws.{AreLast, waits_for_answer}
use Rattle.qc_laws.proofs.AcksAccepted.{Knows, knows_here, knows_move, knows_next, received_knows, sending_knows, timed_knows}
use Rattle.qc_laws.proofs.AcksKnown.{KnownSince}
use Rattle.qc_laws.proofs.PieceLaws.{opened_tells}
use Rattle.qc_laws.proofs.Receives.{IsOpened, IsPieceOf, datagram_holds}
use Rattle.qc_laws.proofs.StreamSteps.{last_of, same_since}
use Rattle.qc_laws.proofs.UpdatesAbove.{Above, opened_above}
use Rattle.qc_laws.proofs.Ledgers.{Behind, Inside, IsFor, IsStill, Shows, accepted_same, ack_inside, bound_last, bound_more, forget_still, given_append, goes_here, goes_next, goes_one, in_last, inside_here, inside_next, move_inside, none_known, read_inside, still_last, still_shows, told_append, told_still, unpieced_known, unread_accepts, unread_unaccepted, renew_still}

-- a move that is no update of this end's
abbrev pub IsUnupdated : {t : Types} → Move t → Type 0
IsUnupdated (Update fresh session) = ⊥
IsUnupdated _ = Unit {0}

pub untold_unupdated : {t : Types} (x : Move t) → IsUntold x → IsUnupdated x
untold_unupdated (Update fresh session) h = absurd h
untold_unupdated _ h = tt

module _ {t : Types} (m : Meaning t) (Comes : Piece → Type 0) where
  -- ---- from one moment to another

  -- steps lead from a ledger to one that shows this view, with which this was sealed and given
  pub record Led (s : View t) (e : Ledger t) (told : List SealedTold) (gave : List GivenTold) : Type 0 where
    pub end : Ledger t
    pub goes : Goes m Comes e end
    pub mirrors : Mirrors s end
    pub sent : end.sent ≡ e.sent ++ told
    pub given : end.given ≡ e.given ++ gave

  pub record Follows (a b : At t) : Type 0 where
    pub since : List Did
    pub appended : b.did ≡ a.did ++ since
    pub given : List GivenTold
    pub told : (now : Bool) → given_told now since ≡ given
    pub last : AreLast a.state → AreLast b.state
    pub led : (e : Ledger t) → Mirrors a.state e → AreLast a.state → Led b.state e (sealed_told since) given

  pub follows_here : (a : At t) → Follows a a
  follows_here a = record {
    since = [];
    appended = sym (append-nil a.did);
    given = [];
    told = λ now. refl;
    last = λ l. l;
    led = λ e h l. record { end = e; goes = goes_here m Comes e; mirrors = h; sent = sym (append-nil e.sent); given = sym (append-nil e.given) };
  }

  pub follows_next : (a b c : At t) → Follows a b → Follows b c → Follows a c
  follows_next a b c g h = record {
    since = g.since ++ h.since;
    appended = h.appended ∙ ap (λ (x : List Did). x ++ h.since) g.appended ∙ append_assoc a.did g.since h.since;
    given = g.given ++ h.given;
    told = λ now. given_append now g.since h.since ∙ (λ i. g.told now i ++ h.told (last_of «Data» now g.since) i);
    last = λ l. h.last (g.last l);
    led = λ e k l.
        let p : Led b.state e (sealed_told g.since) g.given = g.led e k l in
        let q : Led c.state p.end (sealed_told h.since) h.given = h.led p.end p.mirrors (g.last l) in
        record {
          end = q.end;
          goes = goes_next m Comes e p.end q.end p.goes q.goes;
          mirrors = q.mirrors;
          sent = q.sent ∙ ap (λ (x : List SealedTold). x ++ sealed_told h.since) p.sent ∙ append_assoc e.sent (sealed_told g.since) (sealed_told h.since) ∙ ap (λ (x : List SealedTold). e.sent ++ x) (sym (told_append g.since h.since));
          given = q.given ∙ ap (λ (x : List GivenTold). x ++ h.given) p.given ∙ append_assoc e.given g.given h.given;
        };
  }

  of_shows : (s : View t) (e : Ledger t) → Shows m Comes s e → ((n : ℕ) → IsKept «Data» s.waiting n → n < bound e.opened) → Mirrors s e
  of_shows s e h kept = record { session = h.session; keys = h.keys; next = h.next; rx = h.rx; kept = kept }

  to_shows : (s : View t) (e : Ledger t) → Mirrors s e → Shows m Comes s e
  to_shows s e h = record { session = h.session; keys = h.keys; next = h.next; rx = h.rx }

  -- a move that leaves what a ledger keeps, gives no frame, and accepts no packet
  still_follows : (x : Move t) (a : At t) → IsStill m Comes x a.state → ((now : Bool) → given_told now (deeds_move x a.state) ≡ []) → accepted_in «Data» (deeds_move x a.state) ≡ [] → Knows «Data» a (move_to x a) → Follows a (move_to x a)
  unfolding move_to deeds_move
  still_follows x a still none unaccepted knows =
      let appended : (move_to x a).did ≡ a.did ++ deeds_move x a.state = told_appends a.did (deeds_move x a.state) in
      let since : knows.since ≡ deeds_move x a.state = same_since a.did knows.since (deeds_move x a.state) (sym knows.appended ∙ appended) in
      record {
        since = deeds_move x a.state;
        appended = appended;
        given = [];
        told = none;
        last = λ l. still_last m Comes x a still l;
        led = λ e h l. record {
          end = e;
          goes = goes_here m Comes e;
          mirrors = of_shows (move_to x a).state e (still_shows m Comes x a e still (to_shows a.state e h))
              (λ n k. h.kept n (none_known «Data» (IsKept «Data» a.state.waiting) (deeds_move x a.state) n unaccepted (subst (λ (ds : List Did). KnownSince «Data» (IsKept «Data» a.state.waiting) ds n) since (knows.kept n k))));
          sent = sym (append-nil e.sent) ∙ ap (λ (l : List SealedTold). e.sent ++ l) (sym still.unsealed);
          given = sym (append-nil e.given);
        };
      }

  -- ---- a packet that opened

  -- a 1-RTT packet's opening is by these of the keys
  data_opening : (s : View t) (p : Piece) (source token : List ℕ) (spin : Bool) (which : Option Which) (number : ℕ) (payload : List ℕ) → space_of p.header ≡ Some «Data» → opening_of m s p ≡ Opened source token spin which number payload →
      opened_in m.mask m.opening (option_map (λ (k : OneRttKeys t.H t.P). k.header.remote) s.keys.«data») None (option_map (λ (k : OneRttKeys t.H t.P). k.ring) s.keys.«data») (received_number s.numbers «Data») p ≡ Opened source token spin which number payload
  unfolding opening_of unmasking_key opening_key plain_keys ring_of
  data_opening s p source token spin which number payload space opens = by_header p.header refl space opens
    where
      by_header : (h : ProtectedHeader) → p.header ≡ h → space_of h ≡ Some «Data» → opened_at m s (opened_form h) p ≡ Opened source token spin which number payload →
          opened_in m.mask m.opening (option_map (λ (k : OneRttKeys t.H t.P). k.header.remote) s.keys.«data») None (option_map (λ (k : OneRttKeys t.H t.P). k.ring) s.keys.«data») (received_number s.numbers «Data») p ≡ Opened source token spin which number payload
      by_header (protected.Initial dst src token_start token_len version) is space opens = absurd cc
      by_header (protected.Long long.Handshake dst src version) is space opens = absurd cc
      by_header (protected.Long long.ZeroRtt dst src version) is space opens = absurd cc
      by_header (protected.Retry dst src version) is space opens = absurd cc
      by_header (protected.Short spin dst) is space opens = opens
      by_header (protected.VersionNegotiate random src dst) is space opens = absurd cc

  -- what the ring takes with it, and the session behind
  fresh_same : (which : Which) (s : View t) → fresh_by m which s ≡ fresh_of m which s.keys.«data» s.lower.session
  unfolding fresh_now
  fresh_same Next s = refl
  fresh_same Current s = refl
  fresh_same Previous s = refl

  -- whether the last update of the peer's is unanswered, of the keys and of their ring
  waits_by : (k l : Option (OneRttKeys t.H t.P)) → k ≡ l → is_unanswered (option_map (λ (o : OneRttKeys t.H t.P). o.ring) l) ≡ false → waits_for_answer k ≡ false
  waits_by None l is h = refl
  waits_by (Some k) l is h = ap (λ (o : Option (OneRttKeys t.H t.P)). is_unanswered (option_map (λ (x : OneRttKeys t.H t.P). x.ring) o)) is ∙ h

  -- its own step of the ring
  own_step : (coming : Coming) (p : Piece) → Comes p → (o : OpenPacket) (a : At t) → IsOpened m coming a.state p o → (which : Which) → o.which ≡ Some which → o.space ≡ «Data» → (e : Ledger t) → Shows m Comes a.state e →
      (x : LedgerStep t) × MayLedger m Comes x e × Shows m Comes (unsealed_after m o.coming.time o.which o.number a).state (ledger_after x e) × (ledger_after x e ≡ record e { keys = (ledger_after x e).keys; session = (ledger_after x e).session; opened = e.opened ++ o.number ∷ []; read = e.read ++ o.payload ∷ [] })
  unfolding ring_of move_to state_move numbers_move keys_move lower_move key_opened
  own_step coming p comes o a is which named late_space e s =
      let fresh : Option (Fresh t.P) = fresh_of m which e.keys e.session in
      let session : t.S = session_by m which e.session in
      let step : LedgerStep t = Opens p o.number o.payload which fresh session in
      let opens : opened_in m.mask m.opening (option_map (λ (k : OneRttKeys t.H t.P). k.header.remote) a.state.keys.«data») None (option_map (λ (k : OneRttKeys t.H t.P). k.ring) a.state.keys.«data») (received_number a.state.numbers «Data») p ≡ Opened o.source o.token o.spin (Some which) o.number o.payload =
      data_opening a.state p o.source o.token o.spin (Some which) o.number o.payload (is.form ∙ ap (λ (x : SpaceId). Some x) late_space) (is.opened ∙ ap (λ (w : Option Which). Opened o.source o.token o.spin w o.number o.payload) named) in
      let opened : OpensPiece m e p o.number o.payload which = (
        o.source,
        o.token,
        o.spin,
        subst (λ (n : ℕ). opened_in m.mask m.opening (option_map (λ (k : OneRttKeys t.H t.P). k.header.remote) e.keys) None (option_map (λ (k : OneRttKeys t.H t.P). k.ring) e.keys) n p ≡ Opened o.source o.token o.spin (Some which) o.number o.payload) (sym s.rx)
            (subst (λ (keys : Option (OneRttKeys t.H t.P)). opened_in m.mask m.opening (option_map (λ (k : OneRttKeys t.H t.P). k.header.remote) keys) None (option_map (λ (k : OneRttKeys t.H t.P). k.ring) keys) (received_number a.state.numbers «Data») p ≡ Opened o.source o.token o.spin (Some which) o.number o.payload) (sym s.keys) opens),
      ) in
      let above : which ≡ Next → e.rx < o.number =
      λ next. subst (λ (n : ℕ). n < o.number) (sym s.rx) (subst (Above (received_number a.state.numbers «Data»)) opens
      (opened_above m.mask m.opening (option_map (λ (k : OneRttKeys t.H t.P). k.ring) a.state.keys.«data») (received_number a.state.numbers «Data») p (option_map (λ (k : OneRttKeys t.H t.P). k.header.remote) a.state.keys.«data»)) (ap (λ (w : Which). Some w) next)) in
      (step, (comes, opened, refl, refl, answered, above), shows_so, refl)
    where
      answered : which ≡ Next → waits_for_answer e.keys ≡ false
      answered next =
          let short : IsNamed (is_space «Data» o.space) (ring_of a.state.keys) o.which = opened_named m a.state p o.space o.source o.token o.spin o.which o.number o.payload is.form is.opened in
          waits_by e.keys a.state.keys.«data» s.keys (short.answered (named ∙ ap (λ (w : Which). Some w) next))

      shows_so : Shows m Comes (unsealed_after m o.coming.time o.which o.number a).state (ledger_after (Opens p o.number o.payload which (fresh_of m which e.keys e.session) (session_by m which e.session)) e)
      shows_so =
          subst (λ (w : Option Which). Shows m Comes (unsealed_after m o.coming.time w o.number a).state (ledger_after (Opens p o.number o.payload which (fresh_of m which e.keys e.session) (session_by m which e.session)) e)) (sym named)
          (record {
            session = ap (λ (c : t.S). session_by m which c) s.session;
            keys = (λ i. ring_opened which o.number (fresh_of m which (s.keys i) (s.session i)) (s.keys i)) ∙ ap (λ (f : Option (Fresh t.P)). ring_opened which o.number f a.state.keys.«data») (sym (fresh_same which a.state));
            next = s.next;
            rx = s.rx;
          })

  own_last : (time : ℕ) (which : Option Which) (number : ℕ) (a : At t) → AreLast a.state → AreLast (unsealed_after m time which number a).state
  unfolding move_to state_move keys_move
  own_last time None number a last = last
  own_last time (Some which) number a (inl high) = inl ((opened_moves a.state.keys which number (fresh_by m which a.state)).highest ∙ high)
  own_last time (Some which) number a (inr none) = inr (still_no_ring a.state.keys (key_opened a.state.keys which number (fresh_by m which a.state)) (opened_moves a.state.keys which number (fresh_by m which a.state)) none)

  own_did : (time : ℕ) (which : Option Which) (number : ℕ) (a : At t) → (unsealed_after m time which number a).did ≡ a.did
  unfolding move_to deeds_move
  own_did time None number a = refl
  own_did time (Some which) number a = refl

  packet_knows : (o : OpenPacket) (a : At t) → is_over a.state.life.state ≡ false → Knows «Data» a (packet_received m o a)
  packet_knows o a lively =
      holds_packet m o (Knows «Data») (knows_here «Data») (knows_next «Data») (λ x c h may. knows_move «Data» x c may (received_knows x c.state (piece_received x (in_packet_piece m o x c.state h)))) a lively

  -- it makes its own step, where it is a 1-RTT packet, and then those within
  packet_follows : (coming : Coming) (p : Piece) → Comes p → (o : OpenPacket) (a : At t) → IsOpened m coming a.state p o → Follows a (packet_received m o a)
  packet_follows coming p comes o a is = record {
    since = w.since;
    appended = appended;
    given = given_told now w.since;
    told = λ x. ap (λ (ds : List Did). given_told x ds) first ∙ ap (λ (ds : List Did). given_told now ds) (sym first);
    last = λ l. w.last (own_last o.coming.time o.which o.number a l);
    led = λ e h l. by_which o.which refl e h l;
  }
    where
      now : Bool
      now = is_space «Data» o.space

      plain : OpenPacket
      plain = record o { which = None }

      b : At t
      b = unsealed_after m o.coming.time o.which o.number a

      c : At t
      c = packet_received m plain b

      w : Inside m Comes plain b c
      w =
          packet_beside m plain (Inside m Comes plain) (inside_here m Comes plain) (inside_next m Comes plain) (λ x d h beside may. move_inside m Comes plain x d refl h beside may) (λ x bytes d ready. read_inside m Comes plain x bytes d)
          (λ ack d among. ack_inside m Comes plain ack d among) b (ap (λ (l : Life). is_over l.state) (unsealed_life m o.coming.time o.number o.which a) ∙ is.lively)

      appended : c.did ≡ a.did ++ w.since
      appended = w.appended ∙ ap (λ (ds : List Did). ds ++ w.since) (own_did o.coming.time o.which o.number a)

      v : Verdict
      v = verdict_of a.state o.space o.source o.token o.number

      told : TellsPiece (did.Piece (Some o.space) (Some o.number) v)
          (gifts_by m o.coming o.space o.spin o.source o.number o.payload v (unsealed_after m o.coming.time o.which o.number (at a.state [])).state) a c
      told = opened_tells m o.coming o.space o.source o.token o.spin o.which o.number o.payload a

      first : w.since ≡ did.Piece (Some o.space) (Some o.number) v ∷ told.others
      first = same_since a.did w.since (did.Piece (Some o.space) (Some o.number) v ∷ told.others) (sym appended ∙ told.appended)

      named : IsNamed now (ring_of a.state.keys) o.which
      named = opened_named m a.state p o.space o.source o.token o.spin o.which o.number o.payload is.form is.opened

      knows : Knows «Data» a c
      knows = packet_knows o a is.lively

      -- a number that is kept behind it was kept before, or is its own
      kept_by : (n : ℕ) → IsKept «Data» c.state.waiting n → ((now ≡ true) × (n ≡ o.number)) ⊎ IsKept «Data» a.state.waiting n
      kept_by n k =
          let since : knows.since ≡ did.Piece (Some o.space) (Some o.number) v ∷ told.others = same_since a.did knows.since (did.Piece (Some o.space) (Some o.number) v ∷ told.others) (sym knows.appended ∙ told.appended) in
          let known : KnownSince «Data» (IsKept «Data» a.state.waiting) (did.Piece (Some o.space) (Some o.number) v ∷ told.others) n = subst (λ (ds : List Did). KnownSince «Data» (IsKept «Data» a.state.waiting) ds n) since (knows.kept n k) in
          by_known (unpieced_known «Data» (KnownBehind «Data» (IsKept «Data» a.state.waiting) (did.Piece (Some o.space) (Some o.number) v)) told.others n told.one known)
        where
          by_known : (accepted_number «Data» (Some o.space) (Some o.number) v ≡ Some n) ⊎ IsKept «Data» a.state.waiting n → ((now ≡ true) × (n ≡ o.number)) ⊎ IsKept «Data» a.state.waiting n
          by_known (inl number) = inl (accepted_same o.space o.number n v number)
          by_known (inr there) = inr there

      data_space : (id : SpaceId) → is_space «Data» id ≡ true → id ≡ «Data»
      data_space Initial h = absurd cc
      data_space Handshake h = absurd cc
      data_space «Data» h = refl

      -- outside of 1-RTT
      early : o.which ≡ None → (e : Ledger t) → Mirrors a.state e → AreLast a.state → Led c.state e (sealed_told w.since) (given_told now w.since)
      early none e h l =
          let other : now ≡ false = sym named.named ∙ ap (λ (x : Option Which). is_some x) none in
          let shows : Shows m Comes b.state e = subst (λ (x : Option Which). Shows m Comes (unsealed_after m o.coming.time x o.number a).state e) (sym none) (to_shows a.state e h) in
          let behind : Behind m Comes c.state e (given_told now w.since) = w.behind e shows (own_last o.coming.time o.which o.number a l) (λ d. absurd (let so : now ≡ true = d in cc)) in
          record {
            end = behind.end;
            goes = behind.goes;
            mirrors = of_shows c.state behind.end behind.shows (λ n k. subst (λ (ns : List ℕ). n < bound ns) (sym behind.opened) (h.kept n (kept_early other n (kept_by n k))));
            sent = behind.sent ∙ sym (append-nil e.sent) ∙ ap (λ (x : List SealedTold). e.sent ++ x) (sym w.unsealed);
            given = behind.given;
          }
        where
          kept_early : now ≡ false → (n : ℕ) → ((now ≡ true) × (n ≡ o.number)) ⊎ IsKept «Data» a.state.waiting n → IsKept «Data» a.state.waiting n
          kept_early other n (inl own) = absurd (let so : now ≡ true = own.0 in cc)
          kept_early other n (inr there) = there

      -- a 1-RTT packet
      late : (which : Which) → o.which ≡ Some which → (e : Ledger t) → Mirrors a.state e → AreLast a.state → Led c.state e (sealed_told w.since) (given_told now w.since)
      late which is_which e h l =
          let late_space : o.space ≡ «Data» = data_space o.space (sym named.named ∙ ap (λ (x : Option Which). is_some x) is_which) in
          let own = own_step coming p comes o a is which is_which late_space e (to_shows a.state e h) in
          let f : Ledger t = ledger_after own.0 e in
          let opened : f.opened ≡ e.opened ++ o.number ∷ [] = ap (λ (x : Ledger t). x.opened) own.3 in
          let read : f.read ≡ e.read ++ o.payload ∷ [] = ap (λ (x : Ledger t). x.read) own.3 in
          let for : IsFor m Comes plain f = λ d. (subst (λ (x : List (List ℕ)). IsIn o.payload x) (sym read) (in_last o.payload e.read), subst (λ (ns : List ℕ). o.number < bound ns) (sym opened) (bound_last o.number e.opened)) in
          let behind : Behind m Comes c.state f (given_told now w.since) = w.behind f own.2 (own_last o.coming.time o.which o.number a l) for in
          record {
            end = behind.end;
            goes = goes_next m Comes e f behind.end (goes_one m Comes own.0 e own.1) behind.goes;
            mirrors = of_shows c.state behind.end behind.shows (λ n k. subst (λ (ns : List ℕ). n < bound ns) (sym (behind.opened ∙ opened)) (kept_late n (kept_by n k)));
            sent = behind.sent ∙ ap (λ (x : Ledger t). x.sent) own.3 ∙ sym (append-nil e.sent) ∙ ap (λ (x : List SealedTold). e.sent ++ x) (sym w.unsealed);
            given = behind.given ∙ ap (λ (x : Ledger t). x.given ++ given_told now w.since) own.3;
          }
        where
          kept_late : (n : ℕ) → ((now ≡ true) × (n ≡ o.number)) ⊎ IsKept «Data» a.state.waiting n → n < bound (e.opened ++ o.number ∷ [])
          kept_late n (inl own) = subst (λ (x : ℕ). x < bound (e.opened ++ o.number ∷ [])) (sym own.1) (bound_last o.number e.opened)
          kept_late n (inr there) = bound_more n e.opened (o.number ∷ []) (h.kept n there)

      by_which : (which : Option Which) → o.which ≡ which → (e : Ledger t) → Mirrors a.state e → AreLast a.state → Led c.state e (sealed_told w.since) (given_told now w.since)
      by_which None is_none e h l = early is_none e h l
      by_which (Some which) is_some_which e h l = late which is_some_which e h l

  -- ---- inputs

  -- a move outside of packets that leaves all of that
  pub other_follows : (x : Move t) (a : At t) → (lower_move x a.state).session ≡ a.state.lower.session → (keys_move x a.state).«data» ≡ a.state.keys.«data» → (keys_move x a.state).highest ≡ a.state.keys.highest → numbers_move x a.state ≡ a.state.numbers →
      sealed_told (deeds_move x a.state) ≡ [] → ((now : Bool) → given_told now (deeds_move x a.state) ≡ []) → accepted_in «Data» (deeds_move x a.state) ≡ [] → Knows «Data» a (move_to x a) → Follows a (move_to x a)
  other_follows x a session keys highest numbers unsealed none unaccepted knows =
      still_follows x a
      (record {
        session = session;
        keys = keys;
        highest = highest;
        next = omega (arith, ap (λ (v : Numbers). next_number v «Data») numbers);
        rx = ap (λ (v : Numbers). received_number v «Data») numbers;
        unsealed = unsealed;
      }) none unaccepted knows

  outside_follows : (time : ℕ) (x : Move t) (a : At t) → IsOutside time x a.state → MayMove x a.state → Follows a (move_to x a)
  unfolding numbers_move keys_move lower_move deeds_move failure_counted streams_closed ids_stepped limits_learned streams_stepped
  outside_follows time x a h may = by_move x h (knows_move «Data» x a may (received_knows x a.state (outside_received time x a.state h)))
    where
      by_move : (x : Move t) → IsOutside time x a.state → Knows «Data» a (move_to x a) → Follows a (move_to x a)
      by_move (Seal at f n size fs) h knows = absurd h
      by_move (Forget space) h knows = absurd h
      by_move (Ack space n after) h knows = absurd h
      by_move (Write bytes keys session) h knows = absurd h
      by_move (Unseal at n which fresh session) h knows = absurd h
      by_move (Update fresh session) h knows = absurd h
      by_move Discard h knows = absurd h
      by_move (Hand frame) h knows = absurd h
      by_move (Enter space n v) h knows = absurd h
      by_move (Accept at space n e g v) h knows = absurd h
      by_move (Read space count session) h knows = absurd h
      by_move (Insert new) h knows = absurd h
      by_move (Retire at n) h knows = absurd h
      by_move Skip h knows = absurd h
      by_move (Begin id opens) h knows = absurd h
      by_move (Take id fs) h knows = absurd h
      by_move (Fire after) h knows = absurd h
      by_move (Call y) h knows = absurd h
      by_move (Post y) h knows = absurd h
      by_move (Come id offset bytes) h knows = absurd h
      by_move ReportStream h knows = absurd h
      by_move ReportStreams h knows = absurd h
      by_move (Tell (did.Piece space number v)) h knows =
          still_follows (Tell (did.Piece space number v)) a (told_still m Comes (did.Piece space number v) a.state refl) (λ now. refl) (unread_unaccepted space number v (unread_accepts space number v h)) knows
      by_move (Tell d) h knows = absurd h
      by_move (Renew at cid token keys) h knows = still_follows (Renew at cid token keys) a (renew_still m Comes at cid token keys a.state) (λ now. refl) refl knows
      by_move x h knows = other_follows x a refl refl refl refl refl (λ now. refl) refl knows

  pub datagram_follows : (coming : Coming) (bytes : List ℕ) (a : At t) → ((p : Piece) → IsPieceOf p (cut_of a.state bytes) → Comes p) → Follows a (datagram_after m coming bytes a)
  datagram_follows coming bytes a come =
      datagram_holds m coming Comes Follows follows_here follows_next (λ x b h may. outside_follows coming.time x b h may) (λ p comes o b opened. packet_follows coming p comes o b opened) bytes a come

  discard_follows : (a : At t) → Knows «Data» a (move_to Discard a) → Follows a (move_to Discard a)
  unfolding move_to deeds_move state_move keys_move numbers_move lower_move waiting_move key_discarded
  discard_follows a knows = record {
    since = [];
    appended = appended;
    given = [];
    told = λ now. refl;
    last = lasts;
    led = led_so;
  }
    where
      appended : (move_to Discard a).did ≡ a.did ++ []
      appended = sym (append-nil a.did)

      lasts : AreLast a.state → AreLast (move_to Discard a).state
      lasts (inl high) = inl ((discarded_moves a.state.keys).highest ∙ high)
      lasts (inr none) = inr (still_no_ring a.state.keys (key_discarded a.state.keys) (discarded_moves a.state.keys) none)

      led_so : (e : Ledger t) → Mirrors a.state e → AreLast a.state → Led (move_to Discard a).state e [] []
      led_so e h l = record {
        end = ledger_after Discards e;
        goes = goes_one m Comes Discards e tt;
        mirrors = record { session = h.session; keys = ap (λ (k : Option (OneRttKeys t.H t.P)). ring_discarded k) h.keys; next = h.next; rx = h.rx; kept = h.kept };
        sent = sym (append-nil e.sent);
        given = sym (append-nil e.given);
      }

  pub update_follows : (a : At t) → MayMove (Update (fresh_now m a.state) (m.after_next a.state.lower.session)) a.state → Follows a (move_to (Update (fresh_now m a.state) (m.after_next a.state.lower.session)) a)
  unfolding move_to deeds_move state_move keys_move numbers_move lower_move waiting_move key_updated MayMove fresh_now
  update_follows a may = record {
    since = [];
    appended = appended;
    given = [];
    told = λ now. refl;
    last = lasts;
    led = led_so may;
  }
    where
      x : Move t
      x = Update (fresh_now m a.state) (m.after_next a.state.lower.session)

      appended : (move_to x a).did ≡ a.did ++ []
      appended = sym (append-nil a.did)

      lasts : AreLast a.state → AreLast (move_to x a).state
      lasts (inl high) = inl ((updated_moves a.state.keys (fresh_now m a.state)).highest ∙ high)
      lasts (inr none) = inr (still_no_ring a.state.keys (key_updated a.state.keys (fresh_now m a.state)) (updated_moves a.state.keys (fresh_now m a.state)) none)

      led_so : MayMove x a.state → (e : Ledger t) → Mirrors a.state e → AreLast a.state → Led (move_to x a).state e [] []
      led_so may e h l =
          let fresh : Option (Fresh t.P) = fresh_for m.seal_limit m.failure_limit e.keys (m.next_keys e.session) in
          let step : LedgerStep t = Updates fresh (m.after_next e.session) in
          record {
            end = ledger_after step e;
            goes = goes_one m Comes step e (ap (λ (k : Option (OneRttKeys t.H t.P)). ring_may_update k) h.keys ∙ may.1, refl, refl);
            mirrors = record {
              session = ap (λ (c : t.S). m.after_next c) h.session;
              keys = λ i. ring_updated (fresh_for m.seal_limit m.failure_limit (h.keys i) (m.next_keys (h.session i))) (h.keys i);
              next = h.next;
              rx = h.rx;
              kept = h.kept;
            };
            sent = sym (append-nil e.sent);
            given = sym (append-nil e.given);
          }

  pub timed_follows : (x : Move t) → IsTimed x → (a : At t) → MayMove x a.state → Follows a (move_to x a)
  unfolding numbers_move keys_move lower_move deeds_move timer_fired streams_stepped ids_stepped streams_closed datagrams_stepped
  timed_follows x h a may = by_move x h (knows_move «Data» x a may (timed_knows x a.state h))
    where
      by_move : (x : Move t) → IsTimed x → Knows «Data» a (move_to x a) → Follows a (move_to x a)
      by_move (Seal at f n size fs) h knows = absurd h
      by_move (Forget space) h knows = absurd h
      by_move (Ack space n after) h knows = absurd h
      by_move (Write bytes keys session) h knows = absurd h
      by_move (Unseal at n which fresh session) h knows = absurd h
      by_move (Update fresh session) h knows = absurd h
      by_move (Renew at cid token keys) h knows = absurd h
      by_move Fail h knows = absurd h
      by_move (Hand frame) h knows = absurd h
      by_move (Enter space n v) h knows = absurd h
      by_move (Accept at space n e g v) h knows = absurd h
      by_move (Read space count session) h knows = absurd h
      by_move (Insert new) h knows = absurd h
      by_move (Retire at n) h knows = absurd h
      by_move (Tell d) h knows = absurd h
      by_move Skip h knows = absurd h
      by_move (Begin id opens) h knows = absurd h
      by_move (Take id fs) h knows = absurd h
      by_move (Call y) h knows = absurd h
      by_move (Post y) h knows = absurd h
      by_move (Come id offset bytes) h knows = absurd h
      by_move (Learn parameters) h knows = absurd h
      by_move ReportStream h knows = absurd h
      by_move ReportStreams h knows = absurd h
      by_move Discard h knows = discard_follows a knows
      by_move x h knows = other_follows x a refl refl refl refl refl (λ now. refl) refl knows

  skipped_next : (v : Numbers) (word : ℕ) → next_number v «Data» ≤ next_number (number_skipped v word) «Data»
  unfolding next_number number_skipped used_in
  skipped_next v word = omega arith

  skipped_rx : (v : Numbers) (word : ℕ) → received_number (number_skipped v word) «Data» ≡ received_number v «Data»
  unfolding received_number number_skipped used_in
  skipped_rx v word = refl

  begun_session : (id : SpaceId) (opens : Bool) (s : View t) → (packet_begun id opens s).lower.session ≡ s.lower.session
  unfolding ids_stepped streams_stepped
  begun_session id opens s = ap (λ (l : Lower t.S). l.session) (begun_streams id opens s)

  pub sending_follows : (x : Move t) → IsSending x → IsUnupdated x → (a : At t) → MayMove x a.state → Follows a (move_to x a)
  unfolding numbers_move keys_move lower_move deeds_move streams_closed ids_stepped streams_stepped
  sending_follows x h u a may = by_move x h u (knows_move «Data» x a may (sending_knows x a.state h))
    where
      by_move : (x : Move t) → IsSending x → IsUnupdated x → Knows «Data» a (move_to x a) → Follows a (move_to x a)
      by_move (Seal at f n size fs) h u knows = absurd h
      by_move (Take id fs) h u knows = absurd h
      by_move (Tell d) h u knows = absurd h
      by_move (Enter space n v) h u knows = absurd h
      by_move (Accept time space n e g v) h u knows = absurd h
      by_move (Ack space n after) h u knows = absurd h
      by_move (Fire after) h u knows = absurd h
      by_move (Write bytes keys session) h u knows = absurd h
      by_move (Read space count session) h u knows = absurd h
      by_move (Unseal at n which fresh session) h u knows = absurd h
      by_move (Update fresh session) h u knows = absurd u
      by_move (Renew at cid token keys) h u knows = absurd h
      by_move Discard h u knows = absurd h
      by_move Fail h u knows = absurd h
      by_move (Hand frame) h u knows = absurd h
      by_move (Insert new) h u knows = absurd h
      by_move (Retire at n) h u knows = absurd h
      by_move (Call y) h u knows = absurd h
      by_move (Post y) h u knows = absurd h
      by_move (Come id offset bytes) h u knows = absurd h
      by_move (Learn parameters) h u knows = absurd h
      by_move ReportStream h u knows = absurd h
      by_move ReportStreams h u knows = absurd h
      by_move (Forget id) h u knows = still_follows (Forget id) a (forget_still m Comes id a.state (ap (λ (space : SpaceId). is_space space «Data») h)) (λ now. refl) refl knows
      by_move Skip h u knows =
          still_follows Skip a
          (record { session = refl; keys = refl; highest = refl; next = skipped_next a.state.numbers (word a.state.setup.random); rx = skipped_rx a.state.numbers (word a.state.setup.random); unsealed = refl }) (λ now. refl) refl knows
      by_move (Begin id opens) h u knows = other_follows (Begin id opens) a (begun_session id opens a.state) refl refl refl refl (λ now. refl) refl knows
      by_move x h u knows = other_follows x a refl refl refl refl refl (λ now. refl) refl knows
