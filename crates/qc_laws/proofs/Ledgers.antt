-- A ledger of the 1-RTT keys, by the moves of a packet that opened.
use Rattle.qc_state.specs.declared.keys.SpaceKeys.{SpaceKeys}
use Rattle.std.proofs.Common.{◌≡◌, ℕ, ◌+◌, ◌≤◌, ◌<◌, ◌⊎◌, inl, inr, List, [], ◌∷◌, ◌++◌, refl, ap, sym, ◌∙◌, subst, Bool, true, false, Option, Some, None, Ok, Err, if◌then◌else◌, append_assoc, append-nil, arith}
use Rattle.std.proofs.lemmas.Bool.Decides.{nat_tests}
use Rattle.std.specs.Prelude.{◌&&◌, max, nat_le, option_to_list}
use Rattle.qc_base.specs.declared.side.SpaceId.{SpaceId}
use Rattle.qc_base.specs.declared.side.SpaceId.TheVariants.{Initial, Handshake, «Data»}
use Rattle.qc_crypto.specs.declared.keys.KeyPair.{KeyPair}
use Rattle.qc_crypto.specs.declared.keys.Keys.{Keys}
use Rattle.qc_frame.specs.Frame.{AckValue, FrameValue, TypedValue}
use Rattle.qc_frame.specs.FrameSpelling.{spelling}
use Rattle.qc_frame.specs.Payload.{Item, items_of}
use Rattle.qc_frame.specs.declared.frames.FrameOf.TheVariants as frames
use Rattle.qc_header.specs.Piece.{Piece}
use Rattle.qc_state.specs.declared.deeds.Did.{Did}
use Rattle.qc_state.specs.declared.deeds.Did.TheVariants as did
use Rattle.qc_state.specs.declared.deeds.Layer.{Layer}
use Rattle.qc_state.specs.declared.deeds.Layer.TheVariants as layer
use Rattle.qc_state.specs.declared.deeds.Verdict.{Verdict}
use Rattle.qc_state.specs.declared.deeds.Verdict.TheVariants as verdict
use Rattle.qc_state.specs.declared.keys.KeyGroup.{KeyGroup}
use Rattle.qc_state.specs.declared.keys.OneRttKeys.{OneRttKeys}
use Rattle.qc_state.specs.declared.lower.Lower.{Lower}
use Rattle.qc_state.specs.declared.numbers.Numbers.{Numbers}
use Rattle.qc_state.specs.declared.opening.Signs.{Signs}
use Rattle.qc_state.specs.Headline.{KnownBehind, accepted_in, accepted_number}
use Rattle.qc_state.specs.Keys.{DataKeys, HandshakeKeys, NewKeys, NoKeys, key_acked, keys_dropped, keys_given, new_ring, ring_acked, initial_renewed}
use Rattle.qc_state.specs.Lower.{bytes_came, flight_dropped, frame_handed, ids_stepped, limits_learned, packets_settled, session_read, session_wrote, streams_closed, datagrams_stepped, streams_stepped}
use Rattle.qc_state.specs.Moves.{Accept, Ack, AreNext, Begin, Call, Discard, Enter, Fail, Fire, Forget, Hand, Insert, MayMove, Move, Post, Read, ReportStream, ReportStreams, Retire, Seal, Skip, Take, Tell, Unseal, Update, Write, accepts, deeds_move, keys_move, lower_move, move_to, numbers_move, state_move, told_to_streams, Renew}
use Rattle.qc_state.specs.Numbers.{acked_in, accepted_in as accepted_there, entered_in, next_number, number_accepted, number_acked, number_entered, received_number, space_renewed}
use Rattle.qc_state.specs.Progress.{keys_behind, ring_with, session_behind}
use Rattle.qc_state.specs.Spaces.{is_space}
use Rattle.qc_state.specs.Streams.{is_given_to_streams}
use Rattle.qc_state.specs.Types.{Types, Meaning}
use Rattle.qc_state.specs.View.{View, At}
use Rattle.qc_state.proofs.KeySteps.{acked_moves, still_no_ring}
use Rattle.qc_state.proofs.OpenPackets.{IsBeside, given_ack, given_read}
use Rattle.qc_state.proofs.PacketMoves.{IsAmong, IsFrameOf, IsInPacket, IsToldOf, IsWrittenBy, OpenPacket}
use Rattle.qc_state.proofs.ReceivedMoves.{IsUnread}
use Rattle.qc_state.proofs.Telling.{told_appends}
use Rattle.qc_laws.specs.MirrorLaws.{Accepts, Acknowledges, AllMayLedger, AreGiven, Calls, GivenTold, Gives, Goes, IsIn, Ledger, LedgerStep, MayLedger, SealedTold, StandsAmong, StandsIn, Takes, bound, given_here, given_told, ledger_after, ledgers_after, sealed_told, told_here}
use Rattle.qc_laws.specs.PieceLaws.{pieces_in}
use Rattle.qc_laws.specs.StreamLaws.{is_of}
use Rattle.qc_laws.specs.UpdateLaws.{AreLast}
use Rattle.qc_laws.proofs.AcksKnown.{KnownSince}
use Rattle.qc_laws.proofs.StreamCalls.{handed_told}
use Rattle.qc_laws.proofs.StreamSteps.{last_append, last_of}

-- ---- lists

pub in_last : (bytes : List ℕ) (others : List (List ℕ)) → IsIn bytes (others ++ bytes ∷ [])
in_last bytes [] = inl refl
in_last bytes (other ∷ others) = inr (in_last bytes others)

pub bound_last : (n : ℕ) (ns : List ℕ) → n < bound (ns ++ n ∷ [])
bound_last n [] = grind arith
bound_last n (m ∷ ns) = let h : n < bound (ns ++ n ∷ []) = bound_last n ns in grind (arith, h)

within_more : (m n b c : ℕ) → (n < b → n < c) → n < max (m + 1) b → n < max (m + 1) c
within_more m n b c more h = by_test (nat_le (m + 1) b) refl (nat_le (n + 1) b) refl
  where
    by_test : (u : Bool) → nat_le (m + 1) b ≡ u → (v : Bool) → nat_le (n + 1) b ≡ v → n < max (m + 1) c
    by_test u d true e = let k : n < c = more (grind (arith, nat_tests, e)) in grind (arith, k)
    by_test u d false e = let low : n < m + 1 = grind (arith, nat_tests, h, e) in grind (arith, low)

pub bound_more : (n : ℕ) (ns ms : List ℕ) → n < bound ns → n < bound (ns ++ ms)
bound_more n [] ms h = absurd (omega (arith, h))
bound_more n (m ∷ ns) ms h = within_more m n (bound ns) (bound (ns ++ ms)) (λ k. bound_more n ns ms k) h

stands_among : (type : ℕ) (f : FrameValue) (items : List Item) → IsAmong (record { ty = type; frame = f }) items → StandsAmong f items
stands_among type f (Ok first ∷ items) (inl is) = inl (ap (λ (read : TypedValue). read.frame) is)
stands_among type f (Ok first ∷ items) (inr among) = inr (stands_among type f items among)
stands_among type f (Err fault ∷ items) h = absurd h
stands_among type f [] h = absurd h

stands_in : (o : OpenPacket) (f : FrameValue) → IsFrameOf o f → StandsIn f o.payload
stands_in o f h = stands_among h.0 f (items_of o.payload) h.1

-- ---- deeds, one list behind another

pub told_append : (ds es : List Did) → sealed_told (ds ++ es) ≡ sealed_told ds ++ sealed_told es
told_append [] es = refl
told_append (did.Sealed space n epoch early fs ∷ ds) es =
    ap (λ (l : List SealedTold). told_here space n epoch early fs ++ l) (told_append ds es) ∙ sym (append_assoc (told_here space n epoch early fs) (sealed_told ds) (sealed_told es))
told_append (d ∷ ds) es = told_append ds es

pub given_append : (now : Bool) (ds es : List Did) → given_told now (ds ++ es) ≡ given_told now ds ++ given_told (last_of «Data» now ds) es
given_append now [] es = refl
given_append now (did.Piece space number v ∷ ds) es = given_append (is_of «Data» space) ds es
given_append now (did.Gave to body ∷ ds) es =
    ap (λ (l : List GivenTold). given_here now to body ++ l) (given_append now ds es) ∙ sym (append_assoc (given_here now to body) (given_told now ds) (given_told (last_of «Data» now ds) es))
given_append now (did.Sealed space n epoch early fs ∷ ds) es = given_append now ds es
given_append now (did.Rose life ∷ ds) es = given_append now ds es
given_append now (did.Lost why ∷ ds) es = given_append now ds es
given_append now (did.Quiet why ∷ ds) es = given_append now ds es

-- of a packet that wasn't accepted no number is known
known_by : {K : Type 0} {n : ℕ} (o : Option ℕ) (ns : List ℕ) → option_to_list o ++ ns ≡ [] → (ns ≡ [] → (o ≡ Some n) ⊎ K) → K
known_by None ns none known = known_of (known none)
  where
    known_of : {K : Type 0} {n : ℕ} → (None ≡ Some n) ⊎ K → K
    known_of (inl is) = absurd cc
    known_of (inr k) = k
known_by (Some m) ns none known = absurd cc

-- behind deeds of which none tells that a packet was accepted no more numbers are known
pub none_known : (id : SpaceId) (K : ℕ → Type 0) (ds : List Did) (n : ℕ) → accepted_in id ds ≡ [] → KnownSince id K ds n → K n
none_known id K [] n none known = known
none_known id K (did.Piece space number v ∷ ds) n none known =
    known_by (accepted_number id space number v) (accepted_in id ds) none (λ rest. none_known id (KnownBehind id K (did.Piece space number v)) ds n rest known)
none_known id K (did.Gave to body ∷ ds) n none known = none_known id K ds n none known
none_known id K (did.Sealed space m epoch early fs ∷ ds) n none known = none_known id K ds n none known
none_known id K (did.Rose life ∷ ds) n none known = none_known id K ds n none known
none_known id K (did.Lost why ∷ ds) n none known = none_known id K ds n none known
none_known id K (did.Quiet why ∷ ds) n none known = none_known id K ds n none known

-- nor behind deeds that tell of no packet which came
pub unpieced_known : (id : SpaceId) (K : ℕ → Type 0) (ds : List Did) (n : ℕ) → pieces_in ds ≡ [] → KnownSince id K ds n → K n
unpieced_known id K [] n none known = known
unpieced_known id K (did.Piece space number v ∷ ds) n none known = absurd cc
unpieced_known id K (did.Gave to body ∷ ds) n none known = unpieced_known id K ds n none known
unpieced_known id K (did.Sealed space m epoch early fs ∷ ds) n none known = unpieced_known id K ds n none known
unpieced_known id K (did.Rose life ∷ ds) n none known = unpieced_known id K ds n none known
unpieced_known id K (did.Lost why ∷ ds) n none known = unpieced_known id K ds n none known
unpieced_known id K (did.Quiet why ∷ ds) n none known = unpieced_known id K ds n none known

none_taken : (b : Bool) (n : ℕ) → option_to_list (if b && false then Some n else None) ++ [] ≡ []
none_taken true n = refl
none_taken false n = refl

-- a packet that wasn't read, or was seen before, isn't accepted
pub unread_unaccepted : (space : Option SpaceId) (number : Option ℕ) (v : Verdict) → accepts v ≡ false → accepted_in «Data» (did.Piece space number v ∷ []) ≡ []
unread_unaccepted None number v e = refl
unread_unaccepted (Some space) None v e = refl
unread_unaccepted (Some space) (Some n) v e =
    ap (λ (b : Bool). option_to_list (if is_space «Data» space && b then Some n else None) ++ []) e ∙ none_taken (is_space «Data» space) n

pub unread_accepts : (space : Option SpaceId) (number : Option ℕ) (v : Verdict) → IsUnread (did.Piece space number v) → accepts v ≡ false
unread_accepts space number verdict.Ignored h = refl
unread_accepts space number verdict.Failure h = refl
unread_accepts space number verdict.BadBits h = refl
unread_accepts space number verdict.BadUpdate h = refl
unread_accepts space number verdict.Versions h = refl
unread_accepts space number _ h = absurd h

-- the number that is accepted is that of its packet
pub accepted_same : (space : SpaceId) (number n : ℕ) (v : Verdict) → accepted_number «Data» (Some space) (Some number) v ≡ Some n → (is_space «Data» space ≡ true) × (n ≡ number)
accepted_same space number n v h = by_tests (is_space «Data» space) (accepts v) h
  where
    by_tests : (a b : Bool) → (if a && b then Some number else None) ≡ Some n → (a ≡ true) × (n ≡ number)
    by_tests true true e = (refl, cc)
    by_tests true false e = absurd cc
    by_tests false b e = absurd cc

module _ {t : Types} (m : Meaning t) (Comes : Piece → Type 0) where
  -- ---- ledgers, one behind another

  ledgers_append : (xs ys : List (LedgerStep t)) (e : Ledger t) → ledgers_after (xs ++ ys) e ≡ ledgers_after ys (ledgers_after xs e)
  ledgers_append [] ys e = refl
  ledgers_append (x ∷ xs) ys e = ledgers_append xs ys (ledger_after x e)

  may_append : (xs ys : List (LedgerStep t)) (e : Ledger t) → AllMayLedger m Comes xs e → AllMayLedger m Comes ys (ledgers_after xs e) → AllMayLedger m Comes (xs ++ ys) e
  may_append [] ys e h g = g
  may_append (x ∷ xs) ys e h g = (h.0, may_append xs ys (ledger_after x e) h.1 g)

  pub goes_here : (e : Ledger t) → Goes m Comes e e
  goes_here e = record { steps = []; may = tt; leads = refl }

  pub goes_next : (e f g : Ledger t) → Goes m Comes e f → Goes m Comes f g → Goes m Comes e g
  goes_next e f g p q = record {
    steps = p.steps ++ q.steps;
    may = may_append p.steps q.steps e p.may (subst (λ (x : Ledger t). AllMayLedger m Comes q.steps x) p.leads q.may);
    leads = q.leads ∙ ap (λ (x : Ledger t). ledgers_after q.steps x) p.leads ∙ sym (ledgers_append p.steps q.steps e);
  }

  pub goes_one : (x : LedgerStep t) (e : Ledger t) → MayLedger m Comes x e → Goes m Comes e (ledger_after x e)
  goes_one x e may = record { steps = x ∷ []; may = (may, tt); leads = refl }

  -- ---- what a ledger shows, the numbers aside that are kept to be acknowledged

  pub record Shows (s : View t) (e : Ledger t) : Type 0 where
    pub session : e.session ≡ s.lower.session
    pub keys : e.keys ≡ s.keys.«data»
    pub next : e.next ≤ next_number s.numbers «Data»
    pub rx : e.rx ≡ received_number s.numbers «Data»

  -- ---- within a packet that opened

  -- it was opened, where it is a 1-RTT packet
  abbrev pub IsFor : OpenPacket → Ledger t → Type 0
  IsFor o e = is_space «Data» o.space ≡ true → IsIn o.payload e.read × (o.number < bound e.opened)

  for_kept : (o : OpenPacket) (e f : Ledger t) → f.opened ≡ e.opened → f.read ≡ e.read → IsFor o e → IsFor o f
  for_kept o e f opened read h =
      λ d. let k = h d in (subst (λ (l : List (List ℕ)). IsIn o.payload l) (sym read) k.0, subst (λ (ns : List ℕ). o.number < bound ns) (sym opened) k.1)

  -- steps lead from a ledger to one that shows this view, with which these frames were given, and nothing was sealed or opened
  pub record Behind (s : View t) (e : Ledger t) (gave : List GivenTold) : Type 0 where
    pub end : Ledger t
    pub goes : Goes m Comes e end
    pub shows : Shows s end
    pub sent : end.sent ≡ e.sent
    pub opened : end.opened ≡ e.opened
    pub read : end.read ≡ e.read
    pub given : end.given ≡ e.given ++ gave

  pub record Inside (o : OpenPacket) (a b : At t) : Type 0 where
    pub since : List Did
    pub appended : b.did ≡ a.did ++ since
    pub stays : last_of «Data» (is_space «Data» o.space) since ≡ is_space «Data» o.space
    pub unsealed : sealed_told since ≡ []
    pub last : AreLast a.state → AreLast b.state
    pub behind : (e : Ledger t) → Shows a.state e → AreLast a.state → IsFor o e → Behind b.state e (given_told (is_space «Data» o.space) since)

  pub inside_here : (o : OpenPacket) (a : At t) → Inside o a a
  inside_here o a = record {
    since = [];
    appended = sym (append-nil a.did);
    stays = refl;
    unsealed = refl;
    last = λ l. l;
    behind = λ e s l f. record { end = e; goes = goes_here e; shows = s; sent = refl; opened = refl; read = refl; given = sym (append-nil e.given) };
  }

  pub inside_next : (o : OpenPacket) (a b c : At t) → Inside o a b → Inside o b c → Inside o a c
  inside_next o a b c g h =
      let now : Bool = is_space «Data» o.space in
      record {
        since = g.since ++ h.since;
        appended = h.appended ∙ ap (λ (x : List Did). x ++ h.since) g.appended ∙ append_assoc a.did g.since h.since;
        stays = last_append «Data» now g.since h.since ∙ ap (λ (x : Bool). last_of «Data» x h.since) g.stays ∙ h.stays;
        unsealed = told_append g.since h.since ∙ (λ i. g.unsealed i ++ h.unsealed i);
        last = λ l. h.last (g.last l);
        behind = λ e s l f.
            let p : Behind b.state e (given_told now g.since) = g.behind e s l f in
            let q : Behind c.state p.end (given_told now h.since) = h.behind p.end p.shows (g.last l) (for_kept o e p.end p.opened p.read f) in
            record {
              end = q.end;
              goes = goes_next e p.end q.end p.goes q.goes;
              shows = q.shows;
              sent = q.sent ∙ p.sent;
              opened = q.opened ∙ p.opened;
              read = q.read ∙ p.read;
              given = q.given ∙ ap (λ (l : List GivenTold). l ++ given_told now h.since) p.given ∙ append_assoc e.given (given_told now g.since) (given_told now h.since)
                  ∙ ap (λ (l : List GivenTold). e.given ++ l) (sym (given_append now g.since h.since ∙ ap (λ (x : Bool). given_told now g.since ++ given_told x h.since) g.stays));
            };
      }

  -- 1-RTT keys are there only in the highest space, behind what leaves both
  last_still : (a : At t) (v : KeyGroup t.H t.P) → v.«data» ≡ a.state.keys.«data» → v.highest ≡ a.state.keys.highest → AreLast a.state → (v.highest ≡ «Data») ⊎ (v.«data» ≡ None)
  last_still a v same highest (inl high) = inl (highest ∙ high)
  last_still a v same highest (inr none) = inr (same ∙ none)

  -- a move that leaves all that a ledger keeps
  pub record IsStill (x : Move t) (s : View t) : Type 0 where
    pub session : (lower_move x s).session ≡ s.lower.session
    pub keys : (keys_move x s).«data» ≡ s.keys.«data»
    pub highest : (keys_move x s).highest ≡ s.keys.highest
    pub next : next_number s.numbers «Data» ≤ next_number (numbers_move x s) «Data»
    pub rx : received_number (numbers_move x s) «Data» ≡ received_number s.numbers «Data»
    pub unsealed : sealed_told (deeds_move x s) ≡ []

  pub still_shows : (x : Move t) (a : At t) (e : Ledger t) → IsStill x a.state → Shows a.state e → Shows (move_to x a).state e
  unfolding move_to state_move
  still_shows x a e still s = record {
    session = s.session ∙ sym still.session;
    keys = s.keys ∙ sym still.keys;
    next = omega (arith, s.next, still.next);
    rx = s.rx ∙ sym still.rx;
  }

  pub still_last : (x : Move t) (a : At t) → IsStill x a.state → AreLast a.state → AreLast (move_to x a).state
  unfolding move_to state_move
  still_last x a still l = last_still a (keys_move x a.state) still.keys still.highest l

  still_inside : (o : OpenPacket) (x : Move t) (a : At t) → IsStill x a.state → last_of «Data» (is_space «Data» o.space) (deeds_move x a.state) ≡ is_space «Data» o.space → given_told (is_space «Data» o.space) (deeds_move x a.state) ≡ [] →
      Inside o a (move_to x a)
  unfolding move_to deeds_move
  still_inside o x a still stays none = record {
    since = deeds_move x a.state;
    appended = told_appends a.did (deeds_move x a.state);
    stays = stays;
    unsealed = still.unsealed;
    last = λ l. still_last x a still l;
    behind = λ e s l f. record {
      end = e;
      goes = goes_here e;
      shows = still_shows x a e still s;
      sent = refl;
      opened = refl;
      read = refl;
      given = sym (append-nil e.given) ∙ ap (λ (l : List GivenTold). e.given ++ l) (sym none);
    };
  }

  -- a frame is given to a layer
  gives_by : (o : OpenPacket) (to : Layer) (f : FrameValue) (s : View t) (e : Ledger t) (now : Bool) → now ≡ is_space «Data» o.space → Shows s e → IsFor o e → IsFrameOf o f → ((here : Bool) → given_here here to (spelling f) ≡ (if here then (record { layer = to; body = spelling f }) ∷ [] else [])) →
      Behind s e (given_here now to (spelling f) ++ [])
  gives_by o to f s e true is shows for among counts = record {
    end = ledger_after (Gives o.payload to (spelling f)) e;
    goes = goes_one (Gives o.payload to (spelling f)) e ((for (sym is)).0, (f, stands_in o f among, refl));
    shows = record { session = shows.session; keys = shows.keys; next = shows.next; rx = shows.rx };
    sent = refl;
    opened = refl;
    read = refl;
    given = ap (λ (l : List GivenTold). e.given ++ l) (sym (ap (λ (l : List GivenTold). l ++ []) (counts true)));
  }
  gives_by o to f s e false is shows for among counts = record {
    end = e;
    goes = goes_here e;
    shows = shows;
    sent = refl;
    opened = refl;
    read = refl;
    given = sym (append-nil e.given) ∙ ap (λ (l : List GivenTold). e.given ++ l) (sym (ap (λ (l : List GivenTold). l ++ []) (counts false)));
  }

  gives_inside : (o : OpenPacket) (x : Move t) (a : At t) (to : Layer) (f : FrameValue) → IsStill x a.state → deeds_move x a.state ≡ did.Gave to (spelling f) ∷ [] → IsFrameOf o f →
      ((here : Bool) → given_here here to (spelling f) ≡ (if here then (record { layer = to; body = spelling f }) ∷ [] else [])) → Inside o a (move_to x a)
  unfolding move_to deeds_move
  gives_inside o x a to f still is among counts =
      let now : Bool = is_space «Data» o.space in
      record {
        since = did.Gave to (spelling f) ∷ [];
        appended = told_appends a.did (deeds_move x a.state) ∙ ap (λ (ds : List Did). a.did ++ ds) is;
        stays = refl;
        unsealed = refl;
        last = λ l. still_last x a still l;
        behind = λ e s l for. gives_by o to f (move_to x a).state e now refl (still_shows x a e still s) for among counts;
      }

  -- the session is given bytes
  pub read_inside : (o : OpenPacket) (x : ℕ) (bytes : List ℕ) (a : At t) → Inside o a (given_read m o x bytes a)
  unfolding move_to state_move numbers_move keys_move lower_move deeds_move session_read
  read_inside o x bytes a =
      let after : t.S = m.after_read a.state.lower.session (x ∷ bytes) in
      record {
        since = did.Gave layer.Session (x ∷ bytes) ∷ [];
        appended = refl;
        stays = refl;
        unsealed = refl;
        last = λ l. l;
        behind = λ e s l f. record {
          end = ledger_after (Calls after) e;
          goes = goes_one (Calls after) e (inl (x ∷ bytes, ap (λ (c : t.S). m.after_read c (x ∷ bytes)) (sym s.session)));
          shows = record { session = refl; keys = s.keys; next = s.next; rx = s.rx };
          sent = refl;
          opened = refl;
          read = refl;
          given = sym (append-nil e.given);
        };
      }

  -- loss recovery is given an ACK
  acked_next : (v : Numbers) (id : SpaceId) (n : ℕ) → next_number (number_acked v id n) «Data» ≡ next_number v «Data»
  unfolding next_number number_acked acked_in
  acked_next v Initial n = refl
  acked_next v Handshake n = refl
  acked_next v «Data» n = refl

  acked_rx : (v : Numbers) (id : SpaceId) (n : ℕ) → received_number (number_acked v id n) «Data» ≡ received_number v «Data»
  unfolding received_number number_acked acked_in
  acked_rx v Initial n = refl
  acked_rx v Handshake n = refl
  acked_rx v «Data» n = refl

  acked_keys : (v : KeyGroup t.H t.P) (id : SpaceId) (n : ℕ) → (key_acked v id n).«data» ≡ (if is_space «Data» id then ring_acked n v.«data» else v.«data»)
  unfolding key_acked
  acked_keys v Initial n = refl
  acked_keys v Handshake n = refl
  acked_keys v «Data» n = refl

  acked_by : (o : OpenPacket) (ack : AckValue) (a : At t) (e : Ledger t) (now : Bool) → now ≡ is_space «Data» o.space → Shows a.state e → IsFor o e → IsFrameOf o (frames.Ack ack) →
      Behind (given_ack m o ack a).state e (given_here now layer.Recovery (spelling (frames.Ack ack)) ++ [])
  unfolding move_to state_move numbers_move keys_move lower_move deeds_move packets_settled datagrams_stepped ids_stepped streams_stepped
  acked_by o ack a e true is s for among =
      let acks : LedgerStep t = Acknowledges o.payload ack.largest in
      let gives : LedgerStep t = Gives o.payload layer.Recovery (spelling (frames.Ack ack)) in
      let among_read : IsIn o.payload e.read = (for (sym is)).0 in
      record {
        end = ledger_after gives (ledger_after acks e);
        goes = goes_next e (ledger_after acks e) (ledger_after gives (ledger_after acks e))
            (goes_one acks e (among_read, (ack, stands_in o (frames.Ack ack) among, refl)))
            (goes_one gives (ledger_after acks e) (among_read, (frames.Ack ack, stands_in o (frames.Ack ack) among, refl)));
        shows = record {
          session = s.session;
          keys = ap (λ (k : Option (OneRttKeys t.H t.P)). ring_acked ack.largest k) s.keys ∙ ap (λ (b : Bool). if b then ring_acked ack.largest a.state.keys.«data» else a.state.keys.«data») is ∙ sym (acked_keys a.state.keys o.space ack.largest);
          next = omega (arith, s.next, acked_next a.state.numbers o.space ack.largest);
          rx = s.rx ∙ sym (acked_rx a.state.numbers o.space ack.largest);
        };
        sent = refl;
        opened = refl;
        read = refl;
        given = refl;
      }
  acked_by o ack a e false is s for among = record {
    end = e;
    goes = goes_here e;
    shows = record {
      session = s.session;
      keys = s.keys ∙ ap (λ (b : Bool). if b then ring_acked ack.largest a.state.keys.«data» else a.state.keys.«data») is ∙ sym (acked_keys a.state.keys o.space ack.largest);
      next = omega (arith, s.next, acked_next a.state.numbers o.space ack.largest);
      rx = s.rx ∙ sym (acked_rx a.state.numbers o.space ack.largest);
    };
    sent = refl;
    opened = refl;
    read = refl;
    given = sym (append-nil e.given);
  }

  pub ack_inside : (o : OpenPacket) (ack : AckValue) (a : At t) → IsFrameOf o (frames.Ack ack) → Inside o a (given_ack m o ack a)
  unfolding move_to deeds_move state_move keys_move
  ack_inside o ack a among = record {
    since = did.Gave layer.Recovery (spelling (frames.Ack ack)) ∷ [];
    appended = appended;
    stays = refl;
    unsealed = refl;
    last = lasts;
    behind = λ e s l for. acked_by o ack a e (is_space «Data» o.space) refl s for among;
  }
    where
      appended : (given_ack m o ack a).did ≡ a.did ++ did.Gave layer.Recovery (spelling (frames.Ack ack)) ∷ []
      appended = refl

      lasts : AreLast a.state → AreLast (given_ack m o ack a).state
      lasts (inl high) = inl ((acked_moves a.state.keys o.space ack.largest).highest ∙ high)
      lasts (inr none) = inr (still_no_ring a.state.keys (key_acked a.state.keys o.space ack.largest) (acked_moves a.state.keys o.space ack.largest) none)

  -- ---- what the session writes

  -- keys that it gives are taken, if they are 1-RTT keys
  wrote_by : (s : View t) (e : Ledger t) (highest : SpaceId) (first : Option (Keys t.H t.P)) (next : Option (KeyPair t.P)) → s.keys.highest ≡ highest → m.write_keys s.lower.session ≡ first → m.next_keys (m.after_write s.lower.session) ≡ next → Shows s e → AreLast s →
      (keys : NewKeys t.H t.P) → keys ≡ keys_behind m highest first (m.after_write s.lower.session) → (session : t.S) → session ≡ session_behind m highest first (m.after_write s.lower.session) →
      (x : LedgerStep t) × MayLedger m Comes x e × ((ledger_after x e).session ≡ session) × ((ledger_after x e).keys ≡ (keys_given s.keys keys).«data») × (ledger_after x e ≡ record e { session = (ledger_after x e).session; keys = (ledger_after x e).keys })
  unfolding keys_given
  wrote_by s e Initial None next high write behind shows last keys is_keys session is_session =
      let written : session ≡ m.after_write e.session = is_session ∙ ap (λ (c : t.S). m.after_write c) (sym shows.session) in
      (Calls session, inr (inl written), refl, shows.keys ∙ ap (λ (k : NewKeys t.H t.P). (keys_given s.keys k).«data») (sym is_keys), refl)
  wrote_by s e Handshake None next high write behind shows last keys is_keys session is_session =
      let written : session ≡ m.after_write e.session = is_session ∙ ap (λ (c : t.S). m.after_write c) (sym shows.session) in
      (Calls session, inr (inl written), refl, shows.keys ∙ ap (λ (k : NewKeys t.H t.P). (keys_given s.keys k).«data») (sym is_keys), refl)
  wrote_by s e «Data» None next high write behind shows last keys is_keys session is_session =
      let written : session ≡ m.after_write e.session = is_session ∙ ap (λ (c : t.S). m.after_write c) (sym shows.session) in
      (Calls session, inr (inl written), refl, shows.keys ∙ ap (λ (k : NewKeys t.H t.P). (keys_given s.keys k).«data») (sym is_keys), refl)
  wrote_by s e Initial (Some k) next high write behind shows last keys is_keys session is_session =
      let written : session ≡ m.after_write e.session = is_session ∙ ap (λ (c : t.S). m.after_write c) (sym shows.session) in
      (Calls session, inr (inl written), refl, shows.keys ∙ ap (λ (x : NewKeys t.H t.P). (keys_given s.keys x).«data») (sym is_keys), refl)
  wrote_by s e «Data» (Some k) next high write behind shows last keys is_keys session is_session =
      let written : session ≡ m.after_write e.session = is_session ∙ ap (λ (c : t.S). m.after_write c) (sym shows.session) in
      (Calls session, inr (inl written), refl, shows.keys ∙ ap (λ (x : NewKeys t.H t.P). (keys_given s.keys x).«data») (sym is_keys), refl)
  wrote_by s e Handshake (Some k) None high write behind shows last keys is_keys session is_session =
      let written : session ≡ m.after_next (m.after_write e.session) = is_session ∙ ap (λ (c : t.S). m.after_next (m.after_write c)) (sym shows.session) in
      (Calls session, inr (inr (written, ap (λ (c : t.S). m.next_keys (m.after_write c)) shows.session ∙ behind)), refl, shows.keys ∙ ap (λ (x : NewKeys t.H t.P). (keys_given s.keys x).«data») (sym (is_keys ∙ ap (λ (n : Option (KeyPair t.P)). ring_with m k n) behind)), refl)
  wrote_by s e Handshake (Some k) (Some n) high write behind shows last keys is_keys session is_session =
      let ring : OneRttKeys t.H t.P = new_ring m.seal_limit m.failure_limit k n in
      let given : AreGiven m ring e.session session = record {
        first = k;
        next = n;
        written = ap (λ (c : t.S). m.write_keys c) shows.session ∙ write;
        behind = ap (λ (c : t.S). m.next_keys (m.after_write c)) shows.session ∙ behind;
        made = refl;
        after = is_session ∙ ap (λ (c : t.S). m.after_next (m.after_write c)) (sym shows.session);
      } in
      (Takes ring session, (shows.keys ∙ none_below last, given), refl, ap (λ (x : NewKeys t.H t.P). (keys_given s.keys x).«data») (sym (is_keys ∙ ap (λ (y : Option (KeyPair t.P)). ring_with m k y) behind)), refl)
    where
      none_below : AreLast s → s.keys.«data» ≡ None
      none_below (inr none) = none
      none_below (inl top) = absurd (let other : «Data» ≡ Handshake = sym top ∙ high in cc)

  given_lasts : (v : KeyGroup t.H t.P) (keys : NewKeys t.H t.P) → AreNext keys v.highest → (v.highest ≡ «Data») ⊎ (v.«data» ≡ None) → ((keys_given v keys).highest ≡ «Data») ⊎ ((keys_given v keys).«data» ≡ None)
  unfolding keys_given
  given_lasts v NoKeys next last = last
  given_lasts v (HandshakeKeys keys) next (inl top) = absurd (let other : «Data» ≡ Initial = sym top ∙ next in cc)
  given_lasts v (HandshakeKeys keys) next (inr none) = inr none
  given_lasts v (DataKeys keys) next last = inl refl

  write_inside : (o : OpenPacket) (bytes : List ℕ) (keys : NewKeys t.H t.P) (session : t.S) (a : At t) → IsWrittenBy m bytes keys session a.state → AreNext keys a.state.keys.highest → Inside o a (move_to (Write bytes keys session) a)
  unfolding move_to state_move numbers_move keys_move lower_move deeds_move session_wrote
  write_inside o bytes keys session a h next = record {
    since = [];
    appended = sym (append-nil a.did);
    stays = refl;
    unsealed = refl;
    last = λ l. given_lasts a.state.keys keys next l;
    behind = λ e s l f.
        let w = wrote_by a.state e a.state.keys.highest (m.write_keys a.state.lower.session) (m.next_keys (m.after_write a.state.lower.session)) refl refl refl s l keys h.given session h.behind in
        record {
          end = ledger_after w.0 e;
          goes = goes_one w.0 e w.1;
          shows = record {
            session = w.2;
            keys = w.3;
            next = subst (λ (x : Ledger t). x.next ≤ next_number a.state.numbers «Data») (sym w.4) s.next;
            rx = ap (λ (x : Ledger t). x.rx) w.4 ∙ s.rx;
          };
          sent = ap (λ (x : Ledger t). x.sent) w.4;
          opened = ap (λ (x : Ledger t). x.opened) w.4;
          read = ap (λ (x : Ledger t). x.read) w.4;
          given = ap (λ (x : Ledger t). x.given) w.4 ∙ sym (append-nil e.given);
        };
  }

  -- ---- each other move of a packet, which names no keys of the ring

  -- the packet counts as accepted
  accepted_next : (v : Numbers) (id : SpaceId) (n : ℕ) → next_number (number_accepted v id n) «Data» ≡ next_number v «Data»
  unfolding next_number number_accepted accepted_there
  accepted_next v Initial n = refl
  accepted_next v Handshake n = refl
  accepted_next v «Data» n = refl

  accepted_rx : (v : Numbers) (id : SpaceId) (n : ℕ) → received_number (number_accepted v id n) «Data» ≡ (if is_space «Data» id then max (received_number v «Data») n else received_number v «Data»)
  unfolding received_number number_accepted accepted_there
  accepted_rx v Initial n = refl
  accepted_rx v Handshake n = refl
  accepted_rx v «Data» n = refl

  entered_next : (v : Numbers) (id : SpaceId) (n : ℕ) → next_number (number_entered v id n) «Data» ≡ next_number v «Data»
  unfolding next_number number_entered entered_in
  entered_next v Initial n = refl
  entered_next v Handshake n = refl
  entered_next v «Data» n = refl

  entered_rx : (v : Numbers) (id : SpaceId) (n : ℕ) → received_number (number_entered v id n) «Data» ≡ received_number v «Data»
  unfolding received_number number_entered entered_in
  entered_rx v Initial n = refl
  entered_rx v Handshake n = refl
  entered_rx v «Data» n = refl

  accept_by : (o : OpenPacket) (time n : ℕ) (id : SpaceId) (el : Bool) (g : Signs) (v : Verdict) (a : At t) (e : Ledger t) (now : Bool) → now ≡ is_space «Data» id → id ≡ o.space → n ≡ o.number → Shows a.state e → IsFor o e →
      Behind (move_to (Accept time id n el g v) a).state e []
  unfolding move_to state_move numbers_move keys_move lower_move
  accept_by o time n id el g v a e true is space number s for =
      let below : n < bound e.opened = subst (λ (x : ℕ). x < bound e.opened) (sym number) (for (ap (λ (x : SpaceId). is_space «Data» x) (sym space) ∙ sym is)).1 in
      record {
        end = ledger_after (Accepts n) e;
        goes = goes_one (Accepts n) e below;
        shows = record {
          session = s.session;
          keys = s.keys;
          next = omega (arith, s.next, accepted_next a.state.numbers id n);
          rx = ap (λ (x : ℕ). max x n) s.rx ∙ ap (λ (b : Bool). if b then max (received_number a.state.numbers «Data») n else received_number a.state.numbers «Data») is ∙ sym (accepted_rx a.state.numbers id n);
        };
        sent = refl;
        opened = refl;
        read = refl;
        given = sym (append-nil e.given);
      }
  accept_by o time n id el g v a e false is space number s for = record {
    end = e;
    goes = goes_here e;
    shows = record {
      session = s.session;
      keys = s.keys;
      next = omega (arith, s.next, accepted_next a.state.numbers id n);
      rx = s.rx ∙ ap (λ (b : Bool). if b then max (received_number a.state.numbers «Data») n else received_number a.state.numbers «Data») is ∙ sym (accepted_rx a.state.numbers id n);
    };
    sent = refl;
    opened = refl;
    read = refl;
    given = sym (append-nil e.given);
  }

  accept_inside : (o : OpenPacket) (time n : ℕ) (id : SpaceId) (el : Bool) (g : Signs) (v : Verdict) (a : At t) → id ≡ o.space → n ≡ o.number → Inside o a (move_to (Accept time id n el g v) a)
  unfolding move_to deeds_move state_move keys_move
  accept_inside o time n id el g v a space number = record {
    since = did.Piece (Some id) (Some n) v ∷ [];
    appended = appended;
    stays = ap (λ (x : SpaceId). is_space «Data» x) space;
    unsealed = refl;
    last = lasts;
    behind = λ e s l for. accept_by o time n id el g v a e (is_space «Data» id) refl space number s for;
  }
    where
      appended : (move_to (Accept time id n el g v) a).did ≡ a.did ++ did.Piece (Some id) (Some n) v ∷ []
      appended = refl

      lasts : AreLast a.state → AreLast (move_to (Accept time id n el g v) a).state
      lasts l = l

  dropped_data : (v : KeyGroup t.H t.P) (id : SpaceId) → is_space id «Data» ≡ false → (keys_dropped v id).«data» ≡ v.«data»
  unfolding keys_dropped
  dropped_data v Initial h = refl
  dropped_data v Handshake h = refl
  dropped_data v «Data» h = absurd cc

  dropped_top : (v : KeyGroup t.H t.P) (id : SpaceId) → (keys_dropped v id).highest ≡ v.highest
  unfolding keys_dropped
  dropped_top v Initial = refl
  dropped_top v Handshake = refl
  dropped_top v «Data» = refl

  -- what is still is so for each of these moves
  pub forget_still : (id : SpaceId) (s : View t) → is_space id «Data» ≡ false → IsStill (Forget id) s
  unfolding numbers_move keys_move lower_move deeds_move flight_dropped
  forget_still id s below = record { session = refl; keys = dropped_data s.keys id below; highest = dropped_top s.keys id; next = omega arith; rx = refl; unsealed = refl }

  pub renew_still : (time : ℕ) (cid token : List ℕ) (keys : SpaceKeys t.H t.P) (s : View t) → IsStill (Renew time cid token keys) s
  unfolding numbers_move keys_move lower_move deeds_move flight_dropped ids_stepped initial_renewed space_renewed next_number received_number
  renew_still time cid token keys s = record { session = refl; keys = refl; highest = refl; next = omega arith; rx = refl; unsealed = refl }

  enter_still : (id : SpaceId) (n : ℕ) (v : Verdict) (s : View t) → IsStill (Enter id n v) s
  unfolding numbers_move keys_move lower_move deeds_move
  enter_still id n v s = record { session = refl; keys = refl; highest = refl; next = omega (arith, entered_next s.numbers id n); rx = entered_rx s.numbers id n; unsealed = refl }

  pub told_still : (d : Did) (s : View t) → sealed_told (d ∷ []) ≡ [] → IsStill (Tell d) s
  unfolding numbers_move keys_move lower_move deeds_move
  told_still d s none = record { session = refl; keys = refl; highest = refl; next = omega arith; rx = refl; unsealed = none }

  hand_still : (f : FrameValue) (s : View t) → IsStill (Hand f) s
  unfolding numbers_move keys_move lower_move deeds_move frame_handed datagrams_stepped streams_stepped
  hand_still f s = record { session = handed_session f s.lower; keys = refl; highest = refl; next = omega arith; rx = refl; unsealed = handed_told (λ ds. sealed_told ds ≡ []) f refl (λ body. refl) }
    where
      handed_session : (f : FrameValue) (l : Lower t.S) → (frame_handed f l).session ≡ l.session
      handed_session f l = refl

  hand_inside : (o : OpenPacket) (f : FrameValue) (a : At t) → IsFrameOf o f → Inside o a (move_to (Hand f) a)
  unfolding deeds_move
  hand_inside o f a among = by_streams (is_given_to_streams f) refl
    where
      by_streams : (b : Bool) → is_given_to_streams f ≡ b → Inside o a (move_to (Hand f) a)
      by_streams true is =
          gives_inside o (Hand f) a layer.Streams f (hand_still f a.state) (ap (λ (b : Bool). if b then did.Gave layer.Streams (spelling f) ∷ [] else []) is) among (λ here. refl)
      by_streams false is =
          let none : told_to_streams f ≡ [] = ap (λ (b : Bool). if b then did.Gave layer.Streams (spelling f) ∷ [] else []) is in
          let now : Bool = is_space «Data» o.space in
          still_inside o (Hand f) a (hand_still f a.state) (ap (λ (ds : List Did). last_of «Data» now ds) none) (ap (λ (ds : List Did). given_told now ds) none)

  tell_inside : (o : OpenPacket) (d : Did) (a : At t) → IsToldOf o d a.state → IsBeside {t = t} (Tell d) → Inside o a (move_to (Tell d) a)
  unfolding deeds_move
  tell_inside o (did.Gave layer.Session body) a h beside = absurd beside
  tell_inside o (did.Gave layer.Recovery body) a h beside = absurd beside
  tell_inside o (did.Gave layer.Life body) a h beside =
      gives_inside o (Tell (did.Gave layer.Life body)) a layer.Life h.0 (told_still (did.Gave layer.Life body) a.state refl) (ap (λ (b : List ℕ). did.Gave layer.Life b ∷ []) h.3) h.1 (λ here. refl)
  tell_inside o (did.Gave layer.Store body) a h beside =
      gives_inside o (Tell (did.Gave layer.Store body)) a layer.Store h.0 (told_still (did.Gave layer.Store body) a.state refl) (ap (λ (b : List ℕ). did.Gave layer.Store b ∷ []) h.3) h.1 (λ here. refl)
  tell_inside o (did.Gave layer.Ids body) a h beside =
      gives_inside o (Tell (did.Gave layer.Ids body)) a layer.Ids h.0 (told_still (did.Gave layer.Ids body) a.state refl) (ap (λ (b : List ℕ). did.Gave layer.Ids b ∷ []) h.3) h.1 (λ here. refl)
  tell_inside o (did.Gave layer.Streams body) a h beside =
      gives_inside o (Tell (did.Gave layer.Streams body)) a layer.Streams h.0 (told_still (did.Gave layer.Streams body) a.state refl) (ap (λ (b : List ℕ). did.Gave layer.Streams b ∷ []) h.3) h.1 (λ here. refl)
  tell_inside o (did.Piece space number v) a h beside = still_inside o (Tell (did.Piece space number v)) a (told_still (did.Piece space number v) a.state refl) (ap (λ (x : Option SpaceId). is_of «Data» x) h.0) refl
  tell_inside o _ a h beside = absurd h

  -- a move that leaves all of that, whatever is told of it
  plain_inside : (o : OpenPacket) (x : Move t) (a : At t) → (lower_move x a.state).session ≡ a.state.lower.session → (keys_move x a.state).«data» ≡ a.state.keys.«data» → (keys_move x a.state).highest ≡ a.state.keys.highest → numbers_move x a.state ≡ a.state.numbers →
      sealed_told (deeds_move x a.state) ≡ [] → last_of «Data» (is_space «Data» o.space) (deeds_move x a.state) ≡ is_space «Data» o.space → given_told (is_space «Data» o.space) (deeds_move x a.state) ≡ [] → Inside o a (move_to x a)
  plain_inside o x a session keys highest numbers unsealed stays none =
      still_inside o x a
      (record {
        session = session;
        keys = keys;
        highest = highest;
        next = omega (arith, ap (λ (v : Numbers). next_number v «Data») numbers);
        rx = ap (λ (v : Numbers). received_number v «Data») numbers;
        unsealed = unsealed;
      }) stays none

  pub move_inside : (o : OpenPacket) (x : Move t) (a : At t) → o.which ≡ None → IsInPacket m o x a.state → IsBeside x → MayMove x a.state → Inside o a (move_to x a)
  unfolding numbers_move keys_move lower_move deeds_move bytes_came limits_learned streams_closed ids_stepped MayMove streams_stepped
  move_inside o (Read space count session) a none h beside may = absurd beside
  move_inside o (Ack space n after) a none h beside may = absurd beside
  move_inside o (Seal time f n size fs) a none h beside may = absurd h
  move_inside o Fail a none h beside may = absurd h
  move_inside o Discard a none h beside may = absurd h
  move_inside o (Update fresh session) a none h beside may = absurd h
  move_inside o (Renew time cid token keys) a none h beside may = absurd h
  move_inside o Skip a none h beside may = absurd h
  move_inside o (Begin id opens) a none h beside may = absurd h
  move_inside o (Take id fs) a none h beside may = absurd h
  move_inside o (Fire after) a none h beside may = absurd h
  move_inside o (Call y) a none h beside may = absurd h
  move_inside o (Post y) a none h beside may = absurd h
  move_inside o ReportStream a none h beside may = absurd h
  move_inside o ReportStreams a none h beside may = absurd h
  move_inside o (Unseal time n which fresh session) a none h beside may = let named : o.which ≡ Some which = h.named in absurd cc
  move_inside o (Forget Initial) a none h beside may = still_inside o (Forget Initial) a (forget_still Initial a.state refl) refl refl
  move_inside o (Forget Handshake) a none h beside may = still_inside o (Forget Handshake) a (forget_still Handshake a.state refl) refl refl
  move_inside o (Forget «Data») a none h beside may = absurd h
  move_inside o (Write bytes keys session) a none h beside may = write_inside o bytes keys session a h may
  move_inside o (Tell d) a none h beside may = tell_inside o d a h beside
  move_inside o (Enter space n v) a none h beside may = still_inside o (Enter space n v) a (enter_still space n v a.state) (ap (λ (y : SpaceId). is_space «Data» y) h.1.space) refl
  move_inside o (Accept time space n e g v) a none h beside may = accept_inside o time n space e g v a h.3.space h.3.same
  move_inside o (Hand f) a none h beside may = hand_inside o f a h
  move_inside o (Insert new) a none h beside may =
      gives_inside o (Insert new) a layer.Ids (frames.NewConnectionId new) (record { session = refl; keys = refl; highest = refl; next = omega arith; rx = refl; unsealed = refl }) refl h (λ here. refl)
  move_inside o (Retire time n) a none h beside may =
      gives_inside o (Retire time n) a layer.Ids (frames.RetireConnectionId n) (record { session = refl; keys = refl; highest = refl; next = omega arith; rx = refl; unsealed = refl }) refl h.1 (λ here. refl)
  move_inside o x a none h beside may = plain_inside o x a refl refl refl refl refl refl refl
