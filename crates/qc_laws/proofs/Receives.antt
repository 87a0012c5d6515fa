-- What a datagram does. What holds of the moves that receiving makes outside of the packets which open, and of each packet of the
-- datagram that opened, holds of the datagram; so does what holds of each move that receiving makes.
use Rattle.std.proofs.Common.{◌≡◌, ℕ, ◌<◌, ◌⊎◌, inl, inr, List, [], ◌∷◌, drop, refl, sym, subst, Bool, true, false, Option, Some, None, if◌then◌else◌, arith}
use Rattle.std.specs.Cmp.Lexicographic.{other_text, pointwise}
use Rattle.std.specs.Prelude.{not, ◌&&◌, Ok, Err, length, nat_eq, nat_lt, take}
use Rattle.std.proofs.lemmas.Bool.Decides.{nat_tests}
use Rattle.qc_base.specs.declared.side.Side.TheVariants.{Client}
use Rattle.qc_base.specs.declared.side.SpaceId.{SpaceId}
use Rattle.qc_header.specs.HeaderGrammar.{DatagramItem}
use Rattle.qc_header.specs.Piece.{Piece, space_of}
use Rattle.qc_header.specs.declared.protected.ProtectedHeader.{ProtectedHeader}
use Rattle.qc_header.specs.declared.protected.ProtectedHeader.TheVariants as protected
use Rattle.qc_base.specs.declared.transport_error.TransportError.{TransportError}
use Rattle.qc_state.specs.declared.deeds.Did.{Did}
use Rattle.qc_state.specs.declared.coming.Coming.{Coming}
use Rattle.qc_state.specs.declared.deeds.Did.TheVariants as did
use Rattle.qc_state.specs.declared.deeds.Verdict.{Verdict}
use Rattle.qc_state.specs.declared.deeds.Verdict.TheVariants as verdict
use Rattle.qc_state.specs.declared.life.ConnectionError.{ConnectionError}
use Rattle.qc_state.specs.declared.life.ConnectionError.TheVariants as lost
use Rattle.qc_state.specs.declared.life.State.{State}
use Rattle.qc_state.specs.declared.life.State.TheVariants as state
use Rattle.qc_state.specs.declared.opening.Opening.{Opening}
use Rattle.qc_state.specs.declared.opening.Opening.TheVariants.{Unreadable, Unopened, Reserved, Untimely, Opened}
use Rattle.qc_state.specs.Keys.{fails_too_often, new_keys}
use Rattle.qc_state.specs.Life.{rank_of, is_open, is_over}
use Rattle.qc_state.specs.Moves.{IsTold, Move, Arm, Expect, Fail, Give, Hear, PeerCloses, Raise, Renew, Shut, Tell, is_unanswered, move_to, state_move, setup_move, life_move, MayMove, armed_after, armed_with}
use Rattle.qc_state.specs.Opening.{opening_of}
use Rattle.qc_state.specs.Paths.{is_blocked}
use Rattle.qc_state.specs.Receiving.{piece_told, received_after, failed_after, formed_after, left_after, opening_after, piece_after, renewed_after, retried_after, unnumbered_after, pieces_after, cut_of, datagram_after, counted_after, heard_after, first_token, first_after}
use Rattle.qc_state.specs.Recovering.{loss_time}
use Rattle.qc_state.specs.Setup.{token_expected}
use Rattle.qc_state.specs.Stopping.{given_after, key_limit_error, killed_after, stopped_after, update_error, violation_at}
use Rattle.qc_state.specs.Types.{Types, Meaning}
use Rattle.qc_state.specs.Verdicts.{first_row, ids_end, lacks_version, lists_version, retry_token, takes_retry, unnumbered_rows, unnumbered_verdict}
use Rattle.qc_state.specs.View.{View, At}
use Rattle.qc_laws.specs.RetryLaws.{IsRetry, ListsOthers}
use Rattle.qc_state.proofs.Ends.{given_by, stopped_by}
use Rattle.qc_state.proofs.OpenPackets.{holds_packet, packet_received}
use Rattle.qc_state.proofs.PacketMoves.{OpenPacket, in_packet_piece}
use Rattle.qc_state.proofs.Telling.{open_rank}
use Rattle.qc_state.proofs.ReceivedMoves.{IsOfPiece, IsOutside, IsReceived, IsUnopened, IsUnopenedError, IsUnread, close_for, outside_received, piece_received, unopened_outside, unopened_piece}

-- a connection that isn't over has not ended
lively_rank : (s : State) → is_over s ≡ false → rank_of s < 4
lively_rank state.Handshake h = omega arith
lively_rank state.Established h = omega arith
lively_rank state.Closed h = omega arith
lively_rank state.Draining h = cc
lively_rank state.Drained h = cc

-- a packet stands among the items of a datagram
abbrev pub IsPieceOf : Piece → List DatagramItem → Type 0
IsPieceOf p [] = ⊥
IsPieceOf p (Ok q ∷ items) = (q ≡ p) ⊎ IsPieceOf p items
IsPieceOf p (Err fault ∷ items) = ⊥

module _ {t : Types} where
  -- a packet opened whose datagram came so: its form has this space, and its protection came off with this spin bit, source id, token,
  -- number and payload
  pub record IsOpened (m : Meaning t) (coming : Coming) (s : View t) (p : Piece) (o : OpenPacket) : Type 0 where
    pub came : o.coming ≡ coming
    pub form : space_of p.header ≡ Some o.space
    pub opened : opening_of m s p ≡ Opened o.source o.token o.spin o.which o.number o.payload
    pub lively : is_over s.life.state ≡ false

-- the only row of a packet without a number holds where its verdict isn't the last
row_taken : (b : Bool) → first_row ((b, verdict.RetryTaken) ∷ []) verdict.Ignored ≡ verdict.RetryTaken → b ≡ true
row_taken true e = refl
row_taken false e = cc

no_taken : {X : Type 0} (b : Bool) → first_row ((b, verdict.Versions) ∷ []) verdict.Ignored ≡ verdict.RetryTaken → X
no_taken true e = absurd cc
no_taken false e = absurd cc

row_versions : (b : Bool) → first_row ((b, verdict.Versions) ∷ []) verdict.Ignored ≡ verdict.Versions → b ≡ true
row_versions true e = refl
row_versions false e = cc

no_versions : {X : Type 0} (b : Bool) → first_row ((b, verdict.RetryTaken) ∷ []) verdict.Ignored ≡ verdict.Versions → X
no_versions true e = absurd cc
no_versions false e = absurd cc

first_true : (b c : Bool) → (b && c) ≡ true → b ≡ true
first_true true c e = refl
first_true false c e = cc

rest_true : (b c : Bool) → (b && c) ≡ true → c ≡ true
rest_true true c e = e
rest_true false c e = absurd cc

not_so : (b : Bool) → not b ≡ true → b ≡ false
not_so true e = cc
not_so false e = refl

longer_by : (n : ℕ) → nat_lt 16 n ≡ true → 16 < n
longer_by n e = grind (arith, nat_tests, e)

low_by : (s : State) → is_open s ≡ true → rank_of s < 3
low_by s h = let low : rank_of s < 2 = open_rank s h in omega arith

module _ {t : Types} where
  -- a Retry that a client takes, which wasn't answered
  pub record Renews (m : Meaning t) (Comes : Piece → Type 0) (s : View t) (cid token : List ℕ) : Type 0 where
    pub piece : Piece
    pub comes : Comes piece
    pub unanswered : is_unanswered s ≡ true
    pub is : IsRetry m s.setup.fixed.first_cid piece cid token

  retry_is : (m : Meaning t) (Comes : Piece → Type 0) (s : View t) (p : Piece) (dst_cid cid : List ℕ) (version : ℕ) → Comes p → p.header ≡ protected.Retry dst_cid cid version →
      takes_retry m s cid (take (ids_end dst_cid cid) p.bytes) (drop (ids_end dst_cid cid) p.bytes) ≡ true → Renews m Comes s cid (retry_token (drop (ids_end dst_cid cid) p.bytes))
  unfolding takes_retry
  retry_is m Comes s p dst_cid cid version comes form h =
      let more = rest_true (is_unanswered s) _ h in
      let most = rest_true (nat_lt 16 (length (drop (ids_end dst_cid cid) p.bytes))) _ more in
      record {
        piece = p;
        comes = comes;
        unanswered = first_true (is_unanswered s) _ h;
        is = record {
          dst_cid = dst_cid;
          version = version;
          form = form;
          session = s.lower.session;
          fits = first_true (m.fits_retry s.lower.session s.setup.fixed.first_cid (take (ids_end dst_cid cid) p.bytes) (drop (ids_end dst_cid cid) p.bytes)) _ most;
          longer = longer_by (length (drop (ids_end dst_cid cid) p.bytes)) (first_true (nat_lt 16 (length (drop (ids_end dst_cid cid) p.bytes))) _ more);
          other = other_text cid s.setup.fixed.first_cid (sym (not_so (pointwise nat_eq cid s.setup.fixed.first_cid)
              (rest_true (m.fits_retry s.lower.session s.setup.fixed.first_cid (take (ids_end dst_cid cid) p.bytes) (drop (ids_end dst_cid cid) p.bytes)) _ most)));
          given = refl;
        };
      }

  -- a list of versions without this end's comes to a client that wasn't answered
  pub record Parts (Comes : Piece → Type 0) (s : View t) : Type 0 where
    pub piece : Piece
    pub comes : Comes piece
    pub unanswered : is_unanswered s ≡ true
    pub is : ListsOthers s.setup.fixed.version piece

  versions_are : (Comes : Piece → Type 0) (s : View t) (p : Piece) (random : ℕ) (src_cid dst_cid : List ℕ) → Comes p → p.header ≡ protected.VersionNegotiate random src_cid dst_cid →
      lacks_version s (drop (ids_end dst_cid src_cid) p.bytes) ≡ true → Parts Comes s
  unfolding lacks_version
  versions_are Comes s p random src_cid dst_cid comes form h = record {
    piece = p;
    comes = comes;
    unanswered = first_true (is_unanswered s) _ h;
    is = record { random = random; src_cid = src_cid; dst_cid = dst_cid; form = form; lacks = not_so (lists_version s.setup.fixed.version (drop (ids_end dst_cid src_cid) p.bytes)) (rest_true (is_unanswered s) _ h) };
  }

  -- what is expected leaves how a datagram is cut
  pub same_cut : (token bytes : List ℕ) (a : At t) → cut_of (move_to (Expect token) a).state bytes ≡ cut_of a.state bytes
  unfolding move_to state_move setup_move token_expected
  same_cut token bytes a = refl

-- ---- the moves around packets that opened, beside those by which this end closes, those of a Retry, and those of a list of versions

-- the error for which this end closes with a packet of this verdict, whose payload isn't read
abbrev pub IsShutBy : Verdict → TransportError → Type 0
IsShutBy verdict.BadBits error = error ≡ violation_at None
IsShutBy verdict.BadUpdate error = error ≡ update_error
IsShutBy _ error = ⊥

-- a deed that tells of a packet which was ignored, or which its key didn't open
abbrev pub IsShunned : Did → Type 0
IsShunned (did.Piece space number verdict.Ignored) = Unit {0}
IsShunned (did.Piece space number verdict.Failure) = Unit {0}
IsShunned _ = ⊥

pub shunned_unread : (d : Did) → IsShunned d → IsUnread d
shunned_unread (did.Piece space number verdict.Ignored) h = tt
shunned_unread (did.Piece space number verdict.Failure) h = tt
shunned_unread _ h = absurd h

-- the moves that such a packet makes: the connection ends where more packets didn't open than may
abbrev pub IsUnshut : {t : Types} → Move t → Type 0
IsUnshut Fail = Unit {0}
IsUnshut (Raise to) = to ≡ state.Drained
IsUnshut (Tell d) = IsShunned d
IsUnshut (Give why) = why ≡ lost.TransportError key_limit_error
IsUnshut _ = ⊥

unshut_unopened : {t : Types} (time : ℕ) (x : Move t) (s : View t) → IsUnshut x → IsUnopened time x s
unshut_unopened time Fail s h = tt
unshut_unopened time (Raise to) s h = h
unshut_unopened time (Tell d) s h = shunned_unread d h
unshut_unopened time (Give why) s h = inr (inl h)
unshut_unopened time _ s h = absurd h

-- so of those that receiving makes at this time for no packet that opened
abbrev pub IsAround : {t : Types} → (time : ℕ) → Move t → View t → Type 0
IsAround time (Expect token) s = Unit {0}
IsAround time (Hear bytes) s = Unit {0}
IsAround time (Arm at) s = at ≡ loss_time s (is_blocked s.paths) time
IsAround time x s = IsUnshut x

around_outside : {t : Types} (time : ℕ) (x : Move t) (s : View t) → IsAround time x s → IsOutside time x s
around_outside time (Expect token) s h = tt
around_outside time (Hear bytes) s h = tt
around_outside time (Arm at) s h = h
around_outside time x s h = unshut_unopened time x s h

unshut_around : {t : Types} (time : ℕ) (x : Move t) (s : View t) → IsUnshut x → IsAround time x s
unshut_around time (Expect token) s h = absurd h
unshut_around time (Hear bytes) s h = absurd h
unshut_around time (Arm at) s h = absurd h
unshut_around time _ s h = h

-- those by which a client leaves that a list of versions came to
abbrev pub IsLeaving : {t : Types} → (time : ℕ) → Move t → Type 0
IsLeaving time (Tell d) = d ≡ did.Piece None None verdict.Versions
IsLeaving time (PeerCloses at) = at ≡ time
IsLeaving time (Give why) = why ≡ lost.VersionMismatch
IsLeaving time _ = ⊥

leaving_unopened : {t : Types} (time : ℕ) (x : Move t) (s : View t) → IsLeaving time x → IsUnopened time x s
leaving_unopened time (Tell d) s h = subst (λ (told : Did). IsUnread told) (sym h) tt
leaving_unopened time (PeerCloses at) s h = h
leaving_unopened time (Give why) s h = inr (inr h)
leaving_unopened time _ s h = absurd h

-- what holds of no move, of two moves one after the other, and of each such move that receiving makes at this time for no packet that opened, holds of
-- the bytes of a datagram, which count
module _ {t : Types} (time : ℕ) (R : At t → At t → Type 0) (here : (a : At t) → R a a) (next : (a b c : At t) → R a b → R b c → R a c)
    (move : (x : Move t) (a : At t) → IsAround time x a.state → MayMove x a.state → R a (move_to x a)) where
  -- the loss timer is set anew where a datagram can be begun again
  freed_by : (a : At t) (b : Bool) → R a (if b then armed_after time a else a)
  unfolding armed_after armed_with MayMove
  freed_by a true = move (Arm (loss_time a.state (is_blocked a.state.paths) time)) a refl (record { blocked = is_blocked a.state.paths; time = time; set = refl })
  freed_by a false = here a

  counted_around : (blocked : Bool) (n : ℕ) (a : At t) → R a (counted_after time blocked n a)
  unfolding counted_after MayMove
  counted_around blocked n a =
      let b : At t = move_to (Hear n) a in
      next a b _ (move (Hear n) a tt tt) (freed_by b (blocked && not (is_blocked b.state.paths)))

-- What holds of no move, of two moves one after the other, of each such move that a packet makes which doesn't open, where it may be made, and of each
-- packet that came and opened, holds of packets all of which come. Where this end closes for what such a packet shows, it has to hold of what is told
-- of it with the end behind that; and so it has to hold of a Retry that is taken, and of a list of versions.
module _ {t : Types} (m : Meaning t) (coming : Coming) (Comes : Piece → Type 0) (R : At t → At t → Type 0) (here : (a : At t) → R a a) (next : (a b c : At t) → R a b → R b c → R a c)
    (move : (x : Move t) (a : At t) → IsUnshut x → MayMove x a.state → R a (move_to x a))
    (shut : (space : Option SpaceId) (number : ℕ) (v : Verdict) (error : TransportError) (a : At t) → IsShutBy v error → R a (stopped_after coming.time error (move_to (Tell (did.Piece space (Some number) v)) a)))
    (retry : (cid token : List ℕ) (a : At t) → Renews m Comes a.state cid token → R a (renewed_after m coming.time cid token a))
    (versions : (a : At t) → Parts Comes a.state → R a (left_after coming.time lost.VersionMismatch (piece_told None None verdict.Versions a)))
    (packet : (p : Piece) → Comes p → (o : OpenPacket) (a : At t) → IsOpened m coming a.state p o → R a (packet_received m o a)) where
  -- the connection ends at once, or not
  killed_by : (a : At t) (b : Bool) → rank_of a.state.life.state < 4 → R a (if b then killed_after (lost.TransportError key_limit_error) a else a)
  unfolding killed_after MayMove
  killed_by a true h =
      let why : ConnectionError = lost.TransportError key_limit_error in
      let b : At t = move_to (Raise state.Drained) a in
      next a b _ (move (Raise state.Drained) a refl h) (given_by R here next why b (λ none. move (Give why) b refl none))
  killed_by a false h = here a

  -- a packet didn't open
  failed : (space : Option SpaceId) (a : At t) → rank_of a.state.life.state < 4 → R a (failed_after space a)
  unfolding failed_after MayMove move_to state_move life_move
  failed space a low =
      let b : At t = move_to Fail a in
      let c : At t = move_to (Tell (did.Piece space None verdict.Failure)) b in
      next a b _ (move Fail a tt tt) (next b c _ (move (Tell (did.Piece space None verdict.Failure)) b tt refl) (killed_by c (fails_too_often c.state.keys) low))

  -- a packet by what came of taking its protection off
  opening_by : (p : Piece) (space : Option SpaceId) (o : Opening) (a : At t) → Comes p → space_of p.header ≡ space → opening_of m a.state p ≡ o → is_over a.state.life.state ≡ false → R a (opening_after m coming space o a)
  unfolding MayMove
  opening_by p space Unreadable a comes form opened lively = move (Tell (did.Piece space None verdict.Ignored)) a tt refl
  opening_by p space Unopened a comes form opened lively = failed space a (lively_rank a.state.life.state lively)
  opening_by p space (Reserved number) a comes form opened lively = shut space number verdict.BadBits (violation_at None) a refl
  opening_by p space (Untimely number) a comes form opened lively = shut space number verdict.BadUpdate update_error a refl
  opening_by p (Some space) (Opened source token spin which number payload) a comes form opened lively =
      packet p comes (record { coming = coming; space = space; spin = spin; which = which; source = source; token = token; number = number; payload = payload }) a
      (record { came = refl; form = form; opened = opened; lively = lively })
  opening_by p None (Opened source token spin which number payload) a comes form opened lively = move (Tell (did.Piece None None verdict.Ignored)) a tt refl

  -- a Retry that is taken
  retried_by : (p : Piece) (header : ProtectedHeader) (a : At t) → Comes p → p.header ≡ header → first_row (unnumbered_rows m a.state header p.bytes) verdict.Ignored ≡ verdict.RetryTaken →
      R a (retried_after m coming.time header p.bytes a)
  retried_by p (protected.Retry dst_cid src_cid version) a comes form e =
      retry src_cid (retry_token (drop (ids_end dst_cid src_cid) p.bytes)) a (retry_is m Comes a.state p dst_cid src_cid version comes form (row_taken _ e))
  retried_by p (protected.Initial dst_cid src_cid token_start token_len version) a comes form e = cc
  retried_by p (protected.Long ty dst_cid src_cid version) a comes form e = cc
  retried_by p (protected.Short spin dst_cid) a comes form e = cc
  retried_by p (protected.VersionNegotiate random src_cid dst_cid) a comes form e = no_taken _ e

  -- a list of versions that counts
  listed_by : (p : Piece) (header : ProtectedHeader) (a : At t) → Comes p → p.header ≡ header → first_row (unnumbered_rows m a.state header p.bytes) verdict.Ignored ≡ verdict.Versions → Parts Comes a.state
  listed_by p (protected.VersionNegotiate random src_cid dst_cid) a comes form e = versions_are Comes a.state p random src_cid dst_cid comes form (row_versions _ e)
  listed_by p (protected.Initial dst_cid src_cid token_start token_len version) a comes form e = absurd cc
  listed_by p (protected.Long ty dst_cid src_cid version) a comes form e = absurd cc
  listed_by p (protected.Short spin dst_cid) a comes form e = absurd cc
  listed_by p (protected.Retry dst_cid src_cid version) a comes form e = no_versions _ e

  -- a packet without a number, by its verdict
  unnumbered_by : (p : Piece) (v : Verdict) (a : At t) → Comes p → unnumbered_verdict m a.state p ≡ v → R a (unnumbered_after m coming.time p v a)
  unfolding unnumbered_verdict MayMove
  unnumbered_by p verdict.RetryTaken a comes e = retried_by p p.header a comes refl e
  unnumbered_by p verdict.Versions a comes e = versions a (listed_by p p.header a comes refl e)
  unnumbered_by p verdict.Ignored a comes e = move (Tell (did.Piece None None verdict.Ignored)) a tt refl
  unnumbered_by p verdict.Failure a comes e = move (Tell (did.Piece None None verdict.Ignored)) a tt refl
  unnumbered_by p verdict.BadBits a comes e = move (Tell (did.Piece None None verdict.Ignored)) a tt refl
  unnumbered_by p verdict.BadUpdate a comes e = move (Tell (did.Piece None None verdict.Ignored)) a tt refl
  unnumbered_by p verdict.Seen a comes e = move (Tell (did.Piece None None verdict.Ignored)) a tt refl
  unnumbered_by p verdict.ReadForClose a comes e = move (Tell (did.Piece None None verdict.Ignored)) a tt refl
  unnumbered_by p verdict.NumberOnly a comes e = move (Tell (did.Piece None None verdict.Ignored)) a tt refl
  unnumbered_by p verdict.AckOnly a comes e = move (Tell (did.Piece None None verdict.Ignored)) a tt refl
  unnumbered_by p verdict.Admitted a comes e = move (Tell (did.Piece None None verdict.Ignored)) a tt refl

  formed_by : (p : Piece) (space : Option SpaceId) (a : At t) → Comes p → space_of p.header ≡ space → is_over a.state.life.state ≡ false → R a (formed_after m coming space p a)
  formed_by p None a comes form lively = unnumbered_by p (unnumbered_verdict m a.state p) a comes refl
  formed_by p (Some id) a comes form lively = opening_by p (Some id) (opening_of m a.state p) a comes form refl lively

  piece_by : (p : Piece) (a : At t) (b : Bool) → Comes p → is_over a.state.life.state ≡ b → R a (if b then piece_told (space_of p.header) None verdict.Ignored a else formed_after m coming (space_of p.header) p a)
  unfolding MayMove
  piece_by p a true comes h = move (Tell (did.Piece (space_of p.header) None verdict.Ignored)) a tt refl
  piece_by p a false comes h = formed_by p (space_of p.header) a comes refl h

  -- a packet
  piece_around : (p : Piece) (a : At t) → Comes p → R a (piece_after m coming p a)
  unfolding piece_after
  piece_around p a comes = piece_by p a _ comes refl

  -- the packets of a datagram
  pieces_around : (items : List DatagramItem) (a : At t) → ((p : Piece) → IsPieceOf p items → Comes p) → R a (pieces_after m coming items a)
  pieces_around [] a come = here a
  pieces_around (Err fault ∷ items) a come = here a
  pieces_around (Ok p ∷ items) a come =
      next a (piece_after m coming p a) _ (piece_around p a (come p (inl refl))) (pieces_around items (piece_after m coming p a) (λ q among. come q (inr among)))

-- what holds of these, and of each other such move that receiving makes for no packet that opened, holds of a datagram all of whose packets come
module _ {t : Types} (m : Meaning t) (coming : Coming) (Comes : Piece → Type 0) (R : At t → At t → Type 0) (here : (a : At t) → R a a) (next : (a b c : At t) → R a b → R b c → R a c)
    (move : (x : Move t) (a : At t) → IsAround coming.time x a.state → MayMove x a.state → R a (move_to x a))
    (shut : (space : Option SpaceId) (number : ℕ) (v : Verdict) (error : TransportError) (a : At t) → IsShutBy v error → R a (stopped_after coming.time error (move_to (Tell (did.Piece space (Some number) v)) a)))
    (retry : (cid token : List ℕ) (a : At t) → Renews m Comes a.state cid token → R a (renewed_after m coming.time cid token a))
    (versions : (a : At t) → Parts Comes a.state → R a (left_after coming.time lost.VersionMismatch (piece_told None None verdict.Versions a)))
    (packet : (p : Piece) → Comes p → (o : OpenPacket) (a : At t) → IsOpened m coming a.state p o → R a (packet_received m o a)) where
  heard_by : (items : List DatagramItem) (a : At t) (b : Bool) (n : ℕ) → ((p : Piece) → IsPieceOf p items → Comes p) → R a (if b then counted_after coming.time (is_blocked a.state.paths) n (pieces_after m coming items a) else a)
  heard_by items a true n come =
      let b : At t = pieces_after m coming items a in
      next a b _ (pieces_around m coming Comes R here next (λ x c h may. move x c (unshut_around coming.time x c.state h) may) shut retry versions packet items a come)
      (counted_around coming.time R here next move (is_blocked a.state.paths) n b)
  heard_by items a false n come = here a

  heard_holds : (bytes : List ℕ) (a : At t) → ((p : Piece) → IsPieceOf p (cut_of a.state bytes) → Comes p) → R a (heard_after m coming bytes a)
  unfolding heard_after
  heard_holds bytes a come = heard_by (cut_of a.state bytes) a _ _ come

  -- a datagram that may be a server's first one, or not
  first_holds : (bytes : List ℕ) (token : Option (List ℕ)) (a : At t) → ((p : Piece) → IsPieceOf p (cut_of a.state bytes) → Comes p) → R a (first_after m coming bytes token a)
  unfolding MayMove
  first_holds bytes None a come = here a
  first_holds bytes (Some token) a come =
      let b : At t = move_to (Expect token) a in
      next a b _ (move (Expect token) a tt tt) (heard_holds bytes b (λ p among. come p (subst (IsPieceOf p) (same_cut token bytes a) among)))

  datagram_by : (bytes : List ℕ) (token : Option (List ℕ)) (a : At t) (b : Bool) → ((p : Piece) → IsPieceOf p (cut_of a.state bytes) → Comes p) →
      R a (if b then first_after m coming bytes token a else heard_after m coming bytes a)
  datagram_by bytes token a true come = first_holds bytes token a come
  datagram_by bytes token a false come = heard_holds bytes a come

  -- a datagram, which is cut as the connection cuts it
  pub datagram_around : (bytes : List ℕ) (a : At t) → ((p : Piece) → IsPieceOf p (cut_of a.state bytes) → Comes p) → R a (datagram_after m coming bytes a)
  unfolding datagram_after
  datagram_around bytes a come = datagram_by bytes (first_token m a.state coming.remote bytes) a _ come

-- the ones behind what tells of it
abbrev pub IsParting : {t : Types} → (time : ℕ) → Move t → Type 0
IsParting time (PeerCloses at) = at ≡ time
IsParting time (Give why) = why ≡ lost.VersionMismatch
IsParting time _ = ⊥

parting_leaving : {t : Types} (time : ℕ) (x : Move t) → IsParting time x → IsLeaving time x
parting_leaving time (PeerCloses at) h = h
parting_leaving time (Give why) h = h
parting_leaving time _ h = absurd h

-- what holds of each move by which a client leaves that a list of versions came to holds of them all
module _ {t : Types} (time : ℕ) (R : At t → At t → Type 0) (here : (a : At t) → R a a) (next : (a b c : At t) → R a b → R b c → R a c)
    (move : (x : Move t) (a : At t) → IsParting time x → MayMove x a.state → R a (move_to x a)) where
  pub left_by : (a : At t) (b : Bool) → is_open a.state.life.state ≡ b → R a (if b then given_after lost.VersionMismatch (move_to (PeerCloses time) a) else a)
  unfolding MayMove
  left_by a true opened =
      let b : At t = move_to (PeerCloses time) a in
      next a b _ (move (PeerCloses time) a refl (low_by a.state.life.state opened)) (given_by R here next lost.VersionMismatch b (λ none. move (Give lost.VersionMismatch) b refl none))
  left_by a false opened = here a

module _ {t : Types} (time : ℕ) (R : At t → At t → Type 0) (here : (a : At t) → R a a) (next : (a b c : At t) → R a b → R b c → R a c)
    (move : (x : Move t) (a : At t) → IsLeaving time x → MayMove x a.state → R a (move_to x a)) where
  pub versions_by : (a : At t) → R a (left_after time lost.VersionMismatch (piece_told None None verdict.Versions a))
  unfolding left_after MayMove
  versions_by a =
      let b : At t = move_to (Tell (did.Piece None None verdict.Versions)) a in
      next a b _ (move (Tell (did.Piece None None verdict.Versions)) a refl refl) (left_by time R here next (λ x c h may. move x c (parting_leaving time x h) may) b _ refl)

-- what holds of each move that a packet makes which doesn't open, where it may be made, holds of what is told of it with the end behind that, of a Retry
-- that is taken, and of a list of versions
module _ {t : Types} (m : Meaning t) (time : ℕ) (R : At t → At t → Type 0) (here : (a : At t) → R a a) (next : (a b c : At t) → R a b → R b c → R a c)
    (move : (x : Move t) (a : At t) → IsUnopened time x a.state → MayMove x a.state → R a (move_to x a)) where
  -- its reserved bits aren't 0, or it shows an update that its sender wasn't allowed to make: this is told, and this end closes for it
  refused : (d : Did) (error : TransportError) (a : At t) → IsUnread d → IsTold d → IsUnopenedError error → R a (stopped_after time error (move_to (Tell d) a))
  unfolding MayMove
  refused d error a unread untold known =
      let b : At t = move_to (Tell d) a in
      let c : At t = move_to (Shut time (close_for error)) b in
      next a b _ (move (Tell d) a unread untold)
      (stopped_by R here next time error b (λ low. move (Shut time (close_for error)) b (refl, (error, refl, known)) low)
      (λ none. move (Give (lost.TransportError error)) c (inl (error, refl, known)) none))

  shut_by : (space : Option SpaceId) (number : ℕ) (v : Verdict) (error : TransportError) (a : At t) → IsShutBy v error → R a (stopped_after time error (move_to (Tell (did.Piece space (Some number) v)) a))
  shut_by space number verdict.BadBits error a is = refused (did.Piece space (Some number) verdict.BadBits) error a tt refl (inl is)
  shut_by space number verdict.BadUpdate error a is = refused (did.Piece space (Some number) verdict.BadUpdate) error a tt refl (inr is)
  shut_by space number _ error a is = absurd is

  retry_by : (cid token : List ℕ) (a : At t) → is_unanswered a.state ≡ true → R a (renewed_after m time cid token a)
  unfolding renewed_after armed_after armed_with MayMove
  retry_by cid token a unanswered =
      let renew : Move t = Renew time cid token (new_keys m.seal_limit m.failure_limit (m.initial a.state.lower.session cid Client)) in
      let b : At t = move_to renew a in
      next a b _ (move renew a (refl, refl) unanswered) (move (Arm (loss_time b.state (is_blocked b.state.paths) time)) b refl (record { blocked = is_blocked b.state.paths; time = time; set = refl }))

  list_by : (a : At t) → R a (left_after time lost.VersionMismatch (piece_told None None verdict.Versions a))
  list_by a = versions_by time R here next (λ x b h may. move x b (leaving_unopened time x b.state h) may) a

-- so where it holds of each move, also of those by which this end closes
module _ {t : Types} (m : Meaning t) (coming : Coming) (Comes : Piece → Type 0) (R : At t → At t → Type 0) (here : (a : At t) → R a a) (next : (a b c : At t) → R a b → R b c → R a c)
    (move : (x : Move t) (a : At t) → IsUnopened coming.time x a.state → MayMove x a.state → R a (move_to x a))
    (packet : (p : Piece) → Comes p → (o : OpenPacket) (a : At t) → IsOpened m coming a.state p o → R a (packet_received m o a)) where
  -- of packets all of which come
  pub pieces_hold : (items : List DatagramItem) (a : At t) → ((p : Piece) → IsPieceOf p items → Comes p) → R a (pieces_after m coming items a)
  pieces_hold items a come =
      pieces_around m coming Comes R here next (λ x b h may. move x b (unshut_unopened coming.time x b.state h) may) (shut_by m coming.time R here next move)
      (λ cid token b r. retry_by m coming.time R here next move cid token b r.unanswered) (λ b r. list_by m coming.time R here next move b) packet items a come

module _ {t : Types} (time : ℕ) (R : At t → At t → Type 0) (here : (a : At t) → R a a) (next : (a b c : At t) → R a b → R b c → R a c)
    (move : (x : Move t) (a : At t) → IsOutside time x a.state → MayMove x a.state → R a (move_to x a)) where
  -- of the bytes of a datagram, which count
  pub counted_holds : (blocked : Bool) (n : ℕ) (a : At t) → R a (counted_after time blocked n a)
  counted_holds blocked n a = counted_around time R here next (λ x b h may. move x b (around_outside time x b.state h) may) blocked n a

module _ {t : Types} (m : Meaning t) (coming : Coming) (Comes : Piece → Type 0) (R : At t → At t → Type 0) (here : (a : At t) → R a a) (next : (a b c : At t) → R a b → R b c → R a c)
    (move : (x : Move t) (a : At t) → IsOutside coming.time x a.state → MayMove x a.state → R a (move_to x a))
    (packet : (p : Piece) → Comes p → (o : OpenPacket) (a : At t) → IsOpened m coming a.state p o → R a (packet_received m o a)) where
  unopened : (x : Move t) (a : At t) → IsUnopened coming.time x a.state → MayMove x a.state → R a (move_to x a)
  unopened x a h may = move x a (unopened_outside coming.time x a.state h) may

  -- and of a datagram all of whose packets come
  pub datagram_holds : (bytes : List ℕ) (a : At t) → ((p : Piece) → IsPieceOf p (cut_of a.state bytes) → Comes p) → R a (datagram_after m coming bytes a)
  datagram_holds bytes a come =
      datagram_around m coming Comes R here next (λ x b h may. move x b (around_outside coming.time x b.state h) may) (shut_by m coming.time R here next unopened)
      (λ cid token b r. retry_by m coming.time R here next unopened cid token b r.unanswered) (λ b r. list_by m coming.time R here next unopened b) packet bytes a come

-- what holds of no move, of two moves one after the other, and of each move that a packet makes which came, where it may be made, holds of
-- packets
module _ {t : Types} (R : At t → At t → Type 0) (here : (a : At t) → R a a) (next : (a b c : At t) → R a b → R b c → R a c)
    (move : (x : Move t) → IsOfPiece x → (a : At t) → MayMove x a.state → R a (move_to x a)) where
  packet_holds : (m : Meaning t) (o : OpenPacket) (a : At t) → is_over a.state.life.state ≡ false → R a (packet_received m o a)
  packet_holds m o a lively = holds_packet m o R here next (λ x b h may. move x (in_packet_piece m o x b.state h) b may) a lively

  -- a packet that opened
  pub holds_received : (m : Meaning t) (coming : Coming) (space : SpaceId) (spin : Bool) (source token : List ℕ) (number : ℕ) (payload : List ℕ) (a : At t) → is_over a.state.life.state ≡ false → R a (received_after m coming space spin source token number payload a)
  holds_received m coming space spin source token number payload a lively =
      packet_holds m (record { coming = coming; space = space; spin = spin; which = None; source = source; token = token; number = number; payload = payload }) a lively

  -- the packets of a datagram
  pub holds_pieces : (m : Meaning t) (coming : Coming) (items : List DatagramItem) (a : At t) → R a (pieces_after m coming items a)
  holds_pieces m coming items a = pieces_hold m coming (λ p. Unit {0}) R here next (λ x b h. move x (unopened_piece coming.time x b.state h) b) (λ p comes o b opened. packet_holds m o b opened.lively) items a (λ p among. tt)

-- and what holds of each move that receiving makes, holds of a datagram
module _ {t : Types} (R : At t → At t → Type 0) (here : (a : At t) → R a a) (next : (a b c : At t) → R a b → R b c → R a c)
    (move : (x : Move t) → IsReceived x → (a : At t) → MayMove x a.state → R a (move_to x a)) where
  outside : (time : ℕ) (x : Move t) (a : At t) → IsOutside time x a.state → MayMove x a.state → R a (move_to x a)
  outside time x a h may = move x (outside_received time x a.state h) a may

  packet_of : (m : Meaning t) (o : OpenPacket) (a : At t) → is_over a.state.life.state ≡ false → R a (packet_received m o a)
  packet_of m o a lively = holds_packet m o R here next (λ x b h may. move x (piece_received x (in_packet_piece m o x b.state h)) b may) a lively

  -- the bytes of a datagram count
  pub holds_counted : (time : ℕ) (blocked : Bool) (n : ℕ) (a : At t) → R a (counted_after time blocked n a)
  holds_counted time blocked n a = counted_holds time R here next (outside time) blocked n a

  -- a datagram
  pub holds_datagram : (m : Meaning t) (coming : Coming) (bytes : List ℕ) (a : At t) → R a (datagram_after m coming bytes a)
  holds_datagram m coming bytes a = datagram_holds m coming (λ p. Unit {0}) R here next (outside coming.time) (λ p comes o b opened. packet_of m o b opened.lively) bytes a (λ p among. tt)
