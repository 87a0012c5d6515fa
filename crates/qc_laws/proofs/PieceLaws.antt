-- What is told of a packet that came, and that it gives to the layers what the applied frames of its payload give.
use Rattle.std.proofs.Common.{◌≡◌, ◌⊎◌, inl, inr, ℕ, List, [], ◌∷◌, ◌++◌, length, refl, ap, sym, ◌∙◌, Bool, true, false, Option, Some, None, if◌then◌else◌, append_assoc, append-nil, subst}
use Rattle.qc_header.specs.declared.protected.ProtectedHeader.TheVariants as protected
use Rattle.qc_header.specs.declared.protected.ProtectedHeader.{ProtectedHeader}
use Rattle.qc_base.specs.declared.side.Side.TheVariants.{Client}
use Rattle.std.specs.Prelude.{not, Ok, Err, drop}
use Rattle.std.specs.List.{list_any}
use Rattle.qc_base.specs.declared.side.Side.TheVariants.{Server}
use Rattle.qc_base.specs.declared.side.SpaceId.{SpaceId}
use Rattle.qc_base.specs.declared.side.SpaceId.TheVariants.{Initial}
use Rattle.qc_frame.specs.Payload.{items_of}
use Rattle.qc_header.specs.HeaderGrammar.{DatagramItem}
use Rattle.qc_header.specs.Piece.{Piece, space_of}
use Rattle.qc_base.specs.declared.transport_error.TransportError.{TransportError}
use Rattle.qc_state.specs.declared.coming.Coming.{Coming}
use Rattle.qc_state.specs.declared.deeds.Did.{Did}
use Rattle.qc_state.specs.declared.deeds.Did.TheVariants as did
use Rattle.qc_state.specs.declared.deeds.Verdict.{Verdict}
use Rattle.qc_state.specs.declared.deeds.Verdict.TheVariants as verdict
use Rattle.qc_state.specs.declared.input.Input.TheVariants as input
use Rattle.qc_state.specs.declared.life.ConnectionError.{ConnectionError}
use Rattle.qc_state.specs.declared.life.ConnectionError.TheVariants as lost
use Rattle.qc_state.specs.declared.life.State.TheVariants as state
use Rattle.qc_state.specs.declared.opening.Opening.{Opening}
use Rattle.qc_state.specs.declared.opening.Opening.TheVariants.{Unreadable, Unopened, Reserved, Untimely, Opened}
use Rattle.qc_state.specs.declared.trace.Step.{Step}
use Rattle.qc_state.specs.declared.keys.Fresh.{Fresh}
use Rattle.qc_state.specs.Keys.{fails_too_often, new_keys}
use Rattle.qc_state.specs.Life.{is_over}
use Rattle.qc_state.specs.Moves.{Move, Accept, PeerClosesToo, Enter, Expect, Fail, Fix, Forget, Owe, Raise, Tell, armed_with, deeds_move, move_to, state_move, Unseal, numbers_move, life_move, paths_move, setup_move, Renew}
use Rattle.qc_state.specs.Opening.{opening_of}
use Rattle.qc_state.specs.Paths.{is_blocked}
use Rattle.qc_laws.specs.PieceLaws.{TellsDatagram, TellsPiece, TellsPieces, gifts_by, opening_deed, opening_gifts, payload_gifts, piece_deed, piece_gifts, view_admitted, formed_deed, formed_gifts, unnumbered_deed}
use Rattle.qc_state.specs.Receiving.{accepted_after, admitted_after, counted_after, cut_of, datagram_after, failed_after, first_after, first_token, fixed_after, fixes_peer, heard_after, is_close_item, is_eliciting_item, opening_after, payload_after, piece_after, pieces_after, piece_told, read_for_close, received_after, signs_of, verdict_after, formed_after, left_after, renewed_after, retried_after, unnumbered_after}
use Rattle.qc_state.specs.Run.{IsStep, began, called, input_after}
use Rattle.qc_state.specs.Sending.{drops_initial, initial_left}
use Rattle.qc_state.specs.Stopping.{key_limit_error, killed_after, stopped_after, update_error, violation_at}
use Rattle.qc_state.specs.Types.{Types, Meaning}
use Rattle.qc_state.specs.Verdicts.{first_row, verdict_of, ids_end, retry_token, unnumbered_rows, unnumbered_verdict}
use Rattle.qc_state.specs.View.{View, At, at}
use Rattle.qc_state.specs.Updating.{fresh_by, session_by, unsealed_after}
use Rattle.qc_state.proofs.Ends.{holds_initial}
use Rattle.qc_laws.proofs.PathsHold.{counted_did}
use Rattle.qc_laws.proofs.Receives.{same_cut}
use Rattle.qc_state.proofs.Telling.{told_appends}
use Rattle.qc_laws.proofs.Gifts.{Along, Gives, along_same, ending_quiet, given_quiet, gives_here, gives_move, payload_gives, quiet_gives, quiet_next, stopped_quiet, armed_quiet, left_quiet}
use Rattle.qc_rings.specs.declared.which.Which.{Which}

-- ---- a packet by its verdict

-- a packet that opened has one of five verdicts
abbrev pub is_read : Verdict → Bool
is_read verdict.Ignored = false
is_read verdict.Failure = false
is_read verdict.BadBits = false
is_read verdict.BadUpdate = false
is_read verdict.RetryTaken = false
is_read verdict.Versions = false
is_read _ = true

read_by_row : (new closed early other : Bool) → is_read (first_row ((not new, verdict.Seen) ∷ (closed, verdict.ReadForClose) ∷ (early, verdict.NumberOnly) ∷ (other, verdict.AckOnly) ∷ []) verdict.Admitted) ≡ true
read_by_row true true early other = refl
read_by_row true false true other = refl
read_by_row true false false true = refl
read_by_row true false false false = refl
read_by_row false closed early other = refl

-- no list of versions is a Retry
no_retry : (b : Bool) → verdict.RetryTaken ≡ first_row ((b, verdict.Versions) ∷ []) verdict.Ignored → ⊥
no_retry true e = cc
no_retry false e = cc

module _ {t : Types} where
  -- a move tells of the packet, and what comes behind it gives these gifts
  tells_then : (d : Did) (gifts : List Did) (x : Move t) (a b : At t) → deeds_move x a.state ≡ d ∷ [] → Gives gifts (move_to x a) b → TellsPiece d gifts a b
  unfolding move_to
  tells_then d gifts x a b one h = record {
    others = h.since;
    appended = h.appended ∙ ap (λ (ds : List Did). ds ++ h.since) (told_appends a.did (deeds_move x a.state) ∙ ap (λ (ds : List Did). a.did ++ ds) one) ∙ append_assoc a.did (d ∷ []) h.since;
    one = h.pieces;
    given = h.given;
  }

  -- the view in which its frames are read, whatever was told before
  left_state : (blocked : Bool) (time : ℕ) (a : At t) (b : Bool) → (if b then armed_with blocked time (move_to (Forget Initial) a) else a).state
      ≡ (if b then (armed_with blocked time (move_to (Forget Initial) (at a.state []))).state else a.state)
  unfolding armed_with move_to
  left_state blocked time a true = refl
  left_state blocked time a false = refl

  fixed_state : (source : List ℕ) (a : At t) (b : Bool) → (if b then move_to (Fix source) a else a).state ≡ (if b then state_move (Fix source) a.state else a.state)
  unfolding move_to
  fixed_state source a true = refl
  fixed_state source a false = refl

  fixed_alike : (id : SpaceId) (source : List ℕ) (a b : At t) → a.state ≡ b.state → (fixed_after id source a).state ≡ (fixed_after id source b).state
  unfolding fixed_after
  fixed_alike id source a b same =
      fixed_state source a (fixes_peer id a.state) ∙ ap (λ (s : View t). if fixes_peer id s then state_move (Fix source) s else s) same ∙ sym (fixed_state source b (fixes_peer id b.state))

  accepted_alike : (coming : Coming) (id : SpaceId) (number : ℕ) (eliciting spin : Bool) (v : Verdict) (a : At t) →
      (accepted_after coming id number eliciting spin v a).state ≡ (accepted_after coming id number eliciting spin v (at a.state [])).state
  unfolding accepted_after initial_left move_to
  accepted_alike coming id number eliciting spin v a =
      let accept : Move t = Accept coming.time id number eliciting (signs_of coming spin) v in
      let b : At t = move_to accept a in
      let c : At t = move_to accept (at a.state []) in
      let blocked : Bool = is_blocked b.state.paths in
      let drops : Bool = drops_initial Server b.state id in
      left_state blocked coming.time b drops ∙ sym (left_state blocked coming.time c drops)

  fixed_quiet : (source : List ℕ) (a : At t) (b : Bool) → Gives [] a (if b then move_to (Fix source) a else a)
  unfolding deeds_move
  fixed_quiet source a true = gives_move [] (Fix source) a refl refl
  fixed_quiet source a false = gives_here a

  fixed_by : (source : List ℕ) (id : SpaceId) (a : At t) → Gives [] a (fixed_after id source a)
  unfolding fixed_after
  fixed_by source id a = fixed_quiet source a (fixes_peer id a.state)

  -- behind the deed that tells of it, its acceptance gives nothing
  accepted_quiet : (coming : Coming) (id : SpaceId) (number : ℕ) (eliciting spin : Bool) (v : Verdict) (a : At t) →
      Gives [] (move_to (Accept coming.time id number eliciting (signs_of coming spin) v) a) (accepted_after coming id number eliciting spin v a)
  unfolding accepted_after
  accepted_quiet coming id number eliciting spin v a =
      let b : At t = move_to (Accept coming.time id number eliciting (signs_of coming spin) v) a in
      holds_initial (Gives []) gives_here quiet_next ending_quiet Server (is_blocked b.state.paths) coming.time id b

  -- a packet that is admitted
  pub admitted_tells : (m : Meaning t) (coming : Coming) (id : SpaceId) (spin : Bool) (source : List ℕ) (number : ℕ) (payload : List ℕ) (a : At t) →
      TellsPiece (did.Piece (Some id) (Some number) verdict.Admitted) (gifts_by m coming id spin source number payload verdict.Admitted a.state) a (admitted_after m coming id spin source number payload a)
  unfolding admitted_after deeds_move
  admitted_tells m coming id spin source number payload a =
      let eliciting : Bool = list_any is_eliciting_item (items_of payload) in
      let accept : Move t = Accept coming.time id number eliciting (signs_of coming spin) verdict.Admitted in
      let b : At t = move_to accept a in
      let c : At t = accepted_after coming id number eliciting spin verdict.Admitted a in
      let d : At t = fixed_after id source c in
      let v : View t = view_admitted coming id spin source number payload a.state in
      let along : Along v d.state =
      along_same v d.state (fixed_alike id source c (accepted_after coming id number eliciting spin verdict.Admitted (at a.state [])) (accepted_alike coming id number eliciting spin verdict.Admitted a)) in
      let gifts : List Did = payload_gifts m coming.time id payload v in
      let e : At t = payload_after m coming id payload d in
      tells_then (did.Piece (Some id) (Some number) verdict.Admitted) gifts accept a e refl
      (quiet_gives gifts b c e (accepted_quiet coming id number eliciting spin verdict.Admitted a) (quiet_gives gifts c d e (fixed_by source id c) (payload_gives m coming id v payload d along)))

  closing_quiet : (a : At t) (b : Bool) → Gives [] a (if b then move_to PeerClosesToo a else move_to Owe a)
  unfolding deeds_move
  closing_quiet a true = gives_move [] PeerClosesToo a refl refl
  closing_quiet a false = gives_move [] Owe a refl refl

  closing_tells : (id : SpaceId) (number : ℕ) (payload : List ℕ) (a : At t) → TellsPiece (did.Piece (Some id) (Some number) verdict.ReadForClose) [] a (read_for_close id number payload a)
  unfolding read_for_close deeds_move
  closing_tells id number payload a =
      let enter : Move t = Enter id number verdict.ReadForClose in
      tells_then (did.Piece (Some id) (Some number) verdict.ReadForClose) [] enter a _ refl (closing_quiet (move_to enter a) (list_any is_close_item (items_of payload)))

  ack_only_tells : (coming : Coming) (id : SpaceId) (number : ℕ) (spin : Bool) (a : At t) → TellsPiece (did.Piece (Some id) (Some number) verdict.AckOnly) [] a (accepted_after coming id number false spin verdict.AckOnly a)
  unfolding deeds_move
  ack_only_tells coming id number spin a =
      tells_then (did.Piece (Some id) (Some number) verdict.AckOnly) [] (Accept coming.time id number false (signs_of coming spin) verdict.AckOnly) a _ refl (accepted_quiet coming id number false spin verdict.AckOnly a)

  verdict_tells : (m : Meaning t) (coming : Coming) (id : SpaceId) (spin : Bool) (source : List ℕ) (number : ℕ) (payload : List ℕ) (v : Verdict) (a : At t) → is_read v ≡ true →
      TellsPiece (did.Piece (Some id) (Some number) v) (gifts_by m coming id spin source number payload v a.state) a (verdict_after m coming id spin source number payload v a)
  unfolding deeds_move
  verdict_tells m coming id spin source number payload verdict.Ignored a h = cc
  verdict_tells m coming id spin source number payload verdict.Failure a h = cc
  verdict_tells m coming id spin source number payload verdict.BadBits a h = cc
  verdict_tells m coming id spin source number payload verdict.BadUpdate a h = cc
  verdict_tells m coming id spin source number payload verdict.RetryTaken a h = cc
  verdict_tells m coming id spin source number payload verdict.Versions a h = cc
  verdict_tells m coming id spin source number payload verdict.Seen a h =
      let tell : Move t = Tell (did.Piece (Some id) (Some number) verdict.Seen) in
      tells_then (did.Piece (Some id) (Some number) verdict.Seen) [] tell a _ refl (gives_here (move_to tell a))
  verdict_tells m coming id spin source number payload verdict.ReadForClose a h = closing_tells id number payload a
  verdict_tells m coming id spin source number payload verdict.NumberOnly a h =
      let enter : Move t = Enter id number verdict.NumberOnly in
      tells_then (did.Piece (Some id) (Some number) verdict.NumberOnly) [] enter a _ refl (gives_here (move_to enter a))
  verdict_tells m coming id spin source number payload verdict.AckOnly a h = ack_only_tells coming id number spin a
  verdict_tells m coming id spin source number payload verdict.Admitted a h = admitted_tells m coming id spin source number payload a

  pub read_row : (s : View t) (id : SpaceId) (source token : List ℕ) (number : ℕ) → is_read (verdict_of s id source token number) ≡ true
  unfolding verdict_of
  read_row s id source token number = read_by_row _ _ _ _

  pub received_tells : (m : Meaning t) (coming : Coming) (id : SpaceId) (spin : Bool) (source token : List ℕ) (number : ℕ) (payload : List ℕ) (a : At t) →
      let v : Verdict = verdict_of a.state id source token number in
      TellsPiece (did.Piece (Some id) (Some number) v) (gifts_by m coming id spin source number payload v a.state) a (received_after m coming id spin source token number payload a)
  unfolding received_after
  received_tells m coming id spin source token number payload a =
      verdict_tells m coming id spin source number payload (verdict_of a.state id source token number) a (read_row a.state id source token number)

  -- ---- a packet that came

  told_as : (d : Did) (a : At t) → TellsPiece d [] a (move_to (Tell d) a)
  unfolding deeds_move
  told_as d a = tells_then d [] (Tell d) a _ refl (gives_here (move_to (Tell d) a))

  killed_by : (why : ConnectionError) (a : At t) (b : Bool) → Gives [] a (if b then killed_after why a else a)
  unfolding killed_after deeds_move
  killed_by why a true = let b : At t = move_to (Raise state.Drained) a in quiet_next a b _ (gives_move [] (Raise state.Drained) a refl refl) (given_quiet why b)
  killed_by why a false = gives_here a

  -- a move without a deed comes before
  tells_behind : (d : Did) (gifts : List Did) (x : Move t) (a b : At t) → deeds_move x a.state ≡ [] → TellsPiece d gifts (move_to x a) b → TellsPiece d gifts a b
  unfolding move_to
  tells_behind d gifts x a b none h = record {
    others = h.others;
    appended = h.appended ∙ ap (λ (ds : List Did). ds ++ d ∷ h.others) (told_appends a.did (deeds_move x a.state) ∙ ap (λ (ds : List Did). a.did ++ ds) none ∙ append-nil a.did);
    one = h.one;
    given = h.given;
  }

  failed_tells : (space : Option SpaceId) (a : At t) → TellsPiece (did.Piece space None verdict.Failure) [] a (failed_after space a)
  unfolding failed_after deeds_move
  failed_tells space a =
      let d : Did = did.Piece space None verdict.Failure in
      let b : At t = move_to Fail a in
      let c : At t = move_to (Tell d) b in
      tells_behind d [] Fail a _ refl (tells_then d [] (Tell d) b _ refl (killed_by (lost.TransportError key_limit_error) c (fails_too_often c.state.keys)))

  -- this end closes for an error that the packet shows, which is told with its verdict
  refused_tells : (time : ℕ) (d : Did) (error : TransportError) (a : At t) → TellsPiece d [] a (stopped_after time error (move_to (Tell d) a))
  unfolding deeds_move
  refused_tells time d error a = tells_then d [] (Tell d) a _ refl (stopped_quiet time error (move_to (Tell d) a))

  -- the step of the ring that a packet makes leaves its verdict
  pub unsealed_verdict : (time n : ℕ) (which : Which) (fresh : Option (Fresh t.P)) (session : t.S) (s : View t) (id : SpaceId) (source token : List ℕ) (number : ℕ) →
      verdict_of (state_move (Unseal time n which fresh session) s) id source token number ≡ verdict_of s id source token number
  unfolding verdict_of state_move numbers_move life_move paths_move setup_move
  unsealed_verdict time n which fresh session s id source token number = refl

  -- a packet that opened, behind that step
  pub opened_tells : (m : Meaning t) (coming : Coming) (id : SpaceId) (source token : List ℕ) (spin : Bool) (which : Option Which) (number : ℕ) (payload : List ℕ) (a : At t) →
      let v : Verdict = verdict_of a.state id source token number in
      TellsPiece (did.Piece (Some id) (Some number) v) (gifts_by m coming id spin source number payload v (unsealed_after m coming.time which number (at a.state [])).state) a
      (received_after m coming id spin source token number payload (unsealed_after m coming.time which number a))
  unfolding deeds_move move_to
  opened_tells m coming id source token spin None number payload a = received_tells m coming id spin source token number payload a
  opened_tells m coming id source token spin (Some which) number payload a =
      let fresh : Option (Fresh t.P) = fresh_by m which a.state in
      let session : t.S = session_by m which a.state.lower.session in
      let x : Move t = Unseal coming.time number which fresh session in
      let b : At t = move_to x a in
      let v : Verdict = verdict_of a.state id source token number in
      tells_behind (did.Piece (Some id) (Some number) v) (gifts_by m coming id spin source number payload v b.state) x a (received_after m coming id spin source token number payload b) refl
      (subst (λ (w : Verdict). TellsPiece (did.Piece (Some id) (Some number) w) (gifts_by m coming id spin source number payload w b.state) b (received_after m coming id spin source token number payload b))
      (unsealed_verdict coming.time number which fresh session a.state id source token number)
      (received_tells m coming id spin source token number payload b))

  opening_tells : (m : Meaning t) (coming : Coming) (space : Option SpaceId) (o : Opening) (a : At t) →
      TellsPiece (opening_deed a.state space o) (opening_gifts m coming a.state space o) a (opening_after m coming space o a)
  opening_tells m coming space Unreadable a = told_as (did.Piece space None verdict.Ignored) a
  opening_tells m coming space Unopened a = failed_tells space a
  opening_tells m coming space (Reserved number) a = refused_tells coming.time (did.Piece space (Some number) verdict.BadBits) (violation_at None) a
  opening_tells m coming space (Untimely number) a = refused_tells coming.time (did.Piece space (Some number) verdict.BadUpdate) update_error a
  opening_tells m coming (Some id) (Opened source token spin which number payload) a = opened_tells m coming id source token spin which number payload a
  opening_tells m coming None (Opened source token spin which number payload) a = told_as (did.Piece None None verdict.Ignored) a

  -- a Retry that is taken
  retry_tells : (m : Meaning t) (time : ℕ) (cid token : List ℕ) (a : At t) → TellsPiece (did.Piece None None verdict.RetryTaken) [] a (renewed_after m time cid token a)
  unfolding renewed_after deeds_move
  retry_tells m time cid token a =
      let renew : Move t = Renew time cid token (new_keys m.seal_limit m.failure_limit (m.initial a.state.lower.session cid Client)) in
      tells_then (did.Piece None None verdict.RetryTaken) [] renew a _ refl (armed_quiet time (move_to renew a))

  -- a list of versions without this end's
  versions_tells : (time : ℕ) (a : At t) → TellsPiece (did.Piece None None verdict.Versions) [] a (left_after time lost.VersionMismatch (piece_told None None verdict.Versions a))
  unfolding deeds_move
  versions_tells time a =
      let d : Did = did.Piece None None verdict.Versions in
      tells_then d [] (Tell d) a _ refl (left_quiet time lost.VersionMismatch (move_to (Tell d) a))

  -- a packet without a number
  unnumbered_tells : (m : Meaning t) (time : ℕ) (p : Piece) (a : At t) (v : Verdict) (h : ProtectedHeader) → p.header ≡ h → v ≡ first_row (unnumbered_rows m a.state h p.bytes) verdict.Ignored →
      TellsPiece (unnumbered_deed v) [] a (unnumbered_after m time p v a)
  unnumbered_tells m time p a verdict.RetryTaken (protected.Retry dst src version) is e =
      subst (λ (x : ProtectedHeader). TellsPiece (did.Piece None None verdict.RetryTaken) [] a (retried_after m time x p.bytes a)) (sym is) (retry_tells m time src (retry_token (drop (ids_end dst src) p.bytes)) a)
  unnumbered_tells m time p a verdict.RetryTaken (protected.VersionNegotiate random src dst) is e = absurd (no_retry _ e)
  unnumbered_tells m time p a verdict.RetryTaken _ is e = absurd cc
  unnumbered_tells m time p a verdict.Versions h is e = versions_tells time a
  unnumbered_tells m time p a _ h is e = told_as (did.Piece None None verdict.Ignored) a

  formed_tells : (m : Meaning t) (coming : Coming) (space : Option SpaceId) (p : Piece) (a : At t) → TellsPiece (formed_deed m a.state space p) (formed_gifts m coming a.state space p) a (formed_after m coming space p a)
  unfolding unnumbered_verdict
  formed_tells m coming None p a = unnumbered_tells m coming.time p a (unnumbered_verdict m a.state p) p.header refl refl
  formed_tells m coming (Some id) p a = opening_tells m coming (Some id) (opening_of m a.state p) a

  piece_by : (m : Meaning t) (coming : Coming) (space : Option SpaceId) (p : Piece) (a : At t) (b : Bool) →
      TellsPiece (if b then did.Piece space None verdict.Ignored else formed_deed m a.state space p) (if b then [] else formed_gifts m coming a.state space p) a
      (if b then piece_told space None verdict.Ignored a else formed_after m coming space p a)
  piece_by m coming space p a true = told_as (did.Piece space None verdict.Ignored) a
  piece_by m coming space p a false = formed_tells m coming space p a

  pub piece_tells : (m : Meaning t) (coming : Coming) (p : Piece) (a : At t) → TellsPiece (piece_deed m a.state p) (piece_gifts m coming a.state p) a (piece_after m coming p a)
  unfolding piece_after
  piece_tells m coming p a = piece_by m coming (space_of p.header) p a (is_over a.state.life.state)

  -- the packets of a datagram
  pub pieces_tell : (m : Meaning t) (coming : Coming) (items : List DatagramItem) (a : At t) → TellsPieces m coming items a
  unfolding TellsPieces
  pieces_tell m coming [] a = tt
  pieces_tell m coming (Err fault ∷ items) a = tt
  pieces_tell m coming (Ok p ∷ items) a = (piece_tells m coming p a, pieces_tell m coming items (piece_after m coming p a))

  -- where the packets of a datagram begin: a token may be expected before
  abbrev pub Begins : At t → At t → Type 0
  Begins a start = (start ≡ a) ⊎ ((token : List ℕ) × (start ≡ move_to (Expect token) a))

-- what holds where a datagram is dropped, and where its packets are heard and count, holds of the packets that a datagram is told to have
module _ {t : Types} (m : Meaning t) (coming : Coming) (bytes : List ℕ) (P : List DatagramItem → (start a b : At t) → Type 0)
    (dropped : (a start : At t) → Begins a start → P [] start a start)
    (counted : (a start : At t) → Begins a start → (blocked : Bool) (n : ℕ) → P (cut_of start.state bytes) start a (counted_after coming.time blocked n (pieces_after m coming (cut_of start.state bytes) start))) where
  abbrev TellsWith : At t → At t → Type 0
  TellsWith a b = (told : TellsDatagram m coming bytes a b) × P told.items told.start a b

  -- a datagram that is heard, or dropped
  heard_by : (blocked : Bool) (n : ℕ) (a c : At t) (b : Bool) → Begins a c → cut_of c.state bytes ≡ cut_of a.state bytes →
      TellsWith a (if b then counted_after coming.time blocked n (pieces_after m coming (cut_of c.state bytes) c) else c)
  unfolding TellsPieces
  heard_by blocked n a c true begins same = (
    record {
      items = cut_of c.state bytes;
      cut = inr same;
      start = c;
      begins = begins;
      told = pieces_tell m coming (cut_of c.state bytes) c;
      ends = counted_did coming.time blocked n (pieces_after m coming (cut_of c.state bytes) c);
    },
    counted a c begins blocked n,
  )
  heard_by blocked n a c false begins same = (record { items = []; cut = inl refl; start = c; begins = begins; told = tt; ends = refl }, dropped a c begins)

  heard_with : (a c : At t) → Begins a c → cut_of c.state bytes ≡ cut_of a.state bytes → TellsWith a (heard_after m coming bytes c)
  unfolding heard_after
  heard_with a c begins same = heard_by (is_blocked c.state.paths) (length bytes) a c _ begins same

  first_with : (token : Option (List ℕ)) (a : At t) → TellsWith a (first_after m coming bytes token a)
  unfolding TellsPieces
  first_with None a = (record { items = []; cut = inl refl; start = a; begins = inl refl; told = tt; ends = refl }, dropped a a (inl refl))
  first_with (Some token) a = heard_with a (move_to (Expect token) a) (inr (token, refl)) (same_cut token bytes a)

  datagram_by : (token : Option (List ℕ)) (a : At t) (b : Bool) → TellsWith a (if b then first_after m coming bytes token a else heard_after m coming bytes a)
  datagram_by token a true = first_with token a
  datagram_by token a false = heard_with a a (inl refl) refl

  pub datagram_with : (a : At t) → (told : TellsDatagram m coming bytes a (datagram_after m coming bytes a)) × P told.items told.start a (datagram_after m coming bytes a)
  unfolding datagram_after
  datagram_with a = datagram_by (first_token m a.state coming.remote bytes) a _

module _ {t : Types} where
  pub datagram_tells : (m : Meaning t) (coming : Coming) (bytes : List ℕ) (a : At t) → TellsDatagram m coming bytes a (datagram_after m coming bytes a)
  datagram_tells m coming bytes a = (datagram_with m coming bytes (λ items start b c. Unit {0}) (λ b start begins. tt) (λ b start begins blocked n. tt) a).0

  -- a step over a datagram tells that
  pub step_tells : (m : Meaning t) (k : ℕ) (s : View t) (coming : Coming) (bytes : List ℕ) (x : Step) (s' : View t) →
      IsStep m k s (input.Datagram coming.time coming.remote coming.mark bytes) x s' → TellsDatagram m coming bytes (began s coming.time) (at s' x.did)
  unfolding called input_after
  step_tells m k s coming bytes x s' h =
      let told = datagram_tells m coming bytes (began s coming.time) in
      record { items = told.items; cut = told.cut; start = told.start; begins = told.begins; told = told.told; ends = h.deeds ∙ told.ends }
