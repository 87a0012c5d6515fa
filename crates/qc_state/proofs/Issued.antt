-- NEW_TOKEN frames as they are taken: what joined lists of frames draw, and that each holds a token that is made as its turn comes.
use Rattle.std.proofs.Common.{◌≡◌, ℕ, zero, suc, List, [], ◌∷◌, ◌++◌, replicate, refl, ap, sym, ◌∙◌, subst, Bool, true, false, if◌then◌else◌, Option, Some, None, append_assoc}
use Rattle.rand_core.specs.Stream.{Stream}
use Rattle.std.specs.declared.net.ip_addr.IpAddr.{IpAddr}
use Rattle.qc_base.specs.declared.side.SpaceId.{SpaceId}
use Rattle.qc_base.specs.declared.side.SpaceId.TheVariants.{Initial, Handshake, «Data»}
use Rattle.qc_frame.specs.Frame.{FrameValue}
use Rattle.qc_frame.specs.declared.frames.FrameOf.TheVariants as frames
use Rattle.qc_frame.specs.declared.frames.FrameOf.TheVariants.{HandshakeDone, Ping}
use Rattle.qc_state.specs.Acks.{AckPart, may_acknowledge}
use Rattle.qc_state.specs.Life.{is_closed}
use Rattle.qc_state.specs.Sending.{Closes, application_close, close_frame, closing_frame, told_close}
use Rattle.qc_state.specs.Taking.{AreDatagrams, AreOfIds, AreOfStreams, CryptoPart, done_part, marks_part, ping_part}
use Rattle.qc_state.specs.Tokens.{AllIssued, behind_frame, behind_tokens}
use Rattle.qc_state.specs.Types.{Types}
use Rattle.qc_state.specs.View.{View}
use Rattle.qc_state.specs.Waiting.{without, without_all}
use Rattle.qc_state.specs.declared.life.Close.{Close}
use Rattle.qc_state.specs.declared.life.Close.TheVariants.{Connection, Application}
use Rattle.qc_state.specs.declared.waiting.SpaceWaiting.{SpaceWaiting}

-- ---- which tokens they hold

abbrev pub token_in : FrameValue → List (List ℕ)
token_in (frames.NewToken token) = token ∷ []
token_in _ = []

abbrev pub tokens_of : List FrameValue → List (List ℕ)
tokens_of [] = []
tokens_of (f ∷ fs) = token_in f ++ tokens_of fs

pub tokens_append : (fs gs : List FrameValue) → tokens_of (fs ++ gs) ≡ tokens_of fs ++ tokens_of gs
tokens_append [] gs = refl
tokens_append (f ∷ fs) gs = ap (λ (xs : List (List ℕ)). token_in f ++ xs) (tokens_append fs gs) ∙ sym (append_assoc (token_in f) (tokens_of fs) (tokens_of gs))

-- PADDING is none
pub tokens_padding : (n : ℕ) → tokens_of (replicate n frames.Padding) ≡ []
tokens_padding zero = refl
tokens_padding (suc n) = tokens_padding n

-- nor is a HANDSHAKE_DONE, a PING, an ACK or a CRYPTO frame
marks_by : (a b : Bool) → tokens_of ((if a then HandshakeDone ∷ [] else []) ++ (if b then Ping ∷ [] else [])) ≡ []
marks_by true true = refl
marks_by true false = refl
marks_by false true = refl
marks_by false false = refl

pub tokens_marks : (w : SpaceWaiting) → tokens_of (marks_part w) ≡ []
unfolding marks_part done_part ping_part
tokens_marks w = marks_by w.done w.ping

pub tokens_ack : (time room : ℕ) (w : SpaceWaiting) (fs : List FrameValue) (b : Bool) → AckPart time w room fs b → tokens_of fs ≡ []
tokens_ack time room w fs true (AckPart.one ack says fits is) = ap tokens_of is
tokens_ack time room w fs true (AckPart.left_out ack says long is) = ap tokens_of is
tokens_ack time room w fs false (AckPart.none is) = ap tokens_of is

pub tokens_crypto : (w : SpaceWaiting) (room : ℕ) (fs : List FrameValue) → CryptoPart w room fs → tokens_of fs ≡ []
unfolding CryptoPart
tokens_crypto w room [] h = refl
tokens_crypto w room (frames.Crypto offset body ∷ fs) h = tokens_crypto (without w (frames.Crypto offset body)) _ fs h.2
tokens_crypto w room (_ ∷ fs) h = absurd h

-- nor is a close
tokens_application : (id : SpaceId) (code : ℕ) (kept : List ℕ) → token_in (application_close id code kept) ≡ []
tokens_application Initial code kept = refl
tokens_application Handshake code kept = refl
tokens_application Data code kept = refl

pub tokens_closing : (id : SpaceId) (kept : List ℕ) (b : Bool) (c : Option Close) → token_in (if b then told_close id kept c else close_frame 0x00 None) ≡ []
tokens_closing id kept true None = refl
tokens_closing id kept true (Some (Connection c)) = refl
tokens_closing id kept true (Some (Application c)) = tokens_application id c.error_code kept
tokens_closing id kept false c = refl

module _ {t : Types} where
  pub tokens_close : (time : ℕ) (s : View t) (id : SpaceId) (room : ℕ) (fs : List FrameValue) → Closes time s id room fs → tokens_of fs ≡ []
  tokens_close time s id room fs (Closes.closing acks part kept reason is) =
      ap tokens_of is ∙ tokens_append acks (closing_frame id kept s.life ∷ []) ∙ ap (λ (xs : List (List ℕ)). xs ++ (token_in (closing_frame id kept s.life) ++ [])) (tokens_ack time _ _ acks (may_acknowledge _) part)
      ∙ ap (λ (xs : List (List ℕ)). xs ++ []) (tokens_closing id kept (is_closed s.life.state) s.life.close)

-- nor is a frame of the streams, a DATAGRAM, or one about connection ids
pub tokens_streams : (b : Bool) (fs : List FrameValue) → AreOfStreams b fs → tokens_of fs ≡ []
tokens_streams b [] h = refl
tokens_streams b (frames.NewToken token ∷ fs) h = cc
tokens_streams b (_ ∷ fs) h = tokens_streams b fs h.3

pub tokens_datagrams : (fs : List FrameValue) → AreDatagrams fs → tokens_of fs ≡ []
tokens_datagrams [] h = refl
tokens_datagrams (frames.Datagram body ∷ fs) h = tokens_datagrams fs h.1
tokens_datagrams (_ ∷ fs) h = absurd h

pub tokens_ids : (fs : List FrameValue) → AreOfIds fs → tokens_of fs ≡ []
tokens_ids [] h = refl
tokens_ids (frames.NewConnectionId new ∷ fs) h = tokens_ids fs h.1
tokens_ids (frames.RetireConnectionId sequence ∷ fs) h = tokens_ids fs h.1
tokens_ids (_ ∷ fs) h = absurd h

-- ---- what they draw

pub behind_append : (fs gs : List FrameValue) (words : Stream) → behind_tokens (fs ++ gs) words ≡ behind_tokens gs (behind_tokens fs words)
unfolding behind_tokens
behind_append [] gs words = refl
behind_append (f ∷ fs) gs words = behind_append fs gs (behind_frame f words)

-- frames without a NEW_TOKEN draw nothing
pub undrawn : (fs : List FrameValue) (words : Stream) → tokens_of fs ≡ [] → behind_tokens fs words ≡ words
unfolding behind_tokens
undrawn [] words none = refl
undrawn (frames.NewToken token ∷ fs) words none = absurd (cc)
undrawn (_ ∷ fs) words none = undrawn fs words none

-- what joined frames leave of a space
pub without_both : (w : SpaceWaiting) (fs gs : List FrameValue) → without_all w (fs ++ gs) ≡ without_all (without_all w fs) gs
unfolding without_all
without_both w [] gs = refl
without_both w (f ∷ fs) gs = without_both (without w f) fs gs

-- ---- that each token is made as its turn comes

pub issued_append : (issuer : Option (IpAddr → ℕ → List ℕ)) (ip : IpAddr) (fs gs : List FrameValue) (w : SpaceWaiting) (words : Stream) → AllIssued issuer ip fs w words →
    AllIssued issuer ip gs (without_all w fs) (behind_tokens fs words) → AllIssued issuer ip (fs ++ gs) w words
unfolding AllIssued behind_tokens without_all
issued_append issuer ip [] gs w words h k = k
issued_append issuer ip (f ∷ fs) gs w words h k = (h.0, issued_append issuer ip fs gs (without w f) (behind_frame f words) h.1 k)

-- of joined lists each part is so
pub issued_first : (issuer : Option (IpAddr → ℕ → List ℕ)) (ip : IpAddr) (fs gs : List FrameValue) (w : SpaceWaiting) (words : Stream) → AllIssued issuer ip (fs ++ gs) w words → AllIssued issuer ip fs w words
unfolding AllIssued
issued_first issuer ip [] gs w words h = tt
issued_first issuer ip (f ∷ fs) gs w words h = (h.0, issued_first issuer ip fs gs (without w f) (behind_frame f words) h.1)

pub issued_behind : (issuer : Option (IpAddr → ℕ → List ℕ)) (ip : IpAddr) (fs gs : List FrameValue) (w : SpaceWaiting) (words : Stream) → AllIssued issuer ip (fs ++ gs) w words →
    AllIssued issuer ip gs (without_all w fs) (behind_tokens fs words)
unfolding AllIssued behind_tokens without_all
issued_behind issuer ip [] gs w words h = h
issued_behind issuer ip (f ∷ fs) gs w words h = issued_behind issuer ip fs gs (without w f) (behind_frame f words) h.1

-- frames without a NEW_TOKEN
pub issued_none : (issuer : Option (IpAddr → ℕ → List ℕ)) (ip : IpAddr) (fs : List FrameValue) (w : SpaceWaiting) (words : Stream) → tokens_of fs ≡ [] → AllIssued issuer ip fs w words
unfolding AllIssued
issued_none issuer ip [] w words none = tt
issued_none issuer ip (frames.NewToken token ∷ fs) w words none = absurd (cc)
issued_none issuer ip (_ ∷ fs) w words none = (tt, issued_none issuer ip fs _ _ none)

-- in front of others, and behind them
pub issued_before : (issuer : Option (IpAddr → ℕ → List ℕ)) (ip : IpAddr) (fs gs : List FrameValue) (w : SpaceWaiting) (words : Stream) → tokens_of fs ≡ [] → AllIssued issuer ip gs (without_all w fs) words →
    AllIssued issuer ip (fs ++ gs) w words
issued_before issuer ip fs gs w words none h =
    issued_append issuer ip fs gs w words (issued_none issuer ip fs w words none) (subst (λ (s : Stream). AllIssued issuer ip gs (without_all w fs) s) (sym (undrawn fs words none)) h)

pub none_issued_behind : (issuer : Option (IpAddr → ℕ → List ℕ)) (ip : IpAddr) (fs gs : List FrameValue) (w : SpaceWaiting) (words : Stream) → tokens_of gs ≡ [] → AllIssued issuer ip fs w words → AllIssued issuer ip (fs ++ gs) w words
none_issued_behind issuer ip fs gs w words none h = issued_append issuer ip fs gs w words h (issued_none issuer ip gs (without_all w fs) (behind_tokens fs words) none)

-- those behind frames without one
pub issued_past : (issuer : Option (IpAddr → ℕ → List ℕ)) (ip : IpAddr) (fs gs : List FrameValue) (w : SpaceWaiting) (words : Stream) → tokens_of fs ≡ [] → AllIssued issuer ip (fs ++ gs) w words →
    AllIssued issuer ip gs (without_all w fs) words
issued_past issuer ip fs gs w words none h = subst (λ (s : Stream). AllIssued issuer ip gs (without_all w fs) s) (undrawn fs words none) (issued_behind issuer ip fs gs w words h)
