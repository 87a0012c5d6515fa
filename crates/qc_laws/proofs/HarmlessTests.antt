-- Tests, lists of deeds, and the front of a datagram: what the law of bytes that don't open says them with.
use Rattle.std.proofs.Common.{◌≡◌, ℕ, ◌*◌, ◌<◌, ◌≤◌, List, [], ◌∷◌, ◌++◌, refl, ap, sym, ◌∙◌, Bool, true, false, Option, Some, None, if◌then◌else◌, arith}
use Rattle.std.proofs.lemmas.Bool.Decides.{nat_tests}
use Rattle.std.proofs.lemmas.List.Elements.{All-head, All-tail}
use Rattle.std.proofs.lemmas.List.Folds.{list_all-append}
use Rattle.std.specs.Prelude.{zero, suc, ◌&&◌, not, nat_le, is_ok, Result, Ok, Err}
use Rattle.std.specs.List.{All, list_all}
use Rattle.qc_base.specs.declared.side.SpaceId.TheVariants as space
use Rattle.qc_header.specs.HeaderGrammar.{DatagramItem}
use Rattle.qc_header.specs.HeaderReading.{piece_at}
use Rattle.qc_header.specs.declared.protected.PacketDecodeError.{PacketDecodeError}
use Rattle.qc_header.specs.declared.protected.ProtectedHeader.{ProtectedHeader}
use Rattle.qc_header.specs.declared.protected.ProtectedHeader.TheVariants as protected
use Rattle.qc_header.specs.Piece.{Piece, space_of}
use Rattle.qc_header.specs.Pieces.{pieces_and, pieces_within}
use Rattle.qc_state.specs.declared.deeds.Did.{Did}
use Rattle.qc_state.specs.declared.deeds.Verdict.{Verdict}
use Rattle.qc_state.specs.declared.deeds.Verdict.TheVariants as verdict
use Rattle.qc_state.specs.declared.life.Life.{Life}
use Rattle.qc_state.specs.declared.life.State.{State}
use Rattle.qc_state.specs.declared.life.State.TheVariants as state
use Rattle.qc_state.specs.declared.paths.Paths.{Paths}
use Rattle.qc_state.specs.Headline.{is_harmless}
use Rattle.qc_state.specs.Life.{is_handshake, is_over, ready_reported, connected_reported, lost_reported, notices_reported, drained_reported, all_heard_reported}
use Rattle.qc_state.specs.Paths.{is_blocked}
use Rattle.qc_state.specs.Receiving.{is_initial_with}
use Rattle.qc_state.specs.Verdicts.{first_row}

-- of two tests that hold each holds
pub first_holds : (a b : Bool) → (a && b) ≡ true → a ≡ true
first_holds true b h = refl
first_holds false b h = cc

pub second_holds : (a b : Bool) → (a && b) ≡ true → b ≡ true
second_holds true b h = h
second_holds false b h = cc

-- two tests hold, and so both do
pub both : (a b : Bool) → a ≡ true → b ≡ true → (a && b) ≡ true
both true b h k = k
both false b h k = h

-- what the tests of a server's first datagram say
pub tests_hold : (going long same : Bool) (o : Option (List ℕ)) (token : List ℕ) → (if going && (long && same) then o else None) ≡ Some token → (going ≡ true) × (same ≡ true) × (o ≡ Some token)
tests_hold true true true o token h = (refl, refl, h)
tests_hold true true false o token h = cc
tests_hold true false same o token h = cc
tests_hold false long same o token h = cc

-- of two tests one fails
pub first_fails : (a b : Bool) → a ≡ false → (a && b) ≡ false
first_fails true b h = cc
first_fails false b h = refl

pub second_fails : (a b : Bool) → b ≡ false → (a && b) ≡ false
second_fails true b h = h
second_fails false b h = refl

-- each deed of a list is harmless
pub all_harmless : (ds : List Did) → All (λ d. is_harmless d ≡ true) ds → list_all is_harmless ds ≡ true
all_harmless [] h = refl
all_harmless (d ∷ ds) h =
    let first : is_harmless d ≡ true = All-head (λ d. is_harmless d ≡ true) d ds h in
    rw first (all_harmless ds (All-tail (λ d. is_harmless d ≡ true) d ds h))

-- where joined lists of deeds are harmless, each one is
pub front_harmless : (ds es : List Did) → list_all is_harmless (ds ++ es) ≡ true → list_all is_harmless ds ≡ true
front_harmless ds es h = first_holds (list_all is_harmless ds) (list_all is_harmless es) (sym (list_all-append is_harmless ds es) ∙ h)

pub back_harmless : (ds es : List Did) → list_all is_harmless (ds ++ es) ≡ true → list_all is_harmless es ≡ true
back_harmless ds es h = second_holds (list_all is_harmless ds) (list_all is_harmless es) (sym (list_all-append is_harmless ds es) ∙ h)

-- a packet that opened has one of five verdicts
abbrev pub is_opened : Verdict → Bool
is_opened verdict.Ignored = false
is_opened verdict.Failure = false
is_opened verdict.BadBits = false
is_opened verdict.BadUpdate = false
is_opened verdict.RetryTaken = false
is_opened verdict.Versions = false
is_opened _ = true

pub opened_by_row : (new closed early other : Bool) → is_opened (first_row ((not new, verdict.Seen) ∷ (closed, verdict.ReadForClose) ∷ (early, verdict.NumberOnly) ∷ (other, verdict.AckOnly) ∷ []) verdict.Admitted) ≡ true
opened_by_row true true early other = refl
opened_by_row true false true other = refl
opened_by_row true false false true = refl
opened_by_row true false false false = refl
opened_by_row false closed early other = refl

-- the handshake goes on, so the connection isn't over
pub not_over : (s : State) → is_handshake s ≡ true → is_over s ≡ false
not_over state.Handshake h = refl
not_over state.Established h = cc
not_over state.Closed h = cc
not_over state.Draining h = cc
not_over state.Drained h = cc

-- a server's first packet is an Initial one
pub initial_space : (dst src : List ℕ) (header : ProtectedHeader) → is_initial_with dst src header ≡ true → space_of header ≡ Some space.Initial
initial_space dst src (protected.Initial dst_cid src_cid token_start token_len version) h = refl
initial_space dst src _ h = cc

-- where a datagram's first packet is cut, it begins with a packet
pub front_read : (r : Result (Piece × List ℕ) PacketDecodeError) (others : List ℕ → List DatagramItem) (p : Piece) (items : List DatagramItem) → pieces_and r others ≡ Ok p ∷ items → is_ok r ≡ true
front_read (Ok piece) others p items e = refl
front_read (Err fault) others p items e = cc

pub within_read : (most len : ℕ) (versions : List ℕ) (grease : Bool) (bytes : List ℕ) (p : Piece) (items : List DatagramItem) → pieces_within most len versions grease bytes ≡ Ok p ∷ items → is_ok (piece_at len versions grease bytes) ≡ true
within_read zero len versions grease bytes p items e = cc
within_read (suc most) len versions grease [] p items e = cc
within_read (suc most) len versions grease (b ∷ bytes) p items e = front_read (piece_at len versions grease (b ∷ bytes)) (pieces_within most len versions grease) p items e

-- what is reported of a life
abbrev pub life_reported : Life → Life
life_reported v = drained_reported (notices_reported (lost_reported (all_heard_reported (connected_reported (ready_reported v)))))

-- what was reported isn't reported again
pub reported_again : (v : Life) → life_reported (life_reported v) ≡ life_reported v
unfolding drained_reported notices_reported lost_reported all_heard_reported connected_reported ready_reported
reported_again v = refl

-- a path that isn't blocked isn't blocked either once more bytes came
pub freed_by : (v b c : Bool) (sent less more : ℕ) → less ≤ more → nat_le (3 * less) sent ≡ b → nat_le (3 * more) sent ≡ c → (not v && b) ≡ false → (not v && c) ≡ false
freed_by true b c sent less more up is_b is_c f = refl
freed_by false true c sent less more up is_b is_c f = cc f
freed_by false false c sent less more up is_b is_c f =
    let few : sent < 3 * less = grind (arith, nat_tests) in
    grind (arith, nat_tests)

pub stays_free : {C : Type 0} → (p q : Paths C) → q ≡ record p { current = record p.current { received = q.current.received } } → p.current.received ≤ q.current.received → is_blocked p ≡ false → is_blocked q ≡ false
unfolding is_blocked
stays_free p q is more free =
    ap (λ x. not x.current.validated && nat_le (3 * x.current.received) x.current.sent) is
    ∙ freed_by p.current.validated (nat_le (3 * p.current.received) p.current.sent) (nat_le (3 * q.current.received) p.current.sent) p.current.sent p.current.received q.current.received more refl refl free
