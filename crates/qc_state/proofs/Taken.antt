-- The frames that this end takes, from the parts in which they are taken.
use Rattle.std.proofs.Common.{◌≡◌, ℕ, ◌+◌, ◌-◌, ◌<◌, ◌≤◌, ◌⊎◌, inl, List, [], ◌∷◌, ◌++◌, length, length-append, refl, ap, sym, ◌∙◌, subst, Bool, true, false, ◌||◌, ◌&&◌, not, ◌==◌, if◌then◌else◌, Option, arith}
use Rattle.std.proofs.lemmas.List.{append_assoc, append-nil}
use Rattle.qc_frame.specs.AckRanges.{ArePackets}
use Rattle.qc_frame.specs.Frame.{AckValue, FrameValue}
use Rattle.qc_frame.specs.declared.frames.FrameOf.TheVariants as frames
use Rattle.qc_frame.specs.FrameSpelling.{frames_spelling, spelling}
use Rattle.qc_frame.proofs.Lengths.{length-crypto}
use Rattle.qc_base.specs.Varint.{varint}
use Rattle.qc_frame.specs.declared.frames.FrameOf.TheVariants.{HandshakeDone, Ping}
use Rattle.qc_path.specs.Acks.{PendingValues}
use Rattle.qc_send_stream.specs.Buffer.{Buffer, has_bytes, range_sealed, waiting}
use Rattle.qc_state.specs.Acks.{AckPart, SaysAck, ack_sent, is_ack_first, is_ack_last, is_ack_owed}
use Rattle.qc_state.specs.StreamFrames.{sealed_steps}
use Rattle.qc_cids.specs.Steps as ids
use Rattle.qc_cids.specs.declared.connection_ids.ConnectionIds.{ConnectionIds}
use Rattle.qc_datagrams.specs.Steps as datagrams
use Rattle.qc_datagrams.specs.declared.datagrams.Datagrams.{Datagrams}
use Rattle.qc_state.specs.Datagrams.{AllOldest, sealed_datagrams}
use Rattle.qc_state.specs.Ids.{AllNext, sealed_cids}
use Rattle.qc_state.specs.Lower.{frames_sealed}
use Rattle.qc_state.specs.Taking.{AreOffered, CryptoPart, TakenPart, TakesAck, TakesCrypto, TakesOffered, marks_part, done_part, ping_part}
use Rattle.qc_state.specs.Offers.{ids_offer, offers_here, streams_offer, tokens_wait}
use Rattle.qc_state.specs.Waiting.{StartsWith, crypto_waits, wants_here, without, without_all}
use Rattle.qc_state.specs.declared.lower.Lower.{Lower}
use Rattle.qc_state.specs.declared.waiting.SpaceWaiting.{SpaceWaiting}
use Rattle.qc_state.proofs.AckLemmas.{none_due, not_both, part_same}
use Rattle.qc_state.proofs.DatagramSteps.{behind_none, datagrams_ack, datagrams_append, none_before, none_behind, oldest_first}
use Rattle.qc_state.proofs.IdSteps.{behind_no_cid, cids_ack, cids_append, next_first, no_cid_before, no_cid_behind}
use Rattle.qc_state.proofs.Issued.{behind_append, undrawn, issued_before, issued_first, issued_past, none_issued_behind, tokens_ack, tokens_append, tokens_crypto, tokens_marks, tokens_of}
use Rattle.qc_state.proofs.OffersTaken.{sealed_same}
use Rattle.qc_state.specs.Tokens.{AllIssued, behind_tokens}
use Rattle.rand_core.specs.Stream.{Stream}
use Rattle.std.specs.declared.net.ip_addr.IpAddr.{IpAddr}
use Rattle.qc_state.proofs.SealedSteps.{sealed_ack, sealed_append}
use Rattle.qc_state.proofs.StreamsTaken.{spelled_append}
use Rattle.qc_streams.specs.Waits.{Step}

-- what waits once joined lists are sealed
append_left : (w : SpaceWaiting) (fs gs : List FrameValue) → without_all w (fs ++ gs) ≡ without_all (without_all w fs) gs
unfolding without_all
append_left w [] gs = refl
append_left w (f ∷ fs) gs = append_left (without w f) fs gs

-- a HANDSHAKE_DONE and a PING leave the numbers to acknowledge and the counts of marks
marks_acks_by : (w : SpaceWaiting) (a b : Bool) → (without_all w ((if a then HandshakeDone ∷ [] else []) ++ (if b then Ping ∷ [] else []))).acks ≡ w.acks
unfolding without_all without
marks_acks_by w true true = refl
marks_acks_by w true false = refl
marks_acks_by w false true = refl
marks_acks_by w false false = refl

marks_counts_by : (w : SpaceWaiting) (a b : Bool) → (without_all w ((if a then HandshakeDone ∷ [] else []) ++ (if b then Ping ∷ [] else []))).marks ≡ w.marks
unfolding without_all without
marks_counts_by w true true = refl
marks_counts_by w true false = refl
marks_counts_by w false true = refl
marks_counts_by w false false = refl

marks_counts : (w : SpaceWaiting) → (without_all w (marks_part w)).marks ≡ w.marks
unfolding marks_part done_part ping_part
marks_counts w = marks_counts_by w w.done w.ping

marks_acks : (w : SpaceWaiting) → (without_all w (marks_part w)).acks ≡ w.acks
unfolding marks_part done_part ping_part
marks_acks w = marks_acks_by w w.done w.ping

-- an ACK leaves the numbers to acknowledge
ack_ranges : (time room : ℕ) (w : SpaceWaiting) (fs : List FrameValue) (b : Bool) → AckPart time w room fs b → (without_all w fs).acks.ranges ≡ w.acks.ranges
unfolding without_all without
ack_ranges time room w fs true (AckPart.one ack says fits is) = ap (λ (x : List FrameValue). (without_all w x).acks.ranges) is
ack_ranges time room w fs true (AckPart.left_out ack says long is) = ap (λ (x : List FrameValue). (without_all w x).acks.ranges) is
ack_ranges time room w fs false (AckPart.none is) = ap (λ (x : List FrameValue). (without_all w x).acks.ranges) is

-- CRYPTO frames leave them, and all else that is kept for an ACK
pub crypto_acks : (w : SpaceWaiting) (room : ℕ) (fs : List FrameValue) → CryptoPart w room fs → (without_all w fs).acks ≡ w.acks
unfolding without_all without CryptoPart
crypto_acks w room [] h = refl
crypto_acks w room (frames.Crypto offset body ∷ fs) h = crypto_acks (without w (frames.Crypto offset body)) _ fs h.2
crypto_acks w room (_ ∷ fs) h = absurd h

pub crypto_counts : (w : SpaceWaiting) (room : ℕ) (fs : List FrameValue) → CryptoPart w room fs → (without_all w fs).marks ≡ w.marks
unfolding without_all without CryptoPart
crypto_counts w room [] h = refl
crypto_counts w room (frames.Crypto offset body ∷ fs) h = crypto_counts (without w (frames.Crypto offset body)) _ fs h.2
crypto_counts w room (_ ∷ fs) h = absurd h

-- where an ACK is bundled behind other frames, what is kept for it is as it was before them
pub last_same : (time room rest : ℕ) (bundled : Option ℕ) (w v : SpaceWaiting) (acks crypto : List FrameValue) → w.acks ≡ v.acks → AckPart time w room acks (is_ack_first w.acks) →
    CryptoPart (without_all v acks) rest crypto → is_ack_last time bundled w.acks ≡ true → (without_all (without_all v acks) crypto).acks ≡ w.acks
unfolding without_all
last_same time room rest bundled w v acks crypto same part bytes e =
    let none : acks ≡ [] = none_due time room w acks (is_ack_first w.acks) (not_both time bundled w.acks e) part in
    crypto_acks (without_all v acks) rest crypto bytes ∙ ap (λ (x : List FrameValue). (without_all v x).acks) none ∙ sym same

-- so are the counts of marks
ack_counts : (time room : ℕ) (w v : SpaceWaiting) (fs : List FrameValue) (b : Bool) → AckPart time w room fs b → (without_all v fs).marks ≡ v.marks
unfolding without_all without
ack_counts time room w v fs true (AckPart.one ack says fits is) = ap (λ (x : List FrameValue). (without_all v x).marks) is
ack_counts time room w v fs true (AckPart.left_out ack says long is) = ap (λ (x : List FrameValue). (without_all v x).marks) is
ack_counts time room w v fs false (AckPart.none is) = ap (λ (x : List FrameValue). (without_all v x).marks) is

pub last_counts : (time room rest : ℕ) (w v : SpaceWaiting) (acks crypto : List FrameValue) (b : Bool) → w.marks ≡ v.marks → AckPart time w room acks b → CryptoPart (without_all v acks) rest crypto →
    (without_all (without_all v acks) crypto).marks ≡ w.marks
last_counts time room rest w v acks crypto b same part bytes = crypto_counts (without_all v acks) rest crypto bytes ∙ ack_counts time room w v acks b part ∙ sym same

-- the numbers are those of packets once the marks were taken, too
pub same_acks : (w w1 : SpaceWaiting) (due : Bool) → w1 ≡ without_all w (marks_part w) → (due ≡ true → ArePackets w.acks.ranges) → due ≡ true → ArePackets w1.acks.ranges
same_acks w w1 due is packets h = subst (λ (p : PendingValues). ArePackets p.ranges) (sym (ap (λ (x : SpaceWaiting). x.acks) is ∙ marks_acks w)) (packets h)

-- and once the ACK in front and the CRYPTO bytes were
pub same_numbers : (time room rest len left : ℕ) (due last : Bool) (w w1 w2 w3 : SpaceWaiting) (fs1 fs2 fs3 : List FrameValue) → w1 ≡ without_all w (marks_part w) → TakesAck time due room w1 w2 fs1 fs2 len →
    TakesCrypto rest w2 w3 fs2 fs3 left → (last ≡ true → ArePackets w.acks.ranges) → last ≡ true → ArePackets w3.acks.ranges
same_numbers time room rest len left due last w w1 w2 w3 fs1 fs2 fs3 is takes crypto packets h =
    let same : w3.acks.ranges ≡ w.acks.ranges =
    ap (λ (x : SpaceWaiting). x.acks.ranges) crypto.rest ∙ ap (λ (p : PendingValues). p.ranges) (crypto_acks w2 rest crypto.frames crypto.part) ∙ ap (λ (x : SpaceWaiting). x.acks.ranges) takes.rest
    ∙ ack_ranges time room w1 takes.acks due takes.part ∙ ap (λ (x : SpaceWaiting). x.acks.ranges) is ∙ ap (λ (p : PendingValues). p.ranges) (marks_acks w) in
    subst ArePackets (sym same) (packets h)

-- the frames, part by part
parts_list : (w : SpaceWaiting) (fs0 fs1 fs2 fs3 fs4 fs5 acks crypto own last : List FrameValue) → fs0 ≡ [] → fs1 ≡ fs0 ++ marks_part w → fs2 ≡ fs1 ++ acks → fs3 ≡ fs2 ++ crypto → fs4 ≡ fs3 ++ own →
    fs5 ≡ fs4 ++ last → fs5 ≡ marks_part w ++ (acks ++ (crypto ++ (own ++ last)))
parts_list w fs0 fs1 fs2 fs3 fs4 fs5 acks crypto own last is_fs0 is_fs1 is_fs2 is_fs3 is_fs4 is_fs5 =
    is_fs5 ∙ ap (λ (x : List FrameValue). x ++ last) is_fs4 ∙ ap (λ (x : List FrameValue). (x ++ own) ++ last) is_fs3 ∙ ap (λ (x : List FrameValue). ((x ++ crypto) ++ own) ++ last) is_fs2
    ∙ ap (λ (x : List FrameValue). (((x ++ acks) ++ crypto) ++ own) ++ last) (is_fs1 ∙ ap (λ (x : List FrameValue). x ++ marks_part w) is_fs0) ∙ simp append_assoc

-- frames that the layers below offer, and NEW_TOKENs, leave what else waits in a space
pub record Beside (w v : SpaceWaiting) : Type 0 where
  pub done : v.done ≡ w.done
  pub ping : v.ping ≡ w.ping
  pub crypto : v.crypto ≡ w.crypto
  pub acks : v.acks ≡ w.acks
  pub marks : v.marks ≡ w.marks

pub offered_leaves : (b : Bool) (w : SpaceWaiting) (fs : List FrameValue) → AreOffered b fs → Beside w (without_all w fs)
unfolding without_all without
offered_leaves b w [] h = record { done = refl; ping = refl; crypto = refl; acks = refl; marks = refl }
offered_leaves b w (frames.Stream id offset fin body ∷ fs) h = offered_leaves b w fs h.3
offered_leaves b w (frames.ResetStream id code size ∷ fs) h = offered_leaves b w fs h.3
offered_leaves b w (frames.StopSending id code ∷ fs) h = offered_leaves b w fs h.3
offered_leaves b w (frames.MaxData limit ∷ fs) h = offered_leaves b w fs h.3
offered_leaves b w (frames.MaxStreamData id limit ∷ fs) h = offered_leaves b w fs h.3
offered_leaves b w (frames.MaxStreams dir limit ∷ fs) h = offered_leaves b w fs h.3
offered_leaves b w (frames.Datagram body ∷ fs) h = offered_leaves b w fs h.3
offered_leaves b w (frames.NewConnectionId new ∷ fs) h = offered_leaves b w fs h.3
offered_leaves b w (frames.RetireConnectionId sequence ∷ fs) h = offered_leaves b w fs h.3
offered_leaves b w (frames.NewToken token ∷ fs) h =
    let rest : Beside (without w (frames.NewToken token)) (without_all (without w (frames.NewToken token)) fs) = offered_leaves b (without w (frames.NewToken token)) fs h.3 in
    record { done = rest.done; ping = rest.ping; crypto = rest.crypto; acks = rest.acks; marks = rest.marks }
offered_leaves b w (_ ∷ fs) h = cc

-- where numbers are those of packets, they are once such frames were taken
pub offered_numbers : {S : Type 0} {issuer : Option (IpAddr → ℕ → List ℕ)} {ip : IpAddr} {words words' : Stream} {l l' : Lower S} {fs gs : List FrameValue} (in_data : Bool) (room left : ℕ) (w v : SpaceWaiting) (last : Bool) →
    TakesOffered issuer ip in_data room w v words words' l l' fs gs left → (last ≡ true → ArePackets w.acks.ranges) → last ≡ true → ArePackets v.acks.ranges
offered_numbers in_data room left w v last takes packets h =
    subst (λ (p : PendingValues). ArePackets p.ranges) (sym (ap (λ (x : SpaceWaiting). x.acks) takes.rest ∙ (offered_leaves in_data w takes.own takes.are).acks)) (packets h)

-- what is left once all parts were taken
pub without_parts : {S : Type 0} {issuer : Option (IpAddr → ℕ → List ℕ)} {ip : IpAddr} {words words' : Stream} {wt : SpaceWaiting} (time room rest more left len len' : ℕ) (due due' in_data : Bool) (w w1 w2 w3 w4 : SpaceWaiting) (fs0 fs1 fs2 fs3 fs4 fs5 : List FrameValue) (l l' : Lower S) →
    fs0 ≡ [] → fs1 ≡ fs0 ++ marks_part w → w1 ≡ without_all w (marks_part w) → TakesAck time due room w1 w2 fs1 fs2 len →
    TakesCrypto rest w2 w3 fs2 fs3 more → TakesOffered issuer ip in_data more w3 wt words words' l l' fs3 fs4 left → TakesAck time due' left wt w4 fs4 fs5 len' → w4 ≡ without_all w fs5
without_parts time room rest more left len len' due due' in_data w w1 w2 w3 w4 fs0 fs1 fs2 fs3 fs4 fs5 l l' is_fs0 is_fs1 is_w1 takes crypto streams bundle =
    let all : fs5 ≡ marks_part w ++ (takes.acks ++ (crypto.frames ++ (streams.own ++ bundle.acks))) =
    parts_list w fs0 fs1 fs2 fs3 fs4 fs5 takes.acks crypto.frames streams.own bundle.acks is_fs0 is_fs1 takes.list crypto.list streams.list bundle.list in
    let w_acks : SpaceWaiting = without_all (without_all w (marks_part w)) takes.acks in
    let w_crypto : SpaceWaiting = without_all w_acks crypto.frames in
    let w_own : SpaceWaiting = without_all w_crypto streams.own in
    let behind : w4 ≡ without_all w_own bundle.acks =
    bundle.rest ∙ ap (λ (x : SpaceWaiting). without_all x bundle.acks) (streams.rest ∙ ap (λ (x : SpaceWaiting). without_all x streams.own)
    (crypto.rest ∙ ap (λ (x : SpaceWaiting). without_all x crypto.frames) (takes.rest ∙ ap (λ (x : SpaceWaiting). without_all x takes.acks) is_w1))) in
    let together : without_all w fs5 ≡ without_all w_own bundle.acks =
    ap (λ (fs : List FrameValue). without_all w fs) all ∙ append_left w (marks_part w) (takes.acks ++ (crypto.frames ++ (streams.own ++ bundle.acks)))
    ∙ append_left (without_all w (marks_part w)) takes.acks (crypto.frames ++ (streams.own ++ bundle.acks)) ∙ append_left w_acks crypto.frames (streams.own ++ bundle.acks)
    ∙ append_left w_crypto streams.own bundle.acks in
    behind ∙ sym together

-- ---- the steps of the streams

-- a HANDSHAKE_DONE and a PING are none
marks_steps_by : (a b : Bool) → sealed_steps ((if a then HandshakeDone ∷ [] else []) ++ (if b then Ping ∷ [] else [])) ≡ []
unfolding sealed_steps
marks_steps_by true true = refl
marks_steps_by true false = refl
marks_steps_by false true = refl
marks_steps_by false false = refl

marks_steps : (w : SpaceWaiting) → sealed_steps (marks_part w) ≡ []
unfolding marks_part done_part ping_part
marks_steps w = marks_steps_by w.done w.ping

-- nor is a CRYPTO frame
crypto_steps : (w : SpaceWaiting) (room : ℕ) (fs : List FrameValue) → CryptoPart w room fs → sealed_steps fs ≡ []
unfolding sealed_steps CryptoPart
crypto_steps w room [] h = refl
crypto_steps w room (frames.Crypto offset body ∷ fs) h = crypto_steps (without w (frames.Crypto offset body)) _ fs h.2
crypto_steps w room (_ ∷ fs) h = absurd h

-- so the steps of a packet are those of the offered frames among them
steps_by : (marks acks crypto own last : List FrameValue) → sealed_steps marks ≡ [] → sealed_steps acks ≡ [] → sealed_steps crypto ≡ [] → sealed_steps last ≡ [] →
    sealed_steps (marks ++ (acks ++ (crypto ++ (own ++ last)))) ≡ sealed_steps own
steps_by marks acks crypto own last no_marks no_acks no_crypto no_last =
    sealed_append marks (acks ++ (crypto ++ (own ++ last))) ∙ ap (λ (xs : List Step). xs ++ sealed_steps (acks ++ (crypto ++ (own ++ last)))) no_marks
    ∙ sealed_append acks (crypto ++ (own ++ last)) ∙ ap (λ (xs : List Step). xs ++ sealed_steps (crypto ++ (own ++ last))) no_acks
    ∙ sealed_append crypto (own ++ last) ∙ ap (λ (xs : List Step). xs ++ sealed_steps (own ++ last)) no_crypto
    ∙ sealed_append own last ∙ ap (λ (xs : List Step). sealed_steps own ++ xs) no_last ∙ append-nil (sealed_steps own)

pub parts_steps : {S : Type 0} {issuer : Option (IpAddr → ℕ → List ℕ)} {ip : IpAddr} {words words' : Stream} {wt : SpaceWaiting} (time room rest more left len len' : ℕ) (due due' in_data : Bool) (w w1 w2 w3 w4 : SpaceWaiting) (fs0 fs1 fs2 fs3 fs4 fs5 : List FrameValue) (l l' : Lower S) →
    fs0 ≡ [] → fs1 ≡ fs0 ++ marks_part w → TakesAck time due room w1 w2 fs1 fs2 len → TakesCrypto rest w2 w3 fs2 fs3 more → (streams : TakesOffered issuer ip in_data more w3 wt words words' l l' fs3 fs4 left) →
    TakesAck time due' left wt w4 fs4 fs5 len' → sealed_steps fs5 ≡ sealed_steps streams.own
parts_steps time room rest more left len len' due due' in_data w w1 w2 w3 w4 fs0 fs1 fs2 fs3 fs4 fs5 l l' is_fs0 is_fs1 takes crypto streams bundle =
    ap sealed_steps (parts_list w fs0 fs1 fs2 fs3 fs4 fs5 takes.acks crypto.frames streams.own bundle.acks is_fs0 is_fs1 takes.list crypto.list streams.list bundle.list)
    ∙ steps_by (marks_part w) takes.acks crypto.frames streams.own bundle.acks (marks_steps w) (sealed_ack time room w1 takes.acks due takes.part) (crypto_steps w2 rest crypto.frames crypto.part)
    (sealed_ack time left _ bundle.acks due' bundle.part)

-- ---- the steps of the datagrams

marks_datagrams_by : (a b : Bool) → sealed_datagrams ((if a then HandshakeDone ∷ [] else []) ++ (if b then Ping ∷ [] else [])) ≡ []
unfolding sealed_datagrams
marks_datagrams_by true true = refl
marks_datagrams_by true false = refl
marks_datagrams_by false true = refl
marks_datagrams_by false false = refl

marks_datagrams : (w : SpaceWaiting) → sealed_datagrams (marks_part w) ≡ []
unfolding marks_part done_part ping_part
marks_datagrams w = marks_datagrams_by w.done w.ping

crypto_datagrams : (w : SpaceWaiting) (room : ℕ) (fs : List FrameValue) → CryptoPart w room fs → sealed_datagrams fs ≡ []
unfolding sealed_datagrams CryptoPart
crypto_datagrams w room [] h = refl
crypto_datagrams w room (frames.Crypto offset body ∷ fs) h = crypto_datagrams (without w (frames.Crypto offset body)) _ fs h.2
crypto_datagrams w room (_ ∷ fs) h = absurd h

-- so those of a packet are those of the offered frames among them
datagrams_by : (marks acks crypto own last : List FrameValue) → sealed_datagrams marks ≡ [] → sealed_datagrams acks ≡ [] → sealed_datagrams crypto ≡ [] → sealed_datagrams last ≡ [] →
    sealed_datagrams (marks ++ (acks ++ (crypto ++ (own ++ last)))) ≡ sealed_datagrams own
datagrams_by marks acks crypto own last no_marks no_acks no_crypto no_last =
    datagrams_append marks (acks ++ (crypto ++ (own ++ last))) ∙ ap (λ (xs : List datagrams.Step). xs ++ sealed_datagrams (acks ++ (crypto ++ (own ++ last)))) no_marks
    ∙ datagrams_append acks (crypto ++ (own ++ last)) ∙ ap (λ (xs : List datagrams.Step). xs ++ sealed_datagrams (crypto ++ (own ++ last))) no_acks
    ∙ datagrams_append crypto (own ++ last) ∙ ap (λ (xs : List datagrams.Step). xs ++ sealed_datagrams (own ++ last)) no_crypto
    ∙ datagrams_append own last ∙ ap (λ (xs : List datagrams.Step). sealed_datagrams own ++ xs) no_last ∙ append-nil (sealed_datagrams own)

parts_datagrams : {S : Type 0} {issuer : Option (IpAddr → ℕ → List ℕ)} {ip : IpAddr} {words words' : Stream} {wt : SpaceWaiting} (time room rest more left len len' : ℕ) (due due' in_data : Bool) (w w1 w2 w3 w4 : SpaceWaiting) (fs0 fs1 fs2 fs3 fs4 fs5 : List FrameValue) (l l' : Lower S) →
    fs0 ≡ [] → fs1 ≡ fs0 ++ marks_part w → TakesAck time due room w1 w2 fs1 fs2 len → TakesCrypto rest w2 w3 fs2 fs3 more → (own : TakesOffered issuer ip in_data more w3 wt words words' l l' fs3 fs4 left) →
    TakesAck time due' left wt w4 fs4 fs5 len' → sealed_datagrams fs5 ≡ sealed_datagrams own.own
parts_datagrams time room rest more left len len' due due' in_data w w1 w2 w3 w4 fs0 fs1 fs2 fs3 fs4 fs5 l l' is_fs0 is_fs1 takes crypto own bundle =
    ap sealed_datagrams (parts_list w fs0 fs1 fs2 fs3 fs4 fs5 takes.acks crypto.frames own.own bundle.acks is_fs0 is_fs1 takes.list crypto.list own.list bundle.list)
    ∙ datagrams_by (marks_part w) takes.acks crypto.frames own.own bundle.acks (marks_datagrams w) (datagrams_ack time room w1 takes.acks due takes.part) (crypto_datagrams w2 rest crypto.frames crypto.part)
    (datagrams_ack time left _ bundle.acks due' bundle.part)

-- each DATAGRAM of the packet holds the oldest datagram, as each of the offered frames does
pub parts_oldest : {S : Type 0} {issuer : Option (IpAddr → ℕ → List ℕ)} {ip : IpAddr} {words words' : Stream} {wt : SpaceWaiting} (time room rest more left len len' : ℕ) (due due' in_data : Bool) (w w1 w2 w3 w4 : SpaceWaiting) (fs0 fs1 fs2 fs3 fs4 fs5 : List FrameValue) (l l' : Lower S) →
    fs0 ≡ [] → fs1 ≡ fs0 ++ marks_part w → TakesAck time due room w1 w2 fs1 fs2 len → TakesCrypto rest w2 w3 fs2 fs3 more → TakesOffered issuer ip in_data more w3 wt words words' l l' fs3 fs4 left →
    TakesAck time due' left wt w4 fs4 fs5 len' → AllOldest fs5 l.datagrams
parts_oldest time room rest more left len len' due due' in_data w w1 w2 w3 w4 fs0 fs1 fs2 fs3 fs4 fs5 l l' is_fs0 is_fs1 takes crypto own bundle =
    let last : AllOldest (own.own ++ bundle.acks) l.datagrams = none_behind own.own bundle.acks l.datagrams (datagrams_ack time left _ bundle.acks due' bundle.part) own.oldest in
    let behind : AllOldest (crypto.frames ++ (own.own ++ bundle.acks)) l.datagrams = none_before crypto.frames (own.own ++ bundle.acks) l.datagrams (crypto_datagrams w2 rest crypto.frames crypto.part) last in
    let front : AllOldest (takes.acks ++ (crypto.frames ++ (own.own ++ bundle.acks))) l.datagrams =
    none_before takes.acks (crypto.frames ++ (own.own ++ bundle.acks)) l.datagrams (datagrams_ack time room w1 takes.acks due takes.part) behind in
    subst (λ (fs : List FrameValue). AllOldest fs l.datagrams) (sym (parts_list w fs0 fs1 fs2 fs3 fs4 fs5 takes.acks crypto.frames own.own bundle.acks is_fs0 is_fs1 takes.list crypto.list own.list bundle.list))
    (none_before (marks_part w) (takes.acks ++ (crypto.frames ++ (own.own ++ bundle.acks))) l.datagrams (marks_datagrams w) front)

-- ---- the steps of the ids

marks_cids_by : (a b : Bool) → sealed_cids ((if a then HandshakeDone ∷ [] else []) ++ (if b then Ping ∷ [] else [])) ≡ []
unfolding sealed_cids
marks_cids_by true true = refl
marks_cids_by true false = refl
marks_cids_by false true = refl
marks_cids_by false false = refl

marks_cids : (w : SpaceWaiting) → sealed_cids (marks_part w) ≡ []
unfolding marks_part done_part ping_part
marks_cids w = marks_cids_by w.done w.ping

crypto_cids : (w : SpaceWaiting) (room : ℕ) (fs : List FrameValue) → CryptoPart w room fs → sealed_cids fs ≡ []
unfolding sealed_cids CryptoPart
crypto_cids w room [] h = refl
crypto_cids w room (frames.Crypto offset body ∷ fs) h = crypto_cids (without w (frames.Crypto offset body)) _ fs h.2
crypto_cids w room (_ ∷ fs) h = absurd h

-- so those of a packet are those of the offered frames among them
cids_by : (marks acks crypto own last : List FrameValue) → sealed_cids marks ≡ [] → sealed_cids acks ≡ [] → sealed_cids crypto ≡ [] → sealed_cids last ≡ [] →
    sealed_cids (marks ++ (acks ++ (crypto ++ (own ++ last)))) ≡ sealed_cids own
cids_by marks acks crypto own last no_marks no_acks no_crypto no_last =
    cids_append marks (acks ++ (crypto ++ (own ++ last))) ∙ ap (λ (xs : List ids.Step). xs ++ sealed_cids (acks ++ (crypto ++ (own ++ last)))) no_marks
    ∙ cids_append acks (crypto ++ (own ++ last)) ∙ ap (λ (xs : List ids.Step). xs ++ sealed_cids (crypto ++ (own ++ last))) no_acks
    ∙ cids_append crypto (own ++ last) ∙ ap (λ (xs : List ids.Step). xs ++ sealed_cids (own ++ last)) no_crypto
    ∙ cids_append own last ∙ ap (λ (xs : List ids.Step). sealed_cids own ++ xs) no_last ∙ append-nil (sealed_cids own)

parts_cids : {S : Type 0} {issuer : Option (IpAddr → ℕ → List ℕ)} {ip : IpAddr} {words words' : Stream} {wt : SpaceWaiting} (time room rest more left len len' : ℕ) (due due' in_data : Bool) (w w1 w2 w3 w4 : SpaceWaiting) (fs0 fs1 fs2 fs3 fs4 fs5 : List FrameValue) (l l' : Lower S) →
    fs0 ≡ [] → fs1 ≡ fs0 ++ marks_part w → TakesAck time due room w1 w2 fs1 fs2 len → TakesCrypto rest w2 w3 fs2 fs3 more → (own : TakesOffered issuer ip in_data more w3 wt words words' l l' fs3 fs4 left) →
    TakesAck time due' left wt w4 fs4 fs5 len' → sealed_cids fs5 ≡ sealed_cids own.own
parts_cids time room rest more left len len' due due' in_data w w1 w2 w3 w4 fs0 fs1 fs2 fs3 fs4 fs5 l l' is_fs0 is_fs1 takes crypto own bundle =
    ap sealed_cids (parts_list w fs0 fs1 fs2 fs3 fs4 fs5 takes.acks crypto.frames own.own bundle.acks is_fs0 is_fs1 takes.list crypto.list own.list bundle.list)
    ∙ cids_by (marks_part w) takes.acks crypto.frames own.own bundle.acks (marks_cids w) (cids_ack time room w1 takes.acks due takes.part) (crypto_cids w2 rest crypto.frames crypto.part)
    (cids_ack time left _ bundle.acks due' bundle.part)

-- each frame of the packet that is theirs is the one that goes next, as each of the offered frames is
pub parts_next : {S : Type 0} {issuer : Option (IpAddr → ℕ → List ℕ)} {ip : IpAddr} {words words' : Stream} {wt : SpaceWaiting} (time room rest more left len len' : ℕ) (due due' in_data : Bool) (w w1 w2 w3 w4 : SpaceWaiting) (fs0 fs1 fs2 fs3 fs4 fs5 : List FrameValue) (l l' : Lower S) →
    fs0 ≡ [] → fs1 ≡ fs0 ++ marks_part w → TakesAck time due room w1 w2 fs1 fs2 len → TakesCrypto rest w2 w3 fs2 fs3 more → TakesOffered issuer ip in_data more w3 wt words words' l l' fs3 fs4 left →
    TakesAck time due' left wt w4 fs4 fs5 len' → AllNext fs5 l.ids
parts_next time room rest more left len len' due due' in_data w w1 w2 w3 w4 fs0 fs1 fs2 fs3 fs4 fs5 l l' is_fs0 is_fs1 takes crypto own bundle =
    let last : AllNext (own.own ++ bundle.acks) l.ids = no_cid_behind own.own bundle.acks l.ids (cids_ack time left _ bundle.acks due' bundle.part) own.next in
    let behind : AllNext (crypto.frames ++ (own.own ++ bundle.acks)) l.ids = no_cid_before crypto.frames (own.own ++ bundle.acks) l.ids (crypto_cids w2 rest crypto.frames crypto.part) last in
    let front : AllNext (takes.acks ++ (crypto.frames ++ (own.own ++ bundle.acks))) l.ids =
    no_cid_before takes.acks (crypto.frames ++ (own.own ++ bundle.acks)) l.ids (cids_ack time room w1 takes.acks due takes.part) behind in
    subst (λ (fs : List FrameValue). AllNext fs l.ids) (sym (parts_list w fs0 fs1 fs2 fs3 fs4 fs5 takes.acks crypto.frames own.own bundle.acks is_fs0 is_fs1 takes.list crypto.list own.list bundle.list))
    (no_cid_before (marks_part w) (takes.acks ++ (crypto.frames ++ (own.own ++ bundle.acks))) l.ids (marks_cids w) front)

-- ---- the tokens

-- each token of the packet is made as its turn comes, as each of the offered frames' is
pub parts_issued : {S : Type 0} {words' : Stream} {wt : SpaceWaiting} (issuer : Option (IpAddr → ℕ → List ℕ)) (ip : IpAddr) (words : Stream) (time room rest more left len len' : ℕ) (due due' in_data : Bool) (w w1 w2 w3 w4 : SpaceWaiting)
    (fs0 fs1 fs2 fs3 fs4 fs5 : List FrameValue) (l l' : Lower S) → fs0 ≡ [] → fs1 ≡ fs0 ++ marks_part w → w1 ≡ without_all w (marks_part w) → TakesAck time due room w1 w2 fs1 fs2 len →
    TakesCrypto rest w2 w3 fs2 fs3 more → TakesOffered issuer ip in_data more w3 wt words words' l l' fs3 fs4 left → TakesAck time due' left wt w4 fs4 fs5 len' → AllIssued issuer ip fs5 w words
parts_issued issuer ip words time room rest more left len len' due due' in_data w w1 w2 w3 w4 fs0 fs1 fs2 fs3 fs4 fs5 l l' is_fs0 is_fs1 is_w1 takes crypto own bundle =
    let w_acks : SpaceWaiting = without_all (without_all w (marks_part w)) takes.acks in
    let here : w3 ≡ without_all w_acks crypto.frames =
    crypto.rest ∙ ap (λ (x : SpaceWaiting). without_all x crypto.frames) (takes.rest ∙ ap (λ (x : SpaceWaiting). without_all x takes.acks) is_w1) in
    let last : AllIssued issuer ip (own.own ++ bundle.acks) (without_all w_acks crypto.frames) words =
    none_issued_behind issuer ip own.own bundle.acks _ words (tokens_ack time left _ bundle.acks due' bundle.part) (subst (λ (x : SpaceWaiting). AllIssued issuer ip own.own x words) here own.issued) in
    let behind : AllIssued issuer ip (crypto.frames ++ (own.own ++ bundle.acks)) w_acks words =
    issued_before issuer ip crypto.frames (own.own ++ bundle.acks) w_acks words (tokens_crypto w2 rest crypto.frames crypto.part) last in
    let front : AllIssued issuer ip (takes.acks ++ (crypto.frames ++ (own.own ++ bundle.acks))) (without_all w (marks_part w)) words =
    issued_before issuer ip takes.acks (crypto.frames ++ (own.own ++ bundle.acks)) (without_all w (marks_part w)) words (tokens_ack time room w1 takes.acks due takes.part) behind in
    subst (λ (fs : List FrameValue). AllIssued issuer ip fs w words) (sym (parts_list w fs0 fs1 fs2 fs3 fs4 fs5 takes.acks crypto.frames own.own bundle.acks is_fs0 is_fs1 takes.list crypto.list own.list bundle.list))
    (issued_before issuer ip (marks_part w) (takes.acks ++ (crypto.frames ++ (own.own ++ bundle.acks))) w words (tokens_marks w) front)

-- no others are made: the words are those behind the packet's tokens
drawn_by : (marks acks crypto own last : List FrameValue) (words : Stream) → tokens_of marks ≡ [] → tokens_of acks ≡ [] → tokens_of crypto ≡ [] → tokens_of last ≡ [] →
    behind_tokens (marks ++ (acks ++ (crypto ++ (own ++ last)))) words ≡ behind_tokens own words
drawn_by marks acks crypto own last words no_marks no_acks no_crypto no_last =
    behind_append marks (acks ++ (crypto ++ (own ++ last))) words ∙ ap (λ (x : Stream). behind_tokens (acks ++ (crypto ++ (own ++ last))) x) (undrawn marks words no_marks)
    ∙ behind_append acks (crypto ++ (own ++ last)) words ∙ ap (λ (x : Stream). behind_tokens (crypto ++ (own ++ last)) x) (undrawn acks words no_acks)
    ∙ behind_append crypto (own ++ last) words ∙ ap (λ (x : Stream). behind_tokens (own ++ last) x) (undrawn crypto words no_crypto)
    ∙ behind_append own last words ∙ undrawn last (behind_tokens own words) no_last

pub parts_drawn : {S : Type 0} {issuer : Option (IpAddr → ℕ → List ℕ)} {ip : IpAddr} {wt : SpaceWaiting} (words words' : Stream) (time room rest more left len len' : ℕ) (due due' in_data : Bool) (w w1 w2 w3 w4 : SpaceWaiting)
    (fs0 fs1 fs2 fs3 fs4 fs5 : List FrameValue) (l l' : Lower S) → fs0 ≡ [] → fs1 ≡ fs0 ++ marks_part w → TakesAck time due room w1 w2 fs1 fs2 len → TakesCrypto rest w2 w3 fs2 fs3 more →
    TakesOffered issuer ip in_data more w3 wt words words' l l' fs3 fs4 left → TakesAck time due' left wt w4 fs4 fs5 len' → words' ≡ behind_tokens fs5 words
parts_drawn words words' time room rest more left len len' due due' in_data w w1 w2 w3 w4 fs0 fs1 fs2 fs3 fs4 fs5 l l' is_fs0 is_fs1 takes crypto own bundle =
    own.drawn
    ∙ sym (ap (λ (fs : List FrameValue). behind_tokens fs words) (parts_list w fs0 fs1 fs2 fs3 fs4 fs5 takes.acks crypto.frames own.own bundle.acks is_fs0 is_fs1 takes.list crypto.list own.list bundle.list)
    ∙ drawn_by (marks_part w) takes.acks crypto.frames own.own bundle.acks words (tokens_marks w) (tokens_ack time room w1 takes.acks due takes.part) (tokens_crypto w2 rest crypto.frames crypto.part)
    (tokens_ack time left _ bundle.acks due' bundle.part))

-- ---- what they leave

-- the frames of a packet leave of the layers below what the offered ones among them leave
pub parts_leads : {S : Type 0} {issuer : Option (IpAddr → ℕ → List ℕ)} {ip : IpAddr} {words words' : Stream} {wt : SpaceWaiting} (time room rest more left len len' : ℕ) (due due' in_data : Bool) (w w1 w2 w3 w4 : SpaceWaiting) (fs0 fs1 fs2 fs3 fs4 fs5 : List FrameValue) (l l' : Lower S) →
    fs0 ≡ [] → fs1 ≡ fs0 ++ marks_part w → TakesAck time due room w1 w2 fs1 fs2 len → TakesCrypto rest w2 w3 fs2 fs3 more → TakesOffered issuer ip in_data more w3 wt words words' l l' fs3 fs4 left →
    TakesAck time due' left wt w4 fs4 fs5 len' → l' ≡ frames_sealed fs5 l
parts_leads time room rest more left len len' due due' in_data w w1 w2 w3 w4 fs0 fs1 fs2 fs3 fs4 fs5 l l' is_fs0 is_fs1 takes crypto own bundle =
    own.leads
    ∙ sym (sealed_same fs5 own.own l (parts_steps time room rest more left len len' due due' in_data w w1 w2 w3 w4 fs0 fs1 fs2 fs3 fs4 fs5 l l' is_fs0 is_fs1 takes crypto own bundle)
    (parts_datagrams time room rest more left len len' due due' in_data w w1 w2 w3 w4 fs0 fs1 fs2 fs3 fs4 fs5 l l' is_fs0 is_fs1 takes crypto own bundle)
    (parts_cids time room rest more left len len' due due' in_data w w1 w2 w3 w4 fs0 fs1 fs2 fs3 fs4 fs5 l l' is_fs0 is_fs1 takes crypto own bundle))

-- the ACK behind other frames is one of what waited before them
last_part : (time room rest left : ℕ) (bundled : Option ℕ) (b : Bool) (w v u : SpaceWaiting) (acks crypto last : List FrameValue) → w.acks ≡ v.acks → w.marks ≡ v.marks → AckPart time w room acks (is_ack_first w.acks) →
    CryptoPart (without_all v acks) rest crypto → u ≡ without_all (without_all v acks) crypto → is_ack_last time bundled w.acks ≡ b → AckPart time u left last b → AckPart time w left last b
last_part time room rest left bundled true w v u acks crypto last same counts part bytes is e taken =
    part_same time left u w last true (ap (λ (x : SpaceWaiting). x.acks) is ∙ last_same time room rest bundled w v acks crypto same part bytes e)
    (ap (λ (x : SpaceWaiting). x.marks) is ∙ last_counts time room rest w v acks crypto (is_ack_first w.acks) counts part bytes) taken
last_part time room rest left bundled false w v u acks crypto last same counts part bytes is e (AckPart.none none) = AckPart.none none

-- the parts are the frames that may be taken
pub taken_part : {S : Type 0} {issuer : Option (IpAddr → ℕ → List ℕ)} {ip : IpAddr} {words words' : Stream} {wt : SpaceWaiting} (time room count less most rest more left len len' : ℕ) (bundled : Option ℕ) (first last : Bool) (w w1 w2 w3 w4 : SpaceWaiting) (in_data : Bool) (fs0 fs1 fs2 fs3 fs4 fs5 : List FrameValue) (l l' : Lower S) →
    first ≡ is_ack_first w.acks → last ≡ is_ack_last time bundled w.acks → fs0 ≡ [] → fs1 ≡ fs0 ++ marks_part w → w1 ≡ without_all w (marks_part w) → count ≡ length (marks_part w) → less ≡ room - count →
    most ≤ less → (is_ack_owed w.acks ≡ true → most ≡ less) → TakesAck time first most w1 w2 fs1 fs2 len → rest ≡ less - len → TakesCrypto rest w2 w3 fs2 fs3 more → TakesOffered issuer ip in_data more w3 wt words words' l l' fs3 fs4 left → TakesAck time last left wt w4 fs4 fs5 len' →
    TakenPart time bundled in_data w room fs5
taken_part time room count less most rest more left len len' bundled first last w w1 w2 w3 w4 in_data fs0 fs1 fs2 fs3 fs4 fs5 l l' is_first is_last is_fs0 is_fs1 is_w1 is_count is_less few owed takes is_rest crypto streams bundle =
    let same : w1.acks ≡ w.acks = ap (λ (x : SpaceWaiting). x.acks) is_w1 ∙ marks_acks w in
    let counts : w1.marks ≡ w.marks = ap (λ (x : SpaceWaiting). x.marks) is_w1 ∙ marks_counts w in
    let behind : less ≡ room - length (marks_part w) = is_less ∙ ap (λ (n : ℕ). room - n) is_count in
    let front : AckPart time w most takes.acks (is_ack_first w.acks) = subst (λ (b : Bool). AckPart time w most takes.acks b) is_first (part_same time most w1 w takes.acks first same counts takes.part) in
    let bytes : CryptoPart (without_all w1 takes.acks) rest crypto.frames = subst (λ (x : SpaceWaiting). CryptoPart x rest crypto.frames) takes.rest crypto.part in
    let size : rest ≡ room - length (marks_part w) - length (frames_spelling takes.acks) = is_rest ∙ ap (λ (n : ℕ). n - len) behind ∙ ap (λ (n : ℕ). room - length (marks_part w) - n) takes.size in
    let is_w3 : w3 ≡ without_all (without_all w1 takes.acks) crypto.frames = crypto.rest ∙ ap (λ (x : SpaceWaiting). without_all x crypto.frames) takes.rest in
    let here : without_all w1 takes.acks ≡ without_all w (marks_part w ++ takes.acks) = ap (λ (x : SpaceWaiting). without_all x takes.acks) is_w1 ∙ sym (append_left w (marks_part w) takes.acks) in
    let leaves : Beside w3 (without_all w3 streams.own) = offered_leaves in_data w3 streams.own streams.are in
    let before : AckPart time w3 left bundle.acks last =
    part_same time left _ w3 bundle.acks last (ap (λ (x : SpaceWaiting). x.acks) streams.rest ∙ leaves.acks) (ap (λ (x : SpaceWaiting). x.marks) streams.rest ∙ leaves.marks) bundle.part in
    let behind_all : AckPart time w left bundle.acks (is_ack_last time bundled w.acks) =
    last_part time most rest left bundled (is_ack_last time bundled w.acks) w w1 w3 takes.acks crypto.frames bundle.acks (sym same) (sym counts) front bytes is_w3 refl (subst (λ (b : Bool). AckPart time w3 left bundle.acks b) is_last before) in
    record {
      acks = takes.acks;
      most = most;
      few = subst (λ (n : ℕ). most ≤ n) behind few;
      owed = λ e. owed e ∙ behind;
      ack = front;
      crypto = crypto.frames;
      part = subst (λ (n : ℕ). CryptoPart (without_all w (marks_part w ++ takes.acks)) n crypto.frames) size (subst (λ (x : SpaceWaiting). CryptoPart x rest crypto.frames) here bytes);
      own = streams.own;
      offered = streams.are;
      left = left;
      fits = omega (arith, size, crypto.fits, streams.fits);
      last = bundle.acks;
      bundle = behind_all;
      all = parts_list w fs0 fs1 fs2 fs3 fs4 fs5 takes.acks crypto.frames streams.own bundle.acks is_fs0 is_fs1 takes.list crypto.list streams.list bundle.list;
    }

-- the steps of the streams that the frames are, and those in front of the frames of theirs, of which none is
pub part_steps : (time : ℕ) (bundled : Option ℕ) (in_data : Bool) (w : SpaceWaiting) (room : ℕ) (fs : List FrameValue) → (taken : TakenPart time bundled in_data w room fs) → sealed_steps fs ≡ sealed_steps taken.own
part_steps time bundled in_data w room fs taken =
    ap sealed_steps taken.all
    ∙ steps_by (marks_part w) taken.acks taken.crypto taken.own taken.last (marks_steps w) (sealed_ack time taken.most w taken.acks (is_ack_first w.acks) taken.ack)
    (crypto_steps (without_all w (marks_part w ++ taken.acks)) _ taken.crypto taken.part) (sealed_ack time taken.left w taken.last (is_ack_last time bundled w.acks) taken.bundle)

pub front_steps : (time : ℕ) (bundled : Option ℕ) (in_data : Bool) (w : SpaceWaiting) (room : ℕ) (fs : List FrameValue) → (taken : TakenPart time bundled in_data w room fs) →
    sealed_steps (marks_part w ++ (taken.acks ++ taken.crypto)) ≡ []
front_steps time bundled in_data w room fs taken =
    sealed_append (marks_part w) (taken.acks ++ taken.crypto) ∙ ap (λ (xs : List Step). xs ++ sealed_steps (taken.acks ++ taken.crypto)) (marks_steps w) ∙ sealed_append taken.acks taken.crypto
    ∙ ap (λ (xs : List Step). xs ++ sealed_steps taken.crypto) (sealed_ack time taken.most w taken.acks (is_ack_first w.acks) taken.ack)
    ∙ crypto_steps (without_all w (marks_part w ++ taken.acks)) _ taken.crypto taken.part

-- the same of the datagrams' steps
pub front_datagrams : (time : ℕ) (bundled : Option ℕ) (in_data : Bool) (w : SpaceWaiting) (room : ℕ) (fs : List FrameValue) → (taken : TakenPart time bundled in_data w room fs) →
    sealed_datagrams (marks_part w ++ (taken.acks ++ taken.crypto)) ≡ []
front_datagrams time bundled in_data w room fs taken =
    datagrams_append (marks_part w) (taken.acks ++ taken.crypto) ∙ ap (λ (xs : List datagrams.Step). xs ++ sealed_datagrams (taken.acks ++ taken.crypto)) (marks_datagrams w) ∙ datagrams_append taken.acks taken.crypto
    ∙ ap (λ (xs : List datagrams.Step). xs ++ sealed_datagrams taken.crypto) (datagrams_ack time taken.most w taken.acks (is_ack_first w.acks) taken.ack)
    ∙ crypto_datagrams (without_all w (marks_part w ++ taken.acks)) _ taken.crypto taken.part

-- and the offered frames among them hold the oldest datagrams, where all do
pub own_oldest : (time : ℕ) (bundled : Option ℕ) (in_data : Bool) (w : SpaceWaiting) (room : ℕ) (fs : List FrameValue) (d : Datagrams) → (taken : TakenPart time bundled in_data w room fs) → AllOldest fs d → AllOldest taken.own d
own_oldest time bundled in_data w room fs d taken h =
    let front : List FrameValue = marks_part w ++ (taken.acks ++ taken.crypto) in
    let all : fs ≡ front ++ (taken.own ++ taken.last) = taken.all ∙ simp append_assoc in
    oldest_first taken.own taken.last d
    (behind_none front (taken.own ++ taken.last) d (front_datagrams time bundled in_data w room fs taken) (subst (λ (x : List FrameValue). AllOldest x d) all h))

-- the same of the ids' steps
pub front_cids : (time : ℕ) (bundled : Option ℕ) (in_data : Bool) (w : SpaceWaiting) (room : ℕ) (fs : List FrameValue) → (taken : TakenPart time bundled in_data w room fs) →
    sealed_cids (marks_part w ++ (taken.acks ++ taken.crypto)) ≡ []
front_cids time bundled in_data w room fs taken =
    cids_append (marks_part w) (taken.acks ++ taken.crypto) ∙ ap (λ (xs : List ids.Step). xs ++ sealed_cids (taken.acks ++ taken.crypto)) (marks_cids w) ∙ cids_append taken.acks taken.crypto
    ∙ ap (λ (xs : List ids.Step). xs ++ sealed_cids taken.crypto) (cids_ack time taken.most w taken.acks (is_ack_first w.acks) taken.ack)
    ∙ crypto_cids (without_all w (marks_part w ++ taken.acks)) _ taken.crypto taken.part

-- and each of the offered frames among them that is theirs is the one that goes next, where all are
pub own_next : (time : ℕ) (bundled : Option ℕ) (in_data : Bool) (w : SpaceWaiting) (room : ℕ) (fs : List FrameValue) (d : ConnectionIds) → (taken : TakenPart time bundled in_data w room fs) → AllNext fs d → AllNext taken.own d
own_next time bundled in_data w room fs d taken h =
    let front : List FrameValue = marks_part w ++ (taken.acks ++ taken.crypto) in
    let all : fs ≡ front ++ (taken.own ++ taken.last) = taken.all ∙ simp append_assoc in
    next_first taken.own taken.last d
    (behind_no_cid front (taken.own ++ taken.last) d (front_cids time bundled in_data w room fs taken) (subst (λ (x : List FrameValue). AllNext x d) all h))

-- and those of the offered frames among them are made as their turn comes, where all are
pub front_tokens : (time : ℕ) (bundled : Option ℕ) (in_data : Bool) (w : SpaceWaiting) (room : ℕ) (fs : List FrameValue) → (taken : TakenPart time bundled in_data w room fs) →
    tokens_of (marks_part w ++ (taken.acks ++ taken.crypto)) ≡ []
front_tokens time bundled in_data w room fs taken =
    tokens_append (marks_part w) (taken.acks ++ taken.crypto) ∙ ap (λ (xs : List (List ℕ)). xs ++ tokens_of (taken.acks ++ taken.crypto)) (tokens_marks w) ∙ tokens_append taken.acks taken.crypto
    ∙ ap (λ (xs : List (List ℕ)). xs ++ tokens_of taken.crypto) (tokens_ack time taken.most w taken.acks (is_ack_first w.acks) taken.ack)
    ∙ tokens_crypto (without_all w (marks_part w ++ taken.acks)) _ taken.crypto taken.part

pub own_issued : (issuer : Option (IpAddr → ℕ → List ℕ)) (ip : IpAddr) (words : Stream) (time : ℕ) (bundled : Option ℕ) (in_data : Bool) (w : SpaceWaiting) (room : ℕ) (fs : List FrameValue) →
    (taken : TakenPart time bundled in_data w room fs) → AllIssued issuer ip fs w words → AllIssued issuer ip taken.own (without_all w (marks_part w ++ (taken.acks ++ taken.crypto))) words
own_issued issuer ip words time bundled in_data w room fs taken h =
    let front : List FrameValue = marks_part w ++ (taken.acks ++ taken.crypto) in
    let all : fs ≡ front ++ (taken.own ++ taken.last) = taken.all ∙ simp append_assoc in
    issued_first issuer ip taken.own taken.last (without_all w front) words
    (issued_past issuer ip front (taken.own ++ taken.last) w words (front_tokens time bundled in_data w room fs taken) (subst (λ (x : List FrameValue). AllIssued issuer ip x w words) all h))

-- no CRYPTO bytes wait, or there is no room for them
pub crypto_none : (room : ℕ) (w : SpaceWaiting) (fs : List FrameValue) → (crypto_waits w ≡ false) ⊎ (room ≤ 17) → TakesCrypto room w w fs fs room
unfolding without_all CryptoPart
crypto_none room w fs why = record { frames = []; part = why; list = sym (append-nil fs); rest = refl; fits = omega arith }

-- none wait, of the answer of the call that takes them
pub crypto_end : (room : ℕ) (w : SpaceWaiting) (queue : Buffer) (fs : List FrameValue) → crypto_waits w ≡ false → queue ≡ w.crypto → TakesCrypto room w (record w { crypto = queue }) fs fs room
crypto_end room w queue fs none same = subst (λ (x : Buffer). TakesCrypto room w (record w { crypto = x }) fs fs room) (sym same) (crypto_none room w fs (inl none))

-- how many bytes a CRYPTO frame has
pub crypto_size : (offset : ℕ) (body : List ℕ) → length (spelling (frames.Crypto offset body)) ≡ 1 + length (varint offset) + length (varint (length body)) + length body
crypto_size offset body = length-crypto offset body

-- those that wait first are taken, and others behind them
pub crypto_more : (room size left : ℕ) (w w1 w' : SpaceWaiting) (fs fs1 gs : List FrameValue) (offset : ℕ) (body : List ℕ) → StartsWith w.crypto offset body → size ≡ length (spelling (frames.Crypto offset body)) → size ≤ room →
    w1 ≡ record w { crypto = range_sealed offset (offset + length body) w.crypto } → fs1 ≡ fs ++ frames.Crypto offset body ∷ [] → TakesCrypto (room - size) w1 w' fs1 gs left →
    TakesCrypto room w w' fs gs left
unfolding without_all without CryptoPart
crypto_more room size left w w1 w' fs fs1 gs offset body starts is_size fits is_w1 is_fs1 takes =
    let f : FrameValue = frames.Crypto offset body in
    let whole : length (frames_spelling (f ∷ takes.frames)) ≡ length (spelling f) + length (frames_spelling takes.frames) = length-append (spelling f) (frames_spelling takes.frames) in
    record {
      frames = f ∷ takes.frames;
      part = (
        starts,
        subst (λ (n : ℕ). n ≤ room) is_size fits,
        subst (λ (n : ℕ). CryptoPart (record w { crypto = range_sealed offset (offset + length body) w.crypto }) (room - n) takes.frames) is_size
            (subst (λ (x : SpaceWaiting). CryptoPart x (room - size) takes.frames) is_w1 takes.part),
      );
      list = takes.list ∙ ap (λ (x : List FrameValue). x ++ takes.frames) is_fs1 ∙ append_assoc fs (f ∷ []) takes.frames;
      rest = takes.rest ∙ ap (λ (x : SpaceWaiting). without_all x takes.frames) is_w1;
      fits = omega (arith, whole, is_size, fits, takes.fits);
    }

-- the same, of the answers of the calls that take them
pub crypto_taken : (room size left : ℕ) (w w' : SpaceWaiting) (fs fs1 gs : List FrameValue) (queue : Buffer) (offset : ℕ) (bytes slice body : List ℕ) → StartsWith w.crypto offset bytes →
    size ≡ length (spelling (frames.Crypto offset bytes)) → size ≤ room → queue ≡ range_sealed offset (offset + length bytes) w.crypto → slice ≡ bytes → body ≡ slice → fs1 ≡ fs ++ frames.Crypto offset body ∷ [] →
    TakesCrypto (room - size) (record w { crypto = queue }) w' fs1 gs left → TakesCrypto room w w' fs gs left
crypto_taken room size left w w' fs fs1 gs queue offset bytes slice body starts is_size fits is_queue is_slice is_body is_fs1 takes =
    crypto_more room size left w (record w { crypto = queue }) w' fs fs1 gs offset bytes starts is_size fits (ap (λ (x : Buffer). record w { crypto = x }) is_queue)
    (is_fs1 ∙ ap (λ (x : List ℕ). fs ++ frames.Crypto offset x ∷ []) (is_body ∙ is_slice)) takes

-- no ACK is due, and none is taken
pub takes_none : (time room : ℕ) (due : Bool) (w w' : SpaceWaiting) (fs gs : List FrameValue) (len : ℕ) → due ≡ false → w' ≡ w → gs ≡ fs → len ≡ 0 → TakesAck time due room w w' fs gs len
unfolding without_all
takes_none time room true w w' fs gs len e is_w is_gs is_len = cc
takes_none time room false w w' fs gs len e is_w is_gs is_len = record { acks = []; part = AckPart.none refl; list = is_gs ∙ sym (append-nil fs); rest = is_w; size = is_len }

-- an ACK is due, and is left out for want of room
pub takes_left_out : (time room : ℕ) (due : Bool) (w : SpaceWaiting) (fs : List FrameValue) (len : ℕ) (ack : AckValue) → due ≡ true → SaysAck time w ack → len ≡ length (frames_spelling (frames.Ack ack ∷ [])) → room < len →
    TakesAck time due room w w fs fs 0
unfolding without_all
takes_left_out time room false w fs len ack e says is_len long = cc
takes_left_out time room true w fs len ack e says is_len long = record { acks = []; part = AckPart.left_out ack says (subst (λ (n : ℕ). room < n) is_len long) refl; list = sym (append-nil fs); rest = refl; size = refl }

-- an ACK is due, and is taken
pub takes_one : (time room : ℕ) (due : Bool) (w w' : SpaceWaiting) (fs gs : List FrameValue) (len : ℕ) (ack : AckValue) → due ≡ true → SaysAck time w ack → len ≤ room → gs ≡ fs ++ frames.Ack ack ∷ [] →
    w' ≡ record w { acks = ack_sent w.acks } → len ≡ length (frames_spelling (frames.Ack ack ∷ [])) → TakesAck time due room w w' fs gs len
unfolding without_all without
takes_one time room false w w' fs gs len ack e says fits is_gs is_w is_len = cc
takes_one time room true w w' fs gs len ack e says fits is_gs is_w is_len =
    record { acks = frames.Ack ack ∷ []; part = AckPart.one ack says (subst (λ (n : ℕ). n ≤ room) is_len fits) refl; list = is_gs; rest = is_w; size = is_len }

-- ---- nothing is left that has room

-- one frame, or none
abbrev if_so : Bool → FrameValue → List FrameValue
if_so b f = if b then f ∷ [] else []

-- a HANDSHAKE_DONE and a PING have a byte each
marks_size_by : (a b : Bool) → length (frames_spelling (if_so a HandshakeDone ++ if_so b Ping)) ≡ length (if_so a HandshakeDone ++ if_so b Ping)
unfolding spelling varint
marks_size_by true true = refl
marks_size_by true false = refl
marks_size_by false true = refl
marks_size_by false false = refl

pub marks_size : (w : SpaceWaiting) → length (frames_spelling (marks_part w)) ≡ length (marks_part w)
unfolding marks_part done_part ping_part
marks_size w = marks_size_by w.done w.ping

-- they wait no longer once they were taken
marks_gone_by : (w : SpaceWaiting) (a b : Bool) → w.done ≡ a → w.ping ≡ b →
    ((without_all w (if_so a HandshakeDone ++ if_so b Ping)).done ≡ false) × ((without_all w (if_so a HandshakeDone ++ if_so b Ping)).ping ≡ false)
unfolding without_all without
marks_gone_by w true true e f = (refl, refl)
marks_gone_by w true false e f = (refl, f)
marks_gone_by w false true e f = (e, refl)
marks_gone_by w false false e f = (e, f)

marks_gone : (w : SpaceWaiting) → ((without_all w (marks_part w)).done ≡ false) × ((without_all w (marks_part w)).ping ≡ false)
unfolding marks_part done_part ping_part
marks_gone w = marks_gone_by w w.done w.ping refl refl

-- an ACK leaves the marks, and the CRYPTO bytes
record LeavesMarks (w v : SpaceWaiting) : Type 0 where
  done : v.done ≡ w.done
  ping : v.ping ≡ w.ping

ack_leaves : (time room : ℕ) (w : SpaceWaiting) (fs : List FrameValue) (b : Bool) → AckPart time w room fs b → LeavesMarks w (without_all w fs) × ((without_all w fs).crypto ≡ w.crypto)
unfolding without_all without
ack_leaves time room w fs true (AckPart.one ack says fits is) =
    (record { done = ap (λ (x : List FrameValue). (without_all w x).done) is; ping = ap (λ (x : List FrameValue). (without_all w x).ping) is }, ap (λ (x : List FrameValue). (without_all w x).crypto) is)
ack_leaves time room w fs true (AckPart.left_out ack says long is) =
    (record { done = ap (λ (x : List FrameValue). (without_all w x).done) is; ping = ap (λ (x : List FrameValue). (without_all w x).ping) is }, ap (λ (x : List FrameValue). (without_all w x).crypto) is)
ack_leaves time room w fs false (AckPart.none is) =
    (record { done = ap (λ (x : List FrameValue). (without_all w x).done) is; ping = ap (λ (x : List FrameValue). (without_all w x).ping) is }, ap (λ (x : List FrameValue). (without_all w x).crypto) is)

-- and the NEW_TOKENs
ack_tokens : (time room : ℕ) (w : SpaceWaiting) (fs : List FrameValue) (b : Bool) → AckPart time w room fs b → (without_all w fs).tokens ≡ w.tokens
unfolding without_all without
ack_tokens time room w fs true (AckPart.one ack says fits is) = ap (λ (x : List FrameValue). (without_all w x).tokens) is
ack_tokens time room w fs true (AckPart.left_out ack says long is) = ap (λ (x : List FrameValue). (without_all w x).tokens) is
ack_tokens time room w fs false (AckPart.none is) = ap (λ (x : List FrameValue). (without_all w x).tokens) is

-- CRYPTO frames leave the marks
crypto_leaves : (w : SpaceWaiting) (room : ℕ) (fs : List FrameValue) → CryptoPart w room fs → LeavesMarks w (without_all w fs)
unfolding without_all without CryptoPart
crypto_leaves w room [] h = record { done = refl; ping = refl }
crypto_leaves w room (frames.Crypto offset body ∷ fs) h =
    let rest : LeavesMarks (without w (frames.Crypto offset body)) (without_all (without w (frames.Crypto offset body)) fs) = crypto_leaves (without w (frames.Crypto offset body)) _ fs h.2 in
    record { done = rest.done; ping = rest.ping }
crypto_leaves w room (_ ∷ fs) h = absurd h

none_here : (a b c : Bool) → a ≡ false → b ≡ false → c ≡ false → (a || b || c) ≡ false
none_here true b c e f g = cc
none_here false true c e f g = cc
none_here false false c e f g = g

none_offered : (in_data a b : Bool) → a ≡ false → (in_data ≡ true → b ≡ false) → (a || (in_data && b)) ≡ false
none_offered in_data true b e f = cc
none_offered true false b e f = f refl
none_offered false false b e f = refl

-- what was taken, part by part, leaves no frame that has room where it leaves 64 bytes of the room
pub taken_full : {S : Type 0} {issuer : Option (IpAddr → ℕ → List ℕ)} {ip : IpAddr} {words words' : Stream} {wt : SpaceWaiting} (time room count less most rest more left len len' : ℕ) (due due' in_data : Bool) (w w1 w2 w3 w4 : SpaceWaiting) (fs0 fs1 fs2 fs3 fs4 fs5 : List FrameValue) (l l' : Lower S) →
    fs0 ≡ [] → fs1 ≡ fs0 ++ marks_part w → w1 ≡ without_all w (marks_part w) → count ≡ length (marks_part w) → less ≡ room - count → TakesAck time due most w1 w2 fs1 fs2 len → rest ≡ less - len →
    TakesCrypto rest w2 w3 fs2 fs3 more → (17 < more → crypto_waits w3 ≡ false) → TakesOffered issuer ip in_data more w3 wt words words' l l' fs3 fs4 left →
    (in_data ≡ true → 64 ≤ left → (streams_offer l'.streams || (ids_offer l'.ids || tokens_wait wt)) ≡ false) → TakesAck time due' left wt w4 fs4 fs5 len' → 64 ≤ room - length (frames_spelling fs5) →
    offers_here in_data w4 l'.streams l'.ids ≡ false
taken_full time room count less most rest more left len len' due due' in_data w w1 w2 w3 w4 fs0 fs1 fs2 fs3 fs4 fs5 l l' is_fs0 is_fs1 is_w1 is_count is_less takes is_rest crypto bytes offered layers bundle spare =
    let all : fs5 ≡ marks_part w ++ (takes.acks ++ (crypto.frames ++ (offered.own ++ bundle.acks))) =
    parts_list w fs0 fs1 fs2 fs3 fs4 fs5 takes.acks crypto.frames offered.own bundle.acks is_fs0 is_fs1 takes.list crypto.list offered.list bundle.list in
    let whole : length (frames_spelling fs5) ≡ length (frames_spelling (marks_part w ++ (takes.acks ++ (crypto.frames ++ (offered.own ++ bundle.acks))))) = ap (λ (x : List FrameValue). length (frames_spelling x)) all in
    let enough : 64 ≤ left =
    omega (
      arith,
      spare,
      whole,
      spelled_append (marks_part w) (takes.acks ++ (crypto.frames ++ (offered.own ++ bundle.acks))),
      spelled_append takes.acks (crypto.frames ++ (offered.own ++ bundle.acks)),
      spelled_append crypto.frames (offered.own ++ bundle.acks),
      spelled_append offered.own bundle.acks,
      marks_size w,
      is_count,
      is_less,
      takes.size,
      is_rest,
      crypto.fits,
      offered.fits,
    ) in
    let before = ack_leaves time most w1 takes.acks due takes.part in
    let between = crypto_leaves w2 rest crypto.frames crypto.part in
    let own : Beside w3 (without_all w3 offered.own) = offered_leaves in_data w3 offered.own offered.are in
    let behind = ack_leaves time left _ bundle.acks due' bundle.part in
    let gone = marks_gone w in
    let done : w4.done ≡ false =
    ap (λ (x : SpaceWaiting). x.done) bundle.rest ∙ behind.0.done ∙ ap (λ (x : SpaceWaiting). x.done) offered.rest ∙ own.done ∙ ap (λ (x : SpaceWaiting). x.done) crypto.rest ∙ between.done ∙ ap (λ (x : SpaceWaiting). x.done) takes.rest ∙ before.0.done
    ∙ ap (λ (x : SpaceWaiting). x.done) is_w1 ∙ gone.0 in
    let ping : w4.ping ≡ false =
    ap (λ (x : SpaceWaiting). x.ping) bundle.rest ∙ behind.0.ping ∙ ap (λ (x : SpaceWaiting). x.ping) offered.rest ∙ own.ping ∙ ap (λ (x : SpaceWaiting). x.ping) crypto.rest ∙ between.ping ∙ ap (λ (x : SpaceWaiting). x.ping) takes.rest ∙ before.0.ping
    ∙ ap (λ (x : SpaceWaiting). x.ping) is_w1 ∙ gone.1 in
    let queue : w4.crypto ≡ w3.crypto = ap (λ (x : SpaceWaiting). x.crypto) bundle.rest ∙ behind.1 ∙ ap (λ (x : SpaceWaiting). x.crypto) offered.rest ∙ own.crypto in
    let tokens = ap (λ (x : SpaceWaiting). x.tokens) bundle.rest ∙ ack_tokens time left _ bundle.acks due' bundle.part in
    let none : crypto_waits w4 ≡ false = ap (λ (x : Buffer). has_bytes (waiting x)) queue ∙ bytes (omega (arith, enough, offered.fits)) in
    none_offered in_data (wants_here w4) (streams_offer l'.streams || (ids_offer l'.ids || tokens_wait w4)) (none_here w4.done w4.ping (crypto_waits w4) done ping none)
    (λ e. ap (λ (n : ℕ). streams_offer l'.streams || (ids_offer l'.ids || not (n == 0))) tokens ∙ layers e enough)
