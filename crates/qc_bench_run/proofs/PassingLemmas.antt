-- A packet that is built, and what its opener makes of it.
use Rattle.std.proofs.Common.{◌≡◌, ℕ, ◌+◌, ◌-◌, ◌<◌, ◌≤◌, ◌^◌, Bool, true, false, List, [], ◌∷◌, ◌++◌, length, replicate, max, refl, sym, ap, ◌∙◌, subst, arith, Option, None, Some, Result, Ok, is_some, append-nil, IsSome, IfSome}
use Rattle.std.specs.Option.{option_copied}
use Rattle.std.proofs.lemmas.List.{length-append, length-replicate}
use Rattle.qc_base.specs.Time.{plus}
use Rattle.qc_base.specs.declared.packet_number.PacketNumber.TheVariants.{U32}
use Rattle.qc_base.specs.declared.side.SpaceId.TheVariants.{Data}
use Rattle.qc_base.specs.Mask.{first_byte}
use Rattle.qc_crypto.specs.Mates.{Sealing, Opening, OpensItsPackets}
use Rattle.qc_header.specs.declared.finish.Packet.{Packet}
use Rattle.qc_header.specs.declared.header.Header.{Header}
use Rattle.qc_header.specs.HeaderSpelling.{header_spelling, short_spelling, header_number}
use Rattle.qc_header.proofs.WrittenHeaders.{length-number_bytes}
use Rattle.qc_packet.specs.Arrival.{CanArrive, sealed_piece, IsSealed, IsInReach, HasKey, arrival_answer}
use Rattle.qc_packet.specs.OpenedPacket.{IsNumberOf, key_named, opened_payload, opening_answer}
use Rattle.qc_packet.specs.declared.decrypt.DecryptPacketResult.{DecryptPacketResult}
use Rattle.qc_packet.specs.declared.decrypt.OpenError.{OpenError}
use Rattle.qc_packet.specs.declared.decrypt.OpenKeys.{OpenKeys}
use Rattle.qc_packet.specs.Unprotected.{is_cut, IsUnprotected}
use Rattle.qc_header.specs.Piece.{Piece}
use Rattle.qc_header.specs.HeaderReading.{piece_at}
use Rattle.qc_rings.specs.Keyed.{Keyed}
use Rattle.qc_rings.specs.Ring.{Ring, which_named}
use Rattle.qc_rings.specs.declared.which.Which.TheVariants.{Current}
use Rattle.qc_packet.proofs.Arrivals.{arrives, number_arrives, opened_as, is_taken}
use Rattle.qc_packet.specs.declared.builder.PacketBuilder.{PacketBuilder}
use Rattle.qc_packet.specs.Building.{IsReady, IsOf, builder_for, header_len, max_size_of, min_size_of, padded_builder}
use Rattle.qc_packet.specs.PacketSpelling.{with_flip, sealed_packet, packet_spelling}
use Rattle.qc_packet.proofs.Behind.{most_is}
use Rattle.qc_packet.proofs.Full.{begun_sound, full_ready, full_is_of, padded_is, room_enough}
use Rattle.qc_bench_run.specs.Passing.{passing_header, passing_payload, number_in}

-- its header has 13 bytes
pub header_size : (number : ℕ) → header_len (passing_header number) ≡ 13
unfolding header_spelling short_spelling
header_size number = simp length-append (omega (arith, length-number_bytes (U32 number)))

-- the builder of the packet
pub builder_is : (number size start : ℕ) (h : Header) (begun b : PacketBuilder) → h ≡ passing_header number → start ≡ 0
    → begun ≡ builder_for Data number h start 16383 0 true → b ≡ record begun { min_size = max begun.min_size (plus begun.datagram_start (size - 16)) }
    → b ≡ padded_builder Data number (passing_header number) 0 16383 true size
builder_is number size start h begun b is_h is_start is_begun is_b =
    padded_is Data number (passing_header number) 0 16383 true size begun b
    (is_begun ∙ ap (λ (x : Header). builder_for Data number x start 16383 0 true) is_h ∙ ap (λ (n : ℕ). builder_for Data number (passing_header number) n 16383 0 true) is_start) is_b

pub builder_ready : (number size len : ℕ) (b : PacketBuilder) → 34 ≤ size → size ≤ 16383 → b ≡ padded_builder Data number (passing_header number) 0 16383 true size → len ≡ 14 → IsReady b len
builder_ready number size len b least most is_b is_len =
    let begins = header_size number in
    let all : max_size_of 0 (passing_header number) 16383 + 16 ≡ 16383 = most_is (passing_header number) 16383 (omega arith) (omega arith) in
    let enough : min_size_of 0 (passing_header number) + 16 ≤ 16383 = room_enough (passing_header number) 16383 (omega arith) in
    subst (λ (x : PacketBuilder). IsReady x len) (sym is_b)
    (full_ready Data number (passing_header number) 0 16383 true size 1 len (begun_sound Data number (passing_header number) 0 16383 0 true (omega arith) refl) (omega arith) (omega arith) (omega arith) (omega arith))

-- its payload ends where the tag begins
passing_end : (number size : ℕ) → 34 ≤ size → size ≤ 16383 → max (min_size_of 0 (passing_header number)) (plus 0 (size - 16)) ≡ size - 16
unfolding min_size_of
passing_end number size least most =
    let begins = header_size number in
    omega arith

-- what stands in the buffer then
pub begun_bytes : (number : ℕ) (h : Header) (before begun pushed : List ℕ) → h ≡ passing_header number → before ≡ [] → begun ≡ before ++ header_spelling h 0
    → pushed ≡ begun ++ 1 ∷ [] → pushed ≡ header_spelling (passing_header number) 0 ++ 1 ∷ []
begun_bytes number h before begun pushed is_h none is_begun is_pushed =
    is_pushed ∙ ap (λ (x : List ℕ). x ++ 1 ∷ []) (is_begun ∙ ap (λ (x : List ℕ). x ++ header_spelling h 0) none ∙ ap (λ (x : Header). header_spelling x 0) is_h)

pub begun_size : (number : ℕ) (pushed : List ℕ) → pushed ≡ header_spelling (passing_header number) 0 ++ 1 ∷ [] → length pushed ≡ 14
begun_size number pushed is =
    let begins = header_size number in
    let both = length-append (header_spelling (passing_header number) 0) (1 ∷ []) in
    omega (arith, ap (λ (x : List ℕ). length x) is)

-- and what comes of it
pub passing_spelled : (mask : List ℕ → List ℕ) (seal : Sealing) (number size : ℕ) (b : PacketBuilder) (pushed out : List ℕ) → 34 ≤ size → size ≤ 16383
    → b ≡ padded_builder Data number (passing_header number) 0 16383 true size → pushed ≡ header_spelling (passing_header number) 0 ++ 1 ∷ []
    → ((before : List ℕ) (flip : Bool) (h : Header) (plain : List ℕ) → b.start ≡ length before → IsOf b h → pushed ≡ before ++ (with_flip flip (header_spelling h 0) ++ plain)
    → out ≡ before ++ sealed_packet mask seal flip h b.exact_number (plain ++ replicate (b.min_size - length pushed) 0))
    → out ≡ packet_spelling mask seal (passing_header number) number (passing_payload size)
passing_spelled mask seal number size b pushed out least most is_b is_pushed packet =
    let begins = header_size number in
    let min : b.min_size ≡ size - 16 = ap (λ (x : PacketBuilder). x.min_size) is_b ∙ passing_end number size least most in
    let pad : b.min_size - length pushed ≡ size - 30 = omega (arith, begun_size number pushed is_pushed) in
    let is_of = subst (λ (x : PacketBuilder). IsOf x (passing_header number)) (sym is_b) (full_is_of Data number (passing_header number) 0 16383 true size refl) in
    packet [] false (passing_header number) (1 ∷ []) (ap (λ (x : PacketBuilder). x.start) is_b) is_of is_pushed
    ∙ ap (λ (n : ℕ). sealed_packet mask seal false (passing_header number) n (1 ∷ replicate (b.min_size - length pushed) 0)) (ap (λ (x : PacketBuilder). x.exact_number) is_b)
    ∙ ap (λ (n : ℕ). sealed_packet mask seal false (passing_header number) number (1 ∷ replicate n 0)) pad

-- ---- what its opener makes of it

pub passing_arrives : (size number : ℕ) → 34 ≤ size → number < 2 ^ 32 → CanArrive 8 (1 ∷ []) false false (passing_header number) (passing_payload size) []
passing_arrives size number least small = record {
  greased = λ e. e;
  readable = (refl, omega arith);
  numbered = omega arith;
  sample = omega (arith, length-replicate {A = ℕ} (size - 30) 0);
  length_field = λ e. cc;
  last = λ _. refl;
}

-- what is known of the packet then
pub record Passes (mask : List ℕ → List ℕ) (seal : Sealing) (number size : ℕ) (packet : List ℕ) : Type 0 where
  pub read : piece_at 8 (1 ∷ []) false packet ≡ Ok (sealed_piece mask seal false (passing_header number) number (passing_payload size), [])
  pub whole : is_cut (sealed_piece mask seal false (passing_header number) number (passing_payload size)) ≡ false
  pub unprotected : (p : Packet) → IsUnprotected mask (sealed_piece mask seal false (passing_header number) number (passing_payload size)) p → IsSealed seal false (passing_header number) number (passing_payload size) p

-- its number lies right behind that of the one before
pub number_near : (number rx : ℕ) → number < 2 ^ 32 → rx ≡ number - 1 → IsInReach (Some (U32 number)) rx number
number_near number rx small is_rx = (refl, omega arith, (omega arith, omega arith))

-- it arrives at a receiver with the same mask
pub passed : (mask : List ℕ → List ℕ) (seal : Sealing) (number size : ℕ) (packet : List ℕ) → 34 ≤ size → size ≤ 16383 → number < 2 ^ 32
    → ((header : List ℕ) → length (seal number header (passing_payload size)) ≡ length (passing_payload size) + 16)
    → packet ≡ packet_spelling mask seal (passing_header number) number (passing_payload size)
    → Passes mask seal number size packet
passed mask seal number size packet least most small tag is =
    let there = arrives mask seal 8 (1 ∷ []) false false (passing_header number) number (passing_payload size) [] tag (passing_arrives size number least small) in
    record {
      read = ap (λ (x : List ℕ). piece_at 8 (1 ∷ []) false x) (is ∙ sym (append-nil (packet_spelling mask seal (passing_header number) number (passing_payload size)))) ∙ there.read;
      whole = there.whole;
      unprotected = there.unprotected;
    }

named_current : (r : Ring) (number : ℕ) → r.epoch ≡ 0 → which_named r false number ≡ Current
unfolding which_named
named_current r number first = rw first refl

has_current : {P : Type 0} (keys : OpenKeys P) (k : Keyed P) (number : ℕ) → option_copied keys.ring ≡ Some k → k.ring.epoch ≡ 0 → HasKey keys (passing_header number) number k.current.remote
unfolding key_named
has_current keys k number ring first = rw (ring, named_current k.ring number first) refl

answer_told : {P : Type 0} (k : Keyed P) (rx number : ℕ) → k.ring.epoch ≡ 0 → number_in (arrival_answer (passing_header number) (Some k) rx number) ≡ Some number
answer_told k rx number first = rw (named_current k.ring number first) refl

pub opens_to_number : {P : Type 0} (opening : P → Opening) (seal : Sealing) (keys : OpenKeys P) (k : Keyed P) (number rx : ℕ) (plain : List ℕ) (p : Packet)
    (answer : Result (Option DecryptPacketResult) OpenError) → number < 2 ^ 32 → rx ≡ number - 1 → option_copied keys.ring ≡ Some k → k.ring.epoch ≡ 0
    → OpensItsPackets seal (opening k.current.remote) → IsSealed seal false (passing_header number) number plain p
    → ((n : ℕ) → IsNumberOf (header_number p.header) rx n → answer ≡ opening_answer p.header (first_byte p.header_data) (option_copied keys.ring) rx n (is_some (opened_payload opening p keys n)))
    → number_in answer ≡ Some number
opens_to_number {P} opening seal keys k number rx plain p answer small is_rx ring first mates is answers =
    let told : IsNumberOf (Some (U32 number)) rx number = number_arrives (Some (U32 number)) rx number (number_near number rx small is_rx) in
    let there : IsNumberOf (header_number p.header) rx number = rw is.header told in
    let opens : opened_payload opening p keys number ≡ Some plain = opened_as opening k.current.remote seal false (passing_header number) number plain p keys mates is (has_current keys k number ring first) in
    let taken : opening_answer p.header (first_byte p.header_data) (option_copied keys.ring) rx number true ≡ arrival_answer (passing_header number) (option_copied keys.ring) rx number =
    is_taken seal false (passing_header number) number rx plain p (option_copied keys.ring) told is in
    ap number_in (answers number there ∙ ap (λ (o : Option (List ℕ)). opening_answer p.header (first_byte p.header_data) (option_copied keys.ring) rx number (is_some o)) opens ∙ taken
    ∙ ap (λ (o : Option (Keyed P)). arrival_answer (passing_header number) o rx number) ring) ∙ answer_told k rx number first

-- what is some piece is no other
pub one_piece : (o : Option Piece) (one other : Piece) → o ≡ Some one → o ≡ Some other → one ≡ other
one_piece o one other is is' = cc

-- nothing is not some packet, and what holds of some packet holds of this one
pub none_there : (o : Option Packet) → o ≡ None → IsSome o → ⊥
none_there o none some = cc

pub of_some : (o : Option Packet) (p : Packet) (Q : Packet → Type 0) → o ≡ Some p → IfSome o Q → Q p
of_some o p Q is all = rw is at all
