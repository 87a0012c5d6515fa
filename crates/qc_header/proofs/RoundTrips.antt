-- A header that was read comes back once it is written and read again
use Rattle.std.proofs.Common.{ℕ, ◌<◌, ◌^◌, Bool, List, [], ◌∷◌, take, drop, sym, subst, arith, append-nil}
use Rattle.std.proofs.lemmas.List.{take-append-drop, length-take}
use Rattle.qc_base.specs.Grammar.{IsBytes}
use Rattle.qc_base.specs.declared.packet_number.PacketNumber.{PacketNumber}
use Rattle.qc_base.proofs.Front.{behind_bytes}
use Rattle.qc_header.specs.declared.header.Header.{Header}
use Rattle.qc_header.specs.declared.header.Header.TheVariants.{Initial, Long, Retry, Short, VersionNegotiate}
use Rattle.qc_header.specs.declared.protected.ProtectedHeader.{ProtectedHeader}
use Rattle.qc_header.specs.declared.protected.ProtectedHeader.TheVariants as readable
use Rattle.qc_header.specs.Unprotected.{header_from, number_from}
use Rattle.qc_header.specs.ReadBack.{FitsItsForm, IsWritable, AreIds}
use Rattle.qc_header.specs.RoundTrip.{IsReadable, IsReading, IsCounted, ComesBack, packet_of}
use Rattle.qc_header.proofs.Readings.{IsOf, piece_lets}
use Rattle.qc_header.proofs.WrittenFinishes.{initial_finishes, long_finishes, short_finishes}
use Rattle.qc_header.proofs.WrittenHeaders as initial_law
use Rattle.qc_header.proofs.WrittenNumbered as numbered_law
use Rattle.qc_header.proofs.WrittenPlain as plain_law

-- ---- what was read can be written

number_fits : (bytes : List ℕ) → IsBytes bytes → FitsItsForm (number_from bytes)
number_fits [] h = omega arith
number_fits (a ∷ []) h = h 0
number_fits (a ∷ b ∷ []) h = let b0 = h 0 in let b1 = h 1 in omega arith
number_fits (a ∷ b ∷ c ∷ []) h = let b0 = h 0 in let b1 = h 1 in let b2 = h 2 in omega arith
number_fits (a ∷ b ∷ c ∷ d ∷ rest) h = let b0 = h 0 in let b1 = h 1 in let b2 = h 2 in let b3 = h 3 in omega arith

dropped_bytes : (n : ℕ) (bytes : List ℕ) → IsBytes bytes → IsBytes (drop n bytes)
dropped_bytes n bytes h = behind_bytes (take n bytes) (drop n bytes) (subst (λ (l : List ℕ). IsBytes l) (sym (take-append-drop n bytes)) h)

writable : (dst src : List ℕ) (number : PacketNumber) (v : ℕ) → AreIds dst src → FitsItsForm number → v < 2 ^ 32 → IsWritable dst src number v
writable dst src number v ids fits small = record { dst = ids.dst; src = ids.src; number = fits; version = small }

from_reading : (k : ℕ) (versions : List ℕ) (grease : Bool) (r : ProtectedHeader) (pn_offset : ℕ) (bytes : List ℕ) → IsBytes bytes
    → IsOf k versions grease r → IsReadable k versions grease (header_from r pn_offset bytes)
from_reading k versions grease (readable.Initial dst src start len v) pn_offset bytes h i =
    let token = length-take len (drop start bytes) in (
      writable dst src (number_from (drop pn_offset bytes)) v i.0 (number_fits (drop pn_offset bytes) (dropped_bytes pn_offset bytes h)) i.1,
      omega (arith, i.3),
      i.2,
    )
from_reading k versions grease (readable.Long ty dst src v) pn_offset bytes h i = (
  writable dst src (number_from (drop pn_offset bytes)) v i.0 (number_fits (drop pn_offset bytes) (dropped_bytes pn_offset bytes h)) i.1,
  i.2,
)
from_reading k versions grease (readable.Retry dst src v) pn_offset bytes h i = i
from_reading k versions grease (readable.Short spin dst) pn_offset bytes h i = (i, number_fits (drop pn_offset bytes) (dropped_bytes pn_offset bytes h))
from_reading k versions grease (readable.VersionNegotiate random src dst) pn_offset bytes h i = i

can_be_read : (k : ℕ) (versions : List ℕ) (grease : Bool) (h : Header) → IsReading k versions grease h → IsReadable k versions grease h
can_be_read k versions grease h r =
    let lets = piece_lets k versions grease r.datagram r.first r.behind r.bytes r.read in
    subst (λ (w : Header). IsReadable k versions grease w) (sym r.made)
    (from_reading k versions grease r.first.header r.first.pn_offset r.unprotected r.unprotected_bytes lets)

-- ---- and comes back

pub header_is_read : (mask_of : List ℕ → List ℕ) (k n : ℕ) (versions : List ℕ) (grease : Bool) (h : Header) (payload rest : List ℕ)
    → IsReadable k versions grease h → IsCounted h n payload rest → ComesBack mask_of k n versions grease h payload rest
header_is_read mask_of k n versions grease (Initial h) payload rest can counted = record {
  read = initial_law.initial_is_read mask_of k n versions grease h payload rest can.0 can.1 can.2 counted.2 counted.0;
  finishes = initial_finishes mask_of h n payload can.0.number (omega (arith, counted.0, counted.1));
}
header_is_read mask_of k n versions grease (Long ty dst src number v) payload rest can counted = record {
  read = numbered_law.long_is_read mask_of k n v ty versions dst src grease number payload rest can.0 can.1 counted.2 counted.0;
  finishes = long_finishes mask_of ty dst src number v n payload can.0.number (omega (arith, counted.0, counted.1));
}
header_is_read mask_of k n versions grease (Short spin key_phase dst number) payload rest can counted = record {
  read = rw (counted.1, append-nil (packet_of mask_of (Short spin key_phase dst number) n payload))
      (numbered_law.short_is_read mask_of k n versions dst grease spin key_phase number payload can.0);
  finishes = short_finishes mask_of spin key_phase dst number n payload can.1 counted.0;
}
header_is_read mask_of k n versions grease (Retry dst src v) payload rest can counted = record {
  read = rw (counted, append-nil (packet_of mask_of (Retry dst src v) n payload))
      (plain_law.retry_is_read k n v versions dst src grease payload can.0 can.1 can.2);
  finishes = plain_law.retry_finishes mask_of n v dst src payload;
}
header_is_read mask_of k n versions grease (VersionNegotiate random src dst) payload rest can counted = record {
  read = rw (counted, append-nil (packet_of mask_of (VersionNegotiate random src dst) n payload))
      (plain_law.negotiation_is_read k n random versions dst src grease payload can.0 can.1 can.2);
  finishes = plain_law.negotiation_finishes mask_of n random dst src payload;
}

pub header_comes_back : (mask_of : List ℕ → List ℕ) (k n : ℕ) (versions : List ℕ) (grease : Bool) (h : Header) (payload rest : List ℕ)
    → IsReading k versions grease h → IsCounted h n payload rest → ComesBack mask_of k n versions grease h payload rest
header_comes_back mask_of k n versions grease h payload rest reading counted =
    header_is_read mask_of k n versions grease h payload rest (can_be_read k versions grease h reading) counted
