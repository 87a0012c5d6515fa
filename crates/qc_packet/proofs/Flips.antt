-- The first byte of a header, with its fixed bit flipped or not.
use Rattle.std.proofs.Common.{◌≡◌, ℕ, ◌≤◌, List, ◌++◌, length, drop, arith}
use Rattle.std.proofs.Math.Seq.{drop-append_seam}
use Rattle.qc_base.specs.Mask.{first_byte}
use Rattle.qc_base.specs.declared.side.LongType.TheVariants.{Handshake, ZeroRtt}
use Rattle.qc_header.specs.declared.header.Header.{Header}
use Rattle.qc_header.specs.declared.header.Header.TheVariants.{Initial, Long, Retry, Short, VersionNegotiate}
use Rattle.qc_header.specs.HeaderSpelling.{header_spelling, initial_spelling, short_spelling, long_start}

-- a header is written with its fixed bit
pub fixed_bit : (h : Header) (n : ℕ) → 64 ≤ first_byte (header_spelling h n)
unfolding header_spelling initial_spelling short_spelling long_start
fixed_bit (Initial h) n = omega arith
fixed_bit (Long ZeroRtt dst_cid src_cid number version) n = omega arith
fixed_bit (Long Handshake dst_cid src_cid number version) n = omega arith
fixed_bit (Retry dst_cid src_cid version) n = omega arith
fixed_bit (Short spin key_phase dst_cid number) n = omega arith
fixed_bit (VersionNegotiate random src_cid dst_cid) n = omega arith

-- also where it stands behind other bytes
pub fixed_bit_behind : (before : List ℕ) (start : ℕ) (h : Header) (n : ℕ) → start ≡ length before → 64 ≤ first_byte (drop start (before ++ header_spelling h n))
fixed_bit_behind before start h n e = rw (e, drop-append_seam before (header_spelling h n)) (fixed_bit h n)
