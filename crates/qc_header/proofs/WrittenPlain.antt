-- Written headers of Retry and Version Negotiation packets, which are not protected, are read and come back
use Rattle.std.proofs.Common.{◌≡◌, ℕ, ◌+◌, ◌-◌, ◌/◌, ◌%◌, ◌^◌, ◌<◌, ◌≤◌, ◌⊎◌, inl, inr, Bool, true, false, List, ◌∷◌, ◌++◌, length, Ok, refl, ap, ◌∙◌, arith, append_assoc, length-append, []}
use Rattle.std.proofs.Math.Seq.{take-append_seam, drop-append_seam}
use Rattle.std.specs.Int.{w32, to_be_bytes}
use Rattle.qc_header.specs.declared.header.Header.TheVariants as written
use Rattle.qc_header.specs.declared.protected.ProtectedHeader.TheVariants as readable
use Rattle.qc_header.specs.HeaderReading.{piece_at}
use Rattle.qc_header.specs.HeaderSpelling.{header_spelling, long_start, id_field}
use Rattle.qc_header.specs.Known.{IsKnown}
use Rattle.qc_header.specs.ReadBack.{AreIds, Finishes, number_place}
use Rattle.qc_header.proofs.ReadHeaders.{retry_piece, negotiation_piece}
use Rattle.qc_header.proofs.WrittenHeaders.{version_some, same_place}

-- ---- Retry packets

retry_whole : (dst src : List ℕ) (v n : ℕ) (behind : List ℕ)
    → header_spelling (written.Retry dst src v) n ++ behind ≡ 0xf0 ∷ (to_be_bytes w32 v ++ (id_field dst ++ (id_field src ++ behind)))
unfolding header_spelling long_start
retry_whole dst src v n behind = simp append_assoc

retry_place : (dst src : List ℕ) (v n : ℕ) → number_place (written.Retry dst src v) n ≡ length (header_spelling (written.Retry dst src v) n)
retry_place dst src v n = omega arith

pub retry_is_read : (k n v : ℕ) (versions dst src : List ℕ) (grease : Bool) (behind : List ℕ) → AreIds dst src → v < 2 ^ 32 → IsKnown v versions
    → piece_at k versions grease (header_spelling (written.Retry dst src v) n ++ behind)
    ≡ Ok (
      record {
        header = readable.Retry dst src v;
        pn_offset = number_place (written.Retry dst src v) n;
        bytes = header_spelling (written.Retry dst src v) n ++ behind;
      },
      [],
    )
retry_is_read k n v versions dst src grease behind ids fits known =
    let spelling = header_spelling (written.Retry dst src v) n in
    let datagram : List ℕ = 0xf0 ∷ (to_be_bytes w32 v ++ (id_field dst ++ (id_field src ++ behind))) in
    let whole : spelling ++ behind ≡ datagram = retry_whole dst src v n behind in
    let pn_offset : length datagram - length behind ≡ number_place (written.Retry dst src v) n =
    omega (arith, ap length whole, length-append spelling behind, retry_place dst src v n) in
    let found = retry_piece k 0xf0 v versions dst src behind grease refl fits (version_some v known.some) known.listed ids.dst ids.src in
    rw whole
    (found ∙ same_place (readable.Retry dst src v) (readable.Retry dst src v) (length datagram - length behind) (number_place (written.Retry dst src v) n)
    datagram datagram [] [] refl pn_offset refl refl)

pub retry_finishes : (mask_of : List ℕ → List ℕ) (n v : ℕ) (dst src behind : List ℕ)
    → Finishes mask_of (record {
      header = readable.Retry dst src v;
      pn_offset = number_place (written.Retry dst src v) n;
      bytes = header_spelling (written.Retry dst src v) n ++ behind;
    }) (written.Retry dst src v) (header_spelling (written.Retry dst src v) n) behind
retry_finishes mask_of n v dst src behind =
    let spelling = header_spelling (written.Retry dst src v) n in
    let pn_offset = retry_place dst src v n in record {
      whole = λ cut. let none : false ≡ true = cut.0 in cc;
      header_data = rw (pn_offset, take-append_seam spelling behind) refl;
      payload = rw (pn_offset, drop-append_seam spelling behind) refl;
      header = refl;
    }

-- ---- Version Negotiation packets

negotiation_whole : (random : ℕ) (dst src : List ℕ) (n : ℕ) (behind : List ℕ)
    → header_spelling (written.VersionNegotiate random src dst) n ++ behind
    ≡ (0x80 + random % 0x80) ∷ (to_be_bytes w32 0 ++ (id_field dst ++ (id_field src ++ behind)))
unfolding header_spelling long_start
negotiation_whole random dst src n behind = simp append_assoc

negotiation_place : (random : ℕ) (dst src : List ℕ) (n : ℕ)
    → number_place (written.VersionNegotiate random src dst) n ≡ length (header_spelling (written.VersionNegotiate random src dst) n)
negotiation_place random dst src n = omega arith

fixed_bit : (random : ℕ) (grease : Bool) → random < 128 → (64 ≤ random) ⊎ (grease ≡ true) → ((0x80 + random % 0x80) / 64 % 2 ≡ 1) ⊎ (grease ≡ true)
fixed_bit random grease small (inl high) = inl (omega arith)
fixed_bit random grease small (inr greased) = inr greased

same_random : (random random' : ℕ) (src dst : List ℕ) → random ≡ random' → readable.VersionNegotiate random src dst ≡ readable.VersionNegotiate random' src dst
same_random random random' src dst e = rw e refl

pub negotiation_is_read : (k n random : ℕ) (versions dst src : List ℕ) (grease : Bool) (behind : List ℕ)
    → AreIds dst src → random < 128 → (64 ≤ random) ⊎ (grease ≡ true)
    → piece_at k versions grease (header_spelling (written.VersionNegotiate random src dst) n ++ behind)
    ≡ Ok (
      record {
        header = readable.VersionNegotiate random src dst;
        pn_offset = number_place (written.VersionNegotiate random src dst) n;
        bytes = header_spelling (written.VersionNegotiate random src dst) n ++ behind;
      },
      [],
    )
negotiation_is_read k n random versions dst src grease behind ids small fixed =
    let spelling = header_spelling (written.VersionNegotiate random src dst) n in
    let first = 0x80 + random % 0x80 in
    let datagram : List ℕ = first ∷ (to_be_bytes w32 0 ++ (id_field dst ++ (id_field src ++ behind))) in
    let whole : spelling ++ behind ≡ datagram = negotiation_whole random dst src n behind in
    let pn_offset : length datagram - length behind ≡ number_place (written.VersionNegotiate random src dst) n =
    omega (arith, ap length whole, length-append spelling behind, negotiation_place random dst src n) in
    let bits : first % 128 ≡ random = omega arith in
    let found = negotiation_piece k first versions dst src behind grease (omega arith) (fixed_bit random grease small fixed) ids.dst ids.src in
    rw whole
    (found ∙ same_place (readable.VersionNegotiate (first % 128) src dst) (readable.VersionNegotiate random src dst)
    (length datagram - length behind) (number_place (written.VersionNegotiate random src dst) n) datagram datagram [] []
    (same_random (first % 128) random src dst bits) pn_offset refl refl)

pub negotiation_finishes : (mask_of : List ℕ → List ℕ) (n random : ℕ) (dst src behind : List ℕ)
    → Finishes mask_of (record {
      header = readable.VersionNegotiate random src dst;
      pn_offset = number_place (written.VersionNegotiate random src dst) n;
      bytes = header_spelling (written.VersionNegotiate random src dst) n ++ behind;
    }) (written.VersionNegotiate random src dst) (header_spelling (written.VersionNegotiate random src dst) n) behind
negotiation_finishes mask_of n random dst src behind =
    let spelling = header_spelling (written.VersionNegotiate random src dst) n in
    let pn_offset = negotiation_place random dst src n in record {
      whole = λ cut. let none : false ≡ true = cut.0 in cc;
      header_data = rw (pn_offset, take-append_seam spelling behind) refl;
      payload = rw (pn_offset, drop-append_seam spelling behind) refl;
      header = refl;
    }
