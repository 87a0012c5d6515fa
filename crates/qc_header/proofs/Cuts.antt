-- Where the header of a protected packet ends
use Rattle.std.proofs.Common.{◌≡◌, ℕ, ◌+◌, List, true, refl}
use Rattle.qc_base.specs.Mask.{unmasked, number_len_in}
use Rattle.qc_header.specs.Piece.{Piece, is_protected}
use Rattle.qc_header.specs.Unprotected.{unprotected, header_end}

pub unprotected_is : (masks : List ℕ → List ℕ) (p : Piece) → is_protected p.header ≡ true → unprotected masks p ≡ unmasked masks p.pn_offset p.bytes
unprotected_is masks p e = rw e refl

pub end_protected : (p : Piece) (bytes : List ℕ) → is_protected p.header ≡ true → header_end p bytes ≡ p.pn_offset + number_len_in bytes
end_protected p bytes e = rw e refl
