-- Bytes that are sealed or lost are kept on
use Rattle.std.proofs.Common.{◌≡◌, ◌∙◌, ℕ, suc, Bool, List, [], ◌∷◌, length, ap, refl}
use Rattle.qc_send_stream.specs.declared.send.SendPart.{SendPart}
use Rattle.qc_send_stream.specs.Buffer.{Kept, marked, range_sealed, range_lost}
use Rattle.qc_send_stream.specs.Sending.{kept_count, part_sealed, part_lost}

length-marked : (l : Bool) (start stop : ℕ) (ks : List Kept) → length (marked l start stop ks) ≡ length ks
unfolding marked
length-marked l start stop [] = refl
length-marked l start stop (k ∷ ks) = ap (λ (n : ℕ). suc n) (length-marked l start stop ks)

pub sealed_same : (start stop : ℕ) (last : Bool) (p p' : SendPart) → p' ≡ part_sealed start stop last p → kept_count p' ≡ kept_count p
unfolding part_sealed range_sealed
sealed_same start stop last p p' is = ap (λ (x : SendPart). kept_count x) is ∙ length-marked _ start stop p.buffer.kept

pub lost_same : (start stop : ℕ) (last : Bool) (p p' : SendPart) → p' ≡ part_lost start stop last p → kept_count p' ≡ kept_count p
unfolding part_lost range_lost
lost_same start stop last p p' is = ap (λ (x : SendPart). kept_count x) is ∙ length-marked _ start _ p.buffer.kept
