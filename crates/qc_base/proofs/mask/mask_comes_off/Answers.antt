use Rattle.qc_base.proofs.MaskLaws as law
use Rattle.qc_base.proofs.mask.mask_comes_off.Goals as goal

pub returns : goal.returns
returns c = law.mask_comes_off
