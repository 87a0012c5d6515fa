use Rattle.qc_text.proofs.GivenNames.{given_named}
use Rattle.qc_text.proofs.laws.given_frames_have_their_names.Goals as goal

pub returns : goal.returns
returns c frame given = given_named frame given
