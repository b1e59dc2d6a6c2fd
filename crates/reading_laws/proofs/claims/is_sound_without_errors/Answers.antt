use Rattle.reading_laws.proofs.Soundness.{is_sound}
use Rattle.reading_laws.proofs.claims.is_sound_without_errors.Goals as goal

pub returns : goal.returns
returns c = is_sound
