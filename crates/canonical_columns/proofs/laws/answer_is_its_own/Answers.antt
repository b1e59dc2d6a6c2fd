use Rattle.canonical_columns.proofs.Answered.{answer_is_its_own}
use Rattle.canonical_columns.proofs.laws.answer_is_its_own.Goals as goal

pub returns : goal.returns
returns c = answer_is_its_own
