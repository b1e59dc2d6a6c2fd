use Rattle.canonical_columns.proofs.Stays.{its_own}
use Rattle.canonical_columns.proofs.laws.canonical_is_its_own.Goals as goal

pub returns : goal.returns
returns c = its_own c.layouts_read_back.ensures
