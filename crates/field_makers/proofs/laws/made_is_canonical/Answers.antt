use Rattle.field_makers.proofs.Found.{is_canonical}
use Rattle.field_makers.proofs.laws.made_is_canonical.Goals as goal

pub returns : goal.returns
returns c = is_canonical c.layouts_read_back.ensures
