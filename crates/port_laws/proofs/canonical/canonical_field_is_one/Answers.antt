use Rattle.port_laws.proofs.Once.{one_canonical}
use Rattle.port_laws.proofs.canonical.canonical_field_is_one.Goals as goal

pub returns : goal.returns
returns c = one_canonical c.one_kind.ensures
