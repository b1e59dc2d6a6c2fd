use Rattle.port_laws.proofs.Once.{own_canonical, answered_again}
use Rattle.port_laws.proofs.canonical.canonical_field_is_its_own.Goals as goal

pub returns-clause-own : goal.returns-clause-own
returns-clause-own c = own_canonical c.one_kind.ensures

pub returns-clause-answered : goal.returns-clause-answered
returns-clause-answered c = answered_again c.one_kind.ensures
