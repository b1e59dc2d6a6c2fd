use Rattle.geoarrow_layout.proofs.KindSteps.{either}
use Rattle.geoarrow_layout.proofs.laws.accepted_or_at_fault.Goals as goal

pub returns : goal.returns
returns c = either c.parse_kind.result c.args.name _ c.parse_kind.ensures.exact c.parse_kind.ensures.fault
