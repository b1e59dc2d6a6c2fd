use Rattle.column_check.proofs.Faults.{type_apart}
use Rattle.column_check.proofs.laws.kind_or_fault.Goals as goal

pub returns : goal.returns
returns c = type_apart c.no_fault_if_accepted.ensures
