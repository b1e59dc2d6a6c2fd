use Rattle.std.proofs.Common.{None}
use Rattle.column_reports.proofs.ByColumn.{updated}
use Rattle.column_reports.proofs.by_column.own_of.Goals as goal

pub returns-in-Some-clause-left : goal.returns-in-Some-clause-left
returns-in-Some-clause-left c = updated c.args.name.now c.args.named.now c.remove.new.self None c.remove.ensures.updates
