use Rattle.same_columns.proofs.Naming.{without}
use Rattle.same_columns.proofs.ranks.taken.Goals as goal

pub returns-in-Some-clause-left : goal.returns-in-Some-clause-left
returns-in-Some-clause-left c = without c.args.name.now c.args.by_name.now c.remove.new.self c.remove.ensures.updates

pub returns-in-None-clause-left : goal.returns-in-None-clause-left
returns-in-None-clause-left c = without c.args.name.now c.args.by_name.now c.remove.new.self c.remove.ensures.updates
