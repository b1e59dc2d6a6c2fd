use Rattle.geoparquet.proofs.Gathering.{left_behind}
use Rattle.geoparquet.proofs.repeated_keys.taken.Goals as goal

pub returns-in-Some-clause-left : goal.returns-in-Some-clause-left
returns-in-Some-clause-left c = left_behind c.args.key.now c.args.values.now c.remove.new.self c.remove.ensures.updates

pub returns-in-None-clause-left : goal.returns-in-None-clause-left
returns-in-None-clause-left c = left_behind c.args.key.now c.args.values.now c.remove.new.self c.remove.ensures.updates
