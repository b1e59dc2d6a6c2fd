use Rattle.port_laws.proofs.Lines.{infer_unless, infer_alike, none_unnamed, infer_never}
use Rattle.port_laws.proofs.commands.infer_and_read.Goals as goal

pub returns-clause-unless : goal.returns-clause-unless
returns-clause-unless c = infer_unless

pub returns-clause-alike : goal.returns-clause-alike
returns-clause-alike c = infer_alike

pub returns-clause-none : goal.returns-clause-none
returns-clause-none c = none_unnamed

pub returns-clause-never : goal.returns-clause-never
returns-clause-never c = infer_never
