use Rattle.std.proofs.Common.{arith}
use Rattle.geoparquet.specs.RepeatedKeys.{repeated_finding, steps_on}
use Rattle.geoparquet.proofs.Telling.{told_full}
use Rattle.geoparquet.proofs.repeated_keys.add_several.Goals as goal

pub returns-else-len-lt-TOLD : goal.returns-else-len-lt-TOLD
returns-else-len-lt-TOLD c = told_full c.args.findings.now.items (repeated_finding (steps_on c.args.way.now) c.args.count c.args.same) (omega arith)
