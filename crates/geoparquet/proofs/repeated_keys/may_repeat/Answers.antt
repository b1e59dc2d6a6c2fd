use Rattle.std.proofs.Common.{arith}
use Rattle.geoparquet.proofs.Seeing.{few_distinct}
use Rattle.geoparquet.proofs.repeated_keys.may_repeat.Goals as goal

pub returns-then-members-lt2 : goal.returns-then-members-lt2
returns-then-members-lt2 c = few_distinct c.args.members.now (omega arith)
