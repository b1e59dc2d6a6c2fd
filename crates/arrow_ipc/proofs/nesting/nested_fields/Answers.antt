use Rattle.std.proofs.Common.{arith}
use Rattle.arrow_ipc.proofs.Blocks.{members_lent}
use Rattle.arrow_ipc.proofs.nesting.nested_fields.Goals as goal

pub returns-after-loop-member : goal.returns-after-loop-member
returns-after-loop-member c = grind (arith, members_lent)
