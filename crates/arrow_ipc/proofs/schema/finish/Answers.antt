use Rattle.std.proofs.Common.{arith}
use Rattle.std.proofs.lemmas.Grind.{common_steps}
use Rattle.arrow_ipc.specs.Columns.{finished}
use Rattle.arrow_ipc.proofs.schema.finish.Goals as goal

pub returns : goal.returns
unfolding finished
returns c = grind (arith, common_steps)
