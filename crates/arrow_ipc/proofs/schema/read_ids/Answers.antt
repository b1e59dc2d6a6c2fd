use Rattle.std.proofs.Common.{arith}
use Rattle.arrow_ipc.specs.Columns.{put_id}
use Rattle.arrow_ipc.proofs.Told.{next_id}
use Rattle.arrow_ipc.proofs.schema.read_ids.Goals as goal

pub ids-preserved : goal.ids-preserved
unfolding put_id
ids-preserved c = grind (arith, next_id)
