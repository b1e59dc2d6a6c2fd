use Rattle.std.proofs.Common.{arith}
use Rattle.std.proofs.lemmas.List.{map_push}
use Rattle.arrow_ipc.proofs.Told.{goes_on}
use Rattle.arrow_ipc.proofs.schema.+read.Goals as goal

pub read_columns-columns-preserved : goal.read_columns-columns-preserved
read_columns-columns-preserved t c = grind (arith, goes_on, map_push)
