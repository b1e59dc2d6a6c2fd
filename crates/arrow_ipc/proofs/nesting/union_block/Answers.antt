use Rattle.std.proofs.Common.{append_assoc, arith}
use Rattle.std.proofs.lemmas.List.{drop_all, drop_more}
use Rattle.arrow_ipc.proofs.Blocks.{ids_written, count_ids}
use Rattle.arrow_ipc.proofs.nesting.union_block.Goals as goal

pub each-preserved : goal.each-preserved
each-preserved c = grind (arith, drop_more, append_assoc)

pub returns : goal.returns
returns c = grind (arith, drop_all, ids_written, count_ids)
