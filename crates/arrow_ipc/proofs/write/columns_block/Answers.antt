use Rattle.std.proofs.Common.{arith}
use Rattle.std.proofs.lemmas.List.{drop_all, drop_more, map_push}
use Rattle.arrow_ipc.proofs.Blocks.{made_more, columns_made, column_refused, columns_give}
use Rattle.arrow_ipc.proofs.write.columns_block.Goals as goal

pub returns : goal.returns
returns c = grind (arith, columns_made, columns_give, drop_all)

pub returns-in-Err-Column : goal.returns-in-Err-Column
returns-in-Err-Column c =
    column_refused 61 c.args.columns.now c.columns.i c.index-columns-i.result 0 c.columns-test.true c.index-columns-i.is (rw c.in-Err-Column.field-0-is at c.in-Err-Column.ensures)

pub columns-preserved : goal.columns-preserved
columns-preserved c = grind (arith, made_more, drop_more, map_push)
