use Rattle.arrow_columns.specs.Column.{column_tree}
use Rattle.record_writer.proofs.Whole.{formless_placed}
use Rattle.record_writer.proofs.write.with_any.Goals as goal

pub returns-in-None : goal.returns-in-None
returns-in-None c =
    formless_placed c.args.records.count 1 (column_tree c.args.column.now) c.in-None.ensures
