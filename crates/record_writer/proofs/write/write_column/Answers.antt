use Rattle.std.proofs.Common.{refl}
use Rattle.arrow_columns.specs.Column.{column_tree}
use Rattle.record_writer.proofs.Whole.{formless_placed}
use Rattle.record_writer.proofs.write.write_column.Goals as goal

pub returns-in-None-clause-err : goal.returns-in-None-clause-err
returns-in-None-clause-err c =
    let one = column_tree c.args.column.now in
    (one, refl, formless_placed 0 0 one c.in-None.ensures)
