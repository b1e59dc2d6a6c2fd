use Rattle.std.proofs.Common.{map, subst, sym}
use Rattle.arrow_columns.specs.Column.{column_tree}
use Rattle.record_writer.specs.Writes.{RefusesColumns}
use Rattle.record_writer.specs.declared.error.WriteError.{WriteError}
use Rattle.record_writer.proofs.Grows.{column_turn, column_more}
use Rattle.record_writer.proofs.Whole.{column_refused}
use Rattle.record_writer.proofs.write.records_of.Goals as goal

pub returns-in-Err : goal.returns-in-Err
returns-in-Err c =
    let xs = c.args.columns.now in let x = c.index-columns-i.result in
    let before = c.no_records-records.result in let now = c.columns.records in
    let turn = column_turn before now 1 c.columns.i xs x c.columns-test.true c.index-columns-i.is
    c.columns.invariant in
    let refused = column_refused c.in-Err.refusal xs c.columns.i x before now _
    c.columns-test.true c.index-columns-i.is c.no_records-records.ensures.count turn
    c.in-Err.ensures in
    subst (λ (e : WriteError). RefusesColumns e 1 0 0 (map column_tree xs))
    (sym c.with_index.ensures) refused

pub columns-preserved : goal.columns-preserved
columns-preserved c =
    column_more c.no_records-records.result c.columns.records 1 c.columns.i c.args.columns.now
    c.index-columns-i.result c.columns-test.true c.index-columns-i.is c.columns.invariant
    c.in-Ok.more c.in-Ok.ensures
