use Rattle.std.proofs.Common.{map, drop}
use Rattle.arrow_columns.specs.Column.{column_tree}
use Rattle.record_writer.specs.Placed.{all_placed}
use Rattle.record_writer.proofs.Grows.{Done}
use Rattle.record_writer.proofs.write.records_of.Given as goal

-- the records of the columns so far, before those that are left
abbrev pub invariant-columns : goal.invariant-columns
invariant-columns l =
    Done l.initial.records l.records (all_placed 1 (map column_tree (drop l.i l.columns)))
    (all_placed 1 (map column_tree l.columns))
