use Rattle.std.proofs.Common.{map, take}
use Rattle.arrow_columns.specs.Column.{column_tree}
use Rattle.arrow_columns.specs.Names.{AreNamed}
use Rattle.arrow_columns.proofs.names.ColumnNames.new.Given as goal

abbrev pub invariant-columns : goal.invariant-columns
invariant-columns l = AreNamed (map column_tree (take l.column-index l.columns)) l.named
