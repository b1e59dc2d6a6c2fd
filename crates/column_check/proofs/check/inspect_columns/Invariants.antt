use Rattle.std.proofs.Common.{take, map}
use Rattle.arrow_columns.specs.Column.{column_tree}
use Rattle.column_check.specs.Finding.{AreFindings}
use Rattle.column_check.proofs.check.inspect_columns.Given as goal

abbrev pub invariant-loop-column : goal.invariant-loop-column
invariant-loop-column l = AreFindings l.infer (map column_tree (take l.column-index l.columns)) l.findings.items
