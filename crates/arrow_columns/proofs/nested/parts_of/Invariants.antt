use Rattle.std.proofs.Common.{map}
use Rattle.arrow_columns.specs.Column.{column_tree}
use Rattle.arrow_columns.specs.Notation.{column_text}
use Rattle.arrow_columns.proofs.Steps.{TextsRest}
use Rattle.arrow_columns.proofs.nested.parts_of.Given as goal

abbrev pub invariant-loop-column : goal.invariant-loop-column
invariant-loop-column l = TextsRest (λ cs. map column_text (map column_tree cs)) l.columns l.column-index l.parts.items
