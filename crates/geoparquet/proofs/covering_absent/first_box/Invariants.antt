use Rattle.std.proofs.Common.{◌≡◌, length, map}
use Rattle.arrow_columns.specs.Column.{column_tree}
use Rattle.geoparquet.specs.CoveringAbsent.{first_box}
use Rattle.geoparquet.proofs.covering_absent.first_box.Given as goal

-- the columns that are left decide
abbrev pub invariant-columns : goal.invariant-columns
invariant-columns l = first_box (map column_tree l.columns) ≡ first_box (map column_tree l.left)

abbrev pub decreases-columns : goal.decreases-columns
decreases-columns l = length l.left
