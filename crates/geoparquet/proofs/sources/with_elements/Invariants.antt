use Rattle.std.proofs.Common.{◌≡◌, ◌++◌, length, map}
use Rattle.arrow_columns.specs.Column.{column_tree}
use Rattle.geoparquet.specs.Sources.{element_view, sourced, with_elements}
use Rattle.geoparquet.proofs.sources.with_elements.Given as goal

-- the columns so far, and those that are left
abbrev pub invariant-columns : goal.invariant-columns
invariant-columns l =
    map sourced l.made.items ++ with_elements (map column_tree l.left) (map element_view l.said)
    ≡ with_elements (map column_tree l.columns) (map element_view l.elements)

abbrev pub decreases-columns : goal.decreases-columns
decreases-columns l = length l.left
