use Rattle.std.proofs.Common.{◌≡◌, map, flat_map, string_bytes}
use Rattle.arrow_columns.specs.Column.{column_tree}
use Rattle.geoarrow_c.specs.Canonical.{line_of}
use Rattle.geoarrow_c.proofs.lines_of_schemas.lines_of.Given as goal

abbrev pub invariant-columns : goal.invariant-columns
invariant-columns l = string_bytes l.lines ≡ flat_map line_of (map column_tree l.yielded)
