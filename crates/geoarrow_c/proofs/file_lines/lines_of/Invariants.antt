use Rattle.std.proofs.Common.{◌≡◌, map, flat_map, string_bytes}
use Rattle.geoarrow_c.specs.Canonical.{line_of}
use Rattle.geoarrow_c.specs.FileLines.{tree_of}
use Rattle.geoarrow_c.proofs.file_lines.lines_of.Given as goal

abbrev pub invariant-columns : goal.invariant-columns
invariant-columns l = string_bytes l.lines ≡ flat_map line_of (map tree_of l.yielded)
