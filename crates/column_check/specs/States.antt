-- What a finding says of a column, in a word.
use Rattle.std.specs.Prelude.{Bool, true, false, Option, None, Some}
use Rattle.column_check.specs.declared.finding.Finding.{Finding as ColumnFinding}
use Rattle.column_check.specs.declared.finding.Finding.TheVariants.{Geometry, Invalid, Inferred}
use Rattle.column_check.specs.declared.finding.Geometry.{Geometry as GeometryColumn}

-- whether the column is invalid
abbrev pub is_invalid : ColumnFinding → Bool
is_invalid (Invalid r) = true
is_invalid f = false

-- whether the column is of geometries by its extension name
abbrev pub is_geometry : ColumnFinding → Bool
is_geometry (Geometry g) = true
is_geometry f = false

-- the geometries that the column holds or is taken for
abbrev pub geometry_in : ColumnFinding → Option GeometryColumn
geometry_in (Geometry g) = Some g
geometry_in (Inferred g) = Some g
geometry_in f = None
