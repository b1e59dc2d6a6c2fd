-- Extension names that are read as others, which replace them.
use Rattle.std.specs.Prelude.{◌||◌, bytes_eq, codes, Bool, false, Option, None, Some, option_map, if◌then◌else◌}
use Rattle.arrow_values.specs.Tree.{Text}
use Rattle.arrow_columns.specs.Column.{name_on}
use Rattle.arrow_columns.specs.Types.{ColumnTree}

-- the extension name as which one is read: an old one as the new one, any other as itself
abbrev pub current_name : Text → Text
current_name s = if bytes_eq s (codes "ogc.wkb") then codes "geoarrow.wkb" else if bytes_eq s (codes "ogc.wkt") then codes "geoarrow.wkt" else s

-- it is an old one
abbrev pub is_old_name : Text → Bool
is_old_name s = bytes_eq s (codes "ogc.wkb") || bytes_eq s (codes "ogc.wkt")

-- there is an extension name, and it is an old one
abbrev pub has_old_name : Option Text → Bool
has_old_name None = false
has_old_name (Some s) = is_old_name s

-- the extension name of a column, as it is read
abbrev pub name_read : ColumnTree → Option Text
name_read c = option_map current_name (name_on c)
