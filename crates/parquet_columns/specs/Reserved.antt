-- Extension names that GeoArrow or OGC would have to give (docs/FORMAT.md, 2.6).
use Rattle.std.specs.Prelude.{◌||◌, Bool, false, nat_eq, codes, Option, None, Some}
use Rattle.std.specs.List.{starts_with}
use Rattle.std.specs.Str.{str_to_ascii_lowercase}
use Rattle.arrow_values.specs.Tree.{Text}

-- one that begins with `geoarrow.`, in any letters, or with `ogc.`; any other is foreign, and says nothing of geometries
abbrev pub is_reserved : Option Text → Bool
is_reserved None = false
is_reserved (Some name) = starts_with nat_eq (str_to_ascii_lowercase name) (codes "geoarrow.") || starts_with nat_eq name (codes "ogc.")
