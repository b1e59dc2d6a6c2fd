-- The eleven extension names of GeoArrow ("Extension types").
use Rattle.std.specs.Prelude.{List, [], ◌∷◌, bytes_eq, Option, None, Some, if◌then◌else◌}
use Rattle.arrow_values.specs.Tree.{Text}
use Rattle.geoarrow_layout.specs.declared.names.ExtensionName.{ExtensionName}
use Rattle.geoarrow_layout.specs.declared.names.ExtensionName.TheVariants as names
use Rattle.geoarrow_layout.specs.declared.native_kinds.NativeKind.TheVariants.{Point, LineString, Polygon, MultiPoint, MultiLineString, MultiPolygon, GeometryCollection}
use Rattle.geoarrow_layout.specs.Kinds.{name_text}
use Rattle.column_check.specs.OldNames.{current_name}

-- all of them
abbrev pub extensions : List ExtensionName
extensions =
    names.Native Point ∷ names.Native LineString ∷ names.Native Polygon ∷ names.Native MultiPoint ∷ names.Native MultiLineString ∷ names.Native MultiPolygon ∷ names.Native GeometryCollection
    ∷ names.Geometry ∷ names.Rect ∷ names.Wkb ∷ names.Wkt ∷ []

-- the first of some names that has that text
abbrev pub named_among : Text → List ExtensionName → Option ExtensionName
named_among s [] = None
named_among s (n ∷ ns) = if bytes_eq (name_text n) s then Some n else named_among s ns

-- the extension name, if there is one, as one of the eleven: an old one as that which replaces it
abbrev pub extension_named : Option Text → Option ExtensionName
extension_named None = None
extension_named (Some s) = named_among (current_name s) extensions
