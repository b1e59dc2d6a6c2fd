-- The strict layouts of encodings (docs/FORMAT.md, 5.5), and the extension names of the same encodings.
use Rattle.std.specs.Prelude.{◌&&◌, ◌||◌, ◌==◌, ◌++◌, [], is_some, ℕ, zero, suc, Bool, true, false, not, codes, bytes_eq, Option, None, Some, option_map, option_and_then, if◌then◌else◌}
use Rattle.arrow_values.specs.Tree.{Text, Tree, plain, list, large_list, struct, float64, binary, large_binary, binary_view, FieldTrees, no_fields, field}
use Rattle.arrow_columns.specs.Types.{TypeTree, known, other, ColumnTree}
use Rattle.arrow_columns.specs.Notation.{type_text}
use Rattle.parquet_columns.specs.Layouts as elements
use Rattle.parquet_columns.specs.Unreadable.{is_unreadable}
use Rattle.geoparquet.specs.Findings.{shown}
use Rattle.geoparquet.specs.Sources.{Element}
use Rattle.geoarrow_layout.specs.Kinds.{levels_of}
use Rattle.geoarrow_layout.specs.declared.dimensions.Dimension.{Dimension}
use Rattle.geoarrow_layout.specs.declared.dimensions.Dimension.TheVariants.{XY, XYZ}
use Rattle.geoarrow_layout.specs.declared.native_kinds.NativeKind.{NativeKind}
use Rattle.geoarrow_layout.specs.declared.native_kinds.NativeKind.TheVariants.{Point, LineString, Polygon, MultiPoint, MultiLineString, MultiPolygon}
use Rattle.geoparquet.specs.declared.layout.Layout.{Layout}
use Rattle.geoparquet.specs.declared.layout.Layout.TheVariants.{Binary, Native}

-- the kind whose columns a native encoding is of
abbrev pub kind_encoded : Text → Option NativeKind
kind_encoded s =
    if bytes_eq s (codes "point") then Some Point
    else if bytes_eq s (codes "linestring") then Some LineString
    else if bytes_eq s (codes "polygon") then Some Polygon
    else if bytes_eq s (codes "multipoint") then Some MultiPoint
    else if bytes_eq s (codes "multilinestring") then Some MultiLineString
    else if bytes_eq s (codes "multipolygon") then Some MultiPolygon
    else None

-- an ordinate: doubles under that name, none of them null
abbrev pub are_doubles : Tree → Bool
are_doubles (plain float64) = true
are_doubles t = false

abbrev pub is_ordinate : Text → Text → Tree → Bool → Bool
is_ordinate name n t nullable = are_doubles t && (not nullable && bytes_eq n name)

-- what stands behind x and y: nothing, or z
abbrev pub height : FieldTrees → Option Dimension
height no_fields = Some XY
height (field n t b m no_fields) = if is_ordinate (codes "z") n t b then Some XYZ else None
height fs = None

-- the ordinates x and y, or x, y and z, in this order
abbrev pub ordinates : FieldTrees → Option Dimension
ordinates (field n t b m (field o u c l fs)) =
    if is_ordinate (codes "x") n t b && is_ordinate (codes "y") o u c then height fs else None
ordinates fs = None

-- a coordinate: a struct of exactly such ordinates
abbrev pub coordinate : Tree → Option Dimension
coordinate (struct fs) = ordinates fs
coordinate t = None

-- the items of a list; their name, and whether they may be null, do not matter
abbrev pub item_of : Tree → Option Tree
item_of (list n t b m) = Some t
item_of (large_list n t b m) = Some t
item_of t = None

-- a coordinate below that many lists
abbrev pub coordinate_below : ℕ → Tree → Option Dimension
coordinate_below zero t = coordinate t
coordinate_below (suc n) t = option_and_then (coordinate_below n) (item_of t)

-- bytes
abbrev pub is_binary : Tree → Bool
is_binary (plain binary) = true
is_binary (plain large_binary) = true
is_binary (plain binary_view) = true
is_binary t = false

-- the strict layout of an encoding that a type has; none where it has another
abbrev pub native_layout : Tree → NativeKind → Option Layout
native_layout t k = option_map (Native k) (coordinate_below (levels_of k) t)

abbrev pub layout_of_tree : Text → Tree → Option Layout
layout_of_tree s t =
    if bytes_eq s (codes "WKB") then (if is_binary t then Some Binary else None)
    else option_and_then (native_layout t) (kind_encoded s)

abbrev pub layout_of : Text → TypeTree → Option Layout
layout_of s (known t) = layout_of_tree s t
layout_of s (other n f ids ps) = None

-- ---- of elements (docs/FORMAT.md, 5.5)

-- the strict layout of an encoding that an element has
abbrev pub dimension_with : Bool → Dimension
dimension_with false = XY
dimension_with true = XYZ

abbrev pub native_below : ℕ → Bool → NativeKind → Option Layout
native_below lists z k = if levels_of k == lists then Some (Native k (dimension_with z)) else None

abbrev pub element_layout : Text → elements.Layout → Option Layout
element_layout s elements.bytes = if bytes_eq s (codes "WKB") then Some Binary else None
element_layout s (elements.coordinates lists z) = option_and_then (native_below lists z) (kind_encoded s)
element_layout s (elements.other repetition kind) = None
element_layout s elements.unjudged = None

-- of a column: by its element, if there is one, and the column is read; else by its type
abbrev pub layout_by : Text → ColumnTree → Option Element → Option Layout
layout_by s c None = layout_of s c.data_type
layout_by s c (Some e) = if is_unreadable c.data_type then None else element_layout s e.layout

-- whether a column has the layout of an encoding, or is not judged
abbrev pub is_not_judged : elements.Layout → Bool
is_not_judged elements.bytes = false
is_not_judged (elements.coordinates lists z) = false
is_not_judged (elements.other repetition kind) = false
is_not_judged elements.unjudged = true

abbrev pub is_laid_out : Text → ColumnTree → Option Element → Bool
is_laid_out s c None = is_some (layout_of s c.data_type)
is_laid_out s c (Some e) = is_unreadable c.data_type || (is_not_judged e.layout || is_some (element_layout s e.layout))

-- the layout of a column as a finding shows it
abbrev pub lists_text : ℕ → Text
lists_text lists =
    if lists == 0 then codes "group of "
    else if lists == 1 then codes "LIST of "
    else if lists == 2 then codes "LIST of LIST of "
    else codes "LIST of LIST of LIST of "

abbrev pub ordinates_text : Bool → Text
ordinates_text false = codes "x, y"
ordinates_text true = codes "x, y, z"

abbrev pub element_text : elements.Layout → Text
element_text elements.bytes = codes "BYTE_ARRAY"
element_text (elements.coordinates lists z) = lists_text lists ++ ordinates_text z
element_text (elements.other repetition kind) = repetition ++ (codes " " ++ kind)
element_text elements.unjudged = []

abbrev pub layout_text : ColumnTree → Option Element → Text
layout_text c None = shown (type_text c.data_type)
layout_text c (Some e) = element_text e.layout
