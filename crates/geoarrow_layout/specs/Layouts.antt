-- The data types as written: names, list levels, type ids and nullability.
use Rattle.std.specs.Prelude.{◌≡◌, ◌∷◌, ◌++◌}
use Rattle.geoarrow_layout.specs.Words.{Text, Tree, plain, float64, binary, large_binary, binary_view, utf8, large_utf8, utf8_view, list, fixed_size_list, struct, union, FieldTree, field_tree, Members, field_trees, member_trees, ℤ, pos, Bool, true, false, List, [], map, codes, Dense, CoordType, Interleaved, Separated, Dimension, NativeKind, Point, LineString, Polygon, MultiPoint, MultiLineString, MultiPolygon, GeometryCollection, Plain, Large, View, Kind, Native, Geometry, Rect, Wkb, Wkt}
use Rattle.geoarrow_layout.specs.Kinds.{size_of, interleaved_name, dimension_suffix, dimensions, type_id_of}
pub use Rattle.geoarrow_layout.specs.Kinds.{coordinate_names, box_names}

-- a field of a coordinate or a box: `Float64`, not nullable, without metadata
abbrev pub coordinate : Text → FieldTree
coordinate name = field_tree name (plain float64) false []

-- the data type of a coordinate
abbrev pub leaf_layout : CoordType → Dimension → Tree
leaf_layout Interleaved d = fixed_size_list (interleaved_name d) (plain float64) false [] (pos (size_of d))
leaf_layout Separated d = struct (field_trees (map coordinate (coordinate_names d)))

-- the names of the list fields of a kind, from the outermost
abbrev pub list_names : NativeKind → List Text
list_names Point = []
list_names LineString = codes "vertices" ∷ []
list_names Polygon = codes "rings" ∷ codes "vertices" ∷ []
list_names MultiPoint = codes "points" ∷ []
list_names MultiLineString = codes "linestrings" ∷ codes "vertices" ∷ []
list_names MultiPolygon = codes "polygons" ∷ codes "rings" ∷ codes "vertices" ∷ []
list_names GeometryCollection = codes "geometries" ∷ []

-- lists over u, one for each name; no item is nullable
abbrev pub lists_over : List Text → Tree → Tree
lists_over [] u = u
lists_over (name ∷ names) u = list name (lists_over names u) false []

-- the lists of a kind over a coordinate
abbrev pub over_leaf_layout : NativeKind → CoordType → Dimension → Tree
over_leaf_layout k c d = lists_over (list_names k) (leaf_layout c d)

-- the name of a kind in the name of a union's member
abbrev pub type_name : NativeKind → Text
type_name Point = codes "Point"
type_name LineString = codes "LineString"
type_name Polygon = codes "Polygon"
type_name MultiPoint = codes "MultiPoint"
type_name MultiLineString = codes "MultiLineString"
type_name MultiPolygon = codes "MultiPolygon"
type_name GeometryCollection = codes "GeometryCollection"

-- a union's member: its type id, and its field, named by kind and dimension, nullable
abbrev pub member_layout : NativeKind → Dimension → Tree → ℤ × FieldTree
member_layout k d t = (pos (type_id_of k d), field_tree (type_name k ++ dimension_suffix d) t true [])

-- a member for each of some kinds, all of one coordinate type and dimension
abbrev pub members_over : List NativeKind → CoordType → Dimension → Members
members_over ks c d = map (λ k. member_layout k d (over_leaf_layout k c d)) ks

-- the members of the union in a collection, in the order of their type ids
abbrev pub mixed_members : CoordType → Dimension → Members
mixed_members c d = members_over (Point ∷ LineString ∷ Polygon ∷ MultiPoint ∷ MultiLineString ∷ MultiPolygon ∷ []) c d

-- the data type of that union, which is dense
abbrev pub mixed_layout : CoordType → Dimension → Tree
mixed_layout c d = union (member_trees (mixed_members c d)) Dense

-- the data type of a native kind
abbrev pub native_layout : NativeKind → CoordType → Dimension → Tree
native_layout GeometryCollection c d = lists_over (list_names GeometryCollection) (mixed_layout c d)
native_layout k c d = over_leaf_layout k c d

-- a member for each of some kinds, each as the kind is written
abbrev pub native_members : List NativeKind → CoordType → Dimension → Members
native_members ks c d = map (λ k. member_layout k d (native_layout k c d)) ks

-- the members of a geometry's union that are of one dimension, the collection last
abbrev pub dimension_members : CoordType → Dimension → Members
dimension_members c d = mixed_members c d ++ (member_layout GeometryCollection d (native_layout GeometryCollection c d) ∷ [])

-- the members of a geometry's union that are of these dimensions
abbrev pub members_in : List Dimension → CoordType → Members
members_in [] c = []
members_in (d ∷ ds) c = dimension_members c d ++ members_in ds c

-- all 28 members of a geometry's union
abbrev pub geometry_members : CoordType → Members
geometry_members c = members_in dimensions c

-- the data type as written of a kind
abbrev pub layout : Kind → Tree
layout (Native k c d) = native_layout k c d
layout (Geometry c) = union (member_trees (geometry_members c)) Dense
layout (Rect d) = struct (field_trees (map coordinate (box_names d)))
layout (Wkb Plain) = plain binary
layout (Wkb Large) = plain large_binary
layout (Wkb View) = plain binary_view
layout (Wkt Plain) = plain utf8
layout (Wkt Large) = plain large_utf8
layout (Wkt View) = plain utf8_view

-- the field has this name and nullability, and no metadata
abbrev pub IsBare : Text → Bool → FieldTree → Type 0
IsBare name nullable f = (f.name ≡ name) × (f.nullable ≡ nullable) × (f.metadata ≡ [])

-- a union's member as written: its type id and its data type are those of one kind, in this coordinate type and dimension
abbrev pub IsWritten : CoordType → Dimension → ℤ → Tree → Type 0
IsWritten c d i t = (k : NativeKind) × (i ≡ pos (type_id_of k d)) × (t ≡ native_layout k c d)

-- the same, in some dimension
abbrev pub IsWrittenSome : CoordType → ℤ → Tree → Type 0
IsWrittenSome c i t = (d : Dimension) × IsWritten c d i t
