-- What is said of columns.
use Rattle.std.specs.Prelude.{◌≡◌, ◌++◌, ℤ, List, [], Option, Some, None, option_map}
use Rattle.arrow_values.specs.Tree.{Text, Tree, union, FieldTree, Members}
use Rattle.arrow_values.specs.View.{member_trees, member_list}
use Rattle.arrow_values.specs.Union.{retained, shared_id}
use Rattle.serde_json.specs.Data.{Data}
use Rattle.serde_json.specs.Written.{compact_text}
use Rattle.geoarrow_layout.specs.declared.dimensions.CoordType.{CoordType}
use Rattle.geoarrow_layout.specs.Changes.{GeometryUnion, EachOf}
use Rattle.geoarrow_meta.specs.declared.metadata.Metadata.{Metadata}
use Rattle.geoarrow_meta.specs.Transform.{own_projjson}
use Rattle.geoarrow_schema.specs.declared.types.GeoArrowType.{GeoArrowType}
use Rattle.geoarrow_schema.specs.Reads.{Reads, writes}

-- the two are read as types that are written as the same extension name, tree and metadata value
abbrev pub AreWrittenAlike : FieldTree → FieldTree → Type 0
AreWrittenAlike e f = (g : GeoArrowType) × (h : GeoArrowType) × Reads e g × Reads f h × (writes g ≡ writes h)

-- the members of a union; empty if the tree is not a union
abbrev pub members_of : Tree → Members
members_of (union ms mode) = member_list ms
members_of _ = []

-- the union of its members whose id is among ids, in the same mode; any other tree unchanged
abbrev pub narrowed : List ℤ → Tree → Tree
narrowed ids (union ms mode) = union (member_trees (retained ids (member_list ms))) mode
narrowed ids t = t

-- no type id is in both, there is a member, and each part with members is a union of geometries, all of one coordinate type
abbrev pub MayBeJoined : Members → Members → Type 0
MayBeJoined ms ns = (shared_id ms ns ≡ None) × ((c : CoordType) × EachOf (GeometryUnion c) ms ns (ms ++ ns))

-- the compact text of a value, if there is one
abbrev text_of_own : Option (Option Data) → Option Text
text_of_own None = None
text_of_own (Some v) = option_map compact_text v

-- the compact text of the CRS value, where its type is PROJJSON
abbrev pub projjson_text_of : Metadata → Option Text
projjson_text_of m = text_of_own (own_projjson m.crs)
