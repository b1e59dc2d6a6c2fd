-- What `geo` says of a column against the column itself (docs/FORMAT.md, 5.1).
use Rattle.std.specs.Prelude.{◌||◌, Bool, true, false, not, List, [], codes, bytes_eq, Option, None, Some, is_some, option_and_then, if◌then◌else◌}
use Rattle.json.specs.Json.{Json}
use Rattle.json.specs.Find.{get, as_str}
use Rattle.serde_json.specs.Data as own
use Rattle.serde_json.specs.Data.{Data}
use Rattle.serde_json.specs.Find.{get as get_data}
use Rattle.arrow_values.specs.Tree.{Text}
use Rattle.arrow_columns.specs.Column.{name_on, metadata_on}
use Rattle.arrow_columns.specs.Types.{ColumnTree}
use Rattle.geoarrow_layout.specs.declared.dimensions.Dimension.{Dimension}
use Rattle.geoarrow_layout.specs.declared.native_kinds.NativeKind.{NativeKind}
use Rattle.geoarrow_layout.specs.declared.native_kinds.NativeKind.TheVariants.{Point, LineString, Polygon, MultiPoint, MultiLineString, MultiPolygon}
use Rattle.geoparquet.specs.Findings.{Finding}
use Rattle.geoparquet.specs.Pairs.{text_findings}
use Rattle.geoparquet.specs.Sources.{Claim, silent, gives, beside, Element}
use Rattle.geoparquet.specs.Capped.{capped}
use Rattle.geoparquet.specs.Rules.{items_findings, part_place, told_at, unless}
use Rattle.geoparquet.specs.MemberRules.{encoding_of, is_edges, is_edges_value}
use Rattle.parquet_columns.specs.declared.geometry.EdgesClaim.{EdgesClaim}
use Rattle.parquet_columns.specs.declared.geometry.EdgesClaim.TheVariants as edges
use Rattle.geoparquet.specs.StrictLayouts.{layout_by, is_laid_out, layout_text}
use Rattle.geoparquet.specs.TypeNames.{type_text}
use Rattle.geoparquet.specs.TypeRules.{types_in, type_of, is_text}
use Rattle.geoparquet.specs.Values.{geo_value}
use Rattle.geoparquet.specs.declared.layout.Layout.{Layout}
use Rattle.geoparquet.specs.declared.pairs.Defaults.{Defaults}
use Rattle.geoparquet.specs.declared.layout.Layout.TheVariants.{Native}
use Rattle.geoparquet.specs.declared.code.GeoCode.TheVariants.{Layout as NoLayout, TypesContradict, EncodingContradicts, EdgesContradict}
use Rattle.geoparquet.specs.declared.finding.Version.{Version}
use Rattle.geoparquet.specs.declared.finding.Version.TheVariants.{V2}

-- ---- the layout

-- the layout of the encoding, where the column has it: its element, if there is one, or else its type
abbrev pub layout_in : Option Text → Option ColumnTree → Option Element → Option Layout
layout_in (Some s) (Some c) e = layout_by s c e
layout_in _ _ e = None

abbrev pub stored_layout : Version → Option ColumnTree → Option Element → Json → Option Layout
stored_layout version c e j = layout_in (encoding_of version j) c e

-- the column has another layout than that of its encoding; not judged where there is no column, or no encoding
abbrev pub layout_finding : Text → Text → Text → Finding
layout_finding key found wanted = told_at NoLayout (Some key) (part_place key (codes "encoding")) (Some found) (Some wanted)

abbrev pub encoding_layout_findings : Text → Option Text → Option ColumnTree → Option Element → List Finding
encoding_layout_findings key (Some s) (Some c) e = unless (is_laid_out s c e) (layout_finding key (layout_text c e) s)
encoding_layout_findings key _ _ e = []

abbrev pub layout_findings : Version → Text → Option ColumnTree → Option Element → Json → List Finding
layout_findings version key c e j = encoding_layout_findings key (encoding_of version j) c e

-- ---- the geometry types, against a native layout

-- the other kind of which types may be in columns of a kind
abbrev pub single_of : NativeKind → NativeKind
single_of MultiPoint = Point
single_of MultiLineString = LineString
single_of MultiPolygon = Polygon
single_of k = k

-- a type goes with a native layout by its kind and its dimension; what is no type is not judged
abbrev pub goes_with : NativeKind → Dimension → List Json → Json → Bool
goes_with k d before j = not (is_some (type_of j)) || (is_text (type_text k d) j || is_text (type_text (single_of k) d) j)

abbrev pub types_beside_findings : Text → NativeKind → Dimension → Option (List Json) → List Finding
types_beside_findings key k d (Some js) = capped (items_findings (goes_with k d) TypesContradict key (part_place key (codes "geometry_types")) [] js)
types_beside_findings key k d None = []

abbrev pub types_of_layout_findings : Text → Option Layout → Json → List Finding
types_of_layout_findings key (Some (Native k d)) j = types_beside_findings key k d (types_in j)
types_of_layout_findings key _ j = []

abbrev pub types_contradict_findings : Version → Text → Option ColumnTree → Option Element → Json → List Finding
types_contradict_findings version key c e j = types_of_layout_findings key (stored_layout version c e j) j

-- ---- the extension name

-- the encoding that an extension name says
abbrev pub own_encoding : Text → Option Text
own_encoding s =
    if bytes_eq s (codes "geoarrow.wkb") then Some (codes "WKB")
    else if bytes_eq s (codes "geoarrow.wkt") then Some (codes "WKT")
    else if bytes_eq s (codes "geoarrow.point") then Some (codes "point")
    else if bytes_eq s (codes "geoarrow.linestring") then Some (codes "linestring")
    else if bytes_eq s (codes "geoarrow.polygon") then Some (codes "polygon")
    else if bytes_eq s (codes "geoarrow.multipoint") then Some (codes "multipoint")
    else if bytes_eq s (codes "geoarrow.multilinestring") then Some (codes "multilinestring")
    else if bytes_eq s (codes "geoarrow.multipolygon") then Some (codes "multipolygon")
    else if bytes_eq s (codes "geoarrow.geometrycollection") then Some (codes "geometrycollection")
    else if bytes_eq s (codes "geoarrow.geometry") then Some (codes "geometry")
    else if bytes_eq s (codes "geoarrow.box") then Some (codes "box")
    else if bytes_eq s (codes "ogc.wkb") then Some (codes "WKB")
    else if bytes_eq s (codes "ogc.wkt") then Some (codes "WKT")
    else None

abbrev pub named_encoding : Option ColumnTree → Option Text
named_encoding None = None
named_encoding (Some c) = option_and_then own_encoding (name_on c)

-- the encoding that an element says: that of well-known binary, if it is of a geometry type
abbrev pub claimed_encoding : Claim → Option Text
claimed_encoding silent = None
claimed_encoding (gives names_crs edges) = Some (codes "WKB")
claimed_encoding (beside s edges) = Some (codes "WKB")

abbrev pub element_encoding : Option Element → Option Text
element_encoding None = None
element_encoding (Some e) = claimed_encoding e.claim

-- the encoding that a field says: none where its column has its name from the element
abbrev pub encoding_beside : Claim → Option ColumnTree → Option Text
encoding_beside silent c = named_encoding c
encoding_beside (gives names_crs edges) c = None
encoding_beside (beside s edges) c = named_encoding c

abbrev pub field_encoding : Option Element → Option ColumnTree → Option Text
field_encoding None c = named_encoding c
field_encoding (Some e) c = encoding_beside e.claim c

-- the encoding that a member says, where the column has the layout of it
abbrev pub layout_encoding : Version → Option ColumnTree → Option Element → Json → Option Text
layout_encoding version c e j = if is_some (stored_layout version c e j) then encoding_of version j else None

-- no encoding is a default
abbrev pub no_defaults : Defaults
no_defaults = record { element = false; field = false; geo = false }

-- two of the element, the field and `encoding` say two
abbrev pub encodings_findings : Text → Option ColumnTree → Option Element → Option Text → List Finding
encodings_findings key c e said =
    text_findings EncodingContradicts key (codes "encoding") no_defaults (element_encoding e) (field_encoding e c) said

abbrev pub encoding_contradicts_findings : Version → Text → Option ColumnTree → Option Element → Json → List Finding
encoding_contradicts_findings version key c e j = encodings_findings key c e (layout_encoding version c e j)

-- ---- the edges

-- the edges that a member says: its text, where that is one of the version's, and planar where it is absent
abbrev pub edges_or_planar : Option Json → Option Text
edges_or_planar None = Some (codes "planar")
edges_or_planar (Some j) = as_str j

abbrev pub said_edges : Version → Option Json → Option Text
said_edges version found = if is_edges_value version found then edges_or_planar found else None

-- the extension metadata of a column under an extension name that says an encoding; those under another name, or under none, say nothing
abbrev pub geo_metadata : ColumnTree → Option Text
geo_metadata c = if is_some (named_encoding (Some c)) then metadata_on c else None

-- as JSON; null where there are none
abbrev pub metadata_value : Option Text → Data
metadata_value None = own.null
metadata_value (Some s) = geo_value s

abbrev pub own_metadata : Option ColumnTree → Data
own_metadata None = own.null
own_metadata (Some c) = metadata_value (geo_metadata c)

-- a text is the edges that it names, where it is one that GeoArrow has, which version 2 has too; of another `UnknownEdges` is found, and it says nothing
abbrev pub known_edges : Text → Option Text
known_edges s = if is_edges V2 s then Some s else None

-- the edges that extension metadata say, where they are an object: the text at `edges`, and planar where there are none
abbrev pub edges_at : Option Data → Option Text
edges_at None = Some (codes "planar")
edges_at (Some own.null) = Some (codes "planar")
edges_at (Some (own.string s)) = known_edges s
edges_at (Some d) = None

abbrev pub own_edges : Data → Option Text
own_edges (own.object ms) = edges_at (get_data (codes "edges") (own.object ms))
own_edges d = None

-- the metadata of an element: those of its column, or those beside
abbrev pub claimed_metadata : Claim → Option ColumnTree → Data
claimed_metadata silent c = own.null
claimed_metadata (gives names_crs edges) c = own_metadata c
claimed_metadata (beside s edges) c = geo_value s

abbrev pub element_metadata : Option Element → Option ColumnTree → Data
element_metadata None c = own.null
element_metadata (Some e) c = claimed_metadata e.claim c

-- the edges in the metadata of an element: planar where there are none
abbrev pub edges_in : Data → Option Text
edges_in own.null = Some (codes "planar")
edges_in (own.object ms) = own_edges (own.object ms)
edges_in d = None

-- the edges that an element says, if it is of a geometry type; those of an algorithm that is not known say nothing
abbrev pub edges_if : EdgesClaim → Data → Option Text
edges_if edges.Said d = edges_in d
edges_if edges.Default d = edges_in d
edges_if edges.Broken d = None

abbrev pub claimed_edges : Claim → Data → Option Text
claimed_edges silent d = None
claimed_edges (gives names_crs said) d = edges_if said d
claimed_edges (beside s said) d = edges_if said d

abbrev pub element_edges : Option Element → Data → Option Text
element_edges None d = None
element_edges (Some e) d = claimed_edges e.claim d

-- whether they are the format's default
abbrev pub is_default : EdgesClaim → Bool
is_default edges.Said = false
is_default edges.Default = true
is_default edges.Broken = false

abbrev pub claims_default : Claim → Bool
claims_default silent = false
claims_default (gives names_crs said) = is_default said
claims_default (beside s said) = is_default said

abbrev pub are_default_edges : Option Element → Bool
are_default_edges None = false
are_default_edges (Some e) = claims_default e.claim

-- the edges that a field says: none where its column has its metadata from the element
abbrev pub edges_beside : Claim → Data → Option Text
edges_beside silent d = own_edges d
edges_beside (gives names_crs edges) d = None
edges_beside (beside s edges) d = own_edges d

abbrev pub field_edges : Option Element → Data → Option Text
field_edges None d = own_edges d
field_edges (Some e) d = edges_beside e.claim d

-- whether extension metadata have no edges, or null
abbrev pub are_absent : Option Data → Bool
are_absent None = true
are_absent (Some own.null) = true
are_absent (Some d) = false

-- which edges are the default, by the element, the metadata of the field and the value at `edges` of the member
abbrev pub default_edges : Option Element → Data → Option Json → Defaults
default_edges e field found =
    record { element = are_default_edges e; field = are_absent (get_data (codes "edges") field); geo = not (is_some found) }

-- two of the element, the field and `edges` say two
abbrev pub edges_claims_findings : Text → Option Json → Option ColumnTree → Option Element → Option Text → List Finding
edges_claims_findings key found c e said =
    text_findings EdgesContradict key (codes "edges") (default_edges e (own_metadata c) found) (element_edges e (element_metadata e c)) (field_edges e (own_metadata c)) said

abbrev pub edges_contradict_findings : Version → Text → Option ColumnTree → Option Element → Json → List Finding
edges_contradict_findings version key c e j =
    edges_claims_findings key (get (codes "edges") j) c e (said_edges version (get (codes "edges") j))
