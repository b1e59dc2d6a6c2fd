-- What is said of a code for people: when it is found, what is expected there, and what helps.
use Rattle.std.specs.Prelude.{Bool, false, ◌==◌, List, [], ◌∷◌, ◌++◌, bytes_eq, codes, length, nat_lt, Option, None, Some, if◌then◌else◌}
use Rattle.arrow_values.specs.Tree.{Text}
use Rattle.geoparquet.specs.Nearest.{nearest}
use Rattle.geoparquet.specs.declared.code.GeoCode.{GeoCode}
use Rattle.geoparquet.specs.declared.code.GeoCode.TheVariants.{NoMetadata, NotJson, NotObject, RepeatedKey, Version, OldVersion, NewVersion, Columns, ColumnMissing, ColumnRepeated, Member, ColumnUndeclared, PrimaryColumn, Encoding, Layout, Types, TypesVersion, TypesContradict, Crs, CrsMalformed, Edges, Orientation, Epoch, Bbox, BboxOrder, BboxRange, BboxDimension, Covering, CoveringName, CoveringColumn, CoveringType, CoveringShape, CoveringAbsent, EncodingContradicts, CrsContradicts, CrsNotCompared, EdgesContradict, EdgesOnProjected}
use Rattle.geoparquet.specs.declared.finding.Version.{Version as GeoVersion}
use Rattle.geoparquet.specs.declared.finding.Version.TheVariants as versions

-- when a code is found
abbrev pub rule_of : GeoCode → Text
rule_of NoMetadata = codes "the file has columns of geometries, and no value at the key geo"
rule_of NotJson = codes "the value of geo is absent, no UTF-8, or no JSON within 127 levels"
rule_of NotObject = codes "the value of geo is JSON, and no object"
rule_of RepeatedKey = codes "a key stands several times in an object"
rule_of Version = codes "version is absent, no text, or no version of the format"
rule_of OldVersion = codes "the version is before 1.0.0"
rule_of NewVersion = codes "the version is a pre-release, or after 1.1.0"
rule_of Columns = codes "columns is absent, no object, or without a member"
rule_of ColumnMissing = codes "a key of columns is the name of no column"
rule_of ColumnRepeated = codes "a key of columns is the name of several columns"
rule_of Member = codes "a member of columns is no object"
rule_of ColumnUndeclared = codes "a column holds geometries, and has no member of columns"
rule_of PrimaryColumn = codes "primary_column is absent, no text, or no key of columns"
rule_of Encoding = codes "encoding is absent, no text, or no encoding of the version"
rule_of Layout = codes "the column is not laid out as its encoding asks"
rule_of Types = codes "geometry_types is absent or no array, or an item is no text, no name of a type, or there twice"
rule_of TypesVersion = codes "a type has a dimension that the version does not have"
rule_of TypesContradict = codes "a type does not go with the layout of the column"
rule_of Crs = codes "crs is neither absent, null nor an object"
rule_of CrsMalformed = codes "an object at crs is no PROJJSON"
rule_of Edges = codes "edges is no text, or none of the version's"
rule_of Orientation = codes "orientation is neither absent nor counterclockwise"
rule_of Epoch = codes "epoch is neither absent nor a number"
rule_of Bbox = codes "bbox is neither absent nor an array of as many finite numbers as the version takes"
rule_of BboxOrder = codes "a least bound of bbox is greater than the greatest"
rule_of BboxRange = codes "a longitude or a latitude of bbox is out of range"
rule_of BboxDimension = codes "bbox has another dimension than the geometry types"
rule_of Covering = codes "covering is no object, or lacks a part, or a path in it is no array of two texts"
rule_of CoveringName = codes "a path of a covering ends in another name than its bound's"
rule_of CoveringColumn = codes "a path of a covering leads to no child of one group"
rule_of CoveringType = codes "a path of a covering leads to another type than floats, or than the other paths"
rule_of CoveringShape = codes "the group of a covering has other children, or another repetition"
rule_of CoveringAbsent = codes "a group has the children of a covering, and no covering names it"
rule_of EncodingContradicts = codes "two of the element, the field and geo say two encodings"
rule_of CrsContradicts = codes "two of the element, the field and geo say two CRSs"
rule_of CrsNotCompared = codes "two of the element, the field and geo say CRSs that nothing tells to be one or two"
rule_of EdgesContradict = codes "two of the element, the field and geo say two kinds of edges"
rule_of EdgesOnProjected = codes "the edges are not planar, and the CRS is projected"

-- what is expected where a code is found, by the version
abbrev pub encodings_text : GeoVersion → Text
encodings_text versions.Old = codes "WKB"
encodings_text versions.V1_0 = codes "WKB"
encodings_text version = codes "WKB, point, linestring, polygon, multipoint, multilinestring or multipolygon"

abbrev pub types_text : GeoVersion → Text
types_text versions.V2 = codes "Point, LineString, Polygon, MultiPoint, MultiLineString, MultiPolygon or GeometryCollection, alone or with \" Z\", \" M\" or \" ZM\", each at most once"
types_text version = codes "Point, LineString, Polygon, MultiPoint, MultiLineString, MultiPolygon or GeometryCollection, alone or with \" Z\", each at most once"

abbrev pub edges_text : GeoVersion → Text
edges_text versions.V2 = codes "planar, spherical, vincenty, thomas, andoyer or karney"
edges_text version = codes "planar or spherical"

abbrev pub bbox_text : GeoVersion → Text
bbox_text versions.V2 = codes "4, 6 or 8 finite numbers"
bbox_text version = codes "4 or 6 finite numbers"

abbrev pub expected_of : GeoVersion → GeoCode → Text
expected_of version NoMetadata = codes "metadata of GeoParquet at the key geo"
expected_of version NotJson = codes "JSON"
expected_of version NotObject = codes "an object"
expected_of version RepeatedKey = codes "one value of the key"
expected_of version Version = codes "1.1.0"
expected_of version OldVersion = codes "1.1.0"
expected_of version NewVersion = codes "1.0.0 or 1.1.0"
expected_of version Columns = codes "an object with a member for each column of geometries"
expected_of version ColumnMissing = codes "the name of a column"
expected_of version ColumnRepeated = codes "the name of one column"
expected_of version Member = codes "an object"
expected_of version ColumnUndeclared = codes "a member for the column"
expected_of version PrimaryColumn = codes "a key of columns"
expected_of version Encoding = encodings_text version
expected_of version Layout = codes "the layout of the encoding"
expected_of version Types = types_text version
expected_of version TypesVersion = codes "the name alone or with \" Z\""
expected_of version TypesContradict = codes "types that the layout of the column holds"
expected_of version Crs = codes "PROJJSON or null"
expected_of version CrsMalformed = codes "PROJJSON"
expected_of version Edges = edges_text version
expected_of version Orientation = codes "counterclockwise"
expected_of version Epoch = codes "a number"
expected_of version Bbox = bbox_text version
expected_of version BboxOrder = codes "at most the greatest bound"
expected_of version BboxRange = codes "a number within the limit"
expected_of version BboxDimension = codes "as many numbers as the geometry types ask for"
expected_of version Covering = codes "an object with bbox, which has paths of two texts at xmin, ymin, xmax and ymax, and at zmin and zmax both or neither"
expected_of version CoveringName = codes "the name of the bound"
expected_of version CoveringColumn = codes "the name of one group, the same in all paths, and that of a field in it"
expected_of version CoveringType = codes "float or double, the same for all bounds"
expected_of version CoveringShape = codes "a group of the bounds alone, there as often as the geometry"
expected_of version CoveringAbsent = codes "a covering that names the group"
expected_of version EncodingContradicts = codes "the encoding of the other source"
expected_of version CrsContradicts = codes "the CRS of the other source"
expected_of version CrsNotCompared = codes "the CRS of the other source"
expected_of version EdgesContradict = codes "the edges of the other source"
expected_of version EdgesOnProjected = codes "planar edges, or a CRS that is not projected"

-- what helps where a code is found, by the version
abbrev pub judged_text : GeoVersion → Text
judged_text versions.Old = codes "The rules of versions before 1.0.0 are used."
judged_text versions.V1_0 = codes "The rules of 1.0.0 are used."
judged_text versions.V1_1 = codes "The rules of 1.1.0 are used."
judged_text versions.V2 = codes "The rules of version 2 are used, as far as they are known."

-- of a member of `columns`
abbrev pub member_advice : GeoCode → Option Text
member_advice Encoding = Some (codes "The name has no geoarrow. before it.")
member_advice TypesVersion = Some (codes "Types with measures come with version 2.")
member_advice Crs = Some (codes "projinfo -o PROJJSON CODE prints one, where CODE is as EPSG:4326.")
member_advice Orientation = Some (codes "Leave it out if rings go either way.")
member_advice Epoch = Some (codes "A number has no quotes.")
member_advice BboxOrder = Some (codes "Only a box of a geographic CRS has an xmin above its xmax, where it crosses the antimeridian.")
member_advice CoveringName = Some (codes "Where bounds are exchanged, filters by this covering drop rows.")
member_advice CoveringAbsent = Some (codes "Add \"covering\":{\"bbox\":{\"xmin\":[NAME,\"xmin\"],\"ymin\":[NAME,\"ymin\"],\"xmax\":[NAME,\"xmax\"],\"ymax\":[NAME,\"ymax\"]}}, where NAME is the name found.")
member_advice CrsContradicts = Some (codes "That of the element counts first, then that of geo, then that of the field; a default counts last.")
member_advice EdgesContradict = Some (codes "Those of the element count first, then those of geo, then those of the field; a default counts last.")
member_advice code = None

abbrev pub advice_of : GeoVersion → GeoCode → Option Text
advice_of version NotJson = Some (codes "JSON has no NaN, no Infinity and no byte order mark; leave out a bbox that is not finite.")
advice_of version RepeatedKey = Some (codes "The last counts here; other readers take the first.")
advice_of version Version = Some (judged_text version)
advice_of version OldVersion = Some (codes "Versions before 1.0.0 are judged in part; write the metadata anew.")
advice_of version NewVersion = Some (judged_text version)
advice_of version ColumnUndeclared = Some (codes "Readers of GeoParquet do not see the column.")
advice_of version code = member_advice code

-- the names that are expected where a code is found, each as JSON
abbrev pub encoding_names : GeoVersion → List Text
encoding_names versions.Old = codes "\"WKB\"" ∷ []
encoding_names versions.V1_0 = codes "\"WKB\"" ∷ []
encoding_names version = codes "\"WKB\"" ∷ codes "\"point\"" ∷ codes "\"linestring\"" ∷ codes "\"polygon\"" ∷ codes "\"multipoint\"" ∷ codes "\"multilinestring\"" ∷ codes "\"multipolygon\"" ∷ []

abbrev pub type_names : List Text
type_names = codes "\"Point\"" ∷ codes "\"LineString\"" ∷ codes "\"Polygon\"" ∷ codes "\"MultiPoint\"" ∷ codes "\"MultiLineString\"" ∷ codes "\"MultiPolygon\"" ∷ codes "\"GeometryCollection\"" ∷ codes "\"Point Z\"" ∷ codes "\"LineString Z\"" ∷ codes "\"Polygon Z\"" ∷ codes "\"MultiPoint Z\"" ∷ codes "\"MultiLineString Z\"" ∷ codes "\"MultiPolygon Z\"" ∷ codes "\"GeometryCollection Z\"" ∷ []

abbrev pub edges_names : GeoVersion → List Text
edges_names versions.V2 = codes "\"planar\"" ∷ codes "\"spherical\"" ∷ codes "\"vincenty\"" ∷ codes "\"thomas\"" ∷ codes "\"andoyer\"" ∷ codes "\"karney\"" ∷ []
edges_names version = codes "\"planar\"" ∷ codes "\"spherical\"" ∷ []

abbrev pub crs_names : List Text
crs_names = codes "\"GeographicCRS\"" ∷ codes "\"ProjectedCRS\"" ∷ codes "\"CompoundCRS\"" ∷ codes "\"BoundCRS\"" ∷ codes "\"GeodeticCRS\"" ∷ codes "\"VerticalCRS\"" ∷ codes "\"EngineeringCRS\"" ∷ codes "\"ParametricCRS\"" ∷ codes "\"TemporalCRS\"" ∷ []

abbrev pub names_of : GeoVersion → GeoCode → List Text
names_of version Encoding = encoding_names version
names_of version Types = type_names
names_of version Edges = edges_names version
names_of version Orientation = codes "\"counterclockwise\"" ∷ []
names_of version CrsMalformed = crs_names
names_of version _ = []

-- ---- of a finding

-- what is expected, with what the rule wants there
abbrev pub bracketed : Text → Text → Text
bracketed text wanted = text ++ (codes " (" ++ (wanted ++ codes ")"))

abbrev pub expected_text : GeoVersion → GeoCode → Option Text → Text
expected_text version code None = expected_of version code
expected_text version code (Some wanted) = bracketed (expected_of version code) wanted

-- what helps: a name that is like what is found, if there is one
abbrev pub meant : Text → Text
meant name = codes "Did you mean " ++ (name ++ codes "?")

abbrev pub helping : Option Text → Option Text → Option Text
helping (Some name) advice = Some (meant name)
helping None advice = advice

abbrev pub near_name : GeoVersion → GeoCode → Option Text → Option Text
near_name version code None = None
near_name version code (Some found) = nearest found (names_of version code)

-- the covering to add, by the name of its group as JSON
abbrev pub covering_added : Text → Text
covering_added name = codes "Add \"covering\":{\"bbox\":{\"xmin\":[" ++ (name ++ (codes ",\"xmin\"],\"ymin\":[" ++ (name ++ (codes ",\"ymin\"],\"xmax\":[" ++ (name ++ (codes ",\"xmax\"],\"ymax\":[" ++ (name ++ codes ",\"ymax\"]}}.")))))))

-- a name of at most 120 bytes stands whole in what is found
abbrev pub covering_advice : Text → Option Text
covering_advice found = if nat_lt 120 (length found) then member_advice CoveringAbsent else Some (covering_added found)

-- the bounds of x alone may cross the antimeridian
abbrev pub is_of_x : Text → Bool
is_of_x [] = false
is_of_x (b ∷ rest) = b == 120

abbrev pub order_advice : Text → Option Text
order_advice found = if is_of_x found then member_advice BboxOrder else None

-- the key that stands in place of `geometry_types`
abbrev pub types_advice : Text → Option Text
types_advice found = if bytes_eq found (codes "geometry_type") then Some (codes "The member has geometry_type, the name of 0.4.") else None

-- what helps by what is found
abbrev pub found_advice : GeoVersion → GeoCode → Text → Option Text
found_advice version BboxOrder found = order_advice found
found_advice version CoveringAbsent found = covering_advice found
found_advice version Types found = types_advice found
found_advice version code found = advice_of version code

abbrev pub advice_beside : GeoVersion → GeoCode → Option Text → Option Text
advice_beside version code None = advice_of version code
advice_beside version code (Some found) = found_advice version code found

abbrev pub help_text : GeoVersion → GeoCode → Option Text → Option Text
help_text version code found = helping (near_name version code found) (advice_beside version code found)
