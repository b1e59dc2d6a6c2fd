-- Single values of a column's member, by version (docs/FORMAT.md, 5).
use Rattle.std.specs.Prelude.{◌||◌, Bool, true, false, List, Option, None, Some, codes, bytes_eq, if◌then◌else◌}
use Rattle.json.specs.Json.{Json, null, number, string, object}
use Rattle.json.specs.Find.{get}
use Rattle.arrow_values.specs.Tree.{Text}
use Rattle.geoparquet.specs.Findings.{Finding}
use Rattle.geoparquet.specs.Rules.{part_finding, unless}
use Rattle.geoparquet.specs.Versions.{is_judged}
use Rattle.geoparquet.specs.declared.code.GeoCode.{GeoCode}
use Rattle.geoparquet.specs.declared.code.GeoCode.TheVariants.{Encoding, Crs, Edges, Orientation, Epoch}
use Rattle.geoparquet.specs.declared.finding.Version.{Version}
use Rattle.geoparquet.specs.declared.finding.Version.TheVariants.{Old, V1_0, V1_1, V2}

-- what is found of the member with a name, where that does not keep a rule that is judged
abbrev pub rule_findings : (Option Json → Bool) → GeoCode → Text → Version → Text → Json → List Finding
rule_findings keeps code name version key member =
    unless (if is_judged version then keeps (get name member) else true) (part_finding code key name (get name member))

-- ---- `encoding`: a text that is one of the version's

abbrev pub is_native_encoding : Text → Bool
is_native_encoding s =
    bytes_eq s (codes "point") || bytes_eq s (codes "linestring") || bytes_eq s (codes "polygon")
    || bytes_eq s (codes "multipoint") || bytes_eq s (codes "multilinestring") || bytes_eq s (codes "multipolygon")

abbrev pub has_native : Version → Bool
has_native Old = false
has_native V1_0 = false
has_native V1_1 = true
has_native V2 = true

abbrev pub is_encoding : Version → Text → Bool
is_encoding version s = bytes_eq s (codes "WKB") || (if has_native version then is_native_encoding s else false)

-- the encoding that a value says
abbrev pub encoding_in : Version → Option Json → Option Text
encoding_in version (Some (string s)) = if is_encoding version s then Some s else None
encoding_in version _ = None

abbrev pub encoding_of : Version → Json → Option Text
encoding_of version member = encoding_in version (get (codes "encoding") member)

abbrev pub is_encoding_value : Version → Option Json → Bool
is_encoding_value version (Some (string s)) = is_encoding version s
is_encoding_value version _ = false

abbrev pub encoding_findings : Version → Text → Json → List Finding
encoding_findings version = rule_findings (is_encoding_value version) Encoding (codes "encoding") version

-- ---- `crs`: absent, null or an object

abbrev pub is_crs_value : Option Json → Bool
is_crs_value None = true
is_crs_value (Some null) = true
is_crs_value (Some (object ms)) = true
is_crs_value _ = false

abbrev pub crs_findings : Version → Text → Json → List Finding
crs_findings = rule_findings is_crs_value Crs (codes "crs")

-- ---- `edges`: absent, or a text that is one of the version's

abbrev pub has_algorithms : Version → Bool
has_algorithms Old = false
has_algorithms V1_0 = false
has_algorithms V1_1 = false
has_algorithms V2 = true

abbrev pub is_algorithm : Text → Bool
is_algorithm s =
    bytes_eq s (codes "vincenty") || bytes_eq s (codes "thomas") || bytes_eq s (codes "andoyer") || bytes_eq s (codes "karney")

abbrev pub is_edges : Version → Text → Bool
is_edges version s =
    bytes_eq s (codes "planar") || bytes_eq s (codes "spherical") || (if has_algorithms version then is_algorithm s else false)

abbrev pub is_edges_value : Version → Option Json → Bool
is_edges_value version None = true
is_edges_value version (Some (string s)) = is_edges version s
is_edges_value version _ = false

abbrev pub edges_findings : Version → Text → Json → List Finding
edges_findings version = rule_findings (is_edges_value version) Edges (codes "edges") version

-- ---- `orientation`: absent, or the one text

abbrev pub is_orientation_value : Option Json → Bool
is_orientation_value None = true
is_orientation_value (Some (string s)) = bytes_eq s (codes "counterclockwise")
is_orientation_value _ = false

abbrev pub orientation_findings : Version → Text → Json → List Finding
orientation_findings = rule_findings is_orientation_value Orientation (codes "orientation")

-- ---- `epoch`: absent, or a number

abbrev pub is_epoch_value : Option Json → Bool
is_epoch_value None = true
is_epoch_value (Some (number s)) = true
is_epoch_value _ = false

abbrev pub epoch_findings : Version → Text → Json → List Finding
epoch_findings = rule_findings is_epoch_value Epoch (codes "epoch")
