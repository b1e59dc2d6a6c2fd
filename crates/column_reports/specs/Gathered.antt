-- What is found by each source, one behind another.
use Rattle.std.specs.Prelude.{◌&&◌, ◌||◌, Bool, true, false, List, [], ◌∷◌, ◌++◌, flat_map, map, if◌then◌else◌}
use Rattle.arrow_columns.specs.Types.{ColumnTree}
use Rattle.arrow_values.specs.Tree.{Text}
use Rattle.std.specs.List.{list_any}
use Rattle.column_files.specs.declared.form.Form.{Form}
use Rattle.column_files.specs.declared.form.Form.TheVariants.{Lines}
use Rattle.column_check.specs.declared.code.WarningCode.{WarningCode}
use Rattle.column_check.specs.declared.code.WarningCode.TheVariants.{CrsMalformed, CrsEmpty, CrsTypeContradicts, CrsWkt1, CrsWithoutType, CrsNumber, CrsNotWhole}
use Rattle.column_check.specs.declared.warning.Warning.{Warning}
use Rattle.parquet_footer.specs.declared.finding.FooterFinding.{FooterFinding}
use Rattle.parquet_columns.specs.declared.finding.FileFinding.{FileFinding}
use Rattle.parquet_columns.specs.declared.code.FileCode.{FileCode}
use Rattle.parquet_columns.specs.declared.code.FileCode.TheVariants.{NoGeoMetadata}
use Rattle.geoparquet.specs.declared.code.GeoCode.{GeoCode}
use Rattle.geoparquet.specs.declared.code.GeoCode.TheVariants.{NoMetadata}
use Rattle.geoparquet.specs.declared.finding.GeoFinding.{GeoFinding}
use Rattle.geoparquet.specs.declared.finding.GeoReport.{GeoReport}
use Rattle.geoparquet.specs.declared.finding.Version.{Version}
use Rattle.column_reports.specs.ByColumn.{by_columns, of_no_column}
use Rattle.column_reports.specs.Named.{Known, is_told}
use Rattle.column_reports.specs.declared.finding.Finding.{Finding}
use Rattle.column_reports.specs.declared.finding.Finding.TheVariants.{Column, File, Geo}
use Rattle.column_reports.specs.declared.finding.Finding.TheVariants as of
use Rattle.column_reports.specs.declared.named.NamedBy.TheVariants.{Element}

-- what is found of a column of which that is known, and is told of it
abbrev pub if_told : Known → ColumnTree → Warning → List Finding
if_told k c w = if is_told k c w then Column k.by w ∷ [] else []

-- whether a code is `CrsEmpty`, or stands behind it in the order of codes, in which it stands behind `CrsMalformed`
abbrev pub is_empty : WarningCode → Bool
is_empty CrsEmpty = true
is_empty code = false

abbrev pub is_behind : WarningCode → Bool
is_behind CrsTypeContradicts = true
is_behind CrsWkt1 = true
is_behind CrsWithoutType = true
is_behind CrsNumber = true
is_behind CrsNotWhole = true
is_behind code = false

-- what is told by itself, with a code up to `CrsMalformed`, with `CrsEmpty`, or with one behind that
abbrev pub if_before : Known → ColumnTree → Warning → List Finding
if_before k c w = if is_empty w.code || is_behind w.code then [] else if_told k c w

abbrev pub if_empty : Known → ColumnTree → Warning → List Finding
if_empty k c w = if is_empty w.code then if_told k c w else []

abbrev pub if_behind : Known → ColumnTree → Warning → List Finding
if_behind k c w = if is_behind w.code then if_told k c w else []

-- of what is found of the extension metadata that its element says beside it: that the CRS is no PROJJSON; that it is an empty text
abbrev pub is_malformed : WarningCode → Bool
is_malformed CrsMalformed = true
is_malformed code = false

abbrev pub if_malformed : Warning → List Finding
if_malformed w = if is_malformed w.code then Column Element w ∷ [] else []

abbrev pub if_empty_beside : Warning → List Finding
if_empty_beside w = if is_empty w.code then Column Element w ∷ [] else []

-- what is found of a column of which that is known, in the order of codes: of itself that, and of what its element says beside it that
abbrev pub of_column : Known → ColumnTree → List Warning → List Warning → List Finding
of_column k c own beside =
    flat_map (if_before k c) own
    ++ flat_map if_malformed beside
    ++ flat_map (if_empty k c) own
    ++ flat_map if_empty_beside beside
    ++ flat_map (if_behind k c) own

-- the code of a key in other letters, and that of missing metadata
abbrev pub is_no_geo_metadata : FileCode → Bool
is_no_geo_metadata NoGeoMetadata = true
is_no_geo_metadata code = false

abbrev pub is_no_metadata : GeoCode → Bool
is_no_metadata NoMetadata = true
is_no_metadata code = false

-- what is found of the texts of a footer, of its schemas and keys, and of GeoParquet metadata
abbrev pub of_texts : List FooterFinding → List Finding
of_texts fs = map of.Text fs

abbrev pub of_footer : List FileFinding → List Finding
of_footer fs = map File fs

-- that the metadata are missing is not said again where a key in other letters is said to be in their place
abbrev pub is_of_letters : FileFinding → Bool
is_of_letters f = is_no_geo_metadata f.code

abbrev pub if_first : Bool → Version → GeoFinding → List Finding
if_first said version f = if said && is_no_metadata f.code then [] else Geo version f ∷ []

abbrev pub of_geo : Bool → GeoReport → List Finding
of_geo said report = flat_map (if_first said report.version) report.findings.items

-- of lines nothing is told of those metadata, nor against them: of a line the report of its column says all
abbrev pub geo_told : Form → Bool → GeoReport → List Finding
geo_told Lines said report = []
geo_told form said report = of_geo said report

abbrev pub told_of_geo : Form → List FileFinding → GeoReport → List Finding
told_of_geo form found report = geo_told form (list_any is_of_letters found) report

-- what the report of each of the columns of those names tells before what is found of the column itself, and behind it
abbrev pub told_before : List Text → List FileFinding → List (List Finding)
told_before names found = by_columns names (of_footer found)

abbrev pub told_behind : Form → List Text → List FileFinding → GeoReport → List (List Finding)
told_behind form names found report = by_columns names (told_of_geo form found report)

-- what is told of the file itself
abbrev pub of_file : Form → List Text → List FooterFinding → List FileFinding → GeoReport → List Finding
of_file form names texts found report =
    of_texts texts ++ (of_no_column names (of_footer found) ++ of_no_column names (told_of_geo form found report))
