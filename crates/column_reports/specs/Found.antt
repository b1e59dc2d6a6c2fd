-- What is found of a column or of a file, or asked of it and not met, part by part (docs/FORMAT.md, 2.5, 2.7 and 5.1).
use Rattle.std.specs.Prelude.{ℕ, List, [], codes, map, Option, None, Some, option_map, string_bytes}
use Rattle.arrow_values.specs.Tree.{Text}
use Rattle.column_check.specs.Shown.{shown}
use Rattle.column_check.specs.WarningWords as columns
use Rattle.parquet_footer.specs.Codes as footers
use Rattle.parquet_columns.specs.Codes as files
use Rattle.geoparquet.specs.Spelled.{spelled}
use Rattle.geoparquet.specs.Words as geo
use Rattle.geoparquet.specs.declared.code.GeoCode.{GeoCode}
use Rattle.geoparquet.specs.declared.code.GeoCode.TheVariants.{NoMetadata, EncodingContradicts, CrsContradicts, CrsNotCompared}
use Rattle.geoparquet.specs.declared.fact_sources.FactSource.{FactSource}
use Rattle.geoparquet.specs.declared.fact_sources.FactSource.TheVariants as sources
use Rattle.column_reports.specs.Asked as asked
use Rattle.column_reports.specs.declared.code.Code.{Code}
use Rattle.column_reports.specs.declared.code.Code.TheVariants as codes_of
use Rattle.column_reports.specs.declared.finding.Finding.{Finding}
use Rattle.column_reports.specs.declared.finding.Finding.TheVariants as of
use Rattle.column_reports.specs.declared.named.NamedBy.{NamedBy}
use Rattle.column_reports.specs.declared.named.NamedBy.TheVariants as by

-- the code
abbrev pub code_in : Finding → Code
code_in (of.Column by w) = codes_of.Column w.code
code_in (of.Text f) = codes_of.Text f.code
code_in (of.File f) = codes_of.File f.code
code_in (of.Geo version f) = codes_of.Geo f.code
code_in (of.Asked f) = codes_of.Asked f.code

-- ---- where

-- the name of the column; a finding of a column leaves it to its report
abbrev pub column_in : Finding → Option Text
column_in (of.Column by w) = None
column_in (of.Text f) = None
column_in (of.File f) = option_map string_bytes f.column
column_in (of.Geo version f) = option_map string_bytes f.column
column_in (of.Asked f) = option_map string_bytes f.column

-- the names of the child fields from the column down
abbrev pub path_in : Finding → List Text
path_in (of.Column by w) = map string_bytes w.path.items
path_in (of.Text f) = []
path_in (of.File f) = map string_bytes f.path.items
path_in (of.Geo version f) = []
path_in (of.Asked f) = []

-- of a column, what has a pointer is in the extension metadata, or in the elements, where these are what one denotes; and anything else in its field
abbrev pub metadata_part : NamedBy → Text
metadata_part by.Element = codes "elements"
metadata_part by = codes "extension metadata"

abbrev pub column_part : NamedBy → Option Text → Text
column_part by None = codes "field"
column_part by (Some pointer) = metadata_part by

-- of a finding of GeoParquet metadata, by the source that it is found in: in these, or in the file, where it has none; in the elements; in the field,
-- or its extension metadata
abbrev pub geo_part : FactSource → GeoCode → Text
geo_part sources.Element code = codes "elements"
geo_part sources.Field EncodingContradicts = codes "field"
geo_part sources.Field code = codes "extension metadata"
geo_part sources.Geo NoMetadata = codes "file"
geo_part sources.Geo code = codes "geo"

abbrev pub own_pointer : GeoCode → Option Text
own_pointer EncodingContradicts = None
own_pointer CrsContradicts = Some (codes "/crs")
own_pointer CrsNotCompared = Some (codes "/crs")
own_pointer code = Some (codes "/edges")

abbrev pub geo_pointer : FactSource → GeoCode → Text → Option Text
geo_pointer sources.Geo NoMetadata pointer = None
geo_pointer sources.Geo code pointer = Some pointer
geo_pointer source code pointer = own_pointer code

-- the part of the file or of the column's metadata, as reports have it
abbrev pub part_in : Finding → Option Text
part_in (of.Column by w) = Some (column_part by (option_map string_bytes w.pointer))
part_in (of.Text f) = Some (footers.part_of f.code)
part_in (of.File f) = Some (files.part_text f.place.part)
part_in (of.Geo version f) = Some (geo_part f.source f.code)
part_in (of.Asked f) = Some (asked.part_of f.code)

-- the pointer into that part
abbrev pub pointer_in : Finding → Option Text
pointer_in (of.Column by w) = option_map string_bytes w.pointer
pointer_in (of.Text f) = None
pointer_in (of.File f) = None
pointer_in (of.Geo version f) = geo_pointer f.source f.code (string_bytes f.pointer)
pointer_in (of.Asked f) = None

-- the byte of that part
abbrev pub byte_in : Finding → Option ℕ
byte_in (of.Column by w) = None
byte_in (of.Text f) = Some f.text.byte
byte_in (of.File f) = f.place.byte
byte_in (of.Geo version f) = None
byte_in (of.Asked f) = None

-- ---- what

-- what stands there; bytes that are not UTF-8 with ASCII as it is, and the others in hexadecimal digits
abbrev pub found_in : Finding → Option Text
found_in (of.Column by w) = option_map string_bytes w.found
found_in (of.Text f) = Some (shown (spelled f.text.bytes.now))
found_in (of.File f) = option_map string_bytes f.found
found_in (of.Geo version f) = option_map string_bytes f.found
found_in (of.Asked f) = option_map string_bytes f.found

-- what is expected there: of a column the layout of a name, where one is wanted; else that of the code, and behind it in brackets what is
-- wanted there, if it says more
abbrev pub bracketed : Text → Option Text → Text
bracketed expected None = expected
bracketed expected (Some wanted) = geo.bracketed expected wanted

abbrev pub expected_in : Finding → Text
expected_in (of.Column by w) = columns.expected_at w.code w.wanted
expected_in (of.Text f) = footers.expected_of f.code
expected_in (of.File f) = bracketed (files.expected_of f.code) (option_map string_bytes f.wanted)
expected_in (of.Geo version f) = geo.expected_text version f.code (option_map string_bytes f.wanted)
expected_in (of.Asked f) = string_bytes f.expected

-- what helps, if there is something to say
abbrev pub help_in : Finding → Option Text
help_in (of.Column by w) = columns.help_at w.code w.wanted (option_map string_bytes w.found)
help_in (of.Text f) = Some (footers.help_of f.code)
help_in (of.File f) = Some (files.help_of f.code)
help_in (of.Geo version f) = geo.help_text version f.code (option_map string_bytes f.found)
help_in (of.Asked f) = option_map string_bytes f.help

-- how many more it stands for
abbrev pub more_in : Finding → ℕ
more_in (of.Column by w) = w.more
more_in (of.Text f) = 0
more_in (of.File f) = 0
more_in (of.Geo version f) = f.more
more_in (of.Asked f) = 0
