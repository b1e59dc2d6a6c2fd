-- What is found of what a field claims, where the report of its column tells it (docs/FORMAT.md, 2.6 and 5).
use Rattle.std.specs.Prelude.{◌≡◌, Bool, true, false, List, [], map, None, Some}
use Rattle.arrow_columns.specs.Types.{ColumnTree}
use Rattle.geoparquet.specs.Findings.{Finding as GeoFound, finding}
use Rattle.geoparquet.specs.GeoFindings.{own_findings}
use Rattle.geoparquet.specs.declared.finding.GeoFinding.{GeoFinding}
use Rattle.geoparquet.specs.declared.finding.Version.TheVariants.{V1_1}
use Rattle.column_reports.specs.declared.finding.Finding.{Finding}
use Rattle.column_reports.specs.declared.finding.Finding.TheVariants.{Geo}

-- of a column alone, of which no file tells it: that of a field without an element and a member of `columns`
abbrev pub claims_of : Bool → ColumnTree → List GeoFound
claims_of false c = []
claims_of true c = own_findings c.name (Some c) None

-- its report leaves its name to the column
abbrev pub without_name : GeoFinding → Finding
without_name f = Geo V1_1 (record { code = f.code; column = None; source = f.source; pointer = f.pointer; found = f.found; wanted = f.wanted; more = f.more })

abbrev pub AreClaims : Bool → ColumnTree → List Finding → Type 0
AreClaims alone c fs = (found : List GeoFinding) × (map finding found ≡ claims_of alone c) × (fs ≡ map without_name found)
