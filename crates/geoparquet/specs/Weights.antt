-- What findings weigh (docs/FORMAT.md, 5).
use Rattle.std.specs.Prelude.{◌||◌, not, Bool}
use Rattle.geoparquet.specs.Codes.{severity_of}
use Rattle.column_check.specs.Severities.{is_error_of, is_note_of}
use Rattle.geoparquet.specs.declared.finding.GeoFinding.{GeoFinding}

abbrev pub is_error : GeoFinding → Bool
is_error f = is_error_of (severity_of f.code)

-- a note is shown where notes are asked for, any other finding is
abbrev pub is_shown : Bool → GeoFinding → Bool
is_shown notes f = notes || not (is_note_of (severity_of f.code))
