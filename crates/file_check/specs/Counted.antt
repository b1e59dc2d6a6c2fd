-- What counts of a file for the status.
use Rattle.std.specs.Prelude.{◌||◌, ◌&&◌, not, Bool, ℕ}
use Rattle.std.specs.List.{list_any}
use Rattle.column_reports.specs.Summary.{status}
use Rattle.file_check.specs.Wants.{is_unmet}
use Rattle.file_check.specs.declared.asked.Flags.{Flags}
use Rattle.file_check.specs.declared.counted.Counted.{Counted}

-- what is asked of the file is not met: an expectation, or that it has geometries
abbrev pub misses : Flags → Counted → Bool
misses f c = list_any is_unmet c.found.items || (f.require_geometry && not c.summary.has_geometry)

-- the status of a file, by what counts of it
abbrev pub status_of : Flags → Counted → ℕ
status_of f c = status c.summary (misses f c)
