-- What is asked of files.
use Rattle.std.specs.Prelude.{◌≡◌, Bool, true, false, if◌then◌else◌}
use Rattle.arrow_columns.specs.Types.{ColumnTree}
use Rattle.canonical_columns.specs.Canonical.{IsCanonical}
use Rattle.file_check.specs.declared.asked.Flags.{Flags}
use Rattle.file_check.specs.declared.asked.Format.{Format}
use Rattle.file_check.specs.declared.asked.Format.TheVariants as formats
use Rattle.file_check.specs.declared.asked.Output.{Output}
use Rattle.file_check.specs.declared.asked.Output.TheVariants.{Errors, Table, Json, Github, Sarif, Lines, Ipc}

-- what is printed of columns in a format, where only errors are asked for or more
abbrev pub of_format : Format → Bool → Output
of_format formats.Text quiet = if quiet then Errors else Table
of_format formats.Json quiet = Json
of_format formats.Github quiet = Github
of_format formats.Sarif quiet = Sarif

-- what is printed of columns: of several the first of these; else what the format has
abbrev pub output_of : Flags → Output
output_of f = if f.lines then Lines else (if f.ipc then Ipc else of_format f.format f.quiet)

-- a column as it is printed as a line or in a stream: in normal form, where that is asked for and it holds geometries by its name
abbrev pub IsAsAsked : Bool → ColumnTree → ColumnTree → Type 0
IsAsAsked true c printed = IsCanonical c printed
IsAsAsked false c printed = printed ≡ c
