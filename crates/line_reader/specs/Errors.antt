-- How a read fails.
use Rattle.std.specs.Prelude.{◌≢◌, ⊤}
use Rattle.std.specs.IoError.{error_kind}
use Rattle.std.specs.declared.io.ErrorKind.TheVariants.{Interrupted}
use Rattle.line_reader.specs.declared.error.LineError.{LineError}
use Rattle.line_reader.specs.declared.error.LineError.TheVariants.{Input, LongLine}

-- the source failed; or out of memory
abbrev pub IsReadError : LineError → Type 0
IsReadError (LongLine n) = ⊥
IsReadError error = ⊤

-- no signal made the source fail
abbrev pub IsNoSignal : LineError → Type 0
IsNoSignal (Input error) = error_kind error ≢ Interrupted
IsNoSignal error = ⊤
