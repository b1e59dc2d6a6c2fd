use Rattle.std.proofs.Common.{◌≡◌, map}
use Rattle.parquet_columns.specs.Findings.{finding}
use Rattle.column_files.specs.InFile.{findings_in_file}
use Rattle.column_files.proofs.in_file.findings_in_file.Given as goal

abbrev pub invariant-loop-one : goal.invariant-loop-one
invariant-loop-one l = map finding l.told.items ≡ findings_in_file l.begin (map finding l.yielded)
