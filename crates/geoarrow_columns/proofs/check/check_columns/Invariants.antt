use Rattle.std.proofs.Common.{take}
use Rattle.geoarrow_columns.specs.Report.{IsReport}
use Rattle.geoarrow_columns.proofs.check.check_columns.Given as goal

abbrev pub invariant-loop-field : goal.invariant-loop-field
invariant-loop-field l = IsReport (take l.field-index l.fields) l.columns.items
