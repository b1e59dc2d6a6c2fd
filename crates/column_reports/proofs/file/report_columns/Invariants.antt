use Rattle.std.proofs.Common.{map}
use Rattle.column_reports.specs.FileReport.{AreReported}
use Rattle.column_reports.specs.Weights.{weighing}
use Rattle.column_reports.proofs.Reported.{viewed}
use Rattle.column_reports.proofs.file.report_columns.Given as goal

abbrev pub invariant-loop-column : goal.invariant-loop-column
invariant-loop-column l = AreReported l.infer (weighing l.weights) l.fn.about.alone (map viewed l.yielded) l.reported.items
