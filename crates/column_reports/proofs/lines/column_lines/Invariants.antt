use Rattle.std.proofs.Common.{◌≡◌, ◌≤◌, length, string_bytes}
use Rattle.arrow_values.specs.Texts.{text_of}
use Rattle.column_reports.proofs.Reported.{ColumnsFrom}
use Rattle.column_reports.proofs.lines.column_lines.Given as goal

abbrev pub invariant-loop-said : goal.invariant-loop-said
invariant-loop-said l = ColumnsFrom (text_of l.file) l.columns l.said-index (string_bytes l.text) × (l.index ≡ l.said-index) × (length (string_bytes l.text) ≤ l.limit)
