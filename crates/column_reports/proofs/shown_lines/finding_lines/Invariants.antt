use Rattle.std.proofs.Common.{◌≡◌, take, string_bytes}
use Rattle.arrow_values.specs.Texts.{text_of}
use Rattle.column_reports.specs.FindingLines.{findings_text}
use Rattle.column_reports.proofs.shown_lines.finding_lines.Given as goal

abbrev pub invariant-loop-finding : goal.invariant-loop-finding
invariant-loop-finding l = string_bytes l.text ≡ findings_text (text_of l.file) (take l.finding-index l.findings)
