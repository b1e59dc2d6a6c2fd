use Rattle.std.proofs.Common.{◌≡◌, take, string_bytes}
use Rattle.arrow_values.specs.Texts.{text_of}
use Rattle.column_reports.specs.Faults.{bad_texts}
use Rattle.column_reports.proofs.bad_lines.lines_of.Given as goal

abbrev pub invariant-loop-line : goal.invariant-loop-line
invariant-loop-line l = string_bytes l.text ≡ bad_texts (text_of l.file) l.more (take l.line-index l.bad)
