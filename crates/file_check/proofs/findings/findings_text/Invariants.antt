use Rattle.std.proofs.Common.{◌≡◌, take, string_bytes}
use Rattle.file_check.specs.Findings.{findings_text}
use Rattle.file_check.proofs.findings.findings_text.Given as goal

abbrev pub invariant-loop-finding : goal.invariant-loop-finding
invariant-loop-finding l = string_bytes l.text ≡ findings_text (take l.finding-index l.findings)
