-- Findings that are shown, with how much each counts.
use Rattle.std.specs.Prelude.{Bool, List, [], ◌∷◌, flat_map, Option, None, Some}
use Rattle.column_check.specs.Severities.{is_error_of}
use Rattle.column_check.specs.declared.code.Severity.{Severity}
use Rattle.column_reports.specs.Codes.{word_of, severity_of}
use Rattle.column_reports.specs.Found.{code_in, more_in}
use Rattle.column_reports.specs.Weights.{Weighing, counts_as}
use Rattle.column_reports.specs.declared.finding.Finding.{Finding}
use Rattle.column_reports.specs.declared.weighed.Weighed.{Weighed}

-- a finding, if it is shown
abbrev pub if_shown : Finding → Option Severity → List Weighed
if_shown f None = []
if_shown f (Some severity) = record { severity = severity; more = more_in f; finding = f } ∷ []

abbrev pub weighed_one : Weighing → Finding → List Weighed
weighed_one w f = if_shown f (counts_as w (word_of (code_in f)) (severity_of (code_in f)))

-- those of findings that are shown, in their order
abbrev pub weighed : Weighing → List Finding → List Weighed
weighed w fs = flat_map (weighed_one w) fs

-- it counts as an error
abbrev pub is_error : Weighed → Bool
is_error f = is_error_of f.severity
