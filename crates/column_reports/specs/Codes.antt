-- The codes of what is found (docs/FORMAT.md, 2.6, 2.7, 4.3, 4.5 and 5): the word of each, how much it weighs, when it is found, what is expected, and what helps.
use Rattle.std.specs.Prelude.{Option, Some}
use Rattle.arrow_values.specs.Tree.{Text}
use Rattle.column_check.specs.WarningWords as columns
use Rattle.column_check.specs.declared.code.Severity.{Severity}
use Rattle.column_check.specs.declared.code.Severity.TheVariants.{Error, Warning, Note}
use Rattle.parquet_footer.specs.Codes as footers
use Rattle.parquet_footer.specs.declared.code.Severity.{Severity as FooterSeverity}
use Rattle.parquet_footer.specs.declared.code.Severity.TheVariants as weighs
use Rattle.parquet_columns.specs.Codes as files
use Rattle.geoparquet.specs.Codes as geo
use Rattle.geoparquet.specs.Words as geo_words
use Rattle.geoparquet.specs.declared.finding.Version.{Version}
use Rattle.column_reports.specs.Asked as asked
use Rattle.column_reports.specs.declared.code.Code.{Code}
use Rattle.column_reports.specs.declared.code.Code.TheVariants as of

-- the word of a code
abbrev pub word_of : Code → Text
word_of (of.Column code) = columns.warning_code code
word_of (of.Text code) = footers.code_of code
word_of (of.File code) = files.code_of code
word_of (of.Geo code) = geo.code_of code
word_of (of.Asked code) = asked.word_of code

-- a severity of the footer, as those of columns are
abbrev pub as_of_columns : FooterSeverity → Severity
as_of_columns weighs.Error = Error
as_of_columns weighs.Warning = Warning
as_of_columns weighs.Note = Note

-- how much a finding of a code weighs
abbrev pub severity_of : Code → Severity
severity_of (of.Column code) = columns.severity_of code
severity_of (of.Text code) = as_of_columns (footers.severity_of code)
severity_of (of.File code) = as_of_columns (files.severity_of code)
severity_of (of.Geo code) = geo.severity_of code
severity_of (of.Asked code) = Error

-- when a code is found
abbrev pub rule_of : Code → Text
rule_of (of.Column code) = columns.warning_message code
rule_of (of.Text code) = footers.rule_of code
rule_of (of.File code) = files.rule_of code
rule_of (of.Geo code) = geo_words.rule_of code
rule_of (of.Asked code) = asked.rule_of code

-- what is expected where a code is found, in metadata of a version
abbrev pub expected_of : Version → Code → Text
expected_of version (of.Column code) = columns.warning_expected code
expected_of version (of.Text code) = footers.expected_of code
expected_of version (of.File code) = files.expected_of code
expected_of version (of.Geo code) = geo_words.expected_of version code
expected_of version (of.Asked code) = asked.expected_of code

-- what helps there, if there is something to say
abbrev pub help_of : Version → Code → Option Text
help_of version (of.Column code) = columns.warning_help code
help_of version (of.Text code) = Some (footers.help_of code)
help_of version (of.File code) = Some (files.help_of code)
help_of version (of.Geo code) = geo_words.advice_of version code
help_of version (of.Asked code) = Some (asked.help_of code)
