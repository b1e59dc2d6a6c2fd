-- The codes of what may be found in a footer, how much each weighs, and its words (docs/FORMAT.md, 4.3).
use Rattle.std.specs.Prelude.{ℕ, List, codes}
use Rattle.parquet_footer.specs.declared.code.Severity.{Severity}
use Rattle.parquet_footer.specs.declared.code.Severity.TheVariants.{Error, Warning, Note}
use Rattle.parquet_footer.specs.declared.code.FooterCode.{FooterCode}
use Rattle.parquet_footer.specs.declared.code.FooterCode.TheVariants.{NameNotText, KeyNotText}

abbrev pub severity_text : Severity → List ℕ
severity_text Error = codes "error"
severity_text Warning = codes "warning"
severity_text Note = codes "note"

abbrev pub code_of : FooterCode → List ℕ
code_of NameNotText = codes "NameNotText"
code_of KeyNotText = codes "KeyNotText"

abbrev pub severity_of : FooterCode → Severity
severity_of NameNotText = Error
severity_of KeyNotText = Note

-- the part of a file in which it is found
abbrev pub part_of : FooterCode → List ℕ
part_of NameNotText = codes "elements"
part_of KeyNotText = codes "footer"

-- when a code is found
abbrev pub rule_of : FooterCode → List ℕ
rule_of NameNotText = codes "the name of an element is not UTF-8"
rule_of KeyNotText = codes "a key, or the value of a key that is not used here, is not UTF-8"

-- what is expected where a code is found
abbrev pub expected_of : FooterCode → List ℕ
expected_of NameNotText = codes "UTF-8"
expected_of KeyNotText = codes "UTF-8"

-- what helps
abbrev pub help_of : FooterCode → List ℕ
help_of NameNotText = codes "The name is shown with U+FFFD for what is not UTF-8, and no key names the column."
help_of KeyNotText = codes "It is passed over."
