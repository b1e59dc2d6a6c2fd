-- The rules of the footer of a Parquet file (docs/FORMAT.md, 4.3): what is wrong where one is broken, and what it asks.
use Rattle.std.specs.Prelude.{codes, ℕ, List}
use Rattle.parquet_footer.specs.declared.fault.FooterRule.{FooterRule}
use Rattle.parquet_footer.specs.declared.fault.FooterRule.TheVariants as rules
use Rattle.parquet_footer.specs.declared.fault.FooterError.{FooterError}
use Rattle.parquet_footer.specs.declared.fault.FooterError.TheVariants as errors

-- what is wrong where a rule is broken
abbrev pub rule_message : FooterRule → List ℕ
rule_message rules.End = codes "a value ends past the footer"
rule_message rules.Number = codes "a number is too large or too long"
rule_message rules.Negative = codes "a number is negative"
rule_message rules.Length = codes "a length is greater than the bytes that are left"
rule_message rules.WireType = codes "a field has another type"
rule_message rules.Depth = codes "nested too deep"
rule_message rules.FieldId = codes "the id of a field is too large"
rule_message rules.Repeated = codes "a field stands twice"
rule_message rules.Missing = codes "a field is missing"
rule_message rules.Union = codes "a union has several fields"
rule_message rules.Utf8 = codes "a text is not UTF-8"

-- what a rule asks
abbrev pub rule_wanted : FooterRule → List ℕ
rule_wanted rules.End = codes "values that end within the footer"
rule_wanted rules.Number = codes "a number below 2^32 in at most 5 bytes, or 10 where it is passed over"
rule_wanted rules.Negative = codes "a number from 0 on"
rule_wanted rules.Length = codes "a length of at most the bytes that are left"
rule_wanted rules.WireType = codes "a type of the protocol, and of a field that is read that of the format"
rule_wanted rules.Depth = codes "at most 64 levels"
rule_wanted rules.FieldId = codes "an id of at most 32767"
rule_wanted rules.Repeated = codes "each field once"
rule_wanted rules.Missing = codes "each required field"
rule_wanted rules.Union = codes "a union of one field"
rule_wanted rules.Utf8 = codes "UTF-8"

-- why a footer is not read: what is wrong, and what is asked
abbrev pub error_message : FooterError → List ℕ
error_message errors.NotParquet = codes "another end"
error_message errors.Encrypted = codes "PARE"
error_message (errors.Invalid rule at) = rule_message rule
error_message errors.Memory = codes "out of memory"

abbrev pub error_wanted : FooterError → List ℕ
error_wanted errors.NotParquet = codes "PAR1 at the end"
error_wanted errors.Encrypted = codes "PAR1"
error_wanted (errors.Invalid rule at) = rule_wanted rule
error_wanted errors.Memory = codes "more memory"
