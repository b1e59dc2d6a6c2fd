-- The rules of the schema of a Parquet file (docs/FORMAT.md, 4.4): what is wrong where one is broken, and what it asks.
use Rattle.std.specs.Prelude.{codes}
use Rattle.arrow_values.specs.Tree.{Text}
use Rattle.parquet_columns.specs.declared.fault.SchemaRule.{SchemaRule}
use Rattle.parquet_columns.specs.declared.fault.SchemaRule.TheVariants as rules
use Rattle.parquet_columns.specs.Budget.{too_large, within_budget}
use Rattle.parquet_columns.specs.declared.error.SchemaError.{SchemaError}
use Rattle.parquet_columns.specs.declared.error.SchemaError.TheVariants as errors
use Rattle.parquet_footer.specs.Rules as footer

-- what is wrong where a rule is broken
abbrev pub rule_message : SchemaRule → Text
rule_message rules.Root = codes "no root"
rule_message rules.Children = codes "a wrong number of children"
rule_message rules.Element = codes "an element that is neither a leaf nor a group"
rule_message rules.Physical = codes "a physical type that is not known"
rule_message rules.Repetition = codes "an element without a repetition"
rule_message rules.Length = codes "a fixed length that is not there or negative"
rule_message rules.Digits = codes "a precision or a scale out of range"
rule_message rules.List = codes "a list without one repeated element"
rule_message rules.Map = codes "a map without one repeated group"
rule_message rules.Depth = codes "nested too deep"

-- what a rule asks
abbrev pub rule_wanted : SchemaRule → Text
rule_wanted rules.Root = codes "a group"
rule_wanted rules.Children = codes "as many elements as there are children"
rule_wanted rules.Element = codes "a physical type, or a number of children"
rule_wanted rules.Physical = codes "a type from 0 to 7"
rule_wanted rules.Repetition = codes "required, optional or repeated"
rule_wanted rules.Length = codes "a length from 0 on"
rule_wanted rules.Digits = codes "a precision from 1 to 76, and a scale from 0 to the precision"
rule_wanted rules.List = codes "one repeated element"
rule_wanted rules.Map = codes "one repeated group"
rule_wanted rules.Depth = codes "at most 64 levels"

-- why a file has no columns: what is wrong, and what is asked
abbrev pub error_message : SchemaError → Text
error_message (errors.Footer error) = footer.error_message error
error_message errors.Length = codes "a footer of no bytes, or of more than stand before its size"
error_message (errors.Elements fault) = rule_message fault.rule
error_message errors.Budget = too_large
error_message errors.OutOfMemory = codes "out of memory"

abbrev pub error_wanted : SchemaError → Text
error_wanted (errors.Footer error) = footer.error_wanted error
error_wanted errors.Length = codes "a footer before its size"
error_wanted (errors.Elements fault) = rule_wanted fault.rule
error_wanted errors.Budget = within_budget
error_wanted errors.OutOfMemory = codes "more memory"
