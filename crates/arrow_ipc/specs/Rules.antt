-- The rules of Arrow's IPC format (docs/FORMAT.md, 3): what is wrong where one is broken, and what it asks.
use Rattle.std.specs.Prelude.{codes}
use Rattle.arrow_values.specs.Tree.{Text}
use Rattle.arrow_ipc.specs.declared.fault.IpcRule.{IpcRule}
use Rattle.arrow_ipc.specs.declared.fault.IpcRule.TheVariants as rules
use Rattle.arrow_ipc.specs.declared.fault.IpcError.{IpcError}
use Rattle.arrow_ipc.specs.declared.fault.IpcError.TheVariants as errors
use Rattle.arrow_ipc.specs.declared.write.WriteError.{WriteError}
use Rattle.arrow_ipc.specs.declared.write.WriteError.TheVariants as writes

-- what is wrong where a rule is broken
abbrev pub rule_message : IpcRule → Text
rule_message rules.Magic = codes "another end"
rule_message rules.FooterSize = codes "a footer of no bytes, or of more than stand before its size"
rule_message rules.Cut = codes "a message that is cut off"
rule_message rules.EndOfStream = codes "the end of the stream"
rule_message rules.Number = codes "no aligned number before the end"
rule_message rules.Offset = codes "an offset that leads nowhere"
rule_message rules.Vtable = codes "a table without a vtable"
rule_message rules.Slot = codes "a slot past the end"
rule_message rules.Text = codes "a text without its end"
rule_message rules.Utf8 = codes "a text that is not UTF-8"
rule_message rules.Vector = codes "a vector past the end"
rule_message rules.Missing = codes "a table without a slot that it must have"
rule_message rules.Message = codes "a message that is no schema"
rule_message rules.Tag = codes "an unknown type"
rule_message rules.Parameter = codes "a type with an unknown width, unit or size"
rule_message rules.Children = codes "a type with a wrong number of children"
rule_message rules.TypeIds = codes "a union with wrong type ids"
rule_message rules.Depth = codes "columns that are nested too deep"

-- what a rule asks
abbrev pub rule_wanted : IpcRule → Text
rule_wanted rules.Magic = codes "ARROW1 at the end"
rule_wanted rules.FooterSize = codes "a footer before its size"
rule_wanted rules.Cut = codes "as many bytes as its size says"
rule_wanted rules.EndOfStream = codes "a schema"
rule_wanted rules.Number = codes "a number at a multiple of its size, before the end"
rule_wanted rules.Offset = codes "an offset that is not 0 and leads no further than the end"
rule_wanted rules.Vtable = codes "a vtable of an even size, before the end"
rule_wanted rules.Slot = codes "a slot before the end"
rule_wanted rules.Text = codes "a text before the end, with a byte 0 behind it"
rule_wanted rules.Utf8 = codes "UTF-8"
rule_wanted rules.Vector = codes "a vector before the end"
rule_wanted rules.Missing = codes "each slot that the table must have"
rule_wanted rules.Message = codes "a schema of version 4 or 5, without a body"
rule_wanted rules.Tag = codes "a type of Schema.fbs, 1 to 26"
rule_wanted rules.Parameter = codes "a width, unit or size that the type can have"
rule_wanted rules.Children = codes "as many children as the type must have"
rule_wanted rules.TypeIds = codes "type ids from 0 to 127, each once, as many as children"
rule_wanted rules.Depth = codes "at most 61 levels"

-- why no schema is read: what is wrong, and what is asked
abbrev pub error_message : IpcError → Text
error_message (errors.Broken fault) = rule_message fault.rule
error_message (errors.Budget at) = codes "more to be read than eight times the bytes"
error_message errors.OutOfMemory = codes "out of memory"

abbrev pub error_wanted : IpcError → Text
error_wanted (errors.Broken fault) = rule_wanted fault.rule
error_wanted (errors.Budget at) = codes "at most eight times the bytes"
error_wanted errors.OutOfMemory = codes "more memory"

-- the code of why no schema is written, what is wrong, and what is asked
abbrev pub write_code : WriteError → Text
write_code (writes.Column i) = codes "ColumnType"
write_code writes.TooLarge = codes "SchemaTooLarge"
write_code writes.OutOfMemory = codes "OutOfMemory"

abbrev pub write_message : WriteError → Text
write_message (writes.Column i) = codes "a type that no message can hold"
write_message writes.TooLarge = codes "a schema of 2^31 bytes or more"
write_message writes.OutOfMemory = codes "out of memory"

abbrev pub write_wanted : WriteError → Text
write_wanted (writes.Column i) = codes "a type of Schema.fbs, nested at most 61 levels deep"
write_wanted writes.TooLarge = codes "fewer than 2^31 bytes"
write_wanted writes.OutOfMemory = codes "more memory"
