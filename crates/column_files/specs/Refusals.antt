-- Why a file is refused, as every way in says it (docs/FORMAT.md, 2.8): the code, the place, what is found, what is expected and what helps.
use Rattle.std.specs.Prelude.{ℕ, ◌+◌, min, Option, None, Some, codes, string_bytes}
use Rattle.arrow_values.specs.Tree.{Text}
use Rattle.arrow_values.specs.Texts.{text_of}
use Rattle.arrow_ipc.specs.Rules as ipc
use Rattle.arrow_ipc.specs.declared.fault.IpcError.{IpcError}
use Rattle.arrow_ipc.specs.declared.fault.IpcError.TheVariants as messages
use Rattle.arrow_ipc.specs.declared.fault.IpcRule.{IpcRule}
use Rattle.arrow_ipc.specs.declared.fault.IpcRule.TheVariants as rules
use Rattle.arrow_ipc.specs.declared.write.WriteError.{WriteError}
use Rattle.arrow_ipc.specs.declared.write.WriteError.TheVariants as writes
use Rattle.parquet_columns.specs.Budget.{too_large, within_budget}
use Rattle.parquet_columns.specs.Rules as parquet
use Rattle.parquet_footer.specs.Rules as footer
use Rattle.column_files.specs.Foreigns.{format_name, format_help}
use Rattle.column_files.specs.LineFaults.{later_fault}
use Rattle.column_files.specs.declared.bad_lines.BadLine.{BadLine}
use Rattle.column_files.specs.declared.columns.FileFault.{FileFault}
use Rattle.column_files.specs.declared.columns.FileFault.TheVariants.{NoField, Empty, Foreign, End, ReportTooLarge, Ipc, Footer, Tree, OutOfMemory}
use Rattle.column_files.specs.declared.ending.EndRule.{EndRule}
use Rattle.column_files.specs.declared.ending.EndRule.TheVariants as ends
use Rattle.column_files.specs.declared.form.Form.{Form}
use Rattle.column_files.specs.declared.form.Form.TheVariants.{ArrowStream}
use Rattle.column_files.specs.declared.line.LineFault.{LineFault}
use Rattle.column_files.specs.declared.line.LineFault.TheVariants as lines
use Rattle.column_files.specs.declared.refusal.Fault.{Fault}
use Rattle.column_files.specs.declared.refusal.Place.{Place}
use Rattle.column_files.specs.declared.refusal.Place.TheVariants.{File, Line, LineByte, Byte, FooterByte, Elements, Column}

-- ---- codes

abbrev pub line_code : LineFault → Text
line_code (lines.GeoJson named) = codes "ForeignFormat"
line_code fault = codes "BadLine"

abbrev pub end_code : EndRule → Text
end_code ends.Truncated = codes "Truncated"
end_code ends.FooterLength = codes "FooterLength"
end_code ends.Encrypted = codes "Encrypted"

-- a stream begins with a schema
abbrev pub rule_code : Form → IpcRule → Text
rule_code form rules.EndOfStream = codes "NoSchema"
rule_code ArrowStream rules.Message = codes "NoSchema"
rule_code form rule = codes "BadMessage"

abbrev pub ipc_code : Form → IpcError → Text
ipc_code form (messages.Broken fault) = rule_code form fault.rule
ipc_code form (messages.Budget at) = codes "BadMessage"
ipc_code form messages.OutOfMemory = codes "OutOfMemory"

abbrev pub fault_code : Form → FileFault → Text
fault_code form (NoField before fault) = line_code fault
fault_code form Empty = codes "EmptyFile"
fault_code form (Foreign foreign found) = codes "ForeignFormat"
fault_code form (End fault) = end_code fault.rule
fault_code form ReportTooLarge = codes "ReportTooLarge"
fault_code form (Ipc error) = ipc_code form error
fault_code form (Footer rule at) = codes "BadFooter"
fault_code form (Tree rule at) = codes "BadTree"
fault_code form OutOfMemory = codes "OutOfMemory"

-- ---- what is found

abbrev pub line_found : LineFault → Text
line_found (lines.NotUtf8 before) = codes "bytes that are not UTF-8"
line_found lines.NotObject = codes "JSON that is no object"
line_found (lines.GeoJson named) = codes "GeoJSON"
line_found lines.Name = codes "no string at \"name\""
line_found lines.Nullable = codes "neither true nor false at \"nullable\""
line_found lines.Metadata = codes "no object of strings at \"metadata\""
line_found lines.TypeUnknown = codes "an unknown type at \"type\""
line_found fault = codes "no JSON, or more than 127 levels of it"

abbrev pub fault_found : FileFault → Text
fault_found (NoField before fault) = line_found fault
fault_found Empty = codes "0 bytes, or blanks alone"
fault_found (Foreign foreign None) = format_name foreign
fault_found (Foreign foreign (Some found)) = string_bytes found
fault_found (End fault) = string_bytes fault.found
fault_found ReportTooLarge = too_large
fault_found (Ipc error) = ipc.error_message error
fault_found (Footer rule at) = footer.rule_message rule
fault_found (Tree rule at) = parquet.rule_message rule
fault_found OutOfMemory = codes "out of memory"

-- ---- what is expected

abbrev pub read_formats : Text
read_formats = codes "an Arrow file, an Arrow stream, a Parquet file or lines of fields"

abbrev pub line_expected : LineFault → Text
line_expected (lines.NotUtf8 before) = codes "UTF-8"
line_expected (lines.GeoJson named) = read_formats
line_expected lines.Name = codes "a string at \"name\""
line_expected lines.Nullable = codes "true or false at \"nullable\""
line_expected lines.Metadata = codes "an object of strings at \"metadata\""
line_expected lines.TypeUnknown = codes "a data type, or {\"other\":\"timestamp[ms]\"}"
line_expected fault = codes "a JSON object"

abbrev pub fault_expected : FileFault → Text
fault_expected (NoField before fault) = line_expected fault
fault_expected Empty = read_formats
fault_expected (Foreign foreign found) = read_formats
fault_expected (End fault) = string_bytes fault.expected
fault_expected ReportTooLarge = within_budget
fault_expected (Ipc error) = ipc.error_wanted error
fault_expected (Footer rule at) = footer.rule_wanted rule
fault_expected (Tree rule at) = parquet.rule_wanted rule
fault_expected OutOfMemory = codes "more memory"

-- ---- what helps

abbrev pub line_help : LineFault → Option Text
line_help (lines.OpenObject at) = Some (codes "One object on each line: try jq -c . FILE")
line_help (lines.OpenArray at) = Some (codes "One object on each line: try jq -c '.[]' FILE")
line_help (lines.GeoJson named) = Some (codes "Try ogr2ogr out.parquet FILE")
line_help fault = None

abbrev pub end_help : EndRule → Option Text
end_help ends.Truncated = Some (codes "The file is cut off, or still being written")
end_help ends.FooterLength = None
end_help ends.Encrypted = Some (codes "A copy with a plain footer is needed")

abbrev pub fault_help : FileFault → Option Text
fault_help (NoField before fault) = line_help fault
fault_help Empty = Some (codes "The writing or the copy broke off before its first byte")
fault_help (Foreign foreign found) = format_help foreign
fault_help (End fault) = end_help fault.rule
fault_help fault = None

-- ---- where

-- the number of what stands behind so many, counted from 1
abbrev pub behind : ℕ → ℕ
behind before = min (before + 1) 18446744073709551615

abbrev pub line_place : ℕ → LineFault → Place
line_place line (lines.NotUtf8 before) = LineByte line (behind before)
line_place line (lines.NotJson at) = LineByte line at
line_place line (lines.OpenObject at) = LineByte line at
line_place line (lines.OpenArray at) = LineByte line at
line_place line fault = Line line

abbrev pub ipc_place : IpcError → Place
ipc_place (messages.Broken fault) = Byte fault.at
ipc_place (messages.Budget at) = Byte at
ipc_place messages.OutOfMemory = File

-- bytes are those of the file, of its footer too
abbrev pub fault_place : FileFault → Place
fault_place (NoField before fault) = line_place (behind before) fault
fault_place Empty = Byte 0
fault_place (Foreign foreign found) = Byte 0
fault_place (End fault) = Byte fault.byte
fault_place (Ipc error) = ipc_place error
fault_place (Footer rule at) = FooterByte at
fault_place (Tree rule at) = Elements at
fault_place ReportTooLarge = File
fault_place OutOfMemory = File

abbrev pub write_place : WriteError → Place
write_place (writes.Column index) = Column index
write_place error = File

-- ---- all of it

pub record Told : Type 0 where
  pub code : Text
  pub place : Place
  pub found : Text
  pub expected : Text
  pub help : Option Text

abbrev pub told : Fault → Told
told fault = record {
  code = fault.code.now;
  place = fault.place;
  found = fault.found.now;
  expected = fault.expected.now;
  help = text_of fault.help;
}

-- of a file in that format
abbrev pub file_told : Form → FileFault → Told
file_told form fault = record {
  code = fault_code form fault;
  place = fault_place fault;
  found = fault_found fault;
  expected = fault_expected fault;
  help = fault_help fault;
}

-- of a line behind so many
abbrev pub line_told : ℕ → LineFault → Told
line_told before fault = record {
  code = line_code fault;
  place = line_place (behind before) fault;
  found = line_found fault;
  expected = line_expected fault;
  help = line_help fault;
}

-- of a bad line, which is told of a file that its first line does not refuse
abbrev pub bad_told : BadLine → Told
bad_told bad = line_told bad.before (later_fault bad.fault)

-- of a line that is too long, behind so many
abbrev pub long_told : ℕ → Told
long_told before = record {
  code = codes "LongLine";
  place = Line (behind before);
  found = codes "more than 1048576 bytes";
  expected = codes "at most 1048576 bytes";
  help = None;
}

-- of a schema that is not written
abbrev pub write_told : WriteError → Told
write_told error = record {
  code = ipc.write_code error;
  place = write_place error;
  found = ipc.write_message error;
  expected = ipc.write_wanted error;
  help = None;
}
