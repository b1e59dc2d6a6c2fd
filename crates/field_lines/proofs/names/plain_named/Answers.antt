use Rattle.arrow_values.specs.Tree.{null, boolean, int8, int16, int32, int64, uint8, uint16, uint32, uint64, float16, float32, float64, date32, date64, binary, large_binary, binary_view, utf8, large_utf8, utf8_view}
use Rattle.field_lines.proofs.Round.{plain_at}
use Rattle.field_lines.proofs.names.plain_named.Goals as goal

pub returns-in-null : goal.returns-in-null
returns-in-null c = plain_at c.args.word.now null c.in-null.is

pub returns-in-boolean : goal.returns-in-boolean
returns-in-boolean c = plain_at c.args.word.now boolean c.in-boolean.is

pub returns-in-int8 : goal.returns-in-int8
returns-in-int8 c = plain_at c.args.word.now int8 c.in-int8.is

pub returns-in-int16 : goal.returns-in-int16
returns-in-int16 c = plain_at c.args.word.now int16 c.in-int16.is

pub returns-in-int32 : goal.returns-in-int32
returns-in-int32 c = plain_at c.args.word.now int32 c.in-int32.is

pub returns-in-int64 : goal.returns-in-int64
returns-in-int64 c = plain_at c.args.word.now int64 c.in-int64.is

pub returns-in-uint8 : goal.returns-in-uint8
returns-in-uint8 c = plain_at c.args.word.now uint8 c.in-uint8.is

pub returns-in-uint16 : goal.returns-in-uint16
returns-in-uint16 c = plain_at c.args.word.now uint16 c.in-uint16.is

pub returns-in-uint32 : goal.returns-in-uint32
returns-in-uint32 c = plain_at c.args.word.now uint32 c.in-uint32.is

pub returns-in-uint64 : goal.returns-in-uint64
returns-in-uint64 c = plain_at c.args.word.now uint64 c.in-uint64.is

pub returns-in-float16 : goal.returns-in-float16
returns-in-float16 c = plain_at c.args.word.now float16 c.in-float16.is

pub returns-in-float32 : goal.returns-in-float32
returns-in-float32 c = plain_at c.args.word.now float32 c.in-float32.is

pub returns-in-float64 : goal.returns-in-float64
returns-in-float64 c = plain_at c.args.word.now float64 c.in-float64.is

pub returns-in-date32 : goal.returns-in-date32
returns-in-date32 c = plain_at c.args.word.now date32 c.in-date32.is

pub returns-in-date64 : goal.returns-in-date64
returns-in-date64 c = plain_at c.args.word.now date64 c.in-date64.is

pub returns-in-binary : goal.returns-in-binary
returns-in-binary c = plain_at c.args.word.now binary c.in-binary.is

pub returns-in-large_binary : goal.returns-in-large_binary
returns-in-large_binary c = plain_at c.args.word.now large_binary c.in-large_binary.is

pub returns-in-binary_view : goal.returns-in-binary_view
returns-in-binary_view c = plain_at c.args.word.now binary_view c.in-binary_view.is

pub returns-in-utf8 : goal.returns-in-utf8
returns-in-utf8 c = plain_at c.args.word.now utf8 c.in-utf8.is

pub returns-in-large_utf8 : goal.returns-in-large_utf8
returns-in-large_utf8 c = plain_at c.args.word.now large_utf8 c.in-large_utf8.is

pub returns-in-utf8_view : goal.returns-in-utf8_view
returns-in-utf8_view c = plain_at c.args.word.now utf8_view c.in-utf8_view.is
