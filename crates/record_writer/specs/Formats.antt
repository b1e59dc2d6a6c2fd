-- What the format string of a column says.
use Rattle.std.specs.Prelude.{ℤ, Bool, true, false, List, [], Option, Some, None, if◌then◌else◌}
use Rattle.std.specs.Option.{option_and_then}
use Rattle.arrow_values.specs.Tree.{Text, Plain, null, boolean, int8, int16, int32, int64, uint8}
use Rattle.arrow_values.specs.Tree.{uint16, uint32, uint64, float16, float32, float64, date32}
use Rattle.arrow_values.specs.Tree.{date64, binary, large_binary, binary_view, utf8, large_utf8}
use Rattle.arrow_values.specs.Tree.{utf8_view, Tree, plain, list, large_list, fixed_size_list}
use Rattle.arrow_values.specs.Tree.{struct, union}
use Rattle.arrow_values.specs.View.{member_list}
use Rattle.arrow_values.specs.Union.{ids_of}
use Rattle.arrow_values.specs.declared.tree.DataType.{DataType}
use Rattle.arrow_values.specs.declared.tree.DataType.TheVariants.{Null, Boolean, Int8, Int16, Int32}
use Rattle.arrow_values.specs.declared.tree.DataType.TheVariants.{Int64, UInt8, UInt16, UInt32}
use Rattle.arrow_values.specs.declared.tree.DataType.TheVariants.{UInt64, Float16, Float32, Float64}
use Rattle.arrow_values.specs.declared.tree.DataType.TheVariants.{Date32, Date64, Binary}
use Rattle.arrow_values.specs.declared.tree.DataType.TheVariants.{LargeBinary, BinaryView, Utf8}
use Rattle.arrow_values.specs.declared.tree.DataType.TheVariants.{LargeUtf8, Utf8View}
use Rattle.arrow_columns.specs.Types.{TypeTree, known, other, PartTrees, no_parts}
use Rattle.arrow_columns.specs.declared.nested.ListForm.TheVariants.{Small, Large, Fixed}
use Rattle.arrow_columns.specs.declared.other.Form.{Form}
use Rattle.arrow_columns.specs.declared.other.Form.TheVariants.{Leaf}
use Rattle.arrow_kinds.specs.declared.kind.Named as named
use Rattle.arrow_kinds.specs.declared.kind.Kind.{Kind}
use Rattle.arrow_kinds.specs.declared.kind.Kind.TheVariants as kinds
use Rattle.format_strings.specs.Formats.{Said, format_of}
use Rattle.format_strings.specs.Notations.{notation_in}
use Rattle.record_wire.specs.Record.{has_nul}

abbrev pub plain_type : Plain → DataType
plain_type null = Null
plain_type boolean = Boolean
plain_type int8 = Int8
plain_type int16 = Int16
plain_type int32 = Int32
plain_type int64 = Int64
plain_type uint8 = UInt8
plain_type uint16 = UInt16
plain_type uint32 = UInt32
plain_type uint64 = UInt64
plain_type float16 = Float16
plain_type float32 = Float32
plain_type float64 = Float64
plain_type date32 = Date32
plain_type date64 = Date64
plain_type binary = Binary
plain_type large_binary = LargeBinary
plain_type binary_view = BinaryView
plain_type utf8 = Utf8
plain_type large_utf8 = LargeUtf8
plain_type utf8_view = Utf8View

-- the kind of a data type, whatever lies in it
abbrev pub kind_of : Tree → Kind
kind_of (plain p) = kinds.Plain (plain_type p)
kind_of (list n t b m) = kinds.List Small
kind_of (large_list n t b m) = kinds.List Large
kind_of (fixed_size_list n t b m s) = kinds.List (Fixed s)
kind_of (struct fs) = kinds.Struct
kind_of (union ms mode) = kinds.Union mode

-- the type ids of a union
abbrev pub ids_in : Tree → List ℤ
ids_in (union ms mode) = ids_of (member_list ms)
ids_in t = []

abbrev pub said_of : Tree → Said
said_of t = record { kind = kind_of t; zone = []; ids = ids_in t }

-- a type of which nothing is known but its notation
abbrev pub is_leaf : Form → List ℤ → PartTrees → Bool
is_leaf Leaf [] no_parts = true
is_leaf f ids ps = false

abbrev pub said_with : named.Named × Text → Said
said_with p = record { kind = kinds.Named p.0; zone = p.1; ids = [] }

-- a format string ends in memory at its first byte 0
abbrev pub without_nul : Option Text → Option Text
without_nul None = None
without_nul (Some text) = if has_nul text then None else Some text

-- of the kind and the time zone whose notation a text is
abbrev pub noted_format : Text → Option Text
noted_format text =
    without_nul (option_and_then (λ p. format_of (said_with p)) (notation_in text))

-- the format string of a type; none of a list of negative size, nor of a union whose type ids are
-- not 0 to 127, each once. A type that is none of the 26 has one where nothing is known of it but a
-- notation, which is that of a kind and a time zone that a format string without a byte 0 says
abbrev pub format_in : TypeTree → Option Text
format_in (known t) = format_of (said_of t)
format_in (other s f ids ps) = if is_leaf f ids ps then noted_format s else None
