-- The format strings of types (Arrow, "The Arrow C data interface", "Data type description --
-- format
-- strings"). Each stands beside the kind of type that it says; a unit is 0 for seconds, 1 for
-- milliseconds, 2 for microseconds, 3 for nanoseconds.
use Rattle.std.specs.Prelude.{◌≡◌, ℕ, ℤ, Bool, ◌&&◌, ◌⊎◌, List, [], ◌++◌, length, codes}
use Rattle.std.specs.Prelude.{Option, Some, None, option_map, nat_lt, ◌==◌, if◌then◌else◌}
use Rattle.std.specs.Fmt.{decimal, signed_decimal}
use Rattle.arrow_values.specs.Tree.{Text}
use Rattle.arrow_values.specs.declared.tree.DataType.{DataType}
use Rattle.arrow_values.specs.declared.tree.DataType.TheVariants.{Null, Boolean, Int8, Int16, Int32}
use Rattle.arrow_values.specs.declared.tree.DataType.TheVariants.{Int64, UInt8, UInt16, UInt32}
use Rattle.arrow_values.specs.declared.tree.DataType.TheVariants.{UInt64, Float16, Float32, Float64}
use Rattle.arrow_values.specs.declared.tree.DataType.TheVariants.{Date32, Date64, Binary}
use Rattle.arrow_values.specs.declared.tree.DataType.TheVariants.{LargeBinary, BinaryView, Utf8}
use Rattle.arrow_values.specs.declared.tree.DataType.TheVariants.{LargeUtf8, Utf8View}
use Rattle.arrow_values.specs.declared.tree.UnionMode.{UnionMode}
use Rattle.arrow_values.specs.declared.tree.UnionMode.TheVariants.{Sparse, Dense}
use Rattle.arrow_columns.specs.declared.nested.ListForm.{ListForm}
use Rattle.arrow_columns.specs.declared.nested.ListForm.TheVariants.{Small, Large, Fixed}
use Rattle.arrow_kinds.specs.declared.kind.Named as named
use Rattle.arrow_kinds.specs.declared.kind.Named.TheVariants.{Decimal, Time, Timestamp, Duration}
use Rattle.arrow_kinds.specs.declared.kind.Named.TheVariants.{Interval, FixedSizeBinary}
use Rattle.arrow_kinds.specs.declared.kind.Kind.{Kind}
use Rattle.arrow_kinds.specs.declared.kind.Kind.TheVariants.{Plain, Named, List as ListOf, Struct}
use Rattle.arrow_kinds.specs.declared.kind.Kind.TheVariants.{Union, Map, RunEndEncoded, ListView}
use Rattle.arrow_kinds.specs.declared.kind.Kind.TheVariants.{LargeListView}
use Rattle.format_strings.specs.Numbers.{is_byte, is_size, are_ids, ids_text}

-- types without parameters
abbrev pub data_word : DataType → Option Text
data_word Null = Some (codes "n")
data_word Boolean = Some (codes "b")
data_word Int8 = Some (codes "c")
data_word UInt8 = Some (codes "C")
data_word Int16 = Some (codes "s")
data_word UInt16 = Some (codes "S")
data_word Int32 = Some (codes "i")
data_word UInt32 = Some (codes "I")
data_word Int64 = Some (codes "l")
data_word UInt64 = Some (codes "L")
data_word Float16 = Some (codes "e")
data_word Float32 = Some (codes "f")
data_word Float64 = Some (codes "g")
data_word Binary = Some (codes "z")
data_word LargeBinary = Some (codes "Z")
data_word BinaryView = Some (codes "vz")
data_word Utf8 = Some (codes "u")
data_word LargeUtf8 = Some (codes "U")
data_word Utf8View = Some (codes "vu")
data_word Date32 = Some (codes "tdD")
data_word Date64 = Some (codes "tdm")
data_word _ = None

abbrev pub with_unit : Text → ℕ → Option Text
with_unit front unit =
    if unit == 0 then Some (front ++ codes "s") else
    if unit == 1 then Some (front ++ codes "m") else
    if unit == 2 then Some (front ++ codes "u") else
    if unit == 3 then Some (front ++ codes "n") else None

abbrev pub interval_word : ℕ → Option Text
interval_word unit =
    if unit == 0 then Some (codes "tiM") else
    if unit == 1 then Some (codes "tiD") else
    if unit == 2 then Some (codes "tin") else None

abbrev pub named_word : named.Named → Option Text
named_word (Time unit) = with_unit (codes "tt") unit
named_word (Duration unit) = with_unit (codes "tD") unit
named_word (Interval unit) = interval_word unit
named_word _ = None

abbrev pub list_word : ListForm → Option Text
list_word Small = Some (codes "+l")
list_word Large = Some (codes "+L")
list_word (Fixed size) = None

abbrev pub word_of : Kind → Option Text
word_of (Plain d) = data_word d
word_of (Named n) = named_word n
word_of (ListOf form) = list_word form
word_of ListView = Some (codes "+vl")
word_of LargeListView = Some (codes "+vL")
word_of Struct = Some (codes "+s")
word_of Map = Some (codes "+m")
word_of RunEndEncoded = Some (codes "+r")
word_of (Union mode) = None

-- of so many bytes, or so many values
abbrev pub with_size : Text → ℤ → Option Text
with_size front size = if is_size size then Some (front ++ signed_decimal size) else None

-- a decimal: its precision and its scale, and its width in bits
abbrev pub decimal_text : ℕ → ℤ → Text
decimal_text precision scale =
    codes "d:" ++ (decimal precision ++ (codes "," ++ signed_decimal scale))

abbrev pub wide_text : ℕ → ℤ → Text → Text
wide_text precision scale width =
    codes "d:" ++ (decimal precision ++
    (codes "," ++ (signed_decimal scale ++ (codes "," ++ width))))

abbrev pub are_places : ℕ → ℤ → Bool
are_places precision scale = nat_lt precision 128 && is_byte scale

-- where no width is said it is 128
abbrev pub decimal_format : ℕ → ℕ → ℤ → Option Text
decimal_format width precision scale = if are_places precision scale then (
    if width == 128 then Some (decimal_text precision scale) else
    if width == 32 then Some (wide_text precision scale (codes "32")) else
    if width == 64 then Some (wide_text precision scale (codes "64")) else
    if width == 256 then Some (wide_text precision scale (codes "256")) else None) else None

-- a type whose format string says it whole, but for those of timestamps and unions
abbrev pub own_format : Kind → Option Text
own_format (Named (Decimal width precision scale)) = decimal_format width precision scale
own_format (Named (FixedSizeBinary size)) = with_size (codes "w:") size
own_format (ListOf (Fixed size)) = with_size (codes "+w:") size
own_format kind = word_of kind

-- a timestamp has a time zone, or the empty text
abbrev pub with_zone : Text → Option Text → Option Text
with_zone zone front = option_map (λ f. f ++ (codes ":" ++ zone)) front

-- a union has type ids
abbrev pub union_front : UnionMode → Text
union_front Dense = codes "+ud:"
union_front Sparse = codes "+us:"

abbrev pub with_ids : List ℤ → Text → Option Text
with_ids ids front = if are_ids [] ids then Some (front ++ ids_text ids) else None

-- what a format string says: a kind of type, the time zone of a timestamp, the type ids of a union
pub record Said : Type 0 where
  pub kind : Kind
  pub zone : Text
  pub ids : List ℤ

abbrev pub alone : Text → List ℤ → Option Text → Option Text
alone zone ids format = if length zone == 0 then (if length ids == 0 then format else None) else
    None

abbrev pub format_by : Kind → Text → List ℤ → Option Text
format_by (Named (Timestamp unit)) zone ids =
    alone [] ids (with_zone zone (with_unit (codes "ts") unit))
format_by (Union mode) zone ids = alone zone [] (with_ids ids (union_front mode))
format_by kind zone ids = alone zone ids (own_format kind)

-- the format string that is written; none where no format string says that
abbrev pub format_of : Said → Option Text
format_of s = format_by s.kind s.zone s.ids

-- a decimal of 128 bits may say its width, too
abbrev pub wide_by : Kind → Option Text
wide_by (Named (Decimal width precision scale)) = if are_places precision scale && (width == 128)
    then Some (wide_text precision scale (codes "128")) else None
wide_by _ = None

abbrev pub wide_of : Said → Option Text
wide_of s = alone s.zone s.ids (wide_by s.kind)

-- the text is a format string, and that is what it says
abbrev pub IsFormat : Text → Said → Type 0
IsFormat text s = (format_of s ≡ Some text) ⊎ (wide_of s ≡ Some text)
