-- The type of a leaf in Arrow: by how its values are stored and by what they mean. What a stored value cannot mean is not looked at.
use Rattle.std.specs.Prelude.{ℕ, ℤ, pos, negsuc, Bool, true, false, ◌&&◌, ◌++◌, codes, Option, Some, None, Result, Ok, nat_lt, nat_le, ◌==◌, if◌then◌else◌}
use Rattle.std.specs.Fmt.{decimal}
use Rattle.arrow_values.specs.Tree.{Text, null, boolean, int8, int16, int32, int64, uint8, uint16, uint32, uint64, float16, float32, float64, date32, binary, utf8, Plain, plain}
use Rattle.arrow_columns.specs.Types.{TypeTree, known, leaf}
use Rattle.arrow_columns.specs.Notation.{sized_text}
use Rattle.parquet_footer.specs.declared.element.PhysicalType.{PhysicalType}
use Rattle.parquet_footer.specs.declared.element.PhysicalType.TheVariants.{Boolean, Int32, Int64, Int96, Float, Double, ByteArray, FixedLenByteArray, Unknown}
use Rattle.parquet_footer.specs.declared.logical.TimeUnit.{TimeUnit}
use Rattle.parquet_footer.specs.declared.logical.TimeUnit.TheVariants.{Millisecond, Microsecond, Nanosecond}
use Rattle.parquet_footer.specs.Element.{Element}
use Rattle.parquet_columns.specs.declared.fault.ElementFault.{ElementFault}
use Rattle.parquet_columns.specs.declared.leaf.LeafTypes.{LeafTypes}
use Rattle.parquet_columns.specs.declared.leaf.LeafTypes.TheVariants.{Meant, Stored}
use Rattle.parquet_columns.specs.declared.fault.SchemaRule.TheVariants.{Length, Digits}
use Rattle.parquet_columns.specs.declared.meaning.Meaning.{Meaning}
use Rattle.parquet_columns.specs.declared.meaning.Meaning.TheVariants.{Null, Text as Texts, Decimal, Date, Time, Timestamp, Integer, Half}
use Rattle.parquet_columns.specs.Fault.{breaks, ◌>>=◌}
use Rattle.parquet_columns.specs.Meaning.{meaning_of, precision_of, scale_of}
use Rattle.parquet_columns.specs.Storage.{holds_digits}

-- integers of 32 bits
abbrev pub int32_of : Meaning → Plain
int32_of Date = date32
int32_of (Integer bits signed) =
    if bits == 8 then (if signed then int8 else uint8) else
    if bits == 16 then (if signed then int16 else uint16) else
    if bits == 32 then (if signed then int32 else uint32) else int32
int32_of _ = int32

abbrev pub int64_of : Meaning → Plain
int64_of (Integer bits signed) = if bits == 64 then (if signed then int64 else uint64) else int64
int64_of _ = int64

abbrev pub bytes_of : Meaning → Plain
bytes_of Texts = utf8
bytes_of _ = binary

abbrev pub half_of : ℤ → Option Plain
half_of (pos length) = if length == 2 then Some float16 else None
half_of (negsuc length) = None

abbrev pub fixed_of : Meaning → ℤ → Option Plain
fixed_of Half length = half_of length
fixed_of _ length = None

-- the types that are data types; a leaf has no physical type that is not known
abbrev pub plain_of : PhysicalType → Meaning → ℤ → Option Plain
plain_of Boolean m length = Some boolean
plain_of Int32 m length = Some (int32_of m)
plain_of Int64 m length = Some (int64_of m)
plain_of Int96 m length = None
plain_of Float m length = Some float32
plain_of Double m length = Some float64
plain_of ByteArray m length = Some (bytes_of m)
plain_of FixedLenByteArray m length = fixed_of m length
plain_of (Unknown n) m length = None

-- times and points in time
abbrev pub time32_text : TimeUnit → Option Text
time32_text Millisecond = Some (codes "time32[ms]")
time32_text Microsecond = None
time32_text Nanosecond = None

abbrev pub time64_text : TimeUnit → Option Text
time64_text Millisecond = None
time64_text Microsecond = Some (codes "time64[us]")
time64_text Nanosecond = Some (codes "time64[ns]")

abbrev pub timestamp_text : Bool → TimeUnit → Text
timestamp_text utc Millisecond = if utc then codes "timestamp[ms, tz=UTC]" else codes "timestamp[ms]"
timestamp_text utc Microsecond = if utc then codes "timestamp[us, tz=UTC]" else codes "timestamp[us]"
timestamp_text utc Nanosecond = if utc then codes "timestamp[ns, tz=UTC]" else codes "timestamp[ns]"

abbrev pub clock32_text : Meaning → Option Text
clock32_text (Time unit) = time32_text unit
clock32_text _ = None

abbrev pub clock64_text : Meaning → Option Text
clock64_text (Time unit) = time64_text unit
clock64_text (Timestamp utc unit) = Some (timestamp_text utc unit)
clock64_text _ = None

abbrev pub clock_text : PhysicalType → Meaning → Option Text
clock_text Int32 m = clock32_text m
clock_text Int64 m = clock64_text m
clock_text Int96 m = Some (codes "timestamp[ns]")
clock_text _ m = None

-- values of a fixed length have a length, which is not negative; for others 0 stands
abbrev pub length_in : ℕ → Option ℤ → Result ℤ ElementFault
length_in at (Some (pos length)) = Ok (pos length)
length_in at _ = breaks Length at

abbrev pub length_at : ℕ → PhysicalType → Option ℤ → Result ℤ ElementFault
length_at at FixedLenByteArray length = length_in at length
length_at at _ length = Ok (pos 0)

-- decimal numbers have 1 to 76 digits, of which none or more stand behind the point
abbrev pub are_digits : ℕ → ℕ → Bool
are_digits precision scale = nat_lt 0 precision && nat_lt precision 77 && nat_le scale precision

abbrev pub digits_in : ℕ → ℤ → ℤ → Result (ℕ × ℕ) ElementFault
digits_in at (pos precision) (pos scale) = if are_digits precision scale then Ok (precision, scale) else breaks Digits at
digits_in at _ _ = breaks Digits at

abbrev pub may_be_decimal : PhysicalType → Bool
may_be_decimal Int32 = true
may_be_decimal Int64 = true
may_be_decimal ByteArray = true
may_be_decimal FixedLenByteArray = true
may_be_decimal _ = false

abbrev pub is_decimal : Meaning → Bool
is_decimal Decimal = true
is_decimal _ = false

-- the digits of a leaf of decimal numbers, where its values hold them
abbrev pub held : PhysicalType → ℕ × ℕ → Option (ℕ × ℕ)
held physical digits = if holds_digits digits.0 (Some physical) then Some digits else None

abbrev pub decimal_at : ℕ → PhysicalType → Element → Result (Option (ℕ × ℕ)) ElementFault
decimal_at at physical e = do
  digits ← digits_in at (precision_of e) (scale_of e)
  Ok (held physical digits)

abbrev pub digits_at : ℕ → PhysicalType → Element → Result (Option (ℕ × ℕ)) ElementFault
digits_at at physical e = if is_decimal (meaning_of e) && may_be_decimal physical then decimal_at at physical e else Ok None

abbrev pub decimal_text : ℕ → ℕ → Text
decimal_text precision scale =
    if nat_lt precision 39 then codes "decimal128(" ++ (decimal precision ++ (codes ", " ++ (decimal scale ++ codes ")"))) else
    codes "decimal256(" ++ (decimal precision ++ (codes ", " ++ (decimal scale ++ codes ")")))

-- values of a fixed length
abbrev pub fixed_type : ℤ → TypeTree
fixed_type length = leaf (sized_text (codes "fixed_size_binary") length)

abbrev pub is_null : Meaning → Bool
is_null Null = true
is_null _ = false

-- the first of these that there is: a time, a decimal, a data type; or values of a fixed length
abbrev pub first_type : Option Text → Option (ℕ × ℕ) → Option Plain → ℤ → TypeTree
first_type (Some clock) digits p length = leaf clock
first_type None (Some digits) p length = leaf (decimal_text digits.0 digits.1)
first_type None None (Some p) length = known (plain p)
first_type None None None length = fixed_type length

-- the type of a leaf, by its storage, its meaning, its length and its digits
unfoldable pub leaf_type : PhysicalType → Meaning → ℤ → Option (ℕ × ℕ) → TypeTree
leaf_type physical m length digits =
    if is_null m then known (plain null) else
    first_type (clock_text physical m) digits (plain_of physical m length) length

-- the type that a stored field of the leaf is compared with: of bytes and floats that of their storage, whatever the values mean, but for texts
abbrev pub stored_type : PhysicalType → Meaning → ℤ → Option (ℕ × ℕ) → TypeTree
stored_type ByteArray m length digits = known (plain (bytes_of m))
stored_type Float m length digits = known (plain float32)
stored_type Double m length digits = known (plain float64)
stored_type physical m length digits = leaf_type physical m length digits

abbrev pub type_by : LeafTypes → PhysicalType → Meaning → ℤ → Option (ℕ × ℕ) → TypeTree
type_by Meant physical m length digits = leaf_type physical m length digits
type_by Stored physical m length digits = stored_type physical m length digits
