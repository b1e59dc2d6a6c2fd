-- How the values of a logical or converted type are stored (docs/FORMAT.md, 4.5).
use Rattle.std.specs.Prelude.{ℕ, ℤ, pos, negsuc, Bool, true, false, ◌&&◌, ◌||◌, ◌==◌, nat_lt, codes, Option, Some, None, if◌then◌else◌}
use Rattle.arrow_values.specs.Tree.{Text}
use Rattle.parquet_footer.specs.declared.element.PhysicalType.{PhysicalType}
use Rattle.parquet_footer.specs.declared.element.PhysicalType.TheVariants as types
use Rattle.parquet_footer.specs.declared.logical.TimeUnit.{TimeUnit}
use Rattle.parquet_footer.specs.declared.logical.TimeUnit.TheVariants.{Millisecond, Microsecond, Nanosecond}
use Rattle.parquet_footer.specs.Logical.{Logical, geometry, geography, decimal, time, timestamp, integer, other}
use Rattle.parquet_footer.specs.Element.{Element}
use Rattle.parquet_columns.specs.Meaning.{precision_of}
use Rattle.parquet_columns.specs.declared.storage.Storage.{Storage}
use Rattle.parquet_columns.specs.declared.storage.Storage.TheVariants.{Any, Bytes, Int32, Int64, Decimal, Fixed, Group}

abbrev pub time_storage : TimeUnit → Storage
time_storage Millisecond = Int32
time_storage Microsecond = Int64
time_storage Nanosecond = Int64

-- logical types by their ids: 1 STRING, 2 MAP, 3 LIST, 4 ENUM, 6 DATE, 12 JSON, 13 BSON, 14 UUID, 15 FLOAT16, 16 VARIANT
abbrev pub other_storage : ℕ → Storage
other_storage id =
    if id == 1 then Bytes else
    if id == 2 then Group else
    if id == 3 then Group else
    if id == 4 then Bytes else
    if id == 6 then Int32 else
    if id == 12 then Bytes else
    if id == 13 then Bytes else
    if id == 14 then Fixed 16 else
    if id == 15 then Fixed 2 else
    if id == 16 then Group else Any

abbrev pub logical_storage : Logical → Storage
logical_storage (geometry crs) = Bytes
logical_storage (geography crs algorithm) = Bytes
logical_storage (decimal scale precision) = Decimal
logical_storage (time utc unit) = time_storage unit
logical_storage (timestamp utc unit) = Int64
logical_storage (integer bits signed) = if bits == 64 then Int64 else Int32
logical_storage (other id) = other_storage id

-- converted types: 0 UTF8, 1 MAP, 2 MAP_KEY_VALUE, 3 LIST, 4 ENUM, 5 DECIMAL, 6 DATE, 7 TIME_MILLIS, 8 TIME_MICROS, 9 TIMESTAMP_MILLIS,
-- 10 TIMESTAMP_MICROS, 11 to 14 UINT_8 to UINT_64, 15 to 18 INT_8 to INT_64, 19 JSON, 20 BSON, 21 INTERVAL
abbrev pub storage_by_number : ℕ → Storage
storage_by_number n =
    if n == 0 then Bytes else
    if n == 1 then Group else
    if n == 2 then Group else
    if n == 3 then Group else
    if n == 4 then Bytes else
    if n == 5 then Decimal else
    if n == 6 then Int32 else
    if n == 7 then Int32 else
    if n == 8 then Int64 else
    if n == 9 then Int64 else
    if n == 10 then Int64 else
    if n == 11 then Int32 else
    if n == 12 then Int32 else
    if n == 13 then Int32 else
    if n == 14 then Int64 else
    if n == 15 then Int32 else
    if n == 16 then Int32 else
    if n == 17 then Int32 else
    if n == 18 then Int64 else
    if n == 19 then Bytes else
    if n == 20 then Bytes else
    if n == 21 then Fixed 12 else Any

abbrev pub converted_storage : ℤ → Storage
converted_storage (pos n) = storage_by_number n
converted_storage (negsuc n) = Any

-- the converted type counts where there is no logical type
abbrev pub storage_by : Option Logical → Option ℤ → Storage
storage_by (Some l) converted = logical_storage l
storage_by None (Some n) = converted_storage n
storage_by None None = Any

abbrev pub storage_of : Element → Storage
storage_of e = storage_by e.logical_type e.converted_type

-- decimal numbers of so many digits: to 9 in 32 bits, to 18 in 64
abbrev pub holds_digits : ℕ → Option PhysicalType → Bool
holds_digits digits (Some types.Int32) = nat_lt digits 10
holds_digits digits (Some types.Int64) = nat_lt digits 19
holds_digits digits (Some types.ByteArray) = true
holds_digits digits (Some types.FixedLenByteArray) = true
holds_digits digits (Some types.Boolean) = false
holds_digits digits (Some types.Int96) = false
holds_digits digits (Some types.Float) = false
holds_digits digits (Some types.Double) = false
holds_digits digits (Some (types.Unknown n)) = false
holds_digits digits None = false

-- digits and lengths that are out of range are faults of their own: they are not looked at here
abbrev pub digits_in : ℤ → ℕ
digits_in (pos n) = if nat_lt n 77 then n else 0
digits_in (negsuc n) = 0

abbrev pub has_length : ℕ → Option ℤ → Bool
has_length n (Some (pos length)) = length == n
has_length n _ = true

abbrev pub is_bytes : Option PhysicalType → Bool
is_bytes (Some types.ByteArray) = true
is_bytes _ = false

abbrev pub is_int32 : Option PhysicalType → Bool
is_int32 (Some types.Int32) = true
is_int32 _ = false

abbrev pub is_int64 : Option PhysicalType → Bool
is_int64 (Some types.Int64) = true
is_int64 _ = false

abbrev pub is_fixed : Option PhysicalType → Bool
is_fixed (Some types.FixedLenByteArray) = true
is_fixed _ = false

abbrev pub is_group : Option PhysicalType → Bool
is_group (Some t) = false
is_group None = true

abbrev pub is_unknown : Option PhysicalType → Bool
is_unknown (Some (types.Unknown n)) = true
is_unknown _ = false

-- whether an element is stored so
abbrev pub stands_on : Storage → Element → Bool
stands_on Any e = true
stands_on Bytes e = is_bytes e.storage.physical_type
stands_on Int32 e = is_int32 e.storage.physical_type
stands_on Int64 e = is_int64 e.storage.physical_type
stands_on Decimal e = holds_digits (digits_in (precision_of e)) e.storage.physical_type
stands_on (Fixed n) e = is_fixed e.storage.physical_type && has_length n e.storage.type_length
stands_on Group e = is_group e.storage.physical_type

-- of a physical type that is not known nothing is said
abbrev pub is_stored : Storage → Element → Bool
is_stored s e = is_unknown e.storage.physical_type || stands_on s e

-- the words of a storage
abbrev pub fixed_text : ℕ → Text
fixed_text n =
    if n == 2 then codes "FIXED_LEN_BYTE_ARRAY of 2 bytes" else
    if n == 12 then codes "FIXED_LEN_BYTE_ARRAY of 12 bytes" else codes "FIXED_LEN_BYTE_ARRAY of 16 bytes"

abbrev pub storage_text : Storage → Text
storage_text Any = codes "any type"
storage_text Bytes = codes "BYTE_ARRAY"
storage_text Int32 = codes "INT32"
storage_text Int64 = codes "INT64"
storage_text Decimal = codes "INT32 of 9 digits, INT64 of 18 digits, BYTE_ARRAY or FIXED_LEN_BYTE_ARRAY"
storage_text (Fixed n) = fixed_text n
storage_text Group = codes "a group"
