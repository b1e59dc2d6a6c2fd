-- The names of logical, converted and physical types (Parquet, "Logical Types").
use Rattle.std.specs.Prelude.{ℕ, ℤ, pos, negsuc, ◌==◌, codes, Option, Some, None, if◌then◌else◌}
use Rattle.arrow_values.specs.Tree.{Text}
use Rattle.parquet_footer.specs.declared.element.PhysicalType.{PhysicalType}
use Rattle.parquet_footer.specs.declared.element.PhysicalType.TheVariants.{Boolean, Int32, Int64, Int96, Float, Double, ByteArray, FixedLenByteArray, Unknown}
use Rattle.parquet_footer.specs.Logical.{Logical, geometry, geography, decimal, time, timestamp, integer, other}
use Rattle.parquet_footer.specs.Element.{Element}

-- logical types by their ids
abbrev pub other_name : ℕ → Text
other_name id =
    if id == 1 then codes "STRING" else
    if id == 2 then codes "MAP" else
    if id == 3 then codes "LIST" else
    if id == 4 then codes "ENUM" else
    if id == 6 then codes "DATE" else
    if id == 11 then codes "UNKNOWN" else
    if id == 12 then codes "JSON" else
    if id == 13 then codes "BSON" else
    if id == 14 then codes "UUID" else
    if id == 15 then codes "FLOAT16" else
    if id == 16 then codes "VARIANT" else codes "another type"

abbrev pub logical_name : Logical → Text
logical_name (geometry crs) = codes "GEOMETRY"
logical_name (geography crs algorithm) = codes "GEOGRAPHY"
logical_name (decimal scale precision) = codes "DECIMAL"
logical_name (time utc unit) = codes "TIME"
logical_name (timestamp utc unit) = codes "TIMESTAMP"
logical_name (integer bits signed) = codes "INTEGER"
logical_name (other id) = other_name id

-- converted types by their numbers
abbrev pub name_by_number : ℕ → Text
name_by_number n =
    if n == 0 then codes "UTF8" else
    if n == 1 then codes "MAP" else
    if n == 2 then codes "MAP_KEY_VALUE" else
    if n == 3 then codes "LIST" else
    if n == 4 then codes "ENUM" else
    if n == 5 then codes "DECIMAL" else
    if n == 6 then codes "DATE" else
    if n == 7 then codes "TIME_MILLIS" else
    if n == 8 then codes "TIME_MICROS" else
    if n == 9 then codes "TIMESTAMP_MILLIS" else
    if n == 10 then codes "TIMESTAMP_MICROS" else
    if n == 11 then codes "UINT_8" else
    if n == 12 then codes "UINT_16" else
    if n == 13 then codes "UINT_32" else
    if n == 14 then codes "UINT_64" else
    if n == 15 then codes "INT_8" else
    if n == 16 then codes "INT_16" else
    if n == 17 then codes "INT_32" else
    if n == 18 then codes "INT_64" else
    if n == 19 then codes "JSON" else
    if n == 20 then codes "BSON" else
    if n == 21 then codes "INTERVAL" else codes "another type"

abbrev pub converted_name : ℤ → Text
converted_name (pos n) = name_by_number n
converted_name (negsuc n) = codes "another type"

-- that of the converted type where there is no logical type
abbrev pub name_by : Option Logical → Option ℤ → Text
name_by (Some l) converted = logical_name l
name_by None (Some n) = converted_name n
name_by None None = codes "no type"

abbrev pub type_name : Element → Text
type_name e = name_by e.logical_type e.converted_type

abbrev pub physical_name : Option PhysicalType → Text
physical_name None = codes "a group"
physical_name (Some Boolean) = codes "BOOLEAN"
physical_name (Some Int32) = codes "INT32"
physical_name (Some Int64) = codes "INT64"
physical_name (Some Int96) = codes "INT96"
physical_name (Some Float) = codes "FLOAT"
physical_name (Some Double) = codes "DOUBLE"
physical_name (Some ByteArray) = codes "BYTE_ARRAY"
physical_name (Some FixedLenByteArray) = codes "FIXED_LEN_BYTE_ARRAY"
physical_name (Some (Unknown n)) = codes "another type"
