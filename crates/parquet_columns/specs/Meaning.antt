-- What the values of a leaf mean: by its logical type, or where it has none by its converted type.
use Rattle.std.specs.Prelude.{ℕ, ℤ, pos, negsuc, true, false, Option, Some, None, unwrap_or, ◌==◌, if◌then◌else◌}
use Rattle.parquet_footer.specs.declared.logical.TimeUnit.TheVariants.{Millisecond, Microsecond}
use Rattle.parquet_footer.specs.Logical.{Logical, geometry, geography, decimal, time, timestamp, integer, other}
use Rattle.parquet_footer.specs.Element.{Element}
use Rattle.parquet_columns.specs.declared.meaning.Meaning.{Meaning}
use Rattle.parquet_columns.specs.declared.meaning.Meaning.TheVariants.{Nothing, Null, Text, Decimal, Date, Time, Timestamp, Integer, Half}

-- logical types by their ids: 1 STRING, 6 DATE, 11 UNKNOWN, 12 JSON, 15 FLOAT16
abbrev pub other_meaning : ℕ → Meaning
other_meaning id =
    if id == 1 then Text else
    if id == 12 then Text else
    if id == 6 then Date else
    if id == 11 then Null else
    if id == 15 then Half else Nothing

abbrev pub logical_meaning : Logical → Meaning
logical_meaning (geometry crs) = Nothing
logical_meaning (geography crs algorithm) = Nothing
logical_meaning (decimal scale precision) = Decimal
logical_meaning (time utc unit) = Time unit
logical_meaning (timestamp utc unit) = Timestamp utc unit
logical_meaning (integer bits signed) = Integer bits signed
logical_meaning (other id) = other_meaning id

-- converted types: 0 UTF8, 5 DECIMAL, 6 DATE, 7 TIME_MILLIS, 8 TIME_MICROS, 9 TIMESTAMP_MILLIS, 10 TIMESTAMP_MICROS,
-- 11 to 14 UINT_8 to UINT_64, 15 to 18 INT_8 to INT_64, 19 JSON
abbrev pub meaning_by_number : ℕ → Meaning
meaning_by_number n =
    if n == 0 then Text else
    if n == 19 then Text else
    if n == 5 then Decimal else
    if n == 6 then Date else
    if n == 7 then Time Millisecond else
    if n == 8 then Time Microsecond else
    if n == 9 then Timestamp true Millisecond else
    if n == 10 then Timestamp true Microsecond else
    if n == 11 then Integer 8 false else
    if n == 12 then Integer 16 false else
    if n == 13 then Integer 32 false else
    if n == 14 then Integer 64 false else
    if n == 15 then Integer 8 true else
    if n == 16 then Integer 16 true else
    if n == 17 then Integer 32 true else
    if n == 18 then Integer 64 true else Nothing

abbrev pub converted_meaning : ℤ → Meaning
converted_meaning (pos n) = meaning_by_number n
converted_meaning (negsuc n) = Nothing

abbrev pub meaning_by : Option Logical → Option ℤ → Meaning
meaning_by (Some l) converted = logical_meaning l
meaning_by None (Some n) = converted_meaning n
meaning_by None None = Nothing

abbrev pub meaning_of : Element → Meaning
meaning_of e = meaning_by e.logical_type e.converted_type

-- the digits of decimal numbers, and how many of them stand behind the point: by the logical type,
-- or where it does not say it by the element; 0 where neither does
abbrev pub logical_precision : Option Logical → Option ℤ
logical_precision (Some (decimal scale precision)) = precision
logical_precision _ = None

abbrev pub logical_scale : Option Logical → Option ℤ
logical_scale (Some (decimal scale precision)) = scale
logical_scale _ = None

abbrev pub precision_of : Element → ℤ
precision_of e = unwrap_or (logical_precision e.logical_type) (unwrap_or e.precision (pos 0))

abbrev pub scale_of : Element → ℤ
scale_of e = unwrap_or (logical_scale e.logical_type) (unwrap_or e.scale (pos 0))
