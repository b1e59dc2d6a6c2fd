-- Logical types: a union, of which the geometry types, decimal numbers, times, points in time and
-- integers are read, and the others known by their ids.
use Rattle.std.specs.Prelude.{ℕ, ℤ, pos, negsuc, Bool, ◌||◌, List, Option, Some, None, option_map, Result, Ok, ◌==◌, if◌then◌else◌}
use Rattle.parquet_footer.specs.declared.fault.Fault.{Fault}
use Rattle.parquet_footer.specs.declared.fault.FooterRule.TheVariants.{Union}
use Rattle.parquet_footer.specs.declared.logical.Algorithm.{Algorithm}
use Rattle.parquet_footer.specs.declared.logical.Algorithm.TheVariants.{Spherical, Vincenty, Thomas, Andoyer, Karney, Unknown}
use Rattle.parquet_footer.specs.declared.logical.TimeUnit.{TimeUnit}
use Rattle.parquet_footer.specs.declared.logical.TimeUnit.TheVariants.{Millisecond, Microsecond, Nanosecond}
use Rattle.parquet_footer.specs.declared.logical.LogicalType.{LogicalType}
use Rattle.parquet_footer.specs.declared.logical.LogicalType.TheVariants.{Geometry, Geography, Decimal, Time, Timestamp, Integer, Other}
use Rattle.parquet_footer.specs.Fault.{kept, needed, ◌>>=◌}
use Rattle.parquet_footer.specs.Wire.{byte_at, field_at}
use Rattle.parquet_footer.specs.Skip.{value_past}
use Rattle.parquet_footer.specs.Fields.{Spot, pair_at, numbers_at, value_of, number_in, text_in, flag_in}

-- a logical type, without where its texts lie; a decimal number by its scale and its precision
pub data Logical : Type 0 where
  geometry : Option (List ℕ) → Logical
  geography : Option (List ℕ) → Option Algorithm → Logical
  decimal : Option ℤ → Option ℤ → Logical
  time : Bool → TimeUnit → Logical
  timestamp : Bool → TimeUnit → Logical
  integer : ℕ → Bool → Logical
  other : ℕ → Logical

abbrev pub logical : LogicalType → Logical
logical (Geometry crs) = geometry (option_map (λ s. s.now) crs)
logical (Geography crs algorithm) = geography (option_map (λ s. s.now) crs) algorithm
logical (Decimal scale precision) = decimal scale precision
logical (Time utc unit) = time utc unit
logical (Timestamp utc unit) = timestamp utc unit
logical (Integer bits signed) = integer bits signed
logical (Other id) = other id

-- an algorithm by its number; any other is not known
abbrev pub algorithm_by : ℕ → Algorithm
algorithm_by n =
    if n == 0 then Spherical else
    if n == 1 then Vincenty else
    if n == 2 then Thomas else
    if n == 3 then Andoyer else
    if n == 4 then Karney else Unknown (pos n)

abbrev pub algorithm_of : ℤ → Algorithm
algorithm_of (pos n) = algorithm_by n
algorithm_of (negsuc n) = Unknown (negsuc n)

unfoldable pub algorithm_in : Option Spot → Result (Option Algorithm) Fault
algorithm_in place = do
  number ← number_in place
  Ok (option_map algorithm_of number)

-- a union is a struct of one field: its id, and the type and the bytes of its value; a struct
-- without fields says nothing
unfoldable pub union_at : List ℕ → Result (Option (ℕ × Spot)) Fault
union_at bytes = do
  field ← field_at 0 bytes
  if field.1 == 0 then Ok None else (do
    rest ← value_past 64 field.1 field.2
    end ← byte_at rest
    _ ← kept (end.0 == 0) Union rest
    Ok (Some (field.0, (field.1, field.2))))

-- TimeUnit, a union: 1 MILLIS, 2 MICROS, 3 NANOS; any other is not known
abbrev pub unit_of : ℕ → Option TimeUnit
unit_of id =
    if id == 1 then Some Millisecond else
    if id == 2 then Some Microsecond else
    if id == 3 then Some Nanosecond else None

abbrev pub unit_by : Option (ℕ × Spot) → Option TimeUnit
unit_by None = None
unit_by (Some member) = unit_of member.0

unfoldable pub unit_in : List ℕ → Option Spot → Result (Option TimeUnit) Fault
unit_in bytes place = do
  p ← needed bytes place
  value ← value_of 12 p
  member ← union_at value
  Ok (unit_by member)

unfoldable pub width_in : List ℕ → Option Spot → Result ℕ Fault
width_in bytes place = do
  p ← needed bytes place
  value ← value_of 3 p
  width ← byte_at value
  Ok width.0

-- DECIMAL: 1 scale, 2 precision
unfoldable pub decimal_at : List ℕ → Result Logical Fault
decimal_at bytes = do
  numbers ← numbers_at 1 2 bytes
  Ok (decimal numbers.0 numbers.1)

-- TIME, the member 7, and TIMESTAMP: 1 isAdjustedToUTC, 2 unit; of another unit no more than its id
-- is known
abbrev pub clock : ℕ → Bool → Option TimeUnit → Logical
clock id utc None = other id
clock id utc (Some unit) = if id == 7 then time utc unit else timestamp utc unit

unfoldable pub clock_at : ℕ → List ℕ → Result Logical Fault
clock_at id bytes = do
  found ← pair_at 1 2 bytes
  utc ← flag_in bytes found.0.0
  unit ← unit_in bytes found.0.1
  Ok (clock id utc unit)

-- INTEGER, the member 10: 1 bitWidth, 2 isSigned; of another width no more than its id is known
abbrev pub is_width : ℕ → Bool
is_width n = n == 8 || n == 16 || n == 32 || n == 64

unfoldable pub integer_at : List ℕ → Result Logical Fault
integer_at bytes = do
  found ← pair_at 1 2 bytes
  width ← width_in bytes found.0.0
  signed ← flag_in bytes found.0.1
  Ok (if is_width width then integer width signed else other 10)

-- GEOMETRY: 1 crs
unfoldable pub geometry_at : List ℕ → Result Logical Fault
geometry_at bytes = do
  found ← pair_at 1 1 bytes
  crs ← text_in found.0.0
  Ok (geometry crs)

-- GEOGRAPHY: 1 crs, 2 algorithm
unfoldable pub geography_at : List ℕ → Result Logical Fault
geography_at bytes = do
  found ← pair_at 1 2 bytes
  crs ← text_in found.0.0
  algorithm ← algorithm_in found.0.1
  Ok (geography crs algorithm)

-- the struct of a member, by its id
unfoldable pub member_at : ℕ → List ℕ → Result Logical Fault
member_at id bytes =
    if id == 5 then decimal_at bytes else
    if id == 7 then clock_at id bytes else
    if id == 8 then clock_at id bytes else
    if id == 10 then integer_at bytes else
    if id == 17 then geometry_at bytes else
    if id == 18 then geography_at bytes else Ok (other id)

-- without a member it has no id, for which 0 stands
abbrev pub logical_by : Option (ℕ × Spot) → Result Logical Fault
logical_by None = Ok (other 0)
logical_by (Some member) = do
  value ← value_of 12 member.1
  member_at member.0 value

unfoldable pub logical_at : List ℕ → Result Logical Fault
logical_at bytes = do
  member ← union_at bytes
  logical_by member

unfoldable pub logical_in : Option Spot → Result (Option Logical) Fault
logical_in None = Ok None
logical_in (Some p) = do
  bytes ← value_of 12 p
  says ← logical_at bytes
  Ok (Some says)
