-- An element of the schema: a leaf or a group.
use Rattle.std.specs.Prelude.{ℕ, ◌-◌, ℤ, pos, negsuc, List, length, Option, option_map, Result, Ok, ◌==◌, if◌then◌else◌}
use Rattle.parquet_footer.specs.declared.fault.Fault.{Fault}
use Rattle.parquet_footer.specs.declared.element.PhysicalType.{PhysicalType}
use Rattle.parquet_footer.specs.declared.element.PhysicalType.TheVariants.{Boolean, Int32, Int64, Int96, Float, Double, ByteArray, FixedLenByteArray, Unknown as UnknownType}
use Rattle.parquet_footer.specs.declared.element.Repetition.{Repetition}
use Rattle.parquet_footer.specs.declared.element.Repetition.TheVariants.{Required, Optional, Repeated, Unknown as UnknownRepetition}
use Rattle.parquet_footer.specs.declared.element.Storage.{Storage}
use Rattle.parquet_footer.specs.declared.element.SchemaElement.{SchemaElement}
use Rattle.parquet_footer.specs.Fault.{needed, ◌>>=◌}
use Rattle.parquet_footer.specs.Fields.{pair_at, number_in, count_in, numbers_at}
use Rattle.parquet_footer.specs.Spelled.{Spelled, spelled, spelled_in}
use Rattle.parquet_footer.specs.Logical.{Logical, logical, logical_in}

-- a physical type by its number; any other is not known
abbrev pub physical_by : ℕ → PhysicalType
physical_by n =
    if n == 0 then Boolean else
    if n == 1 then Int32 else
    if n == 2 then Int64 else
    if n == 3 then Int96 else
    if n == 4 then Float else
    if n == 5 then Double else
    if n == 6 then ByteArray else
    if n == 7 then FixedLenByteArray else UnknownType (pos n)

abbrev pub physical_of : ℤ → PhysicalType
physical_of (pos n) = physical_by n
physical_of (negsuc n) = UnknownType (negsuc n)

-- a repetition by its number; any other is not known
abbrev pub repetition_by : ℕ → Repetition
repetition_by n =
    if n == 0 then Required else
    if n == 1 then Optional else
    if n == 2 then Repeated else UnknownRepetition (pos n)

abbrev pub repetition_of : ℤ → Repetition
repetition_of (pos n) = repetition_by n
repetition_of (negsuc n) = UnknownRepetition (negsuc n)

-- 1 type, 2 type_length, 3 repetition_type, 4 name, which need not be UTF-8
pub record Stored : Type 0 where
  pub physical_type : Option PhysicalType
  pub type_length : Option ℤ
  pub repetition : Option Repetition
  pub name : Spelled

abbrev pub stored : Storage → Stored
stored s = record { physical_type = s.physical_type; type_length = s.type_length; repetition = s.repetition; name = spelled s.name }

unfoldable pub storage_at : ℕ → List ℕ → Result Stored Fault
storage_at size bytes = do
  types ← numbers_at 1 2 bytes
  names ← pair_at 3 4 bytes
  repetition ← number_in names.0.0
  text ← spelled_in size names.0.1
  name ← needed bytes text
  Ok (record { physical_type = option_map physical_of types.0; type_length = types.1; repetition = option_map repetition_of repetition; name = name })

-- an element, and behind how many bytes of the footer it begins
pub record Element : Type 0 where
  pub byte : ℕ
  pub storage : Stored
  pub num_children : Option ℕ
  pub converted_type : Option ℤ
  pub scale : Option ℤ
  pub precision : Option ℤ
  pub logical_type : Option Logical

abbrev pub element : SchemaElement → Element
element e = record { byte = e.byte; storage = stored e.storage; num_children = e.num_children; converted_type = e.converted_type; scale = e.scale; precision = e.precision; logical_type = option_map logical e.logical_type }

-- an element, with 5 num_children, 6 converted_type, 7 scale, 8 precision, 10 logicalType, and the bytes behind it;
-- the footer has that size
unfoldable pub element_at : ℕ → List ℕ → Result (Element × List ℕ) Fault
element_at size bytes = do
  storage ← storage_at size bytes
  found ← pair_at 5 6 bytes
  num_children ← count_in found.0.0
  converted_type ← number_in found.0.1
  digits ← numbers_at 7 8 bytes
  last ← pair_at 10 10 bytes
  logical_type ← logical_in last.0.0
  Ok (record { byte = size - length bytes; storage = storage; num_children = num_children; converted_type = converted_type; scale = digits.0; precision = digits.1; logical_type = logical_type }, last.1)
