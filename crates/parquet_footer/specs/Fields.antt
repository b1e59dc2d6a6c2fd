-- The fields of a struct that are read, by their ids.
use Rattle.std.specs.Prelude.{ℕ, ℤ, Bool, ◌||◌, List, [], length, Option, Some, None, Result, Ok, ◌==◌, if◌then◌else◌}
use Rattle.parquet_footer.specs.declared.fault.Fault.{Fault}
use Rattle.parquet_footer.specs.declared.fault.FooterRule.TheVariants.{WireType, Repeated}
use Rattle.parquet_footer.specs.declared.fields.Place.{Place}
use Rattle.parquet_footer.specs.Fault.{refused, kept, needed, ◌>>=◌}
use Rattle.parquet_footer.specs.Wire.{signed_at, count_at, text_at, list_at}
use Rattle.parquet_footer.specs.Skip.{fields_at, value_past}

-- the type of a value, and the bytes that it begins
abbrev pub Spot : Type 0
Spot = ℕ × List ℕ

abbrev pub spot : Place → Spot
spot p = (p.kind, p.bytes.now)

abbrev pub spots : Option Place → Option Spot
spots None = None
spots (Some p) = Some (spot p)

-- the value of the field that is looked for, which stands once
abbrev pub noted : ℕ → ℕ → Spot → Option Spot → Result (Option Spot) Fault
noted wanted id value None = if id == wanted then Ok (Some value) else Ok None
noted wanted id value (Some old) = if id == wanted then refused Repeated value.1 else Ok (Some old)

unfoldable pub noting : ℕ → ℕ → Option Spot × Option Spot → ℕ → ℕ → List ℕ → Result ((Option Spot × Option Spot) × List ℕ) Fault
noting one other found id type bytes = do
  rest ← value_past 64 type bytes
  a ← noted one id (type, bytes) found.0
  b ← noted other id (type, bytes) found.1
  Ok ((a, b), rest)

-- two fields of a struct, by their ids, and the bytes behind the struct
unfoldable pub pair_at : ℕ → ℕ → List ℕ → Result ((Option Spot × Option Spot) × List ℕ) Fault
pair_at one other bytes = fields_at (noting one other) (length bytes) 0 (None, None) bytes

-- the bytes of a value, which has that type
abbrev pub value_of : ℕ → Spot → Result (List ℕ) Fault
value_of type p = do
  _ ← kept (p.0 == type) WireType p.1
  Ok p.1

-- the values of fields, where they are there
abbrev pub number_in : Option Spot → Result (Option ℤ) Fault
number_in None = Ok None
number_in (Some p) = do
  bytes ← value_of 5 p
  n ← signed_at bytes
  Ok (Some n.0)

-- a number that is not negative
abbrev pub count_in : Option Spot → Result (Option ℕ) Fault
count_in None = Ok None
count_in (Some p) = do
  bytes ← value_of 5 p
  n ← count_at bytes
  Ok (Some n.0)

-- the numbers in two fields of a struct, by their ids
unfoldable pub numbers_at : ℕ → ℕ → List ℕ → Result (Option ℤ × Option ℤ) Fault
numbers_at one other bytes = do
  found ← pair_at one other bytes
  first ← number_in found.0.0
  second ← number_in found.0.1
  Ok (first, second)

unfoldable pub text_in : Option Spot → Result (Option (List ℕ)) Fault
text_in None = Ok None
text_in (Some p) = do
  bytes ← value_of 8 p
  text ← text_at bytes
  Ok (Some text)

-- a truth value, which is its type: 1 true, 2 false
abbrev pub flag_in : List ℕ → Option Spot → Result Bool Fault
flag_in bytes place = do
  p ← needed bytes place
  _ ← kept (p.0 == 1 || p.0 == 2) WireType p.1
  Ok (p.0 == 1)

-- how many structs a list has, none where it is missing, and their bytes; an empty list may have items of any type
unfoldable pub structs_in : Option Spot → Result (ℕ × List ℕ) Fault
structs_in None = Ok (0, [])
structs_in (Some p) = do
  bytes ← value_of 9 p
  l ← list_at bytes
  _ ← kept (l.0 == 12 || l.1 == 0) WireType bytes
  Ok (l.1, l.2)
