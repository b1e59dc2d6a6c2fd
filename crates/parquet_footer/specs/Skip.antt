-- Passing over a value of any type, nested no more than so many levels deep.
use Rattle.std.specs.Prelude.{ℕ, zero, suc, Bool, ◌||◌, List, length, Result, Ok, nat_lt, ◌==◌, if◌then◌else◌}
use Rattle.parquet_footer.specs.declared.fault.Fault.{Fault}
use Rattle.parquet_footer.specs.declared.fault.FooterRule.TheVariants.{End, WireType, Depth}
use Rattle.parquet_footer.specs.Fault.{refused, ◌>>=◌}
use Rattle.parquet_footer.specs.Wire.{number_past, bytes_past, binary_at, list_at, map_at, field_at}

-- the fields of a struct up to its end, behind a field of that id, no more of them than so many:
-- each, by its id and its type, takes a state on, and leaves the bytes behind its value
unfoldable pub fields_at : {S : Type 0} → (S → ℕ → ℕ → List ℕ → Result (S × List ℕ) Fault) → ℕ → ℕ → S → List ℕ → Result (S × List ℕ) Fault
fields_at step zero last state bytes = refused End bytes
fields_at step (suc n) last state bytes = do
  field ← field_at last bytes
  if field.1 == 0 then Ok (state, field.2) else (do
    next ← step state field.0 field.1 field.2
    fields_at step n field.0 next.0 next.1)

-- so many items
unfoldable pub items_past : (List ℕ → Result (List ℕ) Fault) → ℕ → List ℕ → Result (List ℕ) Fault
items_past item zero bytes = Ok bytes
items_past item (suc n) bytes = do
  rest ← item bytes
  items_past item n rest

-- the types that have no parts: 1 and 2 truth values, which are their types, 3 a byte, 4 to 6 numbers, 7 a float, 8 bytes, 13 an id
unfoldable pub plain_past : ℕ → List ℕ → Result (List ℕ) Fault
plain_past type bytes =
    if type == 1 then Ok bytes else
    if type == 2 then Ok bytes else
    if type == 3 then bytes_past 1 bytes else
    if type == 4 then number_past 10 bytes else
    if type == 5 then number_past 10 bytes else
    if type == 6 then number_past 10 bytes else
    if type == 7 then bytes_past 8 bytes else
    if type == 8 then (binary_at bytes >>= λ x. Ok x.1) else
    if type == 13 then bytes_past 16 bytes else refused WireType bytes

abbrev pub over : (ℕ → List ℕ → Result (List ℕ) Fault) → Unit {0} → ℕ → ℕ → List ℕ → Result (Unit {0} × List ℕ) Fault
over value state id type bytes = value type bytes >>= λ rest. Ok (tt, rest)

-- the fields of a struct; there are no more of them than bytes
unfoldable pub struct_past : (ℕ → List ℕ → Result (List ℕ) Fault) → List ℕ → Result (List ℕ) Fault
struct_past value bytes = fields_at (over value) (length bytes) 0 tt bytes >>= λ x. Ok x.1

abbrev pub pair_past : (ℕ → List ℕ → Result (List ℕ) Fault) → ℕ → ℕ → List ℕ → Result (List ℕ) Fault
pair_past value key other bytes = value key bytes >>= value other

-- the types that have parts: 9 lists and 10 sets, 11 maps, 12 structs
unfoldable pub nested_past : (ℕ → List ℕ → Result (List ℕ) Fault) → ℕ → List ℕ → Result (List ℕ) Fault
nested_past value type bytes =
    if type == 12 then struct_past value bytes else
    if type == 11 then (do
      m ← map_at bytes
      items_past (pair_past value m.0 m.1) m.2 m.3) else (do
        l ← list_at bytes
        items_past (value l.0) l.1 l.2)

abbrev pub is_plain : ℕ → Bool
is_plain type = nat_lt type 9 || nat_lt 12 type

unfoldable pub value_past : ℕ → ℕ → List ℕ → Result (List ℕ) Fault
value_past zero type bytes = if is_plain type then plain_past type bytes else refused Depth bytes
value_past (suc levels) type bytes = if is_plain type then plain_past type bytes else nested_past (value_past levels) type bytes
