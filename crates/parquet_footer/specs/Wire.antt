-- Values of Thrift's compact protocol at the front of the bytes, each with the bytes behind it.
use Rattle.std.specs.Prelude.{ℕ, ◌+◌, ◌-◌, ◌*◌, ◌/◌, ◌%◌, ◌^◌, ℤ, pos, negsuc, List, [], ◌∷◌, length, take, drop, Result, Ok, not, nat_lt, nat_le, ◌==◌, if◌then◌else◌}
use Rattle.std.specs.Str.{is_utf8}
use Rattle.parquet_footer.specs.declared.fault.Fault.{Fault}
use Rattle.parquet_footer.specs.declared.fault.FooterRule.TheVariants.{End, Number, Negative, Length, WireType, FieldId, Utf8}
use Rattle.parquet_footer.specs.Fault.{refused, kept, ◌>>=◌}

abbrev pub byte_at : List ℕ → Result (ℕ × List ℕ) Fault
byte_at [] = refused End []
byte_at (b ∷ rest) = Ok (b, rest)

-- a number in at most so many bytes: seven bits in each, the lowest first; a byte from 128 on is not the last
unfoldable pub number_at : ℕ → List ℕ → Result (ℕ × List ℕ) Fault
number_at most [] = refused End []
number_at most (b ∷ rest) =
    if nat_lt b 128 then Ok (b, rest) else (do
      _ ← kept (nat_lt 1 most) Number (b ∷ rest)
      high ← number_at (most - 1) rest
      _ ← kept (nat_lt high.0 (2 ^ 25)) Number (b ∷ rest)
      Ok ((b - 128) + 128 * high.0, high.1))

-- a number that is passed over
unfoldable pub number_past : ℕ → List ℕ → Result (List ℕ) Fault
number_past most [] = refused End []
number_past most (b ∷ rest) =
    if nat_lt b 128 then Ok rest else
    if nat_lt most 2 then refused Number (b ∷ rest) else number_past (most - 1) rest

-- zigzag: 0 is 0, 1 is -1, 2 is 1, 3 is -2 and so on
abbrev pub zigzag : ℕ → ℤ
zigzag n = if n % 2 == 0 then pos (n / 2) else negsuc (n / 2)

unfoldable pub signed_at : List ℕ → Result (ℤ × List ℕ) Fault
signed_at bytes = do
  n ← number_at 5 bytes
  Ok (zigzag n.0, n.1)

-- one that is not negative
unfoldable pub count_at : List ℕ → Result (ℕ × List ℕ) Fault
count_at bytes = do
  n ← number_at 5 bytes
  _ ← kept (n.0 % 2 == 0) Negative bytes
  Ok (n.0 / 2, n.1)

abbrev pub bytes_past : ℕ → List ℕ → Result (List ℕ) Fault
bytes_past n bytes = do
  _ ← kept (nat_le n (length bytes)) End bytes
  Ok (drop n bytes)

-- a length, and so many bytes
unfoldable pub binary_at : List ℕ → Result (List ℕ × List ℕ) Fault
binary_at bytes = do
  n ← number_at 5 bytes
  _ ← kept (nat_le n.0 (length n.1)) Length bytes
  Ok (take n.0 n.1, drop n.0 n.1)

unfoldable pub text_at : List ℕ → Result (List ℕ) Fault
text_at bytes = do
  text ← binary_at bytes
  if is_utf8 text.0 then Ok text.0 else refused Utf8 bytes

-- as an item a truth value takes a byte, as the type 3 does
abbrev pub item_type : ℕ → ℕ
item_type type = if type == 1 then 3 else if type == 2 then 3 else type

-- the head of a list or a set: the items' type and how many they are; a size of 15 denotes a number behind it
unfoldable pub list_at : List ℕ → Result (ℕ × ℕ × List ℕ) Fault
list_at bytes = do
  b ← byte_at bytes
  n ← (if nat_lt b.0 240 then Ok (b.0 / 16, b.1) else number_at 5 b.1)
  _ ← kept (nat_le n.0 (length n.1)) Length bytes
  Ok (item_type (b.0 % 16), n.0, n.1)

-- the head of a map: the types of keys and values, and how many pairs they are; an empty map has no types
unfoldable pub map_at : List ℕ → Result (ℕ × ℕ × ℕ × List ℕ) Fault
map_at bytes = do
  n ← number_at 5 bytes
  if n.0 == 0 then Ok (3, 3, 0, n.1) else (do
    b ← byte_at n.1
    _ ← kept (nat_le n.0 (length b.1)) Length bytes
    Ok (item_type (b.0 / 16), item_type (b.0 % 16), n.0, b.1))

-- the head of a field behind a field of that id: its id and its type, which is 0 at the end of a struct; the id is so many more
-- than the one before, or, where that is 0, a number behind the head
unfoldable pub field_at : ℕ → List ℕ → Result (ℕ × ℕ × List ℕ) Fault
field_at last bytes = do
  b ← byte_at bytes
  if b.0 == 0 then Ok (last, 0, b.1) else (do
    _ ← kept (not (b.0 % 16 == 0)) WireType bytes
    id ← (if b.0 / 16 == 0 then count_at b.1 else Ok (last + b.0 / 16, b.1))
    _ ← kept (nat_lt id.0 32768) FieldId b.1
    Ok (id.0, b.0 % 16, id.1))
