-- One record (docs/FORMAT.md, 6.1): its size, seven numbers, metadata, and two texts, each with a
-- NUL behind it. What stands behind these, up to the size, is not looked at.
use Rattle.std.specs.Prelude.{ℕ, ◌/◌, ◌%◌, zero, suc, Bool, not, ◌&&◌, ◌||◌, List, [], ◌∷◌, length}
use Rattle.std.specs.Prelude.{take, drop, Option, Some, None, option_map, Result, Ok, Err, nat_le}
use Rattle.std.specs.Prelude.{nat_lt, ◌==◌, if◌then◌else◌}
use Rattle.std.specs.List.{list_any}
use Rattle.std.specs.Int.{w32, from_le_bytes}
use Rattle.std.specs.Str.{is_utf8}
use Rattle.record_wire.specs.Fault.{◌>>=◌, kept, within}
use Rattle.record_wire.specs.declared.fault.Fault.{Fault}
use Rattle.record_wire.specs.declared.fault.Rule.{Rule}
use Rattle.record_wire.specs.declared.fault.Rule.TheVariants.{End, Size, Marks, Nul, Utf8}
use Rattle.record_wire.specs.declared.record.Record.{Record}
use Rattle.record_wire.specs.declared.record.Numbers.{Numbers}

-- a number of four bytes, the least first, and the bytes behind it
unfoldable pub number_at : List ℕ → Result (ℕ × List ℕ) Rule
number_at bytes = do
  _ ← kept (nat_le 4 (length bytes)) End
  Ok (from_le_bytes w32 (take 4 bytes), drop 4 bytes)

-- so many bytes, and those behind them
unfoldable pub bytes_at : ℕ → List ℕ → Result (List ℕ × List ℕ) Rule
bytes_at count bytes = do
  _ ← kept (nat_le count (length bytes)) End
  Ok (take count bytes, drop count bytes)

-- a NUL, and the bytes behind it
abbrev pub behind_nul : List ℕ → Result (List ℕ) Rule
behind_nul [] = Err Nul
behind_nul (zero ∷ rest) = Ok rest
behind_nul (suc b ∷ rest) = Err Nul

abbrev pub has_nul : List ℕ → Bool
has_nul text = list_any (λ b. b == 0) text

-- a text of so many bytes in UTF-8, which ends at its first NUL, and the bytes behind that
unfoldable pub text_at : ℕ → List ℕ → Result (List ℕ × List ℕ) Rule
text_at count bytes = do
  text ← bytes_at count bytes
  rest ← behind_nul text.1
  _ ← kept (not (has_nul text.0)) Nul
  _ ← kept (is_utf8 text.0) Utf8
  Ok (text.0, rest)

-- a length, and a text of so many bytes in UTF-8, as metadata have it; and the bytes behind it
unfoldable pub utf8_at : List ℕ → Result (List ℕ × List ℕ) Rule
utf8_at bytes = do
  count ← number_at bytes
  text ← bytes_at count.0 count.1
  _ ← kept (is_utf8 text.0) Utf8
  Ok (text.0, text.1)

-- how many children, marks, flags, level, and the lengths of metadata, format and name
unfoldable pub numbers_at : List ℕ → Result (Numbers × List ℕ) Rule
numbers_at bytes = do
  a ← number_at bytes
  b ← number_at a.1
  c ← number_at b.1
  d ← number_at c.1
  e ← number_at d.1
  f ← number_at e.1
  g ← number_at f.1
  Ok (
    record {
      children = a.0;
      marks = b.0;
      flags = c.0;
      level = d.0;
      metadata = e.0;
      format = f.0;
      name = g.0;
    },
    g.1,
  )

-- marks: 1 a dictionary, 2 no name, 4 metadata
abbrev pub has_dictionary : ℕ → Bool
has_dictionary marks = marks % 2 == 1

abbrev pub has_name : ℕ → Bool
has_name marks = (marks / 2) % 2 == 0

abbrev pub has_metadata : ℕ → Bool
has_metadata marks = nat_le 4 marks

-- the marks are known, and what the structure has not takes no bytes
abbrev pub are_marked : Numbers → Bool
are_marked n =
    nat_lt n.marks 8 &&
    ((has_name n.marks || (n.name == 0)) && (has_metadata n.marks || (n.metadata == 0)))

-- a value that is there, or not
abbrev pub option_if : {A : Type 0} → Bool → A → Option A
option_if there x = if there then Some x else None

-- a structure without its pointers
pub record Structure : Type 0 where
  pub children : ℕ
  pub has_dictionary : Bool
  pub flags : ℕ
  pub level : ℕ
  pub metadata : Option (List ℕ)
  pub format : List ℕ
  pub name : Option (List ℕ)

abbrev pub structure : Record → Structure
structure r = record {
  children = r.children;
  has_dictionary = r.has_dictionary;
  flags = r.flags;
  level = r.level;
  metadata = option_map (λ m. m.now) r.metadata;
  format = r.format.now;
  name = option_map (λ n. n.now) r.name;
}

-- the structure of numbers, metadata, format and name
abbrev pub structure_of : Numbers → List ℕ → List ℕ → List ℕ → Structure
structure_of n metadata format name = record {
  children = n.children;
  has_dictionary = has_dictionary n.marks;
  flags = n.flags;
  level = n.level;
  metadata = option_if (has_metadata n.marks) metadata;
  format = format;
  name = option_if (has_name n.marks) name;
}

-- what stands behind a record's size
unfoldable pub parts_at : List ℕ → Result Structure Rule
parts_at bytes = do
  n ← numbers_at bytes
  _ ← kept (are_marked n.0) Marks
  metadata ← bytes_at n.0.metadata n.1
  format ← text_at n.0.format metadata.1
  name ← text_at n.0.name format.1
  Ok (structure_of n.0 metadata.0 format.0 name.0)

-- a record's size, in so many bytes
abbrev pub is_size : ℕ → ℕ → Bool
is_size size room = (size % 8 == 0) && (nat_le 32 size && nat_le size room)

-- a record's size, which it keeps within the bytes
unfoldable pub size_at : List ℕ → Result ℕ Rule
size_at bytes = do
  size ← number_at bytes
  _ ← kept (is_size size.0 (length bytes)) Size
  Ok size.0

-- the structure of the record at the front of the bytes, and the bytes behind it
unfoldable pub record_at : List ℕ → Result (Structure × List ℕ) Fault
record_at bytes = do
  size ← within bytes (size_at bytes)
  one ← within bytes (parts_at (drop 4 (take size bytes)))
  Ok (one, drop size bytes)
