-- One record as it is written (docs/FORMAT.md, 6.1), and what is read of it.
use Rattle.std.specs.Prelude.{◌≡◌, ℕ, ◌+◌, ◌-◌, ◌*◌, ◌/◌, ◌^◌, ◌<◌, ◌≤◌, Bool, true, false, ◌||◌}
use Rattle.std.specs.Prelude.{List, [], ◌∷◌, ◌++◌, length, replicate, Option, Some, None, Ok}
use Rattle.std.specs.Int.{w32, to_le_bytes}
use Rattle.std.specs.Str.{is_utf8}
use Rattle.record_wire.specs.Record.{Structure, has_nul, record_at}
use Rattle.record_wire.specs.declared.write.WriteError.{WriteError}
use Rattle.record_wire.specs.declared.write.WriteError.TheVariants.{Nul, TooLarge, TooDeep}
use Rattle.record_wire.specs.declared.write.WriteError.TheVariants.{OutOfMemory}

-- a number of four bytes, the least first
unfoldable pub word : ℕ → List ℕ
word n = to_le_bytes w32 n

abbrev pub text_of : Option (List ℕ) → List ℕ
text_of None = []
text_of (Some text) = text

-- marks: 1 a dictionary, 2 no name, 4 metadata
abbrev pub dictionary_mark : Bool → ℕ
dictionary_mark true = 1
dictionary_mark false = 0

abbrev pub name_mark : Option (List ℕ) → ℕ
name_mark None = 2
name_mark (Some name) = 0

abbrev pub metadata_mark : Option (List ℕ) → ℕ
metadata_mark None = 0
metadata_mark (Some metadata) = 4

abbrev pub marks_of : Structure → ℕ
marks_of s = dictionary_mark s.has_dictionary + (name_mark s.name + metadata_mark s.metadata)

-- how long a record is without its padding, and with it
abbrev pub room_of : Structure → ℕ
room_of s = 34 + (length (text_of s.metadata) + (length s.format + length (text_of s.name)))

abbrev pub size_of : Structure → ℕ
size_of s = (room_of s + 7) / 8 * 8

-- the eight numbers of a record
abbrev pub head_of : Structure → List ℕ
head_of s =
    word (size_of s) ++ (word s.children ++ (word (marks_of s) ++ (word s.flags ++ (word s.level ++
    (word (length (text_of s.metadata)) ++ (word (length s.format) ++
    word (length (text_of s.name))))))))

abbrev pub text_then : List ℕ → List ℕ → List ℕ
text_then text rest = text ++ 0 ∷ rest

-- metadata, format and name, and the zeros up to a multiple of eight
abbrev pub texts_of : Structure → List ℕ
texts_of s =
    let padding = replicate (size_of s - room_of s) 0 in
    text_of s.metadata ++ text_then s.format (text_then (text_of s.name) padding)

-- the record of a structure
abbrev pub bytes_of : Structure → List ℕ
bytes_of s = head_of s ++ texts_of s

abbrev pub has_nuls : Structure → Bool
has_nuls s = has_nul s.format || has_nul (text_of s.name)

-- a structure that a record holds
pub record IsSound (s : Structure) : Type 0 where
  pub children : s.children < 2 ^ 32
  pub flags : s.flags < 2 ^ 32
  pub level : s.level < 2 ^ 32
  pub size : size_of s ≤ 2 ^ 28
  pub no_nuls : has_nuls s ≡ false
  pub format : is_utf8 s.format ≡ true
  pub name : is_utf8 (text_of s.name) ≡ true

-- wherever these bytes stand first, they are read as that structure, and no byte behind them is
abbrev pub IsReadAs : List ℕ → Structure → Type 0
IsReadAs bytes s = (rest : List ℕ) → record_at (bytes ++ rest) ≡ Ok (s, rest)

-- why the record of a structure is not written
abbrev pub Refuses : WriteError → Structure → Type 0
Refuses Nul s = has_nuls s ≡ true
Refuses TooLarge s = 2 ^ 28 < size_of s
Refuses TooDeep s = ⊥
Refuses OutOfMemory s = Unit {0}
