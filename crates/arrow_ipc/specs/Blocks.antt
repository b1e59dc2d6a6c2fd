-- Blocks of which a message is made: bytes that may stand at any multiple of eight, and lead to nothing but themselves. In a
-- table's block the table comes first, its vtable behind it, and what its offsets lead to behind that.
use Rattle.std.specs.Prelude.{◌≡◌, ℕ, zero, suc, ◌+◌, ◌-◌, ◌*◌, ◌/◌, ◌%◌, ◌^◌, ◌<◌, ◌≤◌, ℤ, pos, negsuc, Bool, List, [], ◌∷◌, ◌++◌, length, drop, replicate, Option, Some, None, Result, Ok}
use Rattle.std.specs.Int.{w32, to_le_bytes}
use Rattle.std.specs.List.{concat}
use mir.Val.{bool_byte}
use Rattle.arrow_values.specs.Tree.{Text, Metadata}
use Rattle.arrow_values.specs.declared.tree.UnionMode.{UnionMode}
use Rattle.arrow_values.specs.declared.tree.UnionMode.TheVariants.{Sparse, Dense}
use Rattle.arrow_columns.specs.Types.{TypeTree, ColumnTree}
use Rattle.arrow_ipc.specs.Fault.{◌>>=◌, breaks}
use Rattle.arrow_ipc.specs.Tells.{◌>>+◌}
use Rattle.arrow_ipc.specs.Wire.{opened_at, slot_at, utf8_at, vector_at}
use Rattle.arrow_ipc.specs.Kinds.{kind_at}
use Rattle.arrow_ipc.specs.Parts.{zone_or_ids, parts_in}
use Rattle.arrow_ipc.specs.Columns.{entry_in, entry_price, texts_at, typed, columns_by, column_at, finished, priced}
use Rattle.arrow_ipc.specs.declared.fault.IpcFault.{IpcFault}
use Rattle.arrow_ipc.specs.declared.fault.IpcRule.TheVariants.{Depth}
use Rattle.arrow_kinds.specs.declared.kind.Kind.{Kind}
use Rattle.arrow_ipc.specs.declared.wire.Table.{Table}
use Rattle.arrow_ipc.specs.declared.schema.Endianness.{Endianness}
use Rattle.arrow_ipc.specs.declared.schema.Endianness.TheVariants.{Little, Big}

-- a block stands at a position, which is a multiple of eight
pub record Lies (block bytes : List ℕ) (at : ℕ) : Type 0 where
  pub after : List ℕ
  pub is : drop at bytes ≡ block ++ after
  pub whole : at % 8 ≡ 0

-- a value is read wherever the block stands, and what it takes of a budget is no more than the block's bytes
pub record Holds {A : Type 0} (read : List ℕ → ℕ → Result (A × ℕ) IpcFault) (block : List ℕ) (a : A) : Type 0 where
  pub whole : length block % 8 ≡ 0
  pub reads : (bytes : List ℕ) (at : ℕ) → Lies block bytes at → (n : ℕ) × (n ≤ length block) × (read bytes at ≡ Ok (a, n))

-- a number of four bytes
abbrev pub word : ℕ → List ℕ
word n = to_le_bytes w32 n

-- the least multiple of eight from a number on
abbrev pub rounded : ℕ → ℕ
rounded n = (n + 7) / 8 * 8

unfoldable pub padded : List ℕ → List ℕ
padded bytes = bytes ++ replicate (rounded (length bytes) - length bytes) 0

-- the offsets from a position on to tables that stand one behind the other from another position on
unfoldable pub offsets : ℕ → ℕ → List (List ℕ) → List ℕ
offsets at table [] = []
offsets at table (b ∷ bs) = word (table - at) ++ offsets (at + 4) (table + length b) bs

-- how many bytes blocks have in all
abbrev pub lengths : List (List ℕ) → ℕ
lengths [] = 0
lengths (b ∷ bs) = length b + lengths bs

-- a number, offsets to blocks, and other bytes, with the blocks behind them
unfoldable pub linked : ℕ → List (List ℕ) → List ℕ → List ℕ
linked first bs rest = padded (word first ++ (offsets 4 (rounded (4 + (4 * length bs + length rest))) bs ++ rest)) ++ concat bs

-- a text with a NUL, and a vector of tables
abbrev pub text_block : Text → List ℕ
text_block text = linked (length text) [] (text ++ 0 ∷ [])

abbrev pub vector_block : List (List ℕ) → List ℕ
vector_block bs = linked (length bs) bs []

-- a table: the offsets to its blocks, its numbers, and its vtable, which has for each slot how far it is from the table's begin
abbrev pub table_size : List (List ℕ) → List ℕ → ℕ
table_size bs numbers = 4 + (4 * length bs + length numbers)

abbrev pub places : List ℕ → List ℕ
places [] = []
places (s ∷ ss) = s ∷ 0 ∷ places ss

abbrev pub table_block : List ℕ → List ℕ → List (List ℕ) → List ℕ
table_block slots numbers bs = linked (2 ^ 32 - table_size bs numbers) bs (numbers ++ ((4 + 2 * length slots) ∷ 0 ∷ table_size bs numbers ∷ 0 ∷ places slots))

-- an entry of metadata
abbrev pub entry_block : List ℕ → List ℕ → List ℕ
entry_block key text = table_block (4 ∷ 8 ∷ []) [] (key ∷ text ∷ [])

abbrev pub text_read : List ℕ → ℕ → Result (Text × ℕ) IpcFault
text_read bytes at = utf8_at bytes at >>= λ t. Ok (t, length t)

abbrev pub entry_read : List ℕ → ℕ → Result ((Text × Text) × ℕ) IpcFault
entry_read bytes table = entry_in bytes table >>= λ e. Ok (e, entry_price e)

-- metadata, and columns
abbrev pub texts_read : List ℕ → ℕ → Result (Metadata × ℕ) IpcFault
texts_read bytes at = vector_at bytes at >>= texts_at bytes

unfoldable pub column_in : ℕ → List ℕ → ℕ → Result (ColumnTree × ℕ) IpcFault
column_in depth bytes table = priced (parts_in bytes table) >>+ λ p. columns_by (column_at depth bytes) p.children >>+ finished bytes p

-- a column that another nests, where so many levels are left
abbrev pub child_in : ℕ → List ℕ → ℕ → Result (ColumnTree × ℕ) IpcFault
child_in zero bytes table = breaks Depth table
child_in (suc levels) bytes table = column_in levels bytes table

abbrev pub columns_read : ℕ → List ℕ → ℕ → Result (List ColumnTree × ℕ) IpcFault
columns_read depth bytes at = vector_at bytes at >>= columns_by (column_at depth bytes)

-- a column, given the blocks of its name, its type, its children and its metadata
abbrev pub column_block : List ℕ → List ℕ → List ℕ → List ℕ → Bool → ℕ → List ℕ
column_block name type children texts nullable tag =
    table_block (4 ∷ 20 ∷ 21 ∷ 8 ∷ 0 ∷ 12 ∷ 16 ∷ []) (bool_byte nullable ∷ tag ∷ 0 ∷ 0 ∷ []) (name ∷ type ∷ children ∷ texts ∷ [])

-- what is read of a type's table, given the children
pub record ReadsType (tag : ℕ) (cs : List ColumnTree) (t : TypeTree) (bytes : List ℕ) (at : ℕ) : Type 0 where
  pub table : Table
  pub first : Option ℕ
  pub kind : Kind
  pub ids : Option (ℕ × ℕ)
  pub is_open : opened_at bytes at ≡ Ok table
  pub is_first : slot_at bytes table 0 ≡ Ok first
  pub is_kind : kind_at bytes tag table ≡ Ok kind
  pub is_own : zone_or_ids bytes tag table ≡ Ok ([], ids)
  pub is_type : (place : ℕ) → typed bytes place kind [] ids cs ≡ Ok t

-- a type's block
pub record IsType (tag : ℕ) (block : List ℕ) (cs : List ColumnTree) (t : TypeTree) : Type 0 where
  pub whole : length block % 8 ≡ 0
  pub some : 0 < tag
  pub least : tag ≤ 26
  pub reads : (bytes : List ℕ) (at : ℕ) → Lies block bytes at → ReadsType tag cs t bytes at

-- a type's table has at most a number and a truth value of its own
abbrev pub number : Option ℕ → ℕ
number None = 0
number (Some n) = n

abbrev pub truth : Option Bool → ℕ
truth None = 0
truth (Some b) = bool_byte b

abbrev pub place_of_number : Option ℕ → ℕ
place_of_number None = 0
place_of_number (Some n) = 4

abbrev pub place_of_truth : Option Bool → ℕ
place_of_truth None = 0
place_of_truth (Some b) = 8

abbrev pub type_block : Option ℕ → Option Bool → List ℕ
type_block n b = table_block (place_of_number n ∷ place_of_truth b ∷ []) (word (number n) ++ truth b ∷ 0 ∷ 0 ∷ 0 ∷ []) []

-- a schema, given the blocks of its columns and its metadata
abbrev pub order_number : Endianness → ℕ
order_number Little = 0
order_number Big = 1

abbrev pub schema_block : List ℕ → List ℕ → Endianness → List ℕ
schema_block columns texts order = table_block (12 ∷ 4 ∷ 8 ∷ []) (order_number order ∷ 0 ∷ 0 ∷ 0 ∷ []) (columns ∷ texts ∷ [])

-- a message of version 5 whose header is a schema: its root comes after eight bytes
abbrev pub message_block : List ℕ → List ℕ
message_block schema = 8 ∷ 0 ∷ 0 ∷ 0 ∷ 0 ∷ 0 ∷ 0 ∷ 0 ∷ table_block (8 ∷ 10 ∷ 4 ∷ []) (4 ∷ 0 ∷ 1 ∷ 0 ∷ []) (schema ∷ [])

-- the message in a stream, after the marker and its size
abbrev pub stream_block : List ℕ → List ℕ
stream_block message = word 0xffff_ffff ++ (word (length message) ++ message)

-- a union's table, with the vector of its type ids
abbrev pub mode_number : UnionMode → ℕ
mode_number Sparse = 0
mode_number Dense = 1

abbrev pub id_number : ℤ → ℕ
id_number (pos n) = n
id_number (negsuc n) = 0

abbrev pub id_words : List ℤ → List ℕ
id_words [] = []
id_words (i ∷ is) = word (id_number i) ++ id_words is

abbrev pub union_block : UnionMode → List ℤ → List ℕ
union_block mode ids = table_block (8 ∷ 4 ∷ []) (mode_number mode ∷ 0 ∷ 0 ∷ 0 ∷ []) (linked (length ids) [] (id_words ids) ∷ [])
