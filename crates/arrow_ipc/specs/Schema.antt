-- The schema of a message, and what stands around messages.
use Rattle.std.specs.Prelude.{◌≡◌, ℕ, ◌+◌, ◌-◌, ◌*◌, ◌≤◌, Bool, ◌&&◌, List, [], ◌∷◌, length, take, drop, map, Result, Ok, Err, nat_lt, nat_le, ◌==◌, if◌then◌else◌, codes}
use Rattle.std.specs.Str.{bytes_eq}
use Rattle.std.specs.Int.{w8, w16, w32, w64, from_le_bytes}
use Rattle.std.specs.Option.{unwrap_or}
use Rattle.arrow_values.specs.Tree.{Metadata}
use Rattle.arrow_values.specs.View.{texts_of}
use Rattle.arrow_columns.specs.Column.{column_tree}
use Rattle.arrow_columns.specs.Types.{ColumnTree}
use Rattle.arrow_ipc.specs.Fault.{◌>>=◌, breaks}
use Rattle.arrow_ipc.specs.Wire.{integer_at, opened_at, target_at, vector_at}
use Rattle.arrow_ipc.specs.Slots.{integer_in, table_in, vector_in}
use Rattle.arrow_ipc.specs.Columns.{texts_at, columns_by, column_at}
use Rattle.arrow_ipc.specs.Tells.{Fails, ◌>>+◌}
use Rattle.arrow_ipc.specs.declared.fault.IpcFault.{IpcFault}
use Rattle.arrow_ipc.specs.declared.fault.IpcError.{IpcError}
use Rattle.arrow_ipc.specs.declared.fault.IpcError.TheVariants.{Broken}
use Rattle.arrow_ipc.specs.declared.fault.IpcRule.{IpcRule}
use Rattle.arrow_ipc.specs.declared.fault.IpcRule.TheVariants.{Magic, FooterSize, Cut, EndOfStream, Message}
use Rattle.arrow_ipc.specs.declared.schema.Endianness.{Endianness}
use Rattle.arrow_ipc.specs.declared.schema.Endianness.TheVariants.{Little, Big}
use Rattle.arrow_ipc.specs.declared.schema.Head.{Head}
use Rattle.arrow_ipc.specs.declared.schema.Schema.{Schema}

pub record SchemaTree : Type 0 where
  pub columns : List ColumnTree
  pub metadata : Metadata
  pub endianness : Endianness

abbrev pub schema_tree : Schema → SchemaTree
schema_tree s = record { columns = map column_tree s.columns.items; metadata = texts_of s.metadata.entries; endianness = s.endianness }

-- what a schema's table says before its columns are read: slot 0 its byte order, 1 its columns, which it must have, 2 its metadata
unfoldable pub head_at : List ℕ → ℕ → Result Head IpcFault
head_at bytes at = do
  table ← opened_at bytes at
  order ← integer_in bytes table 0 w16 0
  fields ← (table_in bytes table 1 >>= vector_at bytes)
  texts ← vector_in bytes table 2
  Ok (record { endianness = if order == 0 then Little else Big; fields = fields; texts = unwrap_or texts (0, 0) })

-- a schema whose columns are read
abbrev pub with_columns : List ℕ → Head → List ColumnTree → Result (SchemaTree × ℕ) IpcFault
with_columns bytes h cs = do
  ms ← texts_at bytes h.texts
  Ok (record { columns = cs; metadata = ms.0; endianness = h.endianness }, ms.1)

-- the schema of a table, whose columns are no more than so many levels deep, and what it takes
unfoldable pub schema_at : ℕ → List ℕ → ℕ → Result (SchemaTree × ℕ) IpcFault
schema_at levels bytes table = do
  h ← head_at bytes table
  columns_by (column_at levels bytes) h.fields >>+ with_columns bytes h

-- version 4 is written 3, version 5 is written 4
abbrev pub is_version : ℕ → Bool
is_version version = nat_le 3 version && nat_le version 4

-- the schema's table in a message: slot 0 its version, 1 and 2 the header's tag, 1 for a schema, and table; slot 3 the length of its
-- body, which is 0
unfoldable pub message_at : List ℕ → Result ℕ IpcFault
message_at bytes = do
  message ← (target_at bytes 0 >>= opened_at bytes)
  version ← integer_in bytes message 0 w16 0
  tag ← integer_in bytes message 1 w8 0
  body ← integer_in bytes message 3 w64 0
  if is_version version && (tag == 1) && (body == 0) then table_in bytes message 2 else breaks Message message.at

-- the schema's table in a footer: slot 0 its version, 1 the schema
unfoldable pub footer_at : List ℕ → Result ℕ IpcFault
footer_at bytes = do
  footer ← (target_at bytes 0 >>= opened_at bytes)
  version ← integer_in bytes footer 0 w16 0
  if is_version version then table_in bytes footer 1 else breaks Message footer.at

-- so many bytes from a position on, which are some; or that rule is broken there
unfoldable pub cut : IpcRule → List ℕ → ℕ → ℕ → Result (List ℕ) IpcFault
cut rule bytes start size = if nat_lt 0 size && nat_le (start + size) (length bytes) then Ok (take size (drop start bytes)) else breaks rule start

-- the size at a position of a stream, which is not cut off
abbrev pub whole : ℕ → Result ℕ IpcFault → Result ℕ IpcFault
whole at (Ok size) = Ok size
whole at (Err fault) = breaks Cut at

abbrev pub size_at : List ℕ → ℕ → Result ℕ IpcFault
size_at bytes at = whole at (integer_at bytes at w32)

-- the message of that size at a position of a stream; a size of 0 is the stream's end
abbrev pub message_of : List ℕ → ℕ → ℕ → Result (List ℕ) IpcFault
message_of bytes start size = if nat_lt 0 size then cut Cut bytes start size else breaks EndOfStream start

-- the message of a stream: its size, which may have four bytes 255 before it, and the message
unfoldable pub message_in : List ℕ → Result (List ℕ) IpcFault
message_in bytes = do
  first ← size_at bytes 0
  if first == 0xffff_ffff then (do
    size ← size_at bytes 4
    message_of bytes 8 size) else message_of bytes 4 first

-- the size at a file's end, with its magic behind it
abbrev pub size_before_magic : ℕ → List ℕ → Result ℕ IpcFault
size_before_magic end (a ∷ b ∷ c ∷ d ∷ magic) = if bytes_eq magic (codes "ARROW1") then Ok (from_le_bytes w32 (a ∷ b ∷ c ∷ d ∷ [])) else breaks Magic end
size_before_magic end _ = breaks Magic end

-- the footer of a file: its size and the magic come behind it
unfoldable pub footer_in : List ℕ → Result (List ℕ) IpcFault
footer_in bytes = if nat_lt (length bytes) 10 then breaks Magic 0 else (do
  size ← size_before_magic (length bytes - 10) (drop (length bytes - 10) bytes)
  if nat_le size (length bytes - 10) then cut FooterSize (take (length bytes - 10) bytes) (length bytes - 10 - size) size else breaks FooterSize (length bytes - 10))

-- the schema whose table is there
abbrev pub schema_of : ℕ → Result ℕ IpcFault → List ℕ → Result (SchemaTree × ℕ) IpcFault
schema_of levels place bytes = place >>= schema_at levels bytes

unfoldable pub schema_of_message : ℕ → List ℕ → Result (SchemaTree × ℕ) IpcFault
schema_of_message levels bytes = schema_of levels (message_at bytes) bytes

unfoldable pub schema_of_footer : ℕ → List ℕ → Result (SchemaTree × ℕ) IpcFault
schema_of_footer levels bytes = schema_of levels (footer_at bytes) bytes

-- a call that reads a flatbuffer answers what it denotes, which takes no more than eight times its bytes; or says which rule is
-- broken where, or that it takes more
abbrev pub MeetsIn : (List ℕ → Result (SchemaTree × ℕ) IpcFault) → List ℕ → Result Schema IpcError → Type 0
MeetsIn read bytes (Ok s) = (n : ℕ) × (n ≤ 8 * length bytes) × (read bytes ≡ Ok (schema_tree s, n))
MeetsIn read bytes (Err e) = Fails (read bytes) (8 * length bytes) e

-- and one that reads it where it lies in other bytes
abbrev pub Meets : Result (List ℕ) IpcFault → (List ℕ → Result (SchemaTree × ℕ) IpcFault) → Result Schema IpcError → Type 0
Meets (Ok bytes) read result = MeetsIn read bytes result
Meets (Err fault) read result = result ≡ Err (Broken fault)
