-- The columns of a message, with all that is below them. What a column takes of the budget is 16 for its tables and the bytes of
-- its texts, and 8 and its texts for each entry of its metadata.
use Rattle.std.specs.Int.{w32}
use Rattle.std.specs.Option.{option_map_or}
use Rattle.std.specs.Prelude.{ℕ, zero, suc, ◌+◌, ◌*◌, ℤ, pos, Bool, true, ◌&&◌, not, List, [], ◌∷◌, ◌++◌, length, Option, Some, None, Result, Ok, nat_lt, ◌==◌, if◌then◌else◌}
use Rattle.arrow_values.specs.Tree.{Text, Metadata}
use Rattle.arrow_values.specs.Texts.{put_text}
use Rattle.arrow_values.specs.Union.{has}
use Rattle.arrow_columns.specs.Types.{TypeTree, ColumnTree}
use Rattle.arrow_ipc.specs.Fault.{◌>>=◌, breaks}
use Rattle.arrow_ipc.specs.Wire.{opened_at, integer_at, target_at, utf8_at}
use Rattle.arrow_ipc.specs.Slots.{table_in}
use Rattle.arrow_ipc.specs.Parts.{Own, parts_at}
use Rattle.arrow_kinds.specs.Types.{type_of, with_dictionary}
use Rattle.arrow_ipc.specs.Tells.{◌>>+◌, gather}
use Rattle.arrow_ipc.specs.declared.fault.IpcFault.{IpcFault}
use Rattle.arrow_ipc.specs.declared.fault.IpcRule.TheVariants.{Children, TypeIds, Depth}
use Rattle.arrow_kinds.specs.declared.kind.Kind.{Kind}
use Rattle.arrow_kinds.specs.declared.kind.Kind.TheVariants.{Union}

-- an entry of metadata: slot 0 of its table is its key, slot 1 its text. The last text of a key counts
unfoldable pub entry_in : List ℕ → ℕ → Result (Text × Text) IpcFault
entry_in bytes at = do
  table ← opened_at bytes at
  key ← (table_in bytes table 0 >>= utf8_at bytes)
  text ← (table_in bytes table 1 >>= utf8_at bytes)
  Ok (key, text)

-- the entry to which the offset at a position leads
unfoldable pub entry_at : List ℕ → ℕ → Result (Text × Text) IpcFault
entry_at bytes at = target_at bytes at >>= entry_in bytes

abbrev pub entry_price : Text × Text → ℕ
entry_price e = 8 + length e.0 + length e.1

-- an entry that is put to those before it
abbrev pub put_entry : List ℕ → ℕ → Metadata → Result (Metadata × ℕ) IpcFault
put_entry bytes at texts = do
  e ← entry_at bytes at
  Ok (put_text e.0 e.1 texts, entry_price e)

abbrev pub put_next : List ℕ → ℕ → Metadata → ℕ → Result (Metadata × ℕ) IpcFault
put_next bytes start texts i = put_entry bytes (start + 4 * i) texts

unfoldable pub texts_at : List ℕ → ℕ × ℕ → Result (Metadata × ℕ) IpcFault
texts_at bytes v = gather (put_next bytes v.0) [] 0 v.1

-- the type ids of a union: where they are not written 0, 1, 2 and on
abbrev pub id_at : List ℕ → Option (ℕ × ℕ) → ℕ → Result ℕ IpcFault
id_at bytes None i = Ok i
id_at bytes (Some v) i = integer_at bytes (v.0 + 4 * i) w32

abbrev pub is_new : ℕ → List ℤ → Bool
is_new id ids = nat_lt id 128 && not (has (pos id) ids)

unfoldable pub put_id : List ℕ → ℕ → Option (ℕ × ℕ) → List ℤ → ℕ → Result (List ℤ) IpcFault
put_id bytes table written ids i = do
  id ← id_at bytes written i
  if is_new id ids then Ok (ids ++ pos id ∷ []) else breaks TypeIds table

-- so many ids from an index on, after those before them
unfoldable pub ids_from : List ℕ → ℕ → Option (ℕ × ℕ) → List ℤ → ℕ → ℕ → Result (List ℤ) IpcFault
ids_from bytes table written ids i zero = Ok ids
ids_from bytes table written ids i (suc n) = do
  more ← put_id bytes table written ids i
  ids_from bytes table written more (i + 1) n

abbrev pub are_as_many : Option (ℕ × ℕ) → ℕ → Bool
are_as_many written count = option_map_or (λ v. v.1 == count) written true

unfoldable pub ids_at : List ℕ → ℕ → Option (ℕ × ℕ) → ℕ → Result (List ℤ) IpcFault
ids_at bytes table written count = if are_as_many written count then ids_from bytes table written [] 0 count else breaks TypeIds table

abbrev pub ids_of_kind : Kind → Result (List ℤ) IpcFault → Result (List ℤ) IpcFault
ids_of_kind (Union mode) ids = ids
ids_of_kind _ ids = Ok []

abbrev pub counted : ℕ → Option TypeTree → Result TypeTree IpcFault
counted table None = breaks Children table
counted table (Some t) = Ok t

-- the type of a kind, given its children
abbrev pub typed : List ℕ → ℕ → Kind → Text → Option (ℕ × ℕ) → List ColumnTree → Result TypeTree IpcFault
typed bytes table kind zone written cs = do
  ids ← ids_of_kind kind (ids_at bytes table written (length cs))
  counted table (type_of kind zone ids cs)

-- a column, given its children
unfoldable pub finished : List ℕ → Own → List ColumnTree → Result (ColumnTree × ℕ) IpcFault
finished bytes p cs = do
  t ← typed bytes p.table p.kind p.zone p.ids cs
  ms ← texts_at bytes p.texts
  Ok (record { name = p.name; data_type = with_dictionary p.index t; nullable = p.nullable; metadata = ms.0 }, ms.1)

abbrev pub priced : Result Own IpcFault → Result (Own × ℕ) IpcFault
priced parts = parts >>= λ p. Ok (p, 16 + length p.name + length p.zone)

abbrev pub put_column : (ℕ → Result (ColumnTree × ℕ) IpcFault) → ℕ → List ColumnTree → ℕ → Result (List ColumnTree × ℕ) IpcFault
put_column read start cs i = do
  c ← read (start + 4 * i)
  Ok (cs ++ c.0 ∷ [], c.1)

-- the columns to which the offsets of a vector lead
unfoldable pub columns_by : (ℕ → Result (ColumnTree × ℕ) IpcFault) → ℕ × ℕ → Result (List ColumnTree × ℕ) IpcFault
columns_by read v = gather (put_column read v.0) [] 0 v.1

-- the column to which the offset at a position leads, no more than so many levels deep, and what it takes
unfoldable pub column_at : ℕ → List ℕ → ℕ → Result (ColumnTree × ℕ) IpcFault
column_at zero bytes at = breaks Depth at
column_at (suc depth) bytes at = priced (parts_at bytes at) >>+ λ p. columns_by (column_at depth bytes) p.children >>+ finished bytes p
