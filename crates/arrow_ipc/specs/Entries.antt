-- The entries of metadata of a schema as they stand, those of a repeated key too.
use Rattle.std.specs.Prelude.{◌≡◌, ℕ, ◌+◌, ◌*◌, ◌≤◌, List, [], ◌∷◌, ◌++◌, length, map, Result, Ok, Err}
use Rattle.std.specs.Option.{unwrap_or}
use Rattle.std.specs.declared.vec.Vec.{Vec}
use Rattle.std.specs.declared.alloc.Global.{Global}
use Rattle.arrow_values.specs.Tree.{Text}
use Rattle.arrow_ipc.specs.Fault.{◌>>=◌}
use Rattle.arrow_ipc.specs.Wire.{opened_at, target_at}
use Rattle.arrow_ipc.specs.Slots.{vector_in}
use Rattle.arrow_ipc.specs.Tells.{Fails, ◌>>+◌, gather}
use Rattle.arrow_ipc.specs.Columns.{entry_at, entry_price}
use Rattle.arrow_ipc.specs.Schema.{head_at, message_at, footer_at}
use Rattle.arrow_ipc.specs.declared.entries.Entry.{Entry}
use Rattle.arrow_ipc.specs.declared.entries.SchemaEntries.{SchemaEntries}
use Rattle.arrow_ipc.specs.declared.schema.Head.{Head}
use Rattle.arrow_ipc.specs.declared.fault.IpcFault.{IpcFault}
use Rattle.arrow_ipc.specs.declared.fault.IpcError.{IpcError}
use Rattle.arrow_ipc.specs.declared.fault.IpcError.TheVariants.{Broken}

abbrev pub entry : Entry → Text × Text
entry e = (e.key.now, e.text.now)

abbrev pub entries_in : Vec Entry Global → List (Text × Text)
entries_in es = map entry es.items

-- those of each column, and those of the schema itself
pub record EntriesTree : Type 0 where
  pub columns : List (List (Text × Text))
  pub schema : List (Text × Text)

abbrev pub entries_tree : SchemaEntries → EntriesTree
entries_tree e = record { columns = map entries_in e.columns.items; schema = entries_in e.schema }

-- the entry to which the offset at a position leads, behind those before it, and what it takes
abbrev pub add_entry : List ℕ → ℕ → List (Text × Text) → Result (List (Text × Text) × ℕ) IpcFault
add_entry bytes at es = do
  e ← entry_at bytes at
  Ok (es ++ e ∷ [], entry_price e)

abbrev pub add_next : List ℕ → ℕ → List (Text × Text) → ℕ → Result (List (Text × Text) × ℕ) IpcFault
add_next bytes start es i = add_entry bytes (start + 4 * i) es

-- those to which the offsets of a vector lead, in their order
unfoldable pub entries_at : List ℕ → ℕ × ℕ → Result (List (Text × Text) × ℕ) IpcFault
entries_at bytes v = gather (add_next bytes v.0) [] 0 v.1

-- those of the column to which the offset at a position leads: slot 6 of its table
unfoldable pub texts_of_column : List ℕ → ℕ → Result (ℕ × ℕ) IpcFault
texts_of_column bytes at = do
  table ← (target_at bytes at >>= opened_at bytes)
  texts ← vector_in bytes table 6
  Ok (unwrap_or texts (0, 0))

-- of which a column takes 16 more, as in what is read of a column
unfoldable pub column_entries : List ℕ → ℕ → Result (List (Text × Text) × ℕ) IpcFault
column_entries bytes at = (texts_of_column bytes at >>= λ v. Ok (v, 16)) >>+ entries_at bytes

-- those of the columns to which the offsets of a vector lead
abbrev pub add_column : List ℕ → ℕ → List (List (Text × Text)) → Result (List (List (Text × Text)) × ℕ) IpcFault
add_column bytes at cs = do
  c ← column_entries bytes at
  Ok (cs ++ c.0 ∷ [], c.1)

abbrev pub add_next_column : List ℕ → ℕ → List (List (Text × Text)) → ℕ → Result (List (List (Text × Text)) × ℕ) IpcFault
add_next_column bytes start cs i = add_column bytes (start + 4 * i) cs

unfoldable pub columns_entries : List ℕ → ℕ × ℕ → Result (List (List (Text × Text)) × ℕ) IpcFault
columns_entries bytes v = gather (add_next_column bytes v.0) [] 0 v.1

-- those of the schema whose table is there
abbrev pub with_entries : List ℕ → Head → List (List (Text × Text)) → Result (EntriesTree × ℕ) IpcFault
with_entries bytes h cs = do
  ms ← entries_at bytes h.texts
  Ok (record { columns = cs; schema = ms.0 }, ms.1)

unfoldable pub schema_entries : List ℕ → ℕ → Result (EntriesTree × ℕ) IpcFault
schema_entries bytes table = do
  h ← head_at bytes table
  columns_entries bytes h.fields >>+ with_entries bytes h

abbrev pub entries_of : Result ℕ IpcFault → List ℕ → Result (EntriesTree × ℕ) IpcFault
entries_of place bytes = place >>= schema_entries bytes

unfoldable pub entries_of_message : List ℕ → Result (EntriesTree × ℕ) IpcFault
entries_of_message bytes = entries_of (message_at bytes) bytes

unfoldable pub entries_of_footer : List ℕ → Result (EntriesTree × ℕ) IpcFault
entries_of_footer bytes = entries_of (footer_at bytes) bytes

-- a call that reads them answers those that there are, which take no more than eight times the bytes of the message; or
-- says which rule is broken where, or that they take more
abbrev pub EntriesIn : (List ℕ → Result (EntriesTree × ℕ) IpcFault) → List ℕ → Result SchemaEntries IpcError → Type 0
EntriesIn read bytes (Ok e) = (n : ℕ) × (n ≤ 8 * length bytes) × (read bytes ≡ Ok (entries_tree e, n))
EntriesIn read bytes (Err e) = Fails (read bytes) (8 * length bytes) e

-- and one that reads them where the message lies in other bytes
abbrev pub AreEntries : Result (List ℕ) IpcFault → (List ℕ → Result (EntriesTree × ℕ) IpcFault) → Result SchemaEntries IpcError → Type 0
AreEntries (Ok bytes) read result = EntriesIn read bytes result
AreEntries (Err fault) read result = result ≡ Err (Broken fault)
