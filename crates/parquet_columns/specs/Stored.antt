-- What the value of ARROW:schema holds: a schema, or why it holds none.
use Rattle.std.specs.Prelude.{◌≡◌, ℕ, List, map, Option, Some, None, Result, Ok, Err, ⊤}
use Rattle.std.specs.declared.vec.Vec.{Vec}
use Rattle.std.specs.declared.alloc.Global.{Global}
use Rattle.base64.specs.Engines.{standard_pad_indifferent}
use Rattle.base64.specs.GeneralPurpose.{decode_of}
use Rattle.base64.specs.declared.decode.DecodeError.{DecodeError}
use Rattle.arrow_values.specs.Tree.{Text}
use Rattle.arrow_ipc.specs.Schema.{message_in, schema_of_message, Meets}
use Rattle.arrow_ipc.specs.declared.fault.IpcError.TheVariants as errors
use Rattle.parquet_footer.specs.Spelled.{Spelled}
use Rattle.arrow_columns.specs.Column.{column_tree}
use Rattle.parquet_columns.specs.Findings.{finding}
use Rattle.parquet_columns.specs.Entries.{repeated_columns, stored_entries}
use Rattle.parquet_columns.specs.declared.code.FilePart.TheVariants.{StoredMessage}
use Rattle.parquet_columns.specs.declared.stored.StoredFault.TheVariants.{Encoding, Broken, Budget}
use Rattle.parquet_columns.specs.declared.stored.Stored.{Stored}
use Rattle.parquet_columns.specs.declared.stored.Stored.TheVariants.{Schema, Unreadable}

-- what is decoded of a text: its bytes, or why it is not base64
abbrev pub IsDecoded : Result (List ℕ) DecodeError → Result (Vec ℕ Global) DecodeError → Type 0
IsDecoded there (Ok bytes) = there ≡ Ok bytes.items
IsDecoded there (Err error) = there ≡ Err error

-- what is read of a message: its schema, and what is found of keys that stand several times on its columns; or how it is refused
abbrev pub IsSchemaOf : List ℕ → Stored → Type 0
IsSchemaOf bytes (Schema s found) =
    Meets (message_in bytes) (schema_of_message 61) (Ok s) × (map finding found.items ≡ repeated_columns StoredMessage (map column_tree s.columns.items) (stored_entries bytes))
IsSchemaOf bytes (Unreadable (Broken fault)) = Meets (message_in bytes) (schema_of_message 61) (Err (errors.Broken fault))
IsSchemaOf bytes (Unreadable (Budget at)) = Meets (message_in bytes) (schema_of_message 61) (Err (errors.Budget at))
IsSchemaOf bytes (Unreadable (Encoding error)) = ⊥

-- what a value holds, which is base64 with padding or without it
abbrev pub IsStored : Text → Stored → Type 0
IsStored text (Unreadable (Encoding error)) = decode_of standard_pad_indifferent text ≡ Err error
IsStored text s = (bytes : List ℕ) × (decode_of standard_pad_indifferent text ≡ Ok bytes) × IsSchemaOf bytes s

-- what there is of a value, if there is one
abbrev pub AreStored : Option Spelled → Option Stored → Type 0
AreStored None None = ⊤
AreStored (Some value) (Some s) = IsStored value.bytes s
AreStored None (Some s) = ⊥
AreStored (Some value) None = ⊥
