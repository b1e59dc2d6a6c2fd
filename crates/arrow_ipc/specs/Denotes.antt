-- What bytes denote, whatever the limits of those who read them.
use Rattle.std.specs.Prelude.{◌≡◌, ℕ, ◌*◌, ◌≤◌, List, length, Result, Ok}
use Rattle.arrow_ipc.specs.Schema.{SchemaTree, message_in, footer_in, schema_of_message, schema_of_footer}
use Rattle.arrow_ipc.specs.declared.fault.IpcFault.{IpcFault}

-- a message or footer denotes a schema where it is read at some number of levels; what it takes is not looked at
abbrev pub Denotes : (ℕ → List ℕ → Result (SchemaTree × ℕ) IpcFault) → List ℕ → SchemaTree → Type 0
Denotes read bytes s = (levels : ℕ) × (n : ℕ) × (read levels bytes ≡ Ok (s, n))

-- a stream denotes what the message at its head denotes
abbrev pub StreamDenotes : List ℕ → SchemaTree → Type 0
StreamDenotes stream s = (message : List ℕ) × (message_in stream ≡ Ok message) × Denotes schema_of_message message s

-- a file denotes what the footer at its end denotes
abbrev pub FileDenotes : List ℕ → SchemaTree → Type 0
FileDenotes file s = (footer : List ℕ) × (footer_in file ≡ Ok footer) × Denotes schema_of_footer footer s

-- the bytes are a stream that denotes the schema, and readers that keep to the limit of levels and of what is taken read it
abbrev pub IsStreamOf : ℕ → List ℕ → SchemaTree → Type 0
IsStreamOf levels stream s =
    (message : List ℕ) × (message_in stream ≡ Ok message) × ((n : ℕ) × (n ≤ 8 * length message) × (schema_of_message levels message ≡ Ok (s, n)))
