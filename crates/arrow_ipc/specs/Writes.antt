-- Streams of blocks, and why a schema is not written.
use Rattle.std.specs.Prelude.{◌≡◌, ℕ, ◌^◌, ◌≤◌, List, length, Some, Result, Ok, Err, slice_get}
use Rattle.std.specs.declared.vec.Vec.{Vec}
use Rattle.std.specs.declared.alloc.Global.{Global}
use Rattle.arrow_values.specs.Tree.{Metadata}
use Rattle.arrow_columns.specs.Types.{ColumnTree}
use Rattle.arrow_ipc.specs.Blocks.{Holds, columns_read, texts_read}
use Rattle.arrow_ipc.specs.Denotes.{IsStreamOf}
use Rattle.arrow_ipc.specs.Rooms.{IsUnfitType, columns_room}
use Rattle.arrow_ipc.specs.declared.schema.Endianness.{Endianness}
use Rattle.arrow_ipc.specs.declared.write.WriteError.{WriteError}
use Rattle.arrow_ipc.specs.declared.write.WriteError.TheVariants.{Column, TooLarge, OutOfMemory}

-- a stream denotes the schema that the blocks of its columns and of its metadata hold
unfoldable pub Streams : ℕ → List ℕ → List ℕ → Endianness → List ℕ → Type 0
Streams levels columns texts order stream =
    (cs : List ColumnTree) (ms : Metadata) → Holds (columns_read levels) columns cs → Holds texts_read texts ms → IsStreamOf levels stream (record { columns = cs; metadata = ms; endianness = order })

-- a column has a type that no message of so many levels can hold, or what there is may take 2^31 bytes or more
abbrev pub RefusesColumns : ℕ → WriteError → List ColumnTree → ℕ → Type 0
RefusesColumns levels (Column i) cs room = (c : ColumnTree) × (slice_get cs i ≡ Some c) × IsUnfitType levels c.data_type
RefusesColumns levels TooLarge cs room = 2 ^ 31 ≤ room
RefusesColumns levels OutOfMemory cs room = Unit {0}

-- the vector of the columns was made, or why not
abbrev pub GivesColumns : ℕ → List ColumnTree → Result (Vec ℕ Global) WriteError → Type 0
GivesColumns levels cs (Ok b) = Holds (columns_read levels) b.items cs × (length b.items ≤ columns_room cs)
GivesColumns levels cs (Err e) = RefusesColumns levels e cs (columns_room cs)
