-- The words that the program is started with.
use Rattle.std.specs.Prelude.{◌≡◌, List, [], ◌∷◌, codes}
use Rattle.geoarrow_fields.specs.declared.Command.{Command}
use Rattle.geoarrow_fields.specs.declared.Command.TheVariants.{Read, Infer, Canon, Columns}
use Rattle.geoarrow_fields.specs.Lines.{Bytes}

-- the word of a command
abbrev pub word_of : Command → Bytes
word_of Read = codes "read"
word_of Infer = codes "infer"
word_of Canon = codes "canon"
word_of Columns = codes "columns"

-- the words are that of the command, and no more
abbrev pub Name : List Bytes → Command → Type 0
Name words command = words ≡ word_of command ∷ []
