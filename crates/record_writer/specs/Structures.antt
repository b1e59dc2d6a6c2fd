-- The structures of columns, and their records.
use Rattle.std.specs.Prelude.{ℕ, ◌+◌, Bool, true, false, List, [], ◌∷◌, ◌++◌, length, Some, nat_lt}
use Rattle.std.specs.Prelude.{codes, None}
use Rattle.std.specs.Option.{option_map_or, unwrap_or}
use Rattle.arrow_columns.specs.Types.{ColumnTree}
use Rattle.arrow_columns.specs.Below.{below}
use Rattle.record_wire.specs.Record.{Structure}
use Rattle.record_wire.specs.Record as wire
use Rattle.record_wire.specs.Write.{size_of, bytes_of}
use Rattle.record_writer.specs.Placed.{Placed}
use Rattle.record_writer.specs.Formats.{format_in}
use Rattle.record_writer.specs.Texts.{metadata_bytes}

-- the flag of a column whose values may be null
abbrev pub flags_of : Bool → ℕ
flags_of true = 2
flags_of false = 0

abbrev pub structure_of : Placed → Structure
structure_of p = record {
  children = length (below p.column.data_type);
  has_dictionary = false;
  flags = flags_of p.column.nullable;
  level = p.level;
  metadata = metadata_bytes p.column.metadata;
  format = unwrap_or (format_in p.column.data_type) [];
  name = Some p.column.name;
}

-- the structure in which all columns of a schema lie
abbrev pub root_of : List ColumnTree → Structure
root_of cs = record {
  children = length cs;
  has_dictionary = false;
  flags = 0;
  level = 0;
  metadata = None;
  format = codes "+s";
  name = None;
}

-- the records of them all, and how many bytes these are
abbrev pub records_of : List Placed → List ℕ
records_of [] = []
records_of (p ∷ ps) = bytes_of (structure_of p) ++ records_of ps

abbrev pub room_of : List Placed → ℕ
room_of [] = 0
room_of (p ∷ ps) = size_of (structure_of p) + room_of ps

-- why one is not written: it has no format string, its name has a NUL, or it lies too deep
abbrev pub has_no_format : Placed → Bool
has_no_format p = option_map_or (λ f. false) (format_in p.column.data_type) true

abbrev pub has_nul : Placed → Bool
has_nul p = wire.has_nul p.column.name

abbrev pub is_too_deep : Placed → Bool
is_too_deep p = nat_lt 61 p.level
