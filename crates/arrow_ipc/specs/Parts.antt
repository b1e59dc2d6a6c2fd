-- What a column's table says of the column itself: its slots are 0 name, 1 nullable, 2 and 3 the type's tag and table, 4 its
-- dictionary, 5 its children, 6 its metadata.
use Rattle.std.specs.Prelude.{ℕ, Bool, List, [], Option, None, Result, Ok, nat_le, ◌==◌, if◌then◌else◌}
use Rattle.std.specs.Int.{w8, w64}
use Rattle.std.specs.Option.{option_map, option_transpose, unwrap_or}
use Rattle.arrow_ipc.specs.Fault.{◌>>=◌, breaks}
use Rattle.arrow_ipc.specs.Wire.{opened_at, slot_at, target_at}
use Rattle.arrow_ipc.specs.Slots.{integer_in, flag_in, led_by, read_or, text_in, table_in, vector_in}
use Rattle.arrow_ipc.specs.Kinds.{int_at, kind_at}
use Rattle.arrow_ipc.specs.declared.fault.IpcFault.{IpcFault}
use Rattle.arrow_ipc.specs.declared.wire.Table.{Table}
use Rattle.arrow_ipc.specs.declared.fault.IpcRule.TheVariants.{Missing, Tag}
use Rattle.arrow_kinds.specs.declared.kind.Kind.{Kind}
use Rattle.arrow_values.specs.declared.tree.DataType.{DataType}
use Rattle.arrow_values.specs.declared.tree.DataType.TheVariants.{Int32}
use Rattle.arrow_kinds.specs.declared.kind.Index.{Index}
use Rattle.arrow_ipc.specs.declared.parts.Parts.{Parts}

-- the tag of a type is 1 to 26
unfoldable pub tag_in : List ℕ → Table → Result ℕ IpcFault
tag_in bytes table = do
  tag ← integer_in bytes table 2 w8 0
  if tag == 0 then breaks Missing table.at else if nat_le tag 26 then Ok tag else breaks Tag table.at

-- what the table of a type has in slot 1: the time zone of a timestamp, and the type ids that a union may have
unfoldable pub zone_or_ids : List ℕ → ℕ → Table → Result (List ℕ × Option (ℕ × ℕ)) IpcFault
zone_or_ids bytes tag table =
    if tag == 10 then (text_in bytes table 1 >>= λ zone. Ok (zone, None)) else
    if tag == 14 then (vector_in bytes table 1 >>= λ ids. Ok ([], ids)) else Ok ([], None)

-- a dictionary has a number of its own in slot 0, which is not kept; its indices are 32-bit integers where nothing else is said
abbrev pub int_of : List ℕ → ℕ → Result DataType IpcFault
int_of bytes at = opened_at bytes at >>= int_at bytes

unfoldable pub index_at : List ℕ → ℕ → Result Index IpcFault
index_at bytes at = do
  table ← opened_at bytes at
  id ← integer_in bytes table 0 w64 0
  integers ← (led_by bytes table 1 >>= read_or Int32 (int_of bytes))
  ordered ← flag_in bytes table 2
  Ok (record { integers = integers; ordered = ordered })

unfoldable pub index_in : List ℕ → Table → Result (Option Index) IpcFault
index_in bytes table = led_by bytes table 4 >>= λ place. option_transpose (option_map (index_at bytes) place)

pub record Own : Type 0 where
  pub table : ℕ
  pub name : List ℕ
  pub nullable : Bool
  pub kind : Kind
  pub zone : List ℕ
  pub index : Option Index
  pub children : ℕ × ℕ
  pub ids : Option (ℕ × ℕ)
  pub texts : ℕ × ℕ

abbrev pub parts_of : Parts → Own
parts_of p = record { table = p.table; name = p.name.now; nullable = p.nullable; kind = p.kind; zone = p.zone.now; index = p.index; children = p.children; ids = p.ids; texts = p.texts }

-- of the column whose table that is
unfoldable pub parts_in : List ℕ → ℕ → Result Own IpcFault
parts_in bytes at = do
  table ← opened_at bytes at
  name ← text_in bytes table 0
  nullable ← flag_in bytes table 1
  tag ← tag_in bytes table
  value ← (table_in bytes table 3 >>= opened_at bytes)
  first ← slot_at bytes value 0
  kind ← kind_at bytes tag value
  own ← zone_or_ids bytes tag value
  index ← index_in bytes table
  children ← vector_in bytes table 5
  texts ← vector_in bytes table 6
  Ok (record { table = table.at; name = name; nullable = nullable; kind = kind; zone = own.0; index = index; children = unwrap_or children (0, 0); ids = own.1; texts = unwrap_or texts (0, 0) })

-- of the column to which the offset at a position leads
unfoldable pub parts_at : List ℕ → ℕ → Result Own IpcFault
parts_at bytes at = target_at bytes at >>= parts_in bytes
