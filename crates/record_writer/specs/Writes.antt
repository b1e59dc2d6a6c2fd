-- What records of columns are, and why they are not written.
use Rattle.std.specs.Prelude.{◌≡◌, ℕ, ◌+◌, ◌^◌, ◌<◌, ◌≤◌, ◌⊎◌, Bool, true, List, ◌++◌}
use Rattle.std.specs.Prelude.{length, Some, Result, Ok, Err, slice_get}
use Rattle.std.specs.List.{list_any, AllByRecursion}
use Rattle.arrow_columns.specs.Types.{ColumnTree}
use Rattle.record_wire.specs.Write.{bytes_of, IsReadAs}
use Rattle.record_wire.specs.declared.trees.Records.{Records}
use Rattle.record_columns.specs.Texts.{texts_in}
use Rattle.record_writer.specs.Placed.{Placed, placed, all_placed}
use Rattle.record_writer.specs.Formats.{format_in}
use Rattle.record_writer.specs.Structures.{structure_of, records_of, room_of, has_no_format}
use Rattle.record_writer.specs.Structures.{has_nul, is_too_deep}
use Rattle.record_writer.specs.declared.error.Refusal.{Refusal}
use Rattle.record_writer.specs.declared.error.Refusal.TheVariants as refusals
use Rattle.record_writer.specs.declared.error.WriteError.{WriteError}
use Rattle.record_writer.specs.declared.error.WriteError.TheVariants as errors

-- a column is read of its record
pub record IsRead (p : Placed) : Type 0 where
  pub format : format_in p.column.data_type ≡ Some (structure_of p).format
  pub texts : texts_in (structure_of p).metadata ≡ Ok p.column.metadata
  pub low : p.level ≤ 61
  pub reads : IsReadAs (bytes_of (structure_of p)) (structure_of p)

-- behind some records stand those of these columns
pub record Grown (before after : Records) (ps : List Placed) : Type 0 where
  pub count : after.count ≡ before.count + length ps
  pub bytes : after.bytes.items ≡ before.bytes.items ++ records_of ps
  pub each : AllByRecursion IsRead ps

-- those of these columns alone
pub record Holds (r : Records) (ps : List Placed) : Type 0 where
  pub count : r.count ≡ length ps
  pub bytes : r.bytes.items ≡ records_of ps
  pub each : AllByRecursion IsRead ps

-- why columns are not written behind so many records
abbrev pub Refuses : Refusal → ℕ → List Placed → Type 0
Refuses refusals.Format n ps = list_any has_no_format ps ≡ true
Refuses refusals.Nul n ps = list_any has_nul ps ≡ true
Refuses refusals.TooDeep n ps = list_any is_too_deep ps ≡ true
Refuses refusals.TooLarge n ps = (4000000 < n + length ps) ⊎ (2 ^ 28 < room_of ps)
Refuses refusals.OutOfMemory n ps = Unit {0}

abbrev pub Puts : Records → List Placed → Result Records Refusal → Type 0
Puts before ps (Ok after) = Grown before after ps
Puts before ps (Err e) = Refuses e before.count ps

-- why so many bytes are not written
abbrev pub RefusesRoom : Refusal → ℕ → Type 0
RefusesRoom refusals.TooLarge room = 2 ^ 28 < room
RefusesRoom refusals.OutOfMemory room = Unit {0}
RefusesRoom _ room = ⊥

-- the column at an index has something of that kind, or what lies in it has
abbrev pub HasAt : (Placed → Bool) → ℕ → List ColumnTree → ℕ → Type 0
HasAt test level cs i =
    (c : ColumnTree) × (slice_get cs i ≡ Some c) × (list_any test (placed level c) ≡ true)

-- why columns of one level are not written behind so many bytes, with so many records
abbrev pub RefusesColumns : WriteError → ℕ → ℕ → ℕ → List ColumnTree → Type 0
RefusesColumns (errors.Column i) level room n cs = HasAt has_no_format level cs i
RefusesColumns (errors.Nul i) level room n cs = HasAt has_nul level cs i
RefusesColumns (errors.TooDeep i) level room n cs = HasAt is_too_deep level cs i
RefusesColumns errors.TooLarge level room n cs =
    (4000000 < n + length (all_placed level cs)) ⊎ (2 ^ 28 < room + room_of (all_placed level cs))
RefusesColumns errors.OutOfMemory level room n cs = Unit {0}

abbrev pub PutsColumns : List ColumnTree → Result Records WriteError → Type 0
PutsColumns cs (Ok r) = Holds r (all_placed 1 cs)
PutsColumns cs (Err e) = RefusesColumns e 1 0 0 cs
