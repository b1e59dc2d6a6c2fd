-- The schema of records that the walk over its structures made, or what is told where there is none (docs/FORMAT.md, 2.8 and 6).
use Rattle.std.specs.Prelude.{◌≡◌, ℕ, List, [], ◌∷◌, Option, None, Some, Result, Ok, Err, codes}
use Rattle.arrow_values.specs.Tree.{Metadata}
use Rattle.arrow_columns.specs.Types.{ColumnTree}
use Rattle.column_files.specs.Refusals.{Told, told}
use Rattle.column_files.specs.declared.refusal.Place.{Place}
use Rattle.column_files.specs.declared.refusal.Place.TheVariants.{Column}
use Rattle.record_columns.specs.Columns.{schema_at, column_at}
use Rattle.record_columns.specs.Schemas.{schema_tree}
use Rattle.record_columns.specs.declared.schema.RecordSchema.{RecordSchema}
use Rattle.record_wire.specs.Fault.{rule_message, rule_wanted}
use Rattle.record_wire.specs.declared.fault.Fault.{Fault}
use Rattle.record_wire.specs.declared.fault.Rule.{Rule}
use Rattle.geoarrow_c.specs.Places.{place_at}
use Rattle.geoarrow_c.specs.Walks.{walk_told}
use Rattle.geoarrow_c.specs.declared.records.Refusal.{Refusal}
use Rattle.geoarrow_c.specs.declared.records.Refusal.TheVariants as refusals
use Rattle.geoarrow_c.specs.declared.walk.Walk.{Walk}
use Rattle.geoarrow_c.specs.declared.walk.Walk.TheVariants.{Done, OutOfMemory, Broken}

-- of records that break a rule
abbrev pub records_told : Rule → Place → Told
records_told rule place = record {
  code = codes "BadSchema";
  place = place;
  found = rule_message rule;
  expected = rule_wanted rule;
  help = None;
}

-- what is read, or what is told, with the place by how many bytes are left where the record begins that is at fault
abbrev pub with_told : {A : Type 0} → (ℕ → Place) → Result A Fault → Result A Told
with_told place_of (Ok x) = Ok x
with_told place_of (Err fault) = Err (records_told fault.rule (place_of fault.left))

-- the columns of a schema, and its own metadata
abbrev pub Schema : Type 0
Schema = List ColumnTree × Metadata

-- the schema of one column, without metadata
abbrev pub of_column : Result ColumnTree Told → Result Schema Told
of_column (Ok c) = Ok (c ∷ [], [])
of_column (Err t) = Err t

-- the schema whose structures the walk was over, which may have ended at that place; nothing where memory was lacking
abbrev pub schema_in : Place → List ℕ → Walk → Option (Result Schema Told)
schema_in place records Done = Some (with_told (place_at records) (schema_at records))
schema_in place records (Broken rule) = Some (Err (walk_told rule place))
schema_in place records OutOfMemory = None

-- that of the one column whose structures they are
abbrev pub field_in : List ℕ → Walk → Option (Result Schema Told)
field_in records Done = Some (of_column (with_told (λ left. Column 0) (column_at records)))
field_in records (Broken rule) = Some (Err (walk_told rule (Column 0)))
field_in records OutOfMemory = None

-- what a call returned is that; or it is out of memory
abbrev pub IsRead : Result RecordSchema Refusal → Option (Result Schema Told) → Type 0
IsRead (Ok s) given = given ≡ Some (Ok (schema_tree s))
IsRead (Err (refusals.Told fault)) given = given ≡ Some (Err (told fault))
IsRead (Err refusals.OutOfMemory) given = Unit {0}
