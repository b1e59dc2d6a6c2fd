-- Whether a structure that lies in memory is that of a schema (docs/FORMAT.md, 6.6).
use Rattle.std.specs.Prelude.{◌≡◌, ℕ, Bool, true, not, ◌==◌, Option, None, Some, Result, Ok, Err}
use mir.Val.{bool_byte}
use Rattle.geoarrow_fields.specs.Lines.{Bytes}
use Rattle.record_columns.specs.Schemas.{is_schema_at}
use Rattle.record_wire.specs.declared.fault.Fault.{Fault}
use Rattle.geoarrow_c.specs.Walks.{walk_number}
use Rattle.geoarrow_c.specs.declared.walk.Walk.{Walk}
use Rattle.geoarrow_c.specs.declared.walk.Walk.TheVariants.{Done, OutOfMemory, Broken}

-- a structure that is refused counts as a schema, of which reading says why
abbrev pub or_refused : Result Bool Fault → Bool
or_refused (Ok is) = is
or_refused (Err fault) = true

-- what is told of the structure of a record over which the walk ended so; nothing where memory was lacking
abbrev pub told_schema : Bool → Bytes → Walk → Option Bool
told_schema may_have_name bytes Done = Some (or_refused (is_schema_at may_have_name bytes))
told_schema may_have_name bytes (Broken rule) = Some true
told_schema may_have_name bytes OutOfMemory = None

-- that is what a number says, 1 for a schema
pub record Tells (may_have_name : ℕ) (bytes : Bytes) (ended is : ℕ) : Type 0 where
  pub walk : Walk
  pub told : Bool
  pub walk_is : ended ≡ walk_number walk
  pub is_told : told_schema (not (may_have_name == 0)) bytes walk ≡ Some told
  pub is_number : is ≡ bool_byte told
