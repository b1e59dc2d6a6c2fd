-- What contracts say of the errors.
use Rattle.std.specs.Prelude.{◌≡◌, ◌⊎◌, ℤ, Bool, true, false, Option, Some, None, string_bytes}
use Rattle.arrow_values.specs.Tree.{Text}
use Rattle.arrow_values.specs.declared.error.ArrowError.{ArrowError}
use Rattle.arrow_values.specs.declared.error.ArrowError.TheVariants.{SchemaError, InvalidArgumentError, ExternalError', OutOfMemory}
use Rattle.arrow_values.specs.declared.error.GeoArrowError.{GeoArrowError}
use Rattle.arrow_values.specs.declared.error.GeoArrowError.TheVariants.{Arrow, InvalidGeoArrow}
use Rattle.arrow_values.specs.declared.error.AppendFault.{AppendFault}
use Rattle.arrow_values.specs.declared.error.AppendFault.TheVariants.{RepeatedId, OutOfMemory as NoRoom}

-- out-of-memory
abbrev pub IsMemory : ArrowError → Type 0
IsMemory e = e ≡ OutOfMemory

-- out-of-memory, one level up
abbrev pub IsGeoMemory : GeoArrowError → Type 0
IsGeoMemory e = e ≡ Arrow OutOfMemory

-- which variant, whatever the message
abbrev pub is_invalid_argument : ArrowError → Bool
is_invalid_argument (InvalidArgumentError m) = true
is_invalid_argument _ = false

abbrev pub is_schema : ArrowError → Bool
is_schema (SchemaError m) = true
is_schema _ = false

-- a `SchemaError` of that message
abbrev pub IsSchemaOf : Text → ArrowError → Type 0
IsSchemaOf text (SchemaError m) = string_bytes m ≡ text
IsSchemaOf text _ = ⊥

-- an `InvalidGeoArrow` of that message
abbrev pub IsInvalidOf : Text → GeoArrowError → Type 0
IsInvalidOf text (InvalidGeoArrow m) = string_bytes m ≡ text
IsInvalidOf text _ = ⊥

-- a refusal of an argument, out-of-memory aside
abbrev pub IsInvalidArgument : ArrowError → Type 0
IsInvalidArgument e = IsMemory e ⊎ (is_invalid_argument e ≡ true)

-- e is g in a box
abbrev pub Boxes : GeoArrowError → ArrowError → Type 0
Boxes g (ExternalError' p inner) = inner ≡ g
Boxes g _ = ⊥

-- e is what g is one level down: the inner error of an `Arrow`, and otherwise g in a box
abbrev pub IsArrowFormOf : GeoArrowError → ArrowError → Type 0
IsArrowFormOf (Arrow a) e = e ≡ a
IsArrowFormOf g e = Boxes g e

abbrev pub is_arrow : GeoArrowError → Bool
is_arrow (Arrow a) = true
is_arrow _ = false

-- the id that two unions share by a fault; none where memory was refused
abbrev pub fault_id : AppendFault → Option ℤ
fault_id (RepeatedId i) = Some i
fault_id NoRoom = None
