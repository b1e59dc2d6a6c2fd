-- Which kind and metadata a field is read as, and which field is written for them.
use Rattle.std.specs.Prelude.{◌≡◌, ◌⊎◌, [], Bool, true, Some}
use Rattle.arrow_values.specs.Tree.{Text, Tree, FieldTree, field_tree}
use Rattle.arrow_values.specs.Texts.{extension_name, extension_metadata, set_extension}
use Rattle.arrow_values.specs.Errors.{is_schema}
use Rattle.arrow_values.specs.declared.error.ArrowError.{ArrowError}
use Rattle.geoarrow_layout.specs.declared.native_kinds.Kind.{Kind}
use Rattle.geoarrow_layout.specs.declared.fault.LayoutFault.{LayoutFault}
use Rattle.geoarrow_layout.specs.declared.names.ExtensionName.{ExtensionName}
use Rattle.geoarrow_layout.specs.Faults.{IsErrorOfFault}
use Rattle.geoarrow_layout.specs.FaultAt.{HasFault, FaultAt}
use Rattle.geoarrow_layout.specs.Kinds.{name_of}
use Rattle.geoarrow_layout.specs.Shapes.{Accepted}
use Rattle.geoarrow_layout.specs.Layouts.{layout}
use Rattle.geoarrow_meta.specs.declared.metadata.Metadata.{Metadata}
use Rattle.geoarrow_meta.specs.Written.{printed}
use Rattle.geoarrow_meta.specs.Read.{DenotesMetadata}

-- the field has the extension name of the kind, and the kind accepts its data type
abbrev pub IsColumn : FieldTree → Kind → Type 0
IsColumn f k = (extension_name f ≡ Some (name_of k)) × Accepted k f.tree

-- the field is read as that kind and metadata: it is a column of the kind, and its metadata text denotes the metadata
unfoldable pub ReadsAs : FieldTree → Kind → Metadata → Type 0
ReadsAs f k m = IsColumn f k × DenotesMetadata (extension_metadata f) m

-- the field as written: that name and nullability, the data type of the kind, and only the texts of the kind and the metadata
-- at the two extension keys
abbrev pub written_field : Text → Bool → Kind → Metadata → FieldTree
written_field name nullable k m = field_tree name (layout k) nullable (set_extension (name_of k) (printed m) [])

-- the error is that of the fault that the data type has under the extension name
abbrev pub IsLayoutRefusal : ExtensionName → Tree → ArrowError → Type 0
IsLayoutRefusal n t e = (fault : LayoutFault) × HasFault (FaultAt n t) fault × IsErrorOfFault fault e

-- the error with which a type refuses a data type: how its encoding refuses one that it accepts as none; or a `SchemaError`, if
-- it accepts it as another
abbrev pub RefusesOther : {A : Type 0} → (A → Type 0) → (ArrowError → Type 0) → ArrowError → Type 0
RefusesOther {A} IsAccepted IsRefused e = (((a : A) → ¬ IsAccepted a) × IsRefused e) ⊎ (((a : A) × IsAccepted a) × (is_schema e ≡ true))

-- two encodings are of one coordinate type and one dimension, as far as they have them: they are the same
abbrev pub Agrees : {E : Type 0} → E → E → Type 0
Agrees a b = a ≡ b
