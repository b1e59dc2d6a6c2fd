-- Of which kind a column's type is under an extension name, and why it is of none.
use Rattle.std.specs.Prelude.{⊤, [], Result, Ok, Err}
use Rattle.arrow_columns.specs.Types.{TypeTree, known, other}
use Rattle.arrow_columns.specs.Outlines.{outline}
use Rattle.arrow_columns.specs.declared.outline.Outline.TheVariants.{Layout}
use Rattle.geoarrow_layout.specs.declared.names.ExtensionName.{ExtensionName}
use Rattle.geoarrow_layout.specs.declared.names.ExtensionName.TheVariants.{Wkb, Wkt}
use Rattle.geoarrow_layout.specs.declared.native_kinds.Kind.{Kind}
use Rattle.geoarrow_layout.specs.declared.fault.LayoutFault.{LayoutFault}
use Rattle.geoarrow_layout.specs.declared.fault.LayoutFault.TheVariants.{UnexpectedType}
use Rattle.geoarrow_layout.specs.Kinds.{name_text}
use Rattle.geoarrow_layout.specs.Shapes.{Accepts}
use Rattle.geoarrow_layout.specs.FaultAt.{Path, FaultAt}
use Rattle.geoarrow_layout.specs.Inferred.{InferredAs}
use Rattle.column_check.specs.declared.data_type.TypeFault.{TypeFault}
use Rattle.column_check.specs.declared.data_type.TypeFault.TheVariants.{WrongStorage, Layout as LayoutFaultOf}

-- the name is that of well-known binary or of well-known text
abbrev pub IsSerialized : ExtensionName → Type 0
IsSerialized Wkb = ⊤
IsSerialized Wkt = ⊤
IsSerialized n = ⊥

-- the type is of that kind under the name, by its outline: a type in it that no layout has stands as
-- one that none has
abbrev pub TypeAccepted : ExtensionName → TypeTree → Kind → Type 0
TypeAccepted n t k = Accepts (name_text n) (outline Layout t) k

-- the type has that fault under the name, at the end of that path of child fields
abbrev pub TypeFaultAt : ExtensionName → TypeTree → Path → LayoutFault → Type 0
TypeFaultAt n t path fault = FaultAt n (outline Layout t) path fault

-- why the type is of no kind under the name: it is no bytes or no text, under the name of well-known binary or text; or it has a fault at the end of that path
abbrev pub HasTypeFault : ExtensionName → TypeTree → TypeFault → Type 0
HasTypeFault n t WrongStorage = IsSerialized n × TypeFaultAt n t [] UnexpectedType
HasTypeFault n t (LayoutFaultOf fault path) = ¬ IsSerialized n × TypeFaultAt n t path.items fault

-- what a type is read as under a name
abbrev pub IsTypeRead : ExtensionName → TypeTree → Result Kind TypeFault → Type 0
IsTypeRead n t (Ok k) = TypeAccepted n t k
IsTypeRead n t (Err f) = HasTypeFault n t f

-- the kind is inferred from the type
abbrev pub TypeInferred : TypeTree → Kind → Type 0
TypeInferred (known t) k = InferredAs t k
TypeInferred (other s f ids ps) k = ⊥
