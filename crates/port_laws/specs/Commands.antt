-- How the answers of the four commands to one line go together.
use Rattle.std.specs.Prelude.{◌≡◌, ◌⊎◌, ◌++◌, Some, codes, unwrap_or}
use Rattle.arrow_values.specs.Tree.{FieldTree}
use Rattle.geoarrow_layout.specs.declared.native_kinds.Kind.{Kind}
use Rattle.geoarrow_layout.specs.Kinds.{coord_type_of, dimension_of}
use Rattle.geoarrow_layout.specs.KindWords.{kind_word, coord_type_word, dimension_word}
use Rattle.geoarrow_meta.specs.declared.metadata.Metadata.{Metadata}
use Rattle.geoarrow_meta.specs.Written.{printed}
use Rattle.geoarrow_schema.specs.declared.types.GeoArrowType.{GeoArrowType}
use Rattle.geoarrow_schema.specs.Reads.{HasGeoArrowName}
use Rattle.field_lines.specs.Line.{field_of_line, line_of_field}
use Rattle.geoarrow_fields.specs.declared.Command.{Command}
use Rattle.geoarrow_fields.specs.declared.Command.TheVariants.{Read, Infer, Canon, Columns}
use Rattle.geoarrow_fields.specs.Lines.{Bytes}
use Rattle.geoarrow_fields.specs.Answer.{type_text}

-- the four parts of a type
abbrev pub IsTypeText : Bytes → Type 0
IsTypeText a = (g : GeoArrowType) × (a ≡ type_text g)

-- the line of a field
abbrev pub IsFieldLine : Bytes → Type 0
IsFieldLine a = (n : FieldTree) × (a ≡ line_of_field n)

-- the line denotes a field without a GeoArrow name
abbrev pub IsUnnamed : Bytes → Type 0
IsUnnamed line = (f : FieldTree) × (field_of_line line ≡ Some f) × ¬ HasGeoArrowName f

-- what `columns` answers of a type that is read, and of one that is inferred, with these four parts
abbrev pub geometry : Bytes → Bytes
geometry a = codes "geometry " ++ a

abbrev pub inferred : Bytes → Bytes
inferred a = codes "inferred " ++ a

-- `columns` answers that a type is read, or that one is inferred
abbrev pub SaysGeometry : Bytes → Type 0
SaysGeometry c = (a : Bytes) × IsTypeText a × (c ≡ geometry a)

abbrev pub SaysInferred : Bytes → Type 0
SaysInferred c = (a : Bytes) × IsTypeText a × (c ≡ inferred a)

-- what `columns` answers to a line of a field without a GeoArrow name
abbrev pub SaysNoType : Bytes → Bytes → Type 0
SaysNoType line c = SaysInferred c ⊎ ((c ≡ codes "other") ⊎ ((c ≡ codes "faulty arrow") × IsUnnamed line))

-- the four parts of a kind and a metadata
abbrev pub form_text : Kind × Metadata → Bytes
form_text p = kind_word p.0 ++ codes " " ++ coord_type_word (coord_type_of p.0) ++ codes " " ++ dimension_word (dimension_of p.0) ++ codes " " ++ unwrap_or (printed p.1) (codes "-")

-- what each command answers to a line that `canon` answered, of a type of this normal form
abbrev pub answer_of_form : Command → Bytes → Kind × Metadata → Bytes
answer_of_form Read line form = form_text form
answer_of_form Infer line form = form_text form
answer_of_form Canon line form = line
answer_of_form Columns line form = geometry (form_text form)
