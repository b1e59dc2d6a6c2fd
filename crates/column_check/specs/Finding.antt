-- What is said of a column.
use Rattle.std.specs.Prelude.{◌≡◌, ◌≢◌, ◌⊎◌, ◌++◌, List, [], ◌∷◌, codes, Bool, true, IsTrue, None, Some, ⊤}
use Rattle.std.specs.Str.{str_to_ascii_lowercase}
use Rattle.arrow_values.specs.Tree.{Text}
use Rattle.arrow_columns.specs.Column.{name_on, metadata_on}
use Rattle.arrow_columns.specs.Types.{ColumnTree}
use Rattle.geoarrow_layout.specs.declared.names.ExtensionName.{ExtensionName}
use Rattle.geoarrow_layout.specs.declared.native_kinds.Kind.{Kind}
use Rattle.geoarrow_layout.specs.Kinds.{name_text}
use Rattle.column_check.specs.GeometryNames.{may_be_taken}
use Rattle.column_check.specs.OldNames.{current_name, name_read}
use Rattle.column_check.specs.Metadata.{Values, values_of, TextDenotes, TextHasCrs, HasMetadataFault}
use Rattle.column_check.specs.Types.{TypeAccepted, HasTypeFault, TypeInferred}
use Rattle.column_check.specs.declared.finding.Reasons.{Reasons}
use Rattle.column_check.specs.declared.finding.Reasons.TheVariants.{UnknownExtension, DataType, Metadata, DataTypeAndMetadata, Unread}
use Rattle.column_check.specs.declared.finding.Finding.{Finding as ColumnFinding}
use Rattle.column_check.specs.declared.finding.Finding.TheVariants.{Geometry, Invalid, Extension, Inferred, Plain}

-- the column has that extension name, or the old one of it
abbrev pub HasName : ColumnTree → ExtensionName → Type 0
HasName c n = name_read c ≡ Some (name_text n)

-- the column has an extension name that is none of GeoArrow's, old or new
abbrev pub HasOtherName : ColumnTree → Text → Type 0
HasOtherName c s = (name_on c ≡ Some s) × ((n : ExtensionName) → current_name s ≢ name_text n)

-- the text begins with the word
abbrev pub BeginsWith : Text → Text → Type 0
BeginsWith word s = (rest : Text) × (s ≡ word ++ rest)

-- an extension name that GeoArrow or OGC would have to give: it begins with `geoarrow.`, in any letters, or with `ogc.`
abbrev pub IsReserved : Text → Type 0
IsReserved s = BeginsWith (codes "geoarrow.") (str_to_ascii_lowercase s) ⊎ BeginsWith (codes "ogc.") s

-- the column is of that kind and has those values, under an extension name; or they are inferred
-- for it, as it has none and its name allows that kind
abbrev pub IsOfKind : ColumnTree → Kind → Values → Type 0
IsOfKind c k v = (n : ExtensionName) × HasName c n × TypeAccepted n c.data_type k × TextDenotes (metadata_on c) v

abbrev pub IsTakenFor : ColumnTree → Kind → Values → Type 0
IsTakenFor c k v =
    (name_on c ≡ None) × TypeInferred c.data_type k × (may_be_taken c.name k ≡ true)
    × TextDenotes (metadata_on c) v

-- the column is invalid for these reasons: all that hold of its extension name, of its type and of its metadata; that it is not read, the file says and no column
abbrev pub IsInvalidFor : ColumnTree → Reasons → Type 0
IsInvalidFor c UnknownExtension = (s : Text) × HasOtherName c s × IsReserved s
IsInvalidFor c (DataType t) = (n : ExtensionName) × HasName c n × HasTypeFault n c.data_type t × ((v : Values) × TextDenotes (metadata_on c) v)
IsInvalidFor c (Metadata m) = (n : ExtensionName) × HasName c n × ((k : Kind) × TypeAccepted n c.data_type k) × HasMetadataFault (metadata_on c) m
IsInvalidFor c (DataTypeAndMetadata t m) = (n : ExtensionName) × HasName c n × HasTypeFault n c.data_type t × HasMetadataFault (metadata_on c) m
IsInvalidFor c Unread = ⊥

-- what is said of a column, where types are inferred or not; of geometries with the CRS as it is written
abbrev pub IsFinding : Bool → ColumnTree → ColumnFinding → Type 0
IsFinding infer c (Geometry g) = IsOfKind c g.kind (values_of g.metadata) × TextHasCrs (metadata_on c) g.metadata.crs
IsFinding infer c (Invalid r) = IsInvalidFor c r
IsFinding infer c Extension = (s : Text) × HasOtherName c s × ¬ IsReserved s
IsFinding infer c (Inferred g) = IsTrue infer × IsTakenFor c g.kind (values_of g.metadata) × TextHasCrs (metadata_on c) g.metadata.crs
IsFinding infer c Plain = (name_on c ≡ None) × (IsTrue infer → (k : Kind) (v : Values) → ¬ IsTakenFor c k v)

-- one finding for each column, in order
abbrev pub AreFindings : Bool → List ColumnTree → List ColumnFinding → Type 0
AreFindings infer [] [] = ⊤
AreFindings infer (c ∷ cs) (f ∷ fs) = IsFinding infer c f × AreFindings infer cs fs
AreFindings infer _ _ = ⊥
