-- When two findings say the same.
use Rattle.std.specs.Prelude.{◌≡◌, ⊤}
use Rattle.column_check.specs.Metadata.{values_of}
use Rattle.column_check.specs.declared.data_type.TypeFault.{TypeFault}
use Rattle.column_check.specs.declared.data_type.TypeFault.TheVariants.{WrongStorage, Layout}
use Rattle.column_check.specs.declared.finding.Reasons.{Reasons}
use Rattle.column_check.specs.declared.finding.Reasons.TheVariants.{UnknownExtension, DataType, Metadata, DataTypeAndMetadata, Unread}
use Rattle.column_check.specs.declared.finding.Geometry.{Geometry as GeometryColumn}
use Rattle.column_check.specs.declared.finding.Finding.{Finding as ColumnFinding}
use Rattle.column_check.specs.declared.finding.Finding.TheVariants.{Geometry, Invalid, Extension, Inferred, Plain}

-- the same kind, the same values, and the same CRS as it is written
abbrev pub SameGeometry : GeometryColumn → GeometryColumn → Type 0
SameGeometry g h = (g.kind ≡ h.kind) × (values_of g.metadata ≡ values_of h.metadata) × (g.metadata.crs ≡ h.metadata.crs)

-- the same fault, on the same path
abbrev pub SameTypeFault : TypeFault → TypeFault → Type 0
SameTypeFault WrongStorage WrongStorage = ⊤
SameTypeFault (Layout f path) (Layout g other) = (f ≡ g) × (path.items ≡ other.items)
SameTypeFault _ _ = ⊥

abbrev pub SameReasons : Reasons → Reasons → Type 0
SameReasons UnknownExtension UnknownExtension = ⊤
SameReasons (DataType t) (DataType u) = SameTypeFault t u
SameReasons (Metadata m) (Metadata n) = m ≡ n
SameReasons (DataTypeAndMetadata t m) (DataTypeAndMetadata u n) = SameTypeFault t u × (m ≡ n)
SameReasons Unread Unread = ⊤
SameReasons _ _ = ⊥

abbrev pub SameFinding : ColumnFinding → ColumnFinding → Type 0
SameFinding (Geometry g) (Geometry h) = SameGeometry g h
SameFinding (Invalid r) (Invalid s) = SameReasons r s
SameFinding Extension Extension = ⊤
SameFinding (Inferred g) (Inferred h) = SameGeometry g h
SameFinding Plain Plain = ⊤
SameFinding _ _ = ⊥
