-- Of a column one thing is said.
use Rattle.std.proofs.Common.{◌≡◌, Bool, Option, None, Some, option_map, ap, subst}
use Rattle.arrow_values.specs.Tree.{Text, Tree}
use Rattle.arrow_columns.specs.Types.{ColumnTree}
use Rattle.arrow_columns.specs.Column.{name_on, metadata_on}
use Rattle.arrow_columns.specs.Outlines.{outline}
use Rattle.arrow_columns.specs.declared.outline.Outline.TheVariants.{Layout}
use Rattle.geoarrow_layout.specs.declared.names.ExtensionName.{ExtensionName}
use Rattle.geoarrow_layout.specs.declared.native_kinds.Kind.{Kind}
use Rattle.geoarrow_layout.specs.declared.fault.LayoutFault.{LayoutFault}
use Rattle.geoarrow_layout.specs.Kinds.{name_text}
use Rattle.geoarrow_layout.specs.Shapes.{Accepts}
use Rattle.geoarrow_layout.specs.Candidates.{IsAccepted}
use Rattle.geoarrow_layout.specs.FaultAt.{Path, FaultAt}
use Rattle.column_check.specs.OldNames.{current_name, name_read}
use Rattle.column_check.specs.Metadata.{Values, values_of}
use Rattle.column_check.specs.Types.{TypeAccepted, HasTypeFault, TypeInferred}
use Rattle.column_check.specs.Finding.{HasName, HasOtherName, IsReserved, IsOfKind, IsInvalidFor, IsFinding}
use Rattle.column_check.specs.Unique.{SameTypeFault, SameGeometry, SameReasons, SameFinding}
use Rattle.column_check.specs.declared.data_type.TypeFault.{TypeFault}
use Rattle.column_check.specs.declared.finding.Reasons.{Reasons}
use Rattle.column_check.specs.declared.finding.Reasons.TheVariants.{UnknownExtension, DataType, Metadata, DataTypeAndMetadata, Unread}
use Rattle.column_check.specs.declared.finding.Geometry.{Geometry as GeometryColumn}
use Rattle.column_check.specs.declared.finding.Finding.{Finding}
use Rattle.column_check.specs.declared.finding.Finding.TheVariants.{Geometry, Invalid, Extension, Inferred, Plain}
use Rattle.column_check.proofs.Texts.{one_values, one_crs, text_apart, one_metadata_fault}
use Rattle.column_check.proofs.Faults.{type_apart, one_type_fault}

not_both : (o : Option Text) (s : Text) → o ≡ Some s → o ≡ None → ⊥
not_both o s h k = absurd cc

one_text : (o : Option Text) (s t : Text) → o ≡ Some s → o ≡ Some t → s ≡ t
one_text o s t h k = cc

module _ (c : ColumnTree) where
  other_apart : (s : Text) (n : ExtensionName) → HasOtherName c s → HasName c n → ⊥
  other_apart s n h named = h.1 n (one_text _ (current_name s) (name_text n) (ap (option_map current_name) h.0) named)

  -- a column with one of GeoArrow's extension names has an extension name
  unnamed_apart : (n : ExtensionName) → HasName c n → name_on c ≡ None → ⊥
  unnamed_apart n named none = not_both (name_read c) (name_text n) named (ap (option_map current_name) none)

  -- an invalid column has an extension name
  pub name_there : (r : Reasons) → IsInvalidFor c r → name_on c ≡ None → ⊥
  name_there UnknownExtension h none = not_both _ h.0 h.1.0 none
  name_there (DataType t) h none = unnamed_apart h.0 h.1 none
  name_there (Metadata m) h none = unnamed_apart h.0 h.1 none
  name_there (DataTypeAndMetadata t m) h none = unnamed_apart h.0 h.1 none
  name_there Unread h none = h

  -- under another extension name it is invalid only if that is reserved
  reserved_there : (r : Reasons) (s : Text) → IsInvalidFor c r → HasOtherName c s → ¬ IsReserved s → ⊥
  reserved_there UnknownExtension s h named free = free (subst IsReserved (one_text _ h.0 s h.1.0 named.0) h.2)
  reserved_there (DataType t) s h named free = other_apart s h.0 named h.1
  reserved_there (Metadata m) s h named free = other_apart s h.0 named h.1
  reserved_there (DataTypeAndMetadata t m) s h named free = other_apart s h.0 named h.1
  reserved_there Unread s h named free = h

  module _ (distinct : (a b : ExtensionName) → name_text a ≡ name_text b → a ≡ b)
      (one_kind : (name : Text) (t : Tree) (k l : Kind) → Accepts name t k → Accepts name t l → k ≡ l)
      (one_fault : (n : ExtensionName) (t : Tree) (p q : Path) (f g : LayoutFault) → FaultAt n t p f → FaultAt n t q g → (p ≡ q) × (f ≡ g))
      (no_fault : (n : ExtensionName) (t : Tree) (p : Path) (f : LayoutFault) → IsAccepted (name_text n) t → ¬ FaultAt n t p f) where
    one_name : (m n : ExtensionName) → HasName c m → HasName c n → m ≡ n
    one_name m n h k = distinct m n (one_text _ (name_text m) (name_text n) h k)

    -- a type of a kind has no fault, whatever name each is under
    types_apart : (m n : ExtensionName) (k : Kind) (f : TypeFault) → HasName c m → HasName c n → TypeAccepted m c.data_type k → HasTypeFault n c.data_type f → ⊥
    types_apart m n k f h g accepted faulty = type_apart no_fault n c.data_type k f (subst (λ x. TypeAccepted x c.data_type k) (one_name m n h g) accepted) faulty

    one_fault_there : (m n : ExtensionName) (f g : TypeFault) → HasName c m → HasName c n → HasTypeFault m c.data_type f → HasTypeFault n c.data_type g → SameTypeFault f g
    one_fault_there m n f g h k one two = one_type_fault one_fault n c.data_type f g (subst (λ x. HasTypeFault x c.data_type f) (one_name m n h k) one) two

    -- geometries are not invalid
    kind_apart : (r : Reasons) (k : Kind) (v : Values) → IsOfKind c k v → IsInvalidFor c r → ⊥
    kind_apart UnknownExtension k v is h = other_apart h.0 is.0 h.1 is.1
    kind_apart (DataType t) k v is h = types_apart is.0 h.0 k t is.1 h.1 is.2 h.2
    kind_apart (Metadata m) k v is h = text_apart (metadata_on c) m v h.3 is.3
    kind_apart (DataTypeAndMetadata t m) k v is h = types_apart is.0 h.0 k t is.1 h.1 is.2 h.2
    kind_apart Unread k v is h = h

    one_reasons : (r s : Reasons) → IsInvalidFor c r → IsInvalidFor c s → SameReasons r s
    one_reasons UnknownExtension UnknownExtension h k = tt
    one_reasons UnknownExtension (DataType t) h k = absurd (other_apart h.0 k.0 h.1 k.1)
    one_reasons UnknownExtension (Metadata m) h k = absurd (other_apart h.0 k.0 h.1 k.1)
    one_reasons UnknownExtension (DataTypeAndMetadata t m) h k = absurd (other_apart h.0 k.0 h.1 k.1)
    one_reasons (DataType t) UnknownExtension h k = absurd (other_apart k.0 h.0 k.1 h.1)
    one_reasons (Metadata m) UnknownExtension h k = absurd (other_apart k.0 h.0 k.1 h.1)
    one_reasons (DataTypeAndMetadata t m) UnknownExtension h k = absurd (other_apart k.0 h.0 k.1 h.1)
    one_reasons (DataType t) (DataType u) h k = one_fault_there h.0 k.0 t u h.1 k.1 h.2 k.2
    one_reasons (DataType t) (Metadata m) h k = absurd (types_apart k.0 h.0 k.2.0 t k.1 h.1 k.2.1 h.2)
    one_reasons (DataType t) (DataTypeAndMetadata u m) h k = absurd (text_apart (metadata_on c) m h.3.0 k.3 h.3.1)
    one_reasons (Metadata m) (DataType t) h k = absurd (types_apart h.0 k.0 h.2.0 t h.1 k.1 h.2.1 k.2)
    one_reasons (Metadata m) (Metadata n) h k = one_metadata_fault (metadata_on c) m n h.3 k.3
    one_reasons (Metadata m) (DataTypeAndMetadata u n) h k = absurd (types_apart h.0 k.0 h.2.0 u h.1 k.1 h.2.1 k.2)
    one_reasons (DataTypeAndMetadata t m) (DataType u) h k = absurd (text_apart (metadata_on c) m k.3.0 h.3 k.3.1)
    one_reasons (DataTypeAndMetadata t m) (Metadata n) h k = absurd (types_apart k.0 h.0 k.2.0 t k.1 h.1 k.2.1 h.2)
    one_reasons (DataTypeAndMetadata t m) (DataTypeAndMetadata u n) h k = (one_fault_there h.0 k.0 t u h.1 k.1 h.2 k.2, one_metadata_fault (metadata_on c) m n h.3 k.3)
    one_reasons Unread s h k = absurd h
    one_reasons UnknownExtension Unread h k = absurd k
    one_reasons (DataType t) Unread h k = absurd k
    one_reasons (Metadata m) Unread h k = absurd k
    one_reasons (DataTypeAndMetadata t m) Unread h k = absurd k

    same_kind : (j k : Kind) (v w : Values) → IsOfKind c j v → IsOfKind c k w → j ≡ k
    same_kind j k v w h g =
        one_kind (name_text g.0) (outline Layout c.data_type) j k (subst (λ x. TypeAccepted x c.data_type j) (one_name h.0 g.0 h.1 g.1) h.2) g.2

    module _ (one_inferred : (k l : Kind) → TypeInferred c.data_type k → TypeInferred c.data_type l → k ≡ l) (infer : Bool) where
      one_geometry : (g h : GeometryColumn) → IsFinding infer c (Geometry g) → IsFinding infer c (Geometry h) → SameGeometry g h
      one_geometry g h is k =
          let v = values_of g.metadata in
          let w = values_of h.metadata in
          (same_kind g.kind h.kind v w is.0 k.0, one_values (metadata_on c) v w is.0.3 k.0.3, one_crs (metadata_on c) g.metadata.crs h.metadata.crs is.1 k.1)

      one_taken : (g h : GeometryColumn) → IsFinding infer c (Inferred g) → IsFinding infer c (Inferred h) → SameGeometry g h
      one_taken g h is k =
          let v = values_of g.metadata in
          let w = values_of h.metadata in
          (one_inferred g.kind h.kind is.1.1 k.1.1, one_values (metadata_on c) v w is.1.3 k.1.3, one_crs (metadata_on c) g.metadata.crs h.metadata.crs is.2 k.2)

      pub one_finding : (f g : Finding) → IsFinding infer c f → IsFinding infer c g → SameFinding f g
      one_finding (Geometry g) (Geometry h) is k = one_geometry g h is k
      one_finding (Geometry g) (Invalid r) is k = absurd (kind_apart r g.kind (values_of g.metadata) is.0 k)
      one_finding (Geometry g) Extension is k = absurd (other_apart k.0 is.0.0 k.1 is.0.1)
      one_finding (Geometry g) (Inferred h) is k = absurd (unnamed_apart is.0.0 is.0.1 k.1.0)
      one_finding (Geometry g) Plain is k = absurd (unnamed_apart is.0.0 is.0.1 k.0)
      one_finding (Invalid r) (Geometry g) is k = absurd (kind_apart r g.kind (values_of g.metadata) k.0 is)
      one_finding (Invalid r) (Invalid s) is k = one_reasons r s is k
      one_finding (Invalid r) Extension is k = absurd (reserved_there r k.0 is k.1 k.2)
      one_finding (Invalid r) (Inferred h) is k = absurd (name_there r is k.1.0)
      one_finding (Invalid r) Plain is k = absurd (name_there r is k.0)
      one_finding Extension (Geometry g) is k = absurd (other_apart is.0 k.0.0 is.1 k.0.1)
      one_finding Extension (Invalid r) is k = absurd (reserved_there r is.0 k is.1 is.2)
      one_finding Extension Extension is k = tt
      one_finding Extension (Inferred h) is k = absurd (not_both _ is.0 is.1.0 k.1.0)
      one_finding Extension Plain is k = absurd (not_both _ is.0 is.1.0 k.0)
      one_finding (Inferred g) (Geometry h) is k = absurd (unnamed_apart k.0.0 k.0.1 is.1.0)
      one_finding (Inferred g) (Invalid r) is k = absurd (name_there r k is.1.0)
      one_finding (Inferred g) Extension is k = absurd (not_both _ k.0 k.1.0 is.1.0)
      one_finding (Inferred g) (Inferred h) is k = one_taken g h is k
      one_finding (Inferred g) Plain is k = absurd (k.1 is.0 g.kind (values_of g.metadata) is.1)
      one_finding Plain (Geometry g) is k = absurd (unnamed_apart k.0.0 k.0.1 is.0)
      one_finding Plain (Invalid r) is k = absurd (name_there r k is.0)
      one_finding Plain Extension is k = absurd (not_both _ k.0 k.1.0 is.0)
      one_finding Plain (Inferred g) is k = absurd (is.1 k.0 g.kind (values_of g.metadata) k.1)
      one_finding Plain Plain is k = tt
