-- What two columns are read as, and what is written of that.
use Rattle.std.proofs.Common.{◌≡◌, ◌∙◌, ◌↔◌, sym, Bool, IsTrue}
use Rattle.arrow_values.specs.Tree.{FieldTree}
use Rattle.geoarrow_layout.specs.Kinds.{name_of}
use Rattle.geoarrow_layout.specs.Layouts.{layout}
use Rattle.geoarrow_meta.specs.Written.{meta_value}
use Rattle.geoarrow_schema.specs.declared.types.GeoArrowType.{GeoArrowType}
use Rattle.geoarrow_schema.specs.Types.{kind_of, meta_of, SameType}
use Rattle.geoarrow_schema.specs.Reads.{Reads, ReadsAlone, writes}
use Rattle.uses.specs.Columns.{AreWrittenAlike}

-- types of one kind and one metadata are written alike
same_type_same_written : (g h : GeoArrowType) → SameType g h → writes g ≡ writes h
same_type_same_written g h same = λ z. (name_of (same.0 z), layout (same.0 z), meta_value (same.1 z))

pub alike_where_same : (e f : FieldTree) (g h : GeoArrowType) (same : Bool) → Reads e g → ReadsAlone e g → Reads f h → ReadsAlone f h
    → (IsTrue same ↔ (writes g ≡ writes h)) → (IsTrue same ↔ AreWrittenAlike e f)
alike_where_same e f g h same reads_e alone_e reads_f alone_f tested = (
  λ yes. (g, h, reads_e, reads_f, tested.0 yes),
  λ alike. tested.1 (sym (same_type_same_written alike.0 g (alone_e (kind_of alike.0) (meta_of alike.0) alike.2)) ∙ alike.4 ∙ same_type_same_written alike.1 h (alone_f (kind_of alike.1) (meta_of alike.1) alike.3)),
)
