-- What is written reads back.
use Rattle.std.proofs.Common.{◌≡◌, ◌∙◌, refl, sym, subst, Option, Some, None, Bool, []}
use Rattle.std.proofs.lemmas.Option.{same_Some}
use Rattle.arrow_values.specs.Tree.{Text, Tree, FieldTree}
use Rattle.arrow_values.specs.Texts.{extension_metadata, set_extension, text_at, name_key, metadata_key}
use Rattle.geoarrow_layout.specs.declared.native_kinds.Kind.{Kind}
use Rattle.geoarrow_layout.specs.Kinds.{name_of}
use Rattle.geoarrow_layout.specs.Shapes.{Accepts}
use Rattle.geoarrow_layout.specs.Layouts.{layout}
use Rattle.geoarrow_meta.specs.declared.metadata.Metadata.{Metadata}
use Rattle.geoarrow_meta.specs.Written.{printed, normal}
use Rattle.geoarrow_meta.specs.Read.{DenotesMetadata}
use Rattle.geoarrow_meta.specs.Laws.{text_denotes_one}
use Rattle.geoarrow_native.specs.Column.{ReadsAs, written_field}

texts_set : (name : Text) (text : Option Text) → (text_at name_key (set_extension name text []) ≡ Some name) × (text_at metadata_key (set_extension name text []) ≡ text)
texts_set name None = (refl, refl)
texts_set name (Some text) = (refl, refl)

pub written_reads : (n : Text) (b : Bool) (k : Kind) (m : Metadata) → Accepts (name_of k) (layout k) k → DenotesMetadata (printed m) (normal m) → ReadsAs (written_field n b k m) k (normal m)
unfolding ReadsAs
written_reads n b k m column stands =
    let set = texts_set (name_of k) (printed m) in
    ((set.0, column.1), subst (λ t. DenotesMetadata t (normal m)) (sym set.1) stands)

pub read_once : (f : FieldTree) → ((n : Text) (t : Tree) (j k : Kind) → Accepts n t j → Accepts n t k → j ≡ k) → (j k : Kind) (m n : Metadata) → ReadsAs f j m → ReadsAs f k n → (j ≡ k) × (m ≡ n)
unfolding ReadsAs
read_once f one_kind j k m n h g =
    (one_kind (name_of j) f.tree j k (refl, h.0.1) (same_Some (name_of j) (name_of k) (sym h.0.0 ∙ g.0.0), g.0.1), text_denotes_one (extension_metadata f) m n h.1 g.1)
