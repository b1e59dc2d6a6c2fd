-- A field's name, tree and metadata text, and what it reads as.
use Rattle.geoarrow_schema.proofs.Terms.{◌≡◌, ◌⊎◌, ◌∙◌, inl, inr, ap, sym, subst, Some, same_Some, arc_value, Text, Tree, FieldTree, extension_metadata, IsMemory, IsGeoMemory, IsInvalidOf, ArrowError}
use Rattle.geoarrow_schema.proofs.Terms.{GeoArrowError, Arrow, InvalidGeoArrow, Width, Kind, name_text, extension_of, name_of, Accepts, Accepted, IsBytes, IsText, Metadata, DenotesMetadata}
use Rattle.geoarrow_schema.proofs.Terms.{TextRefusedAs, Arc, Global, ReadsAs, GeoArrowType, kind_of, metadata_of, meta_of, HasName, HasGeoArrowName, Reads, ReadsAsNone}
use Rattle.geoarrow_schema.proofs.Terms.{HasWrongStorage, ColumnRefusedAs, IsRefusedBy, IsTypeRefusal, InfersAs, ReadsOrInfersAlone}
use Rattle.geoarrow_layout.specs.declared.names.ExtensionName.{ExtensionName}
use Rattle.geoarrow_layout.specs.declared.names.ExtensionName.TheVariants.{Wkb, Wkt}
use Rattle.geoarrow_layout.specs.declared.native_kinds.Kind.TheVariants as kinds

-- a field that is read has a GeoArrow name
pub read_has_name : (f : FieldTree) (k : Kind) (m : Metadata) → ReadsAs f k m → HasGeoArrowName f
unfolding ReadsAs
read_has_name f k m r = (extension_of k, r.0.0)

-- and is taken for nothing
pub read_uninferred : (f : FieldTree) (j k : Kind) (m n : Metadata) → ReadsAs f j m → InfersAs f k n → ⊥
unfolding InfersAs
read_uninferred f j k m n reads infers = infers.0 (read_has_name f j m reads)

-- a field of the name and the data type of a kind, with a metadata, is read as the type of them
pub type_reads : (f : FieldTree) (n : ExtensionName) (k : Kind) (m : Arc Metadata Global) (g : GeoArrowType) → kind_of g ≡ k → metadata_of g ≡ m → HasName f n → Accepts (name_text n) f.tree k → DenotesMetadata (extension_metadata f) (arc_value m) → Reads f g
unfolding ReadsAs
type_reads f n k m g kind meta named column stands = rw (kind, meta) ((named ∙ ap Some column.0, column.1), stands)

-- and as no other, and taken for none beside
pub reads_alone : (f : FieldTree) (g : GeoArrowType) → ((j k : Kind) (m n : Metadata) → ReadsAs f j m → ReadsAs f k n → (j ≡ k) × (m ≡ n)) → Reads f g → ReadsOrInfersAlone f g
reads_alone f g once here =
    ((λ k m there. once k (kind_of g) m (meta_of g) there here), λ k m there. absurd (read_uninferred f (kind_of g) k (meta_of g) m here there))

-- a tree of no kind of the field's name is read as none
none_of_name : (f : FieldTree) (n : ExtensionName) → HasName f n → ((k : Kind) → ¬ Accepts (name_text n) f.tree k) → ReadsAsNone f
unfolding ReadsAs
none_of_name f n has none k m r = none k (same_Some (name_text n) (name_of k) (sym has ∙ r.0.0), r.0.1)

-- the extension names are texts of their own
abbrev pub NamesAreDistinct : Type 0
NamesAreDistinct = (a b : ExtensionName) → name_text a ≡ name_text b → a ≡ b

-- a field of that name is stored as it says, if its tree is bytes under the name of well-known binary and text under that of well-known text
well_stored : NamesAreDistinct → (f : FieldTree) (n : ExtensionName) → HasName f n → (n ≡ Wkb → (w : Width) × IsBytes w f.tree) → (n ≡ Wkt → (w : Width) × IsText w f.tree) → ¬ HasWrongStorage f
well_stored distinct f n has bytes text (inl (named, none)) = let s = bytes (distinct n Wkb (same_Some _ _ (sym has ∙ named))) in none s.0 s.1
well_stored distinct f n has bytes text (inr (named, none)) = let s = text (distinct n Wkt (same_Some _ _ (sym has ∙ named))) in none s.0 s.1

-- so is a column of a kind
kind_stored : (k : Kind) (t : Tree) → Accepted k t → (extension_of k ≡ Wkb → (w : Width) × IsBytes w t) × (extension_of k ≡ Wkt → (w : Width) × IsText w t)
kind_stored (kinds.Wkb w) t h = (λ e. (w, h), λ e. absurd cc)
kind_stored (kinds.Wkt w) t h = (λ e. absurd cc, λ e. (w, h))
kind_stored _ t h = (λ e. absurd cc, λ e. absurd cc)

-- and a field of the name of well-known binary or text is not, whose tree is of no kind of the name
wrong_storage : (f : FieldTree) (n : ExtensionName) → (n ≡ Wkb) ⊎ (n ≡ Wkt) → HasName f n → ((k : Kind) → ¬ Accepts (name_text n) f.tree k) → HasWrongStorage f
wrong_storage f n (inl is) named none = inl (subst (HasName f) is named, λ w h. none (kinds.Wkb w) (ap name_text is, h))
wrong_storage f n (inr is) named none = inr (subst (HasName f) is named, λ w h. none (kinds.Wkt w) (ap name_text is, h))

-- ---- refusals

-- that of a field of the name and the data type of a kind whose metadata text is refused
pub column_refused : NamesAreDistinct → (f : FieldTree) (n : ExtensionName) (k : Kind) (a : ArrowError) → HasName f n → Accepts (name_text n) f.tree k
    → IsMemory a ⊎ ((m : Metadata) → ¬ DenotesMetadata (extension_metadata f) m) → IsMemory a ⊎ TextRefusedAs (extension_metadata f) a → IsRefusedBy f (Arrow a)
unfolding ReadsAs
column_refused distinct f n k a named column (inl memory) refused = ((n, named), inl (ap Arrow memory))
column_refused distinct f n k a named column none (inl memory) = ((n, named), inl (ap Arrow memory))
column_refused distinct f n k a named column (inr none) (inr refused) =
    let stored = kind_stored k f.tree column.1 in
    ((n, named), inr (λ j m r. none m r.1, (well_stored distinct f (extension_of k) (named ∙ ap Some column.0) stored.0 stored.1, inl refused)))

-- that of a field whose name is of well-known binary or text, and whose tree is not
pub unstored_refused : (f : FieldTree) (n : ExtensionName) (text : Text) (e : GeoArrowError) → (n ≡ Wkb) ⊎ (n ≡ Wkt) → HasName f n → ((k : Kind) → ¬ Accepts (name_text n) f.tree k)
    → IsGeoMemory e ⊎ IsInvalidOf text e → IsRefusedBy f e
unstored_refused f n text e serialized named none (inl memory) = ((n, named), inl memory)
unstored_refused f n text (InvalidGeoArrow s) serialized named none (inr is) = ((n, named), inr (none_of_name f n named none, wrong_storage f n serialized named none))
unstored_refused f n text e serialized named none (inr is) = absurd is

-- that of any other field whose tree is of no kind
pub structured_refused : NamesAreDistinct → (f : FieldTree) (n : ExtensionName) (a : ArrowError) → ¬ (n ≡ Wkb) → ¬ (n ≡ Wkt) → HasName f n → ((k : Kind) → ¬ Accepts (name_text n) f.tree k)
    → IsMemory a ⊎ ColumnRefusedAs f a → IsRefusedBy f (Arrow a)
structured_refused distinct f n a binary text named none (inl memory) = ((n, named), inl (ap Arrow memory))
structured_refused distinct f n a binary text named none (inr refused) =
    ((n, named), inr (none_of_name f n named none, (well_stored distinct f n named (λ e. absurd (binary e)) (λ e. absurd (text e)), refused)))

-- that where a type is wanted
pub type_refused : (f : FieldTree) (e : GeoArrowError) → IsRefusedBy f e → IsTypeRefusal f e
type_refused f e (named, inl memory) = inl memory
type_refused f e (named, inr (none, refused)) = inr (none, inl (named, refused))

pub unnamed_refused : (f : FieldTree) (text : Text) (e : GeoArrowError) → ¬ HasGeoArrowName f → IsGeoMemory e ⊎ IsInvalidOf text e → IsTypeRefusal f e
unnamed_refused f text e unnamed (inl memory) = inl memory
unnamed_refused f text e unnamed (inr is) = inr (λ k m r. unnamed (read_has_name f k m r), inr (unnamed, text, is))
