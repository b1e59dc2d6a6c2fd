-- What a field is taken for.
use Rattle.geoarrow_schema.proofs.Terms.{◌≡◌, ◌⊎◌, inl, inr, ◌∙◌, sym, ap, subst, Option, Result, Ok, Err, same_Some, arc_value, Text, Tree, FieldTree, extension_metadata, IsMemory, IsGeoMemory}
use Rattle.geoarrow_schema.proofs.Terms.{IsInvalidOf, ArrowError, GeoArrowError, Arrow, InvalidGeoArrow, Kind}
use Rattle.geoarrow_schema.proofs.Terms.{Metadata, DenotesMetadata, TextRefusedAs, Arc, Global, GeoArrowType, kind_of, metadata_of, meta_of, SameType}
use Rattle.geoarrow_schema.proofs.Terms.{HasGeoArrowName, Reads, IsRefusedBy, InferredAs, InfersAs, Infers, ReadsOrInfers, ReadsOrInfersAlone, InfersNone, uninferred_text, UninferredAs}
use Rattle.geoarrow_schema.proofs.Terms.{IsInferenceRefusal, IsInference, YieldsInferred, IfOk, IfErr}
use Rattle.geoarrow_meta.specs.Laws.{text_denotes_one}
use Rattle.geoarrow_schema.proofs.Reading.{read_has_name, read_uninferred}

-- what is inferred of a tree and a metadata
pub type_inferred : (f : FieldTree) (k : Kind) (m : Arc Metadata Global) (g : GeoArrowType) → kind_of g ≡ k → metadata_of g ≡ m → ¬ HasGeoArrowName f → DenotesMetadata (extension_metadata f) (arc_value m) → InferredAs f.tree k → Infers f g
unfolding InfersAs
type_inferred f k m g kind meta unnamed stands column = (unnamed, rw meta stands, rw kind column)

-- as for one alone, and read as none beside
pub infers_alone : (f : FieldTree) (t : Tree) (r : Option Kind) (g : GeoArrowType) → t ≡ f.tree → YieldsInferred t r → Infers f g → ReadsOrInfersAlone f g
unfolding InfersAs
infers_alone f t r g same answers here =
    let is : YieldsInferred f.tree r = subst (λ u. YieldsInferred u r) same answers in (
      (λ k m there. absurd (here.0 (read_has_name f k m there))),
      λ k m there.
          (same_Some k (kind_of g) (sym ((is k).1 there.2) ∙ (is (kind_of g)).1 here.2), text_denotes_one (extension_metadata f) m (meta_of g) there.1 here.1),
    )

-- how a field is refused that is taken for nothing
abbrev IsUninferred : FieldTree → GeoArrowError → Type 0
IsUninferred f e = IsGeoMemory e ⊎ (InfersNone f × UninferredAs f e)

pub text_error : (f : FieldTree) (a : ArrowError) → IsMemory a ⊎ ((m : Metadata) → ¬ DenotesMetadata (extension_metadata f) m) → IsMemory a ⊎ TextRefusedAs (extension_metadata f) a → IsUninferred f (Arrow a)
unfolding InfersAs
text_error f a (inr none) (inr refused) = inr ((λ k m h. none m h.1), (none, refused))
text_error f a (inl memory) refused = inl (ap Arrow memory)
text_error f a none (inl memory) = inl (ap Arrow memory)

pub none_for_tree : (f : FieldTree) → ((k : Kind) → ¬ InferredAs f.tree k) → InfersNone f
unfolding InfersAs
none_for_tree f none k m h = none k h.2

pub tree_error : (f : FieldTree) (text : Text) (e : GeoArrowError) (m : Metadata) → DenotesMetadata (extension_metadata f) m → ((k : Kind) → ¬ InferredAs f.tree k) → text ≡ uninferred_text f.tree → IsGeoMemory e ⊎ IsInvalidOf text e → IsUninferred f e
tree_error f text e m stands none why (inl memory) = inl memory
tree_error f text (InvalidGeoArrow s) m stands none why (inr is) = inr (none_for_tree f none, ((m, stands), none, is ∙ why))
tree_error f text e m stands none why (inr is) = absurd is

pub unnamed_error : (f : FieldTree) (e : GeoArrowError) → ¬ HasGeoArrowName f → IsUninferred f e → IsInferenceRefusal f e
unnamed_error f e unnamed (inl memory) = inl memory
unnamed_error f e unnamed (inr (none, refused)) = inr ((λ k m r. unnamed (read_has_name f k m r)), none, inr (unnamed, refused))

-- a field that is read, or refused, under its name is taken for nothing
pub named_inference : (f : FieldTree) (r : Result GeoArrowType GeoArrowError) → IfOk r (Reads f) → IfErr r (IsRefusedBy f) → IsInference f r
unfolding InfersAs
named_inference f (Ok g) reads refused = inl reads
named_inference f (Err e) reads (named, inl memory) = inl memory
named_inference f (Err e) reads (named, inr (none, refused)) = inr (none, (λ k m h. h.0 named), inl (named, refused))

-- a field is read as one type or taken for one
pub taken_once : (f : FieldTree) → ((g h : GeoArrowType) → Reads f g → Reads f h → SameType g h) → ((g h : GeoArrowType) → Infers f g → Infers f h → SameType g h)
    → (g h : GeoArrowType) → ReadsOrInfers f g → ReadsOrInfers f h → SameType g h
taken_once f read inferred g h (inl p) (inl q) = read g h p q
taken_once f read inferred g h (inr p) (inr q) = inferred g h p q
taken_once f read inferred g h (inl p) (inr q) = absurd (read_uninferred f (kind_of g) (kind_of h) (meta_of g) (meta_of h) p q)
taken_once f read inferred g h (inr p) (inl q) = absurd (read_uninferred f (kind_of h) (kind_of g) (meta_of h) (meta_of g) q p)
