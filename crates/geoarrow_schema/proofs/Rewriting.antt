-- A field in normal form reads as that.
use Rattle.geoarrow_schema.proofs.Terms.{◌≡◌, sym, ap, subst, FieldTree, SetsExtension, name_key, metadata_key, set_extension, Kind, name_of, Accepted}
use Rattle.geoarrow_schema.proofs.Terms.{layout, Metadata, DenotesMetadata, ReadsAs, GeoArrowType, kind_of, meta_of, Reads, ReadsAlone, writes}
use Rattle.geoarrow_meta.specs.Laws.{normal_value}
use Rattle.geoarrow_meta.specs.Written.{printed, normal}
use Rattle.geoarrow_schema.specs.Normal.{rewritten, HasKeysOf, ReadsShallow}

pub kinds_written : ((j k : Kind) → layout j ≡ layout k → j ≡ k) → (g h : GeoArrowType) → writes g ≡ writes h → kind_of g ≡ kind_of h
kinds_written distinct g h same = distinct (kind_of g) (kind_of h) (ap (λ w. w.1) same)

-- a field with the extension keys of a metadata has those of its normal form, which is written as the metadata itself
pub normal_written : (f n : FieldTree) (k : Kind) (m : Metadata) → f.tree ≡ layout k → n ≡ record f { metadata = set_extension (name_of k) (printed m) f.metadata } → n ≡ rewritten f k (normal m)
normal_written f n k m typed is = rw (normal_value m, ← typed) is

-- a field with the extension keys of a kind that accepts its tree reads as the normal form, where its text denotes that
pub reads_where : (f n : FieldTree) (k : Kind) (m : Metadata) → f.tree ≡ n.tree → Accepted k f.tree → DenotesMetadata (printed m) (normal m)
    → SetsExtension (name_of k) (printed m) f.metadata n.metadata → ReadsAs n k (normal m)
unfolding ReadsAs
reads_where f n k m same column stands sets =
    ((sets name_key, subst (Accepted k) same column), subst (λ t. DenotesMetadata t (normal m)) (sym (sets metadata_key)) stands)

-- what holds at the type that a field reads as holds at each
pub keys_along : (f n : FieldTree) (found g : GeoArrowType) → ReadsAlone f found → HasKeysOf found f n → Reads f g → HasKeysOf g f n
keys_along f n found g alone h reads = let same = alone (kind_of g) (meta_of g) reads in rw (same.0, same.1) h

pub shallow_along : (f n : FieldTree) (found g : GeoArrowType) → ReadsAlone f found → ReadsShallow n found → Reads f g → ReadsShallow n g
shallow_along f n found g alone h reads = let same = alone (kind_of g) (meta_of g) reads in rw (same.0, same.1) h
