-- Laws of metadata, for the crates above.
use Rattle.std.proofs.Common.{◌≡◌, false, Option, Some, None, option_map, refl, sym, ap, ◌∙◌, subst, true≢false}
use Rattle.std.proofs.lemmas.Slice.Eq.{bytes_eq-Decides}
use Rattle.std.specs.Str.{bytes_eq}
use Rattle.arrow_values.specs.Tree.{Text}
use Rattle.serde_json.specs.Data.{Data, string}
use Rattle.geoarrow_meta.specs.declared.edges.Edges.{Edges}
use Rattle.geoarrow_meta.specs.declared.edges.Edges.TheVariants.{Andoyer, Karney, Spherical, Thomas, Vincenty}
use Rattle.geoarrow_meta.specs.declared.crs.crs_type.CrsType.{CrsType}
use Rattle.geoarrow_meta.specs.declared.crs.crs_type.CrsType.TheVariants.{Projjson, Wkt2_2019, AuthorityCode, Srid}
use Rattle.geoarrow_meta.specs.declared.metadata.Metadata.{Metadata}
use Rattle.geoarrow_meta.specs.Read.{edges_text, crs_type_text, Denotes, DenotesMetadata}
use Rattle.geoarrow_meta.specs.Written.{of_parts, meta_value, normal}

differ : (s t : Text) → bytes_eq s t ≡ false → s ≡ t → ⊥
differ s t other e = true≢false (sym ((bytes_eq-Decides s t).1 e) ∙ other)

crs_type_text-inj : (a b : CrsType) → crs_type_text a ≡ crs_type_text b → a ≡ b
crs_type_text-inj Projjson Projjson e = refl
crs_type_text-inj Wkt2_2019 Wkt2_2019 e = refl
crs_type_text-inj AuthorityCode AuthorityCode e = refl
crs_type_text-inj Srid Srid e = refl
crs_type_text-inj _ _ e = absurd (differ _ _ refl e)

edges_text-inj : (a b : Edges) → edges_text a ≡ edges_text b → a ≡ b
edges_text-inj Andoyer Andoyer e = refl
edges_text-inj Karney Karney e = refl
edges_text-inj Spherical Spherical e = refl
edges_text-inj Thomas Thomas e = refl
edges_text-inj Vincenty Vincenty e = refl
edges_text-inj _ _ e = absurd (differ _ _ refl e)

same_name : {A : Type 0} (text : A → Text) → ((a b : A) → text a ≡ text b → a ≡ b)
    → (a b : Option A) → option_map (λ x. string (text x)) a ≡ option_map (λ x. string (text x)) b → a ≡ b
same_name text inj None None e = refl
same_name text inj (Some a) (Some b) e = ap Some (inj a b cc)
same_name text inj _ _ e = absurd (cc)

-- a JSON value denotes at most one metadata
pub denotes_one : (d : Data) (m n : Metadata) → Denotes d m → Denotes d n → m ≡ n
denotes_one d m n a b = λ i. record {
  crs = record {
    value = (a.crs ∙ sym b.crs) i;
    crs_type = same_name crs_type_text crs_type_text-inj m.crs.crs_type n.crs.crs_type (a.crs_type ∙ sym b.crs_type) i;
  };
  edges = same_name edges_text edges_text-inj m.edges n.edges (a.edges ∙ sym b.edges) i;
}

-- and so does a text, or its absence
pub text_denotes_one : (t : Option Text) (m n : Metadata) → DenotesMetadata t m → DenotesMetadata t n → m ≡ n
text_denotes_one None m n a b = a ∙ sym b
text_denotes_one (Some s) m n a b =
    let same : Some a.0 ≡ Some b.0 = sym a.1 ∙ b.1 in
    let f : a.0 ≡ b.0 = cc in
    denotes_one b.0 m n (subst (λ d. Denotes d m) f a.2) b.2

-- the normal form of a metadata is written as the metadata itself
parts_written : (v : Option Data) (t : Option CrsType) (e : Option Edges) → meta_value (normal (of_parts v t e)) ≡ meta_value (of_parts v t e)
parts_written None t None = refl
parts_written _ t e = refl

pub normal_value : (m : Metadata) → meta_value (normal m) ≡ meta_value m
normal_value m = parts_written m.crs.value m.crs.crs_type m.edges
