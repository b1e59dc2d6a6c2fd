-- What was written denotes the normal form, and two metadata are written alike exactly where their normal forms are
-- equal.
use Rattle.std.proofs.Common.{◌≡◌, ◌↔◌, false, Option, Some, None, IfSome, option_map, unwrap_or, refl, sym, ap, ◌∙◌, subst, true≢false, arith}
use Rattle.serde_json.specs.Data.{Data, null}
use Rattle.serde_json.specs.Read.{max_depth}
use Rattle.serde_json.specs.Written.{compact_text}
use Rattle.geoarrow_meta.specs.declared.edges.Edges.{Edges}
use Rattle.geoarrow_meta.specs.declared.crs.crs_type.CrsType.{CrsType}
use Rattle.geoarrow_meta.specs.declared.metadata.Metadata.{Metadata}
use Rattle.geoarrow_meta.specs.CrsValue.{IsCrsValue}
use Rattle.geoarrow_meta.specs.Written.{of_parts, meta_value, normal, written, IsReadBack, NestsWithin}
use Rattle.geoarrow_meta.specs.Read.{empty, present, some_has_float, Denotes, DenotesMetadata}
use Rattle.geoarrow_meta.specs.Laws.{denotes_one, normal_value}

-- a value that may stand as a CRS value is found where it stands
there : (v : Option Data) → IfSome v IsCrsValue → (v ≡ present (Some (unwrap_or v null))) × (some_has_float (present (Some (unwrap_or v null))) ≡ false)
there None h = (refl, refl)
there (Some null) h = absurd (true≢false h.0)
there (Some _) h = (refl, h.1)

of_written : (v : Option Data) (t : Option CrsType) (e : Option Edges) → IfSome v IsCrsValue → Denotes (written v t e) (of_parts v t e)
of_written v None None h = record { is_object = refl; whole = (there v h).1; crs = (there v h).0; crs_type = refl; edges = refl }
of_written v (Some t) None h = record { is_object = refl; whole = (there v h).1; crs = (there v h).0; crs_type = refl; edges = refl }
of_written v _ _ h = record { is_object = refl; whole = (there v h).1; crs = (there v h).0; crs_type = refl; edges = refl }

abbrev StandsAs : Option Data → Metadata → Type 0
StandsAs None m = m ≡ empty
StandsAs (Some d) m = Denotes d m

parts_stand : (v : Option Data) (t : Option CrsType) (e : Option Edges) → IfSome v IsCrsValue → StandsAs (meta_value (of_parts v t e)) (normal (of_parts v t e))
parts_stand None t None h = refl
parts_stand v t e h = of_written v t e h

text_stands : (o : Option Data) (m : Metadata) → StandsAs o m → IsReadBack o → DenotesMetadata (option_map compact_text o) m
text_stands None m h r = h
text_stands (Some d) m h r = (d, r, h)

-- where `serde_json` reads what it printed, the text denotes the normal form
pub denotes_normal : (m : Metadata) → IfSome m.crs.value IsCrsValue → IsReadBack (meta_value m) → DenotesMetadata (option_map compact_text (meta_value m)) (normal m)
denotes_normal m h r = text_stands (meta_value m) (normal m) (parts_stand m.crs.value m.crs.crs_type m.edges h) r

-- ---- two metadata are written alike exactly where their normal forms are equal

denotes_both : (o : Option Data) (m n : Metadata) → StandsAs o m → StandsAs o n → m ≡ n
denotes_both None m n h k = h ∙ sym k
denotes_both (Some d) m n h k = denotes_one d m n h k

pub written_alike : (m n : Metadata) → IfSome m.crs.value IsCrsValue → IfSome n.crs.value IsCrsValue → (meta_value m ≡ meta_value n) ↔ (normal m ≡ normal n)
written_alike m n h k = (
  λ e. denotes_both _ _ _ (subst (λ o. StandsAs o (normal m)) e (parts_stand m.crs.value m.crs.crs_type m.edges h)) (parts_stand n.crs.value n.crs.crs_type n.edges k),
  λ e. sym (normal_value m) ∙ ap meta_value e ∙ normal_value n,
)

-- ---- the bound on nesting

nests : (v : Option Data) (t : Option CrsType) (e : Option Edges) → NestsWithin 100 v → NestsWithin max_depth (meta_value (of_parts v t e))
nests None t None h = tt
nests None (Some t) _ h = omega arith
nests (Some d) None None h = omega arith
nests (Some d) (Some t) None h = omega arith
nests _ _ _ h = omega arith

-- the value of a metadata with a CRS value nested at most 100 levels is nested no deeper than texts are read
pub nests_within : (m : Metadata) → NestsWithin 100 m.crs.value → NestsWithin max_depth (meta_value m)
nests_within m h = nests m.crs.value m.crs.crs_type m.edges h
