-- A metadata text denotes one thing: values, or a fault.
use Rattle.std.proofs.Common.{◌≡◌, [], ◌∷◌, codes, Option, None, Some, option_map, refl, sym, ap, ◌∙◌, subst}
use Rattle.std.specs.Prelude.{IsSome}
use Rattle.json.specs.Json.{Json}
use Rattle.json.specs.Find.{get}
use Rattle.json.specs.Tree.{json_tokens}
use Rattle.serde_json.specs.Data.{Data, null, object, no_members, member}
use Rattle.serde_json.specs.Find.{as_object}
use Rattle.arrow_values.specs.Tree.{Text}
use Rattle.geoarrow_meta.specs.declared.edges.Edges.{Edges}
use Rattle.geoarrow_meta.specs.declared.crs.crs_type.CrsType.{CrsType}
use Rattle.geoarrow_meta.specs.declared.metadata.Metadata.{Metadata}
use Rattle.geoarrow_meta.specs.Read.{crs_type_data, edges_data, at_key, Denotes}
use Rattle.geoarrow_meta.specs.Laws.{denotes_one}
use Rattle.value_tokens.specs.Codes.{json_from, json_from-json_tokens}
use Rattle.column_check.specs.Metadata.{Values, edges_in, DataDenotes, TextDenotes, TextHasCrs, unless_null, NamesCrsType, NamesEdges, HasTextFault, HasMetadataFault}
use Rattle.column_check.specs.declared.metadata.MetadataFault.{MetadataFault}
use Rattle.column_check.specs.declared.metadata.MetadataFault.TheVariants.{NotJson, NotObject, UnknownCrsType, UnknownEdges, UnknownCrsTypeAndEdges}

-- a text is read as one JSON value
one_read : (o : Option Data) (d e : Data) → o ≡ Some d → o ≡ Some e → d ≡ e
one_read o d e h k = cc

none_read : (o : Option Data) (d : Data) → o ≡ None → o ≡ Some d → ⊥
none_read o d h k = absurd cc

-- ---- values

-- what stands at a key for a value that there may be
abbrev written : Option Data → Data
written None = null
written (Some d) = d

-- an object with that CRS type and those edges, and no CRS
abbrev typed : Option CrsType → Option Edges → Data
typed t e = object (member (codes "crs_type") (written (option_map crs_type_data t)) (member (codes "edges") (written (option_map edges_data e)) no_members))

-- a metadata with that CRS type and those edges, and no CRS
abbrev bare : Option CrsType → Option Edges → Metadata
bare t e = record { crs = record { value = None; crs_type = t }; edges = e }

bare_stands : (t : Option CrsType) (e : Option Edges) → Denotes (typed t e) (bare t e)
bare_stands None None = record { is_object = refl; whole = refl; crs = refl; crs_type = refl; edges = refl }
bare_stands None (Some e) = record { is_object = refl; whole = refl; crs = refl; crs_type = refl; edges = refl }
bare_stands (Some t) None = record { is_object = refl; whole = refl; crs = refl; crs_type = refl; edges = refl }
bare_stands (Some t) (Some e) = record { is_object = refl; whole = refl; crs = refl; crs_type = refl; edges = refl }

-- values that are written alike are the same
one_bare : (s t : Option CrsType) (d e : Option Edges) → option_map crs_type_data s ≡ option_map crs_type_data t → option_map edges_data d ≡ option_map edges_data e → bare s d ≡ bare t e
one_bare s t d e h k =
    let there = bare_stands t e in
    denotes_one (typed t e) (bare s d) (bare t e) (record { is_object = there.is_object; whole = there.whole; crs = there.crs; crs_type = h ∙ there.crs_type; edges = k ∙ there.edges }) there

one_data : (d : Data) (v w : Values) → DataDenotes d v → DataDenotes d w → v ≡ w
one_data d v w h k =
    let types = one_bare v.crs_type w.crs_type v.edges w.edges (h.crs_type ∙ sym k.crs_type) (h.edges ∙ sym k.edges) in
    let crs = h.crs ∙ sym k.crs in
    λ i. record { crs = crs i; crs_type = (types i).crs.crs_type; edges = (types i).edges }

-- a text denotes one set of values
pub one_values : (t : Option Text) (v w : Values) → TextDenotes t v → TextDenotes t w → v ≡ w
one_values None v w h k = h ∙ sym k
one_values (Some []) v w h k = h ∙ sym k
one_values (Some (b ∷ s)) v w (d, reads, is) (e, others, here) = one_data e v w (subst (λ x. DataDenotes x v) (one_read _ d e reads others) is) here

-- ---- the CRS as it is written

-- a JSON value is told by its tokens
one_json : (i j : Json) → json_tokens i ≡ json_tokens j → i ≡ j
one_json i j same = sym (json_from-json_tokens i) ∙ ap json_from same ∙ json_from-json_tokens j

-- a text has one CRS
pub one_crs : (t : Option Text) (a b : Option Json) → TextHasCrs t a → TextHasCrs t b → a ≡ b
one_crs None a b h k = h ∙ sym k
one_crs (Some []) a b h k = h ∙ sym k
one_crs (Some (x ∷ s)) a b (i, reads, is) (j, others, here) = is ∙ ap (λ v. unless_null (get (codes "crs") v)) (one_json i j (sym reads ∙ others)) ∙ sym here

-- ---- faults

-- a text with a fault denotes no values
pub text_apart : (t : Option Text) (fault : MetadataFault) (v : Values) → HasMetadataFault t fault → TextDenotes t v → ⊥
text_apart None fault v h here = absurd h
text_apart (Some []) fault v h here = absurd h
text_apart (Some (b ∷ s)) NotJson v h (d, reads, is) = none_read _ d h reads
text_apart (Some (b ∷ s)) NotObject v (e, others, not_object) (d, reads, is) = not_object (subst (λ x. IsSome (as_object x)) (one_read _ d e reads others) is.is_object)
text_apart (Some (b ∷ s)) UnknownCrsType v h (d, reads, is) = h.3.0 (v.crs_type, is.crs_type ∙ ap (at_key (codes "crs_type")) (one_read _ d h.0 reads h.1))
text_apart (Some (b ∷ s)) UnknownEdges v h (d, reads, is) = h.3.1 (v.edges, is.edges ∙ ap edges_in (one_read _ d h.0 reads h.1))
text_apart (Some (b ∷ s)) UnknownCrsTypeAndEdges v h (d, reads, is) = h.3.0 (v.crs_type, is.crs_type ∙ ap (at_key (codes "crs_type")) (one_read _ d h.0 reads h.1))

-- a text has one fault
one_text_fault : (s : Text) (f g : MetadataFault) → HasTextFault s f → HasTextFault s g → f ≡ g
one_text_fault s NotJson NotJson h k = refl
one_text_fault s NotJson g h k = absurd (none_read _ k.0 h k.1)
one_text_fault s f NotJson h k = absurd (none_read _ h.0 k h.1)
one_text_fault s NotObject NotObject h k = refl
one_text_fault s NotObject g h k = absurd (h.2 (subst (λ x. IsSome (as_object x)) (one_read _ k.0 h.0 k.1 h.1) k.2))
one_text_fault s f NotObject h k = absurd (k.2 (subst (λ x. IsSome (as_object x)) (one_read _ h.0 k.0 h.1 k.1) h.2))
one_text_fault s UnknownCrsType UnknownCrsType h k = refl
one_text_fault s UnknownEdges UnknownEdges h k = refl
one_text_fault s UnknownCrsTypeAndEdges UnknownCrsTypeAndEdges h k = refl
one_text_fault s UnknownCrsType UnknownEdges h k = absurd (h.3.0 (subst NamesCrsType (one_read _ k.0 h.0 k.1 h.1) k.3.0))
one_text_fault s UnknownCrsType UnknownCrsTypeAndEdges h k = absurd (k.3.1 (subst NamesEdges (one_read _ h.0 k.0 h.1 k.1) h.3.1))
one_text_fault s UnknownEdges UnknownCrsType h k = absurd (k.3.0 (subst NamesCrsType (one_read _ h.0 k.0 h.1 k.1) h.3.0))
one_text_fault s UnknownEdges UnknownCrsTypeAndEdges h k = absurd (k.3.0 (subst NamesCrsType (one_read _ h.0 k.0 h.1 k.1) h.3.0))
one_text_fault s UnknownCrsTypeAndEdges UnknownCrsType h k = absurd (h.3.1 (subst NamesEdges (one_read _ k.0 h.0 k.1 h.1) k.3.1))
one_text_fault s UnknownCrsTypeAndEdges UnknownEdges h k = absurd (h.3.0 (subst NamesCrsType (one_read _ k.0 h.0 k.1 h.1) k.3.0))

pub one_metadata_fault : (t : Option Text) (f g : MetadataFault) → HasMetadataFault t f → HasMetadataFault t g → f ≡ g
one_metadata_fault None f g h k = absurd h
one_metadata_fault (Some []) f g h k = absurd h
one_metadata_fault (Some (b ∷ s)) f g h k = one_text_fault (b ∷ s) f g h k
