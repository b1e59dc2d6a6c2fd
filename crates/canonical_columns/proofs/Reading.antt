-- What is written of extension metadata, by its tokens.
use Rattle.std.proofs.Common.{◌≡◌, List, [], append-nil, Option, None, Some, option_map, codes, refl, sym, ap, ◌∙◌}
use Rattle.json.specs.Token.{Token}
use Rattle.json.specs.Json.{Json, object, no_members, member, value}
use Rattle.json.specs.Lex.{tokens}
use Rattle.json.specs.Print.{print}
use Rattle.json.specs.Tree.{json_tokens, HasNumbers}
use Rattle.json.proofs.Printed.Tokens.{tokens-print}
use Rattle.json.proofs.Printed.Trees.{ArePrintable-json_tokens, value-json_tokens}
use Rattle.serde_json.specs.Data.{Data}
use Rattle.serde_json.specs.Read.{of_json, converted}
use Rattle.value_tokens.specs.Next.{next_value}
use Rattle.value_tokens.specs.Values.{or_null}
use Rattle.arrow_values.specs.Tree.{Text}
use Rattle.geoarrow_meta.specs.declared.edges.Edges.{Edges}
use Rattle.geoarrow_meta.specs.declared.crs.crs_type.CrsType.{CrsType}
use Rattle.geoarrow_meta.specs.Read.{crs_type_text, edges_text}
use Rattle.geoarrow_meta.specs.MetadataText.{metadata_tokens}
use Rattle.column_check.specs.declared.metadata.ColumnMetadata.{ColumnMetadata}
use Rattle.canonical_columns.specs.Canonical.{with_text, metadata_object, IsWritable}

-- the text of a value has its tokens
pub tokens_written : (j : Json) (text : Text) → HasNumbers j → text ≡ print (json_tokens j) → tokens text ≡ json_tokens j
tokens_written j text numbers e = ap tokens e ∙ tokens-print (json_tokens j) (ArePrintable-json_tokens j numbers)

-- a CRS that can be written is a value where the metadata have it
pub next_written : (j : Json) (text : Text) → IsWritable (Some j) → text ≡ print (json_tokens j) → (d : Data) × (next_value 126 (tokens text) ≡ Some (d, []))
next_written j text (numbers, shallow, (d, is)) e =
    let next = ap (value 126) (tokens_written j text numbers e ∙ sym (append-nil (json_tokens j))) ∙ value-json_tokens j 126 [] shallow in
    (d, ap (converted of_json) next ∙ ap (option_map (λ v. (v, []))) is)

-- the tokens of the metadata are those of the object
as_tokens : (crs : Json) (t : Option CrsType) (e : Option Edges)
    → metadata_tokens (json_tokens crs) t e
    ≡ json_tokens (object (member (codes "crs") crs (with_text (codes "crs_type") (option_map crs_type_text t) (with_text (codes "edges") (option_map edges_text e) no_members))))
as_tokens crs None None = refl
as_tokens crs None (Some e) = refl
as_tokens crs (Some t) None = refl
as_tokens crs (Some t) (Some e) = refl

pub object_written : (m : ColumnMetadata) (ts : List Token) → ts ≡ json_tokens (or_null m.crs) → print (metadata_tokens ts m.crs_type m.edges) ≡ print (json_tokens (metadata_object m))
object_written m ts e = ap (λ us. print (metadata_tokens us m.crs_type m.edges)) e ∙ ap print (as_tokens (or_null m.crs) m.crs_type m.edges)
