-- The text of the metadata with a CRS that is named.
use Rattle.std.proofs.Common.{◌≡◌, Option, Result, String, string_bytes, IfOk, subst, ap₂}
use Rattle.std.specs.declared.alloc.AllocError.{AllocError}
use Rattle.std.specs.declared.alloc.Global.{Global}
use Rattle.json.specs.Print.{print}
use Rattle.geoarrow_meta.specs.declared.edges.Edges.{Edges}
use Rattle.geoarrow_meta.specs.declared.crs.crs_type.CrsType.{CrsType}
use Rattle.geoarrow_meta.specs.declared.crs_text.WrittenCrs.{WrittenCrs}
use Rattle.geoarrow_meta.specs.MetadataText.{crs_tokens, metadata_tokens}
use Rattle.parquet_columns.specs.Geometry.{TypedCrs, text_with}
use Rattle.parquet_columns.specs.Typed.{IsTyped}

pub written_text : (t : TypedCrs) (crs : WrittenCrs) (crs_type : Option CrsType) (e : Option Edges) (r : Result (String Global) AllocError) → IsTyped (crs, crs_type) t
    → IfOk r (λ text. string_bytes text ≡ print (metadata_tokens (crs_tokens crs) crs_type e)) → IfOk r (λ text. string_bytes text ≡ text_with t e)
written_text t crs crs_type e r is f = subst (λ x. IfOk r (λ text. string_bytes text ≡ x)) (ap₂ (λ ts k. print (metadata_tokens ts k e)) is.written is.typed) f
