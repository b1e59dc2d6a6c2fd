-- for private contracts: the parts of a CRS are those that are denoted
use Rattle.std.specs.Prelude.{◌≡◌, List, Option}
use Rattle.serde_json.specs.Data.{Data}
use Rattle.geoarrow_meta.specs.declared.crs.crs_type.CrsType.{CrsType}
use Rattle.geoarrow_meta.specs.declared.crs_text.WrittenCrs.{WrittenCrs}
use Rattle.geoarrow_meta.specs.CrsText.{IsCrs}
use Rattle.geoarrow_meta.specs.MetadataText.{crs_tokens}
use Rattle.parquet_footer.specs.Footer.{Pairing}
use Rattle.parquet_columns.specs.Geometry.{TypedCrs, keyed_crs}
use Rattle.parquet_columns.specs.Keys.{text_at}
use Rattle.parquet_columns.specs.declared.geometry.NamedCrs.{NamedCrs}
use Rattle.parquet_columns.specs.declared.geometry.NamedCrs.TheVariants.{Written, Keyed}

pub record IsTyped (p : WrittenCrs × Option CrsType) (t : TypedCrs) : Type 0 where
  pub value : (d : Data) × IsCrs p.0 d
  pub written : crs_tokens p.0 ≡ t.tokens
  pub typed : p.1 ≡ t.crs_type

-- a CRS that is named is that one, or that of a key
abbrev pub IsNamed : List Pairing → NamedCrs → TypedCrs → Type 0
IsNamed pairs (Written crs crs_type) t = IsTyped (crs, crs_type) t
IsNamed pairs (Keyed key) t = t ≡ keyed_crs (text_at key.now pairs)
