-- A key that is `geo` but for the case of its letters (docs/FORMAT.md, 4.5).
use Rattle.std.specs.Prelude.{Bool, ◌&&◌, List, [], ◌∷◌, map, Option, None, Some, is_some, find}
use Rattle.std.specs.Char.{to_ascii_lowercase}
use Rattle.std.specs.Str.{bytes_eq}
use Rattle.std.specs.Str.Lossy.{utf8_lossy}
use Rattle.arrow_values.specs.Tree.{Text}
use Rattle.parquet_footer.specs.Spelled.{Spelled}
use Rattle.parquet_footer.specs.Footer.{Pairing}
use Rattle.parquet_columns.specs.Keys.{value_or_empty}
use Rattle.parquet_columns.specs.Findings.{Finding, of_file, geo_key}
use Rattle.parquet_columns.specs.declared.code.FileCode.TheVariants.{NoGeoMetadata}
use Rattle.parquet_columns.specs.declared.code.FilePart.TheVariants.{Footer}

-- a name that is `geo` in letters of any case
abbrev pub is_geo_word : Text → Bool
is_geo_word name = bytes_eq (map to_ascii_lowercase name) (map to_ascii_lowercase geo_key)

-- a pair of such a key with a value
abbrev pub is_other_geo : Pairing → Bool
is_other_geo p = is_geo_word p.key.bytes && is_some p.value

-- what is found of the first of them, where no key is `geo` itself
abbrev pub other_geo : Pairing → Finding
other_geo p = of_file NoGeoMetadata (record { part = Footer; byte = Some p.key.byte }) (Some (utf8_lossy p.key.bytes)) None

abbrev pub other_geo_by : Option Spelled → Option Pairing → List Finding
other_geo_by None (Some p) = other_geo p ∷ []
other_geo_by value p = []

abbrev pub other_geo_findings : List Pairing → List Finding
other_geo_findings ps = other_geo_by (value_or_empty geo_key ps) (find is_other_geo ps)
