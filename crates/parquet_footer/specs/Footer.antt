-- A footer, by the ids of its fields.
use Rattle.std.specs.Prelude.{ℕ, zero, suc, List, [], ◌∷◌, length, map, Option, Some, option_map, Result, Ok}
use Rattle.parquet_footer.specs.declared.fault.Fault.{Fault}
use Rattle.parquet_footer.specs.declared.footer.Footer.{Footer}
use Rattle.parquet_footer.specs.declared.footer.KeyValue.{KeyValue}
use Rattle.parquet_footer.specs.Fault.{needed, ◌>>=◌}
use Rattle.parquet_footer.specs.Fields.{pair_at, structs_in}
use Rattle.parquet_footer.specs.Spelled.{Spelled, spelled, spelled_in}
use Rattle.parquet_footer.specs.Element.{Element, element, element_at}

-- so many structs one after the other
unfoldable pub all_at : {A : Type 0} → (List ℕ → Result (A × List ℕ) Fault) → ℕ → List ℕ → Result (List A) Fault
all_at item zero bytes = Ok []
all_at item (suc n) bytes = do
  first ← item bytes
  others ← all_at item n first.1
  Ok (first.0 ∷ others)

pub record Pairing : Type 0 where
  pub key : Spelled
  pub value : Option Spelled

abbrev pub pairing : KeyValue → Pairing
pairing p = record { key = spelled p.key; value = option_map spelled p.value }

-- KeyValue: 1 key, 2 value, which need not be UTF-8; the footer has that size
unfoldable pub key_value_at : ℕ → List ℕ → Result (Pairing × List ℕ) Fault
key_value_at size bytes = do
  found ← pair_at 1 2 bytes
  text ← spelled_in size found.0.0
  key ← needed bytes text
  value ← spelled_in size found.0.1
  Ok (record { key = key; value = value }, found.1)

pub record Contents : Type 0 where
  pub schema : List Element
  pub key_value_metadata : List Pairing

abbrev pub contents : Footer → Contents
contents f = record { schema = map element f.schema.items; key_value_metadata = map pairing f.key_value_metadata.items }

-- FileMetaData: 2 schema, 5 key_value_metadata; whatever stands behind the struct is no part of it
unfoldable pub footer_at : List ℕ → Result Contents Fault
footer_at bytes = do
  found ← pair_at 2 5 bytes
  elements ← needed bytes found.0.0
  one ← structs_in (Some elements)
  other ← structs_in found.0.1
  schema ← all_at (element_at (length bytes)) one.0 one.1
  key_values ← all_at (key_value_at (length bytes)) other.0 other.1
  Ok (record { schema = schema; key_value_metadata = key_values })
