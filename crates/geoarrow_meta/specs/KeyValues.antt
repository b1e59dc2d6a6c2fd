-- The values of the three keys of a metadata's object, whatever numbers its CRS holds.
use Rattle.std.specs.Prelude.{◌≡◌, codes, Option, None, Some, IsSome, option_map}
use Rattle.std.specs.Borrow.{Bor}
use Rattle.serde_json.specs.Data.{Data, string}
use Rattle.serde_json.specs.Find.{as_object}
use Rattle.serde_json.specs.View.{view}
use Rattle.serde_json.specs.declared.value.Value.{Value}
use Rattle.arrow_values.specs.Tree.{Text}
use Rattle.geoarrow_meta.specs.declared.edges.Edges.{Edges}
use Rattle.geoarrow_meta.specs.declared.crs.crs_type.CrsType.{CrsType}
use Rattle.geoarrow_meta.specs.declared.metadata.key_values.KeyValues.{KeyValues}
use Rattle.geoarrow_meta.specs.Read.{crs_type_data, edges_data, at_key}

-- `Some` says what was found: a value that is written so, or nothing; `None` says that it was something else
abbrev pub IsNamed : {A : Type 0} → (A → Data) → Option (Option A) → Option Data → Type 0
IsNamed written (Some a) found = option_map written a ≡ found
IsNamed {A} written None found = (a : Option A) → ¬ (option_map written a ≡ found)

-- the same of a text
abbrev pub IsWord : Option (Option (Bor Text)) → Option Data → Type 0
IsWord word = IsNamed string (option_map (option_map (λ s. s.now)) word)

-- these were found at the three keys of the value
pub record AreValuesOf (d : Data) (crs : Option Data) (crs_type : Option (Option CrsType)) (edges : Option (Option Edges)) : Type 0 where
  pub at_crs : crs ≡ at_key (codes "crs") d
  pub at_crs_type : IsNamed crs_type_data crs_type (at_key (codes "crs_type") d)
  pub at_edges : IsNamed edges_data edges (at_key (codes "edges") d)

-- what was found at the three keys of an object; none if the value is not an object
abbrev pub Finds : Option (KeyValues Value) → Data → Type 0
Finds None d = ¬ IsSome (as_object d)
Finds (Some s) d = IsSome (as_object d) × AreValuesOf d (option_map view s.crs) s.crs_type s.edges
