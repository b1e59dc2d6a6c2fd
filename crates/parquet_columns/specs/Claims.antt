-- What the geometry types of elements say beside columns (docs/FORMAT.md, 4.6).
use Rattle.std.specs.Prelude.{ℕ, ◌+◌, Bool, true, false, List, [], ◌∷◌, length, codes, Option, None, Some, is_some, string_bytes, if◌then◌else◌}
use Rattle.arrow_values.specs.Tree.{Text}
use Rattle.arrow_columns.specs.Column.{name_on}
use Rattle.arrow_columns.specs.Types.{ColumnTree}
use Rattle.geoarrow_meta.specs.declared.edges.Edges.{Edges}
use Rattle.geoarrow_meta.specs.declared.edges.Edges.TheVariants.{Andoyer, Karney, Spherical, Thomas, Vincenty}
use Rattle.parquet_footer.specs.Element.{Element}
use Rattle.parquet_footer.specs.Footer.{Pairing}
use Rattle.parquet_columns.specs.Budget.{size_of}
use Rattle.parquet_columns.specs.Reserved.{is_reserved}
use Rattle.parquet_columns.specs.Unreadable.{is_unreadable}
use Rattle.parquet_columns.specs.Geometry.{GeometrySays, geometry_of, crs_in, text_with, given}
use Rattle.parquet_columns.specs.declared.geometry.EdgesClaim.{EdgesClaim}
use Rattle.parquet_columns.specs.declared.claim.ElementClaim.{ElementClaim}
use Rattle.parquet_columns.specs.declared.claim.ElementClaim.TheVariants.{Silent, Given, Beside}

-- nothing; that the column has its extension from the element, whether the type names a CRS, and how its edges are said; or the extension metadata that
-- the type denotes beside the column's own, and how its edges are said
pub data Claim : Type 0 where
  silent : Claim
  gives : Bool → EdgesClaim → Claim
  beside : Text → EdgesClaim → Claim

abbrev pub claim : ElementClaim → Claim
claim Silent = silent
claim (Given names_crs edges) = gives names_crs edges
claim (Beside text edges) = beside (string_bytes text) edges

-- extension metadata without a CRS
abbrev pub edges_alone : Option Edges → Text
edges_alone None = codes "{}"
edges_alone (Some Andoyer) = codes "{\"edges\":\"andoyer\"}"
edges_alone (Some Karney) = codes "{\"edges\":\"karney\"}"
edges_alone (Some Spherical) = codes "{\"edges\":\"spherical\"}"
edges_alone (Some Thomas) = codes "{\"edges\":\"thomas\"}"
edges_alone (Some Vincenty) = codes "{\"edges\":\"vincenty\"}"

-- the extension metadata that a geometry type denotes, without a CRS where it names none
abbrev pub own_text : List Pairing → Option Text → Option Edges → Text
own_text pairs None edges = edges_alone edges
own_text pairs (Some crs) edges = text_with (crs_in pairs (Some crs)) edges

-- what a geometry type says beside a column that is read, by whether the column has an extension name that GeoArrow or OGC would have to give
abbrev pub claim_by : List Pairing → Bool → Option GeometrySays → Claim
claim_by pairs own None = silent
claim_by pairs false (Some g) = gives (is_some g.crs) g.said
claim_by pairs true (Some g) = beside (own_text pairs g.crs g.edges) g.said

abbrev pub claim_of : List Pairing → Option Element → ColumnTree → Claim
claim_of pairs None c = silent
claim_of pairs (Some e) c = if is_unreadable c.data_type then silent else claim_by pairs (is_reserved (name_on c)) (geometry_of e)

-- for each column that of the element at its place
abbrev pub claims : List Pairing → List Element → List ColumnTree → List Claim
claims pairs es [] = []
claims pairs [] (c ∷ cs) = claim_of pairs None c ∷ claims pairs [] cs
claims pairs (e ∷ es) (c ∷ cs) = claim_of pairs (Some e) c ∷ claims pairs es cs

-- how many bytes the extension metadata have that are made of an element for its column, and of all together
abbrev pub claim_size : Claim → ℕ
claim_size silent = 0
claim_size (gives names_crs edges) = 0
claim_size (beside text edges) = length text

abbrev pub made_size : List Pairing → Option Element → ColumnTree → ℕ
made_size pairs e c = size_of (given pairs e c) + claim_size (claim_of pairs e c)

abbrev pub made_bytes : List Pairing → List Element → List ColumnTree → ℕ
made_bytes pairs es [] = 0
made_bytes pairs [] (c ∷ cs) = 0
made_bytes pairs (e ∷ es) (c ∷ cs) = made_size pairs (Some e) c + made_bytes pairs es cs
