-- The columns of a file with GeoParquet metadata (docs/FORMAT.md, 5.2).
use Rattle.std.specs.Prelude.{◌≡◌, ◌⊎◌, ⊤, false, List, [], ◌∷◌, ◌++◌, Option, None, Some, is_some, option_map, if◌then◌else◌}
use Rattle.std.specs.Borrow.{Bor}
use Rattle.std.specs.BTreeMap.{BTreeMap, get_by}
use Rattle.std.specs.Cmp.Lexicographic.{slice_cmp}
use Rattle.std.specs.Ordering.{nat_cmp}
use Rattle.std.specs.declared.alloc.Global.{Global}
use Rattle.json.specs.Json.{Json}
use Rattle.json.specs.Value.{value_view}
use Rattle.json.specs.declared.value.Value.{Value}
use Rattle.arrow_values.specs.Tree.{Text}
use Rattle.arrow_values.specs.Texts.{set_extension}
use Rattle.arrow_columns.specs.Column.{name_on}
use Rattle.arrow_columns.specs.Types.{ColumnTree}
use Rattle.arrow_columns.specs.Names.{first_of}
use Rattle.geoarrow_layout.specs.Kinds.{name_text}
use Rattle.geoarrow_layout.specs.declared.names.ExtensionName.{ExtensionName}
use Rattle.parquet_columns.specs.Reserved.{is_reserved}
use Rattle.geoparquet.specs.Encodings.{IsEncodedAs}
use Rattle.geoparquet.specs.Extensions.{named_in, member_text}
use Rattle.geoparquet.specs.MemberRules.{encoding_of}
use Rattle.geoparquet.specs.Sources.{Element, Source, geo_json, with_elements}
use Rattle.geoparquet.specs.StrictLayouts.{is_laid_out}
use Rattle.geoparquet.specs.Versions.{version_of}
use Rattle.geoparquet.specs.declared.finding.Version.{Version}

-- the encoding that a column has: that of its member, where the column has its layout, or its layout is not judged
abbrev pub if_laid_out : Option Text → ColumnTree → Option Element → Option Text
if_laid_out None c e = None
if_laid_out (Some s) c e = if is_laid_out s c e then Some s else None

abbrev pub encoding_by : Version → Json → ColumnTree → Option Element → Option Text
encoding_by version member c e = if_laid_out (encoding_of version member) c e

-- the column, of which the metadata have that member, takes that extension name: it has none that GeoArrow or OGC would have to give, and is of that
-- encoding by its member
pub record IsNamed (version : Version) (member : Json) (c : ColumnTree) (e : Option Element) (n : ExtensionName) : Type 0 where
  pub unnamed : is_reserved (name_on c) ≡ false
  pub encoded : IsEncodedAs (encoding_by version member c e) n c

-- the column with that extension name and that text as its extension metadata, and all else as it was
abbrev pub extended : ExtensionName → Text → ColumnTree → ColumnTree
extended n text c = record c { metadata = set_extension (name_text n) (Some text) c.metadata }

-- what becomes of a column by its member: where it takes an extension name, it has that name and the extension metadata of the member; elsewhere it is
-- as it was
abbrev pub IsGeoColumn : Version → Option Json → ColumnTree → Option Element → ColumnTree → Type 0
IsGeoColumn version None c e d = d ≡ c
IsGeoColumn version (Some j) c e d =
    ((n : ExtensionName) × IsNamed version j c e n × (d ≡ extended n (member_text j) c))
    ⊎ (((n : ExtensionName) → ¬ IsNamed version j c e n) × (d ≡ c))

-- the member of `columns` that is left for the columns of a name behind those: none behind the first column of the name
abbrev pub left_for : Json → List ColumnTree → Text → Option Json
left_for j before name = if is_some (first_of before name) then None else named_in j name

-- what becomes of each of the columns behind those, beside which their elements say that, in order
abbrev pub AreGeoColumns : Json → List ColumnTree → List (ColumnTree × Option Element) → List ColumnTree → Type 0
AreGeoColumns j before [] [] = ⊤
AreGeoColumns j before (x ∷ xs) (d ∷ ds) =
    IsGeoColumn (version_of j) (left_for j before x.0.name) x.0 x.1 d × AreGeoColumns j (before ++ x.0 ∷ []) xs ds
AreGeoColumns j before _ _ = ⊥

-- the columns of a file that has that at the key `geo`, beside which its elements say that
abbrev pub AreColumnsBy : Source → List ColumnTree → List Element → List ColumnTree → Type 0
AreColumnsBy geo cs es = AreGeoColumns (geo_json geo) [] (with_elements cs es)

-- ---- for private contracts

-- the extension name that a column takes by its member, if it takes one
abbrev pub IsNameFor : Version → Json → ColumnTree → Option Element → Option ExtensionName → Type 0
IsNameFor version j c e None = (n : ExtensionName) → ¬ IsNamed version j c e n
IsNameFor version j c e (Some n) = IsNamed version j c e n

-- the value that a map has at a name
abbrev pub value_in : BTreeMap (Bor Text) (Bor (Value Global)) → Text → Option Json
value_in members name = option_map (λ v. value_view v.now) (get_by (λ k. slice_cmp nat_cmp name k.now) members)
