-- What is said and found of a column that is made (docs/FORMAT.md, 2.6, 2.10).
use Rattle.std.specs.Prelude.{◌≡◌, ◌≢◌, ◌↔◌, ◌&&◌, List, [], map, Bool, true, false, Option, None, Some, option_and_then, option_to_list, if◌then◌else◌, ⊤}
use Rattle.json.specs.Json.{Json}
use Rattle.serde_json.specs.Read.{of_json}
use Rattle.geoarrow_meta.specs.Read.{some_has_float}
use Rattle.geoarrow_meta.specs.declared.crs.crs_type.CrsType.{CrsType}
use Rattle.geoarrow_meta.specs.declared.crs.crs_type.CrsType.TheVariants.{Projjson, Wkt2_2019, AuthorityCode, Srid}
use Rattle.geoarrow_meta.specs.declared.crs_text.WrittenCrs.{WrittenCrs}
use Rattle.crs_identity.specs.Forms.{form_of_value}
use Rattle.crs_identity.specs.FormNames.{form_name}
use Rattle.crs_identity.specs.declared.names.FormName.{FormName}
use Rattle.crs_identity.specs.declared.names.FormName.TheVariants as forms
use Rattle.column_check.specs.CrsWarnings.{projjson_in, is_malformed, is_srid, is_empty_crs}
use Rattle.column_check.specs.NotWhole.{not_whole_in}
use Rattle.column_check.specs.Said.{Said, said}
use Rattle.column_check.specs.Finding.{IsFinding}
use Rattle.column_check.specs.Warnings.{AreWarnings}
use Rattle.column_check.specs.declared.finding.Geometry.{Geometry as GeometryColumn}
use Rattle.column_check.specs.declared.finding.Finding.{Finding as ColumnFinding}
use Rattle.column_check.specs.declared.finding.Finding.TheVariants.{Geometry}
use Rattle.column_check.specs.declared.warning.Warning.{Warning}
use Rattle.canonical_columns.specs.Canonical.{IsCanonical}
use Rattle.field_makers.specs.declared.new_column.NewColumn.{NewColumn}
use Rattle.field_makers.specs.Made.{crs_of, metadata_of, made, is_written, CanBeMade}
use Rattle.field_makers.specs.Told.{told_type}

-- the geometries that are asked for: of that kind, with that CRS as it is written, that CRS type and these edges
abbrev pub geometry_of : NewColumn → GeometryColumn
geometry_of n = record { kind = n.kind; metadata = metadata_of n }

-- of a column that is made these geometries are said, and nothing else
abbrev pub MadeIsFound : Type 0
MadeIsFound = (infer : Bool) (n : NewColumn) (f : ColumnFinding) → CanBeMade n → IsFinding infer (made n) f ↔ (f ≡ Geometry (geometry_of n))

-- it is its own normal form
abbrev pub MadeIsCanonical : Type 0
MadeIsCanonical = (n : NewColumn) → CanBeMade n → IsCanonical (made n) (made n)

-- ---- when nothing is found

-- a CRS of that form is of that type, by the row of `CrsTypeContradicts`, and it is no WKT 1; one without a type has a known form
abbrev pub Fits : Option CrsType → Json → FormName → Type 0
Fits (Some Projjson) j forms.Projjson = ⊤
Fits (Some Wkt2_2019) j forms.Wkt = ⊤
Fits (Some AuthorityCode) j forms.Code = ⊤
Fits (Some Srid) j n = is_srid j ≡ true
Fits (Some t) j n = ⊥
Fits None j forms.Other = ⊥
Fits None j n = ⊤

-- the CRS and its type go together: it is no empty text, its form is that of the type, and what is to be PROJJSON has no part that is wrong
abbrev pub GoTogether : Option CrsType → Option Json → Type 0
GoTogether t None = ⊤
GoTogether t (Some j) = (is_empty_crs j ≡ false) × Fits t j (form_name (form_of_value j)) × (is_malformed (projjson_in t j) ≡ false)

-- notes are asked for, and a number in the CRS is not whole
abbrev pub is_noted : Bool → Option Json → Bool
is_noted notes crs = notes && some_has_float (option_and_then of_json crs)

-- the note of the first of these, if notes are asked for and there is one
abbrev pub notes_in : Bool → Option Json → List Said
notes_in notes None = []
notes_in notes (Some j) = option_to_list (if is_noted notes (Some j) then not_whole_in (Some j) else None)

-- of a column that is made, whose CRS and type go together, that note alone is found
abbrev pub OnlyNotesAreFound : Type 0
OnlyNotesAreFound =
    (notes : Bool) (n : NewColumn) (ws : List Warning) → CanBeMade n → GoTogether n.crs_type (crs_of n.crs)
    → AreWarnings notes (made n) (Geometry (geometry_of n)) ws → map said ws ≡ notes_in notes (crs_of n.crs)

-- so nothing is found where there is none
abbrev pub NothingIsFound : Type 0
NothingIsFound =
    (notes : Bool) (n : NewColumn) (ws : List Warning) → CanBeMade n → GoTogether n.crs_type (crs_of n.crs) → is_noted notes (crs_of n.crs) ≡ false
    → AreWarnings notes (made n) (Geometry (geometry_of n)) ws → ws ≡ []

-- the type that is told of a CRS is that of its form, if that is a known one
abbrev pub ToldFits : Type 0
ToldFits =
    (c : WrittenCrs) (j : Json) → is_written c ≡ true → crs_of c ≡ Some j → form_name (form_of_value j) ≢ forms.Other
    → Fits (told_type c) j (form_name (form_of_value j))
