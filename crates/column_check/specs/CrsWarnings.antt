-- What is doubtful of a CRS in extension metadata (docs/FORMAT.md, 2.6; its forms and PROJJSON: 5.3).
use Rattle.std.specs.Prelude.{nat_lt, ◌&&◌, not, List, [], ◌∷◌, ◌++◌, length, map, codes, Bool, true, false, Option, None, Some, option_map, option_and_then, option_to_list, if◌then◌else◌}
use Rattle.std.specs.Char.{is_ascii_digit}
use Rattle.std.specs.List.{list_all}
use Rattle.json.specs.Json.{Json, number, string, object}
use Rattle.json.specs.Find.{at, get}
use Rattle.json.specs.Print.{print}
use Rattle.json.specs.Tree.{json_tokens}
use Rattle.serde_json.specs.Read.{of_json}
use Rattle.arrow_values.specs.Tree.{Text}
use Rattle.geoarrow_meta.specs.declared.crs.crs_type.CrsType.{CrsType}
use Rattle.geoarrow_meta.specs.declared.crs.crs_type.CrsType.TheVariants.{Projjson, Wkt2_2019, AuthorityCode, Srid}
use Rattle.geoarrow_meta.specs.Read.{some_has_float}
use Rattle.value_tokens.specs.Values.{is_object, is_string}
use Rattle.crs_identity.specs.Forms.{form_of_value, json_in}
use Rattle.crs_identity.specs.FormNames.{form_name}
use Rattle.crs_identity.specs.Malformed.{malformed_parts, pointer}
use Rattle.crs_identity.specs.declared.malformed.Part.{Part}
use Rattle.crs_identity.specs.declared.malformed.Part.TheVariants.{«Type», Name, Id, Item, BothIds}
use Rattle.crs_identity.specs.declared.names.FormName.{FormName}
use Rattle.crs_identity.specs.declared.names.FormName.TheVariants as forms
use Rattle.column_check.specs.Parts.{Spot, spot_in}
use Rattle.column_check.specs.NotWhole.{not_whole_in}
use Rattle.column_check.specs.Shown.{shown_value}
use Rattle.column_check.specs.Said.{Said, said_if, at_each}
use Rattle.column_check.specs.declared.metadata.ColumnMetadata.{ColumnMetadata}
use Rattle.column_check.specs.declared.code.WarningCode.TheVariants.{CrsMalformed, CrsEmpty, CrsTypeContradicts, CrsWkt1, CrsWithoutType, CrsNumber}

-- where a CRS is, with what it is
abbrev pub crs_spot : Json → Spot
crs_spot j = spot_in (codes "/crs") (Some (shown_value j))

-- ---- of PROJJSON

-- the value, if it is an object
abbrev pub object_in : Option Json → Option Json
object_in (Some (object ms)) = Some (object ms)
object_in o = None

-- the object that is to be PROJJSON: the CRS itself, or what its text is where the type says so
abbrev pub projjson_in : Option CrsType → Json → Option Json
projjson_in (Some Projjson) (string s) = object_in (json_in s)
projjson_in t j = object_in (Some j)

-- what stands at a part of an object
abbrev pub standing : Part → Json → Option Json
standing «Type» j = get (codes "type") j
standing Name j = get (codes "name") j
standing Id j = get (codes "id") j
standing (Item n) j = option_and_then (at n) (get (codes "ids") j)
standing BothIds j = get (codes "ids") j

-- where a part of the object is, with what stands there
abbrev pub part_spot : Json → Part → Spot
part_spot j p = spot_in (codes "/crs" ++ pointer p) (option_map shown_value (standing p j))

-- the parts for which the object is no PROJJSON
abbrev pub malformed_spots : Option Json → List Spot
malformed_spots None = []
malformed_spots (Some j) = map (part_spot j) (malformed_parts j)

-- there are such parts
abbrev pub are_wrong : List Part → Bool
are_wrong [] = false
are_wrong (part ∷ parts) = true

abbrev pub is_malformed : Option Json → Bool
is_malformed None = false
is_malformed (Some j) = are_wrong (malformed_parts j)

-- ---- of the type against the form

-- one digit or more
abbrev pub are_digits : Text → Bool
are_digits s = nat_lt 0 (length s) && list_all is_ascii_digit s

abbrev pub is_srid : Json → Bool
is_srid (string s) = are_digits s
is_srid (number s) = are_digits s
is_srid j = false

-- the value, which is of that form, is one of that type
abbrev pub is_of_type : CrsType → Json → FormName → Bool
is_of_type Projjson j forms.Projjson = true
is_of_type Wkt2_2019 j forms.Wkt1 = true
is_of_type Wkt2_2019 j forms.Wkt = true
is_of_type AuthorityCode j forms.Code = true
is_of_type Srid j n = is_srid j
is_of_type t j n = false

-- there is a type, and it is not that of the value
abbrev pub contradicts : Option CrsType → Json → FormName → Bool
contradicts None j n = false
contradicts (Some t) j n = not (is_of_type t j n)

-- WKT 1 where the type is that of WKT 2
abbrev pub is_old_wkt : Option CrsType → FormName → Bool
is_old_wkt (Some Wkt2_2019) forms.Wkt1 = true
is_old_wkt t n = false

-- a text of no known form, and no type
abbrev pub lacks_type : Option CrsType → Json → FormName → Bool
lacks_type None (string s) forms.Other = true
lacks_type t j n = false

-- neither an object nor a text
abbrev pub is_odd_crs : Json → Bool
is_odd_crs j = not (is_object j) && not (is_string j)

-- ---- of a CRS

abbrev pub is_empty_crs : Json → Bool
is_empty_crs (string []) = true
is_empty_crs j = false

-- of a CRS of that form, and the object that is to be PROJJSON, if there is one; of a CRS that is malformed its type is not judged
abbrev pub form_warnings : Option CrsType → Json → Option Json → FormName → List Said
form_warnings t j o n =
    at_each CrsMalformed (malformed_spots o)
    ++ (said_if CrsTypeContradicts (not (is_malformed o) && contradicts t j n) (crs_spot j)
    ++ (said_if CrsWkt1 (is_old_wkt t n) (crs_spot j)
    ++ (said_if CrsWithoutType (lacks_type t j n) (crs_spot j)
    ++ said_if CrsNumber (is_odd_crs j) (crs_spot j))))

-- an empty text is read as no CRS, so nothing else is said of it
abbrev pub value_warnings : Option CrsType → Json → List Said
value_warnings t j =
    if is_empty_crs j then said_if CrsEmpty true (crs_spot j) else form_warnings t j (projjson_in t j) (form_name (form_of_value j))

abbrev pub read_warnings : Option CrsType → Option Json → List Said
read_warnings t None = []
read_warnings t (Some j) = value_warnings t j

-- of a CRS with that type, as it is read from its text; that a number is not whole is a note: it is said where notes are asked for, of the first one
abbrev pub warnings_of_crs : Bool → Option CrsType → Option Json → List Said
warnings_of_crs notes t None = []
warnings_of_crs notes t (Some j) = read_warnings t (json_in (print (json_tokens j))) ++ option_to_list (if notes && some_has_float (of_json j) then not_whole_in (json_in (print (json_tokens j))) else None)

abbrev pub crs_warnings : Bool → ColumnMetadata → List Said
crs_warnings notes m = warnings_of_crs notes m.crs_type m.crs
