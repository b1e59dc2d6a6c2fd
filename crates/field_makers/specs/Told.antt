-- The CRS type that the form of a CRS tells (docs/FORMAT.md, 5.3).
use Rattle.std.specs.Prelude.{Option, None, Some, if◌then◌else◌}
use Rattle.json.specs.Json.{string}
use Rattle.geoarrow_meta.specs.CrsText.{is_projjson_text}
use Rattle.geoarrow_meta.specs.declared.crs.crs_type.CrsType.{CrsType}
use Rattle.geoarrow_meta.specs.declared.crs.crs_type.CrsType.TheVariants.{Projjson, Wkt2_2019, AuthorityCode}
use Rattle.geoarrow_meta.specs.declared.crs_text.WrittenCrs.{WrittenCrs}
use Rattle.geoarrow_meta.specs.declared.crs_text.WrittenCrs.TheVariants as crs
use Rattle.crs_identity.specs.Forms.{form_of_value}
use Rattle.crs_identity.specs.FormNames.{form_name}
use Rattle.crs_identity.specs.declared.names.FormName.{FormName}
use Rattle.crs_identity.specs.declared.names.FormName.TheVariants as forms

-- the type of a CRS of that form; WKT 1 and any other text have none
abbrev pub type_of_form : FormName → Option CrsType
type_of_form forms.Projjson = Some Projjson
type_of_form forms.Code = Some AuthorityCode
type_of_form forms.Wkt = Some Wkt2_2019
type_of_form forms.Wkt1 = None
type_of_form forms.Other = None

-- the type of a CRS: of a text by its form, and of what is to be PROJJSON where it is an object of JSON
abbrev pub told_type : WrittenCrs → Option CrsType
told_type crs.Absent = None
told_type (crs.Text s) = type_of_form (form_name (form_of_value (string s.now)))
told_type (crs.Json s) = if is_projjson_text s.now then Some Projjson else None
