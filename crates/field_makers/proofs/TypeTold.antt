-- The CRS type that is told of a CRS is that of its form.
use Rattle.std.proofs.Common.{◌≡◌, ◌≢◌, true, cond, Some, None, refl, sym, subst}
use Rattle.std.proofs.lemmas.Option.{same_Some}
use Rattle.json.specs.Json as json
use Rattle.json.specs.Json.{Json}
use Rattle.value_tokens.specs.Values.{is_object}
use Rattle.geoarrow_meta.specs.declared.crs.crs_type.CrsType.TheVariants.{Projjson}
use Rattle.geoarrow_meta.specs.declared.crs_text.WrittenCrs.{WrittenCrs}
use Rattle.geoarrow_meta.specs.declared.crs_text.WrittenCrs.TheVariants as crs
use Rattle.crs_identity.specs.Forms.{form_of_value}
use Rattle.crs_identity.specs.FormNames.{form_name}
use Rattle.crs_identity.specs.declared.names.FormName.{FormName}
use Rattle.crs_identity.specs.declared.names.FormName.TheVariants as forms
use Rattle.field_makers.specs.Made.{crs_of, is_written}
use Rattle.field_makers.specs.Told.{told_type, type_of_form}
use Rattle.field_makers.specs.Laws.{Fits, ToldFits}
use Rattle.field_makers.proofs.Written.{projjson_text}

fits_form : (j : Json) (n : FormName) → n ≢ forms.Other → Fits (type_of_form n) j n
fits_form j forms.Other known = absurd (known refl)
fits_form j _ known = tt

fits_object : (j : Json) → is_object j ≡ true → Fits (Some Projjson) j (form_name (form_of_value j))
fits_object (json.object ms) h = tt
fits_object _ h = absurd cc

fits_told : (c : WrittenCrs) (j : Json) → is_written c ≡ true → crs_of c ≡ Some j → form_name (form_of_value j) ≢ forms.Other → Fits (told_type c) j (form_name (form_of_value j))
fits_told crs.Absent j h is known = absurd cc
fits_told (crs.Text s) j h is known =
    let same = same_Some (json.string s.now) j is in
    let here = fits_form j (form_name (form_of_value j)) known in
    subst (λ x. Fits (type_of_form (form_name (form_of_value x))) j (form_name (form_of_value j))) (sym same) here
fits_told (crs.Json s) j h is known =
    let object = subst (λ x. is_object x ≡ true) (same_Some _ j is) (projjson_text s.now h).2 in
    subst (λ b. Fits (cond b (Some Projjson) None) j (form_name (form_of_value j))) (sym h) (fits_object j object)

pub told_fits : ToldFits
told_fits c j h is known = fits_told c j h is known
