use Rattle.std.proofs.Common.{rules, ◌≡◌, ◌↔◌, Bool, true, false, cond, Option, None, Some, List, [], ◌∷◌, refl, sym, ap, ◌∙◌}
use Rattle.std.specs.Str.{bytes_eq}
use Rattle.std.proofs.lemmas.Slice.Eq.{bytes_eq-Decides}
use Rattle.arrow_values.specs.Tree.{Text}
use Rattle.arrow_values.specs.Texts.{text_of}
use Rattle.geoarrow_layout.specs.declared.native_kinds.NativeKind.TheVariants.{Point, LineString, Polygon, MultiPoint, MultiLineString, MultiPolygon, GeometryCollection}
use Rattle.geoarrow_layout.specs.declared.names.ExtensionName.{ExtensionName}
use Rattle.geoarrow_layout.specs.declared.names.ExtensionName.TheVariants as names
use Rattle.geoarrow_layout.specs.Kinds.{name_text}
use Rattle.column_check.specs.ExtensionNames.{extensions, named_among, extension_named}
use Rattle.column_check.proofs.reasons.extension_named.Goals as goal

-- each of the eleven is found by its text
found : (n : ExtensionName) → named_among (name_text n) extensions ≡ Some n
found (names.Native Point) = refl
found (names.Native LineString) = refl
found (names.Native Polygon) = refl
found (names.Native MultiPoint) = refl
found (names.Native MultiLineString) = refl
found (names.Native MultiPolygon) = refl
found (names.Native GeometryCollection) = refl
found names.Geometry = refl
found names.Rect = refl
found names.Wkb = refl
found names.Wkt = refl

refused : (b : Bool) → (b ≡ true → ⊥) → b ≡ false
refused true h = absurd (h refl)
refused false h = refl

-- by a text that is none of them none is
unfound : (s : Text) → ((n : ExtensionName) → s ≡ name_text n → ⊥) → (ns : List ExtensionName) → named_among s ns ≡ None
unfound s others [] = refl
unfound s others (n ∷ ns) =
    let first : bytes_eq (name_text n) s ≡ false = refused (bytes_eq (name_text n) s) (λ h. others n (sym ((bytes_eq-Decides (name_text n) s).0 h))) in
    ap (λ b. cond b (Some n) (named_among s ns)) first ∙ unfound s others ns

no_name : (n : ExtensionName) → None ≡ Some n → ⊥
no_name n h = absurd cc

decided : (s : Text) (r : Option ExtensionName) → ((n : ExtensionName) → (r ≡ Some n) ↔ (s ≡ name_text n)) → r ≡ named_among s extensions
decided s (Some n) is = sym (ap (λ x. named_among x extensions) ((is n).0 refl) ∙ found n)
decided s None is = sym (unfound s (λ n h. no_name n ((is n).1 h)) extensions)

pub returns-in-Some : goal.returns-in-Some
returns-in-Some c =
    let named : Some c.in-Some.text.now ≡ text_of c.args.name = search rules in
    decided c.current_name.result.now c.from_text.result c.from_text.ensures
    ∙ ap (λ s. named_among s extensions) c.current_name.ensures ∙ ap extension_named named
