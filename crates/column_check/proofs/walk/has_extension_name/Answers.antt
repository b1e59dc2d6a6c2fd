use Rattle.std.proofs.Common.{rules, ◌≡◌, ◌↔◌, Bool, true, false, Option, None, Some, List, [], ◌∷◌, map, refl, sym, ap, ◌∙◌}
use Rattle.std.specs.Option.{is_some}
use Rattle.std.specs.Str.{bytes_eq}
use Rattle.std.proofs.lemmas.Slice.Eq.{bytes_eq-Decides}
use Rattle.arrow_values.specs.Tree.{Text}
use Rattle.arrow_values.specs.Texts.{text_at, name_key}
use Rattle.geoarrow_layout.specs.declared.native_kinds.NativeKind.TheVariants.{Point, LineString, Polygon, MultiPoint, MultiLineString, MultiPolygon, GeometryCollection}
use Rattle.geoarrow_layout.specs.declared.names.ExtensionName.{ExtensionName}
use Rattle.geoarrow_layout.specs.declared.names.ExtensionName.TheVariants as names
use Rattle.geoarrow_layout.specs.Kinds.{name_text}
use Rattle.geoarrow_layout.specs.Shapes.{has_name}
use Rattle.column_check.specs.ExtensionNames.{extensions}
use Rattle.column_check.specs.Warnings.{is_extension_name}
use Rattle.column_check.proofs.walk.has_extension_name.Goals as goal

-- each of the eleven is listed
listed : (n : ExtensionName) → has_name (name_text n) (map name_text extensions) ≡ true
listed (names.Native Point) = refl
listed (names.Native LineString) = refl
listed (names.Native Polygon) = refl
listed (names.Native MultiPoint) = refl
listed (names.Native MultiLineString) = refl
listed (names.Native MultiPolygon) = refl
listed (names.Native GeometryCollection) = refl
listed names.Geometry = refl
listed names.Rect = refl
listed names.Wkb = refl
listed names.Wkt = refl

refused : (b : Bool) → (b ≡ true → ⊥) → b ≡ false
refused true h = absurd (h refl)
refused false h = refl

-- a text that is none of them is not
unlisted : (s : Text) → ((n : ExtensionName) → s ≡ name_text n → ⊥) → (ns : List ExtensionName) → has_name s (map name_text ns) ≡ false
unlisted s others [] = refl
unlisted s others (n ∷ ns) =
    let first : bytes_eq (name_text n) s ≡ false = refused (bytes_eq (name_text n) s) (λ h. others n (sym ((bytes_eq-Decides (name_text n) s).0 h))) in
    let rest = unlisted s others ns in
    cc

no_name : (n : ExtensionName) → None ≡ Some n → ⊥
no_name n h = absurd cc

decided : (s : Text) (r : Option ExtensionName) → ((n : ExtensionName) → (r ≡ Some n) ↔ (s ≡ name_text n)) → is_some r ≡ has_name s (map name_text extensions)
decided s (Some n) is = sym (ap (λ x. has_name x (map name_text extensions)) ((is n).0 refl) ∙ listed n)
decided s None is = sym (unlisted s (λ n h. no_name n ((is n).1 h)) extensions)

pub returns-in-Some : goal.returns-in-Some
returns-in-Some c =
    let named : Some c.in-Some.text.now ≡ text_at name_key c.args.field.now.metadata = search rules in
    c.is_some.ensures ∙ decided c.current_name.result.now c.from_text.result c.from_text.ensures
    ∙ ap (λ s. has_name s (map name_text extensions)) c.current_name.ensures ∙ ap is_extension_name named
