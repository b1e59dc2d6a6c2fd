-- The words of answers are told apart.
use Rattle.std.proofs.Common.{◌≡◌, ◌∙◌, ◌++◌, ◌∷◌, [], Bool, true, false, not, ◌&&◌, ℕ, nat_eq, codes, drop, refl, sym, ap, subst, append_assoc, true≢false}
use Rattle.std.specs.Prelude.{unwrap_or}
use Rattle.geoarrow_layout.specs.declared.native_kinds.NativeKind.TheVariants.{Point, LineString, Polygon, MultiPoint, MultiLineString, MultiPolygon, GeometryCollection}
use Rattle.geoarrow_layout.specs.declared.native_kinds.Width.TheVariants.{Plain, Large, View}
use Rattle.geoarrow_layout.specs.declared.native_kinds.Kind.{Kind}
use Rattle.geoarrow_layout.specs.declared.native_kinds.Kind.TheVariants.{Geometry, Native, Rect, Wkb, Wkt}
use Rattle.geoarrow_layout.specs.Kinds.{coord_type_of, dimension_of}
use Rattle.geoarrow_layout.specs.KindWords.{kind_word, coord_type_word, dimension_word}
use Rattle.geoarrow_meta.specs.Written.{printed}
use Rattle.geoarrow_schema.specs.declared.types.GeoArrowType.{GeoArrowType}
use Rattle.geoarrow_schema.specs.Types.{kind_of, meta_of}
use Rattle.geoarrow_columns.specs.declared.check.ColumnFault.{ColumnFault}
use Rattle.geoarrow_columns.specs.declared.check.ColumnFault.TheVariants.{Arrow, InvalidGeoArrow}
use Rattle.field_lines.specs.Line.{line_of_field}
use Rattle.geoarrow_fields.specs.Lines.{Bytes}
use Rattle.geoarrow_fields.specs.Answer.{error_text, type_text}
use Rattle.port_laws.specs.Commands.{IsTypeText, IsFieldLine, geometry, inferred}

-- texts are not the same if a test passes the one, and not the other
pub apart : (test : Bytes → Bool) {a b : Bytes} → test a ≡ true → test b ≡ false → a ≡ b → ⊥
apart test passed failed same = true≢false (sym passed ∙ ap test same ∙ failed)

-- the first byte is that one
abbrev pub begins : ℕ → Bytes → Bool
begins byte [] = false
begins byte (b ∷ bytes) = nat_eq b byte

-- the first byte is neither that of `error` nor that of `none`, nor that of a line
abbrev pub begins_type : Bytes → Bool
begins_type bytes = not (begins 101 bytes) && (not (begins 110 bytes) && not (begins 123 bytes))

word_begins : (k : Kind) (rest : Bytes) → begins_type (kind_word k ++ rest) ≡ true
word_begins (Native Point c d) rest = refl
word_begins (Native LineString c d) rest = refl
word_begins (Native Polygon c d) rest = refl
word_begins (Native MultiPoint c d) rest = refl
word_begins (Native MultiLineString c d) rest = refl
word_begins (Native MultiPolygon c d) rest = refl
word_begins (Native GeometryCollection c d) rest = refl
word_begins (Geometry c) rest = refl
word_begins (Rect d) rest = refl
word_begins (Wkb Plain) rest = refl
word_begins (Wkb Large) rest = refl
word_begins (Wkb View) rest = refl
word_begins (Wkt Plain) rest = refl
word_begins (Wkt Large) rest = refl
word_begins (Wkt View) rest = refl

-- what stands behind the word of the kind
abbrev behind_word : GeoArrowType → Bytes
behind_word g = codes " " ++ coord_type_word (coord_type_of (kind_of g)) ++ codes " " ++ dimension_word (dimension_of (kind_of g)) ++ codes " " ++ unwrap_or (printed (meta_of g)) (codes "-")

type_begins : (g : GeoArrowType) → begins_type (type_text g) ≡ true
type_begins g =
    let same : kind_word (kind_of g) ++ behind_word g ≡ type_text g = simp append_assoc in
    subst (λ t. begins_type t ≡ true) same (word_begins (kind_of g) (behind_word g))

-- such a text is not that of a type
pub no_type : (a : Bytes) → begins_type a ≡ false → ¬ IsTypeText a
no_type a other (g, same) = apart begins_type (type_begins g) other (sym same)

pub no_line : (a : Bytes) → begins 123 a ≡ false → ¬ IsFieldLine a
no_line a other (n, same) = apart (begins 123) {a = line_of_field n} refl other (sym same)

pub error_is_no_type : (fault : ColumnFault) → begins_type (error_text fault) ≡ false
error_is_no_type Arrow = refl
error_is_no_type InvalidGeoArrow = refl

pub error_is_no_line : (fault : ColumnFault) → begins 123 (error_text fault) ≡ false
error_is_no_line Arrow = refl
error_is_no_line InvalidGeoArrow = refl

-- what stands behind the two words of `columns`
pub behind_geometry : (a b : Bytes) → geometry a ≡ geometry b → a ≡ b
behind_geometry a b same = ap (drop 9) same

pub behind_inferred : (a b : Bytes) → inferred a ≡ inferred b → a ≡ b
behind_inferred a b same = ap (drop 9) same
