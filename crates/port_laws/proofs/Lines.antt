-- The answers of the four commands to one line.
use Rattle.std.proofs.Common.{◌≡◌, ◌≢◌, ◌∙◌, ◌⊎◌, ◌↔◌, ◌++◌, inl, codes, Option, Some, option_map, refl, sym, ap, subst}
use Rattle.std.specs.Prelude.{unwrap_or}
use Rattle.serde_json.specs.Data.{Data}
use Rattle.serde_json.specs.Written.{compact_text}
use Rattle.arrow_values.specs.Tree.{FieldTree}
use Rattle.geoarrow_layout.specs.declared.native_kinds.Kind.{Kind}
use Rattle.geoarrow_layout.specs.Kinds.{coord_type_of, dimension_of}
use Rattle.geoarrow_layout.specs.KindWords.{kind_word, coord_type_word, dimension_word}
use Rattle.geoarrow_meta.specs.Written.{NestsWithin}
use Rattle.geoarrow_meta.specs.Laws.{normal_value}
use Rattle.geoarrow_schema.specs.declared.types.GeoArrowType.{GeoArrowType}
use Rattle.geoarrow_schema.specs.Types.{kind_of, meta_of}
use Rattle.geoarrow_schema.specs.Reads.{Reads}
use Rattle.geoarrow_schema.specs.Normal.{normal_of}
use Rattle.geoarrow_columns.specs.declared.check.ColumnFault.{ColumnFault}
use Rattle.geoarrow_columns.specs.declared.check.ColumnFault.TheVariants.{Arrow, InvalidGeoArrow}
use Rattle.field_lines.specs.Line.{field_of_line}
use Rattle.geoarrow_fields.specs.declared.Command.{Command}
use Rattle.geoarrow_fields.specs.declared.Command.TheVariants.{Canon, Columns, Infer, Read}
use Rattle.geoarrow_fields.specs.Lines.{Bytes}
use Rattle.geoarrow_fields.specs.Answer.{Answers, error_text, type_text}
use Rattle.port_laws.specs.Commands.{IsTypeText, IsFieldLine, IsUnnamed, SaysGeometry, SaysNoType, geometry, inferred, form_text, answer_of_form}
use Rattle.port_laws.proofs.Words.{no_type}
use Rattle.port_laws.proofs.Pairs.{types_of_columns, none_of_columns, invalid_of_columns, arrow_of_columns, field_of_columns, unless_none, none_is_unnamed, alike, infers_none_never, inferred_of_columns, inferred_invalid, inferred_arrow, inferred_field, lines_of_read, no_line_of_read, error_of_read, lines_of_columns, lines_of_infer, no_lines_of_columns}

-- two facts that go together with a third
through : {A B C : Type 0} → A ↔ B → B ↔ C → A ↔ C
through one other = (λ a. other.0 (one.0 a), λ c. one.1 (other.1 c))

back : {A B : Type 0} → A ↔ B → B ↔ A
back one = (one.1, one.0)

-- ---- `read` and `columns`

pub read_types : (line a : Bytes) → (Answers Read line a × IsTypeText a) ↔ Answers Columns line (geometry a)
unfolding Answers
read_types line a = types_of_columns (field_of_line line) a

pub read_none : (line r c : Bytes) → Answers Read line r → Answers Columns line c → (r ≡ codes "none") ↔ SaysNoType line c
unfolding Answers
read_none line r c = none_of_columns (field_of_line line) r c

pub read_invalid : (line : Bytes) → Answers Read line (codes "error invalid") ↔ Answers Columns line (codes "faulty invalid")
unfolding Answers
read_invalid line = invalid_of_columns (field_of_line line)

pub read_arrow : (line : Bytes) → Answers Read line (codes "error arrow") ↔ (Answers Columns line (codes "faulty arrow") × ¬ IsUnnamed line)
unfolding Answers
read_arrow line = arrow_of_columns (field_of_line line)

pub read_field : (line : Bytes) → Answers Read line (codes "error field") ↔ Answers Columns line (codes "error field")
unfolding Answers
read_field line = field_of_columns (field_of_line line)

-- ---- `infer` and `read`

pub infer_alike : (line a : Bytes) → ¬ IsUnnamed line → Answers Infer line a ↔ Answers Read line a
unfolding Answers
infer_alike line a = alike (field_of_line line) a

pub infer_unless : (line r : Bytes) → Answers Read line r → r ≢ codes "none" → Answers Infer line r
unfolding Answers
infer_unless line r = unless_none (field_of_line line) r

pub none_unnamed : (line : Bytes) → Answers Read line (codes "none") ↔ IsUnnamed line
unfolding Answers
none_unnamed line = none_is_unnamed (field_of_line line)

pub infer_never : (line : Bytes) → ¬ Answers Infer line (codes "none")
unfolding Answers
infer_never line = infers_none_never (field_of_line line)

-- ---- `infer` and `columns`

pub infer_types : (line a : Bytes) → (Answers Infer line a × IsTypeText a) ↔ (Answers Columns line (geometry a) ⊎ Answers Columns line (inferred a))
unfolding Answers
infer_types line a = inferred_of_columns (field_of_line line) a

pub infer_invalid : (line : Bytes) → Answers Infer line (codes "error invalid") ↔ (Answers Columns line (codes "other") ⊎ Answers Columns line (codes "faulty invalid"))
unfolding Answers
infer_invalid line = inferred_invalid (field_of_line line)

pub infer_arrow : (line : Bytes) → Answers Infer line (codes "error arrow") ↔ Answers Columns line (codes "faulty arrow")
unfolding Answers
infer_arrow line = inferred_arrow (field_of_line line)

pub infer_field : (line : Bytes) → Answers Infer line (codes "error field") ↔ Answers Columns line (codes "error field")
unfolding Answers
infer_field line = inferred_field (field_of_line line)

-- ---- `canon` beside the others

pub canon_lines : (line a r : Bytes) → Answers Canon line a → Answers Read line r → IsFieldLine a ↔ IsTypeText r
unfolding Answers
canon_lines line a r = lines_of_read (field_of_line line) a r

pub canon_none : (line : Bytes) → Answers Canon line (codes "none") ↔ Answers Read line (codes "none")
unfolding Answers
canon_none line = no_line_of_read (field_of_line line) (codes "none") refl refl

pub canon_errors : (line : Bytes) (fault : ColumnFault) → Answers Canon line (error_text fault) ↔ Answers Read line (error_text fault)
unfolding Answers
canon_errors line fault = error_of_read (field_of_line line) fault

pub canon_field : (line : Bytes) → Answers Canon line (codes "error field") ↔ Answers Read line (codes "error field")
unfolding Answers
canon_field line = no_line_of_read (field_of_line line) (codes "error field") refl refl

pub canon_columns : (line a c : Bytes) → Answers Canon line a → Answers Columns line c → IsFieldLine a ↔ SaysGeometry c
unfolding Answers
canon_columns line a c = lines_of_columns (field_of_line line) a c

pub canon_columns_none : (line a c : Bytes) → Answers Canon line a → Answers Columns line c → (a ≡ codes "none") ↔ SaysNoType line c
unfolding Answers
canon_columns_none line a c = no_lines_of_columns (field_of_line line) a c

pub canon_columns_invalid : (line : Bytes) → Answers Canon line (codes "error invalid") ↔ Answers Columns line (codes "faulty invalid")
canon_columns_invalid line = through (canon_errors line InvalidGeoArrow) (read_invalid line)

pub canon_columns_arrow : (line : Bytes) → Answers Canon line (codes "error arrow") ↔ (Answers Columns line (codes "faulty arrow") × ¬ IsUnnamed line)
canon_columns_arrow line = through (canon_errors line Arrow) (read_arrow line)

pub canon_columns_field : (line : Bytes) → Answers Canon line (codes "error field") ↔ Answers Columns line (codes "error field")
canon_columns_field line = through (canon_field line) (read_field line)

pub canon_infer : (line a i : Bytes) → Answers Canon line a → Answers Infer line i → IsFieldLine a ↔ (IsTypeText i × ¬ IsUnnamed line)
unfolding Answers
canon_infer line a i = lines_of_infer (field_of_line line) a i

pub canon_unnamed : (line : Bytes) → Answers Canon line (codes "none") ↔ IsUnnamed line
canon_unnamed line = through (canon_none line) (none_unnamed line)

pub canon_infer_errors : (line : Bytes) (fault : ColumnFault) → ¬ IsUnnamed line → Answers Canon line (error_text fault) ↔ Answers Infer line (error_text fault)
canon_infer_errors line fault named = through (canon_errors line fault) (back (infer_alike line (error_text fault) named))

pub canon_infer_field : (line : Bytes) → Answers Canon line (codes "error field") ↔ Answers Infer line (codes "error field")
canon_infer_field line = through (canon_columns_field line) (back (infer_field line))

-- ---- the line that `canon` answers

-- it is answered by itself, and read as the line that it is the answer to
abbrev pub IsClosed : Type 0
IsClosed =
    (line answer : Bytes) (f : FieldTree) (g : GeoArrowType) → field_of_line line ≡ Some f → Reads f g → NestsWithin 100 (meta_of g).crs.value
    → Answers Canon line answer → Answers Canon answer answer × ((text : Bytes) → Answers Read line text → Answers Read answer text)

abbrev words_with : Kind → Option Data → Bytes
words_with k v = kind_word k ++ codes " " ++ coord_type_word (coord_type_of k) ++ codes " " ++ dimension_word (dimension_of k) ++ codes " " ++ unwrap_or (option_map compact_text v) (codes "-")

form_is_type : (g : GeoArrowType) → type_text g ≡ form_text (normal_of g)
form_is_type g = ap (words_with (kind_of g)) (sym (normal_value (meta_of g)))

type_is_read : (line : Bytes) (f : FieldTree) (g : GeoArrowType) → field_of_line line ≡ Some f → Reads f g → Answers Read line (type_text g)
unfolding Answers
type_is_read line f g is r = rw is (inl (g, r, refl))

module _ (g : GeoArrowType) (answer : Bytes) (canon : Answers Canon answer answer) (read : Answers Read answer (form_text (normal_of g))) where
  by_form : IsTypeText (form_text (normal_of g))
  by_form = (g, sym (form_is_type g))

  each : (command : Command) → Answers command answer (answer_of_form command answer (normal_of g))
  each Read = read
  each Infer = infer_unless answer (form_text (normal_of g)) read (λ x. no_type (codes "none") refl (g, sym x ∙ sym (form_is_type g)))
  each Canon = canon
  each Columns = (read_types answer (form_text (normal_of g))).0 (read, by_form)

pub canonical_answers : IsClosed → (line answer : Bytes) (f : FieldTree) (g : GeoArrowType) → field_of_line line ≡ Some f → Reads f g → NestsWithin 100 (meta_of g).crs.value
    → Answers Canon line answer → (command : Command) → Answers command answer (answer_of_form command answer (normal_of g))
canonical_answers closed line answer f g is r nests canon =
    let again = closed line answer f g is r nests canon in
    each g answer again.0 (subst (Answers Read answer) (form_is_type g) (again.1 (type_text g) (type_is_read line f g is r)))
