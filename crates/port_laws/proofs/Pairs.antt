-- The answers of the four commands, of one field or of a line that denotes none.
use Rattle.std.proofs.Common.{◌≡◌, ◌≢◌, ◌∙◌, ◌⊎◌, ◌↔◌, inl, inr, codes, bytes_eq, false, Option, Some, None, refl, sym, ap, subst}
use Rattle.std.specs.Prelude.{MatchOption}
use Rattle.std.proofs.lemmas.Option.{same_Some}
use Rattle.arrow_values.specs.Tree.{FieldTree}
use Rattle.geoarrow_schema.specs.declared.types.GeoArrowType.{GeoArrowType}
use Rattle.geoarrow_schema.specs.Types.{kind_of, meta_of}
use Rattle.geoarrow_schema.specs.Reads.{HasGeoArrowName, Reads}
use Rattle.geoarrow_schema.specs.Infers.{Infers}
use Rattle.geoarrow_columns.specs.declared.check.ColumnFault.{ColumnFault}
use Rattle.geoarrow_columns.specs.declared.check.ColumnFault.TheVariants.{Arrow, InvalidGeoArrow}
use Rattle.geoarrow_columns.specs.declared.check.Column.{Column}
use Rattle.geoarrow_columns.specs.declared.check.Column.TheVariants.{Faulty, Geometry, Inferred, Other}
use Rattle.geoarrow_columns.specs.Report.{IsColumnOf, IsRefused, IsRefusedFor}
use Rattle.geoarrow_fields.specs.declared.Command.{Command}
use Rattle.geoarrow_fields.specs.declared.Command.TheVariants.{Canon, Columns, Infer, Read}
use Rattle.geoarrow_fields.specs.Lines.{Bytes}
use Rattle.geoarrow_fields.specs.Answer.{AnswersField, AnswersNoType, column_text, error_text, inferred_text, type_text}
use Rattle.port_laws.specs.Commands.{IsTypeText, IsFieldLine, SaysGeometry, SaysInferred, geometry, inferred}
use Rattle.port_laws.proofs.Readings.{named, unnamed}
use Rattle.port_laws.proofs.Words.{apart, begins, begins_type, behind_geometry, behind_inferred, error_is_no_line, error_is_no_type, no_line, no_type}

-- the text is the answer to a line that denotes this field, or none
abbrev pub AnswersAt : Option FieldTree → Command → Bytes → Type 0
AnswersAt o command answer = MatchOption o (answer ≡ codes "error field") (λ f. AnswersField command f answer)

-- it denotes a field without a name of GeoArrow
abbrev pub UnnamedAt : Option FieldTree → Type 0
UnnamedAt o = (f : FieldTree) × (o ≡ Some f) × ¬ HasGeoArrowName f

abbrev pub SaysNoTypeAt : Option FieldTree → Bytes → Type 0
SaysNoTypeAt o c = SaysInferred c ⊎ ((c ≡ codes "other") ⊎ ((c ≡ codes "faulty arrow") × UnnamedAt o))

unnamed_some : (f : FieldTree) → UnnamedAt (Some f) → ¬ HasGeoArrowName f
unnamed_some f (x, same, free) = subst (λ y. ¬ HasGeoArrowName y) (sym (same_Some f x same)) free

unnamed_none : ¬ UnnamedAt None
unnamed_none (x, same, free) = absurd cc

-- ---- a refused field is read as no type

refused : (f : FieldTree) (fault : ColumnFault) → IsRefusedFor f fault → IsRefused f
refused f Arrow r = r.0
refused f InvalidGeoArrow r = r.0

not_refused : (f : FieldTree) (g : GeoArrowType) → Reads f g → ¬ IsRefused f
not_refused f g reads r = r.1 (kind_of g) (meta_of g) reads

no_type_read : (f : FieldTree) (a : Bytes) (g : GeoArrowType) → Reads f g → ¬ AnswersNoType f a
no_type_read f a g reads (inl (free, x)) = free (named f g reads)
no_type_read f a g reads (inr (fault, r, x)) = not_refused f g reads (refused f fault r)

-- what is answered where there is no type is neither that of a type nor a line
no_type_text : (f : FieldTree) (a : Bytes) → AnswersNoType f a → ¬ IsTypeText a
no_type_text f a (inl (free, x)) t = no_type (codes "none") refl (subst IsTypeText x t)
no_type_text f a (inr (fault, r, x)) t = no_type (error_text fault) (error_is_no_type fault) (subst IsTypeText x t)

no_type_line : (f : FieldTree) (a : Bytes) → AnswersNoType f a → ¬ IsFieldLine a
no_type_line f a (inl (free, x)) t = no_line (codes "none") refl (subst IsFieldLine x t)
no_type_line f a (inr (fault, r, x)) t = no_line (error_text fault) (error_is_no_line fault) (subst IsFieldLine x t)

-- the column of a faulty field
faulty : (f : FieldTree) (fault : ColumnFault) → IsRefusedFor f fault → IsColumnOf f (Faulty fault)
faulty f Arrow r = inl r
faulty f InvalidGeoArrow r = r

-- ---- which column `columns` says

is_geometry : (f : FieldTree) (c : Column) (a : Bytes) → IsColumnOf f c → geometry a ≡ column_text c → (g : GeoArrowType) × Reads f g × (a ≡ type_text g)
is_geometry f (Geometry g) a r x = (g, r, behind_geometry a (type_text g) x)
is_geometry f (Inferred g) a r x = absurd (apart (begins 103) refl refl x)
is_geometry f Other a r x = absurd (apart (begins 103) refl refl x)
is_geometry f (Faulty Arrow) a r x = absurd (apart (begins 103) refl refl x)
is_geometry f (Faulty InvalidGeoArrow) a r x = absurd (apart (begins 103) refl refl x)

is_inferred : (f : FieldTree) (c : Column) (a : Bytes) → IsColumnOf f c → inferred a ≡ column_text c → (g : GeoArrowType) × Infers f g × (a ≡ type_text g)
is_inferred f (Inferred g) a r x = (g, r, behind_inferred a (type_text g) x)
is_inferred f (Geometry g) a r x = absurd (apart (begins 105) refl refl x)
is_inferred f Other a r x = absurd (apart (begins 105) refl refl x)
is_inferred f (Faulty Arrow) a r x = absurd (apart (begins 105) refl refl x)
is_inferred f (Faulty InvalidGeoArrow) a r x = absurd (apart (begins 105) refl refl x)

is_other : (f : FieldTree) (c : Column) → IsColumnOf f c → codes "other" ≡ column_text c → IsColumnOf f Other
is_other f Other r x = r
is_other f (Geometry g) r x = absurd (apart (begins 111) refl refl x)
is_other f (Inferred g) r x = absurd (apart (begins 111) refl refl x)
is_other f (Faulty Arrow) r x = absurd (apart (begins 111) refl refl x)
is_other f (Faulty InvalidGeoArrow) r x = absurd (apart (begins 111) refl refl x)

is_faulty : (f : FieldTree) (c : Column) → IsColumnOf f c → codes "faulty arrow" ≡ column_text c → IsColumnOf f (Faulty Arrow)
is_faulty f (Faulty Arrow) r x = r
is_faulty f (Faulty InvalidGeoArrow) r x = absurd (apart (bytes_eq (codes "faulty arrow")) refl refl x)
is_faulty f (Geometry g) r x = absurd (apart (begins 102) refl refl x)
is_faulty f (Inferred g) r x = absurd (apart (begins 102) refl refl x)
is_faulty f Other r x = absurd (apart (begins 102) refl refl x)

is_invalid : (f : FieldTree) (c : Column) → IsColumnOf f c → codes "faulty invalid" ≡ column_text c → IsColumnOf f (Faulty InvalidGeoArrow)
is_invalid f (Faulty InvalidGeoArrow) r x = r
is_invalid f (Faulty Arrow) r x = absurd (apart (bytes_eq (codes "faulty invalid")) refl refl x)
is_invalid f (Geometry g) r x = absurd (apart (begins 102) refl refl x)
is_invalid f (Inferred g) r x = absurd (apart (begins 102) refl refl x)
is_invalid f Other r x = absurd (apart (begins 102) refl refl x)

no_column_is_field : (c : Column) → ¬ (codes "error field" ≡ column_text c)
no_column_is_field (Geometry g) x = apart (begins 101) refl refl x
no_column_is_field (Inferred g) x = apart (begins 101) refl refl x
no_column_is_field Other x = apart (begins 101) refl refl x
no_column_is_field (Faulty Arrow) x = apart (begins 101) refl refl x
no_column_is_field (Faulty InvalidGeoArrow) x = apart (begins 101) refl refl x

-- ---- `read` and `columns`

-- what `read` answers of a field for a text that is none of a type
read_error : (f : FieldTree) (a : Bytes) → begins_type a ≡ false → AnswersField Read f a → AnswersNoType f a
read_error f a other (inl (g, r, x)) = absurd (no_type a other (g, x))
read_error f a other (inr none) = none

read_none : (f : FieldTree) → AnswersField Read f (codes "none") → ¬ HasGeoArrowName f
read_none f answer = by (read_error f (codes "none") refl answer)
  where
    by : AnswersNoType f (codes "none") → ¬ HasGeoArrowName f
    by (inl (free, x)) = free
    by (inr (Arrow, r, x)) = absurd (apart (begins 110) refl refl x)
    by (inr (InvalidGeoArrow, r, x)) = absurd (apart (begins 110) refl refl x)

none_read : (f : FieldTree) (a : Bytes) → ¬ HasGeoArrowName f → AnswersField Read f a → a ≡ codes "none"
none_read f a free (inl (g, r, x)) = absurd (free (named f g r))
none_read f a free (inr (inl (other, x))) = x
none_read f a free (inr (inr (fault, r, x))) = absurd (free (refused f fault r).0)

read_refused : (f : FieldTree) (fault : ColumnFault) → AnswersField Read f (error_text fault) → IsRefusedFor f fault
read_refused f fault answer = by fault (read_error f (error_text fault) (error_is_no_type fault) answer)
  where
    by : (fault : ColumnFault) → AnswersNoType f (error_text fault) → IsRefusedFor f fault
    by Arrow (inl (free, x)) = absurd (apart (begins 101) refl refl x)
    by InvalidGeoArrow (inl (free, x)) = absurd (apart (begins 101) refl refl x)
    by Arrow (inr (Arrow, r, x)) = r
    by Arrow (inr (InvalidGeoArrow, r, x)) = absurd (apart (bytes_eq (codes "error arrow")) refl refl x)
    by InvalidGeoArrow (inr (Arrow, r, x)) = absurd (apart (bytes_eq (codes "error invalid")) refl refl x)
    by InvalidGeoArrow (inr (InvalidGeoArrow, r, x)) = r

no_read_is_field : (f : FieldTree) → ¬ AnswersField Read f (codes "error field")
no_read_is_field f answer = by (read_error f (codes "error field") refl answer)
  where
    by : ¬ AnswersNoType f (codes "error field")
    by (inl (free, x)) = apart (begins 101) refl refl x
    by (inr (Arrow, r, x)) = apart (bytes_eq (codes "error field")) refl refl x
    by (inr (InvalidGeoArrow, r, x)) = apart (bytes_eq (codes "error field")) refl refl x

read_type : (f : FieldTree) (a : Bytes) → AnswersField Read f a → IsTypeText a → AnswersField Columns f (geometry a)
read_type f a (inl (g, r, x)) t = (Geometry g, r, ap geometry x)
read_type f a (inr none) t = absurd (no_type_text f a none t)

columns_type : (f : FieldTree) (a : Bytes) → AnswersField Columns f (geometry a) → AnswersField Read f a × IsTypeText a
columns_type f a (c, r, x) = let (g, reads, same) = is_geometry f c a r x in (inl (g, reads, same), (g, same))

pub types_of_columns : (o : Option FieldTree) (a : Bytes) → (AnswersAt o Read a × IsTypeText a) ↔ AnswersAt o Columns (geometry a)
types_of_columns None a = (
  λ h. absurd (no_type (codes "error field") refl (subst IsTypeText h.0 h.1)),
  λ x. absurd (apart (begins 103) refl refl x),
)
types_of_columns (Some f) a = (λ h. read_type f a h.0 h.1, columns_type f a)

says_no_type : (f : FieldTree) (c : Bytes) → ¬ HasGeoArrowName f → AnswersField Columns f c → SaysNoTypeAt (Some f) c
says_no_type f c free (Geometry g, r, x) = absurd (free (named f g r))
says_no_type f c free (Inferred g, r, x) = inl (type_text g, (g, refl), x)
says_no_type f c free (Other, r, x) = inr (inl x)
says_no_type f c free (Faulty Arrow, r, x) = inr (inr (x, (f, refl, free)))
says_no_type f c free (Faulty InvalidGeoArrow, r, x) = absurd (free r.0.0)

no_type_said : (f : FieldTree) (c : Bytes) → AnswersField Columns f c → SaysNoTypeAt (Some f) c → ¬ HasGeoArrowName f
no_type_said f c (d, r, x) (inl (a, t, y)) = let (g, i, same) = is_inferred f d a r (sym y ∙ x) in unnamed f g i
no_type_said f c (d, r, x) (inr (inl y)) = (is_other f d r (sym y ∙ x)).0
no_type_said f c (d, r, x) (inr (inr (y, none))) = unnamed_some f none

nothing_said : ¬ SaysNoTypeAt None (codes "error field")
nothing_said (inl (a, t, y)) = apart (begins 101) refl refl y
nothing_said (inr (inl y)) = apart (begins 101) refl refl y
nothing_said (inr (inr (y, none))) = apart (begins 101) refl refl y

pub none_of_columns : (o : Option FieldTree) (r c : Bytes) → AnswersAt o Read r → AnswersAt o Columns c → (r ≡ codes "none") ↔ SaysNoTypeAt o c
none_of_columns None r c read columns = (
  λ x. absurd (apart (begins 110) refl refl (sym x ∙ read)),
  λ said. absurd (nothing_said (subst (SaysNoTypeAt None) columns said)),
)
none_of_columns (Some f) r c read columns = (
  λ x. says_no_type f c (read_none f (subst (AnswersField Read f) x read)) columns,
  λ said. none_read f r (no_type_said f c columns said) read,
)

pub invalid_of_columns : (o : Option FieldTree) → AnswersAt o Read (codes "error invalid") ↔ AnswersAt o Columns (codes "faulty invalid")
invalid_of_columns None = (λ x. absurd (apart (bytes_eq (codes "error invalid")) refl refl x), λ x. absurd (apart (begins 102) refl refl x))
invalid_of_columns (Some f) = (
  λ h. (Faulty InvalidGeoArrow, read_refused f InvalidGeoArrow h, refl),
  λ h. inr (inr (InvalidGeoArrow, is_invalid f h.0 h.1 h.2, refl)),
)

arrow_refused : (f : FieldTree) → IsColumnOf f (Faulty Arrow) → ¬ UnnamedAt (Some f) → IsRefusedFor f Arrow
arrow_refused f (inl r) is = r
arrow_refused f (inr unread) is = absurd (is (f, refl, unread.0))

pub arrow_of_columns : (o : Option FieldTree) → AnswersAt o Read (codes "error arrow") ↔ (AnswersAt o Columns (codes "faulty arrow") × ¬ UnnamedAt o)
arrow_of_columns None = (λ x. absurd (apart (bytes_eq (codes "error arrow")) refl refl x), λ h. absurd (apart (begins 102) refl refl h.0))
arrow_of_columns (Some f) = (
  λ h. let r = read_refused f Arrow h in ((Faulty Arrow, inl r, refl), λ none. unnamed_some f none r.0.0),
  λ h. inr (inr (Arrow, arrow_refused f (is_faulty f h.0.0 h.0.1 h.0.2) h.1, refl)),
)

pub field_of_columns : (o : Option FieldTree) → AnswersAt o Read (codes "error field") ↔ AnswersAt o Columns (codes "error field")
field_of_columns None = (λ x. x, λ x. x)
field_of_columns (Some f) = (λ h. absurd (no_read_is_field f h), λ h. absurd (no_column_is_field h.0 h.2))

-- ---- `infer` and `read`

infer_read : (f : FieldTree) (a : Bytes) → ¬ UnnamedAt (Some f) → AnswersField Infer f a → AnswersField Read f a
infer_read f a is (Geometry g, r, x) = inl (g, r, x)
infer_read f a is (Inferred g, r, x) = absurd (is (f, refl, unnamed f g r))
infer_read f a is (Other, r, x) = absurd (is (f, refl, r.0))
infer_read f a is (Faulty Arrow, r, x) = inr (inr (Arrow, arrow_refused f r is, x))
infer_read f a is (Faulty InvalidGeoArrow, r, x) = inr (inr (InvalidGeoArrow, r, x))

read_infer : (f : FieldTree) (a : Bytes) → AnswersField Read f a → (a ≡ codes "none") ⊎ AnswersField Infer f a
read_infer f a (inl (g, r, x)) = inr (Geometry g, r, x)
read_infer f a (inr (inl (free, x))) = inl x
read_infer f a (inr (inr (fault, r, x))) = inr (Faulty fault, faulty f fault r, x)

pub unless_none : (o : Option FieldTree) (r : Bytes) → AnswersAt o Read r → r ≢ codes "none" → AnswersAt o Infer r
unless_none None r read some = read
unless_none (Some f) r read some = by (read_infer f r read)
  where
    by : (r ≡ codes "none") ⊎ AnswersField Infer f r → AnswersField Infer f r
    by (inl x) = absurd (some x)
    by (inr h) = h

pub none_is_unnamed : (o : Option FieldTree) → AnswersAt o Read (codes "none") ↔ UnnamedAt o
none_is_unnamed None = (λ x. absurd (apart (begins 110) refl refl x), λ none. absurd (unnamed_none none))
none_is_unnamed (Some f) = (λ h. (f, refl, read_none f h), λ none. inr (inl (unnamed_some f none, refl)))

pub alike : (o : Option FieldTree) (a : Bytes) → ¬ UnnamedAt o → AnswersAt o Infer a ↔ AnswersAt o Read a
alike None a is = (λ x. x, λ x. x)
alike (Some f) a is = (
  infer_read f a is,
  λ h. unless_none (Some f) a h (λ x. is ((none_is_unnamed (Some f)).0 (subst (AnswersField Read f) x h))),
)

pub infers_none_never : (o : Option FieldTree) → ¬ AnswersAt o Infer (codes "none")
infers_none_never None x = apart (begins 110) refl refl x
infers_none_never (Some f) (Geometry g, r, x) = no_type (codes "none") refl (g, x)
infers_none_never (Some f) (Inferred g, r, x) = no_type (codes "none") refl (g, x)
infers_none_never (Some f) (Other, r, x) = apart (begins 110) refl refl x
infers_none_never (Some f) (Faulty Arrow, r, x) = apart (begins 110) refl refl x
infers_none_never (Some f) (Faulty InvalidGeoArrow, r, x) = apart (begins 110) refl refl x

-- ---- `infer` and `columns`

infer_type : (f : FieldTree) (a : Bytes) → AnswersField Infer f a → IsTypeText a → AnswersField Columns f (geometry a) ⊎ AnswersField Columns f (inferred a)
infer_type f a (Geometry g, r, x) t = inl (Geometry g, r, ap geometry x)
infer_type f a (Inferred g, r, x) t = inr (Inferred g, r, ap inferred x)
infer_type f a (Other, r, x) t = absurd (no_type (codes "error invalid") refl (subst IsTypeText x t))
infer_type f a (Faulty fault, r, x) t = absurd (no_type (error_text fault) (error_is_no_type fault) (subst IsTypeText x t))

type_inferred : (f : FieldTree) (a : Bytes) → AnswersField Columns f (geometry a) ⊎ AnswersField Columns f (inferred a) → AnswersField Infer f a × IsTypeText a
type_inferred f a (inl (c, r, x)) = let (g, reads, same) = is_geometry f c a r x in ((Geometry g, reads, same), (g, same))
type_inferred f a (inr (c, r, x)) = let (g, infers, same) = is_inferred f c a r x in ((Inferred g, infers, same), (g, same))

field_says_none : (a : Bytes) → (geometry a ≡ codes "error field") ⊎ (inferred a ≡ codes "error field") → ⊥
field_says_none a (inl x) = apart (begins 103) refl refl x
field_says_none a (inr x) = apart (begins 105) refl refl x

pub inferred_of_columns : (o : Option FieldTree) (a : Bytes) → (AnswersAt o Infer a × IsTypeText a) ↔ (AnswersAt o Columns (geometry a) ⊎ AnswersAt o Columns (inferred a))
inferred_of_columns None a = (
  λ h. absurd (no_type (codes "error field") refl (subst IsTypeText h.0 h.1)),
  λ said. absurd (field_says_none a said),
)
inferred_of_columns (Some f) a = (λ h. infer_type f a h.0 h.1, type_inferred f a)

infer_invalid : (f : FieldTree) → AnswersField Infer f (codes "error invalid") → AnswersField Columns f (codes "other") ⊎ AnswersField Columns f (codes "faulty invalid")
infer_invalid f (Geometry g, r, x) = absurd (no_type (codes "error invalid") refl (g, x))
infer_invalid f (Inferred g, r, x) = absurd (no_type (codes "error invalid") refl (g, x))
infer_invalid f (Other, r, x) = inl (Other, r, refl)
infer_invalid f (Faulty Arrow, r, x) = absurd (apart (bytes_eq (codes "error invalid")) refl refl x)
infer_invalid f (Faulty InvalidGeoArrow, r, x) = inr (Faulty InvalidGeoArrow, r, refl)

invalid_inferred : (f : FieldTree) → AnswersField Columns f (codes "other") ⊎ AnswersField Columns f (codes "faulty invalid") → AnswersField Infer f (codes "error invalid")
invalid_inferred f (inl (c, r, x)) = (Other, is_other f c r x, refl)
invalid_inferred f (inr (c, r, x)) = (Faulty InvalidGeoArrow, is_invalid f c r x, refl)

field_says_no_fault : (codes "other" ≡ codes "error field") ⊎ (codes "faulty invalid" ≡ codes "error field") → ⊥
field_says_no_fault (inl x) = apart (begins 111) refl refl x
field_says_no_fault (inr x) = apart (begins 102) refl refl x

pub inferred_invalid : (o : Option FieldTree) → AnswersAt o Infer (codes "error invalid") ↔ (AnswersAt o Columns (codes "other") ⊎ AnswersAt o Columns (codes "faulty invalid"))
inferred_invalid None = (λ x. absurd (apart (bytes_eq (codes "error invalid")) refl refl x), λ said. absurd (field_says_no_fault said))
inferred_invalid (Some f) = (infer_invalid f, invalid_inferred f)

infer_arrow : (f : FieldTree) → AnswersField Infer f (codes "error arrow") → AnswersField Columns f (codes "faulty arrow")
infer_arrow f (Geometry g, r, x) = absurd (no_type (codes "error arrow") refl (g, x))
infer_arrow f (Inferred g, r, x) = absurd (no_type (codes "error arrow") refl (g, x))
infer_arrow f (Other, r, x) = absurd (apart (bytes_eq (codes "error arrow")) refl refl x)
infer_arrow f (Faulty Arrow, r, x) = (Faulty Arrow, r, refl)
infer_arrow f (Faulty InvalidGeoArrow, r, x) = absurd (apart (bytes_eq (codes "error arrow")) refl refl x)

pub inferred_arrow : (o : Option FieldTree) → AnswersAt o Infer (codes "error arrow") ↔ AnswersAt o Columns (codes "faulty arrow")
inferred_arrow None = (λ x. absurd (apart (bytes_eq (codes "error arrow")) refl refl x), λ x. absurd (apart (begins 102) refl refl x))
inferred_arrow (Some f) = (infer_arrow f, λ h. (Faulty Arrow, is_faulty f h.0 h.1 h.2, refl))

no_inference_is_field : (c : Column) → ¬ (codes "error field" ≡ inferred_text c)
no_inference_is_field (Geometry g) x = no_type (codes "error field") refl (g, x)
no_inference_is_field (Inferred g) x = no_type (codes "error field") refl (g, x)
no_inference_is_field Other x = apart (bytes_eq (codes "error field")) refl refl x
no_inference_is_field (Faulty Arrow) x = apart (bytes_eq (codes "error field")) refl refl x
no_inference_is_field (Faulty InvalidGeoArrow) x = apart (bytes_eq (codes "error field")) refl refl x

pub inferred_field : (o : Option FieldTree) → AnswersAt o Infer (codes "error field") ↔ AnswersAt o Columns (codes "error field")
inferred_field None = (λ x. x, λ x. x)
inferred_field (Some f) = (λ h. absurd (no_inference_is_field h.0 h.2), λ h. absurd (no_column_is_field h.0 h.2))

-- ---- `canon` beside the others

lines_read : (f : FieldTree) (a r : Bytes) → AnswersField Canon f a → AnswersField Read f r → IsFieldLine a ↔ IsTypeText r
lines_read f a r (inl (n, is, put)) (inl (h, reads, x)) = (λ _. (h, x), λ _. (n, put))
lines_read f a r (inl (n, (g, reads, made, back), put)) (inr none) = absurd (no_type_read f r g reads none)
lines_read f a r (inr none) (inl (h, reads, x)) = absurd (no_type_read f a h reads none)
lines_read f a r (inr here) (inr there) = (λ line. absurd (no_type_line f a here line), λ type. absurd (no_type_text f r there type))

pub lines_of_read : (o : Option FieldTree) (a r : Bytes) → AnswersAt o Canon a → AnswersAt o Read r → IsFieldLine a ↔ IsTypeText r
lines_of_read None a r canon read = (
  λ line. absurd (no_line (codes "error field") refl (subst IsFieldLine canon line)),
  λ type. absurd (no_type (codes "error field") refl (subst IsTypeText read type)),
)
lines_of_read (Some f) a r canon read = lines_read f a r canon read

canon_read : (f : FieldTree) (a : Bytes) → begins 123 a ≡ false → AnswersField Canon f a → AnswersField Read f a
canon_read f a other (inl (n, is, put)) = absurd (no_line a other (n, put))
canon_read f a other (inr none) = inr none

-- where neither a line nor a type is answered, both answer the same
pub no_line_of_read : (o : Option FieldTree) (a : Bytes) → begins 123 a ≡ false → begins_type a ≡ false → AnswersAt o Canon a ↔ AnswersAt o Read a
no_line_of_read None a line type = (λ x. x, λ x. x)
no_line_of_read (Some f) a line type = (canon_read f a line, λ h. inr (read_error f a type h))

pub error_of_read : (o : Option FieldTree) (fault : ColumnFault) → AnswersAt o Canon (error_text fault) ↔ AnswersAt o Read (error_text fault)
error_of_read o fault = no_line_of_read o (error_text fault) (error_is_no_line fault) (error_is_no_type fault)

-- a field whose answer is a line is read
line_reads : (f : FieldTree) (a : Bytes) → AnswersField Canon f a → IsFieldLine a → (g : GeoArrowType) × Reads f g
line_reads f a (inl (n, (g, reads, made, back), put)) line = (g, reads)
line_reads f a (inr none) line = absurd (no_type_line f a none line)

geometry_said : (f : FieldTree) (c : Column) (g : GeoArrowType) → Reads f g → IsColumnOf f c → SaysGeometry (column_text c)
geometry_said f (Geometry h) g reads r = (type_text h, (h, refl), refl)
geometry_said f (Inferred h) g reads r = absurd (unnamed f h r (named f g reads))
geometry_said f Other g reads r = absurd (r.0 (named f g reads))
geometry_said f (Faulty Arrow) g reads (inl r) = absurd (not_refused f g reads r.0)
geometry_said f (Faulty Arrow) g reads (inr unread) = absurd (unread.0 (named f g reads))
geometry_said f (Faulty InvalidGeoArrow) g reads r = absurd (not_refused f g reads r.0)

said_line : (f : FieldTree) (a c : Bytes) → AnswersField Canon f a → AnswersField Columns f c → SaysGeometry c → IsFieldLine a
said_line f a c (inl (n, is, put)) columns said = (n, put)
said_line f a c (inr none) (d, r, x) (b, t, y) = let (g, reads, same) = is_geometry f d b r (sym y ∙ x) in absurd (no_type_read f a g reads none)

field_says_no_geometry : ¬ SaysGeometry (codes "error field")
field_says_no_geometry (a, t, y) = apart (begins 101) refl refl y

pub lines_of_columns : (o : Option FieldTree) (a c : Bytes) → AnswersAt o Canon a → AnswersAt o Columns c → IsFieldLine a ↔ SaysGeometry c
lines_of_columns None a c canon columns = (
  λ line. absurd (no_line (codes "error field") refl (subst IsFieldLine canon line)),
  λ said. absurd (field_says_no_geometry (subst SaysGeometry columns said)),
)
lines_of_columns (Some f) a c canon columns = (
  λ line. let (g, reads) = line_reads f a canon line in subst SaysGeometry (sym columns.2) (geometry_said f columns.0 g reads columns.1),
  said_line f a c canon columns,
)

inferred_line : (f : FieldTree) (i : Bytes) (g : GeoArrowType) → Reads f g → AnswersField Infer f i → IsTypeText i
inferred_line f i g reads (Geometry h, r, x) = (h, x)
inferred_line f i g reads (Inferred h, r, x) = (h, x)
inferred_line f i g reads (Other, r, x) = absurd (r.0 (named f g reads))
inferred_line f i g reads (Faulty Arrow, inl r, x) = absurd (not_refused f g reads r.0)
inferred_line f i g reads (Faulty Arrow, inr unread, x) = absurd (unread.0 (named f g reads))
inferred_line f i g reads (Faulty InvalidGeoArrow, r, x) = absurd (not_refused f g reads r.0)

type_line : (f : FieldTree) (a i : Bytes) → AnswersField Canon f a → AnswersField Infer f i → ¬ UnnamedAt (Some f) → IsTypeText i → IsFieldLine a
type_line f a i canon infer is type = (lines_read f a i canon (infer_read f i is infer)).1 type

pub lines_of_infer : (o : Option FieldTree) (a i : Bytes) → AnswersAt o Canon a → AnswersAt o Infer i → IsFieldLine a ↔ (IsTypeText i × ¬ UnnamedAt o)
lines_of_infer None a i canon infer = (
  λ line. absurd (no_line (codes "error field") refl (subst IsFieldLine canon line)),
  λ type. absurd (no_type (codes "error field") refl (subst IsTypeText infer type.0)),
)
lines_of_infer (Some f) a i canon infer = (
  λ line. let (g, reads) = line_reads f a canon line in (inferred_line f i g reads infer, λ none. unnamed_some f none (named f g reads)),
  λ type. type_line f a i canon infer type.1 type.0,
)

canon_none : (f : FieldTree) (a : Bytes) → ¬ HasGeoArrowName f → AnswersField Canon f a → a ≡ codes "none"
canon_none f a free (inl (n, (g, reads, made, back), put)) = absurd (free (named f g reads))
canon_none f a free (inr (inl (other, x))) = x
canon_none f a free (inr (inr (fault, r, x))) = absurd (free (refused f fault r).0)

pub no_lines_of_columns : (o : Option FieldTree) (a c : Bytes) → AnswersAt o Canon a → AnswersAt o Columns c → (a ≡ codes "none") ↔ SaysNoTypeAt o c
no_lines_of_columns None a c canon columns = none_of_columns None a c canon columns
no_lines_of_columns (Some f) a c canon columns = (
  λ x. says_no_type f c (read_none f (canon_read f (codes "none") refl (subst (AnswersField Canon f) x canon))) columns,
  λ said. canon_none f a (no_type_said f c columns said) canon,
)
