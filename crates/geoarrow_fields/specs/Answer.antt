-- The words of the answers, what is answered to a line, and what a run writes for the bytes that it read, at each of its ends.
use Rattle.std.specs.Prelude.{◌≡◌, ◌⊎◌, ℕ, List, [], ◌∷◌, ◌++◌, Option, MatchOption, codes, unwrap_or, ⊤}
use Rattle.std.specs.List.{AllZip}
use Rattle.std.specs.Io.KnownBytes.{Appends, Consumes, IsAtEnd}
use Rattle.arrow_values.specs.Tree.{FieldTree}
use Rattle.geoarrow_layout.specs.Kinds.{coord_type_of, dimension_of}
use Rattle.geoarrow_layout.specs.KindWords.{kind_word, coord_type_word, dimension_word}
use Rattle.geoarrow_meta.specs.Written.{printed}
use Rattle.geoarrow_schema.specs.declared.types.GeoArrowType.{GeoArrowType}
use Rattle.geoarrow_schema.specs.Types.{kind_of, meta_of}
use Rattle.geoarrow_schema.specs.Reads.{HasGeoArrowName, Reads}
use Rattle.geoarrow_schema.specs.Normal.{IsCanonical}
use Rattle.geoarrow_columns.specs.declared.check.ColumnFault.{ColumnFault}
use Rattle.geoarrow_columns.specs.declared.check.ColumnFault.TheVariants.{Arrow, InvalidGeoArrow}
use Rattle.geoarrow_columns.specs.declared.check.Column.{Column}
use Rattle.geoarrow_columns.specs.declared.check.Column.TheVariants.{Geometry, Inferred, Other, Faulty}
use Rattle.geoarrow_columns.specs.Same.{SameColumn}
use Rattle.geoarrow_columns.specs.Report.{IsRefusedFor, IsColumnOf}
use Rattle.field_lines.specs.Line.{field_of_line, line_of_field}
use Rattle.geoarrow_fields.specs.declared.Command.{Command}
use Rattle.geoarrow_fields.specs.declared.Command.TheVariants.{Read, Infer, Canon, Columns}
use Rattle.geoarrow_fields.specs.declared.RunEnd.{RunEnd}
use Rattle.geoarrow_fields.specs.declared.RunEnd.TheVariants.{Done, InputFault, Memory, OutputFault}
use Rattle.geoarrow_fields.specs.Lines.{Bytes, line_feed, lines_of, IsBegunLine, IsWithinLimits, IsPastLimit, Stops}

-- a type: kind, coordinate type, dimension and the text of its metadata
abbrev pub type_text : GeoArrowType → Bytes
type_text g = kind_word (kind_of g) ++ codes " " ++ coord_type_word (coord_type_of (kind_of g)) ++ codes " " ++ dimension_word (dimension_of (kind_of g)) ++ codes " " ++ unwrap_or (printed (meta_of g)) (codes "-")

-- why a field is refused
abbrev pub error_text : ColumnFault → Bytes
error_text Arrow = codes "error arrow"
error_text InvalidGeoArrow = codes "error invalid"

-- what a column holds, as `columns` says it
abbrev pub column_text : Column → Bytes
column_text (Geometry g) = codes "geometry " ++ type_text g
column_text (Inferred g) = codes "inferred " ++ type_text g
column_text Other = codes "other"
column_text (Faulty Arrow) = codes "faulty arrow"
column_text (Faulty InvalidGeoArrow) = codes "faulty invalid"

-- what a column holds, as `infer` says it
abbrev pub inferred_text : Column → Bytes
inferred_text (Geometry g) = type_text g
inferred_text (Inferred g) = type_text g
inferred_text Other = codes "error invalid"
inferred_text (Faulty fault) = error_text fault

-- two reports on columns say the same: as many entries, each the same as the other's
abbrev pub SameReport : List Column → List Column → Type 0
SameReport = AllZip SameColumn

-- no type, for a field without a name of GeoArrow or one that is refused
abbrev pub AnswersNoType : FieldTree → Bytes → Type 0
AnswersNoType f answer = (¬ HasGeoArrowName f × (answer ≡ codes "none")) ⊎ ((fault : ColumnFault) × IsRefusedFor f fault × (answer ≡ error_text fault))

-- the text is the answer to the field under the command. The canonical line is that of the field in normal form. Its value is the
-- one lean value that denotes this field, by the laws of `field_lines`, since a line can represent each data type that is written
-- (`layouts_have_line_form`)
abbrev pub AnswersField : Command → FieldTree → Bytes → Type 0
AnswersField Read f answer = ((g : GeoArrowType) × Reads f g × (answer ≡ type_text g)) ⊎ AnswersNoType f answer
AnswersField Infer f answer = (c : Column) × IsColumnOf f c × (answer ≡ inferred_text c)
AnswersField Canon f answer = ((n : FieldTree) × IsCanonical f n × (answer ≡ line_of_field n)) ⊎ AnswersNoType f answer
AnswersField Columns f answer = (c : Column) × IsColumnOf f c × (answer ≡ column_text c)

-- the text is the answer to the line under the command
unfoldable pub Answers : Command → Bytes → Bytes → Type 0
Answers command line answer = MatchOption (field_of_line line) (answer ≡ codes "error field") (λ f. AnswersField command f answer)

-- ---- a run

-- these are answers to these lines, in order, each with its line feed, and then this last text
unfoldable pub Answered : Command → Bytes → List Bytes → Bytes → Type 0
Answered command last [] output = output ≡ last
Answered command last (line ∷ lines) output =
    (answer : Bytes) × (rest : Bytes) × Answers command line answer × (output ≡ answer ++ (line_feed ∷ rest)) × Answered command last lines rest

-- the lines of the input up to such a cause to stop are answered, and then comes this last text
abbrev pub AnswersUntil : (ℕ → Bytes → Type 0) → Command → Bytes → Bytes → Bytes → Type 0
AnswersUntil Cause command last input output = (stop : Stops Cause input) × Answered command last stop.lines output

-- what a run that ends so means to write for an input: the answers to all its lines; to those up to what is past a limit, or as
-- far as they came whole, before a line that is begun; to those up to one that is past no limit; to some first ones. All of these are within the limits
abbrev pub Means : Command → RunEnd → Bytes → Bytes → Type 0
Means command Done input output = IsWithinLimits (lines_of input) × Answered command [] (lines_of input) output
Means command InputFault input output = AnswersUntil (λ count later. IsPastLimit count later ⊎ IsBegunLine later) command (codes "error input\n") input output
Means command Memory input output = AnswersUntil (λ count later. ¬ IsPastLimit count later) command (codes "error memory\n") input output
Means command OutputFault input output = AnswersUntil (λ count later. ⊤) command [] input output

-- known bytes grow by an output of this kind
abbrev pub AppendsSome : (Bytes → Type 0) → Option Bytes → Option Bytes → Type 0
AppendsSome Form old new = (output : Bytes) × Form output × Appends old new output

-- a front part of an output of this kind
abbrev pub FrontOf : (Bytes → Type 0) → Bytes → Type 0
FrontOf Form front = (back : Bytes) × Form (front ++ back)

-- some bytes were read, and an output of this kind for them was written
pub record ReadsAndWrites (Output : Bytes → Bytes → Type 0) (in_old in_new out_old out_new : Option Bytes) : Type 0 where
  pub input : Bytes
  pub output : Bytes
  pub consumed : Consumes in_old in_new input
  pub written : Appends out_old out_new output
  pub is : Output input output

-- a front part of what is meant at that end is written for some input, which at `Done` is the whole one
abbrev pub IsCutOff : Command → (in_old in_new out_old out_new : Option Bytes) → RunEnd → Type 0
IsCutOff command i j o p meant =
    (meant ≡ Done → IsAtEnd j) × ReadsAndWrites (λ input front. (back : Bytes) × Means command meant input (front ++ back)) i j o p

-- a run of the command that ended so has read and written that; where the writer failed, a front part of what it meant to
-- write, at this end or at another
abbrev pub RunsTo : Command → RunEnd → (in_old in_new out_old out_new : Option Bytes) → Type 0
RunsTo command Done i j o p = ReadsAndWrites (Means command Done) i j o p × IsAtEnd j
RunsTo command OutputFault i j o p = (meant : RunEnd) × IsCutOff command i j o p meant
RunsTo command end i j o p = ReadsAndWrites (Means command end) i j o p
