-- The differences of a file from the first that are shown, as findings (docs/FORMAT.md, 2.9).
use Rattle.std.specs.Prelude.{◌≡◌, List, [], ◌∷◌, codes, flat_map, map, Option, None, Some, option_map, string_bytes, unwrap_or}
use Rattle.std.specs.List.{slice_get}
use Rattle.json.specs.Json.{Json}
use Rattle.arrow_values.specs.Tree.{Text}
use Rattle.arrow_columns.specs.Column.{column_tree}
use Rattle.arrow_columns.specs.Types.{ColumnTree}
use Rattle.arrow_columns.specs.Notation.{type_text}
use Rattle.column_check.specs.Shown.{shown, shown_value}
use Rattle.column_check.specs.declared.code.Severity.{Severity}
use Rattle.column_check.specs.declared.code.Severity.TheVariants.{Error, Note}
use Rattle.column_reports.specs.Weights.{Weighing, counts_as}
use Rattle.column_reports.specs.declared.report.ColumnReport.{ColumnReport}
use Rattle.geoparquet.specs.Facts.{CrsOf, FactsOf, facts_view}
use Rattle.same_columns.specs.Compared.{compared, edges_word, encoding_word}
use Rattle.same_columns.specs.Differences.{AreDifferences}
use Rattle.same_columns.specs.declared.code.SameCode.{SameCode}
use Rattle.same_columns.specs.declared.code.SameCode.TheVariants as codes_of
use Rattle.same_columns.specs.declared.difference.Aspect.{Aspect}
use Rattle.same_columns.specs.declared.difference.Aspect.TheVariants as in_what
use Rattle.same_columns.specs.declared.difference.Difference.{Difference}
use Rattle.same_columns.specs.declared.difference.Difference.TheVariants.{OnlyInFirst, OnlyInOther, InBoth}
use Rattle.same_columns.specs.declared.unlike.Unlike.{Unlike}
use Rattle.same_columns.specs.declared.unlike.Words.{Words}

-- ---- the codes

abbrev pub code_text : SameCode → Text
code_text codes_of.NotSame = codes "NotSame"
code_text codes_of.CrsNotCompared = codes "CrsNotCompared"

-- how much one weighs
abbrev pub severity_of : SameCode → Severity
severity_of codes_of.NotSame = Error
severity_of codes_of.CrsNotCompared = Note

-- that of a difference
abbrev pub code_of : Difference → SameCode
code_of (InBoth first other in_what.CrsNotCompared) = codes_of.CrsNotCompared
code_of d = codes_of.NotSame

-- ---- what is said of a difference: what the later file has, what the first has, and what differs

pub record WordsOf : Type 0 where
  pub found : Option Text
  pub expected : Text
  pub help : Text

abbrev pub said : Option Text → Text → Text → WordsOf
said found expected help = record { found = found; expected = expected; help = help }

abbrev pub shown_type : ColumnTree → Text
shown_type c = shown (type_text c.data_type)

abbrev pub missing : ColumnTree → WordsOf
missing c = said None (shown_type c) (codes "The column is missing.")

abbrev pub added : ColumnTree → WordsOf
added c = said (Some (shown_type c)) (codes "no such column") (codes "The first file has no such column.")

abbrev pub word_if : Text → Option Text
word_if [] = None
word_if s = Some s

abbrev pub shown_encoding : ColumnTree → Option Text
shown_encoding c = word_if (encoding_word c)

-- a CRS as JSON; one that is not known is null
abbrev pub crs_text : Option Json → Text
crs_text None = codes "null"
crs_text (Some j) = shown_value j

abbrev pub shown_crs : Option CrsOf → Option Text
shown_crs None = None
shown_crs (Some f) = Some (crs_text f.crs)

abbrev pub other_type : ColumnTree → ColumnTree → WordsOf
other_type first last = said (Some (shown_type last)) (shown_type first) (codes "The first file has another type.")

abbrev pub other_encoding : ColumnTree → ColumnTree → WordsOf
other_encoding first last = said (shown_encoding last) (unwrap_or (shown_encoding first) (codes "no encoding")) (codes "The first file has another encoding.")

abbrev pub other_edges : FactsOf → FactsOf → WordsOf
other_edges first last = said (Some (edges_word last)) (edges_word first) (codes "The first file has other edges.")

abbrev pub other_crs : Text → FactsOf → FactsOf → WordsOf
other_crs help first last = said (shown_crs last.crs) (unwrap_or (shown_crs first.crs) (codes "no CRS")) help

abbrev pub changed : Aspect → ColumnReport → ColumnReport → WordsOf
changed in_what.DataType first last = other_type (column_tree first.column) (column_tree last.column)
changed in_what.Encoding first last = other_encoding (column_tree first.column) (column_tree last.column)
changed in_what.Edges first last = other_edges (facts_view first.facts) (facts_view last.facts)
changed in_what.Crs first last = other_crs (codes "The first file has another CRS.") (facts_view first.facts) (facts_view last.facts)
changed in_what.CrsNotCompared first last =
    other_crs (codes "Nothing tells whether the CRS of the first file is this one.") (facts_view first.facts) (facts_view last.facts)

-- the name of the column that it is of, and what is said of it
abbrev pub missing_one : Option ColumnReport → Option (Text × WordsOf)
missing_one None = None
missing_one (Some r) = Some (string_bytes r.column.name, missing (column_tree r.column))

abbrev pub added_one : Option ColumnReport → Option (Text × WordsOf)
added_one None = None
added_one (Some r) = Some (string_bytes r.column.name, added (column_tree r.column))

abbrev pub changed_one : Aspect → Option ColumnReport → Option ColumnReport → Option (Text × WordsOf)
changed_one aspect (Some first) (Some last) = Some (string_bytes last.column.name, changed aspect first last)
changed_one aspect _ _ = None

abbrev pub said_of : List ColumnReport → List ColumnReport → Difference → Option (Text × WordsOf)
said_of firsts lasts (OnlyInFirst place) = missing_one (slice_get firsts place)
said_of firsts lasts (OnlyInOther place) = added_one (slice_get lasts place)
said_of firsts lasts (InBoth first last aspect) = changed_one aspect (slice_get firsts first) (slice_get lasts last)

-- ---- the findings

pub record UnlikeOf : Type 0 where
  pub severity : Severity
  pub code : SameCode
  pub column : Text
  pub words : WordsOf

-- a difference as a finding, if it is shown
abbrev pub unlike_if : SameCode → Option Severity → Option (Text × WordsOf) → List UnlikeOf
unlike_if code (Some severity) (Some s) = record { severity = severity; code = code; column = s.0; words = s.1 } ∷ []
unlike_if code _ _ = []

-- how much one of a code counts, by what is asked of findings
abbrev pub counted_code : Weighing → SameCode → Option Severity
counted_code w code = counts_as w (code_text code) (severity_of code)

abbrev pub unlike_of : Weighing → List ColumnReport → List ColumnReport → Difference → List UnlikeOf
unlike_of w firsts lasts d = unlike_if (code_of d) (counted_code w (code_of d)) (said_of firsts lasts d)

-- the findings of a file with these columns, of which the first file has those
abbrev pub AreUnlike : Weighing → List ColumnReport → List ColumnReport → List UnlikeOf → Type 0
AreUnlike w firsts lasts us =
    (ds : List Difference) × AreDifferences (map compared firsts) (map compared lasts) ds × (us ≡ flat_map (unlike_of w firsts lasts) ds)

-- ---- as they are held

abbrev pub words_view : Words → WordsOf
words_view w = record { found = option_map string_bytes w.found; expected = string_bytes w.expected; help = w.help.now }

abbrev pub unlike_view : Unlike → UnlikeOf
unlike_view u = record { severity = u.severity; code = u.code; column = string_bytes u.column; words = words_view u.words }
