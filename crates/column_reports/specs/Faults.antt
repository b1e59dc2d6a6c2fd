-- Why a file is refused, as one JSON value and in words (docs/FORMAT.md, 2.8).
use Rattle.std.specs.Prelude.{ℕ, ◌-◌, List, [], ◌++◌, codes, decimal, drop, flat_map, length, take, Option, None, Some}
use Rattle.json.specs.Json.{Json}
use Rattle.json.specs.Print.{print}
use Rattle.json.specs.Tree.{json_tokens}
use Rattle.arrow_values.specs.Tree.{Text}
use Rattle.column_check.specs.Severities.{severity_text}
use Rattle.column_check.specs.declared.code.Severity.TheVariants.{Error}
use Rattle.column_files.specs.Refusals.{Told, bad_told}
use Rattle.column_files.specs.declared.bad_lines.BadLine.{BadLine}
use Rattle.column_files.specs.declared.bad_lines.BadLines.{BadLines}
use Rattle.column_files.specs.declared.refusal.Place.{Place}
use Rattle.column_files.specs.declared.refusal.Place.TheVariants.{Line, LineByte, Byte, FooterByte, Elements, Column}
use Rattle.column_reports.specs.FindingLines.{more_if}
use Rattle.column_reports.specs.FindingWords.{each, placed, around}
use Rattle.column_reports.specs.Objects.{object_of, string_if, number_if}

-- the part of the file that a place is in
abbrev pub part_in : Place → Option Text
part_in (FooterByte byte) = Some (codes "footer")
part_in (Elements byte) = Some (codes "elements")
part_in place = None

-- the numbers of a place
abbrev pub byte_in : Place → Option ℕ
byte_in (LineByte line byte) = Some byte
byte_in (Byte byte) = Some byte
byte_in (FooterByte byte) = Some byte
byte_in (Elements byte) = byte
byte_in place = None

abbrev pub line_in : Place → Option ℕ
line_in (Line line) = Some line
line_in (LineByte line byte) = Some line
line_in place = None

abbrev pub index_in : Place → Option ℕ
index_in (Column index) = Some index
index_in place = None

-- ---- as JSON

-- what the object is, that it is an error, its code, and the name of the file
abbrev pub rule_of : Option Text → Told → List (Text × Json)
rule_of file t =
    string_if (codes "kind") (Some (codes "finding"))
    ++ string_if (codes "severity") (Some (severity_text Error))
    ++ string_if (codes "code") (Some t.code)
    ++ string_if (codes "file") file

abbrev pub place_of : Place → List (Text × Json)
place_of place =
    number_if (codes "index") (index_in place)
    ++ string_if (codes "in") (part_in place)
    ++ number_if (codes "byte") (byte_in place)
    ++ number_if (codes "line") (line_in place)

-- what is found, what is expected, what helps, and how many more there are, if there are any
abbrev pub words_of : ℕ → Told → List (Text × Json)
words_of more t =
    string_if (codes "found") (Some t.found)
    ++ string_if (codes "expected") (Some t.expected)
    ++ string_if (codes "help") t.help
    ++ more_if more

abbrev pub fault_value : Option Text → ℕ → Told → Json
fault_value file more t = object_of (rule_of file t ++ (place_of t.place ++ words_of more t))

-- as a line, without a line feed
abbrev pub fault_line : Option Text → ℕ → Told → Text
fault_line file more t = print (json_tokens (fault_value file more t))

-- ---- in words

abbrev pub number_words : Text → Option ℕ → Option Text
number_words before None = None
number_words before (Some n) = Some (before ++ decimal n)

abbrev pub place_parts : Place → List Text
place_parts place =
    each (number_words (codes "column ") (index_in place))
    ++ each (part_in place)
    ++ each (number_words (codes "byte ") (byte_in place))
    ++ each (number_words (codes "line ") (line_in place))

abbrev pub said_words : Told → Text
said_words t = codes "found " ++ (t.found ++ (codes "; expected " ++ (t.expected ++ around (codes ". ") t.help [])))

abbrev pub fault_words : Told → Text
fault_words t = codes "error[" ++ (t.code ++ (codes "]" ++ (placed (place_parts t.place) ++ (codes ": " ++ said_words t))))

-- ---- bad lines

-- the line of a bad line, with its line feed, and those of some
abbrev pub bad_text : Option Text → ℕ → BadLine → Text
bad_text file more bad = fault_line file more (bad_told bad) ++ codes "\n"

abbrev pub bad_texts : Option Text → ℕ → List BadLine → Text
bad_texts file more bad = flat_map (bad_text file more) bad

-- those of all that are kept, of which the last says how many more there are
abbrev pub kept_text : Option Text → BadLines → Text
kept_text file kept =
    let bad = kept.first.items in
    let others = length bad - 1 in
    bad_texts file 0 (take others bad) ++ bad_texts file kept.more (drop others bad)
