-- What is found as JSON, and the lines of findings (docs/FORMAT.md, 5.1).
use Rattle.std.specs.Prelude.{ℕ, ◌==◌, List, [], ◌∷◌, ◌++◌, codes, decimal, flat_map, map, Option, None, Some, if◌then◌else◌}
use Rattle.json.specs.Json.{Json, number, string}
use Rattle.json.specs.Print.{print}
use Rattle.json.specs.Tree.{json_tokens}
use Rattle.arrow_values.specs.Tree.{Text}
use Rattle.column_check.specs.Severities.{severity_text}
use Rattle.column_reports.specs.Codes.{word_of}
use Rattle.column_reports.specs.Found.{code_in, column_in, path_in, part_in, pointer_in, byte_in, found_in, expected_in, help_in}
use Rattle.column_reports.specs.Objects.{array_of, object_of, string_if, number_if}
use Rattle.column_reports.specs.declared.finding.Finding.{Finding}
use Rattle.column_reports.specs.declared.weighed.Weighed.{Weighed}

-- what the object is, where it is a line; how much it counts, the rule and the file
abbrev pub rule_members : Option Text → Option Text → Weighed → List (Text × Json)
rule_members kind file w =
    string_if (codes "kind") kind
    ++ string_if (codes "severity") (Some (severity_text w.severity))
    ++ string_if (codes "code") (Some (word_of (code_in w.finding)))
    ++ string_if (codes "file") file

-- the names of child fields, if there are any
abbrev pub path_if : List Text → List (Text × Json)
path_if [] = []
path_if (name ∷ names) = (codes "path", array_of (map string (name ∷ names))) ∷ []

-- the place
abbrev pub place_members : Finding → List (Text × Json)
place_members f =
    string_if (codes "column") (column_in f)
    ++ path_if (path_in f)
    ++ string_if (codes "in") (part_in f)
    ++ string_if (codes "pointer") (pointer_in f)
    ++ number_if (codes "byte") (byte_in f)

-- how many more there are, if there are any
abbrev pub more_if : ℕ → List (Text × Json)
more_if more = if more == 0 then [] else (codes "more", number (decimal more)) ∷ []

-- what stands there, what is expected, what helps, and how many more there are
abbrev pub words_members : Weighed → List (Text × Json)
words_members w =
    string_if (codes "found") (found_in w.finding)
    ++ string_if (codes "expected") (Some (expected_in w.finding))
    ++ string_if (codes "help") (help_in w.finding)
    ++ more_if w.more

-- a finding: an object of these
abbrev pub finding_value : Option Text → Option Text → Weighed → Json
finding_value kind file w = object_of (rule_members kind file w ++ place_members w.finding ++ words_members w)

-- of a column of which something is found: all of it that is shown
abbrev pub findings_in : List Weighed → Option Json
findings_in [] = None
findings_in (f ∷ fs) = Some (array_of (map (finding_value None None) (f ∷ fs)))

-- ---- lines

abbrev pub finding_text : Option Text → Weighed → Text
finding_text file f = print (json_tokens (finding_value (Some (codes "finding")) file f))

-- the line with its line feed
abbrev pub shown_text : Option Text → Weighed → Text
shown_text file f = finding_text file f ++ 10 ∷ []

abbrev pub findings_text : Option Text → List Weighed → Text
findings_text file fs = flat_map (shown_text file) fs
