-- The findings of differences as lines of JSON (docs/FORMAT.md, 2.9 and 5.1).
use Rattle.std.specs.Prelude.{List, [], ◌∷◌, ◌++◌, codes, flat_map, Option, Some}
use Rattle.json.specs.Json.{Json}
use Rattle.json.specs.Print.{print}
use Rattle.json.specs.Tree.{json_tokens}
use Rattle.arrow_values.specs.Tree.{Text}
use Rattle.column_check.specs.Severities.{severity_text}
use Rattle.column_reports.specs.Objects.{object_of, string_if}
use Rattle.same_columns.specs.Unlike.{UnlikeOf, WordsOf, code_text}

-- what the object is, how much it counts, its code, the file, and the column
abbrev pub rule_members : Option Text → UnlikeOf → List (Text × Json)
rule_members file u =
    string_if (codes "kind") (Some (codes "finding"))
    ++ string_if (codes "severity") (Some (severity_text u.severity))
    ++ string_if (codes "code") (Some (code_text u.code))
    ++ string_if (codes "file") file
    ++ string_if (codes "column") (Some u.column)

-- what is found, what is expected, and what differs
abbrev pub words_members : WordsOf → List (Text × Json)
words_members w =
    string_if (codes "found") w.found
    ++ string_if (codes "expected") (Some w.expected)
    ++ string_if (codes "help") (Some w.help)

-- a finding: an object of these
abbrev pub unlike_value : Option Text → UnlikeOf → Json
unlike_value file u = object_of (rule_members file u ++ words_members u.words)

-- its line, without a line feed and with it, and the lines of some
abbrev pub unlike_line : Option Text → UnlikeOf → Text
unlike_line file u = print (json_tokens (unlike_value file u))

abbrev pub unlike_text : Option Text → UnlikeOf → Text
unlike_text file u = unlike_line file u ++ 10 ∷ []

abbrev pub unlike_lines : Option Text → List UnlikeOf → Text
unlike_lines file us = flat_map (unlike_text file) us
