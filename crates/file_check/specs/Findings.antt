-- What is found of a file, in words.
use Rattle.std.specs.Prelude.{List, ◌++◌, codes, flat_map}
use Rattle.arrow_values.specs.Tree.{Text}
use Rattle.column_reports.specs.FindingWords.{finding_words}
use Rattle.column_reports.specs.declared.weighed.Weighed.{Weighed}
use Rattle.file_check.specs.Shown.{shown}

-- the line of a finding
abbrev pub finding_line : Weighed → Text
finding_line f = shown (finding_words f) ++ codes "\n"

-- the lines of all that is found
abbrev pub findings_text : List Weighed → Text
findings_text fs = flat_map finding_line fs
