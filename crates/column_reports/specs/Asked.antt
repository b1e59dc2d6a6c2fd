-- What is asked of a file and not met (docs/FORMAT.md, 2.7): the words of each code.
use Rattle.std.specs.Prelude.{codes}
use Rattle.arrow_values.specs.Tree.{Text}
use Rattle.column_reports.specs.declared.asked.AskedCode.{AskedCode}
use Rattle.column_reports.specs.declared.asked.AskedCode.TheVariants.{Expect, NoGeometry}

abbrev pub word_of : AskedCode → Text
word_of Expect = codes "Expect"
word_of NoGeometry = codes "NoGeometry"

-- when it is found
abbrev pub rule_of : AskedCode → Text
rule_of Expect = codes "a column does not hold what is expected of it, or is not there"
rule_of NoGeometry = codes "no column holds geometries, where one is required"

-- what is expected, and what helps
abbrev pub expected_of : AskedCode → Text
expected_of Expect = codes "what --expect says of the column"
expected_of NoGeometry = codes "a column of geometries"

abbrev pub help_of : AskedCode → Text
help_of Expect = codes "The first part that the column does not have is named."
help_of NoGeometry = codes "With --infer columns count whose types tell geometries, too."

-- in which part of a file it is found
abbrev pub part_of : AskedCode → Text
part_of Expect = codes "arguments"
part_of NoGeometry = codes "file"
