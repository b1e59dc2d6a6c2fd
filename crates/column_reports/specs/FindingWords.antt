-- What is found, in words (docs/FORMAT.md, 5.1).
use Rattle.std.specs.Prelude.{ℕ, List, [], ◌∷◌, ◌++◌, codes, decimal, zero, suc, Option, None, Some}
use Rattle.std.specs.List.{join_by}
use Rattle.arrow_values.specs.Tree.{Text}
use Rattle.column_check.specs.Severities.{severity_text}
use Rattle.column_reports.specs.Codes.{word_of}
use Rattle.column_reports.specs.Found.{code_in, column_in, path_in, part_in, pointer_in, byte_in, found_in, expected_in, help_in}
use Rattle.column_reports.specs.declared.finding.Finding.{Finding}
use Rattle.column_reports.specs.declared.weighed.Weighed.{Weighed}

-- ---- the parts of a place, each if it applies

-- one, if it is there
abbrev pub each : Option Text → List Text
each None = []
each (Some part) = part ∷ []

abbrev pub column_words : Option Text → Option Text
column_words None = None
column_words (Some name) = Some (codes "column " ++ name)

-- the names of child fields, with dots between them
abbrev pub path_words : List Text → Option Text
path_words [] = None
path_words (name ∷ names) = Some (codes "at " ++ join_by (λ part. part) (codes ".") (name ∷ names))

-- the part, and behind it the pointer, unless it is that of the whole
abbrev pub pointed : Text → Option Text → Text
pointed part None = part
pointed part (Some []) = part
pointed part (Some (c ∷ cs)) = part ++ (codes " " ++ (c ∷ cs))

abbrev pub part_words : Option Text → Option Text → Option Text
part_words None pointer = None
part_words (Some part) pointer = Some (pointed part pointer)

abbrev pub byte_words : Option ℕ → Option Text
byte_words None = None
byte_words (Some byte) = Some (codes "byte " ++ decimal byte)

abbrev pub more_words : ℕ → Option Text
more_words zero = None
more_words (suc n) = Some (codes "and " ++ (decimal (suc n) ++ codes " more"))

abbrev pub place_parts : Weighed → List Text
place_parts w =
    each (column_words (column_in w.finding))
    ++ each (path_words (path_in w.finding))
    ++ each (part_words (part_in w.finding) (pointer_in w.finding))
    ++ each (byte_words (byte_in w.finding))
    ++ each (more_words w.more)

-- these behind a blank, with commas between them
abbrev pub placed : List Text → Text
placed [] = []
placed (part ∷ parts) = codes " " ++ join_by (λ p. p) (codes ", ") (part ∷ parts)

-- ---- what is said

-- a text between two others, if there is one
abbrev pub around : Text → Option Text → Text → Text
around before None behind = []
around before (Some text) behind = before ++ (text ++ behind)

-- what stands there, what is expected, and what helps
abbrev pub said_words : Finding → Text
said_words f = around (codes "found ") (found_in f) (codes "; ") ++ (codes "expected " ++ (expected_in f ++ around (codes ". ") (help_in f) []))

-- a finding: how much it counts and the code, the place, and what is said
abbrev pub finding_words : Weighed → Text
finding_words w =
    severity_text w.severity
    ++ (codes "[" ++ (word_of (code_in w.finding) ++ (codes "]" ++ (placed (place_parts w) ++ (codes ": " ++ said_words w.finding)))))
