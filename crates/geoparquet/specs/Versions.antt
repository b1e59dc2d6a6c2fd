-- The version of GeoParquet by which metadata are judged (docs/FORMAT.md, 5).
use Rattle.std.specs.Prelude.{◌&&◌, ◌||◌, ◌==◌, Bool, true, false, not, List, [], ◌∷◌, ℕ, Option, None, Some, codes, bytes_eq, nat_lt, option_and_then, if◌then◌else◌}
use Rattle.std.specs.Bool.{nat_eq}
use Rattle.std.specs.List.{starts_with}
use Rattle.json.specs.Json.{Json}
use Rattle.json.specs.Find.{get, as_str}
use Rattle.arrow_values.specs.Tree.{Text}
use Rattle.geoparquet.specs.Findings.{Finding}
use Rattle.geoparquet.specs.Rules.{found_at}
use Rattle.geoparquet.specs.declared.code.GeoCode.{GeoCode}
use Rattle.geoparquet.specs.declared.code.GeoCode.TheVariants.{OldVersion, NewVersion}
use Rattle.geoparquet.specs.declared.code.GeoCode.TheVariants.{Version as NoVersion}
use Rattle.geoparquet.specs.declared.finding.Version.{Version}
use Rattle.geoparquet.specs.declared.finding.Version.TheVariants.{Old, V1_0, V1_1, V2}
use Rattle.geoparquet.specs.declared.version.Judgement.{Judgement}

-- whether the rules of the values of a column's member are judged: not before 1.0.0
abbrev pub is_judged : Version → Bool
is_judged Old = false
is_judged V1_0 = true
is_judged V1_1 = true
is_judged V2 = true

-- ---- texts of versions

abbrev pub is_digit : ℕ → Bool
is_digit b = nat_lt 47 b && nat_lt b 58

-- what stands behind a digit, if one stands in front
abbrev pub behind_digit : Text → Text
behind_digit [] = []
behind_digit (b ∷ s) = if is_digit b then s else b ∷ s

-- what stands behind one to three digits
abbrev pub behind_number : Text → Option Text
behind_number [] = None
behind_number (b ∷ s) = if is_digit b then Some (behind_digit (behind_digit s)) else None

abbrev pub behind_point : Text → Option Text
behind_point [] = None
behind_point (b ∷ s) = if b == 46 then Some s else None

-- what stands behind three such numbers with points between them
abbrev pub behind_numbers : Text → Option Text
behind_numbers s =
    option_and_then behind_number (option_and_then behind_point
    (option_and_then behind_number (option_and_then behind_point (behind_number s))))

-- what stands behind a release: nothing, or a text that begins with `-` or `+`
abbrev pub is_suffix : Option Text → Bool
is_suffix None = false
is_suffix (Some []) = true
is_suffix (Some (b ∷ s)) = (b == 45) || (b == 43)

-- any suffix: nothing, or a text that begins with no digit
abbrev pub is_any_suffix : Option Text → Bool
is_any_suffix None = false
is_any_suffix (Some []) = true
is_any_suffix (Some (b ∷ s)) = not (is_digit b)

-- N.M.P with the suffix of a release, and with any suffix
abbrev pub is_release : Text → Bool
is_release s = is_suffix (behind_numbers s)

abbrev pub is_version : Text → Bool
is_version s = is_any_suffix (behind_numbers s)

abbrev pub begins : Text → Text → Bool
begins s front = starts_with nat_eq s front

-- ---- what a text, and metadata, are judged by

abbrev pub by : Version → Option GeoCode → Judgement
by version code = record { version = version; code = code }

-- 1.N.M with the suffix of a release: a pre-release of 1.0.0, or another
abbrev pub first_judged : Text → Judgement
first_judged s = if begins s (codes "1.0.0-") || begins s (codes "1.0.0+") then by V1_0 (Some NewVersion) else by V1_1 (Some NewVersion)

-- a version that is no release that is judged by its own rules: 0.N.M, 1.N.M, and N.M.P from 2 on
abbrev pub other_judged : Text → Judgement
other_judged s =
    if begins s (codes "0.") then by Old (Some OldVersion)
    else if begins s (codes "1.") then (if is_release s then first_judged s else by V1_1 (Some NoVersion))
    else if begins s (codes "0") then by V1_1 (Some NoVersion)
    else by V2 (Some NewVersion)

-- the text of a version
abbrev pub text_judged : Text → Judgement
text_judged s =
    if bytes_eq s (codes "1.0.0") then by V1_0 None
    else if bytes_eq s (codes "1.1.0") then by V1_1 None
    else if is_version s then other_judged s
    else by V1_1 (Some NoVersion)

-- metadata without a version: those of 0.x may have a text at `schema_version`
abbrev pub unversioned_judged : Option Text → Judgement
unversioned_judged (Some s) = by Old (Some OldVersion)
unversioned_judged None = by V1_1 (Some NoVersion)

abbrev pub value_judged : Option Text → Judgement
value_judged (Some s) = text_judged s
value_judged None = by V1_1 (Some NoVersion)

abbrev pub found_judged : Option Json → Option Json → Judgement
found_judged None schema_version = unversioned_judged (option_and_then as_str schema_version)
found_judged (Some j) schema_version = value_judged (as_str j)

-- metadata
abbrev pub judged : Json → Judgement
judged j = found_judged (get (codes "version") j) (get (codes "schema_version") j)

abbrev pub version_of : Json → Version
version_of j = (judged j).version

-- ---- what is found of the version

abbrev pub code_findings : Option GeoCode → Option Json → List Finding
code_findings None found = []
code_findings (Some code) found = found_at code None (codes "/version") found None ∷ []

abbrev pub version_findings : Json → List Finding
version_findings j = code_findings (judged j).code (get (codes "version") j)
