-- What is found in a file of a format that is not read, where more is said than the name of the format (docs/FORMAT.md, 2.7).
use Rattle.std.specs.Prelude.{◌++◌, ◌&&◌, not, ℕ, nat_le, List, [], ◌∷◌, take, drop, flat_map, position, option_and_then, option_map, Option, Some, None, if◌then◌else◌, codes}
use Rattle.std.specs.Char.{is_ascii_alphanumeric, encode_utf8}
use Rattle.arrow_values.specs.Tree.{Text as Words}
use Rattle.hex.specs.Hex.{encode_lower}
use Rattle.column_files.specs.Forms.{stands}
use Rattle.column_files.specs.declared.foreign.Foreign.{Foreign}
use Rattle.column_files.specs.declared.foreign.Foreign.TheVariants.{Xml, Unknown}

-- how many of the first bytes tell it
abbrev pub looked_at : Foreign → ℕ
looked_at Xml = 1024
looked_at Unknown = 16
looked_at foreign = 0

-- ---- the code of an error page: letters and digits of ASCII, 1 to 40, between `<Code>` and `</Code>`

-- behind the first of these, where so many letters and digits stand
abbrev pub code_of : List ℕ → ℕ → Option Words
code_of text n = if (nat_le 1 n && nat_le n 40) && stands n (codes "</Code>") text then Some (take n text) else None

abbrev pub code_end : List ℕ → Option ℕ
code_end text = position (λ b. not (is_ascii_alphanumeric b)) text

abbrev pub code_behind : List ℕ → Option Words
code_behind text = option_and_then (code_of text) (code_end text)

abbrev pub code_at : List ℕ → Option Words
code_at text = if stands 0 (codes "<Code>") text then code_behind (drop 6 text) else None

-- in the first place where one stands so
abbrev pub first_code : Option Words → Option Words → Option Words
first_code (Some code) later = Some code
first_code None later = later

abbrev pub code_in : List ℕ → Option Words
code_in [] = None
code_in (b ∷ rest) = first_code (code_at (b ∷ rest)) (code_in rest)

-- ---- what is found

abbrev pub with_code : Words → Words
with_code code = codes "an XML document with the code " ++ flat_map encode_utf8 code

abbrev pub with_first : List ℕ → Words
with_first bytes = codes "bytes of no known format, which begin with " ++ encode_lower bytes

abbrev pub found_by : Foreign → List ℕ → Option Words
found_by Xml bytes = option_map with_code (code_in bytes)
found_by Unknown bytes = Some (with_first bytes)
found_by foreign bytes = None

abbrev pub foreign_found : Foreign → List ℕ → Option Words
foreign_found foreign bytes = found_by foreign (take (looked_at foreign) bytes)
