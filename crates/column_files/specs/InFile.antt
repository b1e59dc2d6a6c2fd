-- What is found in the footer of a Parquet file, as it is told of the file: the bytes of the footer are counted in the file.
use Rattle.std.specs.Prelude.{ℕ, ◌+◌, ◌-◌, ◌^◌, min, List, map, option_map}
use Rattle.parquet_columns.specs.Findings.{Finding}
use Rattle.parquet_columns.specs.declared.code.FilePart.{FilePart}
use Rattle.parquet_columns.specs.declared.code.FilePart.TheVariants.{Footer, Elements}
use Rattle.parquet_columns.specs.declared.finding.FilePlace.{FilePlace}
use Rattle.parquet_footer.specs.Findings as texts
use Rattle.parquet_footer.specs.Spelled.{Spelled}

-- the byte of the file at a byte of its footer, which begins there; no number is greater than `usize::MAX`
abbrev pub byte_in_file : ℕ → ℕ → ℕ
byte_in_file begin at = min (begin + at) (2 ^ 64 - 1)

-- of its parts the elements stand in the footer; what is decoded, as the schema at `ARROW:schema`, is counted in itself
abbrev pub byte_of_part : FilePart → ℕ → ℕ → ℕ
byte_of_part Footer begin at = byte_in_file begin at
byte_of_part Elements begin at = byte_in_file begin at
byte_of_part part begin at = at

abbrev pub place_in_file : ℕ → FilePlace → FilePlace
place_in_file begin p = record { part = p.part; byte = option_map (byte_of_part p.part begin) p.byte }

abbrev pub finding_in_file : ℕ → Finding → Finding
finding_in_file begin f = record { code = f.code; column = f.column; path = f.path; place = place_in_file begin f.place; found = f.found; wanted = f.wanted }

abbrev pub findings_in_file : ℕ → List Finding → List Finding
findings_in_file begin fs = map (finding_in_file begin) fs

-- texts of the footer
abbrev pub spelled_in_file : ℕ → Spelled → Spelled
spelled_in_file begin t = record { bytes = t.bytes; byte = byte_in_file begin t.byte }

abbrev pub text_in_file : ℕ → texts.Finding → texts.Finding
text_in_file begin f = record { code = f.code; text = spelled_in_file begin f.text }

abbrev pub texts_in_file : ℕ → List texts.Finding → List texts.Finding
texts_in_file begin fs = map (text_in_file begin) fs
