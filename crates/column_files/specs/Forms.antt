-- In which format a file is, by its first bytes.
use Rattle.std.specs.Prelude.{◌≡◌, ◌++◌, ◌==◌, ◌||◌, ◌&&◌, not, Bool, ℕ, List, [], ◌∷◌, length, take, drop, map, get_or, is_none, Option, None, Some, if◌then◌else◌, codes}
use Rattle.std.specs.Str.{bytes_eq}
use Rattle.std.specs.List.{list_any}
use Rattle.std.specs.Char.{is_ascii_alphabetic, to_ascii_lowercase}
use Rattle.std.specs.Str.Lossy.{utf8_valid_len, utf8_error_len}
use Rattle.column_files.specs.declared.form.Form.{Form}
use Rattle.column_files.specs.declared.form.Form.TheVariants.{ArrowFile, ArrowStream, Parquet, Lines, Foreign as OfOther}
use Rattle.column_files.specs.declared.foreign.Foreign.TheVariants.{Feather, Sqlite, FlatGeobuf, Shapefile, Gzip, Zstd, Bzip2, Xz, Zip, Orc, Avro, DuckDb, Hdf5, NetCdf, Tiff, Pdf, PmTiles, Utf16, JsonArray, LfsPointer, Html, Xml, Text, Unknown}

-- how many of a file's first bytes tell its format
abbrev pub head_bytes : ℕ
head_bytes = 64

-- ---- bytes that tell a format, whatever stands around them

-- where they stand, what they are, and the format
abbrev pub Row : Type 0
Row = ℕ × (List ℕ × Form)

-- the table: the first row that fits tells the format
abbrev pub rows : List Row
rows =
    (0, (codes "PAR1", Parquet))
    ∷ (0, (codes "PARE", Parquet))
    ∷ (0, (codes "ARROW1", ArrowFile))
    ∷ (0, (255 ∷ 255 ∷ 255 ∷ 255 ∷ [], ArrowStream))
    ∷ (0, (codes "FEA1", OfOther Feather))
    ∷ (0, (codes "SQLite format 3" ++ (0 ∷ []), OfOther Sqlite))
    ∷ (0, (codes "fgb" ++ (3 ∷ []), OfOther FlatGeobuf))
    ∷ (0, (0 ∷ 0 ∷ 0x27 ∷ 0x0A ∷ [], OfOther Shapefile))
    ∷ (0, (0x1F ∷ 0x8B ∷ [], OfOther Gzip))
    ∷ (0, (0x28 ∷ 0xB5 ∷ 0x2F ∷ 0xFD ∷ [], OfOther Zstd))
    ∷ (0, (codes "BZh", OfOther Bzip2))
    ∷ (0, (0xFD ∷ (codes "7zXZ" ++ (0 ∷ [])), OfOther Xz))
    ∷ (0, (codes "PK" ++ (3 ∷ 4 ∷ []), OfOther Zip))
    ∷ (0, (codes "ORC", OfOther Orc))
    ∷ (0, (codes "Obj" ++ (1 ∷ []), OfOther Avro))
    ∷ (0, (0x89 ∷ codes "HDF", OfOther Hdf5))
    ∷ (0, (codes "CDF" ++ (1 ∷ []), OfOther NetCdf))
    ∷ (0, (codes "CDF" ++ (2 ∷ []), OfOther NetCdf))
    ∷ (0, (codes "CDF" ++ (5 ∷ []), OfOther NetCdf))
    ∷ (0, (codes "II*" ++ (0 ∷ []), OfOther Tiff))
    ∷ (0, (codes "MM" ++ (0 ∷ codes "*"), OfOther Tiff))
    ∷ (0, (codes "%PDF", OfOther Pdf))
    ∷ (0, (codes "PMTiles", OfOther PmTiles))
    ∷ (0, (0xFF ∷ 0xFE ∷ [], OfOther Utf16))
    ∷ (0, (0xFE ∷ 0xFF ∷ [], OfOther Utf16))
    ∷ []

-- the front stands in the bytes from a place on
abbrev pub stands : ℕ → List ℕ → List ℕ → Bool
stands at front bytes = bytes_eq front (take (length front) (drop at bytes))

abbrev pub first_row : List Row → List ℕ → Option Form
first_row [] bytes = None
first_row (row ∷ rest) bytes = if stands row.0 row.1.0 bytes then Some row.1.1 else first_row rest bytes

-- ---- text

-- a blank is a space, a tab, a carriage return or a line feed
abbrev pub is_blank_code : ℕ → Bool
is_blank_code code = (code == 32) || ((code == 9) || ((code == 13) || (code == 10)))

abbrev pub behind_blanks : List ℕ → List ℕ
behind_blanks [] = []
behind_blanks (code ∷ rest) = if is_blank_code code then behind_blanks rest else code ∷ rest

-- the byte order mark at the begin is passed over
abbrev pub mark : List ℕ
mark = 0xEF ∷ 0xBB ∷ 0xBF ∷ []

abbrev pub is_marked : List ℕ → Bool
is_marked text = bytes_eq mark (take 3 text)

abbrev pub mark_len : List ℕ → ℕ
mark_len text = if is_marked text then 3 else 0

abbrev pub unmarked : List ℕ → List ℕ
unmarked text = drop (mark_len text) text

-- what a text begins with behind its blanks, in letters of any case, and the format
abbrev pub TextRow : Type 0
TextRow = List ℕ × Form

abbrev pub text_rows : List TextRow
text_rows =
    (codes "{", Lines)
    ∷ (codes "[", OfOther JsonArray)
    ∷ (codes "version https://git-lfs", OfOther LfsPointer)
    ∷ (codes "<!doctype", OfOther Html)
    ∷ (codes "<html", OfOther Html)
    ∷ (codes "<?xml", OfOther Xml)
    ∷ []

abbrev pub begins : List ℕ → List ℕ → Bool
begins front text = bytes_eq (map to_ascii_lowercase front) (map to_ascii_lowercase (take (length front) text))

abbrev pub first_text : List TextRow → List ℕ → Option Form
first_text [] text = None
first_text (row ∷ rest) text = if begins row.0 text then Some row.1 else first_text rest text

-- `<` and a letter
abbrev pub is_tag : List ℕ → Bool
is_tag text = (get_or text 0 0 == 60) && is_ascii_alphabetic (get_or text 1 0)

-- UTF-8, but for a character that is cut at the end, and no byte 0
abbrev pub is_words : List ℕ → Bool
is_words text = not (list_any (λ b. b == 0) text) && is_none (utf8_error_len (drop (utf8_valid_len text) text))

abbrev pub other_text : List ℕ → Form
other_text text = if is_tag text then OfOther Xml else (if is_words text then OfOther Text else OfOther Unknown)

-- the first row that fits; no text at all is lines
abbrev pub form_by : Option Form → List ℕ → Form
form_by (Some form) text = form
form_by None text = other_text text

abbrev pub text_form : List ℕ → Form
text_form [] = Lines
text_form (code ∷ rest) = form_by (first_text text_rows (code ∷ rest)) (code ∷ rest)

-- ---- the format

-- the word of DuckDB stands behind eight bytes, which may be any; so in a text it tells nothing
abbrev pub is_duck : List ℕ → Bool
is_duck head = stands 8 (codes "DUCK") head && not (is_words head)

-- an Arrow stream without the marker, as written before version 0.15: its first message has less than 2^24 bytes, and more than none, and the table of the
-- message stands less than 256 bytes behind its begin
abbrev pub is_unmarked_stream : List ℕ → Bool
is_unmarked_stream head = not (stands 0 (0 ∷ 0 ∷ 0 ∷ []) head) && (stands 3 (0 ∷ []) head && stands 5 (0 ∷ 0 ∷ 0 ∷ []) head)

abbrev pub form_or_text : Option Form → List ℕ → Form
form_or_text (Some form) head = form
form_or_text None head =
    if is_duck head then OfOther DuckDb else (if is_unmarked_stream head then ArrowStream else text_form (behind_blanks (unmarked head)))

abbrev pub head_form : List ℕ → Form
head_form head = form_or_text (first_row rows head) head

abbrev pub IsForm : List ℕ → Form → Type 0
IsForm bytes form = form ≡ head_form (take head_bytes bytes)
