-- Which columns the bytes of a file denote, with all that is read of it beside them; or why they denote none.
use Rattle.std.specs.Prelude.{◌≡◌, ◌≢◌, ◌⊎◌, ℕ, ◌+◌, ◌-◌, ◌^◌, ◌≤◌, min, nat_lt, Bool, true, false, List, [], ◌∷◌, ◌++◌, length, map, Option, option_map, string_bytes, if◌then◌else◌, Result, Ok, Err, ⊤}
use Rattle.arrow_values.specs.Tree.{Text as Words}
use Rattle.arrow_values.specs.Texts.{text_at}
use Rattle.arrow_values.specs.View.{texts_of}
use Rattle.arrow_columns.specs.Column.{column_tree}
use Rattle.arrow_columns.specs.Types.{ColumnTree}
use Rattle.arrow_columns.specs.declared.column.SchemaColumn.{SchemaColumn}
use Rattle.arrow_ipc.specs.Schema.{SchemaTree, Meets, message_in, footer_in, schema_of_message, schema_of_footer}
use Rattle.arrow_ipc.specs.Entries.{EntriesTree, AreEntries, entries_tree, entries_of_message, entries_of_footer}
use Rattle.arrow_ipc.specs.declared.entries.SchemaEntries.{SchemaEntries}
use Rattle.arrow_ipc.specs.declared.fault.IpcFault.{IpcFault}
use Rattle.arrow_ipc.specs.declared.fault.IpcError.{IpcError}
use Rattle.arrow_ipc.specs.declared.fault.IpcError.TheVariants.{Broken, Budget, OutOfMemory as IpcOutOfMemory}
use Rattle.arrow_ipc.specs.declared.schema.Schema.{Schema}
use Rattle.std.specs.declared.vec.Vec.{Vec}
use Rattle.std.specs.declared.alloc.Global.{Global}
use Rattle.column_files.specs.Forms.{IsForm, unmarked}
use Rattle.column_files.specs.ForeignFound.{foreign_found}
use Rattle.column_files.specs.Endings.{End, size_in, last, file_size, tail_of, arrow_footer_size, parquet_footer_size, message_begin, message_end, cut_message}
use Rattle.column_files.specs.Ends.{IsEndFault}
use Rattle.column_files.specs.InFile.{byte_in_file, findings_in_file, texts_in_file, spelled_in_file}
use Rattle.column_files.specs.LineFaults.{later_fault}
use Rattle.column_files.specs.LineFindings.{lines_findings}
use Rattle.column_files.specs.LineItems.{LineItem, LinesGive, bad_in, refuses_file, are_refused, AreKept, IsOfItems}
use Rattle.column_files.specs.Geo.{Geo, absent, geo_of, of_footer, of_schema}
use Rattle.column_files.specs.declared.bad_lines.BadLine.{BadLine}
use Rattle.column_files.specs.declared.foreign.Foreign.{Foreign as Format}
use Rattle.column_files.specs.declared.form.Form.{Form}
use Rattle.column_files.specs.declared.form.Form.TheVariants.{ArrowFile, ArrowStream, Parquet, Lines, Foreign}
use Rattle.column_files.specs.declared.columns.FileFault.{FileFault}
use Rattle.column_files.specs.declared.columns.FileFault.TheVariants.{NoField, Empty, Foreign as ForeignFault, ReportTooLarge, Ipc, Footer as FooterFault, Tree, OutOfMemory}
use Rattle.column_files.specs.declared.ending.Ending.{Ending}
use Rattle.column_files.specs.declared.ending.Ending.TheVariants as endings
use Rattle.column_files.specs.declared.line.LineFault.{LineFault}
use Rattle.column_files.specs.declared.lines.LinesRead.{LinesRead}
use Rattle.column_files.specs.declared.opening.File.{File}
use Rattle.parquet_columns.specs.Reads as parquet
use Rattle.parquet_columns.specs.Findings.{Finding, finding, geo_key}
use Rattle.parquet_columns.specs.Entries.{repeated_entries}
use Rattle.parquet_columns.specs.declared.code.FilePart.TheVariants.{Field}
use Rattle.parquet_columns.specs.Invalid.{byte_at}
use Rattle.parquet_columns.specs.declared.error.SchemaError.{SchemaError}
use Rattle.parquet_columns.specs.declared.error.SchemaError.TheVariants as schemas
use Rattle.parquet_columns.specs.declared.fault.ElementFault.{ElementFault}
use Rattle.parquet_columns.specs.declared.footer.FooterColumns.{FooterColumns}
use Rattle.parquet_footer.specs.Findings.{Finding as TextFinding, finding as text_finding}
use Rattle.parquet_footer.specs.Footer.{Contents, footer_at as contents_at}
use Rattle.parquet_footer.specs.declared.fault.FooterError.TheVariants.{Invalid}
use Rattle.parquet_footer.specs.Spelled.{Spelled}

-- no elements say or refute anything, as in each file but a Parquet file
abbrev pub HasNoElements : File → Type 0
HasNoElements file = (file.elements.items ≡ []) × (file.texts.items ≡ []) × (file.refuted.items ≡ [])

-- no line is bad, as in each file but one of lines
abbrev pub HasNoBadLines : File → Type 0
HasNoBadLines file = AreKept [] file.bad_lines

-- ---- lines

-- a bad line behind so many lines
abbrev pub bad_line : ℕ → LineFault → BadLine
bad_line n fault = record { before = n; fault = fault }

-- what is read of all lines: what they give; or the first that is not blank refuses the file, and why
abbrev pub AreUnmarkedRead : List ℕ → Result LinesRead FileFault → Type 0
AreUnmarkedRead text (Ok read) = (items : List LineItem) × LinesGive text items [] × IsOfItems items read
AreUnmarkedRead text (Err (NoField n fault)) = (rest : List ℕ) × LinesGive text (Err (bad_line n fault) ∷ []) rest × (refuses_file fault ≡ true)
AreUnmarkedRead text (Err OutOfMemory) = ⊤
AreUnmarkedRead text (Err fault) = ⊥

-- the byte order mark before them is passed over
abbrev pub AreAllRead : List ℕ → Result LinesRead FileFault → Type 0
AreAllRead text r = AreUnmarkedRead (unmarked text) r

-- why a bad line among these is told: its fault, where it is the first of all and refuses a file; else that of a later line
abbrev pub told_among : List LineItem → LineFault → LineFault
told_among items fault = if are_refused items then fault else later_fault fault

-- what is read of lines each of which is to be a column: the columns, where all lines that are not blank denote one; or the first that denotes none, and why
abbrev pub AreLinesRead : List ℕ → Result (Vec SchemaColumn Global) FileFault → Type 0
AreLinesRead text (Ok columns) = LinesGive (unmarked text) (map Ok (map column_tree columns.items)) []
AreLinesRead text (Err (NoField n fault)) =
    (items : List LineItem) × (rest : List ℕ) × (others : List BadLine) × (first : LineFault) × LinesGive (unmarked text) items rest
    × (bad_in items ≡ bad_line n first ∷ others) × (fault ≡ told_among items first)
AreLinesRead text (Err OutOfMemory) = ⊤
AreLinesRead text (Err fault) = ⊥

-- what is read of a file of lines: its columns and bad lines, of which there are some, with what is found of its first bytes; or that it has neither; or its
-- first line that is not blank refuses it
abbrev pub lines_read : File → LinesRead
lines_read file = record { columns = file.columns; bad_lines = file.bad_lines }

abbrev pub IsOfLines : List ℕ → Result File FileFault → Type 0
IsOfLines text (Ok file) =
    AreAllRead text (Ok (lines_read file)) × ((file.columns.items ≢ []) ⊎ (file.bad_lines.first.items ≢ [])) × HasNoElements file
    × (map finding file.findings.items ≡ lines_findings text) × (geo_of file.geo ≡ absent)
IsOfLines text (Err Empty) = LinesGive (unmarked text) [] []
IsOfLines text (Err fault) = AreAllRead text (Err fault)

-- ---- schemas

-- what is read of a schema: its columns, and the text at the key `geo` of its metadata
abbrev pub IsOfSchema : Schema → File → Type 0
IsOfSchema s file =
    (file.columns ≡ s.columns) × (geo_of file.geo ≡ of_schema (text_at geo_key (texts_of s.metadata.entries))) × HasNoElements file × HasNoBadLines file

-- what is found of keys that stand several times in the metadata of columns, and of the schema, by their entries; nothing where these are not read
abbrev pub IsRepeatedIn : List ColumnTree → Result SchemaEntries IpcError → List Finding → Type 0
IsRepeatedIn cs (Ok e) fs = fs ≡ repeated_entries Field cs (entries_tree e)
IsRepeatedIn cs (Err IpcOutOfMemory) fs = ⊥
IsRepeatedIn cs (Err error) fs = fs ≡ []

-- and where a flatbuffer holds the entries
abbrev pub AreRepeated : Result (List ℕ) IpcFault → (List ℕ → Result (EntriesTree × ℕ) IpcFault) → List ColumnTree → List Finding → Type 0
AreRepeated found entries cs fs = (read : Result SchemaEntries IpcError) × AreEntries found entries read × IsRepeatedIn cs read fs

-- a refusal whose place is so many bytes further on; no number is greater than `usize::MAX`
abbrev pub further : ℕ → IpcError → IpcError
further n (Broken fault) = Broken (record { rule = fault.rule; at = min (n + fault.at) (2 ^ 64 - 1) })
further n (Budget at) = Budget (min (n + at) (2 ^ 64 - 1))
further n IpcOutOfMemory = IpcOutOfMemory

-- what is read where a flatbuffer that begins there holds a schema: that of the schema, with what is found of it; or how it is refused, with the byte of the file
abbrev pub IsSchemaRead : ℕ → Result (List ℕ) IpcFault → (List ℕ → Result (SchemaTree × ℕ) IpcFault) → (List ℕ → Result (EntriesTree × ℕ) IpcFault) → Result File FileFault → Type 0
IsSchemaRead begin found read entries (Ok file) =
    (s : Schema) × Meets found read (Ok s) × IsOfSchema s file × AreRepeated found entries (map column_tree file.columns.items) (map finding file.findings.items)
IsSchemaRead begin found read entries (Err (Ipc error)) = (inner : IpcError) × Meets found read (Err inner) × (error ≡ further begin inner)
IsSchemaRead begin found read entries (Err OutOfMemory) = ⊤
IsSchemaRead begin found read entries (Err fault) = ⊥

-- the file is refused by its end
abbrev pub IsRefusedByEnd : End → Result File FileFault → Type 0
IsRefusedByEnd e (Ok file) = ⊥
IsRefusedByEnd e (Err fault) = IsEndFault e fault

-- ---- Arrow streams

-- where a message begins from which bytes are counted; where there is none, as at the end of the stream, the bytes of the stream are
abbrev pub counted_from : ℕ → Result (List ℕ) IpcFault → ℕ
counted_from begin (Ok message) = begin
counted_from begin (Err fault) = 0

abbrev pub IsMessageBy : ℕ → Result (List ℕ) IpcFault → Result File FileFault → Type 0
IsMessageBy begin message r = IsSchemaRead (counted_from begin message) message (schema_of_message 61) entries_of_message r

abbrev pub IsMessageRead : List ℕ → Result File FileFault → Type 0
IsMessageRead bytes r = IsMessageBy (message_begin bytes) (message_in bytes) r

-- what is read of a stream, whose first message is cut off or not
abbrev pub IsStreamBy : Bool → List ℕ → Result File FileFault → Type 0
IsStreamBy true bytes r = IsRefusedByEnd (cut_message bytes) r
IsStreamBy false bytes r = IsMessageRead bytes r

abbrev pub IsStreamRead : List ℕ → Result File FileFault → Type 0
IsStreamRead bytes r = IsStreamBy (nat_lt (length bytes) (message_end bytes)) bytes r

-- ---- Arrow files

-- where the footer of that size begins in a file of that size
abbrev pub footer_begin : Ending → ℕ → ℕ → ℕ
footer_begin e size told = size - tail_of e - told

abbrev pub IsArrowBy : ℕ → List ℕ → Result ℕ End → Result File FileFault → Type 0
IsArrowBy size bytes (Ok told) r = IsSchemaRead (footer_begin endings.Arrow size told) (footer_in bytes) (schema_of_footer 61) entries_of_footer r
IsArrowBy size bytes (Err e) r = IsRefusedByEnd e r

-- what is read of an Arrow file of that size, whose end these bytes are
abbrev pub IsArrowRead : ℕ → List ℕ → Result File FileFault → Type 0
IsArrowRead size bytes r = IsArrowBy size bytes (arrow_footer_size size bytes) r

-- ---- Parquet files

-- what stands at the key `geo` by the value of the key in that footer, which begins there
abbrev pub HasGeo : ℕ → Result (List ℕ) SchemaError → Geo → Type 0
HasGeo begin footer geo = (value : Option Spelled) × parquet.IsValueRead geo_key footer value × (geo ≡ of_footer (option_map (spelled_in_file begin) value))

-- what is found of texts of that footer, which begins there
abbrev pub AreTextsRead : ℕ → Result (List ℕ) SchemaError → List TextFinding → Type 0
AreTextsRead begin footer told = (found : List TextFinding) × parquet.AreTextsRead footer found × (told ≡ texts_in_file begin found)

-- the columns of a file, what their elements say, and what is found of them, are those that a footer gives which begins there
abbrev pub IsOfFooter : ℕ → FooterColumns → File → Type 0
IsOfFooter begin read file =
    (file.columns ≡ read.columns) × (file.elements ≡ read.elements) × (file.refuted ≡ read.refuted)
    × (map finding file.findings.items ≡ findings_in_file begin (map finding read.findings.items))

-- the elements of a footer that begins there make no tree, as that one says: the byte of the file at which it begins, if there is one
abbrev pub IsTreeFault : ℕ → Result (List ℕ) SchemaError → ElementFault → FileFault → Type 0
IsTreeFault begin footer fault (Tree rule byte) =
    (bytes : List ℕ) × (c : Contents) × (footer ≡ Ok bytes) × (contents_at bytes ≡ Ok c) × (rule ≡ fault.rule)
    × (byte ≡ option_map (byte_in_file begin) (byte_at c.schema fault.at))
IsTreeFault begin footer fault OutOfMemory = ⊤
IsTreeFault begin footer fault _ = ⊥

-- how a footer that begins there is refused
abbrev pub IsFooterFault : ℕ → Result (List ℕ) SchemaError → SchemaError → FileFault → Type 0
IsFooterFault begin footer (schemas.Footer (Invalid rule at)) fault = fault ≡ FooterFault rule (byte_in_file begin at)
IsFooterFault begin footer (schemas.Elements broken) fault = IsTreeFault begin footer broken fault
IsFooterFault begin footer schemas.Budget fault = fault ≡ ReportTooLarge
IsFooterFault begin footer error fault = fault ≡ OutOfMemory

-- what is read of a Parquet file with that footer, which begins there: its columns and elements, all that is found, and the value of the key `geo`; or how it
-- is refused
abbrev pub IsFooterRead : ℕ → Result (List ℕ) SchemaError → Result File FileFault → Type 0
IsFooterRead begin footer (Ok file) =
    (read : FooterColumns) × parquet.IsFileRead footer (Ok read) × IsOfFooter begin read file × AreTextsRead begin footer (map text_finding file.texts.items)
    × HasGeo begin footer (geo_of file.geo) × HasNoBadLines file
IsFooterRead begin footer (Err OutOfMemory) = ⊤
IsFooterRead begin footer (Err fault) = (error : SchemaError) × parquet.IsFileRead footer (Err error) × IsFooterFault begin footer error fault

abbrev pub IsParquetBy : ℕ → List ℕ → Result ℕ End → Result File FileFault → Type 0
IsParquetBy size bytes (Ok told) r = IsFooterRead (footer_begin endings.Parquet size told) (parquet.footer_in bytes) r
IsParquetBy size bytes (Err e) r = IsRefusedByEnd e r

-- what is read of a Parquet file of that size, whose end these bytes are
abbrev pub IsParquetRead : ℕ → List ℕ → Result File FileFault → Type 0
IsParquetRead size bytes r = IsParquetBy size bytes (parquet_footer_size size bytes) r

-- ---- formats that are not read

-- what is read of a file of that format in which that is found, where more is said than the name of the format
abbrev pub IsForeign : Format → Option Words → FileFault → Type 0
IsForeign foreign more (ForeignFault it found) = (it ≡ foreign) × (option_map string_bytes found ≡ more)
IsForeign foreign more OutOfMemory = ⊤
IsForeign foreign more fault = ⊥

abbrev pub IsForeignRead : Format → Option Words → Result File FileFault → Type 0
IsForeignRead foreign more (Ok file) = ⊥
IsForeignRead foreign more (Err fault) = IsForeign foreign more fault

-- ---- files

-- what is read of the bytes of a file in that format
abbrev pub IsFileRead : Form → List ℕ → Result File FileFault → Type 0
IsFileRead ArrowFile bytes r = IsArrowRead (file_size 0 bytes) bytes r
IsFileRead ArrowStream bytes r = IsStreamRead bytes r
IsFileRead Parquet bytes r = IsParquetRead (file_size 0 bytes) bytes r
IsFileRead Lines bytes r = IsOfLines bytes r
IsFileRead (Foreign foreign) bytes r = IsForeignRead foreign (foreign_found foreign bytes) r

-- the end of a file, before which so many bytes stand, has the footer whose size its last bytes tell, as many as `tail`; or it is the whole file
abbrev pub HasFooter : ℕ → ℕ → List ℕ → Type 0
HasFooter tail start end = (tail + size_in (last tail end) ≤ length end) ⊎ (start ≡ 0)

-- what is read of the end of a file in that format, before which so many bytes stand: of an Arrow or Parquet file what is read of the whole, whichever bytes
-- those are
abbrev pub IsWholeRead : Form → ℕ → ℕ → List ℕ → Result File FileFault → Type 0
IsWholeRead form tail start end r = (front : List ℕ) → length front ≡ start → HasFooter tail start end → IsFileRead form (front ++ end) r

abbrev pub IsEndRead : Form → ℕ → List ℕ → Result File FileFault → Type 0
IsEndRead ArrowFile start end r = IsWholeRead ArrowFile 10 start end r
IsEndRead Parquet start end r = IsWholeRead Parquet 8 start end r
IsEndRead form start end r = IsFileRead form end r

-- ---- opened files

-- what is opened of the bytes of a file: its format, which the first of them tell, and all that is read of it in that format; or why nothing is
abbrev pub IsOpened : List ℕ → Result File FileFault → Type 0
IsOpened bytes (Ok file) = IsForm bytes file.form × IsFileRead file.form bytes (Ok file)
IsOpened bytes (Err fault) = (form : Form) × IsForm bytes form × IsFileRead form bytes (Err fault)

-- what is opened of the end of a file in that format, before which so many bytes stand
abbrev pub IsEndOpened : Form → ℕ → List ℕ → Result File FileFault → Type 0
IsEndOpened form start end (Ok file) = (file.form ≡ form) × IsEndRead form start end (Ok file)
IsEndOpened form start end (Err fault) = IsEndRead form start end (Err fault)
