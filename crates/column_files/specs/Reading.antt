-- What is read of a source: its lines one after another, and the bytes that hold its schema.
use Rattle.std.specs.Prelude.{◌≡◌, ◌≢◌, ◌==◌, ℕ, ◌+◌, ◌-◌, ◌≤◌, ◌⊎◌, ◌↔◌, min, Bool, true, false, List, [], ◌∷◌, ◌++◌, length, drop, Option, Some, None, IfSome, if◌then◌else◌, Result, Ok, Err, ⊤}
use Rattle.std.specs.List.{All}
use Rattle.std.specs.Io.KnownBytes.{Consumes, IsAtEnd, prepend_known}
use Rattle.std.specs.IoError.{error_kind}
use Rattle.std.specs.declared.io.ErrorKind.TheVariants.{Interrupted}
use Rattle.line_reader.specs.Lines.{max_line_bytes, max_count, held, passed as passed_lines, HasNoFeed, IsLong}
use Rattle.line_reader.specs.Sources.{GivesUpTo}
use Rattle.arrow_columns.specs.Column.{column_tree}
use Rattle.arrow_columns.specs.declared.column.SchemaColumn.{SchemaColumn}
use Rattle.column_files.specs.Forms.{head_bytes}
use Rattle.column_files.specs.ForeignFound.{looked_at}
use Rattle.column_files.specs.Lines.{LinesTo}
use Rattle.column_files.specs.LineItems.{LineItem, AreItems}
use Rattle.column_files.specs.Endings.{message_end}
use Rattle.column_files.specs.Files.{bad_line, IsFileRead, HasFooter}
use Rattle.column_files.specs.declared.form.Form.{Form}
use Rattle.column_files.specs.declared.form.Form.TheVariants.{ArrowFile, ArrowStream, Parquet, Foreign}
use Rattle.column_files.specs.declared.columns.FileFault.{FileFault}
use Rattle.column_files.specs.declared.columns.FileFault.TheVariants.{NoField, Empty, OutOfMemory}
use Rattle.column_files.specs.declared.fault.ReadFault.{ReadFault}
use Rattle.column_files.specs.declared.fault.ReadFault.TheVariants.{Input, LongLine, File}
use Rattle.column_files.specs.declared.reading.LineColumns.{LineColumns}
use Rattle.column_files.specs.declared.opening.File.{File as OpenedFile}

-- ---- lines

-- what is read of the source and not yet answered
abbrev pub ahead : {R : Type 0} → LineColumns R → List ℕ
ahead r = held r.lines

-- how many lines are passed, blank ones too, which stops at the greatest `usize`; and whether one of them is not blank
abbrev pub passed : {R : Type 0} → LineColumns R → ℕ
passed r = passed_lines r.lines

abbrev pub has_item : {R : Type 0} → LineColumns R → Bool
has_item r = r.has_item

-- whether a byte order mark stands before the first
abbrev pub has_mark : {R : Type 0} → LineColumns R → Bool
has_mark r = r.is_marked

-- the text whose lines are left, where the bytes of the source are known
abbrev pub text_left : {R : Type 0} → (R → Option (List ℕ)) → LineColumns R → Option (List ℕ)
text_left remaining r = prepend_known (ahead r) (remaining r.source)

-- the known text goes over into the rest in this way
abbrev pub Goes : (List ℕ → List ℕ → Type 0) → Option (List ℕ) → Option (List ℕ) → Type 0
Goes Step None rest = ⊤
Goes Step (Some text) None = ⊥
Goes Step (Some text) (Some rest) = Step text rest

-- what a call answers of a line: its column, or that it is bad, and why
abbrev pub answered : Result (Option SchemaColumn) ReadFault → List LineItem
answered (Ok (Some column)) = Ok (column_tree column) ∷ []
answered (Err (File (NoField n fault))) = Err (bad_line n fault) ∷ []
answered r = []

-- what a call passes that leaves the known text old as new, after n lines and then after m: lines, none of them too long, that give the items answered
abbrev pub PassesLines : ℕ → ℕ → Option (List ℕ) → Option (List ℕ) → List LineItem → Type 0
PassesLines n m old new items =
    (lines : List (List ℕ)) × (m ≡ min (n + length lines) max_count) × All (λ line. length line ≤ max_line_bytes) lines × AreItems n lines items
    × Goes (λ text rest. LinesTo text lines rest) old new

-- what a call answers behind m lines, with the known text left, and of that `held` at hand: what the last of these lines is, a column or a bad line; that no
-- text is left, where a line was not blank, else that there is none; or why the next line is not read
abbrev pub IsNext : ℕ → Bool → Option (List ℕ) → List ℕ → Result (Option SchemaColumn) ReadFault → Type 0
IsNext m some left held (Ok (Some column)) = ⊤
IsNext m some left held (Ok None) = (some ≡ true) × IsAtEnd left
IsNext m some left held (Err (LongLine k)) = (k ≡ m) × IfSome left IsLong
IsNext m some left held (Err (File (NoField k fault))) = ⊤
IsNext m some left held (Err (File Empty)) = (some ≡ false) × IsAtEnd left
IsNext m some left held (Err (File OutOfMemory)) = ⊤
IsNext m some left held (Err (File fault)) = ⊥
IsNext m some left held (Err (Input error)) = HasNoFeed held × (error_kind error ≢ Interrupted)

-- whether a call answers a column or a bad line
abbrev pub is_item : Result (Option SchemaColumn) ReadFault → Bool
is_item (Ok (Some column)) = true
is_item (Err (File (NoField n fault))) = true
is_item r = false

-- ---- schemas

-- the source gives all that it has, which is these bytes
abbrev pub GivesAll : Option (List ℕ) → Option (List ℕ) → List ℕ → Type 0
GivesAll old new bytes = Consumes old new bytes × IsAtEnd new

-- the source gives, behind the first bytes, those that belong to its schema: of a stream what the first message has beyond these; of a format that is not
-- read those that tell what is found in it; else all
abbrev pub GivesSchema : Form → List ℕ → Option (List ℕ) → Option (List ℕ) → List ℕ → Type 0
GivesSchema ArrowStream head old new more = GivesUpTo (message_end head - length head) old new more
GivesSchema (Foreign foreign) head old new more = GivesUpTo (looked_at foreign - length head) old new more
GivesSchema form head old new more = GivesAll old new more

-- the source gives these bytes, the first among them; of an Arrow or Parquet file, whose end alone may be read, it is at its end
abbrev pub GivesEnd : Form → List ℕ → Option (List ℕ) → Option (List ℕ) → List ℕ → Type 0
GivesEnd ArrowFile head old new bytes = IsAtEnd new
GivesEnd Parquet head old new bytes = IsAtEnd new
GivesEnd form head old new bytes = (more : List ℕ) × (bytes ≡ head ++ more) × GivesSchema form head old new more

-- the end of a file, before which so many bytes stand, has the footer; of a stream or lines nothing stands before
abbrev pub IsEnd : Form → ℕ → List ℕ → Type 0
IsEnd ArrowFile start end = HasFooter 10 start end
IsEnd Parquet start end = HasFooter 8 start end
IsEnd form start end = start ≡ 0

-- what `read_head` gives of a source, which has the rest left
abbrev pub IsHead : List ℕ → List ℕ → Type 0
IsHead head rest = (length head ≡ head_bytes) ⊎ (rest ≡ [])

-- what is read of these bytes in that format is what is read of all
abbrev pub ReadAs : Form → List ℕ → List ℕ → Type 0
ReadAs form bytes all = (r : Result OpenedFile FileFault) → IsFileRead form bytes r ↔ IsFileRead form all r
