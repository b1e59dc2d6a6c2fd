-- What lines give, one after another: columns, and bad lines, which denote none.
use Rattle.std.specs.Prelude.{◌≡◌, ◌+◌, ◌-◌, ℕ, min, Bool, true, false, List, [], ◌∷◌, ◌++◌, length, take, map, Option, Some, None, Result, Ok, Err}
use Rattle.line_reader.specs.Lines.{max_count}
use Rattle.arrow_columns.specs.Column.{column_tree}
use Rattle.arrow_columns.specs.Types.{ColumnTree}
use Rattle.field_lines.specs.ColumnOfValue.{column_of_line}
use Rattle.column_files.specs.Lines.{is_blank, LinesTo}
use Rattle.column_files.specs.LineFaults.{IsLineFault}
use Rattle.column_files.specs.declared.bad_lines.BadLine.{BadLine}
use Rattle.column_files.specs.declared.bad_lines.BadLines.{BadLines}
use Rattle.column_files.specs.declared.line.LineFault.{LineFault}
use Rattle.column_files.specs.declared.line.LineFault.TheVariants.{OpenObject, OpenArray, GeoJson}
use Rattle.column_files.specs.declared.lines.LinesRead.{LinesRead}

-- what a line that is not blank gives: its column, or itself as a bad line
abbrev pub LineItem : Type 0
LineItem = Result ColumnTree BadLine

-- the item of a line, before which so many stand; numbers stop at the greatest `usize`
abbrev pub IsItem : ℕ → List ℕ → LineItem → Type 0
IsItem n line (Ok c) = column_of_line line ≡ Some c
IsItem n line (Err bad) = (bad.before ≡ min n max_count) × (column_of_line line ≡ None) × IsLineFault line bad.fault

-- what a line gives: nothing, where it is blank, else its item
abbrev pub Gives : ℕ → List ℕ → List LineItem → Type 0
Gives n line [] = is_blank line ≡ true
Gives n line (item ∷ []) = (is_blank line ≡ false) × IsItem n line item
Gives n line items = ⊥

-- what lines give, before which so many stand
abbrev pub AreItems : ℕ → List (List ℕ) → List LineItem → Type 0
AreItems n [] items = items ≡ []
AreItems n (line ∷ lines) items =
    (mine : List LineItem) × (others : List LineItem) × (items ≡ mine ++ others) × Gives n line mine × AreItems (n + 1) lines others

-- what the first lines of a text give, and the rest behind them
abbrev pub LinesGive : List ℕ → List LineItem → List ℕ → Type 0
LinesGive text items rest = (lines : List (List ℕ)) × LinesTo text lines rest × AreItems 0 lines items

-- the columns among them, and the bad lines
abbrev pub columns_in : List LineItem → List ColumnTree
columns_in [] = []
columns_in (Ok c ∷ items) = c ∷ columns_in items
columns_in (Err bad ∷ items) = columns_in items

abbrev pub bad_in : List LineItem → List BadLine
bad_in [] = []
bad_in (Ok c ∷ items) = bad_in items
bad_in (Err bad ∷ items) = bad ∷ bad_in items

-- a file is refused whose first line that is not blank is `{` or `[` alone, or GeoJSON
abbrev pub refuses_file : LineFault → Bool
refuses_file (OpenObject at) = true
refuses_file (OpenArray at) = true
refuses_file (GeoJson named) = true
refuses_file fault = false

abbrev pub are_refused : List LineItem → Bool
are_refused (Err bad ∷ items) = refuses_file bad.fault
are_refused items = false

-- of the bad lines the first are kept, so many, and the others are counted, which stops at the greatest `usize`
abbrev pub max_bad_lines : ℕ
max_bad_lines = 100

abbrev pub AreKept : List BadLine → BadLines → Type 0
AreKept bad kept = (kept.first.items ≡ take max_bad_lines bad) × (kept.more ≡ min (length bad - max_bad_lines) max_count)

-- what is read of lines that give these items
abbrev pub IsOfItems : List LineItem → LinesRead → Type 0
IsOfItems items read =
    (are_refused items ≡ false) × (map column_tree read.columns.items ≡ columns_in items) × AreKept (bad_in items) read.bad_lines

-- what a line, before which so many stand, adds to what is read of the lines before it: what it gives; or nothing was given, and it refuses the file for
-- this reason; for private clauses
abbrev pub IsLineAdded : ℕ → List ℕ → LinesRead → LinesRead → Option LineFault → Type 0
IsLineAdded n line old new None =
    (items : List LineItem) → IsOfItems items old → (added : List LineItem) × Gives n line added × IsOfItems (items ++ added) new
IsLineAdded n line old new (Some fault) =
    (items : List LineItem) → IsOfItems items old → (items ≡ []) × (is_blank line ≡ false) × (column_of_line line ≡ None) × IsLineFault line fault
    × (refuses_file fault ≡ true)
