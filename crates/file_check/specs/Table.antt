-- The table of the columns of a file, as text.
use Rattle.std.specs.Prelude.{ℕ, ◌-◌, ◌==◌, false, max, unwrap_or, Option, None, Some, List, [], ◌∷◌, ◌++◌, replicate, nat_lt, codes, map, flat_map, string_bytes, if◌then◌else◌}
use Rattle.std.specs.Str.{chars, encode_utf8_all, trim_end}
use Rattle.arrow_values.specs.Tree.{Text}
use Rattle.column_check.specs.declared.code.Severity.{Severity}
use Rattle.column_check.specs.declared.code.Severity.TheVariants.{Error, Warning, Note}
use Rattle.unicode_width.specs.Width.{char_width, str_width}
use Rattle.file_check.specs.declared.table.Row.{Row}
use Rattle.file_check.specs.declared.table.Rooms.{Rooms}

-- the mark and the cells of a line, and the notes below it
pub record Line : Type 0 where
  pub mark : Option Severity
  pub name : Text
  pub holds : Text
  pub crs : Text
  pub edges : Text
  pub notes : List Text

abbrev pub line_of : Row → Line
line_of row = record {
  mark = row.mark;
  name = string_bytes row.name;
  holds = string_bytes row.holds;
  crs = string_bytes row.crs;
  edges = string_bytes row.edges;
  notes = map string_bytes row.notes.items;
}

-- the line at the head
abbrev pub head : Line
head = record { mark = None; name = codes "column"; holds = codes "holds"; crs = codes "CRS"; edges = codes "edges"; notes = [] }

-- how many columns of a terminal a text takes
abbrev pub width : Text → ℕ
width text = str_width false (chars text)

-- how many a character takes at most; U+FE0F may widen the one before it by one
abbrev pub room_of : ℕ → ℕ
room_of c = if c == 0xFE0F then 1 else unwrap_or (char_width false c) 0

-- the first characters of a text, as many as have room in so many columns
abbrev pub fitting : ℕ → List ℕ → List ℕ
fitting room [] = []
fitting room (c ∷ cs) = if nat_lt room (room_of c) then [] else c ∷ fitting (room - room_of c) cs

-- a text as a cell of so many columns: of a wider one the first characters, and two points
abbrev pub cut_to : ℕ → Text → Text
cut_to room text = if nat_lt room (width text) then encode_utf8_all (fitting (room - 2) (chars text)) ++ codes ".." else text

-- a text as a cell, which has at most 40 columns
abbrev pub cut : Text → Text
cut text = cut_to 40 text

-- the width of the widest of some cells
abbrev pub widest : List Text → ℕ
widest [] = 0
widest (cell ∷ cells) = max (width cell) (widest cells)

-- how wide the columns of the table are: each as wide as its widest cell
abbrev pub rooms_of : List Line → Rooms
rooms_of lines = record {
  name = widest (map (λ line. line.name) lines);
  holds = widest (map (λ line. line.holds) lines);
  crs = widest (map (λ line. line.crs) lines);
}

-- how much the worst of a column's findings counts, and a blank
abbrev pub mark_text : Option Severity → Text
mark_text None = codes "  "
mark_text (Some Error) = codes "E "
mark_text (Some Warning) = codes "W "
mark_text (Some Note) = codes "N "

-- a cell with blanks behind it: as many as it lacks to the width of its column, and two
abbrev pub padded : ℕ → Text → Text
padded room cell = cell ++ (replicate (room - width cell) 32 ++ codes "  ")

-- a line without the blanks at its end
abbrev pub trimmed : Text → Text
trimmed text = trim_end text ++ codes "\n"

abbrev pub note_text : Text → Text
note_text note = codes "    " ++ trimmed note

-- a line: its mark, its cells below those of the other lines, and its notes
abbrev pub cells_text : Rooms → Line → Text
cells_text rooms line = mark_text line.mark ++ (padded rooms.name line.name ++ (padded rooms.holds line.holds ++ (padded rooms.crs line.crs ++ line.edges)))

abbrev pub line_text : Rooms → Line → Text
line_text rooms line = trimmed (cells_text rooms line) ++ flat_map note_text line.notes

-- the head, and the lines below it
abbrev pub table_text : List Line → Text
table_text lines = flat_map (line_text (rooms_of (head ∷ lines))) (head ∷ lines)
