-- A field is a column whose type is one of the 26; the line of a column, and the value of another type.
use Rattle.std.proofs.Common.{◌≡◌, [], ◌∷◌, Bool, Option, Some, None, IsUtf8, option_and_then, option_map, cond, refl, sym, ap, ◌∙◌}
use Rattle.std.proofs.lemmas.Option.{none-some}
use Rattle.field_lines.proofs.Terms.{false_from_ne_true, IsUtf8-from_is_utf8, is_utf8-from_IsUtf8, is_utf8, Data, object, read, Text, Metadata, Tree, FieldTree, field_tree, field_from, field_of_value, column_type, column_from, column_of_value, column_of_line, other_value, parts_in}
use Rattle.arrow_columns.specs.Column.{column_of}
use Rattle.arrow_columns.specs.Types.{ColumnTree, TypeTree, known, other, leaf}
use Rattle.field_lines.proofs.Round.{texts_in-value}
use Rattle.field_lines.proofs.TokenMembers.{field_of_parts_in, column_of_parts_in}

-- the field of a column whose type is known
abbrev of_type : ColumnTree → TypeTree → Option FieldTree
of_type c (known t) = Some (field_tree c.name t c.nullable c.metadata)
of_type c (other s g ids ps) = None

abbrev known_field : ColumnTree → Option FieldTree
known_field c = of_type c c.data_type

-- by the parts: the column of a field's parts, and the field of a column's
column_parts : (n : Option Text) (b : Option Bool) (t : Option Tree) (u : Option Text) (m : Option Metadata) (f : FieldTree) → field_from n b t m ≡ Some f → column_from n b (column_type t u) m ≡ Some (column_of f)
column_parts (Some n) (Some b) (Some t) u (Some m) f is = ap (option_map column_of) is
column_parts (Some n) (Some b) (Some t) u None f is = absurd (none-some f is)
column_parts (Some n) (Some b) None u m f is = absurd (none-some f is)
column_parts (Some n) None t u m f is = absurd (none-some f is)
column_parts None b t u m f is = absurd (none-some f is)

field_parts : (n : Option Text) (b : Option Bool) (t : Option Tree) (u : Option Text) (m : Option Metadata) → option_and_then known_field (column_from n b (column_type t u) m) ≡ field_from n b t m
field_parts (Some n) (Some b) (Some t) u (Some m) = refl
field_parts (Some n) (Some b) (Some t) u None = refl
field_parts (Some n) (Some b) None (Some u) (Some m) = refl
field_parts (Some n) (Some b) None (Some u) None = refl
field_parts (Some n) (Some b) None None m = refl
field_parts (Some n) None t u m = refl
field_parts None b t u m = refl

-- the same of a value
pub field_column : (d : Data) (f : FieldTree) → field_of_value d ≡ Some f → column_of_value d ≡ Some (column_of f)
field_column (object ms) f is = let p = parts_in ms in
    sym (column_of_parts_in ms) ∙ column_parts p.name p.nullable p.types.0 p.types.1 p.metadata f (field_of_parts_in ms ∙ is)
field_column _ f is = absurd (none-some f is)

pub column_field : (d : Data) (f : FieldTree) → column_of_value d ≡ Some (column_of f) → field_of_value d ≡ Some f
column_field (object ms) f is = let p = parts_in ms in
    sym (field_of_parts_in ms) ∙ sym (field_parts p.name p.nullable p.types.0 p.types.1 p.metadata) ∙ ap (option_and_then known_field) (column_of_parts_in ms ∙ is)
column_field _ f is = absurd (none-some (column_of f) is)

-- the value of another type denotes its column
abbrev pub other_column : Text → Text → Bool → Metadata → ColumnTree
other_column n u b m = record { name = n; data_type = leaf u; nullable = b; metadata = m }

pub other_read : (n u : Text) (b : Bool) (m : Metadata) → column_of_value (other_value n u b m) ≡ Some (other_column n u b m)
other_read n u b [] = refl
other_read n u b (e ∷ es) = ap (option_map (other_column n u b)) (texts_in-value (e ∷ es))

-- a line of UTF-8, and one that is none
pub line_column : (line : Text) → IsUtf8 line → column_of_line line ≡ option_and_then column_of_value (read line)
line_column line h = ap (λ b. option_and_then column_of_value (cond b (read line) None)) (is_utf8-from_IsUtf8 line h)

pub line_no_column : (line : Text) → (IsUtf8 line → ⊥) → None ≡ column_of_line line
line_no_column line h = sym (ap (λ b. option_and_then column_of_value (cond b (read line) None)) (false_from_ne_true (is_utf8 line) (λ e. h (IsUtf8-from_is_utf8 line e))))
