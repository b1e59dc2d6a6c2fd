-- Columns by their names.
use Rattle.std.specs.Prelude.{◌≡◌, ◌==◌, ℕ, Bool, List, Option, String, find, count_by, option_map, bytes_eq}
use Rattle.std.specs.Global.{Global}
use Rattle.std.specs.Borrow.{Bor}
use Rattle.std.specs.BTreeMap.{BTreeMap, get_by_text}
use Rattle.arrow_values.specs.Tree.{Text}
use Rattle.arrow_columns.specs.Types.{ColumnTree}
use Rattle.arrow_columns.specs.Column.{column_tree}
use Rattle.arrow_columns.specs.declared.column.SchemaColumn.{SchemaColumn}

-- how many columns have that name, and the first of them
abbrev pub count_of : List ColumnTree → Text → ℕ
count_of cs name = count_by (λ c. bytes_eq c.name name) cs

abbrev pub first_of : List ColumnTree → Text → Option ColumnTree
first_of cs name = find (λ c. bytes_eq c.name name) cs

-- whether one column, and no other, has that name
unfoldable pub is_one : List ColumnTree → Text → Bool
is_one cs name = count_of cs name == 1

-- what is found of a name: the first column that has it, and whether no other has it
abbrev pub named_in : List ColumnTree → Text → Option (ColumnTree × Bool)
named_in cs name = option_map (λ c. (c, is_one cs name)) (first_of cs name)

-- a map has that of each name
abbrev pub named_at : BTreeMap (String Global) (Bor SchemaColumn × Bool) → Text → Option (ColumnTree × Bool)
named_at m name = option_map (λ v. (column_tree v.0.now, v.1)) (get_by_text m name)

abbrev pub AreNamed : List ColumnTree → BTreeMap (String Global) (Bor SchemaColumn × Bool) → Type 0
AreNamed cs m = (name : Text) → named_at m name ≡ named_in cs name
