-- Elements of a schema with all that is below them, and the columns that they are.
use Rattle.std.specs.Prelude.{ℕ, Bool, true, false, ◌||◌, ◌&&◌, List, [], ◌∷◌, ◌++◌, map, codes, Result, Ok, if◌then◌else◌}
use Rattle.std.specs.Str.{bytes_eq}
use Rattle.std.specs.Str.Lossy.{utf8_lossy}
use Rattle.arrow_values.specs.Tree.{Text}
use Rattle.arrow_columns.specs.Column.{type_tree, column_tree}
use Rattle.arrow_columns.specs.Types.{TypeTree, ColumnTree}
use Rattle.arrow_columns.specs.Notation.{nested_text, column_text}
use Rattle.arrow_columns.specs.Nested.{list_type, nested_type, struct_type}
use Rattle.arrow_columns.specs.declared.other.Form.TheVariants.{Map}
use Rattle.arrow_columns.specs.declared.nested.ListForm.TheVariants.{Small}
use Rattle.parquet_footer.specs.declared.element.Repetition.{Repetition}
use Rattle.parquet_footer.specs.declared.element.Repetition.TheVariants.{Optional, Repeated}
use Rattle.parquet_columns.specs.declared.fault.ElementFault.{ElementFault}
use Rattle.parquet_columns.specs.declared.fault.SchemaRule.TheVariants.{List as ListRule, Map as MapRule}
use Rattle.parquet_columns.specs.declared.nodes.Shape.{Shape}
use Rattle.parquet_columns.specs.declared.nodes.Shape.TheVariants.{Typed, Wrapper, Group}
use Rattle.parquet_columns.specs.declared.nodes.Node.{Node}
use Rattle.parquet_columns.specs.Fault.{breaks}

-- what an element stands for: the type of a leaf, a LIST or a MAP; the column of a group's one element, if that is not repeated; or the columns of another group
pub data ShapeTree : Type 0 where
  typed : TypeTree → ShapeTree
  wrapper : ColumnTree → ShapeTree
  group : List ColumnTree → ShapeTree

pub record NodeTree : Type 0 where
  pub name : Text
  pub repetition : Repetition
  pub shape : ShapeTree

abbrev pub shape_tree : Shape → ShapeTree
shape_tree (Typed t) = typed (type_tree t)
shape_tree (Wrapper c) = wrapper (column_tree c)
shape_tree (Group cs) = group (map column_tree cs.items)

abbrev pub node_tree : Node → NodeTree
node_tree n = record { name = n.name.now; repetition = n.repetition; shape = shape_tree n.shape }

-- the type of an element's values: a group is a struct
abbrev pub shape_type : ShapeTree → TypeTree
shape_type (typed t) = t
shape_type (wrapper c) = struct_type (c ∷ [])
shape_type (group cs) = struct_type cs

abbrev pub is_optional : Repetition → Bool
is_optional Optional = true
is_optional _ = false

abbrev pub is_repeated : Repetition → Bool
is_repeated Repeated = true
is_repeated _ = false

-- a column of a name that need not be UTF-8: U+FFFD stands for each part of it that is not
abbrev pub plain_column : Text → Bool → TypeTree → ColumnTree
plain_column name nullable t = record { name = utf8_lossy name; data_type = t; nullable = nullable; metadata = [] }

-- a column: a repeated element is a list of values that are not null, under the name of the element
abbrev pub column_by : Text → Repetition → TypeTree → ColumnTree
column_by name repetition t =
    if is_repeated repetition then plain_column name false (list_type Small (plain_column name false t)) else
    plain_column name (is_optional repetition) t

abbrev pub column_of : NodeTree → ColumnTree
column_of n = column_by n.name n.repetition (shape_type n.shape)

-- a group that is neither a LIST nor a MAP
abbrev pub one_shape : Repetition → ColumnTree → ShapeTree
one_shape repetition c = if is_repeated repetition then group (c ∷ []) else wrapper c

abbrev pub group_shape : List NodeTree → ShapeTree
group_shape [] = group []
group_shape (n ∷ []) = one_shape n.repetition (column_of n)
group_shape (n ∷ m ∷ ns) = group (map column_of (n ∷ m ∷ ns))

-- a repeated group of these names is the item of its LIST
abbrev pub is_item_name : Text → Text → Bool
is_item_name list name = bytes_eq name (codes "array") || bytes_eq name (list ++ codes "_tuple")

-- the item of a LIST, by its repeated element: a group of one element that is not repeated stands for that element, unless its name says otherwise;
-- any other element is the item, and not null
abbrev pub item_by : Text → Text → ShapeTree → ColumnTree
item_by list name (wrapper c) = if is_item_name list name then plain_column name false (struct_type (c ∷ [])) else c
item_by list name (typed t) = plain_column name false t
item_by list name (group cs) = plain_column name false (struct_type cs)

-- a LIST has one element below it, which is repeated
abbrev pub list_of : ℕ → Text → NodeTree → Result ShapeTree ElementFault
list_of at list n = if is_repeated n.repetition then Ok (typed (list_type Small (item_by list n.name n.shape))) else breaks ListRule at

abbrev pub list_shape : ℕ → Text → List NodeTree → Result ShapeTree ElementFault
list_shape at list [] = breaks ListRule at
list_shape at list (n ∷ []) = list_of at list n
list_shape at list (n ∷ m ∷ ns) = breaks ListRule at

-- a MAP has one element below it, a repeated group: its entries
abbrev pub is_group : ShapeTree → Bool
is_group (typed t) = false
is_group (wrapper c) = true
is_group (group cs) = true

abbrev pub map_by : ColumnTree → TypeTree
map_by entries = nested_type (nested_text (codes "map") (column_text entries ∷ [])) Map [] (entries ∷ [])

abbrev pub map_type : Text → TypeTree → TypeTree
map_type name entries = map_by (plain_column name false entries)

abbrev pub map_of : ℕ → NodeTree → Result ShapeTree ElementFault
map_of at n = if is_repeated n.repetition && is_group n.shape then Ok (typed (map_type n.name (shape_type n.shape))) else breaks MapRule at

abbrev pub map_shape : ℕ → List NodeTree → Result ShapeTree ElementFault
map_shape at [] = breaks MapRule at
map_shape at (n ∷ []) = map_of at n
map_shape at (n ∷ m ∷ ns) = breaks MapRule at
