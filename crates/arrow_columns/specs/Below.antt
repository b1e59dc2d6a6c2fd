-- The columns below a column, whatever its type.
use Rattle.std.specs.Prelude.{Bool, true, false, List, [], ◌∷◌, map}
use Rattle.arrow_values.specs.Tree.{Tree, plain, list, large_list, fixed_size_list, struct, union, field_tree}
use Rattle.arrow_values.specs.View.{tree, field_list, member_list}
use Rattle.arrow_columns.specs.Types.{TypeTree, known, other, PartTrees, no_parts, part, ColumnTree}
use Rattle.arrow_columns.specs.Column.{type_tree, column_of}
use Rattle.arrow_columns.specs.declared.other.Form.{Form}
use Rattle.arrow_columns.specs.declared.other.Form.TheVariants.{Struct}
use Rattle.arrow_columns.specs.declared.column.AnyType.TheVariants.{Other as OtherOf}
use Rattle.arrow_columns.specs.declared.below.TypeRef.{TypeRef}
use Rattle.arrow_columns.specs.declared.below.TypeRef.TheVariants.{Data, Other}
use Rattle.arrow_columns.specs.declared.below.Child.{Child}
use Rattle.arrow_columns.specs.declared.below.Child.TheVariants.{Field, Part}

-- the parts of a type as a list
abbrev pub part_list : PartTrees → List ColumnTree
part_list no_parts = []
part_list (part n t b m ps) = record { name = n; data_type = t; nullable = b; metadata = m } ∷ part_list ps

-- the columns below a data type: the items of a list, the fields of a struct, the members of a union
abbrev pub below_tree : Tree → List ColumnTree
below_tree (plain p) = []
below_tree (list n t b m) = column_of (field_tree n t b m) ∷ []
below_tree (large_list n t b m) = column_of (field_tree n t b m) ∷ []
below_tree (fixed_size_list n t b m s) = column_of (field_tree n t b m) ∷ []
below_tree (struct fs) = map column_of (field_list fs)
below_tree (union ms mode) = map (λ m. column_of m.1) (member_list ms)

-- the columns below any type
abbrev pub below : TypeTree → List ColumnTree
below (known t) = below_tree t
below (other s f ids ps) = part_list ps

abbrev pub is_struct_tree : Tree → Bool
is_struct_tree (struct fs) = true
is_struct_tree _ = false

abbrev pub is_struct_form : Form → Bool
is_struct_form Struct = true
is_struct_form _ = false

abbrev pub is_struct : TypeTree → Bool
is_struct (known t) = is_struct_tree t
is_struct (other s f ids ps) = is_struct_form f

-- a type and a child that are lent
abbrev pub ref_tree : TypeRef → TypeTree
ref_tree (Data d) = known (tree d.now)
ref_tree (Other o) = type_tree (OtherOf o.now)

abbrev pub child_tree : Child → ColumnTree
child_tree (Field f) = column_of f.now
child_tree (Part p) = p.now
