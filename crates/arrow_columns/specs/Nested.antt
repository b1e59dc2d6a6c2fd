-- Types with columns nested in them: data types where all that is nested is, and otherwise others, which keep the columns as their parts.
use Rattle.std.specs.Prelude.{ℤ, Bool, true, false, List, [], ◌∷◌, map, codes, Option, Some, None, if◌then◌else◌}
use Rattle.std.specs.List.{list_all}
use Rattle.arrow_values.specs.Tree.{Text, Metadata, Tree, list, large_list, fixed_size_list, struct, FieldTree, field_tree}
use Rattle.arrow_values.specs.View.{field_trees}
use Rattle.arrow_columns.specs.Types.{TypeTree, known, other, ColumnTree, part_trees}
use Rattle.arrow_columns.specs.Notation.{nested_text, sized_text, column_text}
use Rattle.arrow_columns.specs.declared.nested.ListForm.{ListForm}
use Rattle.arrow_columns.specs.declared.nested.ListForm.TheVariants.{Small, Large, Fixed}
use Rattle.arrow_columns.specs.declared.other.Form.{Form}
use Rattle.arrow_columns.specs.declared.other.Form.TheVariants.{List as ListOf, Struct}

-- the one item of a list
abbrev pub only : {A : Type 0} → List A → Option A
only [] = None
only (x ∷ []) = Some x
only (x ∷ y ∷ rest) = None

-- a list of a column: a data type where the column's type is one
abbrev pub list_text : ListForm → Text → Text
list_text Small part = nested_text (codes "list") (part ∷ [])
list_text Large part = nested_text (codes "large_list") (part ∷ [])
list_text (Fixed size) part = sized_text (nested_text (codes "fixed_size_list") (part ∷ [])) size

abbrev pub list_tree : ListForm → Text → Tree → Bool → Metadata → Tree
list_tree Small n t b m = list n t b m
list_tree Large n t b m = large_list n t b m
list_tree (Fixed size) n t b m = fixed_size_list n t b m size

-- a type that nests columns and is no data type: its notation, form, type ids and parts
abbrev pub nested_type : Text → Form → List ℤ → List ColumnTree → TypeTree
nested_type text form ids cs = other text form ids (part_trees cs)

abbrev pub list_of : ListForm → ColumnTree → TypeTree → TypeTree
list_of form c (known t) = known (list_tree form c.name t c.nullable c.metadata)
list_of form c (other s f ids ps) = nested_type (list_text form (column_text c)) (ListOf form) [] (c ∷ [])

abbrev pub list_type : ListForm → ColumnTree → TypeTree
list_type form c = list_of form c c.data_type

-- columns whose types are data types are fields
abbrev pub is_known : TypeTree → Bool
is_known (known t) = true
is_known (other s f ids ps) = false

abbrev pub all_known : List ColumnTree → Bool
all_known cs = list_all (λ c. is_known c.data_type) cs

abbrev pub known_field : ColumnTree → TypeTree → List FieldTree → List FieldTree
known_field c (known t) fs = field_tree c.name t c.nullable c.metadata ∷ fs
known_field c (other s f ids ps) fs = fs

abbrev pub known_fields : List ColumnTree → List FieldTree
known_fields [] = []
known_fields (c ∷ cs) = known_field c c.data_type (known_fields cs)

-- a struct of columns: a data type where all their types are
abbrev pub struct_type : List ColumnTree → TypeTree
struct_type cs = if all_known cs then known (struct (field_trees (known_fields cs))) else nested_type (nested_text (codes "struct") (map column_text cs)) Struct [] cs
