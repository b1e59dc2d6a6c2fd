-- The children of a group.
use Rattle.std.proofs.Common.{◌≡◌, List, [], ◌∷◌, map, refl, ap}
use Rattle.arrow_values.specs.Tree.{FieldTree}
use Rattle.arrow_values.specs.View.{field_list, field_trees, listed_fields}
use Rattle.arrow_columns.specs.Below.{part_list}
use Rattle.arrow_columns.specs.Column.{column_of}
use Rattle.arrow_columns.specs.Types.{ColumnTree, part_trees}

pub fields_below : (fs : List FieldTree) → map column_of (field_list (field_trees fs)) ≡ map column_of fs
fields_below fs = ap (map column_of) (listed_fields fs)

pub parts_below : (cs : List ColumnTree) → part_list (part_trees cs) ≡ cs
parts_below [] = refl
parts_below (c ∷ cs) = ap (λ ds. c ∷ ds) (parts_below cs)
