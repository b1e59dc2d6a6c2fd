-- What stands at a place below a type.
use Rattle.std.proofs.Common.{◌≡◌, ℕ, List, [], ◌∷◌, refl, ap, map}
use Rattle.std.specs.List.{slice_get}
use Rattle.arrow_values.specs.Tree.{FieldTree, Members}
use Rattle.arrow_values.specs.View.{field_trees, field_list, listed_fields, member_trees, member_list, listed_members}
use Rattle.arrow_columns.specs.Types.{ColumnTree, part_trees}
use Rattle.arrow_columns.specs.Column.{column_of}
use Rattle.arrow_columns.specs.Below.{part_list}

pub listed_parts : (cs : List ColumnTree) → part_list (part_trees cs) ≡ cs
listed_parts [] = refl
listed_parts (c ∷ cs) = ap (λ ds. c ∷ ds) (listed_parts cs)

pub field_there : (fs : List FieldTree) (i : ℕ) → slice_get (map column_of (field_list (field_trees fs))) i ≡ slice_get (map column_of fs) i
field_there fs i = ap (λ gs. slice_get (map column_of gs) i) (listed_fields fs)

pub member_there : (ms : Members) (i : ℕ) → slice_get (map (λ m. column_of m.1) (member_list (member_trees ms))) i ≡ slice_get (map (λ m. column_of m.1) ms) i
member_there ms i = ap (λ ns. slice_get (map (λ m. column_of m.1) ns) i) (listed_members ms)

pub part_there : (cs : List ColumnTree) (i : ℕ) → slice_get (part_list (part_trees cs)) i ≡ slice_get cs i
part_there cs i = ap (λ ds. slice_get ds i) (listed_parts cs)
