-- Each part inside a type is smaller than the type.
use Rattle.std.specs.Prelude.{◌+◌, ◌≤◌, List, [], ◌∷◌}
use Rattle.std.proofs.Common.{arith}
use denote.Param.Weighed.{most}
use Rattle.arrow_columns.specs.Types.{ColumnTree, column_depth, columns_depth, type_depth}
use Rattle.arrow_columns.specs.Column.{type_tree}
use Rattle.arrow_columns.specs.declared.column.AnyType.{AnyType}
use Rattle.arrow_columns.specs.declared.column.AnyType.TheVariants.{Data, Other}
use Rattle.arrow_columns.specs.declared.other.Part.TheDeep.{deep-AnyType}

pub most_le-columns_depth : (cs : List ColumnTree) → most (λ c. column_depth c + 1) cs ≤ columns_depth cs
most_le-columns_depth [] = omega arith
most_le-columns_depth (c ∷ cs) = omega (arith, most_le-columns_depth cs)

pub deep_le-type_depth : (t : AnyType) → deep-AnyType t ≤ type_depth (type_tree t)
deep_le-type_depth (Data d) = omega arith
deep_le-type_depth (Other o) = omega (arith, most_le-columns_depth o.parts.items)
