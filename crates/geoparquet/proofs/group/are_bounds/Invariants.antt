use Rattle.std.proofs.Common.{◌≡◌, length, map}
use Rattle.geoparquet.specs.Coverings.{are_bounds, bound_tree, children_list}
use Rattle.geoparquet.proofs.group.are_bounds.Given as goal

-- the children that are left decide
abbrev pub invariant-children : goal.invariant-children
invariant-children l = are_bounds (map bound_tree l.bounds) (children_list l.children) ≡ are_bounds (map bound_tree l.bounds) (children_list l.left)

abbrev pub decreases-children : goal.decreases-children
decreases-children l = length (children_list l.left)
