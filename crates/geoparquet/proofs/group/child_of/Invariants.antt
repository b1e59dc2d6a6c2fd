use Rattle.std.proofs.Common.{◌≡◌, length}
use Rattle.geoparquet.specs.Coverings.{child_of, children_list}
use Rattle.geoparquet.proofs.group.child_of.Given as goal

-- the children that are left decide
abbrev pub invariant-children : goal.invariant-children
invariant-children l = child_of l.name (children_list l.children) ≡ child_of l.name (children_list l.left)

abbrev pub decreases-children : goal.decreases-children
decreases-children l = length (children_list l.left)
