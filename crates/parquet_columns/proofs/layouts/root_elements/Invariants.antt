use Rattle.std.proofs.Common.{◌≡◌, ◌++◌, List, map}
use Rattle.parquet_columns.specs.Claims.{Claim, claim}
use Rattle.parquet_columns.specs.Layouts.{layout, root_element, joined, root_layouts}
use Rattle.parquet_footer.specs.Element.{element}
use Rattle.parquet_columns.proofs.layouts.root_elements.Given as goal

-- whatever claims come behind those so far, what is left of the layouts goes with them
abbrev pub invariant-claims : goal.invariant-claims
invariant-claims l = (cs : List Claim)
    → map root_element l.made.items ++ joined cs (map layout l.left) ≡ joined (map claim l.yielded ++ cs) (root_layouts (map element l.elements))
