use Rattle.std.proofs.Common.{◌≡◌, ◌++◌, length, map}
use Rattle.geoparquet.specs.Findings.{finding}
use Rattle.geoparquet.specs.Ordered.{members_entries}
use Rattle.geoparquet.specs.Sources.{sourced}
use Rattle.geoparquet.specs.Undeclared.{undeclared_findings}
use Rattle.geoparquet.proofs.undeclared.add_undeclared.Given as goal

-- what is found so far, and what will be of the columns that are left
abbrev pub invariant-columns : goal.invariant-columns
invariant-columns l =
    map finding l.findings.items ++ undeclared_findings (members_entries l.members.entries) (map sourced l.left)
    ≡ map finding l.fn.findings.items ++ undeclared_findings (members_entries l.members.entries) (map sourced l.all)

abbrev pub decreases-columns : goal.decreases-columns
decreases-columns l = length l.left
