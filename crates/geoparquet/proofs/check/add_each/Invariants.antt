use Rattle.std.proofs.Common.{◌≡◌, ◌++◌, map}
use Rattle.arrow_columns.specs.Column.{column_tree}
use Rattle.geoparquet.specs.Findings.{finding}
use Rattle.geoparquet.specs.GeoFindings.{AreRead, members_findings}
use Rattle.geoparquet.specs.Ordered.{members_entries}
use Rattle.geoparquet.specs.Sources.{sourced}
use Rattle.geoparquet.proofs.check.add_each.Given as goal

-- what is found so far, and what will be of the members that are left, which were read
abbrev pub invariant-loop-key : goal.invariant-loop-key
invariant-loop-key l = record {
  so_far : map finding l.findings.items ++ members_findings (map column_tree l.columns) (map sourced l.sources.all.now) l.version (members_entries l.key-iterator)
      ≡ map finding l.fn.findings.items ++ members_findings (map column_tree l.columns) (map sourced l.sources.all.now) l.version (members_entries l.members.entries);
  read : AreRead (members_entries l.key-iterator);
}
