use Rattle.std.proofs.Common.{◌≡◌, ◌++◌, map}
use Rattle.json.specs.Value.{members_view}
use Rattle.arrow_values.specs.Tree.{Text}
use Rattle.geoparquet.specs.Findings.{finding}
use Rattle.geoparquet.specs.Ordered.{members_entries, ordered_members}
use Rattle.geoparquet.specs.RepeatedKeys.{own_findings, steps_on, told, values_at, values_in}
use Rattle.geoparquet.proofs.repeated_keys.add_repeated.Given as goal

-- what is found so far, and what will be of the keys that are left
abbrev pub invariant-loop-key : goal.invariant-loop-key
invariant-loop-key l = record {
  so_far : told (map finding l.findings.items ++ own_findings (steps_on l.way) (members_view l.members) (members_entries l.key-iterator))
      ≡ told (map finding l.fn.findings.items ++ own_findings (steps_on l.way) (members_view l.members) (ordered_members (members_view l.members)));
  there : (name : Text) → values_in l.values name ≡ values_at name (members_view l.members);
}
