use Rattle.std.proofs.Common.{◌≡◌, ◌++◌, map, take}
use Rattle.json.specs.Value.{value_view}
use Rattle.geoparquet.specs.Findings.{finding}
use Rattle.geoparquet.specs.Malformed.{malformed_finding}
use Rattle.geoparquet.proofs.malformed.add_each.Given as goal

-- what is found of the parts so far
abbrev pub invariant-loop-part : goal.invariant-loop-part
invariant-loop-part l =
    map finding l.findings.items
    ≡ map finding l.fn.findings.items ++ map (malformed_finding l.key (value_view l.crs)) (take l.part-index l.parts)
