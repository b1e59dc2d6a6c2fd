use Rattle.std.proofs.Common.{◌≡◌, drop, map}
use Rattle.json.specs.Value.{value_view}
use Rattle.geoparquet.specs.RepeatedKeys.{all_one, held}
use Rattle.geoparquet.proofs.same_values.all_one.Given as goal

-- the values that are left decide
abbrev pub invariant-loop-it : goal.invariant-loop-it
invariant-loop-it l = all_one (value_view l.one) (map held (drop l.it-index l.values)) ≡ all_one (value_view l.one) (map held l.values)
