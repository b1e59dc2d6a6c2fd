use Rattle.std.proofs.Common.{◌≡◌, ◌≤◌, ◌-◌}
use Rattle.geoarrow_c.specs.Places.{place_from}
use Rattle.geoarrow_c.proofs.place.place_from.Given as goal

abbrev pub invariant-records : goal.invariant-records
invariant-records l = (l.before ≤ l._i) × (place_from (l.count - l._i) l.left l.before l.rest ≡ place_from l.count l.left 0 l.bytes)
