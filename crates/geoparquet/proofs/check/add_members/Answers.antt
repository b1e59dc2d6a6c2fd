use Rattle.std.proofs.Common.{subst, sym}
use Rattle.json.specs.Value.{value_view}
use Rattle.geoparquet.specs.GeoFindings.{AreRead}
use Rattle.geoparquet.proofs.Putting.{columns_read}
use Rattle.geoparquet.proofs.check.add_members.Goals as goal

pub add_each-requires-clause-read : goal.add_each-requires-clause-read
add_each-requires-clause-read c = subst AreRead (sym c.requires.members) (columns_read (value_view c.args.value.now) c.requires.read)
