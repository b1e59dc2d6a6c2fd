use Rattle.std.proofs.Common.{length, option_map}
use Rattle.serde_json.specs.View.{view}
use Rattle.geoarrow_meta.proofs.KeyedValues.{AreValuesSoFar}
use Rattle.geoarrow_meta.proofs.metadata.tokens.take_values.Given as goal

abbrev pub invariant-values : goal.invariant-values
invariant-values l = AreValuesSoFar l.below l.initial.reader l.reader (option_map view l.found.crs) l.found.crs_type l.found.edges

abbrev pub decreases-values : goal.decreases-values
decreases-values l = length l.reader
