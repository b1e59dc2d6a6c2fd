use Rattle.std.proofs.Common.{◌≡◌, ◌≤◌, false, length, option_map}
use Rattle.serde_json.specs.View.{view}
use Rattle.geoarrow_meta.specs.PlainTokens.{tokens_left}
use Rattle.geoarrow_meta.specs.Read.{some_has_float}
use Rattle.geoarrow_meta.proofs.KeyedValues.{AreValuesSoFar}
use Rattle.geoarrow_meta.proofs.metadata.plain.plain_values.Given as goal

abbrev pub invariant-values : goal.invariant-values
invariant-values l = record {
  found : AreValuesSoFar 126 (tokens_left false l.text l.initial.at) (tokens_left l.after_member l.text l.at) (option_map view l.found.crs) l.found.crs_type l.found.edges;
  floats : l.float_read ≡ false → some_has_float (option_map view l.found.crs) ≡ false;
  within : l.at ≤ length l.text;
}

abbrev pub decreases-values : goal.decreases-values
decreases-values l = length (tokens_left l.after_member l.text l.at)
