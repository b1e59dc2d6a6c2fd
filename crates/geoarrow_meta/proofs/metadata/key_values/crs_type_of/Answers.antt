use Rattle.geoarrow_meta.specs.Read.{crs_type_text}
use Rattle.geoarrow_meta.proofs.KeyedValues.{no_name}
use Rattle.geoarrow_meta.proofs.metadata.key_values.crs_type_of.Goals as goal

pub returns-in_err-word : goal.returns-in_err-word
returns-in_err-word c found other = rw c.from_residual.ensures (no_name crs_type_text found (rw c.in_err-word.was at other))
