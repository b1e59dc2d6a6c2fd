use Rattle.geoarrow_meta.specs.Read.{edges_text}
use Rattle.geoarrow_meta.proofs.KeyedValues.{no_name}
use Rattle.geoarrow_meta.proofs.metadata.key_values.edges_of.Goals as goal

pub returns-in_err-word : goal.returns-in_err-word
returns-in_err-word c found other = rw c.from_residual.ensures (no_name edges_text found (rw c.in_err-word.was at other))
