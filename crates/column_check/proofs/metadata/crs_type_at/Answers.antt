use Rattle.std.proofs.Common.{codes}
use Rattle.geoarrow_meta.specs.Read.{crs_type_text, at_key}
use Rattle.column_check.proofs.Keys.{no_name}
use Rattle.column_check.proofs.metadata.crs_type_at.Goals as goal

pub returns-in_err-word_at : goal.returns-in_err-word_at
returns-in_err-word_at c d is = rw c.from_residual.ensures (no_name crs_type_text (at_key (codes "crs_type") d) (c.in_err-word_at.ensures d is))
