use Rattle.std.proofs.Common.{codes}
use Rattle.geoarrow_meta.specs.Read.{at_key}
use Rattle.column_check.proofs.Keys.{no_edges}
use Rattle.column_check.proofs.metadata.edges_at.Goals as goal

pub returns-in_err-word_at : goal.returns-in_err-word_at
returns-in_err-word_at c d is = rw c.from_residual.ensures (no_edges (at_key (codes "edges") d) (c.in_err-word_at.ensures d is))
