use Rattle.std.proofs.Common.{arith}
use Rattle.std.proofs.lemmas.Str.{IsCharBoundary-after_ascii}
use Rattle.geoarrow_meta.proofs.metadata.plain_members.plain_text.Goals as goal

pub range-requires-clause-start_boundary : goal.range-requires-clause-start_boundary
range-requires-clause-start_boundary c _ = IsCharBoundary-after_ascii c.args.text.now c.args.at c.utf8.text (omega arith) (omega (arith, c.byte_at.ensures))
