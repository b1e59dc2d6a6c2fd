use Rattle.std.proofs.Common.{rules}
use Rattle.geoarrow_schema.proofs.Inferring.{type_inferred, infers_alone}
use Rattle.geoarrow_schema.proofs.infer.infer.Goals as goal

pub returns-clause-only : goal.returns-clause-only
returns-clause-only c = infers_alone c.args.field.now _ _ c.from_kind.result c.data_type.ensures c.infer_kind.ensures (search (rules, type_inferred))
