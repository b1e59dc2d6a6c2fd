use Rattle.geoarrow_schema.proofs.Inferring.{infers_alone}
use Rattle.geoarrow_schema.proofs.laws.infers_as_one.Goals as goal

pub returns : goal.returns
returns c = λ g h here there. (infers_alone c.args.field.now _ _ h c.data_type.ensures c.infer_kind.ensures there).1 _ _ here
