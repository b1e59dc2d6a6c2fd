use Rattle.geoarrow_meta.proofs.Objects.{nothing, another}
use Rattle.geoarrow_meta.proofs.crs_text.is_alone_object.Goals as goal

pub returns-in_default : goal.returns-in_default
returns-in_default c = nothing c.args.reader.now c.in_default.ensures.value.0

pub returns-in_default-token : goal.returns-in_default-token
returns-in_default-token c = another c.args.reader.now c.in-Some.token c.next.new.self c.in-Some.ensures.value c.in_default-token.not-BeginObject
