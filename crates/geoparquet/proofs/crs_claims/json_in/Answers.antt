use Rattle.std.proofs.Common.{Err, Option, None, cond, is_some, ap, sym}
use Rattle.json.specs.Json.{document}
use Rattle.json.specs.Value.{value_view}
use Rattle.serde_json.specs.Data.{Data}
use Rattle.geoparquet.proofs.Claims.{json_read}
use Rattle.geoparquet.proofs.crs_claims.json_in.Goals as goal

pub returns-in-Ok-clause-value : goal.returns-in-Ok-clause-value
returns-in-Ok-clause-value c =
    json_read c.args.text.now (value_view c.in-Ok.value) c.in-Ok.ensures.tokens c.in-Ok.ensures.readable c.in-Ok.ensures.read

pub returns-in-Err-Text-clause-value : goal.returns-in-Err-Text-clause-value
returns-in-Err-Text-clause-value c =
    sym (ap (λ (o : Option Data). cond (is_some o) (document c.args.text.now) None) (c.in-Err-Text.ensures.text (ap Err c.in-Err-Text.field-0-is)))
