use Rattle.std.proofs.Common.{ap, ◌∙◌}
use Rattle.json.specs.Lex.{tokens}
use Rattle.value_tokens.specs.Next.{next_value}
use Rattle.geoarrow_meta.specs.CrsText.{is_alone_object}
use Rattle.geoarrow_meta.proofs.Objects.{is_json_if}
use Rattle.geoarrow_meta.proofs.crs_text.is_projjson_text.Goals as goal

pub returns-clause-json : goal.returns-clause-json
returns-clause-json c h =
    is_json_if c.is_alone_object.result (next_value 126 (tokens c.args.text.now)) (c.is_alone_object.ensures ∙ ap is_alone_object c.in_ok-reader.ensures.ok) h
