use Rattle.std.proofs.Common.{◌||◌, option_and_then, ap, sym, ◌∙◌}
use Rattle.json.specs.Find.{as_str, at}
use Rattle.arrow_values.specs.Texts.{text_of}
use Rattle.parquet_columns.specs.GeoNames.{is_name}
use Rattle.geoparquet.specs.RepeatedKeys.{has_key}
use Rattle.geoparquet.proofs.Seeing.{seen_behind}
use Rattle.geoparquet.proofs.covered.add_bound.Goals as goal

pub returns-in_ok-insert : goal.returns-in_ok-insert
returns-in_ok-insert c = λ name.
    let text = ap text_of (sym c.in-Some.is) ∙ c.first_text.ensures ∙ ap (λ o. option_and_then as_str (option_and_then (at 0) o)) c.get.ensures in
    seen_behind c.in-Some.name.now _ c.args.names.now c.insert.new.self c.in_ok-insert.ensures.updates name
    ∙ ap (λ b. b || has_key c.args.names.now name) (ap (is_name name) text)
