use Rattle.std.proofs.Common.{rules, ◌≡◌, true, ◌∙◌}
use Rattle.json.specs.Value.{value_view}
use Rattle.value_tokens.specs.Values.{is_object}
use Rattle.column_check.proofs.Keys.{object_read}
use Rattle.column_check.proofs.metadata.read_json.Goals as goal

pub returns : goal.returns
returns c =
    let value = value_view c.in-Ok.value in
    let read = c.in-Ok.ensures.read in
    let whole : is_object value ≡ true = search rules in
    c.of_values.ensures c.args.text.now read.0 read.2 (object_read value read.0 read.1 ∙ whole)
    (record { at_crs = c.in_ok-crs.ensures.read read.0 read.1; at_crs_type = c.crs_type_at.ensures read.0 read.1; at_edges = c.edges_at.ensures read.0 read.1 })
    (value, c.in-Ok.ensures.tokens, c.in_ok-crs.ensures.crs)
