use Rattle.std.proofs.Common.{◌≡◌, IfOk, string_bytes, ap, sym, ◌∙◌, subst}
use Rattle.json.specs.Tree.{json_tokens}
use Rattle.value_tokens.specs.Values.{or_null}
use Rattle.canonical_columns.specs.Canonical.{IsWritable}
use Rattle.canonical_columns.proofs.Reading.{tokens_written, next_written, object_written}
use Rattle.canonical_columns.proofs.canonical.object_text.Goals as goal

pub metadata_text-requires : goal.metadata_text-requires
metadata_text-requires c = next_written c.in-Some.crs c.as_str.result.now (subst IsWritable c.in-Some.is c.requires) c.as_str.ensures.text

pub returns-in-Some : goal.returns-in-Some
returns-in-Some c =
    let writable = subst IsWritable c.in-Some.is c.requires in
    let spelled = tokens_written c.in-Some.crs c.as_str.result.now writable.0 c.as_str.ensures.text in
    subst (λ s. IfOk c.metadata_text.result (λ made. string_bytes made ≡ s)) (object_written c.args.metadata.now _ (spelled ∙ ap (λ o. json_tokens (or_null o)) (sym c.in-Some.is))) c.metadata_text.ensures.text
