use Rattle.std.proofs.Common.{◌≡◌, IfOk, string_bytes, subst, sym, ap, ◌∙◌}
use Rattle.arrow_values.specs.Texts.{text_of}
use Rattle.parquet_columns.proofs.Jsons.{of_json, is_read, of_none}
use Rattle.parquet_columns.proofs.values.text_by.Goals as goal

pub metadata_text-requires : goal.metadata_text-requires
metadata_text-requires c = is_read c.in-Some.json.now c.requires.0 (sym c.requires.1 ∙ ap text_of c.in-Some.is)

pub returns-in-Some : goal.returns-in-Some
returns-in-Some c = λ value is.
    let e = of_json c.in-Some.json.now value c.args.edges (sym is ∙ ap text_of c.in-Some.is) in
    subst (λ t. IfOk c.metadata_text.result (λ made. string_bytes made ≡ t)) e c.metadata_text.ensures.text

pub returns-in-None : goal.returns-in-None
returns-in-None c = λ value is.
    let e = of_none value c.args.edges (sym is ∙ ap text_of c.in-None.is) in
    subst (λ t. IfOk c.metadata_text-in-None.result (λ made. string_bytes made ≡ t)) e c.metadata_text-in-None.ensures.text
