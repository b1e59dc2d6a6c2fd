use Rattle.std.proofs.Common.{◌++◌, sym, ap, ◌∙◌}
use Rattle.json.specs.Lex.{tokens}
use Rattle.json.specs.Print.{print}
use Rattle.geoarrow_meta.specs.MetadataText.{crs_tokens, metadata_tokens}
use Rattle.value_tokens.proofs.Adding.{whole_text}
use Rattle.geoarrow_meta.proofs.TextReadBack.{reads}
use Rattle.geoarrow_meta.proofs.text.metadata_text.Goals as goal

pub returns : goal.returns
returns c =
    let added = c.in_ok-put_metadata.ensures in
    let ts = metadata_tokens (crs_tokens c.args.crs) c.args.crs_type c.args.edges in
    let are = added.tokens ∙ ap (λ xs. xs ++ ts) c.new-out.ensures.tokens in
    let text = whole_text _ _ _ _ (added.before ∙ c.new-out.ensures.before ∙ c.new.ensures.items) are c.text_of.ensures.text in
    record {
      text = text;
      reads = λ d is. reads c.args.crs d c.args.crs_type c.args.edges _ is (ap tokens text ∙ ap (λ xs. tokens (print xs)) (sym are) ∙ c.text_of.ensures.reads_back ∙ are);
    }
