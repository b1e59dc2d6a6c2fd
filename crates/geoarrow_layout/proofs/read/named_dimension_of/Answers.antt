use Rattle.geoarrow_layout.proofs.Lemmas.{rules, ◌≢◌, BadFieldNames, sym, ◌∙◌, subst, SeparatedFault, names_of, field_trees, all_inferred, other_inferred, not_inferred}
use Rattle.geoarrow_layout.proofs.read.named_dimension_of.Goals as goal

pub returns-in-Err-BadFieldNames : goal.returns-in-Err-BadFieldNames
returns-in-Err-BadFieldNames c =
    let s = c.in-Struct-default-default-true in
    let ns = names_of (field_trees c.args.fields.now) in
    let f = c.in-Err-BadFieldNames.ensures ns s.ensures.0 s.ensures.1 in
    all_inferred _ _ (sym s.ensures.2 ∙ s.all_float64-test) (λ d. other_inferred ns f.0 (subst (λ x. SeparatedFault ns f.0 x) c.in-Err-BadFieldNames.field-0-is f.1) d)

pub returns-in-Err : goal.returns-in-Err
returns-in-Err c =
    let s = c.in-Struct-default-default-true in
    let ns = names_of (field_trees c.args.fields.now) in
    let other : c.in-Err.field-0 ≢ BadFieldNames = search rules in
    let f = c.in-Err.ensures ns s.ensures.0 s.ensures.1 in
    all_inferred _ _ (sym s.ensures.2 ∙ s.all_float64-test) (λ d. not_inferred ns f.0 c.in-Err.field-0 other f.1 d)
