use Rattle.std.proofs.lemmas.Iterator.Search.{any_from_yields_List}
use Rattle.geoarrow_layout.proofs.Lemmas.{tests, YieldsList-from_slice, ◌∙◌, rules, bytes_eq, has_name_fields}
use Rattle.geoarrow_layout.proofs.alike_types.has_name.Goals as goal

pub returns : goal.returns
returns c =
    any_from_yields_List (λ f. bytes_eq f.name c.args.name.now) _ _ _ c.any.ensures.ran (YieldsList-from_slice c.args.fields.now cc) (λ x b q k. search (rules, tests))
    ∙ has_name_fields c.args.name.now c.args.fields.now
