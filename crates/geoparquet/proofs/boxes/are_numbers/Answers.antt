use Rattle.std.proofs.Common.{rules, tests, sym, ◌∙◌}
use Rattle.std.proofs.lemmas.Iterator.{YieldsList-from_slice}
use Rattle.std.proofs.lemmas.Iterator.Search.{all_from_yields_List}
use Rattle.std.proofs.lemmas.List.Folds.{list_all-map}
use Rattle.json.specs.Value.{value_view}
use Rattle.geoparquet.specs.BoxRules.{is_number}
use Rattle.geoparquet.proofs.boxes.are_numbers.Goals as goal

pub returns : goal.returns
returns c =
    all_from_yields_List (λ v. is_number (value_view v)) _ _ c.all.result c.all.ensures.ran (YieldsList-from_slice c.args.values.now cc) (λ x b q k. search (rules, tests))
    ∙ sym (list_all-map is_number value_view c.args.values.now)
