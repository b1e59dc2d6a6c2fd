use Rattle.std.proofs.lemmas.Result.{on_ok_weaker}
use Rattle.json.specs.Value.{value_view}
use Rattle.geoparquet.specs.RepeatedKeys.{has_key}
use Rattle.geoparquet.proofs.CoveredNames.{box_named}
use Rattle.geoparquet.proofs.covered.add_box.Goals as goal

pub returns : goal.returns
returns c =
    on_ok_weaker c.add_bound-6.result
    (λ last name.
    box_named (value_view c.args.bbox.now) name (has_key c.args.names.now name) _ _ _ _ _ _ (c.in_ok-add_bound.ensures name) (c.in_ok-add_bound-2.ensures name)
    (c.in_ok-add_bound-3.ensures name) (c.in_ok-add_bound-4.ensures name) (c.in_ok-add_bound-5.ensures name) (last name))
    c.add_bound-6.ensures
