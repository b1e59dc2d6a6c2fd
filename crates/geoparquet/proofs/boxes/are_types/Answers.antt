use Rattle.std.proofs.Common.{map, ◌∙◌, arith}
use Rattle.std.proofs.lemmas.List.{length-map}
use Rattle.json.specs.Value.{value_view}
use Rattle.geoparquet.proofs.Among.{types_there}
use Rattle.geoparquet.proofs.boxes.are_types.Goals as goal

pub returns-in_default : goal.returns-in_default
returns-in_default c =
    c.are_all.ensures ∙ types_there c.args.z (map value_view c.args.types.now) (λ e. absurd (omega (arith, length-map c.args.types.now value_view)))
