use Rattle.std.proofs.Common.{[], ◌∷◌, ◌++◌, map, ap, ◌∙◌}
use Rattle.std.proofs.lemmas.List.{map-append}
use Rattle.json.specs.Value.{value_view}
use Rattle.geoparquet.specs.RepeatedKeys.{held}
use Rattle.geoparquet.proofs.Gathering.{put_behind}
use Rattle.geoparquet.proofs.repeated_keys.add_value.Goals as goal

pub returns : goal.returns
returns c =
    let j = value_view c.args.value.now in
    let before = c.taken-of_key.result.items in
    let made = ap (map held) c.in_ok-push.ensures.items ∙ map-append held before (record { value = c.args.value } ∷ []) ∙ ap (λ js. js ++ j ∷ []) c.taken-of_key.ensures.taken in
    put_behind c.args.key.now j c.args.values.now c.taken-of_key.new.values c.insert.new.self c.push.new.self c.taken-of_key.ensures.left made c.in_ok-insert.ensures.updates
