-- Two objects are equal by their members.
use Rattle.std.proofs.Common.{◌≡◌, ◌&&◌, sym, ap, ◌∙◌}
use Rattle.json.specs.Json.{Json, object, Members}
use Rattle.crs_identity.specs.Equality.{equal_members, has_keys, json_equal}

pub objects_equal : (i j : Json) (ms ns : Members) → i ≡ object ms → j ≡ object ns → json_equal i j ≡ (has_keys ns ms && equal_members ms j)
objects_equal i j ms ns e f =
    let both : json_equal i j ≡ json_equal (object ms) (object ns) = λ k. json_equal (e k) (f k) in
    both ∙ ap (λ o. has_keys ns ms && equal_members ms o) (sym f)
