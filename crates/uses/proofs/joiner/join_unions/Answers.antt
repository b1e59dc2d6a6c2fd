use Rattle.std.proofs.Common.{refl}
use Rattle.std.proofs.lemmas.Bool.{false≢true}
use Rattle.uses.proofs.Unions.{joined_of_geometries, not_joined_of_others, ok_is_no_err}
use Rattle.arrow_values.specs.declared.tree.UnionMode.TheVariants.{Dense}
use Rattle.uses.proofs.joiner.join_unions.Goals as goal

pub returns-in-Ok-parse_geometry-clause-exact : goal.returns-in-Ok-parse_geometry-clause-exact
returns-in-Ok-parse_geometry-clause-exact c =
    let joined = c.in-Ok.ensures in
    let coord_type = c.in-Ok-parse_geometry.field-0 in
    let read = (c.parse_geometry.ensures.exact coord_type).0 c.in-Ok-parse_geometry.is in
    (λ holds. joined_of_geometries _ _ _ Dense coord_type joined.joined joined.none_shared (joined.geometry coord_type) read, λ may. refl)

pub returns-in-Err-clause-exact : goal.returns-in-Err-clause-exact
returns-in-Err-clause-exact c =
    let joined = c.in-Ok.ensures in
    (λ fails. absurd (false≢true fails), λ may. absurd (not_joined_of_others _ _ _ Dense joined.joined joined.geometry (λ coord_type read. ok_is_no_err _ _ _ ((c.parse_geometry.ensures.exact coord_type).1 read) c.in-Err.is) may))
