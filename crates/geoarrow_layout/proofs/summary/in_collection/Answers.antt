use Rattle.geoarrow_layout.proofs.Lemmas.{rules, to_z-of_z, ◌≡◌, GeometryCollection, Dimension, some_parts, a_collection, no_collection}
use Rattle.geoarrow_layout.proofs.summary.in_collection.Goals as goal

pub returns-in-Some-GeometryCollection-default : goal.returns-in-Some-GeometryCollection-default
returns-in-Some-GeometryCollection-default c = let s = c.in-Some-GeometryCollection-default in λ t h. a_collection c.args.id _ t _ _ (search (rules, to_z-of_z)) s.ensures s.field-0-0-is

pub returns-in_default : goal.returns-in_default
returns-in_default c =
    let other : (d : Dimension) → c.parts_of_id.result ≡ some_parts GeometryCollection d → ⊥ = search rules in
    λ t h. no_collection c.args.id _ t _ _ (search (rules, to_z-of_z)) c.parts_of_id.ensures other h
