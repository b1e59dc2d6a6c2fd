-- Names that are lent, with something between them.
use Rattle.std.proofs.Common.{◌≡◌, List, [], ◌∷◌, ◌++◌, Bor, map, refl, ap}
use Rattle.std.specs.List.{flat_map, join_by}
use Rattle.arrow_values.specs.Tree.{Text}

behind : (separator : Text) (names : List (Bor Text)) → flat_map (λ name. separator ++ name.now) names ≡ flat_map (λ text. separator ++ text) (map (λ name. name.now) names)
behind separator [] = refl
behind separator (name ∷ names) = ap (λ rest. (separator ++ name.now) ++ rest) (behind separator names)

pub joined : (separator : Text) (names : List (Bor Text)) → join_by (λ name. name.now) separator names ≡ join_by (λ text. text) separator (map (λ name. name.now) names)
joined separator [] = refl
joined separator (name ∷ names) = ap (λ rest. name.now ++ rest) (behind separator names)
