-- The names that paths of coverings name, one after another.
use Rattle.std.proofs.Common.{◌≡◌, Bool, true, false, ◌||◌, Some, codes, refl, ap, ◌∙◌}
use Rattle.json.specs.Json.{Json}
use Rattle.arrow_values.specs.Tree.{Text}
use Rattle.parquet_columns.specs.GeoNames.{is_bound_in, is_box_in}

pub or_none : (a : Bool) → a || false ≡ a
or_none true = refl
or_none false = refl

-- a covering that was looked at is no longer one of those to come
pub or_moved : (a b c : Bool) → b || (a || c) ≡ (a || b) || c
or_moved true true c = refl
or_moved true false c = refl
or_moved false true c = refl
or_moved false false c = refl

or_six : (a b c d e f o : Bool) → a || (b || (c || (d || (e || (f || o))))) ≡ a || b || c || d || e || f || o
or_six true b c d e f o = refl
or_six false true c d e f o = refl
or_six false false true d e f o = refl
or_six false false false true e f o = refl
or_six false false false false true f o = refl
or_six false false false false false f o = refl

-- what is named before, and behind each of the bounds from the last to the first
pub box_named : (bbox : Json) (name : Text) (a b c d e f g : Bool) → b ≡ is_bound_in name bbox (codes "zmax") || a → c ≡ is_bound_in name bbox (codes "zmin") || b
    → d ≡ is_bound_in name bbox (codes "ymax") || c → e ≡ is_bound_in name bbox (codes "xmax") || d → f ≡ is_bound_in name bbox (codes "ymin") || e → g ≡ is_bound_in name bbox (codes "xmin") || f
    → g ≡ is_box_in name (Some bbox) || a
box_named bbox name a b c d e f g is-b is-c is-d is-e is-f is-g =
    let has = is_bound_in name bbox in
    is-g ∙ ap (λ x. has (codes "xmin") || x) (is-f ∙ ap (λ x. has (codes "ymin") || x) (is-e ∙ ap (λ x. has (codes "xmax") || x) (is-d ∙ ap (λ x. has (codes "ymax") || x)
    (is-c ∙ ap (λ x. has (codes "zmin") || x) is-b))))
    ∙ or_six (has (codes "xmin")) (has (codes "ymin")) (has (codes "xmax")) (has (codes "ymax")) (has (codes "zmin")) (has (codes "zmax")) a
