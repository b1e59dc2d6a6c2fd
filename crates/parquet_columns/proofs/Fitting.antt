-- A field lies less deep than its struct.
use Rattle.std.proofs.Common.{◌≡◌, ℕ, zero, suc, ◌<◌, ◌≤◌, max, List, [], ◌∷◌, length, get_or, refl, ap, arith}
use Rattle.arrow_values.specs.Tree.{FieldTree, depth, fields_depth}
use Rattle.arrow_values.specs.View.{field_trees}

more : (x : FieldTree) (xs : List FieldTree) → fields_depth (field_trees (x ∷ xs)) ≡ max (suc (depth x.tree)) (fields_depth (field_trees xs))
more x xs = refl

pub field_lower : (xs : List FieldTree) (k : ℕ) (x : FieldTree) → k < length xs → x ≡ get_or xs k x → suc (depth x.tree) ≤ fields_depth (field_trees xs)
field_lower [] k x lt is = absurd (omega arith)
field_lower (y ∷ xs) zero x lt is = let same : depth x.tree ≡ depth y.tree = ap (λ z. depth z.tree) is in let most = more y xs in omega arith
field_lower (y ∷ xs) (suc k) x lt is = let low = field_lower xs k x (omega arith) is in let most = more y xs in omega arith
