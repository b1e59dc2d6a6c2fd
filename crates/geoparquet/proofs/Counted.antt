-- How many names there are.
use Rattle.std.proofs.Common.{◌≡◌, ◌==◌, Bor, List, ℕ, length, map, ap}
use Rattle.std.proofs.lemmas.List.{length-map}
use Rattle.arrow_values.specs.Tree.{Text}

pub same_counts : (n : ℕ) (names : List (Bor Text)) → (n == length (map (λ name. name.now) names)) ≡ (n == length names)
same_counts n names = ap (λ m. n == m) (length-map names (λ name. name.now))
