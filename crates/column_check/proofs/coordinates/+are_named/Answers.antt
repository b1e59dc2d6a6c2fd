use Rattle.std.proofs.Common.{rules, ◌≡◌, ◌<◌, ◌==◌, Bool, false, Bor, List, [], ◌∷◌, length, map, ◌∙◌, arith}
use Rattle.std.specs.Str.{bytes_eq}
use Rattle.std.specs.Cmp.Lexicographic.{pointwise}
use Rattle.arrow_values.specs.Tree.{Text}
use Rattle.column_check.proofs.coordinates.+are_named.Goals as goal

-- where there are no others, there are to be no names
without_others : (ns os : List (Bor Text)) (b : Bool) → length os < 1 → b ≡ (length ns == 0) → b ≡ pointwise bytes_eq (map (λ name. name.now) ns) (map (λ name. name.now) os)
without_others [] [] b lt is = is
without_others (n ∷ ns) [] b lt is = let some : (length (n ∷ ns) == 0) ≡ false = first_of (search rules, grind arith) in is ∙ some
without_others ns (o ∷ os) b lt is = absurd (omega arith)

pub returns-in_default : goal.returns-in_default
returns-in_default t c = without_others c.args.names.now c.args.others.now c.is_empty.result c.in_default.len_below c.is_empty.ensures
