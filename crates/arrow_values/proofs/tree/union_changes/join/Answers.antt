use Rattle.std.proofs.Common.{◌≡◌, List, [], ◌∷◌, append-nil, drop, refl, sym, ◌∙◌}
use Rattle.std.proofs.lemmas.List.{nil_from_length}
use Rattle.std.specs.List.{zip}
use Rattle.std.specs.Vec.Iter.{into_iter_items}
use Rattle.arrow_values.proofs.tree.union_changes.join.Goals as goal

zip_none : {K X : Type 0} (ks : List K) → zip {X = X} ks [] ≡ []
zip_none [] = refl
zip_none (k ∷ ks) = refl

pub returns-in_default-clause-members : goal.returns-in_default-clause-members
returns-in_default-clause-members c =
    let none : into_iter_items c.loop-id.rest ≡ [] = nil_from_length (into_iter_items c.loop-id.rest) (sym c.loop-id.rest.rest.ok.0 ∙ c.in_default.ensures.cases.0) in
    sym (append-nil c.loop-id.members.items) ∙ (rw (none, zip_none (drop c.loop-id.id-index c.deref-id-items.result.now)) at c.loop-id.invariant)
