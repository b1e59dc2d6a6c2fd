use Rattle.std.proofs.Common.{map, ap, sym, subst, ◌∙◌}
use Rattle.same_columns.specs.Compared.{compared}
use Rattle.same_columns.specs.Ranks.{AreNamed, ranked_view}
use Rattle.same_columns.proofs.Joining.{all_differences}
use Rattle.same_columns.proofs.compare.differences.Goals as goal

pub returns : goal.returns
returns c =
    let first = c.in_ok-first.first in
    let other = c.in_ok-other.other in
    all_differences (map compared c.args.first.now) (map compared c.args.other.now) c.as_slice-2.result.now c.as_slice.result.now
    first.by_name other.by_name c.new-found.result.items c.add_others.new.found.items c.add_firsts.new.found.items c.new-found.ensures.items
    (ap (map ranked_view) c.as_slice-2.ensures.value ∙ c.in_ok-first.ensures.all)
    (subst (λ xs. AreNamed (map ranked_view xs) first.by_name) (sym c.as_slice-2.ensures.value) c.in_ok-first.ensures.named)
    (ap (map ranked_view) c.as_slice.ensures.value ∙ c.in_ok-other.ensures.all)
    (subst (λ xs. AreNamed (map ranked_view xs) other.by_name) (sym c.as_slice.ensures.value) c.in_ok-other.ensures.named)
    c.in_ok-add_others.ensures c.in_ok-add_firsts.ensures
