use Rattle.std.proofs.Common.{◌≡◌, ◌++◌, OnOk, subst}
use Rattle.same_columns.specs.Differences.{of_first}
use Rattle.same_columns.specs.Ranks.{ranked_view}
use Rattle.same_columns.proofs.compare.add_first_by.Goals as goal

pub returns : goal.returns
returns c =
    subst (λ o. OnOk c.add_first.result (c.add_first.new.found.items ≡ c.args.found.now.items ++ of_first o (ranked_view c.args.first.now)))
    c.partner.ensures c.add_first.ensures
