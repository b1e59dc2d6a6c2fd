use Rattle.std.proofs.Common.{◌≡◌, ◌++◌, List, OnOk, subst}
use Rattle.same_columns.specs.Differences.{AreOfOther}
use Rattle.same_columns.specs.Ranks.{ranked_view}
use Rattle.same_columns.specs.declared.difference.Difference.{Difference}
use Rattle.same_columns.proofs.compare.add_by.Goals as goal

pub returns : goal.returns
returns c =
    subst (λ o. OnOk c.add_other.result ((ds : List Difference) × AreOfOther o (ranked_view c.args.other.now) ds × (c.add_other.new.found.items ≡ c.args.found.now.items ++ ds)))
    c.partner.ensures c.add_other.ensures
