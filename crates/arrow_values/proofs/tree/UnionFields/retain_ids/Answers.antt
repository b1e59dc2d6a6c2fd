use Rattle.std.proofs.Common.{rules, ◌∙◌, ap}
use Rattle.std.proofs.lemmas.Fn.{filter_same}
use Rattle.arrow_values.specs.Union.{has, retained}
use Rattle.arrow_values.proofs.Ids.{retained_ids}
use Rattle.arrow_values.proofs.tree.UnionFields.retain_ids.Goals as goal

pub returns-clause-members : goal.returns-clause-members
returns-clause-members c =
    filter_same _ (λ m. has m.0 c.args.ids.now) _ (λ x b f' k. search rules) c.self.inside.members.items c.retain.new.self.items c.retain.ensures.filtered
    ∙ ap (retained c.args.ids.now) c.self.view_is

pub returns-clause-ids : goal.returns-clause-ids
returns-clause-ids c = λ h. rw (returns-clause-members c) (retained_ids c.args.ids.now c.args.self.now h)
