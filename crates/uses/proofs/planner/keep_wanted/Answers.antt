use Rattle.std.proofs.Common.{rules, ◌≡◌, ◌∙◌, sym, ap, refl}
use Rattle.std.proofs.lemmas.Bool.{false≢true}
use Rattle.arrow_values.specs.Tree.{union}
use Rattle.arrow_values.specs.View.{member_trees}
use Rattle.arrow_values.specs.Union.{retained}
use Rattle.uses.specs.Columns.{members_of}
use Rattle.uses.proofs.Unions.{members_of_union, narrowed_union, none_where_empty, some_where_not_empty, narrowed_reads}
use Rattle.uses.proofs.planner.keep_wanted.Goals as goal

pub returns-then-is_empty-clause-exact : goal.returns-then-is_empty-clause-exact
returns-then-is_empty-clause-exact c =
    let was : c.args.field.now.tree ≡ union (member_trees c.in-Union.members) c.in-Union.mode = search rules in
    let kept : c.keep_members.new.members ≡ retained c.args.wanted.now (members_of c.args.field.now.tree) =
    c.keep_members.ensures.members ∙ ap (retained c.args.wanted.now) (sym (members_of_union _ _ _ was)) in
    let none = none_where_empty c.keep_members.new.members (sym c.is_empty.ensures ∙ c.if-is_empty.true) in
    (λ fails. absurd (false≢true fails), λ some. absurd (some (sym kept ∙ none)))

pub returns-clause-exact : goal.returns-clause-exact
returns-clause-exact c =
    let was : c.args.field.now.tree ≡ union (member_trees c.in-Union.members) c.in-Union.mode = search rules in
    let kept : c.keep_members.new.members ≡ retained c.args.wanted.now (members_of c.args.field.now.tree) =
    c.keep_members.ensures.members ∙ ap (retained c.args.wanted.now) (sym (members_of_union _ _ _ was)) in
    let some = some_where_not_empty c.keep_members.new.members (sym c.is_empty.ensures ∙ c.if-is_empty.false) in
    (λ holds none. some (kept ∙ none), λ h. refl)

pub returns-clause-narrowed : goal.returns-clause-narrowed
returns-clause-narrowed c =
    let was : c.args.field.now.tree ≡ union (member_trees c.in-Union.members) c.in-Union.mode = search rules in
    let made : c.with_data_type.result ≡ record c.args.field.now { tree = union (member_trees c.keep_members.new.members) c.in-Union.mode } = search rules in
    made ∙ ap (λ t. record c.args.field.now { tree = t }) (narrowed_union c.args.wanted.now _ _ _ _ was c.keep_members.ensures.members)

pub returns-clause-geometry : goal.returns-clause-geometry
returns-clause-geometry c =
    let was : c.args.field.now.tree ≡ union (member_trees c.in-Union.members) c.in-Union.mode = search rules in
    let made : c.with_data_type.result ≡ record c.args.field.now { tree = union (member_trees c.keep_members.new.members) c.in-Union.mode } = search rules in
    let some = some_where_not_empty c.keep_members.new.members (sym c.is_empty.ensures ∙ c.if-is_empty.false) in
    λ coord_type metadata. narrowed_reads _ _ _ _ _ _ coord_type metadata was made (c.keep_members.ensures.geometry some coord_type)
