use Rattle.std.proofs.Common.{◌≡◌, ◌&&◌, IfOk, sym, ap, subst, ◌∙◌}
use Rattle.json.specs.Value.{members_view, value_view}
use Rattle.json.proofs.Trees.{view-Object}
use Rattle.crs_identity.specs.Equality.{equal_members, has_keys}
use Rattle.crs_identity.proofs.Objects.{objects_equal}
use Rattle.crs_identity.proofs.equality.+equal.Goals as goal

pub json_equal-returns-then-not-has_keys : goal.json_equal-returns-then-not-has_keys
json_equal-returns-then-not-has_keys t c =
    let x = c.in-Object-Object.x in
    let y = c.in-Object-Object.y in
    let j = value_view c.args.b.now in
    let equal = objects_equal (value_view c.args.a.now) j (members_view x.items) (members_view y.items) (ap value_view c.in-Object-Object.is-0 ∙ view-Object x) (ap value_view c.in-Object-Object.is-1 ∙ view-Object y) in
    let found : c.has_keys.result ≡ has_keys (members_view y.items) (members_view x.items) = c.has_keys.ensures ∙ (λ k. has_keys (members_view (c.as_slice.ensures.value k)) (members_view (c.as_slice-in-Object-Object.ensures.value k))) in
    sym (equal ∙ ap (λ b. b && equal_members (members_view x.items) j) (sym found ∙ c.if-not-has_keys.true))

pub json_equal-returns-else-not-has_keys : goal.json_equal-returns-else-not-has_keys
json_equal-returns-else-not-has_keys t c =
    let x = c.in-Object-Object.x in
    let y = c.in-Object-Object.y in
    let j = value_view c.args.b.now in
    let equal = objects_equal (value_view c.args.a.now) j (members_view x.items) (members_view y.items) (ap value_view c.in-Object-Object.is-0 ∙ view-Object x) (ap value_view c.in-Object-Object.is-1 ∙ view-Object y) in
    let found : c.has_keys.result ≡ has_keys (members_view y.items) (members_view x.items) = c.has_keys.ensures ∙ (λ k. has_keys (members_view (c.as_slice.ensures.value k)) (members_view (c.as_slice-in-Object-Object.ensures.value k))) in
    subst (λ r. IfOk c.equal_members.result (λ answer. answer ≡ r)) (sym (equal ∙ ap (λ b. b && equal_members (members_view x.items) j) (sym found ∙ c.if-not-has_keys.false))) c.equal_members.ensures
