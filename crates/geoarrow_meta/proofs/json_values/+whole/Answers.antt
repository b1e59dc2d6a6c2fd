use Rattle.std.proofs.Common.{◌≡◌, true, List, [], ◌∷◌, String, Global, string_cmp, sym, ap, ◌∙◌, rules}
use Rattle.std.specs.Ordering.{is_lt}
use Rattle.std.specs.List.Sorted.{IsStrictlySortedBy}
use Rattle.std.specs.Map.{keys_of}
use Rattle.serde_json.specs.View.{view, members_view}
use Rattle.serde_json.specs.declared.value.Value.{Value}
use Rattle.geoarrow_meta.specs.Whole.{is_whole, members_are_whole}
use Rattle.geoarrow_meta.proofs.json_values.+whole.Goals as goal

-- where a member is whole, the members after it decide
member_passed : (es : List (String Global × Value)) (e : String Global × Value) (rest : List (String Global × Value)) → es ≡ e ∷ rest → IsStrictlySortedBy string_cmp (keys_of es) → is_whole (view e.1) ≡ true
    → IsStrictlySortedBy string_cmp (keys_of rest) × (members_are_whole (members_view es) ≡ members_are_whole (members_view rest))
unfolding IsStrictlySortedBy
member_passed es e [] is h whole = let sorted = rw is at h in (sorted.1, rw (is, whole))
member_passed es e (f ∷ rest) is h whole = let sorted = rw is at h in (sorted.1, rw (is, ap is_lt sorted.0.0, whole))

pub members_hold_whole-loop-key-preserved : goal.members_hold_whole-loop-key-preserved
members_hold_whole-loop-key-preserved t c =
    let whole = sym c.holds_whole_numbers.ensures.integers ∙ c.if-not-holds_whole_numbers.false in
    let rest = member_passed _ (c.in-Some._key.now, c.in-Some.member.now) c.next.new.self c.in-Some.ensures.steps c.loop-key.invariant.ordered whole in
    record { ordered = rest.0; integers = c.loop-key.invariant.integers ∙ rest.1; no_float = search rules }
