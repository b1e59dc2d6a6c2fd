use Rattle.std.proofs.Common.{◌≡◌, ◌++◌, drop}
use Rattle.json.specs.Value.{members_view}
use Rattle.arrow_values.specs.Tree.{Text}
use Rattle.geoparquet.specs.RepeatedKeys.{values_at, values_in}
use Rattle.geoparquet.proofs.repeated_keys.values_by_key.Given as goal

-- the values so far, and behind them those that are left
abbrev pub invariant-loop-member : goal.invariant-loop-member
invariant-loop-member l = (key : Text) → values_in l.values key ++ values_at key (members_view (drop l.member-index l.members)) ≡ values_at key (members_view l.members)
