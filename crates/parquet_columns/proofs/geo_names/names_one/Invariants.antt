use Rattle.std.proofs.Common.{◌≡◌, length}
use Rattle.json.specs.Value.{members_view}
use Rattle.parquet_columns.specs.GeoNames.{names_one}
use Rattle.parquet_columns.proofs.geo_names.names_one.Given as goal

-- the members that are left decide
abbrev pub invariant-members : goal.invariant-members
invariant-members l = names_one l.name (members_view l.members) ≡ names_one l.name (members_view l.left)

abbrev pub decreases-members : goal.decreases-members
decreases-members l = length l.left
