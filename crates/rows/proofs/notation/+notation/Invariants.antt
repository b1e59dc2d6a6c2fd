use Rattle.std.proofs.Common.{◌+◌, ◌*◌}
use Rattle.rows.proofs.notation.+notation.Given as goal

abbrev pub decreases-read_type : goal.decreases-read_type
decreases-read_type l = 3 * l.levels

abbrev pub decreases-read_field : goal.decreases-read_field
decreases-read_field l = 3 * l.levels + 1

abbrev pub decreases-read_fields : goal.decreases-read_fields
decreases-read_fields l = 3 * l.levels + 2

abbrev pub decreases-read_members : goal.decreases-read_members
decreases-read_members l = 3 * l.levels + 2
