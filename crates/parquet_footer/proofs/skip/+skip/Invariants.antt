use Rattle.std.proofs.Common.{◌≡◌, ◌+◌, ◌*◌, ◌-◌, length}
use Rattle.parquet_footer.specs.Skip.{fields_at, items_past, over, pair_past, value_past}
use Rattle.parquet_footer.proofs.skip.+skip.Given as goal

abbrev pub decreases-value_past : goal.decreases-value_past
decreases-value_past l = 3 * l.levels

abbrev pub decreases-nested_past : goal.decreases-nested_past
decreases-nested_past l = 3 * l.levels + 2

abbrev pub decreases-struct_past : goal.decreases-struct_past
decreases-struct_past l = 3 * l.levels + 1

abbrev pub invariant-struct_past-fields : goal.invariant-struct_past-fields
invariant-struct_past-fields l =
    fields_at (over (value_past l.levels)) (length l.bytes - l.i) l.last tt l.rest ≡ fields_at (over (value_past l.levels)) (length l.bytes) 0 tt l.bytes

abbrev pub decreases-items_past : goal.decreases-items_past
decreases-items_past l = 3 * l.levels + 1

abbrev pub invariant-items_past-items : goal.invariant-items_past-items
invariant-items_past-items l =
    items_past (value_past l.levels l.kind) (l.count - l.i) l.rest ≡ items_past (value_past l.levels l.kind) l.count l.bytes

abbrev pub decreases-pairs_past : goal.decreases-pairs_past
decreases-pairs_past l = 3 * l.levels + 1

abbrev pub invariant-pairs_past-pairs : goal.invariant-pairs_past-pairs
invariant-pairs_past-pairs l =
    items_past (pair_past (value_past l.levels) l.key l.other) (l.count - l.i) l.rest ≡ items_past (pair_past (value_past l.levels) l.key l.other) l.count l.bytes
