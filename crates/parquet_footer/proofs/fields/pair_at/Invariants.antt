use Rattle.std.proofs.Common.{◌≡◌, ◌-◌, length, None}
use Rattle.parquet_footer.specs.Skip.{fields_at}
use Rattle.parquet_footer.specs.Fields.{spots, noting}
use Rattle.parquet_footer.proofs.fields.pair_at.Given as goal

abbrev pub invariant-fields : goal.invariant-fields
invariant-fields l =
    fields_at (noting l.one l.other) (length l.bytes - l.i) l.last (spots l.first, spots l.second) l.rest ≡ fields_at (noting l.one l.other) (length l.bytes) 0 (None, None) l.bytes
