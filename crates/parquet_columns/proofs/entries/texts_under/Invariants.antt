use Rattle.std.proofs.Common.{◌≡◌, map, flat_map, take}
use Rattle.arrow_ipc.specs.Entries.{entry}
use Rattle.parquet_columns.specs.Entries.{text_under}
use Rattle.parquet_columns.proofs.entries.texts_under.Given as goal

abbrev pub invariant-loop-one : goal.invariant-loop-one
invariant-loop-one l = map (λ t. t.now) l.texts.items ≡ flat_map (text_under l.key) (map entry (take l.one-index l.entries))
