use Rattle.std.proofs.Common.{sym, ◌∙◌}
use Rattle.std.proofs.lemmas.Option.{slice_get-map}
use Rattle.parquet_columns.specs.Places.{child}
use Rattle.parquet_columns.proofs.Placed.{place_is}
use Rattle.parquet_columns.proofs.places.child_among.Goals as goal

pub returns : goal.returns
returns c = place_is c.args.children.now c.args.at c.get.result c.get.ensures.lookup ∙ sym (slice_get-map child c.args.children.now c.args.at)
