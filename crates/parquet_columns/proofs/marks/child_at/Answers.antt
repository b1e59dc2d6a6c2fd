use Rattle.std.proofs.Common.{sym, ◌∙◌}
use Rattle.std.proofs.lemmas.Option.{slice_get-map}
use Rattle.parquet_footer.specs.Element.{element}
use Rattle.parquet_columns.proofs.Children.{child_is}
use Rattle.parquet_columns.proofs.marks.child_at.Goals as goal

pub returns : goal.returns
returns c = child_is c.args.children.now c.args.at c.get.result c.get.ensures.lookup ∙ sym (slice_get-map element c.args.children.now c.args.at)
