use Rattle.std.proofs.Common.{◌≡◌, option_map, string_bytes, ◌∙◌}
use Rattle.json.specs.Value.{value_view}
use Rattle.arrow_columns.specs.Column.{column_tree}
use Rattle.geoparquet.specs.Counting.{crs_that_counts}
use Rattle.geoparquet.specs.Sources.{element_view}
use Rattle.geoparquet.specs.declared.counting.Asked.TheVariants.{Projected}
use Rattle.geoparquet.proofs.Worded.{is_worded}
use Rattle.geoparquet.proofs.counting.counts_projected.Goals as goal

pub returns : goal.returns
returns c =
    let crs = crs_that_counts c.args.version (option_map (λ v. column_tree v.now) c.args.column) (option_map (λ e. element_view e.now) c.args.element) (value_view c.args.member.now) in
    c.is_some.ensures ∙ is_worded string_bytes c.in_ok-word.word Projected crs c.in_ok-word.ensures
