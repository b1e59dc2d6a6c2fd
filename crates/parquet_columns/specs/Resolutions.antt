-- A stored column by its element, for private contracts.
use Rattle.std.specs.Prelude.{option_map}
use Rattle.arrow_columns.specs.Column.{column_tree}
use Rattle.parquet_footer.specs.Element.{element}
use Rattle.parquet_columns.specs.declared.resolved.Beside as places
use Rattle.parquet_columns.specs.declared.resolved.Resolution as declared
use Rattle.parquet_columns.specs.Findings.{finding}
use Rattle.parquet_columns.specs.Resolved.{Beside, Resolution}

abbrev pub resolution : declared.Resolution → Resolution
resolution r = record { column = column_tree r.column; found = option_map finding r.found; refuted = r.refuted }

abbrev pub beside_tree : places.Beside → Beside
beside_tree b = record {
  element = option_map (λ e. element e.now) b.element;
  column = option_map (λ c. column_tree c.now) b.column;
  compared = option_map (λ c. column_tree c.now) b.compared;
  takes = b.takes;
}
