-- What a geometry type says, without where its texts lie, for private contracts.
use Rattle.arrow_values.specs.Texts.{text_of}
use Rattle.parquet_columns.specs.Geometry.{GeometrySays}
use Rattle.parquet_columns.specs.declared.geometry.GeometrySays as declared

abbrev pub says : declared.GeometrySays → GeometrySays
says g = record { crs = text_of g.crs; edges = g.edges; said = g.said }
