-- The names of the specs that most proofs cite, passed on from one place. Declares nothing.
unfoldable pub use Rattle.std.specs.Str.{is_utf8}
pub use Rattle.serde_json.specs.Data.{Data, depth, member, members_depth, no_members, null, object, put, string, Members}
pub use Rattle.serde_json.specs.Read.{max_depth, read}
pub use Rattle.serde_json.specs.Written.{compact_text, has_float}
pub use Rattle.arrow_values.specs.Tree.{FieldTree, Metadata as Texts, Text, Tree}
pub use Rattle.arrow_values.specs.Texts.{extension_metadata, extension_name, metadata_key, name_key, put_text, remove_text, set_extension, text_at}
pub use Rattle.geoarrow_layout.specs.declared.dimensions.CoordType.{CoordType}
pub use Rattle.geoarrow_layout.specs.declared.dimensions.CoordType.TheVariants.{Interleaved, Separated}
pub use Rattle.geoarrow_layout.specs.declared.dimensions.Dimension.{Dimension}
pub use Rattle.geoarrow_layout.specs.declared.dimensions.Dimension.TheVariants.{XY}
pub use Rattle.geoarrow_layout.specs.declared.native_kinds.NativeKind.TheVariants.{GeometryCollection}
pub use Rattle.geoarrow_layout.specs.declared.native_kinds.Width.TheVariants.{Plain}
pub use Rattle.geoarrow_layout.specs.declared.native_kinds.Kind.{Kind}
pub use Rattle.geoarrow_layout.specs.declared.native_kinds.Kind.TheVariants.{Geometry as OfGeometry, Native, Rect, Wkb, Wkt}
pub use Rattle.geoarrow_layout.specs.Kinds.{coord_type_of, dimension_of, extension_of, name_of}
pub use Rattle.geoarrow_layout.specs.KindWords.{coord_type_word, dimension_word, kind_word}
pub use Rattle.geoarrow_layout.specs.Layouts.{layout}
pub use Rattle.geoarrow_meta.specs.declared.edges.Edges.{Edges}
pub use Rattle.geoarrow_meta.specs.declared.crs.crs_type.CrsType.{CrsType}
pub use Rattle.geoarrow_meta.specs.declared.metadata.Metadata.{Metadata}
pub use Rattle.geoarrow_meta.specs.Read.{DenotesMetadata}
pub use Rattle.geoarrow_meta.specs.Written.{NestsWithin, meta_value, normal, printed}
unfoldable pub use Rattle.geoarrow_native.specs.Column.{ReadsAs}
pub use Rattle.geoarrow_schema.specs.declared.types.GeoArrowType.{GeoArrowType}
pub use Rattle.geoarrow_schema.specs.Types.{SameType, kind_of, meta_of}
pub use Rattle.geoarrow_schema.specs.Reads.{HasGeoArrowName, Reads}
pub use Rattle.geoarrow_schema.specs.Normal.{IsCanonical, rewritten}
pub use Rattle.geoarrow_columns.specs.declared.check.ColumnFault.{ColumnFault}
pub use Rattle.geoarrow_columns.specs.declared.check.ColumnFault.TheVariants.{Arrow, InvalidGeoArrow}
pub use Rattle.geoarrow_columns.specs.declared.check.Column.{Column}
pub use Rattle.geoarrow_columns.specs.declared.check.Column.TheVariants.{Faulty, Geometry, Inferred as OfInferred, Other}
pub use Rattle.geoarrow_columns.specs.Report.{IsColumnOf, IsRefused, IsRefusedFor, IsReport}
pub use Rattle.field_lines.specs.Held.{held_parts, is_held, members_are_held}
pub use Rattle.field_lines.specs.Line.{field_of_line, line_of_field, parts_value, texts_value, type_value, value_of_field}
pub use Rattle.field_lines.specs.LineForm.{HasLineForm}
pub use Rattle.geoarrow_fields.specs.declared.Command.{Command}
pub use Rattle.geoarrow_fields.specs.declared.Command.TheVariants.{Canon, Columns, Infer, Read}
pub use Rattle.geoarrow_fields.specs.declared.RunEnd.{RunEnd}
pub use Rattle.geoarrow_fields.specs.declared.RunEnd.TheVariants.{Done, InputFault, Memory, OutputFault}
pub use Rattle.geoarrow_fields.specs.Lines.{Bytes, IsBegunLine, IsLine, IsPastLimit, IsSplit, IsWithinLimits, Stops, ended_lines, line_feed, lines_of, max_line_bytes, max_lines}
unfoldable pub use Rattle.geoarrow_fields.specs.Answer.{Answered, Answers}
pub use Rattle.geoarrow_fields.specs.Answer.{AnswersField, AnswersNoType, AnswersUntil, AppendsSome, FrontOf, IsCutOff, Means, ReadsAndWrites, RunsTo, column_text, error_text, inferred_text, type_text}
pub use Rattle.geoarrow_fields.specs.declared.output.Fault.{Fault}
pub use Rattle.geoarrow_fields.specs.declared.output.Fault.TheVariants.{Input, Memory as NoMemory, Output}
pub use Rattle.geoarrow_fields.specs.Progress.{AnswersLine, Breaks, HasCome, IsAt, IsCause, IsMeant, IsStopped, Moves, Passes}
