-- The names that most proofs cite, passed on from one place. Declares nothing.
pub use Rattle.std.proofs.Common.{◌≡◌, ◌⊎◌, ◌∙◌, inl, inr, ap, sym, subst, Option, Some, Result, Ok, Err, IfOk, IfErr, refl, true, false, codes, cond, ◌<◌, ◌≤◌, ℕ, suc, arith}
pub use Rattle.std.proofs.lemmas.Option.{same_Some}
pub use Rattle.std.specs.Arc.{arc_value}
pub use Rattle.std.specs.declared.sync.Arc.{Arc}
pub use Rattle.std.specs.declared.alloc.Global.{Global}
pub use Rattle.arrow_values.specs.Texts.{extension_metadata, SetsExtension, name_key, metadata_key, set_extension}
pub use Rattle.arrow_values.specs.Errors.{IsMemory, IsGeoMemory, IsInvalidOf}
pub use Rattle.arrow_values.specs.declared.error.ArrowError.{ArrowError}
pub use Rattle.arrow_values.specs.declared.error.GeoArrowError.{GeoArrowError}
pub use Rattle.arrow_values.specs.declared.error.GeoArrowError.TheVariants.{Arrow, InvalidGeoArrow}
pub use Rattle.geoarrow_layout.specs.declared.native_kinds.Width.{Width}
pub use Rattle.geoarrow_layout.specs.declared.native_kinds.Kind.{Kind}
pub use Rattle.geoarrow_layout.specs.Cited.{name_text, extension_of, name_of, Accepts, Accepted, IsBytes, IsText, Inferred, InferredAs, YieldsInferred, layout, leaf_layout, Text, Tree, FieldTree, plain, list, large_list, fixed_size_list, struct}
pub use Rattle.geoarrow_layout.specs.declared.dimensions.CoordType.{CoordType}
pub use Rattle.geoarrow_layout.specs.declared.dimensions.Dimension.{Dimension}
pub use Rattle.geoarrow_layout.specs.declared.native_kinds.NativeKind.TheVariants.{Point}
pub use Rattle.geoarrow_layout.specs.declared.native_kinds.Kind.TheVariants.{Native}
pub use Rattle.geoarrow_meta.specs.declared.metadata.Metadata.{Metadata}
pub use Rattle.geoarrow_meta.specs.Read.{DenotesMetadata, TextRefusedAs, empty}
unfoldable pub use Rattle.geoarrow_native.specs.Column.{ReadsAs}
pub use Rattle.geoarrow_schema.specs.declared.types.GeoArrowType.{GeoArrowType}
pub use Rattle.geoarrow_schema.specs.Types.{kind_of, metadata_of, meta_of, SameType}
pub use Rattle.geoarrow_schema.specs.Reads.{HasName, HasGeoArrowName, Reads, ReadsAsNone, ReadsAlone, HasWrongStorage, ColumnRefusedAs, IsRefusedBy, IsTypeRefusal, writes}
unfoldable pub use Rattle.geoarrow_schema.specs.Infers.{InfersAs}
pub use Rattle.geoarrow_schema.specs.Infers.{ReadsOrInfersAlone, Infers, ReadsOrInfers, InfersNone, uninferred_text, UninferredAs, IsInferenceRefusal, IsInference, IsInferable, IsBareColumn}
