-- What a report says of a column.
use Rattle.std.specs.Prelude.{◌≡◌, ◌⊎◌, List, [], ◌∷◌, ⊤}
use Rattle.std.proofs.Common.{inl, inr, sym, subst}
use Rattle.arrow_values.specs.Tree.{FieldTree}
use Rattle.arrow_values.specs.Texts.{extension_metadata}
use Rattle.arrow_values.specs.Errors.{IsGeoMemory}
use Rattle.arrow_values.specs.declared.error.GeoArrowError.{GeoArrowError}
use Rattle.arrow_values.specs.declared.error.GeoArrowError.TheVariants.{Arrow as OfArrow, InvalidGeoArrow as Invalid}
use Rattle.geoarrow_meta.specs.declared.metadata.Metadata.{Metadata}
use Rattle.geoarrow_meta.specs.Read.{DenotesMetadata}
use Rattle.geoarrow_schema.specs.Reads.{HasGeoArrowName, Reads, ReadsAsNone, HasWrongStorage, IsRefusedBy}
use Rattle.geoarrow_schema.specs.Infers.{Infers, InfersNone}
use Rattle.geoarrow_columns.specs.declared.check.ColumnFault.{ColumnFault}
use Rattle.geoarrow_columns.specs.declared.check.ColumnFault.TheVariants.{Arrow, InvalidGeoArrow}
use Rattle.geoarrow_columns.specs.declared.check.Column.{Column}
use Rattle.geoarrow_columns.specs.declared.check.Column.TheVariants.{Geometry, Inferred, Other, Faulty}

-- the field has a GeoArrow name, and is read as no type
abbrev pub IsRefused : FieldTree → Type 0
IsRefused f = HasGeoArrowName f × ReadsAsNone f

-- the field is refused for that fault: `InvalidGeoArrow` if it has the name of well-known binary or text without a data type
-- of that name, otherwise `Arrow`
abbrev pub IsRefusedFor : FieldTree → ColumnFault → Type 0
IsRefusedFor f InvalidGeoArrow = IsRefused f × HasWrongStorage f
IsRefusedFor f Arrow = IsRefused f × ¬ HasWrongStorage f

-- the field has no GeoArrow name, and its metadata text denotes no metadata
abbrev pub IsUnread : FieldTree → Type 0
IsUnread f = ¬ HasGeoArrowName f × ((m : Metadata) → ¬ DenotesMetadata (extension_metadata f) m)

-- the entry says what the field holds; `Other` where the field has no GeoArrow name, no type is inferred from its data type, and its
-- metadata text denotes a metadata
abbrev pub IsColumnOf : FieldTree → Column → Type 0
IsColumnOf f (Geometry g) = Reads f g
IsColumnOf f (Inferred g) = Infers f g
IsColumnOf f Other = ¬ HasGeoArrowName f × InfersNone f × ((m : Metadata) × DenotesMetadata (extension_metadata f) m)
IsColumnOf f (Faulty InvalidGeoArrow) = IsRefusedFor f InvalidGeoArrow
IsColumnOf f (Faulty Arrow) = IsRefusedFor f Arrow ⊎ IsUnread f

-- there is one entry for each field, in order
abbrev pub IsReport : List FieldTree → List Column → Type 0
IsReport [] [] = ⊤
IsReport (f ∷ fs) (c ∷ cs) = IsColumnOf f c × IsReport fs cs
IsReport _ _ = ⊥

-- the fault is the variant of the error
abbrev pub IsVariantOf : GeoArrowError → ColumnFault → Type 0
IsVariantOf (Invalid s) fault = fault ≡ InvalidGeoArrow
IsVariantOf _ fault = fault ≡ Arrow

-- a field that is refused with that error, but not because memory ran out, is a column of the fault of the error
abbrev pub IsFaultyBy : FieldTree → GeoArrowError → Type 0
IsFaultyBy f e = (fault : ColumnFault) → ¬ IsGeoMemory e → IsVariantOf e fault → IsColumnOf f (Faulty fault)

-- a field that is refused, but not because memory ran out, is refused for the fault of that error
pub refused_for : (f : FieldTree) (e : GeoArrowError) (fault : ColumnFault) → ¬ IsGeoMemory e → IsVariantOf e fault → IsRefusedBy f e → IsRefusedFor f fault
refused_for f e fault rich is (named, inl memory) = absurd (rich memory)
refused_for f (Invalid s) fault rich is (named, inr (none, refused)) = subst (IsRefusedFor f) (sym is) ((named, none), refused)
refused_for f (OfArrow a) fault rich is (named, inr (none, refused)) = subst (IsRefusedFor f) (sym is) ((named, none), refused.0)
refused_for f e fault rich is (named, inr (none, refused)) = absurd refused
