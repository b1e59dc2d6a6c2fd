-- Reports, field by field.
use Rattle.std.proofs.Common.{◌≡◌, ◌∙◌, ◌<◌, ℕ, ◌+◌, take, length, get_or, ◌⊎◌, inl, inr, sym, ap, subst, List, [], ◌∷◌, ◌++◌, Option, Some, None, Global}
use Rattle.std.proofs.lemmas.List.{take_more}
use Rattle.std.specs.Arc.{arc_value}
use Rattle.std.specs.declared.sync.Arc.{Arc}
use Rattle.arrow_values.specs.Tree.{Tree, FieldTree}
use Rattle.arrow_values.specs.Texts.{extension_metadata}
use Rattle.arrow_values.specs.Errors.{IsMemory}
use Rattle.arrow_values.specs.declared.error.ArrowError.{ArrowError}
use Rattle.arrow_values.specs.declared.error.GeoArrowError.{GeoArrowError}
use Rattle.arrow_values.specs.declared.error.GeoArrowError.TheVariants.{Arrow as OfArrow}
use Rattle.geoarrow_layout.specs.declared.native_kinds.Kind.{Kind}
use Rattle.geoarrow_layout.specs.Inferred.{YieldsInferred}
use Rattle.geoarrow_meta.specs.declared.metadata.Metadata.{Metadata}
use Rattle.geoarrow_meta.specs.Read.{DenotesMetadata}
use Rattle.geoarrow_schema.specs.declared.types.GeoArrowType.{GeoArrowType}
use Rattle.geoarrow_schema.specs.Types.{kind_of, metadata_of}
use Rattle.geoarrow_schema.specs.Reads.{HasGeoArrowName, IsRefusedBy}
use Rattle.geoarrow_schema.specs.Infers.{Infers, InfersAs, InfersNone}
use Rattle.geoarrow_columns.specs.declared.check.ColumnFault.TheVariants.{Arrow, InvalidGeoArrow}
use Rattle.geoarrow_columns.specs.declared.check.Column.{Column}
use Rattle.geoarrow_columns.specs.declared.check.Column.TheVariants.{Faulty}
use Rattle.geoarrow_columns.specs.Report.{refused_for, IsColumnOf, IsFaultyBy, IsReport}

report_more : (fs : List FieldTree) (cs : List Column) (f : FieldTree) (c : Column) → IsReport fs cs → IsColumnOf f c → IsReport (fs ++ f ∷ []) (cs ++ c ∷ [])
report_more [] [] f c h g = (g, tt)
report_more (e ∷ fs) (d ∷ cs) f c h g = (h.0, report_more fs cs f c h.1 g)
report_more _ _ f c h g = absurd h

-- one more of the fields
pub report_next : (fs : List FieldTree) (i : ℕ) (cs ds : List Column) (f : FieldTree) (c : Column) → i < length fs → f ≡ get_or fs i f → ds ≡ cs ++ c ∷ []
    → IsReport (take i fs) cs → IsColumnOf f c → IsReport (take (i + 1) fs) ds
report_next fs i cs ds f c within is pushed before here =
    rw (take_more fs i f within ∙ ap (λ x. take i fs ++ x ∷ []) (sym is), pushed) (report_more (take i fs) cs f c before here)

-- what a field without a GeoArrow name is taken for
pub taken_for : (f : FieldTree) (t : Tree) (r : Option Kind) (k : Kind) (m : Arc Metadata Global) (g : GeoArrowType) → t ≡ f.tree → YieldsInferred t r → r ≡ Some k → kind_of g ≡ k → metadata_of g ≡ m
    → ¬ HasGeoArrowName f → DenotesMetadata (extension_metadata f) (arc_value m) → Infers f g
unfolding InfersAs
taken_for f t r k m g same yields is kind meta unnamed stands = (unnamed, rw meta stands, rw (kind, ← same) ((yields k).0 is))

pub taken_for_none : (f : FieldTree) (t : Tree) (r : Option Kind) → t ≡ f.tree → YieldsInferred t r → r ≡ None → InfersNone f
unfolding InfersAs
taken_for_none f t r same yields none k m h = let some : r ≡ Some k = (yields k).1 (rw same h.2) in absurd cc

-- a field that is refused under a GeoArrow name, or whose metadata text is, is a column of the fault of its error
pub named_faulty : (f : FieldTree) (e : GeoArrowError) → IsRefusedBy f e → IsFaultyBy f e
named_faulty f e refused InvalidGeoArrow rich is = refused_for f e InvalidGeoArrow rich is refused
named_faulty f e refused Arrow rich is = inl (refused_for f e Arrow rich is refused)

pub unread_faulty : (f : FieldTree) (a : ArrowError) → ¬ HasGeoArrowName f → IsMemory a ⊎ ((m : Metadata) → ¬ DenotesMetadata (extension_metadata f) m) → IsFaultyBy f (OfArrow a)
unread_faulty f a unnamed (inl memory) fault rich is = absurd (rich (ap OfArrow memory))
unread_faulty f a unnamed (inr none) fault rich is = subst (λ x. IsColumnOf f (Faulty x)) (sym is) (inr (unnamed, none))
