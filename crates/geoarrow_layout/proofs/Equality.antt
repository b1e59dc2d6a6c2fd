-- The derived `==` of kinds and summaries answers true exactly at equal values.
use Rattle.geoarrow_layout.proofs.Terms.{Bare, sameb, same_true, true_same, Declared, ◌≡◌, Bool, Option, None, Some, refl, ap, Decides-and, Decides-like, Decides, booleans_Decides, unsigned_Decides, signed_Decides, option_eq, Kind, OfNative, OfGeometry, OfRect, OfWkb, OfWkt, Bottom, FixedSizeList, Struct, Union, OtherWidth, Summary}
use Rattle.geoarrow_layout.specs.contracts.native_kinds.KindPartialEq.TheImpl as kinds
use Rattle.geoarrow_layout.specs.contracts.native_kinds.NativeKind as native_kind
use Rattle.geoarrow_layout.specs.contracts.native_kinds.Width as width
use Rattle.geoarrow_layout.specs.contracts.dimensions.CoordType as coord_type
use Rattle.geoarrow_layout.specs.contracts.dimensions.Dimension as dimension
use Rattle.geoarrow_layout.specs.contracts.fault.LayoutFault as fault
use Rattle.geoarrow_layout.specs.contracts.summary.ListWidth as list_width
use Rattle.geoarrow_layout.specs.contracts.summary.BottomPartialEq.TheImpl as bottoms
use Rattle.geoarrow_layout.specs.contracts.summary.SummaryPartialEq.TheImpl as summaries

-- of an enum with no fields
pub bare_decides : (D : Declared) → Bare D.parts → (a b : D.D) → Decides (sameb D a b) (a ≡ b)
bare_decides D bare a b = (same_true D bare a b, true_same D a b)

pub option_decides : {A : Type 0} (E : A → A → Bool) → ((x y : A) → Decides (E x y) (x ≡ y)) → (o p : Option A) → Decides (option_eq E o p) (o ≡ p)
option_decides E d None None = (λ h. refl, λ p. refl)
option_decides E d (Some x) (Some y) = Decides-like _ (λ p. ap Some p) (λ p. cc) (d x y)
option_decides E d _ _ = (λ h. cc, λ p. cc)

pub kind_decides : (a b : Kind) → Decides ((kinds.eq-value).it a b) (a ≡ b)
kind_decides (OfNative k c d) (OfNative l b e) =
    Decides-like _ (λ p. cc) (λ p. (cc, (cc, cc)))
    (Decides-and _ _ (bare_decides native_kind.the_type tt k l) (Decides-and _ _ (bare_decides coord_type.the_type tt c b) (bare_decides dimension.the_type tt d e)))
kind_decides (OfGeometry c) (OfGeometry b) = Decides-like _ (λ p. ap OfGeometry p) (λ p. cc) (bare_decides coord_type.the_type tt c b)
kind_decides (OfRect d) (OfRect e) = Decides-like _ (λ p. ap OfRect p) (λ p. cc) (bare_decides dimension.the_type tt d e)
kind_decides (OfWkb v) (OfWkb w) = Decides-like _ (λ p. ap OfWkb p) (λ p. cc) (bare_decides width.the_type tt v w)
kind_decides (OfWkt v) (OfWkt w) = Decides-like _ (λ p. ap OfWkt p) (λ p. cc) (bare_decides width.the_type tt v w)
kind_decides _ _ = (λ h. cc, λ p. cc)

pub bottom_decides : (a b : Bottom) → Decides ((bottoms.eq-value).it a b) (a ≡ b)
bottom_decides (FixedSizeList named size float64) (FixedSizeList other_named other_size other_float64) =
    Decides-like _ (λ p. cc) (λ p. (cc, (cc, cc))) (Decides-and _ _ (option_decides _ (bare_decides dimension.the_type tt) named other_named) (Decides-and _ _ (signed_Decides size other_size) (booleans_Decides float64 other_float64)))
bottom_decides (Struct count names float64) (Struct other_count other_names other_float64) =
    Decides-like _ (λ p. cc) (λ p. (cc, (cc, cc))) (Decides-and _ _ (unsigned_Decides count other_count) (Decides-and _ _ (unsigned_Decides names other_names) (booleans_Decides float64 other_float64)))
bottom_decides (Union none ids coords dims mixed geometry) (Union other_none other_ids other_coords other_dims other_mixed other_geometry) =
    Decides-like _ (λ p. cc) (λ p. (cc, (cc, (cc, (cc, (cc, cc))))))
    (Decides-and _ _ (booleans_Decides none other_none) (Decides-and _ _ (unsigned_Decides ids other_ids) (Decides-and _ _ (unsigned_Decides coords other_coords) (Decides-and _ _ (unsigned_Decides dims other_dims)
    (Decides-and _ _ (option_decides _ (bare_decides fault.the_type tt) mixed other_mixed) (option_decides _ (bare_decides fault.the_type tt) geometry other_geometry))))))
bottom_decides _ OtherWidth = (λ h. cc, λ p. cc)
bottom_decides _ _ = (λ h. cc, λ p. cc)

pub summary_decides : (a b : Summary) → Decides ((summaries.eq-value).it a b) (a ≡ b)
summary_decides a b =
    Decides-like _ (λ p i. record { levels = p.0 i; width = p.1.0 i; bottom = p.1.1 i }) (λ p. (ap (λ s. s.levels) p, (ap (λ s. s.width) p, ap (λ s. s.bottom) p)))
    (Decides-and _ _ (unsigned_Decides a.levels b.levels) (Decides-and _ _ (option_decides _ (bare_decides list_width.the_type tt) a.width b.width) (bottom_decides a.bottom b.bottom)))
