-- The numbers of kinds in type ids; that encodings of one coordinate type and one dimension are the same.
use Rattle.std.specs.Prelude.{◌≡◌, ℤ, pos, ◌≤ℤ◌}
use Rattle.std.proofs.Common.{◌∙◌, ap, arith}
use Rattle.geoarrow_layout.specs.declared.native_kinds.NativeKind.{NativeKind}
use Rattle.geoarrow_layout.specs.declared.native_kinds.NativeKind.TheVariants.{Point}
use Rattle.geoarrow_layout.specs.Kinds.{offset_of}
use Rattle.geoarrow_native.specs.declared.boxes.Rect.{Rect}
use Rattle.geoarrow_native.specs.declared.geometry.Geometry.{Geometry}
use Rattle.geoarrow_native.specs.declared.native.Native.{Native}

-- the number of each kind is 1 to 7
pub within_at : (i : ℤ) (k : NativeKind) → i ≡ pos (offset_of k) → (pos 1 ≤ℤ i) × (i ≤ℤ pos 7)
within_at i Point e = rw e (omega arith, omega arith)
within_at i _ e = rw e (omega arith, omega arith)

pub same_box : (a b : Rect) → a.dimension ≡ b.dimension → a ≡ b
same_box a b e = ap {B = Rect} (λ d. record { dimension = d }) e

pub same_geometry : (a b : Geometry) → a.coord_type ≡ b.coord_type → a ≡ b
same_geometry a b e = ap {B = Geometry} (λ c. record { coord_type = c }) e

pub same_native : {S : Type 0} (a b : Native S) → (a.coord_type ≡ b.coord_type) × (a.dimension ≡ b.dimension) → a ≡ b
same_native {S} a b e =
    ap {B = Native S} (λ c. record { coord_type = c; dimension = a.dimension; shape = a.shape }) e.0
    ∙ ap {B = Native S} (λ d. record { coord_type = b.coord_type; dimension = d; shape = a.shape }) e.1
