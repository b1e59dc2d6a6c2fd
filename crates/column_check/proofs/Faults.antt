-- A type is of a kind, or has one fault.
use Rattle.std.proofs.Common.{◌≡◌, []}
use Rattle.arrow_values.specs.Tree.{Tree}
use Rattle.arrow_columns.specs.Types.{TypeTree}
use Rattle.arrow_columns.specs.Outlines.{outline}
use Rattle.arrow_columns.specs.declared.outline.Outline.TheVariants.{Layout as LayoutOf}
use Rattle.geoarrow_layout.specs.declared.names.ExtensionName.{ExtensionName}
use Rattle.geoarrow_layout.specs.declared.native_kinds.Kind.{Kind}
use Rattle.geoarrow_layout.specs.declared.fault.LayoutFault.{LayoutFault}
use Rattle.geoarrow_layout.specs.declared.fault.LayoutFault.TheVariants.{UnexpectedType}
use Rattle.geoarrow_layout.specs.Kinds.{name_text}
use Rattle.geoarrow_layout.specs.Candidates.{IsAccepted}
use Rattle.geoarrow_layout.specs.FaultAt.{Path, FaultAt}
use Rattle.column_check.specs.Types.{TypeAccepted, HasTypeFault}
use Rattle.column_check.specs.Unique.{SameTypeFault}
use Rattle.column_check.specs.declared.data_type.TypeFault.{TypeFault}
use Rattle.column_check.specs.declared.data_type.TypeFault.TheVariants.{WrongStorage, Layout}

-- a type of a kind under a name has no fault under it
pub type_apart : ((n : ExtensionName) (t : Tree) (p : Path) (fault : LayoutFault) → IsAccepted (name_text n) t → ¬ FaultAt n t p fault)
    → (n : ExtensionName) (t : TypeTree) (k : Kind) (f : TypeFault) → TypeAccepted n t k → HasTypeFault n t f → ⊥
type_apart no_fault n t k WrongStorage h g = no_fault n (outline LayoutOf t) [] UnexpectedType (k, h) g.1
type_apart no_fault n t k (Layout fault path) h g = no_fault n (outline LayoutOf t) path.items fault (k, h) g.1

-- two faults of a type under a name are the same
pub one_type_fault : ((n : ExtensionName) (t : Tree) (p q : Path) (f g : LayoutFault) → FaultAt n t p f → FaultAt n t q g → (p ≡ q) × (f ≡ g))
    → (n : ExtensionName) (t : TypeTree) (f g : TypeFault) → HasTypeFault n t f → HasTypeFault n t g → SameTypeFault f g
one_type_fault one_fault n t WrongStorage WrongStorage h k = tt
one_type_fault one_fault n t WrongStorage (Layout g second) h k = absurd (k.0 h.0)
one_type_fault one_fault n t (Layout f path) WrongStorage h k = absurd (h.0 k.0)
one_type_fault one_fault n t (Layout f path) (Layout g second) h k =
    let same = one_fault n (outline LayoutOf t) path.items second.items f g h.1 k.1 in
    (same.1, same.0)
