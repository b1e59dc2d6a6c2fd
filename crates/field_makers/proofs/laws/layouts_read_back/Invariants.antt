use Rattle.std.specs.List.{AllWithin}
use Rattle.geoarrow_layout.specs.declared.native_kinds.TheConstants.Kind.{ALL}
use Rattle.geoarrow_layout.specs.Layouts.{layout}
use Rattle.geoarrow_layout.specs.Shapes.{Accepted}
use Rattle.field_makers.proofs.laws.layouts_read_back.Given as goal

abbrev pub invariant-loop-kind : goal.invariant-loop-kind
invariant-loop-kind l = AllWithin (λ k. Accepted k (layout k)) ALL 0 l.kind-index
