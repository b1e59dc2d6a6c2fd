-- When two entries of a report are the same.
use Rattle.std.specs.Prelude.{◌≡◌}
use Rattle.geoarrow_schema.specs.Types.{SameType}
use Rattle.geoarrow_columns.specs.declared.check.Column.{Column}
use Rattle.geoarrow_columns.specs.declared.check.Column.TheVariants.{Geometry, Inferred, Other, Faulty}

-- the same variant, with the same type or the same fault
abbrev pub SameColumn : Column → Column → Type 0
SameColumn (Geometry g) (Geometry h) = SameType g h
SameColumn (Inferred g) (Inferred h) = SameType g h
SameColumn Other Other = Unit {0}
SameColumn (Faulty e) (Faulty f) = e ≡ f
SameColumn _ _ = ⊥
