-- The derived `==` of columns answers true exactly at the same variant with the same type or the same fault.
use Rattle.std.proofs.Common.{◌↔◌, IsTrue, refl}
use Rattle.geoarrow_schema.specs.declared.types.GeoArrowType.{GeoArrowType}
use Rattle.geoarrow_schema.specs.contracts.types.GeoArrowTypePartialEq.TheImpl as types
use Rattle.geoarrow_schema.specs.Types.{SameType}
use Rattle.geoarrow_columns.specs.declared.check.Column.{Column}
use Rattle.geoarrow_columns.specs.declared.check.Column.TheVariants.{Geometry, Inferred, Other, Faulty}
use Rattle.geoarrow_columns.specs.declared.check.ColumnFault.TheVariants.{Arrow, InvalidGeoArrow}
use Rattle.geoarrow_columns.specs.contracts.check.ColumnPartialEq.TheImpl as columns
use Rattle.geoarrow_columns.specs.Same.{SameColumn}

pub column_test : ((g h : GeoArrowType) → IsTrue ((types.eq-value).it g h) ↔ SameType g h) → (c d : Column) → IsTrue ((columns.eq-value).it c d) ↔ SameColumn c d
column_test law (Geometry g) (Geometry h) = law g h
column_test law (Inferred g) (Inferred h) = law g h
column_test law Other Other = (λ h. tt, λ p. refl)
column_test law (Faulty Arrow) (Faulty Arrow) = (λ h. refl, λ p. refl)
column_test law (Faulty InvalidGeoArrow) (Faulty InvalidGeoArrow) = (λ h. refl, λ p. refl)
column_test law (Faulty _) (Faulty _) = (λ h. absurd cc, λ p. absurd cc)
column_test law _ _ = (λ h. absurd cc, λ p. absurd p)
