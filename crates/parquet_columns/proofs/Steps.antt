-- From what a step returned to what a call returned.
use Rattle.std.proofs.Common.{◌≡◌, Result, Err, subst, sym}
use Rattle.parquet_columns.specs.declared.error.SchemaError.{SchemaError}

-- an error was handed on
pub handed : {X : Type 0} (Is : Result X SchemaError → Type 0) (r : Result X SchemaError) (e : SchemaError) → r ≡ Err e → Is (Err e) → Is r
handed Is r e same f = subst Is (sym same) f
