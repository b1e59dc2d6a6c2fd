-- What a call returned that gives columns their extension metadata within an amount of bytes, for private contracts.
use Rattle.std.specs.Prelude.{◌≡◌, ℕ, ◌+◌, ◌≤◌, ◌<◌, List, map, Option, Result, Ok, Err, ⊤}
use Rattle.arrow_columns.specs.Column.{column_tree}
use Rattle.arrow_columns.specs.Types.{ColumnTree}
use Rattle.arrow_columns.specs.declared.column.SchemaColumn.{SchemaColumn}
use Rattle.parquet_footer.specs.Element.{Element}
use Rattle.parquet_footer.specs.Footer.{Pairing}
use Rattle.parquet_columns.specs.Geometry.{marked, marked_columns}
use Rattle.parquet_columns.specs.Claims.{claim, claim_of, claims, made_size, made_bytes}
use Rattle.parquet_columns.specs.declared.claim.ElementClaim.{ElementClaim}
use Rattle.parquet_columns.specs.declared.marks.Marks.{Marks}
use Rattle.parquet_columns.specs.declared.error.SchemaError.{SchemaError}
use Rattle.parquet_columns.specs.declared.error.SchemaError.TheVariants.{Budget, OutOfMemory}

-- a column, what its element says beside it, and what is left of the amount behind them; or the amount is not enough for them
abbrev pub IsMarked : List Pairing → Option Element → ColumnTree → ℕ → Result (SchemaColumn × ElementClaim × ℕ) SchemaError → Type 0
IsMarked pairs e c amount (Ok p) = (column_tree p.0 ≡ marked pairs e c) × (claim p.1 ≡ claim_of pairs e c) × (made_size pairs e c + p.2 ≡ amount)
IsMarked pairs e c amount (Err Budget) = amount < made_size pairs e c
IsMarked pairs e c amount (Err OutOfMemory) = ⊤
IsMarked pairs e c amount (Err _) = ⊥

-- all columns, for which the amount is enough; or it is not
abbrev pub AreMarked : List Pairing → List Element → List ColumnTree → ℕ → Result Marks SchemaError → Type 0
AreMarked pairs es cs amount (Ok made) =
    (map column_tree made.columns.items ≡ marked_columns pairs es cs) × (map claim made.elements.items ≡ claims pairs es cs) × (made_bytes pairs es cs ≤ amount)
AreMarked pairs es cs amount (Err Budget) = amount < made_bytes pairs es cs
AreMarked pairs es cs amount (Err OutOfMemory) = ⊤
AreMarked pairs es cs amount (Err _) = ⊥
