-- What there is, or the rule that is broken and by which element; and what a call returns of it.
use Rattle.std.specs.Prelude.{◌≡◌, ℕ, Result, Ok, Err}
use Rattle.parquet_columns.specs.declared.fault.SchemaRule.{SchemaRule}
use Rattle.parquet_columns.specs.declared.fault.ElementFault.{ElementFault}
use Rattle.parquet_columns.specs.declared.fault.ColumnsError.{ColumnsError}
use Rattle.parquet_columns.specs.declared.fault.ColumnsError.TheVariants.{Broken, OutOfMemory}

infixl 10 ◌>>=◌
abbrev pub ◌>>=◌ : {A B : Type 0} → Result A ElementFault → (A → Result B ElementFault) → Result B ElementFault
(Ok x) >>= f = f x
(Err e) >>= f = Err e

abbrev pub map_ok : {A B : Type 0} → (A → B) → Result A ElementFault → Result B ElementFault
map_ok f (Ok x) = Ok (f x)
map_ok f (Err e) = Err e

abbrev pub breaks : {A : Type 0} → SchemaRule → ℕ → Result A ElementFault
breaks rule at = Err (record { rule = rule; at = at })

-- a call returned, seen by view, what there is; or the fault that there is, or it is out of memory
abbrev pub Says : {X A : Type 0} → (X → A) → Result A ElementFault → Result X ColumnsError → Type 0
Says view there (Ok x) = there ≡ Ok (view x)
Says view there (Err (Broken fault)) = there ≡ Err fault
Says view there (Err OutOfMemory) = Unit {0}
