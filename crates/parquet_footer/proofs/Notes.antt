-- The steps by which two fields of a struct are noted.
use Rattle.std.proofs.Common.{◌≡◌, ℕ, List, length, Option, None, Result, Ok, Err, refl}
use Rattle.parquet_footer.specs.declared.fault.Fault.{Fault}
use Rattle.parquet_footer.specs.Skip.{fields_at, value_past}
use Rattle.parquet_footer.specs.Fields.{Spot, noted, noting, pair_at}

pub pair_by : (one other : ℕ) (bytes : List ℕ) (r : Result ((Option Spot × Option Spot) × List ℕ) Fault) → fields_at (noting one other) (length bytes) 0 (None, None) bytes ≡ r → pair_at one other bytes ≡ r
unfolding pair_at
pair_by one other bytes r e = e

module _ (one other id kind : ℕ) (value : List ℕ) (a b : Option Spot) where
  pub step_fails : (e : Fault) → value_past 64 kind value ≡ Err e → noting one other (a, b) id kind value ≡ Err e
  unfolding noting
  step_fails e is = rw is refl

  module _ (rest : List ℕ) (passed : value_past 64 kind value ≡ Ok rest) where
    pub first_fails : (e : Fault) → noted one id (kind, value) a ≡ Err e → noting one other (a, b) id kind value ≡ Err e
    unfolding noting
    first_fails e is = rw (passed, is) refl

    pub second_fails : (x : Option Spot) (e : Fault) → noted one id (kind, value) a ≡ Ok x → noted other id (kind, value) b ≡ Err e → noting one other (a, b) id kind value ≡ Err e
    unfolding noting
    second_fails x e first is = rw (passed, first, is) refl

    pub step_is : (x y : Option Spot) → noted one id (kind, value) a ≡ Ok x → noted other id (kind, value) b ≡ Ok y → noting one other (a, b) id kind value ≡ Ok ((x, y), rest)
    unfolding noting
    step_is x y first second = rw (passed, first, second) refl
