-- What a call returned that reads within a budget, against what there is to read and what it takes.
use Rattle.std.specs.Prelude.{◌≡◌, ℕ, zero, suc, ◌+◌, ◌-◌, ◌≤◌, ◌<◌, Result, Ok, Err}
use Rattle.arrow_ipc.specs.Fault.{◌>>=◌}
use Rattle.arrow_ipc.specs.declared.fault.IpcFault.{IpcFault}
use Rattle.arrow_ipc.specs.declared.fault.IpcError.{IpcError}
use Rattle.arrow_ipc.specs.declared.fault.IpcError.TheVariants.{Broken, Budget, OutOfMemory}

-- the fault is the one that the bytes have; or what there is takes more than the budget
abbrev pub Fails : {A : Type 0} → Result (A × ℕ) IpcFault → ℕ → IpcError → Type 0
Fails there old (Broken fault) = there ≡ Err fault
Fails {A} there old (Budget place) = (v : A × ℕ) → there ≡ Ok v → old < v.1
Fails there old OutOfMemory = Unit {0}

-- what is there was read, and the budget fell by what it takes
abbrev pub Tells : {X A : Type 0} → (X → A) → Result (A × ℕ) IpcFault → ℕ → ℕ → Result X IpcError → Type 0
Tells view there old new (Ok x) = (new ≤ old) × (there ≡ Ok (view x, old - new))
Tells view there old new (Err e) = Fails there old e

-- what is there was read, where nothing is taken from a budget
abbrev pub Says : {X A : Type 0} → (X → A) → Result A IpcFault → Result X IpcError → Type 0
Says view there (Ok x) = there ≡ Ok (view x)
Says view there (Err (Broken fault)) = there ≡ Err fault
Says view there (Err (Budget place)) = ⊥
Says view there (Err OutOfMemory) = Unit {0}

-- one step after another, and what both take
infixl 10 ◌>>+◌
abbrev pub ◌>>+◌ : {A B : Type 0} → Result (A × ℕ) IpcFault → (A → Result (B × ℕ) IpcFault) → Result (B × ℕ) IpcFault
(Ok x) >>+ f = f x.0 >>= λ y. Ok (y.0, x.1 + y.1)
(Err e) >>+ f = Err e

-- what so many elements give one after the other from an index on, each put to what came before, and what they take in all
unfoldable pub gather : {S : Type 0} → (S → ℕ → Result (S × ℕ) IpcFault) → S → ℕ → ℕ → Result (S × ℕ) IpcFault
gather put s i zero = Ok (s, 0)
gather put s i (suc n) = put s i >>+ λ x. gather put x (i + 1) n
