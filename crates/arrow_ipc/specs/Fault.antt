-- What is read, or the rule that is broken and where.
use Rattle.std.specs.Prelude.{ℕ, Result, Ok, Err}
use Rattle.arrow_ipc.specs.declared.fault.IpcFault.{IpcFault}
use Rattle.arrow_ipc.specs.declared.fault.IpcRule.{IpcRule}

infixl 10 ◌>>=◌
abbrev pub ◌>>=◌ : {A B : Type 0} → Result A IpcFault → (A → Result B IpcFault) → Result B IpcFault
(Ok x) >>= f = f x
(Err e) >>= f = Err e

abbrev pub breaks : {A : Type 0} → IpcRule → ℕ → Result A IpcFault
breaks rule at = Err (record { rule = rule; at = at })

abbrev pub map_ok : {A B : Type 0} → (A → B) → Result A IpcFault → Result B IpcFault
map_ok f (Ok x) = Ok (f x)
map_ok f (Err e) = Err e
