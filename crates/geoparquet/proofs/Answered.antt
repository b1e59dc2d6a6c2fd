-- What a call answers, by two of its clauses.
use Rattle.std.proofs.Common.{Result, Ok, Err, IfOk}

pub both : {X Y : Type 0} (r : Result X Y) (P Q : X → Type 0) → IfOk r P → IfOk r Q → IfOk r (λ x. P x × Q x)
both (Ok x) P Q p q = (p, q)
both (Err e) P Q p q = tt
