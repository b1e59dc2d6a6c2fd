-- Structs one after the other, as a loop reads them.
use Rattle.std.proofs.Common.{◌≡◌, ℕ, suc, ◌+◌, ◌-◌, ◌<◌, ◌≤◌, List, [], ◌∷◌, ◌++◌, Result, Ok, Err, refl, sym, ap, ◌∙◌, append_assoc, arith}
use Rattle.std.proofs.lemmas.List.{append-nil}
use Rattle.parquet_footer.specs.declared.fault.Fault.{Fault}
use Rattle.parquet_footer.specs.declared.fault.Stop.{Stop}
use Rattle.parquet_footer.specs.declared.fault.Stop.TheVariants as stops
use Rattle.parquet_footer.specs.Fault.{◌>>=◌, Stops, Gives}
use Rattle.parquet_footer.specs.Footer.{all_at}

-- what was read before, and what is still read
abbrev pub with_front : {A : Type 0} → List A → Result (List A) Fault → Result (List A) Fault
with_front front read = read >>= λ xs. Ok (front ++ xs)

regroup : {A : Type 0} (front : List A) (x : A) (read : Result (List A) Fault) → with_front front (read >>= λ xs. Ok (x ∷ xs)) ≡ with_front (front ++ x ∷ []) read
regroup {A} front x (Ok xs) = ap (λ (ys : List A). Ok ys) (simp append_assoc)
regroup front x (Err e) = refl

pub starts : {A : Type 0} (read : Result (List A) Fault) → with_front [] read ≡ read
starts (Ok xs) = refl
starts (Err e) = refl

pub stopped : {X Y : Type 0} (view : X → Y) (read : Result Y Fault) (r : Result X Stop) (e : Stop) → r ≡ Err e → Stops e read → Gives view r read
stopped view read (Ok x) e is f = absurd (cc)
stopped view read (Err stops.Memory) e is f = tt
stopped view read (Err (stops.Fault d)) stops.Memory is f = absurd (cc)
stopped view read (Err (stops.Fault d)) (stops.Fault e) is f = let same : e ≡ d = cc in f ∙ ap (λ (e : Fault). Err e) same

-- behind i structs of count
module _ {A : Type 0} (item : List ℕ → Result (A × List ℕ) Fault) (front : List A) (count i : ℕ) (bytes : List ℕ) (total : Result (List A) Fault) (so_far : with_front front (all_at item (count - i) bytes) ≡ total) where
  pub all_go_on : (x : A) (rest : List ℕ) → i < count → item bytes ≡ Ok (x, rest) → with_front (front ++ x ∷ []) (all_at item (count - (i + 1)) rest) ≡ total
  unfolding all_at
  all_go_on x rest more is =
      let m = count - (i + 1) in
      let next : count - i ≡ suc m = omega arith in
      let one : with_front front (all_at item (count - i) bytes) ≡ with_front (front ++ x ∷ []) (all_at item m rest) = rw (next, is) (regroup front x (all_at item m rest)) in
      sym one ∙ so_far

  pub all_stop : (e : Fault) → i < count → item bytes ≡ Err e → total ≡ Err e
  unfolding all_at
  all_stop e more is =
      let next : count - i ≡ suc (count - (i + 1)) = omega arith in
      let one : with_front front (all_at item (count - i) bytes) ≡ Err e = rw (next, is) refl in
      sym so_far ∙ one

  pub all_done : count ≤ i → total ≡ Ok front
  unfolding all_at
  all_done none =
      let last : count - i ≡ 0 = omega arith in
      let one : with_front front (all_at item (count - i) bytes) ≡ Ok front = rw last (ap (λ (xs : List A). Ok xs) (append-nil front)) in
      sym so_far ∙ one
