-- Steps one after the other, as a loop makes them; and columns as trees.
use Rattle.std.proofs.Common.{◌≡◌, ℕ, suc, ◌+◌, ◌-◌, ◌<◌, ◌≤◌, List, [], ◌∷◌, ◌++◌, take, drop, map}
use Rattle.std.proofs.Common.{Result, Ok, Err, refl, sym, ap, ◌∙◌, arith}
use Rattle.std.proofs.lemmas.List.{take-map, drop-map, map_push}
use Rattle.arrow_columns.specs.Column.{column_tree}
use Rattle.arrow_columns.specs.declared.column.SchemaColumn.{SchemaColumn}
use Rattle.record_wire.specs.Fault.{◌>>=◌, within}
use Rattle.record_wire.specs.Trees.{head_at, steps}
use Rattle.record_wire.specs.declared.fault.Fault.{Fault}
use Rattle.record_columns.specs.Errors.{Stops}
use Rattle.record_columns.specs.declared.error.RecordsError.{RecordsError}
use Rattle.record_columns.specs.declared.error.RecordsError.TheVariants as errors

module _ {S : Type 0} (put : S → List ℕ → Result (S × List ℕ) Fault) where
  pub begins : (s : S) (count : ℕ) (bytes : List ℕ)
      → steps put (count - 0) s bytes ≡ steps put count s bytes
  begins s count bytes = let k : count - 0 ≡ count = omega arith in rw k refl

  -- behind i steps of count, which are the rest of all
  module _ (s : S) (i count : ℕ) (bytes : List ℕ) (all : Result (S × List ℕ) Fault)
      (is : steps put (count - i) s bytes ≡ all) where
    turn : i < count → steps put (count - i) s bytes
        ≡ (put s bytes >>= λ x. steps put (count - (i + 1)) x.0 x.1)
    unfolding steps
    turn more = let k : count - i ≡ suc (count - (i + 1)) = omega arith in rw k refl

    pub goes_on : i < count → (t : S) (rest : List ℕ) → put s bytes ≡ Ok (t, rest)
        → steps put (count - (i + 1)) t rest ≡ all
    goes_on more t rest one = sym (sym is ∙ turn more
        ∙ ap (λ r. r >>= λ x. steps put (count - (i + 1)) x.0 x.1) one)

    fails : i < count → (e : Fault) → put s bytes ≡ Err e → all ≡ Err e
    fails more e one = sym is ∙ turn more
        ∙ ap (λ r. r >>= λ x. steps put (count - (i + 1)) x.0 x.1) one

    pub breaks_off : i < count → (e : RecordsError) → Stops e (put s bytes) → Stops e all
    breaks_off more (errors.Fault e) f = fails more e f
    breaks_off more errors.OutOfMemory f = tt

    pub is_done : count ≤ i → all ≡ Ok (s, bytes)
    unfolding steps
    is_done none = let k : count - i ≡ 0 = omega arith in sym is ∙ rw k refl

pub ruleset record_steps = (begins, goes_on, breaks_off, is_done)

pub taken : (xs : List SchemaColumn) (k : ℕ)
    → take k (map column_tree xs) ≡ map column_tree (take k xs)
taken xs k = take-map column_tree k xs

pub dropped : (xs : List SchemaColumn) (k : ℕ)
    → drop k (map column_tree xs) ≡ map column_tree (drop k xs)
dropped xs k = drop-map column_tree k xs

pub ruleset cut_trees = (taken, dropped)

pub pushed : (xs : List SchemaColumn) (x : SchemaColumn)
    → map column_tree (xs ++ x ∷ []) ≡ map column_tree xs ++ column_tree x ∷ []
pushed xs x = map_push column_tree xs x

-- a head counts at least one record
some : (bytes : List ℕ) (n : ℕ) (rest : List ℕ) → head_at bytes ≡ Ok (n, rest) → 1 ≤ n
unfolding head_at
some bytes n rest is = grind arith

pub is_some : (bytes : List ℕ) (n : ℕ) (rest : List ℕ)
    → within bytes (head_at bytes) ≡ Ok (n, rest) → 1 ≤ n
is_some bytes n rest is = grind (arith, some)
