-- Which column a record is in, record by record, as a loop goes over them.
use Rattle.std.proofs.Common.{◌≡◌, ℕ, suc, ◌+◌, ◌-◌, ◌<◌, ◌≤◌, List, Ok, Err, refl, sym, ap, ◌∙◌, arith}
use Rattle.column_files.specs.declared.refusal.Place.{Place}
use Rattle.column_files.specs.declared.refusal.Place.TheVariants.{File}
use Rattle.geoarrow_c.specs.Places.{step, found, place_from}

pub begins : (count left before : ℕ) (bytes : List ℕ) → place_from (count - 0) left before bytes ≡ place_from count left before bytes
begins count left before bytes = let k : count - 0 ≡ count = omega arith in rw k refl

-- behind i records of count, which are the rest of all
module _ (i count left before : ℕ) (bytes : List ℕ) (all : Place) (is : place_from (count - i) left before bytes ≡ all) where
  turn : i < count → place_from (count - i) left before bytes ≡ found (step left before bytes) (λ more rest. place_from (count - (i + 1)) left more rest)
  unfolding place_from
  turn one = let k : count - i ≡ suc (count - (i + 1)) = omega arith in rw k refl

  pub goes_on : i < count → (more : ℕ) (rest : List ℕ) → step left before bytes ≡ Ok (more, rest) → place_from (count - (i + 1)) left more rest ≡ all
  goes_on one more rest steps = sym (sym is ∙ turn one ∙ ap (λ s. found s (λ more rest. place_from (count - (i + 1)) left more rest)) steps)

  pub is_there : i < count → (place : Place) → step left before bytes ≡ Err place → place ≡ all
  is_there one place steps = sym (sym is ∙ turn one ∙ ap (λ s. found s (λ more rest. place_from (count - (i + 1)) left more rest)) steps)

  pub is_nowhere : count ≤ i → File ≡ all
  unfolding place_from
  is_nowhere none = let k : count - i ≡ 0 = omega arith in sym (sym is ∙ rw k refl)
