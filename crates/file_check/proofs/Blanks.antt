-- Blanks, 40 at once.
use Rattle.std.proofs.Common.{◌≡◌, ℕ, ◌+◌, ◌*◌, ◌%◌, ◌<◌, ◌≤◌, List, ◌++◌, replicate, take, slice_index, Result, Ok, Err, OnOk, ap, ◌∙◌, append_assoc, arith, if◌then◌else◌}
use Rattle.std.specs.Result.{is_ok}
use Rattle.std.proofs.lemmas.List.{take-replicate, get_or-replicate, replicate-append-replicate}

-- so many blanks, and then some more
pub behind : (before text next rest : List ℕ) (n m all : ℕ) → text ≡ before ++ replicate n 32 → next ≡ text ++ rest → rest ≡ replicate m 32 → n + m ≡ all → next ≡ before ++ replicate all 32
behind before text next rest n m all so_far is more count =
    is ∙ ap (λ t. t ++ rest) so_far ∙ append_assoc before (replicate n 32) rest
    ∙ ap (λ r. before ++ r) (ap (λ r. replicate n 32 ++ r) more ∙ replicate-append-replicate n m 32 ∙ ap (λ k. replicate k 32) count)

pub ends : {U E : Type 0} (r : Result U E) (before text next rest : List ℕ) (n count : ℕ) → text ≡ before ++ replicate (40 * n) 32
    → rest ≡ take (count % 40) (replicate 40 32) → 40 * n + count % 40 ≡ count → next ≡ (if is_ok r then text ++ rest else text) → OnOk r (next ≡ before ++ replicate count 32)
ends (Ok u) before text next rest n count so_far more all is = behind before text next rest (40 * n) (count % 40) count so_far is (more ∙ take-replicate (count % 40) 40 32 (omega arith)) all
ends (Err e) before text next rest n count so_far more all is = tt

-- a blank is a character of one byte
pub is_cut : (k : ℕ) → k ≤ 40 → (k ≤ 40) × (k < 40 → 128 ≤ slice_index (replicate 40 32) k → 192 ≤ slice_index (replicate 40 32) k)
is_cut k le = (le, λ lt past. let blank : slice_index (replicate 40 32) k ≡ 32 = get_or-replicate 40 k 32 0 lt in absurd (omega arith))
