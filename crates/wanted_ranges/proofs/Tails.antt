-- The size of a footer is told by the last bytes of a file alone.
use Rattle.std.proofs.Common.{◌≡◌, ℕ, ◌+◌, ◌-◌, ◌≤◌, true, nat_le, List, ◌++◌, length, take, drop, refl, sym, ap, ◌∙◌, arith}
use Rattle.std.proofs.Math.Seq.{drop-append-add}
use Rattle.std.proofs.lemmas.Bool.{le-leb}
use Rattle.std.proofs.lemmas.List.{length-append, length-drop, take-append-drop}
use Rattle.column_files.specs.Endings.{last}
use Rattle.wanted_ranges.specs.Wanted.{arrow_told, parquet_told}

-- the last bytes of a file are those of its end
pub same_last : (n : ℕ) (front end : List ℕ) → n ≤ length end → last n (front ++ end) ≡ last n end
same_last n front end fits =
    let at : length (front ++ end) - n ≡ length front + (length end - n) = omega (arith, fits, length-append front end) in
    ap (λ k. drop k (front ++ end)) at ∙ drop-append-add front end (length end - n)

pub same_arrow : (front end : List ℕ) → 10 ≤ length end → arrow_told (front ++ end) ≡ arrow_told end
same_arrow front end fits =
    let one : nat_le 10 (length end) ≡ true = le-leb 10 (length end) fits in
    let other : nat_le 10 (length (front ++ end)) ≡ true = le-leb 10 (length (front ++ end)) (omega (arith, fits, length-append front end)) in
    rw (one, other, same_last 10 front end fits) refl

pub same_parquet : (front end : List ℕ) → 8 ≤ length end → parquet_told (front ++ end) ≡ parquet_told end
same_parquet front end fits =
    let one : nat_le 8 (length end) ≡ true = le-leb 8 (length end) fits in
    let other : nat_le 8 (length (front ++ end)) ≡ true = le-leb 8 (length (front ++ end)) (omega (arith, fits, length-append front end)) in
    rw (one, other, same_last 8 front end fits) refl

-- what bytes tell is told by the last of them, where these are as many as stand behind a footer
abbrev pub IsToldByLast : ℕ → (List ℕ → ℕ) → Type 0
IsToldByLast k told = (bytes : List ℕ) (n : ℕ) → k ≤ n → k ≤ length bytes → told (last n bytes) ≡ told bytes

by_last : (k : ℕ) (told : List ℕ → ℕ) → ((front end : List ℕ) → k ≤ length end → told (front ++ end) ≡ told end) → IsToldByLast k told
by_last k told same bytes n fits long =
    let at = length bytes - n in
    let room : k ≤ length (drop at bytes) = omega (arith, fits, long, length-drop at bytes) in
    sym (same (take at bytes) (drop at bytes) room) ∙ ap told (take-append-drop at bytes)

pub arrow_last : IsToldByLast 10 arrow_told
arrow_last = by_last 10 arrow_told same_arrow

pub parquet_last : IsToldByLast 8 parquet_told
parquet_last = by_last 8 parquet_told same_parquet
