-- The size of a footer is told by the end of a file alone.
use Rattle.std.proofs.Common.{◌≡◌, ◌⊎◌, inl, inr, ℕ, ◌+◌, ◌-◌, ◌^◌, ◌<◌, ◌≤◌, min, Bool, true, false, ◌&&◌, ◌==◌, nat_lt, nat_le, List, [], ◌∷◌, ◌++◌, length, take, drop, if◌then◌else◌, Result, Ok, Err, refl, sym, ap, ◌∙◌, subst, codes, arith}
use Rattle.std.specs.Str.{bytes_eq}
use Rattle.std.proofs.Math.Seq.{drop-append-add}
use Rattle.std.proofs.lemmas.Bool.{le-leb}
use Rattle.std.proofs.lemmas.List.{length-append, length-drop}
use Rattle.parquet_footer.specs.Tail.{word, length_at}
use Rattle.parquet_footer.specs.declared.fault.FooterError.{FooterError}
use Rattle.parquet_footer.specs.declared.fault.FooterError.TheVariants.{NotParquet, Encrypted, Invalid, Memory}
use Rattle.column_files.specs.Endings.{End, size_in, last, file_size, cut, is_size, sized, wrong_size, is_arrow_end, arrow_footer_size, parquet_by, parquet_footer_size, most, tail_of}
use Rattle.column_files.specs.declared.ending.Ending.{Ending}
use Rattle.column_files.specs.declared.ending.Ending.TheVariants.{Arrow, Parquet}

-- the file has as many bytes, however many of them are given
pub same_size : (front end : List ℕ) → file_size 0 (front ++ end) ≡ file_size (length front) end
same_size front end = ap (λ n. min n (2 ^ 64 - 1)) (omega (arith, length-append front end))

-- its last bytes are those of the end
pub same_last : (n : ℕ) (front end : List ℕ) → n ≤ length end → last n (front ++ end) ≡ last n end
same_last n front end fits =
    let at : length (front ++ end) - n ≡ length front + (length end - n) = omega (arith, fits, length-append front end) in
    ap (λ k. drop k (front ++ end)) at ∙ drop-append-add front end (length end - n)

same_cut : (e : Ending) (size : ℕ) (front end : List ℕ) → 8 ≤ length end → cut e size (front ++ end) ≡ cut e size end
same_cut e size front end fits = rw (same_last 8 front end fits) refl

-- a size that the end has room for
same_sized : (e : Ending) (size : ℕ) (front end : List ℕ) (told : ℕ) → told ≤ length end - tail_of e → sized e size (front ++ end) told ≡ sized e size end told
same_sized e size front end told fits =
    let one : nat_le told (length end - tail_of e) ≡ true = le-leb told (length end - tail_of e) fits in
    let other : nat_le told (length (front ++ end) - tail_of e) ≡ true = le-leb told (length (front ++ end) - tail_of e) (omega (arith, fits, length-append front end)) in
    rw (one, other) refl

-- ---- Arrow files

pub same_arrow : (size : ℕ) (front end : List ℕ) → 10 + size_in (last 10 end) ≤ length end → arrow_footer_size size (front ++ end) ≡ arrow_footer_size size end
same_arrow size front end fits =
    let ten : 10 ≤ length end = omega (arith, fits) in
    let one : nat_le 10 (length end) ≡ true = le-leb 10 (length end) ten in
    let other : nat_le 10 (length (front ++ end)) ≡ true = le-leb 10 (length (front ++ end)) (omega (arith, ten, length-append front end)) in
    let tail = same_last 10 front end ten in
    rw (one, other, tail) (by_magic (bytes_eq (drop 4 (last 10 end)) (codes "ARROW1")))
  where
    by_magic : (t : Bool) → (if true && t then sized Arrow size (front ++ end) (size_in (last 10 end)) else Err (cut Arrow size (front ++ end)))
        ≡ (if true && t then sized Arrow size end (size_in (last 10 end)) else Err (cut Arrow size end))
    by_magic true = same_sized Arrow size front end (size_in (last 10 end)) (omega (arith, fits))
    by_magic false = ap Err (same_cut Arrow size front end (omega (arith, fits)))

-- ---- Parquet files

-- the size that is told
told_is : (tail : List ℕ) → 4 ≤ length tail → word (take 4 tail) ≡ size_in tail
told_is [] few = absurd (omega (arith, few))
told_is (a ∷ []) few = absurd (omega (arith, few))
told_is (a ∷ b ∷ []) few = absurd (omega (arith, few))
told_is (a ∷ b ∷ c ∷ []) few = absurd (omega (arith, few))
told_is (a ∷ b ∷ c ∷ d ∷ rest) few = refl

told_if : (t u : Bool) (n told : ℕ) → (if t then Ok n else (if u then Err Encrypted else Err NotParquet)) ≡ Ok told → told ≡ n
told_if true u n told is = cc
told_if false true n told is = absurd (other is)
  where
    other : (let r : Result ℕ FooterError = Err Encrypted in r ≡ Ok told) → ⊥
    other is = cc
told_if false false n told is = absurd (other is)
  where
    other : (let r : Result ℕ FooterError = Err NotParquet in r ≡ Ok told) → ⊥
    other is = cc

tail_told : (tail : List ℕ) (told : ℕ) → 4 ≤ length tail → length_at tail ≡ Ok told → told ≡ size_in tail
unfolding length_at
tail_told tail told four is =
    told_if (word (drop 4 tail) == word (codes "PAR1")) (word (drop 4 tail) == word (codes "PARE")) (word (take 4 tail)) told is ∙ told_is tail four

-- by the last bytes of a Parquet file
pub told_by : (end : List ℕ) (told : ℕ) → 8 ≤ length end → length_at (last 8 end) ≡ Ok told → told ≡ size_in (last 8 end)
told_by end told eight is = tail_told (last 8 end) told (omega (arith, eight, length-drop (length end - 8) end)) is

by_length : (size : ℕ) (front end : List ℕ) (r : Result ℕ FooterError) → 8 ≤ length end → ((told : ℕ) → r ≡ Ok told → told ≤ length end - 8) → parquet_by size (front ++ end) r ≡ parquet_by size end r
by_length size front end (Ok told) fits small = same_sized Parquet size front end told (small told refl)
by_length size front end (Err NotParquet) fits small = ap Err (same_cut Parquet size front end fits)
by_length size front end (Err Encrypted) fits small = refl
by_length size front end (Err (Invalid rule at)) fits small = ap Err (same_cut Parquet size front end fits)
by_length size front end (Err Memory) fits small = ap Err (same_cut Parquet size front end fits)

pub same_parquet : (size : ℕ) (front end : List ℕ) → 8 + size_in (last 8 end) ≤ length end → parquet_footer_size size (front ++ end) ≡ parquet_footer_size size end
same_parquet size front end fits =
    let eight : 8 ≤ length end = omega (arith, fits) in
    let one : nat_le 8 (length end) ≡ true = le-leb 8 (length end) eight in
    let other : nat_le 8 (length (front ++ end)) ≡ true = le-leb 8 (length (front ++ end)) (omega (arith, eight, length-append front end)) in
    let tail = same_last 8 front end eight in
    rw (one, other, tail) (by_length size front end (length_at (last 8 end)) eight (λ told is. omega (arith, fits, told_by end told eight is)))
