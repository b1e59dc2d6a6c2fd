-- What is read of an Arrow or Parquet file of some size is told by its end alone.
use Rattle.std.proofs.Common.{◌≡◌, ◌↔◌, ℕ, ◌+◌, ◌-◌, ◌≤◌, Bool, true, false, true≢false, ◌&&◌, nat_lt, nat_le, List, [], ◌∷◌, ◌++◌, length, take, drop, if◌then◌else◌, Result, Ok, Err, refl, sym, ap, ◌∙◌, subst, codes, arith}
use Rattle.std.specs.Str.{bytes_eq}
use Rattle.std.proofs.Math.Seq.{drop-append-add, take-append-add}
use Rattle.std.proofs.lemmas.Bool.{le-leb, le-ltb, leb-true, and_parts, and_left, and_right}
use Rattle.std.proofs.lemmas.List.{length-append, length-take-le}
use Rattle.arrow_ipc.specs.Schema.{footer_in, size_before_magic, cut, schema_of_footer}
use Rattle.arrow_ipc.specs.Entries.{entries_of_footer}
use Rattle.parquet_footer.specs.Tail.{length_at}
use Rattle.parquet_footer.specs.declared.fault.FooterError.{FooterError}
use Rattle.parquet_footer.specs.declared.fault.FooterError.TheVariants.{NotParquet, Encrypted, Invalid, Memory}
use Rattle.parquet_columns.specs.Reads as parquet
use Rattle.parquet_columns.specs.Reads.{footer_before}
use Rattle.column_files.specs.Endings.{End, size_in, last, is_arrow_end, arrow_footer_size, parquet_footer_size, parquet_by}
use Rattle.column_files.specs.Files.{IsSchemaRead, IsArrowBy, IsArrowRead, IsFooterRead, IsParquetBy, IsParquetRead}
use Rattle.column_files.specs.declared.columns.FileFault.{FileFault}
use Rattle.column_files.specs.declared.opening.File.{File}
use Rattle.wanted_ranges.specs.Wanted.{arrow_told, parquet_told, told_by, at_most}
use Rattle.wanted_ranges.proofs.Tails.{same_last}

-- ---- the size that is told

-- of a file in which a footer has no more than `most` bytes, of whose last bytes so many are given, and `k` of these stand behind the footer
abbrev sized_by : ℕ → ℕ → End → ℕ → ℕ → Result ℕ End
sized_by k most wrong given told = if (nat_lt 0 told && nat_le told most) && nat_le told (given - k) then Ok told else Err wrong

too_great : (k most : ℕ) (wrong : End) (given told : ℕ) → nat_le told most ≡ false → sized_by k most wrong given told ≡ Err wrong
too_great k most wrong given told is =
    ap (λ t. if t then Ok told else Err wrong) (and_left (nat_lt 0 told && nat_le told most) (nat_le told (given - k)) (and_right (nat_lt 0 told) (nat_le told most) is))

-- it makes no difference how many are given, where they have the footer, or no file of that size has it
same_sized : (k most : ℕ) (wrong : End) (few many told : ℕ) → few ≤ many → k + at_most most told ≤ few → sized_by k most wrong many told ≡ sized_by k most wrong few told
same_sized k most wrong few many told more fits = by_fit (nat_le told most) refl
  where
    by_fit : (t : Bool) → nat_le told most ≡ t → sized_by k most wrong many told ≡ sized_by k most wrong few told
    by_fit true is =
        let small : k + told ≤ few = subst (λ t. k + (if t then told else 0) ≤ few) is fits in
        let one : nat_le told (few - k) ≡ true = le-leb told (few - k) (omega (arith, small)) in
        let other : nat_le told (many - k) ≡ true = le-leb told (many - k) (omega (arith, small, more)) in
        rw (one, other) refl
    by_fit false is = too_great k most wrong many told is ∙ sym (too_great k most wrong few told is)

-- a size that is told has room
ok_if : (t : Bool) (x : Result ℕ End) (e : End) (told : ℕ) → (if t then x else Err e) ≡ Ok told → (t ≡ true) × (x ≡ Ok told)
ok_if true x e told is = (refl, is)
ok_if false x e told is = absurd (not_told e told is)
  where
    not_told : (e : End) (told : ℕ) → Err e ≡ Ok told → ⊥
    not_told e told is = cc

has_room : (k most : ℕ) (wrong : End) (given told n : ℕ) → sized_by k most wrong given told ≡ Ok n → (nat_lt 0 told ≡ true) × (told ≤ given - k)
has_room k most wrong given told n is =
    let fits = (ok_if ((nat_lt 0 told && nat_le told most) && nat_le told (given - k)) (Ok told) wrong n is).0 in
    let parts = and_parts (nat_lt 0 told && nat_le told most) (nat_le told (given - k)) fits in
    ((and_parts (nat_lt 0 told) (nat_le told most) parts.0).0, leb-true told (given - k) parts.1)

-- ---- Arrow files

abbrev has_magic : List ℕ → Bool
has_magic end = bytes_eq (drop 4 (last 10 end)) (codes "ARROW1")

-- by whether the magic stands there
abbrev arrow_by : Bool → ℕ → End → End → ℕ → ℕ → Result ℕ End
arrow_by t most wrong cut given told = if true && t then sized_by 10 most wrong given told else Err cut

same_by : (t : Bool) (most : ℕ) (wrong cut : End) (few many told : ℕ) → few ≤ many → 10 + at_most most (if true && t then told else 0) ≤ few
    → arrow_by t most wrong cut many told ≡ arrow_by t most wrong cut few told
same_by true most wrong cut few many told more fits = same_sized 10 most wrong few many told more fits
same_by false most wrong cut few many told more fits = refl

abbrev pub IsArrowEnd : ℕ → List ℕ → Type 0
IsArrowEnd size end = 10 + at_most (size - 10 - 8) (arrow_told end) ≤ length end

same_arrow : (size : ℕ) (front end : List ℕ) → IsArrowEnd size end → arrow_footer_size size (front ++ end) ≡ arrow_footer_size size end
same_arrow size front end fits =
    let ten : 10 ≤ length end = omega (arith, fits) in
    let more : length end ≤ length (front ++ end) = omega (arith, length-append front end) in
    let one : nat_le 10 (length end) ≡ true = le-leb 10 (length end) ten in
    let other : nat_le 10 (length (front ++ end)) ≡ true = le-leb 10 (length (front ++ end)) (omega (arith, ten, more)) in
    let tail = same_last 10 front end ten in
    let eight = same_last 8 front end (omega (arith, ten)) in
    let room = subst (λ t. 10 + at_most (size - 10 - 8) (if t && has_magic end then size_in (last 10 end) else 0) ≤ length end) one fits in
    rw (one, other, tail, eight) (same_by (has_magic end) (size - 10 - 8) _ _ (length end) (length (front ++ end)) (size_in (last 10 end)) more room)

-- so many bytes before the last ten
abbrev before_tail : ℕ → List ℕ → List ℕ
before_tail size bytes = take size (drop (length bytes - 10 - size) (take (length bytes - 10) bytes))

magic_told : (tail : List ℕ) (at : ℕ) → bytes_eq (drop 4 tail) (codes "ARROW1") ≡ true → size_before_magic at tail ≡ Ok (size_in tail)
magic_told [] at is = absurd (true≢false (sym is))
magic_told (a ∷ []) at is = absurd (true≢false (sym is))
magic_told (a ∷ b ∷ []) at is = absurd (true≢false (sym is))
magic_told (a ∷ b ∷ c ∷ []) at is = absurd (true≢false (sym is))
magic_told (a ∷ b ∷ c ∷ d ∷ magic) at is = rw is refl

footer_is : (bytes : List ℕ) (size : ℕ) → 10 ≤ length bytes → size_before_magic (length bytes - 10) (last 10 bytes) ≡ Ok size → nat_lt 0 size ≡ true
    → size ≤ length bytes - 10 → footer_in bytes ≡ Ok (before_tail size bytes)
unfolding footer_in cut
footer_is bytes size ten is some fits =
    let n = length bytes - 10 in
    let long : nat_lt (length bytes) 10 ≡ false = le-ltb (length bytes) 10 ten in
    let fit : nat_le size n ≡ true = le-leb size n fits in
    let whole : nat_le (n - size + size) (length (take n bytes)) ≡ true = le-leb (n - size + size) (length (take n bytes)) (omega (arith, fits, length-take-le n bytes (omega arith))) in
    rw (long, is, fit, whole, some) refl

-- where the end tells a size
arrow_found : (size : ℕ) (end : List ℕ) (n : ℕ) → 10 ≤ length end → arrow_footer_size size end ≡ Ok n
    → (size_in (last 10 end) ≤ length end - 10) × (footer_in end ≡ Ok (before_tail (size_in (last 10 end)) end))
arrow_found size end n ten is =
    let told = size_in (last 10 end) in
    let (is_end, is_told) = ok_if (is_arrow_end end) _ _ n is in
    let ends = and_parts (nat_le 10 (length end)) (has_magic end) is_end in
    let room = has_room 10 (size - 10 - 8) _ (length end) told n is_told in
    (room.1, footer_is end told ten (magic_told (last 10 end) (length end - 10) ends.1) room.0 room.1)

before_same : (size : ℕ) (front end : List ℕ) → 10 ≤ length end → size ≤ length end - 10 → before_tail size (front ++ end) ≡ before_tail size end
before_same size front end ten fits =
    let all = front ++ end in
    let n = length end - 10 in
    let at : length all - 10 ≡ length front + n = omega (arith, ten, length-append front end) in
    let place : length front + n - size ≡ length front + (n - size) = omega (arith, fits) in
    ap (λ k. take size (drop (k - size) (take k all))) at
    ∙ ap (take size)
    (ap (λ k. drop k (take (length front + n) all)) place ∙ ap (drop (length front + (n - size))) (take-append-add front end n) ∙ drop-append-add front (take n end) (n - size))

same_arrow_footer : (size : ℕ) (front end : List ℕ) (n : ℕ) → IsArrowEnd size end → arrow_footer_size size end ≡ Ok n → footer_in (front ++ end) ≡ footer_in end
same_arrow_footer size front end n room is =
    let ten : 10 ≤ length end = omega (arith, room) in
    let mine = arrow_found size end n ten is in
    let all = arrow_found size (front ++ end) n (omega (arith, ten, length-append front end)) (same_arrow size front end room ∙ is) in
    let told = size_in (last 10 end) in
    all.1 ∙ ap (λ l. Ok (before_tail (size_in l) (front ++ end))) (same_last 10 front end ten) ∙ ap Ok (before_same told front end ten mine.0) ∙ sym mine.1

-- what is read, whatever stands before
pub of_arrow : (size : ℕ) (front end : List ℕ) → IsArrowEnd size end → (r : Result File FileFault) → IsArrowRead size (front ++ end) r ↔ IsArrowRead size end r
of_arrow size front end room r =
    let same = same_arrow size front end room in
    let read = by_size (arrow_footer_size size end) refl in
    (λ is. read.0 (subst (λ x. IsArrowBy size (front ++ end) x r) same is), λ is. subst (λ x. IsArrowBy size (front ++ end) x r) (sym same) (read.1 is))
  where
    by_size : (x : Result ℕ End) → arrow_footer_size size end ≡ x → IsArrowBy size (front ++ end) x r ↔ IsArrowBy size end x r
    by_size (Ok told) is =
        let begin = size - 10 - told in
        let found = same_arrow_footer size front end told room is in (
          λ read. subst (λ f. IsSchemaRead begin f (schema_of_footer 61) entries_of_footer r) found read,
          λ read. subst (λ f. IsSchemaRead begin f (schema_of_footer 61) entries_of_footer r) (sym found) read,
        )
    by_size (Err e) is = (λ read. read, λ read. read)

-- ---- Parquet files

abbrev pub IsParquetEnd : ℕ → List ℕ → Type 0
IsParquetEnd size end = 8 + at_most (size - 8 - 4) (parquet_told end) ≤ length end

same_parquet : (size : ℕ) (front end : List ℕ) → IsParquetEnd size end → parquet_footer_size size (front ++ end) ≡ parquet_footer_size size end
same_parquet size front end fits =
    let eight : 8 ≤ length end = omega (arith, fits) in
    let more : length end ≤ length (front ++ end) = omega (arith, length-append front end) in
    let one : nat_le 8 (length end) ≡ true = le-leb 8 (length end) eight in
    let other : nat_le 8 (length (front ++ end)) ≡ true = le-leb 8 (length (front ++ end)) (omega (arith, eight, more)) in
    let tail = same_last 8 front end eight in
    let room = subst (λ t. 8 + at_most (size - 8 - 4) (if t then told_by (length_at (last 8 end)) else 0) ≤ length end) one fits in
    rw (one, other, tail) (by_told (length_at (last 8 end)) room more tail)
  where
    by_told : (x : Result ℕ FooterError) → 8 + at_most (size - 8 - 4) (told_by x) ≤ length end → length end ≤ length (front ++ end) → last 8 (front ++ end) ≡ last 8 end
        → parquet_by size (front ++ end) x ≡ parquet_by size end x
    by_told (Ok told) fit more tail = same_sized 8 (size - 8 - 4) _ (length end) (length (front ++ end)) told more fit
    by_told (Err NotParquet) fit more tail = rw tail refl
    by_told (Err Encrypted) fit more tail = refl
    by_told (Err (Invalid rule at)) fit more tail = rw tail refl
    by_told (Err Memory) fit more tail = rw tail refl

-- where the end tells a size
parquet_found : (size : ℕ) (end : List ℕ) (n told : ℕ) → 8 ≤ length end → parquet_footer_size size end ≡ Ok n → length_at (last 8 end) ≡ Ok told → told ≤ length end - 8
parquet_found size end n told eight is tells =
    let one : nat_le 8 (length end) ≡ true = le-leb 8 (length end) eight in
    let by = (ok_if (nat_le 8 (length end)) (parquet_by size end (length_at (last 8 end))) _ n is).1 in
    (has_room 8 (size - 8 - 4) _ (length end) told n (sym (ap (parquet_by size end) tells) ∙ by)).1

same_before : (front xs : List ℕ) (r : Result ℕ FooterError) → ((told : ℕ) → r ≡ Ok told → told ≤ length xs) → footer_before (front ++ xs) r ≡ footer_before xs r
same_before front xs (Err error) small = refl
same_before front xs (Ok told) small =
    let fits : told ≤ length xs = small told refl in
    let one : nat_lt (length xs) told ≡ false = le-ltb (length xs) told fits in
    let other : nat_lt (length (front ++ xs)) told ≡ false = le-ltb (length (front ++ xs)) told (omega (arith, fits, length-append front xs)) in
    let place : length (front ++ xs) - told ≡ length front + (length xs - told) = omega (arith, fits, length-append front xs) in
    let same : drop (length (front ++ xs) - told) (front ++ xs) ≡ drop (length xs - told) xs =
    ap (λ k. drop k (front ++ xs)) place ∙ drop-append-add front xs (length xs - told) in
    rw (one, other, same) refl

same_parquet_footer : (size : ℕ) (front end : List ℕ) (n : ℕ) → IsParquetEnd size end → parquet_footer_size size end ≡ Ok n → parquet.footer_in (front ++ end) ≡ parquet.footer_in end
unfolding parquet.footer_in
same_parquet_footer size front end n room is =
    let at = length end - 8 in
    let eight : 8 ≤ length end = omega (arith, room) in
    let one : nat_lt (length end) 8 ≡ false = le-ltb (length end) 8 eight in
    let other : nat_lt (length (front ++ end)) 8 ≡ false = le-ltb (length (front ++ end)) 8 (omega (arith, eight, length-append front end)) in
    let tail = same_last 8 front end eight in
    let place : length (front ++ end) - 8 ≡ length front + at = omega (arith, eight, length-append front end) in
    let before : take (length (front ++ end) - 8) (front ++ end) ≡ front ++ take at end = ap (λ k. take k (front ++ end)) place ∙ take-append-add front end at in
    let len : length (take at end) ≡ at = length-take-le at end (omega arith) in
    rw (one, other, tail, before) (same_before front (take at end) (length_at (last 8 end)) (λ told tells. omega (arith, len, parquet_found size end n told eight is tells)))

pub of_parquet : (size : ℕ) (front end : List ℕ) → IsParquetEnd size end → (r : Result File FileFault) → IsParquetRead size (front ++ end) r ↔ IsParquetRead size end r
of_parquet size front end room r =
    let same = same_parquet size front end room in
    let read = by_size (parquet_footer_size size end) refl in
    (λ is. read.0 (subst (λ x. IsParquetBy size (front ++ end) x r) same is), λ is. subst (λ x. IsParquetBy size (front ++ end) x r) (sym same) (read.1 is))
  where
    by_size : (x : Result ℕ End) → parquet_footer_size size end ≡ x → IsParquetBy size (front ++ end) x r ↔ IsParquetBy size end x r
    by_size (Ok told) is =
        let begin = size - 8 - told in
        let found = same_parquet_footer size front end told room is in
        (λ read. subst (λ f. IsFooterRead begin f r) found read, λ read. subst (λ f. IsFooterRead begin f r) (sym found) read)
    by_size (Err e) is = (λ read. read, λ read. read)
