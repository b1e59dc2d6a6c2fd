-- The footer of a file is found by the file's end alone.
use Rattle.std.proofs.Common.{◌≡◌, ◌⊎◌, inl, inr, ℕ, ◌+◌, ◌-◌, ◌^◌, ◌<◌, ◌≤◌, Bool, true, false, true≢false, ◌&&◌, ◌||◌, ◌==◌, nat_lt, nat_le, List, [], ◌∷◌, ◌++◌, length, take, drop, if◌then◌else◌, Result, Ok, Err, refl, sym, ap, ◌∙◌, subst, codes, arith}
use Rattle.std.specs.Int.{w32, from_le_bytes}
use Rattle.std.specs.Str.{bytes_eq}
use Rattle.std.proofs.Math.Seq.{drop-append-add, take-append-add}
use Rattle.std.proofs.lemmas.Bool.{cases_lt, le-leb, lt-leb, le-ltb, lt-ltb, leb-true, and_parts}
use Rattle.std.proofs.lemmas.List.{length-append, length-drop, length-take-le, nil_from_length}
use Rattle.arrow_ipc.specs.Fault.{breaks}
use Rattle.arrow_ipc.specs.Schema.{footer_in, size_before_magic, cut, schema_of_footer}
use Rattle.arrow_ipc.specs.Entries.{entries_of_footer}
use Rattle.arrow_ipc.specs.declared.fault.IpcFault.{IpcFault}
use Rattle.arrow_ipc.specs.declared.fault.IpcRule.TheVariants.{Magic, FooterSize}
use Rattle.parquet_footer.specs.Tail.{length_at}
use Rattle.parquet_footer.specs.declared.fault.FooterError.{FooterError}
use Rattle.parquet_columns.specs.Reads as parquet
use Rattle.parquet_columns.specs.Reads.{footer_before}
use Rattle.column_files.specs.Endings.{End, size_in, last, file_size, cut as cut_end, is_size, sized as sized_size, wrong_size, most, is_arrow_end, arrow_footer_size, parquet_footer_size}
use Rattle.column_files.specs.Files.{HasFooter, IsSchemaRead, IsArrowBy, IsArrowRead, IsFooterRead, IsParquetBy, IsParquetRead, footer_begin}
use Rattle.column_files.specs.declared.columns.FileFault.{FileFault}
use Rattle.column_files.specs.declared.ending.Ending.TheVariants.{Arrow, Parquet}
use Rattle.column_files.specs.declared.opening.File.{File}
use Rattle.column_files.proofs.Endings.{same_size, same_last, same_arrow, same_parquet, told_by}

-- ---- what is found

-- the last ten bytes tell a size, or no magic stands there
told : (tail : List ℕ) → ((at : ℕ) → size_before_magic at tail ≡ Ok (size_in tail)) ⊎ ((at : ℕ) → size_before_magic at tail ≡ breaks Magic at)
told [] = inr (λ at. refl)
told (a ∷ []) = inr (λ at. refl)
told (a ∷ b ∷ []) = inr (λ at. refl)
told (a ∷ b ∷ c ∷ []) = inr (λ at. refl)
told (a ∷ b ∷ c ∷ d ∷ magic) = by_magic (bytes_eq magic (codes "ARROW1")) refl
  where
    by_magic : (t : Bool) → bytes_eq magic (codes "ARROW1") ≡ t
        → ((at : ℕ) → size_before_magic at (a ∷ b ∷ c ∷ d ∷ magic) ≡ Ok (size_in (a ∷ b ∷ c ∷ d ∷ magic))) ⊎ ((at : ℕ) → size_before_magic at (a ∷ b ∷ c ∷ d ∷ magic) ≡ breaks Magic at)
    by_magic true is = inl (λ at. rw is refl)
    by_magic false is = inr (λ at. rw is refl)

module _ (bytes : List ℕ) (n : ℕ) (len : length bytes ≡ n + 10) where
  long : nat_lt (length bytes) 10 ≡ false
  long = le-ltb (length bytes) 10 (omega (arith, len))

  before : length bytes - 10 ≡ n
  before = omega (arith, len)

  no_magic : size_before_magic n (drop n bytes) ≡ breaks Magic n → footer_in bytes ≡ breaks Magic n
  unfolding footer_in
  no_magic is = rw (long, before, is) refl

  too_great : (size : ℕ) → size_before_magic n (drop n bytes) ≡ Ok size → n < size → footer_in bytes ≡ breaks FooterSize n
  unfolding footer_in
  too_great size is great =
      let fits : nat_le size n ≡ false = lt-leb size n great in
      rw (long, before, is, fits) refl

  sized : (size : ℕ) → size_before_magic n (drop n bytes) ≡ Ok size → size ≤ n
      → footer_in bytes ≡ (if nat_lt 0 size then Ok (take size (drop (n - size) (take n bytes))) else breaks FooterSize (n - size))
  unfolding footer_in cut
  sized size is fits =
      let fit : nat_le size n ≡ true = le-leb size n fits in
      let whole : nat_le (n - size + size) (length (take n bytes)) ≡ true = le-leb (n - size + size) (length (take n bytes)) (omega (arith, fits, len, length-take-le n bytes (omega (arith, len)))) in
      rw (long, before, is, fit, whole) (and_true (nat_lt 0 size) (take size (drop (n - size) (take n bytes))) (n - size))
    where
      and_true : (t : Bool) (footer : List ℕ) (at : ℕ) → (if t && true then Ok footer else breaks FooterSize at) ≡ (if t then Ok footer else breaks FooterSize at)
      and_true true footer at = refl
      and_true false footer at = refl

-- ---- what is found in the whole file is what is found in its end, as much further on

abbrev moved : ℕ → Result (List ℕ) IpcFault → Result (List ℕ) IpcFault
moved n (Ok footer) = Ok footer
moved n (Err fault) = Err (record { rule = fault.rule; at = n + fault.at })

choose : (t : Bool) (by at place : ℕ) (one other : List ℕ) → other ≡ one → place ≡ by + at
    → (if t then Ok other else breaks FooterSize place) ≡ moved by (if t then Ok one else breaks FooterSize at)
choose true by at place one other same is = ap Ok same
choose false by at place one other same is = ap (breaks FooterSize) is

module _ (front end : List ℕ) (n : ℕ) (len : length end ≡ n + 10) where
  all_len : length (front ++ end) ≡ length front + n + 10
  all_len = omega (arith, len, length-append front end)

  same_tail : (at : ℕ) → size_before_magic at (drop (length front + n) (front ++ end)) ≡ size_before_magic at (drop n end)
  same_tail at = ap (size_before_magic at) (drop-append-add front end n)

  same_found : size_in (drop n end) ≤ n → footer_in (front ++ end) ≡ moved (length front) (footer_in end)
  same_found fits =
      let size = size_in (drop n end) in
      let all = front ++ end in
      let at = length front + n in
      elim (told (drop n end)) [
        | inr wrong ↦ no_magic all at all_len (same_tail at ∙ wrong at) ∙ ap (moved (length front)) (sym (no_magic end n len (wrong n)))
        | inl tells ↦
            let place : at - size ≡ length front + (n - size) = omega (arith, fits) in
            let cut_same : take size (drop (at - size) (take at all)) ≡ take size (drop (n - size) (take n end)) =
            ap (take size) (ap (λ k. drop k (take at all)) place ∙ ap (drop (length front + (n - size))) (take-append-add front end n) ∙ drop-append-add front (take n end) (n - size)) in
            sized all at all_len size (same_tail at ∙ tells at) (omega (arith, fits))
            ∙ choose (nat_lt 0 size) (length front) (n - size) (at - size) (take size (drop (n - size) (take n end))) (take size (drop (at - size) (take at all))) cut_same place
            ∙ ap (moved (length front)) (sym (sized end n len size (tells n) fits))
      ]

-- ---- a size that is told at the end of an Arrow file is that of a footer

magic_told : (tail : List ℕ) (at : ℕ) → bytes_eq (drop 4 tail) (codes "ARROW1") ≡ true → size_before_magic at tail ≡ Ok (size_in tail)
magic_told [] at is = absurd (true≢false (sym is))
magic_told (a ∷ []) at is = absurd (true≢false (sym is))
magic_told (a ∷ b ∷ []) at is = absurd (true≢false (sym is))
magic_told (a ∷ b ∷ c ∷ []) at is = absurd (true≢false (sym is))
magic_told (a ∷ b ∷ c ∷ d ∷ magic) at is = rw is refl

ok_if : (t : Bool) (x : Result ℕ End) (e : End) (told : ℕ) → (if t then x else Err e) ≡ Ok told → (t ≡ true) × (x ≡ Ok told)
ok_if true x e told is = (refl, is)
ok_if false x e told is = absurd (not_told e told is)
  where
    not_told : (e : End) (told : ℕ) → Err e ≡ Ok told → ⊥
    not_told e told is = cc

arrow_found : (size : ℕ) (end : List ℕ) (told n : ℕ) → arrow_footer_size size end ≡ Ok told → moved n (footer_in end) ≡ footer_in end
arrow_found size end told n is =
    let s = size_in (last 10 end) in
    let at = length end - 10 in
    let (is_end, is_told) = ok_if (is_arrow_end end) (sized_size Arrow size end s) (cut_end Arrow size end) told is in
    let ends = and_parts (nat_le 10 (length end)) (bytes_eq (drop 4 (last 10 end)) (codes "ARROW1")) is_end in
    let ten : 10 ≤ length end = leb-true 10 (length end) ends.0 in
    let is_one = ok_if (is_size Arrow size end s) (Ok s) (wrong_size Arrow size s) told is_told in
    let parts = and_parts (nat_lt 0 s && nat_le s (most Arrow size)) (nat_le s at) is_one.0 in
    let some : nat_lt 0 s ≡ true = (and_parts (nat_lt 0 s) (nat_le s (most Arrow size)) parts.0).0 in
    let fits : s ≤ at = leb-true s at parts.1 in
    let footer = take s (drop (at - s) (take at end)) in
    let found : footer_in end ≡ Ok footer =
    sized end at (omega (arith, ten)) s (magic_told (last 10 end) at ends.1) fits ∙ ap (λ t. if t then Ok footer else breaks FooterSize (at - s)) some in
    subst (λ f. moved n f ≡ f) (sym found) refl

-- what is read of the end of an Arrow file is what is read of the whole
pub of_arrow : (start : ℕ) (end : List ℕ) (r : Result File FileFault) → IsArrowRead (file_size start end) end r
    → (front : List ℕ) → length front ≡ start → HasFooter 10 start end → IsArrowRead (file_size 0 (front ++ end)) (front ++ end) r
of_arrow start end r is front len (inl fits) =
    let size = file_size (length front) end in
    let all : IsArrowRead size end r = subst (λ n. IsArrowRead (file_size n end) end r) (sym len) is in
    let by : IsArrowBy size end (arrow_footer_size size end) r = all in
    let other = by_size (arrow_footer_size size end) refl by in
    subst (λ n. IsArrowRead n (front ++ end) r) (sym (same_size front end)) (subst (λ x. IsArrowBy size (front ++ end) x r) (sym (same_arrow size front end fits)) other)
  where
    by_size : (x : Result ℕ End) → arrow_footer_size (file_size (length front) end) end ≡ x → IsArrowBy (file_size (length front) end) end x r → IsArrowBy (file_size (length front) end) (front ++ end) x r
    by_size (Ok told) same by =
        let found : footer_in (front ++ end) ≡ footer_in end =
        same_found front end (length end - 10) (omega (arith, fits)) (omega (arith, fits)) ∙ arrow_found (file_size (length front) end) end told (length front) same in
        subst (λ f. IsSchemaRead (footer_begin Arrow (file_size (length front) end) told) f (schema_of_footer 61) entries_of_footer r) (sym found) by
    by_size (Err e) same by = by
of_arrow start end r is front len (inr none) =
    let empty : front ≡ [] = nil_from_length front (len ∙ none) in
    subst (λ f. IsArrowRead (file_size 0 (f ++ end)) (f ++ end) r) (sym empty) (subst (λ n. IsArrowRead (file_size n end) end r) none is)

-- ---- the footer of a Parquet file

same_before : (front xs : List ℕ) (r : Result ℕ FooterError) → ((told : ℕ) → r ≡ Ok told → told ≤ length xs) → footer_before (front ++ xs) r ≡ footer_before xs r
same_before front xs (Err error) small = refl
same_before front xs (Ok told) small =
    let fits : told ≤ length xs = small told refl in
    let one : nat_lt (length xs) told ≡ false = le-ltb (length xs) told fits in
    let other : nat_lt (length (front ++ xs)) told ≡ false = le-ltb (length (front ++ xs)) told (omega (arith, fits, length-append front xs)) in
    let place : length (front ++ xs) - told ≡ length front + (length xs - told) = omega (arith, fits, length-append front xs) in
    let same : drop (length (front ++ xs) - told) (front ++ xs) ≡ drop (length xs - told) xs =
    ap (λ k. drop k (front ++ xs)) place ∙ drop-append-add front xs (length xs - told) in
    rw (one, other, same) refl

same_footer : (front end : List ℕ) → 8 + size_in (last 8 end) ≤ length end → parquet.footer_in (front ++ end) ≡ parquet.footer_in end
unfolding parquet.footer_in
same_footer front end fits =
    let n = length end - 8 in
    let eight : 8 ≤ length end = omega (arith, fits) in
    let one : nat_lt (length end) 8 ≡ false = le-ltb (length end) 8 eight in
    let other : nat_lt (length (front ++ end)) 8 ≡ false = le-ltb (length (front ++ end)) 8 (omega (arith, eight, length-append front end)) in
    let tail = same_last 8 front end eight in
    let place : length (front ++ end) - 8 ≡ length front + n = omega (arith, eight, length-append front end) in
    let before : take (length (front ++ end) - 8) (front ++ end) ≡ front ++ take n end = ap (λ k. take k (front ++ end)) place ∙ take-append-add front end n in
    let len : length (take n end) ≡ n = length-take-le n end (omega arith) in
    rw (one, other, tail, before) (same_before front (take n end) (length_at (last 8 end)) (λ told is. omega (arith, fits, len, told_by end told eight is)))

-- what is read of the end of a Parquet file is what is read of the whole
pub of_parquet : (start : ℕ) (end : List ℕ) (r : Result File FileFault) → IsParquetRead (file_size start end) end r
    → (front : List ℕ) → length front ≡ start → HasFooter 8 start end → IsParquetRead (file_size 0 (front ++ end)) (front ++ end) r
of_parquet start end r is front len (inl fits) =
    let size = file_size (length front) end in
    let by : IsParquetBy size end (parquet_footer_size size end) r = subst (λ n. IsParquetRead (file_size n end) end r) (sym len) is in
    let whole : IsParquetBy size (front ++ end) (parquet_footer_size size end) r = by_size (parquet_footer_size size end) by in
    subst (λ n. IsParquetRead n (front ++ end) r) (sym (same_size front end)) (subst (λ x. IsParquetBy size (front ++ end) x r) (sym (same_parquet size front end fits)) whole)
  where
    by_size : (x : Result ℕ End) → IsParquetBy (file_size (length front) end) end x r → IsParquetBy (file_size (length front) end) (front ++ end) x r
    by_size (Ok told) by = subst (λ f. IsFooterRead (footer_begin Parquet (file_size (length front) end) told) f r) (sym (same_footer front end fits)) by
    by_size (Err e) by = by
of_parquet start end r is front len (inr none) =
    let empty : front ≡ [] = nil_from_length front (len ∙ none) in
    subst (λ f. IsParquetRead (file_size 0 (f ++ end)) (f ++ end) r) (sym empty) (subst (λ n. IsParquetRead (file_size n end) end r) none is)
