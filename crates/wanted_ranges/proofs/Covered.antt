-- What is read of the bytes that are wanted is what is read of the whole file.
use Rattle.std.proofs.Common.{◌≡◌, ◌↔◌, ℕ, ◌+◌, ◌-◌, ◌^◌, ◌<◌, ◌≤◌, min, max, List, [], ◌∷◌, ◌++◌, length, take, Option, None, Some, IfSome, Result, Ok, Err, sym, ap, ◌∙◌, subst, append_assoc, arith}
use Rattle.std.proofs.lemmas.List.{length-append, take-append-le}
use Rattle.column_files.specs.Forms.{IsForm, head_bytes, head_form}
use Rattle.column_files.specs.ForeignFound.{looked_at, found_by}
use Rattle.column_files.specs.Endings.{file_size}
use Rattle.column_files.specs.Files.{IsArrowRead, IsParquetRead, IsForeignRead, IsFileRead, IsEndRead, IsEndOpened, IsOpened}
use Rattle.column_files.specs.declared.columns.FileFault.{FileFault}
use Rattle.column_files.specs.declared.foreign.Foreign.{Foreign as Format}
use Rattle.column_files.specs.declared.form.Form.{Form}
use Rattle.column_files.specs.declared.form.Form.TheVariants.{ArrowFile, ArrowStream, Parquet, Lines, Foreign}
use Rattle.column_files.specs.declared.opening.File.{File}
use Rattle.wanted_ranges.specs.Wanted.{all, begin_of, arrow_told, parquet_told, at_most, end_by, wanted}
use Rattle.wanted_ranges.specs.Enough.{IsReadOf, AreReadAs, HasItsFooter, AreOpenedAs, IsEnough}
use Rattle.wanted_ranges.proofs.Begins.{same_first, by_form, is_begun}
use Rattle.wanted_ranges.proofs.Ends.{IsArrowEnd, IsParquetEnd, of_arrow, of_parquet}
use Rattle.wanted_ranges.proofs.Tails.{same_arrow, same_parquet}
use Rattle.wanted_ranges.proofs.Streams.{same_stream}

both : {A B C : Type 0} → (A ↔ C) → (B ↔ C) → (A ↔ B)
both one other = (λ a. other.1 (one.0 a), λ b. one.1 (other.0 b))

turned : {A B : Type 0} → (A ↔ B) → (B ↔ A)
turned one = (one.1, one.0)

-- ---- of formats without a footer

same_foreign : (foreign : Format) (head rest : List ℕ) → looked_at foreign ≤ length head
    → (r : Result File FileFault) → IsFileRead (Foreign foreign) head r ↔ IsFileRead (Foreign foreign) (head ++ rest) r
same_foreign foreign head rest full r =
    let same : take (looked_at foreign) head ≡ take (looked_at foreign) (head ++ rest) = sym (take-append-le (looked_at foreign) head rest full) in
    (λ is. subst (λ f. IsForeignRead foreign (found_by foreign f) r) same is, λ is. subst (λ f. IsForeignRead foreign (found_by foreign f) r) (sym same) is)

-- ---- of all bytes

whole_size : (whole : List ℕ) → length whole ≤ all → file_size 0 whole ≡ length whole
whole_size whole small = omega (arith, small)

of_whole : (form : Form) (whole : List ℕ) → length whole ≤ all → (r : Result File FileFault) → IsReadOf form (length whole) whole r ↔ IsFileRead form whole r
of_whole ArrowFile whole small r = subst (λ n. IsArrowRead (length whole) whole r ↔ IsArrowRead n whole r) (sym (whole_size whole small)) (λ is. is, λ is. is)
of_whole Parquet whole small r = subst (λ n. IsParquetRead (length whole) whole r ↔ IsParquetRead n whole r) (sym (whole_size whole small)) (λ is. is, λ is. is)
of_whole ArrowStream whole small r = (λ is. is, λ is. is)
of_whole Lines whole small r = (λ is. is, λ is. is)
of_whole (Foreign foreign) whole small r = (λ is. is, λ is. is)

-- ---- of the begin and the end

abbrev joined : List ℕ → List ℕ → List ℕ → List ℕ
joined head others tail = head ++ (others ++ tail)

arrow_by_end : (head others tail : List ℕ) (n : ℕ) → 10 + at_most (n - 10 - 8) (arrow_told tail) ≤ length tail
    → (r : Result File FileFault) → IsArrowRead n (head ++ tail) r ↔ IsArrowRead n (joined head others tail) r
arrow_by_end head others tail n room r =
    subst (λ l. IsArrowRead n (head ++ tail) r ↔ IsArrowRead n l r) (append_assoc head others tail)
    (both (of_arrow n head tail room r) (of_arrow n (head ++ others) tail room r))

parquet_by_end : (head others tail : List ℕ) (n : ℕ) → 8 + at_most (n - 8 - 4) (parquet_told tail) ≤ length tail
    → (r : Result File FileFault) → IsParquetRead n (head ++ tail) r ↔ IsParquetRead n (joined head others tail) r
parquet_by_end head others tail n room r =
    subst (λ l. IsParquetRead n (head ++ tail) r ↔ IsParquetRead n l r) (append_assoc head others tail)
    (both (of_parquet n head tail room r) (of_parquet n (head ++ others) tail room r))

of_ends : (form : Form) (head others tail : List ℕ) → length (joined head others tail) ≤ all → length head < length (joined head others tail) → head_bytes ≤ length head
    → begin_of form (Some (length (joined head others tail))) head ≤ length head → end_by form (length (joined head others tail)) tail ≤ length tail
    → (r : Result File FileFault) → IsReadOf form (length (joined head others tail)) (head ++ tail) r ↔ IsFileRead form (joined head others tail) r
of_ends ArrowFile head others tail small more first begin end r =
    let whole = joined head others tail in
    subst (λ n. IsArrowRead (length whole) (head ++ tail) r ↔ IsArrowRead n whole r) (sym (whole_size whole small)) (arrow_by_end head others tail (length whole) end r)
of_ends Parquet head others tail small more first begin end r =
    let whole = joined head others tail in
    subst (λ n. IsParquetRead (length whole) (head ++ tail) r ↔ IsParquetRead n whole r) (sym (whole_size whole small)) (parquet_by_end head others tail (length whole) end r)
of_ends ArrowStream head others tail small more first begin end r =
    let long : 8 ≤ length head = omega (arith, first) in
    both (turned (same_stream head tail long begin r)) (turned (same_stream head (others ++ tail) long begin r))
of_ends Lines head others tail small more first begin end r = absurd (omega (arith, small, more, begin))
of_ends (Foreign foreign) head others tail small more first begin end r =
    both (turned (same_foreign foreign head tail begin r)) (turned (same_foreign foreign head (others ++ tail) begin r))

-- ---- of a file of a known size

abbrev form_by : List ℕ → Form
form_by head = head_form (take head_bytes head)

known : (head tail others : List ℕ) → length (joined head others tail) ≤ all
    → (wanted head tail (Some (length (joined head others tail)))).head ≤ length head → (wanted head tail (Some (length (joined head others tail)))).tail ≤ length tail
    → AreReadAs (form_by head) (head ++ tail) (joined head others tail)
known head tail others small first last =
    let n = length (joined head others tail) in
    let begun = is_begun head tail (Some n) first in
    let is = by_form head tail (Some n) begun in
    let heads : min (max (begin_of (form_by head) (Some n) head) head_bytes) n ≤ length head = subst (λ w. w.head ≤ length head) is first in
    let tails : min (end_by (form_by head) n tail) (n - length head) ≤ length tail = subst (λ w. w.tail ≤ length tail) is last in
    (ap head_form (same_first head_bytes head (others ++ tail) begun), by_others others small heads tails)
  where
    by_others : (others : List ℕ) → length (joined head others tail) ≤ all
        → min (max (begin_of (form_by head) (Some (length (joined head others tail))) head) head_bytes) (length (joined head others tail)) ≤ length head
        → min (end_by (form_by head) (length (joined head others tail)) tail) (length (joined head others tail) - length head) ≤ length tail
        → (r : Result File FileFault) → IsReadOf (form_by head) (length (joined head others tail)) (head ++ tail) r ↔ IsFileRead (form_by head) (joined head others tail) r
    by_others [] small heads tails r = of_whole (form_by head) (head ++ tail) small r
    by_others (x ∷ xs) small heads tails r =
        let n = length (joined head (x ∷ xs) tail) in
        let len : n ≡ length head + (1 + length xs + length tail) = omega (arith, length-append head ((x ∷ xs) ++ tail), length-append (x ∷ xs) tail) in
        of_ends (form_by head) head (x ∷ xs) tail small (omega (arith, len)) (omega (arith, heads, len)) (omega (arith, heads, len)) (omega (arith, tails, len)) r

-- ---- of one whose size is not known

unknown_by : (form : Form) (head others : List ℕ) (n : ℕ) → length head < all → head_bytes ≤ length head → begin_of form None head ≤ length head
    → (r : Result File FileFault) → IsReadOf form n head r ↔ IsFileRead form (head ++ others) r
unknown_by ArrowFile head others n small first begin r = absurd (omega (arith, small, begin))
unknown_by Parquet head others n small first begin r = absurd (omega (arith, small, begin))
unknown_by Lines head others n small first begin r = absurd (omega (arith, small, begin))
unknown_by ArrowStream head others n small first begin r = same_stream head others (omega (arith, first)) begin r
unknown_by (Foreign foreign) head others n small first begin r = same_foreign foreign head others begin r

unknown : (head tail others : List ℕ) → length head < all → (wanted head tail None).head ≤ length head → AreReadAs (form_by head) head (head ++ others)
unknown head tail others small first =
    let begun : head_bytes ≤ length head = is_begun head tail None first in
    let heads : max (begin_of (form_by head) None head) head_bytes ≤ length head = subst (λ w. w.head ≤ length head) (by_form head tail None begun) first in
    (ap head_form (sym (take-append-le head_bytes head others begun)), unknown_by (form_by head) head others (length (head ++ others)) small begun (omega (arith, heads)))

-- ---- opened

abbrev IsWholeOf : Form → ℕ → List ℕ → List ℕ → Result File FileFault → Type 0
IsWholeOf form start bytes whole r = HasItsFooter form start bytes → IsEndRead form start bytes r → IsFileRead form whole r

opened : (form : Form) (start : ℕ) (bytes whole : List ℕ) (r : Result File FileFault) → IsForm whole form → IsWholeOf form start bytes whole r
    → HasItsFooter form start bytes → IsEndOpened form start bytes r → IsOpened whole r
opened form start bytes whole (Ok file) told read footer (is, end) =
    (subst (λ f. IsForm whole f) (sym is) told, subst (λ f. IsFileRead f whole (Ok file)) (sym is) (read footer end))
opened form start bytes whole (Err fault) told read footer end = (form, told, read footer end)

-- of all bytes
all_opened : (form : Form) (bytes : List ℕ) (start : ℕ) → start ≡ 0 → (r : Result File FileFault) → IsWholeOf form start bytes bytes r
all_opened ArrowFile bytes start none r footer end = end [] (sym none) footer
all_opened Parquet bytes start none r footer end = end [] (sym none) footer
all_opened ArrowStream bytes start none r footer end = end
all_opened Lines bytes start none r footer end = end
all_opened (Foreign foreign) bytes start none r footer end = end

-- what is read with other bytes before them
arrow_room : (head tail : List ℕ) (n : ℕ) → IsArrowEnd n tail → IsArrowEnd n (head ++ tail)
arrow_room head tail n room =
    let same = same_arrow head tail (omega (arith, room)) in
    subst (λ t. 10 + at_most (n - 10 - 8) t ≤ length (head ++ tail)) (sym same) (omega (arith, room, length-append head tail))

parquet_room : (head tail : List ℕ) (n : ℕ) → IsParquetEnd n tail → IsParquetEnd n (head ++ tail)
parquet_room head tail n room =
    let same = same_parquet head tail (omega (arith, room)) in
    subst (λ t. 8 + at_most (n - 8 - 4) t ≤ length (head ++ tail)) (sym same) (omega (arith, room, length-append head tail))

moved_size : (head others tail : List ℕ) → length (joined head others tail) ≤ all → file_size 0 (others ++ (head ++ tail)) ≡ length (joined head others tail)
moved_size head others tail small =
    whole_size (others ++ (head ++ tail)) (omega (arith, small, same)) ∙ same
  where
    same : length (others ++ (head ++ tail)) ≡ length (joined head others tail)
    same = omega (arith, length-append others (head ++ tail), length-append head tail, length-append head (others ++ tail), length-append others tail)

ends_opened : (form : Form) (head others tail : List ℕ) (start : ℕ) → length others ≡ start → length (joined head others tail) ≤ all
    → end_by form (length (joined head others tail)) tail ≤ length tail
    → (r : Result File FileFault) → (IsReadOf form (length (joined head others tail)) (head ++ tail) r → IsFileRead form (joined head others tail) r)
    → IsWholeOf form start (head ++ tail) (joined head others tail) r
ends_opened ArrowFile head others tail start len small room r read footer end =
    let n = length (joined head others tail) in
    let moved = subst (λ k. IsArrowRead k (others ++ (head ++ tail)) r) (moved_size head others tail small) (end others len footer) in
    read ((of_arrow n others (head ++ tail) (arrow_room head tail n room) r).0 moved)
ends_opened Parquet head others tail start len small room r read footer end =
    let n = length (joined head others tail) in
    let moved = subst (λ k. IsParquetRead k (others ++ (head ++ tail)) r) (moved_size head others tail small) (end others len footer) in
    read ((of_parquet n others (head ++ tail) (parquet_room head tail n room) r).0 moved)
ends_opened ArrowStream head others tail start len small room r read footer end = read end
ends_opened Lines head others tail start len small room r read footer end = read end
ends_opened (Foreign foreign) head others tail start len small room r read footer end = read end

known_opened : (head tail others : List ℕ) → length (joined head others tail) ≤ all
    → (wanted head tail (Some (length (joined head others tail)))).head ≤ length head → (wanted head tail (Some (length (joined head others tail)))).tail ≤ length tail
    → AreOpenedAs (form_by head) (head ++ tail) (joined head others tail)
known_opened head tail others small first last r footer end =
    let n = length (joined head others tail) in
    let begun = is_begun head tail (Some n) first in
    let tails : min (end_by (form_by head) n tail) (n - length head) ≤ length tail = subst (λ w. w.tail ≤ length tail) (by_form head tail (Some n) begun) last in
    let reads = known head tail others small first last in
    opened (form_by head) (n - length (head ++ tail)) (head ++ tail) (joined head others tail) r reads.0 (by_others others small tails (reads.1 r).0) footer end
  where
    by_others : (others : List ℕ) → length (joined head others tail) ≤ all
        → min (end_by (form_by head) (length (joined head others tail)) tail) (length (joined head others tail) - length head) ≤ length tail
        → (IsReadOf (form_by head) (length (joined head others tail)) (head ++ tail) r → IsFileRead (form_by head) (joined head others tail) r)
        → IsWholeOf (form_by head) (length (joined head others tail) - length (head ++ tail)) (head ++ tail) (joined head others tail) r
    by_others [] small tails read = all_opened (form_by head) (head ++ tail) (length (head ++ tail) - length (head ++ tail)) (omega arith) r
    by_others (x ∷ xs) small tails read =
        let n = length (joined head (x ∷ xs) tail) in
        let len : n ≡ length head + (1 + length xs + length tail) = omega (arith, length-append head ((x ∷ xs) ++ tail), length-append (x ∷ xs) tail) in
        ends_opened (form_by head) head (x ∷ xs) tail (n - length (head ++ tail)) (omega (arith, len, length-append head tail)) small (omega (arith, tails, len)) r read

unknown_opened_by : (form : Form) (head others : List ℕ) (start : ℕ) → length head < all → begin_of form None head ≤ length head
    → (r : Result File FileFault) → (IsReadOf form (length (head ++ others)) head r → IsFileRead form (head ++ others) r) → IsWholeOf form start head (head ++ others) r
unknown_opened_by ArrowFile head others start small begin r read footer end = absurd (omega (arith, small, begin))
unknown_opened_by Parquet head others start small begin r read footer end = absurd (omega (arith, small, begin))
unknown_opened_by Lines head others start small begin r read footer end = absurd (omega (arith, small, begin))
unknown_opened_by ArrowStream head others start small begin r read footer end = read end
unknown_opened_by (Foreign foreign) head others start small begin r read footer end = read end

unknown_opened : (head tail others : List ℕ) → length head < all → (wanted head tail None).head ≤ length head → AreOpenedAs (form_by head) head (head ++ others)
unknown_opened head tail others small first r footer end =
    let begun : head_bytes ≤ length head = is_begun head tail None first in
    let heads : max (begin_of (form_by head) None head) head_bytes ≤ length head = subst (λ w. w.head ≤ length head) (by_form head tail None begun) first in
    let reads = unknown head tail others small first in
    let start = length (head ++ others) - length head in
    opened (form_by head) start head (head ++ others) r reads.0 (unknown_opened_by (form_by head) head others start small (omega (arith, heads)) r (reads.1 r).0) footer end

-- ---- both

abbrev pub IsSize : Option ℕ → Type 0
IsSize size = IfSome size (λ n. n < 2 ^ 64)

abbrev AreBoth : List ℕ → List ℕ → List ℕ → Type 0
AreBoth head bytes whole = AreReadAs (form_by head) bytes whole × AreOpenedAs (form_by head) bytes whole

pub is_enough : (head tail : List ℕ) (size : Option ℕ) → length head < all → IsSize size → IsEnough head tail size (wanted head tail size)
is_enough head tail None small fits first last whole (others, is) =
    subst (λ l. AreBoth head head l) (sym is) (unknown head tail others small first, unknown_opened head tail others small first)
is_enough head tail (Some n) small fits first last whole (len, (others, is)) =
    let size : length (joined head others tail) ≡ n = sym (ap length is) ∙ len in
    let room : length (joined head others tail) ≤ all = omega (arith, size, fits) in
    let heads = subst (λ k. (wanted head tail (Some k)).head ≤ length head) (sym size) first in
    let tails = subst (λ k. (wanted head tail (Some k)).tail ≤ length tail) (sym size) last in
    subst (λ l. AreBoth head (head ++ tail) l) (sym is) (known head tail others room heads tails, known_opened head tail others room heads tails)
