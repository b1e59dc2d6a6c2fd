-- The first message of a stream is all that is read of it, and of another format all bytes.
use Rattle.std.proofs.Common.{◌≡◌, ◌⊎◌, inl, inr, ℕ, zero, suc, ◌+◌, ◌-◌, ◌<◌, ◌≤◌, ◌==◌, Bool, true, false, ◌&&◌, nat_lt, nat_le, List, [], ◌∷◌, ◌++◌, length, take, drop, if◌then◌else◌, Option, Some, None, IfSome, Result, Ok, refl, sym, ap, ◌∙◌, subst, append-nil, append_assoc, arith}
use Rattle.std.specs.Int.{w32, from_le_bytes}
use Rattle.std.specs.Io.KnownBytes.{IsAtEnd}
use Rattle.std.proofs.Math.Dec.{eqb-suc-zero}
use Rattle.std.proofs.lemmas.Bool.{cases_lt, le-leb, le-ltb, lt-ltb}
use Rattle.std.proofs.lemmas.List.{length-append, length-drop, drop-append-le, take-append-le}
use Rattle.arrow_ipc.specs.Fault.{breaks}
use Rattle.arrow_ipc.specs.declared.fault.IpcFault.{IpcFault}
use Rattle.arrow_ipc.specs.declared.fault.IpcRule.{IpcRule}
use Rattle.arrow_ipc.specs.declared.fault.IpcRule.TheVariants.{Cut, EndOfStream}
use Rattle.arrow_ipc.specs.Schema.{message_in, message_of, cut}
use Rattle.arrow_ipc.specs.Wire.{integer_at}
use Rattle.column_files.specs.Forms.{IsForm}
use Rattle.column_files.specs.Endings.{size_in, is_marked_stream, message_begin, message_size, message_end}
use Rattle.column_files.specs.Files.{counted_from, IsMessageBy, IsMessageRead, IsStreamBy, IsForeignRead, IsFileRead}
use Rattle.column_files.specs.ForeignFound.{looked_at, found_by}
use Rattle.column_files.specs.Reading.{GivesSchema, IsHead, ReadAs}
use Rattle.line_reader.specs.Sources.{GivesUpTo}
use Rattle.column_files.specs.declared.foreign.Foreign.{Foreign as Format}
use Rattle.column_files.specs.declared.form.Form.{Form}
use Rattle.column_files.specs.declared.form.Form.TheVariants.{ArrowFile, ArrowStream, Parquet, Lines, Foreign}

-- so many bytes that lie in some bytes are cut out of them alike, whatever stands behind these
cut_is : (rule : IpcRule) (xs ys : List ℕ) (start size : ℕ) → start + size ≤ length xs → cut rule xs start size ≡ cut rule (xs ++ ys) start size
unfolding cut
cut_is rule xs ys start size fits =
    let one : nat_le (start + size) (length xs) ≡ true = le-leb (start + size) (length xs) fits in
    let other : nat_le (start + size) (length (xs ++ ys)) ≡ true = le-leb (start + size) (length (xs ++ ys)) (omega (arith, fits, length-append xs ys)) in
    let same : take size (drop start (xs ++ ys)) ≡ take size (drop start xs) =
    ap (λ l. take size l) (drop-append-le start xs ys (omega (arith, fits))) ∙ take-append-le size (drop start xs) ys (omega (arith, fits, length-drop start xs)) in
    ap (λ t. if nat_lt 0 size && t then Ok (take size (drop start xs)) else breaks rule start) (one ∙ sym other)
    ∙ ap (λ l. if nat_lt 0 size && nat_le (start + size) (length (xs ++ ys)) then Ok l else breaks rule start) (sym same)

of_is : (xs ys : List ℕ) (start size : ℕ) → start + size ≤ length xs → message_of xs start size ≡ message_of (xs ++ ys) start size
of_is xs ys start size fits = ap (λ r. if nat_lt 0 size then r else breaks EndOfStream start) (cut_is Cut xs ys start size fits)

-- the size of the first message is one number or another
either_is : (t : Bool) (xs ys : List ℕ) (one two : ℕ) → (if t then 8 + two else 4 + one) ≤ length xs
    → (if t then message_of xs 8 two else message_of xs 4 one) ≡ (if t then message_of (xs ++ ys) 8 two else message_of (xs ++ ys) 4 one)
either_is true xs ys one two fits = of_is xs ys 8 two fits
either_is false xs ys one two fits = of_is xs ys 4 one fits

-- the first eight bytes of a stream, and what comes behind them
abbrev begun : ℕ → ℕ → ℕ → ℕ → ℕ → ℕ → ℕ → ℕ → List ℕ → List ℕ
begun a b c d e f g h rest = a ∷ b ∷ c ∷ d ∷ e ∷ f ∷ g ∷ h ∷ rest

abbrev message_by : List ℕ → Result (List ℕ) IpcFault
message_by bytes = if size_in bytes == 0xffff_ffff then message_of bytes 8 (size_in (drop 4 bytes)) else message_of bytes 4 (size_in bytes)

message_is : (a b c d e f g h : ℕ) (rest : List ℕ) → message_in (begun a b c d e f g h rest) ≡ message_by (begun a b c d e f g h rest)
unfolding message_in integer_at
message_is a b c d e f g h rest =
    let first : nat_le 4 (length (begun a b c d e f g h rest)) ≡ true = le-leb 4 (length (begun a b c d e f g h rest)) (omega arith) in
    let second : nat_le 4 (length (e ∷ f ∷ g ∷ h ∷ rest)) ≡ true = le-leb 4 (length (e ∷ f ∷ g ∷ h ∷ rest)) (omega arith) in
    rw (first, second) refl

either_end : (t : Bool) (one two : ℕ) → (if t then 8 + two else 4 + one) ≡ (if t then 8 else 4) + (if t then two else one)
either_end true one two = refl
either_end false one two = refl

same_message : (a b c d e f g h : ℕ) (more ys : List ℕ) → message_end (begun a b c d e f g h more) ≤ length (begun a b c d e f g h more)
    → message_in (begun a b c d e f g h more) ≡ message_in (begun a b c d e f g h (more ++ ys))
same_message a b c d e f g h more ys full =
    let bytes = begun a b c d e f g h more in
    let one = from_le_bytes w32 (a ∷ b ∷ c ∷ d ∷ []) in
    let two = from_le_bytes w32 (e ∷ f ∷ g ∷ h ∷ []) in
    let fits = subst (λ n. n ≤ length bytes) (sym (either_end (one == 0xffff_ffff) one two)) full in
    message_is a b c d e f g h more ∙ either_is (one == 0xffff_ffff) bytes ys one two fits ∙ sym (message_is a b c d e f g h (more ++ ys))

-- the first four of bytes that are as many
abbrev HasFour : List ℕ → Type 0
HasFour xs = (a : ℕ) × (b : ℕ) × (c : ℕ) × (d : ℕ) × (rest : List ℕ) × (xs ≡ a ∷ b ∷ c ∷ d ∷ rest)

four_of : (xs : List ℕ) → 4 ≤ length xs → HasFour xs
four_of [] long = absurd (omega (arith, long))
four_of (a ∷ []) long = absurd (omega (arith, long))
four_of (a ∷ b ∷ []) long = absurd (omega (arith, long))
four_of (a ∷ b ∷ c ∷ []) long = absurd (omega (arith, long))
four_of (a ∷ b ∷ c ∷ d ∷ rest) long = (a, b, c, d, rest, refl)

-- ---- what is read of these bytes is what is read of all

same_bytes : (form : Form) (bytes all : List ℕ) → bytes ≡ all → ReadAs form bytes all
same_bytes form bytes all same = λ r. (λ is. subst (λ l. IsFileRead form l r) same is, λ is. subst (λ l. IsFileRead form l r) (sym same) is)

same_stream : (bytes all : List ℕ) → message_end bytes ≤ length bytes → message_end all ≤ length all → message_begin bytes ≡ message_begin all
    → message_in bytes ≡ message_in all → ReadAs ArrowStream bytes all
same_stream bytes all full whole begins same =
    let one : nat_lt (length bytes) (message_end bytes) ≡ false = le-ltb (length bytes) (message_end bytes) full in
    let other : nat_lt (length all) (message_end all) ≡ false = le-ltb (length all) (message_end all) whole in
    λ r. (
      λ is.
          let read : IsMessageRead bytes r = subst (λ t. IsStreamBy t bytes r) one is in
          let as_all : IsMessageRead all r = subst (λ m. IsMessageBy (message_begin all) m r) same (subst (λ n. IsMessageBy n (message_in bytes) r) begins read) in
          subst (λ t. IsStreamBy t all r) (sym other) as_all,
      λ is.
          let read : IsMessageRead all r = subst (λ t. IsStreamBy t all r) other is in
          let as_bytes : IsMessageRead bytes r = subst (λ m. IsMessageBy (message_begin bytes) m r) (sym same) (subst (λ n. IsMessageBy n (message_in all) r) (sym begins) read) in
          subst (λ t. IsStreamBy t bytes r) (sym one) as_bytes,
    )

same_foreign : (foreign : Format) (bytes all : List ℕ) → take (looked_at foreign) bytes ≡ take (looked_at foreign) all → ReadAs (Foreign foreign) bytes all
same_foreign foreign bytes all same = λ r. (
  λ is. subst (λ f. IsForeignRead foreign (found_by foreign f) r) same is,
  λ is. subst (λ f. IsForeignRead foreign (found_by foreign f) r) (sym same) is,
)

-- so many first bytes, of which fewer are given only where there are no more
same_first : (n : ℕ) (head more ys : List ℕ) → (length more < n - length head → ys ≡ []) → take n (head ++ more) ≡ take n (head ++ (more ++ ys))
same_first n head more ys end =
    elim (cases_lt (length (head ++ more)) n) [
      | inl short ↦
          let none : ys ≡ [] = end (omega (arith, short, length-append head more)) in
          ap (λ l. take n (head ++ l)) (sym (ap (λ l. more ++ l) none ∙ append-nil more))
      | inr full ↦ sym (take-append-le n (head ++ more) ys full) ∙ ap (λ l. take n l) (append_assoc head more ys)
    ]

of_begun : (a b c d e f g h : ℕ) (first more ys : List ℕ)
    → GivesUpTo (message_end (begun a b c d e f g h first) - length (begun a b c d e f g h first)) (Some (more ++ ys)) (Some ys) more
    → ReadAs ArrowStream (begun a b c d e f g h (first ++ more)) (begun a b c d e f g h (first ++ (more ++ ys)))
of_begun a b c d e f g h first more ys given =
    let bytes = begun a b c d e f g h (first ++ more) in
    let all = begun a b c d e f g h (first ++ (more ++ ys)) in
    let parts : begun a b c d e f g h ((first ++ more) ++ ys) ≡ all = ap (λ l. begun a b c d e f g h l) (append_assoc first more ys) in
    elim (cases_lt (length bytes) (message_end bytes)) [
      | inl short ↦
          let none : ys ≡ [] = given.2 (omega (arith, short, length-append first more)) in
          same_bytes ArrowStream bytes all (ap (λ l. begun a b c d e f g h (first ++ l)) (sym (ap (λ l. more ++ l) none ∙ append-nil more)))
      | inr full ↦
          let longer : length bytes ≤ length all = omega (arith, ap length parts, length-append (first ++ more) ys) in
          same_stream bytes all full (omega (arith, full, longer)) refl (same_message a b c d e f g h (first ++ more) ys full ∙ ap (λ l. message_in l) parts)
    ]

of_stream : (head more ys : List ℕ) → 8 ≤ length head → GivesUpTo (message_end head - length head) (Some (more ++ ys)) (Some ys) more
    → ReadAs ArrowStream (head ++ more) (head ++ (more ++ ys))
of_stream head more ys long given =
    let (a, b, c, d, behind, is) = four_of head (omega (arith, long)) in
    let (e, f, g, h, first, more_is) = four_of behind (omega (arith, long, ap length is)) in
    let all : head ≡ begun a b c d e f g h first = is ∙ ap (λ l. a ∷ b ∷ c ∷ d ∷ l) more_is in
    subst (λ l. ReadAs ArrowStream (l ++ more) (l ++ (more ++ ys))) (sym all)
    (of_begun a b c d e f g h first more ys (subst (λ l. GivesUpTo (message_end l - length l) (Some (more ++ ys)) (Some ys) more) all given))

nothing_more : (more ys : List ℕ) → more ++ ys ≡ [] → more ≡ more ++ ys
nothing_more [] [] is = refl
nothing_more [] (y ∷ ys) is = sym is
nothing_more (x ∷ more) ys is = absurd (omega (arith, ap length is))

abbrev pub Given : Form → List ℕ → List ℕ → Option (List ℕ) → Option (List ℕ) → Type 0
Given form head bytes old new = (more : List ℕ) × (bytes ≡ head ++ more) × GivesSchema form head old new more

-- all bytes were given
of_all : (form : Form) (head bytes more rest ys : List ℕ) → bytes ≡ head ++ more → rest ≡ more ++ ys → ys ≡ [] → ReadAs form bytes (head ++ rest)
of_all form head bytes more rest ys is parts end =
    same_bytes form bytes (head ++ rest) (is ∙ ap (λ l. head ++ l) (sym (parts ∙ ap (λ l. more ++ l) end ∙ append-nil more)))

of_form : (form : Form) (head bytes rest ys : List ℕ) → Given form head bytes (Some rest) (Some ys) → IsForm head form → IsHead head rest → ReadAs form bytes (head ++ rest)
of_form ArrowFile head bytes rest ys (more, is, given) begins whole = of_all ArrowFile head bytes more rest ys is given.0 given.1
of_form Parquet head bytes rest ys (more, is, given) begins whole = of_all Parquet head bytes more rest ys is given.0 given.1
of_form Lines head bytes rest ys (more, is, given) begins whole = of_all Lines head bytes more rest ys is given.0 given.1
of_form (Foreign foreign) head bytes rest ys (more, is, given) begins whole =
    subst (λ l. ReadAs (Foreign foreign) bytes (head ++ l)) (sym given.0)
    (subst (λ l. ReadAs (Foreign foreign) l (head ++ (more ++ ys))) (sym is) (same_foreign foreign (head ++ more) (head ++ (more ++ ys)) (same_first (looked_at foreign) head more ys given.2)))
of_form ArrowStream head bytes rest ys (more, is, given) begins (inl long) =
    subst (λ l. ReadAs ArrowStream bytes (head ++ l)) (sym given.0)
    (subst (λ l. ReadAs ArrowStream l (head ++ (more ++ ys))) (sym is) (of_stream head more ys (omega (arith, long)) (refl, given.1, given.2)))
of_form ArrowStream head bytes rest ys (more, is, given) begins (inr none) =
    same_bytes ArrowStream bytes (head ++ rest) (is ∙ ap (λ l. head ++ l) (nothing_more more ys (sym given.0 ∙ none) ∙ sym given.0))

pub enough : (form : Form) (head bytes : List ℕ) (old new : Option (List ℕ)) → Given form head bytes old new → IfSome old (λ rest. IsForm head form → IsHead head rest → ReadAs form bytes (head ++ rest))
enough form head bytes None new given = tt
enough ArrowFile head bytes (Some rest) None given = absurd given.2.0
enough ArrowStream head bytes (Some rest) None given = absurd given.2.0
enough Parquet head bytes (Some rest) None given = absurd given.2.0
enough Lines head bytes (Some rest) None given = absurd given.2.0
enough (Foreign foreign) head bytes (Some rest) None given = absurd given.2.0
enough form head bytes (Some rest) (Some ys) given = of_form form head bytes rest ys given

-- what is given of a stream by the size in its head, and of another format without a limit
abbrev pub GivenUpTo : ℕ → List ℕ → List ℕ → Option (List ℕ) → Option (List ℕ) → Type 0
GivenUpTo n head bytes old new = (more : List ℕ) × (bytes ≡ head ++ more) × GivesUpTo n old new more

pub by_size : (form : Form) (head bytes : List ℕ) (old new : Option (List ℕ)) (n : ℕ) → form ≡ ArrowStream → n ≡ message_end head - length head → GivenUpTo n head bytes old new → Given form head bytes old new
by_size form head bytes old new n form_is size_is (more, is, given) =
    (more, is, subst (λ f. GivesSchema f head old new more) (sym form_is) (subst (λ n. GivesUpTo n old new more) size_is given))

pub by_first : (form : Form) (foreign : Format) (head bytes : List ℕ) (old new : Option (List ℕ)) (n : ℕ) → form ≡ Foreign foreign → n ≡ looked_at foreign - length head → GivenUpTo n head bytes old new → Given form head bytes old new
by_first form foreign head bytes old new n form_is size_is (more, is, given) =
    (more, is, subst (λ f. GivesSchema f head old new more) (sym form_is) (subst (λ n. GivesUpTo n old new more) size_is given))

pub by_rest : (form : Form) (head bytes : List ℕ) (old new : Option (List ℕ)) (n : ℕ) → (form ≡ ArrowFile) ⊎ ((form ≡ Parquet) ⊎ (form ≡ Lines)) → length bytes < n → GivenUpTo n head bytes old new → Given form head bytes old new
by_rest form head bytes old new n form_is small (more, is, given) =
    let end : IsAtEnd new = given.2 (omega (arith, small, ap length is, length-append head more)) in (
      more,
      is,
      elim form_is [
        | inl file ↦ subst (λ f. GivesSchema f head old new more) (sym file) (given.0, end)
        | inr (inl file) ↦ subst (λ f. GivesSchema f head old new more) (sym file) (given.0, end)
        | inr (inr lines) ↦ subst (λ f. GivesSchema f head old new more) (sym lines) (given.0, end)
      ],
    )

-- ---- where the message begins that stands there

counted_by : (begin start size : ℕ) (bytes : List ℕ) → start + size ≤ length bytes → counted_from begin (message_of bytes start size) ≡ (if size == 0 then 0 else begin)
unfolding cut
counted_by begin start zero bytes fits = refl
counted_by begin start (suc n) bytes fits =
    let some : nat_lt 0 (suc n) ≡ true = lt-ltb 0 (suc n) (omega arith) in
    let other : (suc n == 0) ≡ false = eqb-suc-zero n in
    let whole : nat_le (start + suc n) (length bytes) ≡ true = le-leb (start + suc n) (length bytes) fits in
    rw (some, whole, other) refl

message_small : (a b c d : ℕ) (rest : List ℕ) → is_marked_stream (a ∷ b ∷ c ∷ d ∷ rest) ≡ false
    → message_in (a ∷ b ∷ c ∷ d ∷ rest) ≡ message_of (a ∷ b ∷ c ∷ d ∷ rest) 4 (size_in (a ∷ b ∷ c ∷ d ∷ rest))
unfolding message_in integer_at
message_small a b c d rest is =
    let four : nat_le 4 (length (a ∷ b ∷ c ∷ d ∷ rest)) ≡ true = le-leb 4 (length (a ∷ b ∷ c ∷ d ∷ rest)) (omega arith) in
    rw (four, is) refl

message_large : (a b c d e f g h : ℕ) (rest : List ℕ) → is_marked_stream (a ∷ b ∷ c ∷ d ∷ rest) ≡ true
    → message_in (begun a b c d e f g h rest) ≡ message_of (begun a b c d e f g h rest) 8 (size_in (e ∷ f ∷ g ∷ h ∷ rest))
message_large a b c d e f g h rest is = message_is a b c d e f g h rest ∙ rw is refl

-- of a stream that is not cut off
abbrev Counted : List ℕ → Type 0
Counted bytes = message_end bytes ≤ length bytes → counted_from (message_begin bytes) (message_in bytes) ≡ (if message_size bytes == 0 then 0 else message_begin bytes)

counted_four : (a b c d : ℕ) (rest : List ℕ) (t : Bool) → is_marked_stream (a ∷ b ∷ c ∷ d ∷ rest) ≡ t → Counted (a ∷ b ∷ c ∷ d ∷ rest)
counted_four a b c d rest false is fits =
    let bytes = a ∷ b ∷ c ∷ d ∷ rest in
    let small : 4 + size_in bytes ≤ length bytes = rw is at fits in
    rw is (ap (counted_from 4) (message_small a b c d rest is) ∙ counted_by 4 4 (size_in bytes) bytes small)
counted_four a b c d rest true is fits =
    let bytes = a ∷ b ∷ c ∷ d ∷ rest in
    let small : 8 + size_in rest ≤ length bytes = rw is at fits in
    let (e, f, g, h, behind, rest_is) = four_of rest (omega (arith, small)) in
    let whole : message_in bytes ≡ message_of bytes 8 (size_in rest) =
    subst (λ l. message_in (a ∷ b ∷ c ∷ d ∷ l) ≡ message_of (a ∷ b ∷ c ∷ d ∷ l) 8 (size_in l)) (sym rest_is) (message_large a b c d e f g h behind is) in
    rw is (ap (counted_from 8) whole ∙ counted_by 8 8 (size_in rest) bytes small)

pub counted : (bytes : List ℕ) → Counted bytes
counted [] fits = absurd (omega (arith, fits))
counted (a ∷ []) fits = absurd (omega (arith, fits))
counted (a ∷ b ∷ []) fits = absurd (omega (arith, fits))
counted (a ∷ b ∷ c ∷ []) fits = absurd (omega (arith, fits))
counted (a ∷ b ∷ c ∷ d ∷ rest) fits = counted_four a b c d rest (is_marked_stream (a ∷ b ∷ c ∷ d ∷ rest)) refl fits
