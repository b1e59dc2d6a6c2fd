-- The first message of a stream is all that is read of it.
use Rattle.std.proofs.Common.{◌≡◌, ◌↔◌, ℕ, ◌+◌, ◌≤◌, ◌==◌, Bool, true, false, ◌&&◌, nat_lt, nat_le, List, [], ◌∷◌, ◌++◌, length, take, drop, if◌then◌else◌, Result, Ok, refl, sym, ap, ◌∙◌, subst, arith}
use Rattle.std.specs.Int.{w32, from_le_bytes}
use Rattle.std.proofs.lemmas.Bool.{le-leb, le-ltb}
use Rattle.std.proofs.lemmas.List.{length-append, length-drop, drop-append-le, take-append-le}
use Rattle.arrow_ipc.specs.Fault.{breaks}
use Rattle.arrow_ipc.specs.declared.fault.IpcFault.{IpcFault}
use Rattle.arrow_ipc.specs.declared.fault.IpcRule.{IpcRule}
use Rattle.arrow_ipc.specs.declared.fault.IpcRule.TheVariants.{Cut, EndOfStream}
use Rattle.arrow_ipc.specs.Schema.{message_in, message_of, cut}
use Rattle.arrow_ipc.specs.Wire.{integer_at}
use Rattle.column_files.specs.Endings.{size_in, message_begin, message_end}
use Rattle.column_files.specs.Files.{IsMessageBy, IsMessageRead, IsStreamBy, IsStreamRead}
use Rattle.column_files.specs.declared.columns.FileFault.{FileFault}
use Rattle.column_files.specs.declared.opening.File.{File}

-- so many bytes that lie in some bytes are cut out of them alike, whatever stands behind these
cut_is : (rule : IpcRule) (xs ys : List ℕ) (start size : ℕ) → start + size ≤ length xs → cut rule xs start size ≡ cut rule (xs ++ ys) start size
unfolding cut
cut_is rule xs ys start size fits =
    let one : nat_le (start + size) (length xs) ≡ true = le-leb (start + size) (length xs) fits in
    let other : nat_le (start + size) (length (xs ++ ys)) ≡ true = le-leb (start + size) (length (xs ++ ys)) (omega (arith, fits, length-append xs ys)) in
    let same : take size (drop start (xs ++ ys)) ≡ take size (drop start xs) =
    ap (λ l. take size l) (drop-append-le start xs ys (omega (arith, fits))) ∙ take-append-le size (drop start xs) ys (omega (arith, fits, length-drop start xs)) in
    ap (λ t. if nat_lt 0 size && t then Ok (take size (drop start xs)) else breaks rule start) (one ∙ sym other)
    ∙ ap (λ l. if nat_lt 0 size && nat_le (start + size) (length (xs ++ ys)) then Ok l else breaks rule start) (sym same)

of_is : (xs ys : List ℕ) (start size : ℕ) → start + size ≤ length xs → message_of xs start size ≡ message_of (xs ++ ys) start size
of_is xs ys start size fits = ap (λ r. if nat_lt 0 size then r else breaks EndOfStream start) (cut_is Cut xs ys start size fits)

-- the size of the first message is one number or another
either_is : (t : Bool) (xs ys : List ℕ) (one two : ℕ) → (if t then 8 + two else 4 + one) ≤ length xs
    → (if t then message_of xs 8 two else message_of xs 4 one) ≡ (if t then message_of (xs ++ ys) 8 two else message_of (xs ++ ys) 4 one)
either_is true xs ys one two fits = of_is xs ys 8 two fits
either_is false xs ys one two fits = of_is xs ys 4 one fits

-- the first eight bytes of a stream, and what comes behind them
abbrev begun : ℕ → ℕ → ℕ → ℕ → ℕ → ℕ → ℕ → ℕ → List ℕ → List ℕ
begun a b c d e f g h rest = a ∷ b ∷ c ∷ d ∷ e ∷ f ∷ g ∷ h ∷ rest

abbrev message_by : List ℕ → Result (List ℕ) IpcFault
message_by bytes = if size_in bytes == 0xffff_ffff then message_of bytes 8 (size_in (drop 4 bytes)) else message_of bytes 4 (size_in bytes)

message_is : (a b c d e f g h : ℕ) (rest : List ℕ) → message_in (begun a b c d e f g h rest) ≡ message_by (begun a b c d e f g h rest)
unfolding message_in integer_at
message_is a b c d e f g h rest =
    let first : nat_le 4 (length (begun a b c d e f g h rest)) ≡ true = le-leb 4 (length (begun a b c d e f g h rest)) (omega arith) in
    let second : nat_le 4 (length (e ∷ f ∷ g ∷ h ∷ rest)) ≡ true = le-leb 4 (length (e ∷ f ∷ g ∷ h ∷ rest)) (omega arith) in
    rw (first, second) refl

either_end : (t : Bool) (one two : ℕ) → (if t then 8 + two else 4 + one) ≡ (if t then 8 else 4) + (if t then two else one)
either_end true one two = refl
either_end false one two = refl

same_message : (a b c d e f g h : ℕ) (more ys : List ℕ) → message_end (begun a b c d e f g h more) ≤ length (begun a b c d e f g h more)
    → message_in (begun a b c d e f g h more) ≡ message_in (begun a b c d e f g h (more ++ ys))
same_message a b c d e f g h more ys full =
    let bytes = begun a b c d e f g h more in
    let one = from_le_bytes w32 (a ∷ b ∷ c ∷ d ∷ []) in
    let two = from_le_bytes w32 (e ∷ f ∷ g ∷ h ∷ []) in
    let fits = subst (λ n. n ≤ length bytes) (sym (either_end (one == 0xffff_ffff) one two)) full in
    message_is a b c d e f g h more ∙ either_is (one == 0xffff_ffff) bytes ys one two fits ∙ sym (message_is a b c d e f g h (more ++ ys))

-- the first four of bytes that are as many
abbrev HasFour : List ℕ → Type 0
HasFour xs = (a : ℕ) × (b : ℕ) × (c : ℕ) × (d : ℕ) × (rest : List ℕ) × (xs ≡ a ∷ b ∷ c ∷ d ∷ rest)

four_of : (xs : List ℕ) → 4 ≤ length xs → HasFour xs
four_of [] long = absurd (omega (arith, long))
four_of (a ∷ []) long = absurd (omega (arith, long))
four_of (a ∷ b ∷ []) long = absurd (omega (arith, long))
four_of (a ∷ b ∷ c ∷ []) long = absurd (omega (arith, long))
four_of (a ∷ b ∷ c ∷ d ∷ rest) long = (a, b, c, d, rest, refl)

-- ---- what is read

abbrev ReadAlike : List ℕ → List ℕ → Type 0
ReadAlike xs ys = (r : Result File FileFault) → IsStreamRead xs r ↔ IsStreamRead ys r

alike : (xs ys : List ℕ) → message_end xs ≤ length xs → message_end ys ≤ length ys → message_begin xs ≡ message_begin ys → message_in xs ≡ message_in ys → ReadAlike xs ys
alike xs ys full whole begins same r =
    let one : nat_lt (length xs) (message_end xs) ≡ false = le-ltb (length xs) (message_end xs) full in
    let other : nat_lt (length ys) (message_end ys) ≡ false = le-ltb (length ys) (message_end ys) whole in (
      λ is.
          let read : IsMessageRead xs r = subst (λ t. IsStreamBy t xs r) one is in
          let as_other : IsMessageRead ys r = subst (λ m. IsMessageBy (message_begin ys) m r) same (subst (λ n. IsMessageBy n (message_in xs) r) begins read) in
          subst (λ t. IsStreamBy t ys r) (sym other) as_other,
      λ is.
          let read : IsMessageRead ys r = subst (λ t. IsStreamBy t ys r) other is in
          let as_one : IsMessageRead xs r = subst (λ m. IsMessageBy (message_begin xs) m r) (sym same) (subst (λ n. IsMessageBy n (message_in ys) r) (sym begins) read) in
          subst (λ t. IsStreamBy t xs r) (sym one) as_one,
    )

of_begun : (a b c d e f g h : ℕ) (more ys : List ℕ) → message_end (begun a b c d e f g h more) ≤ length (begun a b c d e f g h more)
    → ReadAlike (begun a b c d e f g h more) (begun a b c d e f g h (more ++ ys))
of_begun a b c d e f g h more ys full =
    alike (begun a b c d e f g h more) (begun a b c d e f g h (more ++ ys)) full (omega (arith, full, length-append more ys)) refl (same_message a b c d e f g h more ys full)

-- what is read of bytes that have the first message, whatever stands behind them
pub same_stream : (head rest : List ℕ) → 8 ≤ length head → message_end head ≤ length head → ReadAlike head (head ++ rest)
same_stream head rest long full =
    let (a, b, c, d, behind, is) = four_of head (omega (arith, long)) in
    let (e, f, g, h, more, more_is) = four_of behind (omega (arith, long, ap length is)) in
    let all : head ≡ begun a b c d e f g h more = is ∙ ap (λ l. a ∷ b ∷ c ∷ d ∷ l) more_is in
    subst (λ l. ReadAlike l (l ++ rest)) (sym all) (of_begun a b c d e f g h more rest (subst (λ l. message_end l ≤ length l) all full))
