-- Bytes that are held, and the line that they begin with, over plain variables.
use Rattle.std.proofs.Common.{◌≡◌, inl, inr, ℕ, ◌+◌, ◌-◌, ◌<◌, ◌≤◌, true, List, [], ◌++◌, length, take, drop, get_or, Option, Some, sym, ap, ◌∙◌, subst, arith}
use Rattle.std.proofs.KnownBytes.{Consumes-nil, Consumes-trans, Consumes-kept}
use Rattle.std.proofs.lemmas.Bool.{cases_lt}
use Rattle.std.proofs.lemmas.List.{append-nil, append_assoc, get_or_append_left, get_or-drop, length-append, length-drop, length-take-le}
use Rattle.std.specs.Io.KnownBytes.{Keeps, Consumes}
use Rattle.memchr.specs.Find.{is_byte, Passes, Nowhere, IsFirstByte}
use Rattle.line_reader.specs.Lines.{line_feed, max_line_bytes, HasNoFeed, IsLong}
use Rattle.line_reader.specs.Sources.{ReadsOn}
use lib.Seq.{take-add, take-take}

-- ---- bytes that are read behind others

pub read_in : (held grown bytes : List ℕ) (end n len : ℕ) → take len grown ≡ held → end ≤ len → take end bytes ≡ take end grown → end + n ≤ length bytes
    → (take (end + n) bytes ≡ take end held ++ take n (drop end bytes)) × (length (take n (drop end bytes)) ≡ n)
read_in held grown bytes end n len kept within front fits =
    let before : take end grown ≡ take end held = sym (take-take end len grown within) ∙ ap (take end) kept in
    (take-add end n bytes ∙ ap (λ l. l ++ take n (drop end bytes)) (front ∙ before), length-take-le n (drop end bytes) (omega (arith, fits, length-drop end bytes)))

-- none, or more
pub reads_none : (old : Option (List ℕ)) (held : List ℕ) → ReadsOn old old held held
reads_none old held = ([], sym (append-nil held), Consumes-nil old)

pub reads_kept : (old mid new : Option (List ℕ)) (held then later : List ℕ) → ReadsOn old mid held then → later ≡ then → Keeps mid new → ReadsOn old new held later
reads_kept old mid new held then later (bytes, is, gives) same kept = (bytes, same ∙ is, Consumes-kept old mid new bytes gives kept)

pub reads_more : (old mid new : Option (List ℕ)) (held then later more : List ℕ) → ReadsOn old mid held then → later ≡ then ++ more → Consumes mid new more → ReadsOn old new held later
reads_more old mid new held then later more (bytes, is, gives) so takes =
    (bytes ++ more, so ∙ ap (λ l. l ++ more) is ∙ append_assoc held bytes more, Consumes-trans old mid new bytes more gives takes)

-- ---- line feeds

abbrev pub IsFeed : List ℕ → ℕ → Type 0
IsFeed = Passes (is_byte line_feed)

-- a byte of the front
front_feed : (a b : List ℕ) (k : ℕ) → k < length a → IsFeed (a ++ b) k → IsFeed a k
front_feed a b k lt is = subst (λ x. is_byte line_feed x ≡ true) (get_or_append_left a b 0 k lt) is

-- more is read behind bytes that have none
pub none_seen : (held then more : List ℕ) → then ≡ held ++ more → HasNoFeed held → (length held ≤ length then) × Nowhere (IsFeed then) 0 (length held)
none_seen held then more is none = (
  omega (arith, length-append held more, ap length is),
  subst (λ l. Nowhere (IsFeed l) 0 (length held)) (sym is) (λ k low high feed. none k low high (front_feed held more k high feed)),
)

-- no line feed stands among the first bytes, of which so many were seen
module _ (held : List ℕ) (seen : ℕ) (none : Nowhere (IsFeed held) 0 seen) where
  none_to : (n : ℕ) → Nowhere (IsFeed (drop seen held)) 0 n → (k : ℕ) → k < seen + n → ¬ IsFeed held k
  none_to n behind k lt is =
      elim (cases_lt k seen) [
        | inl before ↦ none k (omega arith) before is
        | inr after ↦
            let place : seen + (k - seen) ≡ k = omega (arith, after) in
            let same : get_or (drop seen held) (k - seen) 0 ≡ get_or held k 0 = get_or-drop seen held (k - seen) 0 ∙ ap (λ i. get_or held i 0) place in
            behind (k - seen) (omega arith) (omega (arith, lt, after)) (subst (λ x. is_byte line_feed x ≡ true) (sym same) is)
      ]

  pub none_there : HasNoFeed (drop seen held) → HasNoFeed held
  none_there behind k low high is = none_to (length (drop seen held)) behind k (omega (arith, high, length-drop seen held)) is

  pub found_at : (at : ℕ) → IsFirstByte (is_byte line_feed) (drop seen held) (Some at) → IsFirstByte (is_byte line_feed) held (Some (seen + at))
  found_at at (found, is) = (
    record { low = omega arith; high = omega (arith, found.high, length-drop seen held); before = λ k low high. none_to at found.before k high },
    subst (λ x. is_byte line_feed x ≡ true) (get_or-drop seen held at 0) is,
  )

-- ---- lines that are too long

pub long_at : (held : List ℕ) (len : ℕ) → IsFirstByte (is_byte line_feed) held (Some len) → max_line_bytes < len → IsLong held
long_at held len (found, is) long = (omega (arith, found.high, long), λ k low high. found.before k low (omega (arith, high, long)))

pub long_held : (held : List ℕ) → HasNoFeed held → max_line_bytes < length held → IsLong held
long_held held none long = (long, λ k low high. none k low (omega (arith, high, long)))
