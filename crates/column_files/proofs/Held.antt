-- Bytes that are held, and the line that they begin with, over plain variables.
use Rattle.std.proofs.Common.{Bool, ◌≡◌, inl, inr, ℕ, ◌+◌, ◌<◌, ◌≤◌, min, true, false, List, [], ◌∷◌, ◌++◌, length, take, drop, drop_of_length-le, Option, Some, None, IfSome, Err, refl, sym, ap, ◌∙◌, subst, arith}
use Rattle.std.proofs.lemmas.List.{append-nil, append_assoc, get_or_append_left, length-append, length-take, take-append-le, take_all, drop-append-le}
use Rattle.std.proofs.lemmas.List.Elements.{All-nil, All-push}
use Rattle.std.specs.Io.KnownBytes.{Keeps, IsAtEnd, prepend_known}
use Rattle.memchr.specs.Find.{is_byte, Passes, Nowhere, IsFirstByte}
use Rattle.column_files.specs.Lines.{line_feed, FirstLine, LinesTo}
use Rattle.column_files.specs.LineItems.{LineItem, Gives}
use Rattle.line_reader.specs.Lines.{max_line_bytes, max_count, HasNoFeed, IsLong, HasLine, IsUnfinished}
use Rattle.line_reader.specs.Sources.{ReadsOn}
use Rattle.line_reader.specs.declared.error.LineError.{LineError}
use Rattle.line_reader.specs.declared.error.LineError.TheVariants.{Input, LongLine, OutOfMemory}
use Rattle.column_files.specs.Faults.{read_fault}
use Rattle.column_files.specs.declared.fault.ReadFault.{ReadFault}
use Rattle.column_files.specs.Reading.{Goes, PassesLines, IsNext, answered, is_item}
use Rattle.column_files.proofs.Steps.{lines_more, items_more, one_line}

-- ---- line feeds

abbrev IsFeed : List ℕ → ℕ → Type 0
IsFeed = Passes (is_byte line_feed)

-- a byte of the front
front_feed : (a b : List ℕ) (k : ℕ) → k < length a → IsFeed (a ++ b) k → IsFeed a k
front_feed a b k lt is = subst (λ x. is_byte line_feed x ≡ true) (get_or_append_left a b 0 k lt) is

none_in_more : (a b : List ℕ) (n : ℕ) → n ≤ length a → Nowhere (IsFeed a) 0 n → Nowhere (IsFeed (a ++ b)) 0 n
none_in_more a b n fits none k low high is = none k low high (front_feed a b k (omega (arith, fits, high)) is)

short_at : (held more : List ℕ) (len : ℕ) → IsFirstByte (is_byte line_feed) held (Some len) → len ≤ max_line_bytes → ¬ IsLong (held ++ more)
short_at held more len (found, is) short (long, none) =
    none len (omega arith) (omega (arith, short)) (subst (λ x. is_byte line_feed x ≡ true) (sym (get_or_append_left held more 0 len found.high)) is)

-- ---- the first line

-- one that a line feed ends
line_at : (held more : List ℕ) (len : ℕ) → IsFirstByte (is_byte line_feed) held (Some len) → FirstLine (held ++ more) (take len held) (drop (len + 1) held ++ more)
line_at held more len (found, is) =
    let high = found.high in
    let some : length (held ++ more) ≡ 0 → ⊥ = λ none. omega (arith, high, length-append held more, none) in (
      λ empty. some (ap length empty),
      (
        Some len,
        (
          record { low = omega arith; high = omega (arith, high, length-append held more); before = none_in_more held more len (omega (arith, high)) found.before },
          subst (λ x. is_byte line_feed x ≡ true) (sym (get_or_append_left held more 0 len high)) is,
        ),
        (sym (take-append-le len held more (omega (arith, high))), sym (drop-append-le (len + 1) held more (omega (arith, high)))),
      ),
    )

-- the last one, which none ends
line_last : (held more : List ℕ) (len : ℕ) → len ≡ length held → 0 < len → HasNoFeed held → more ≡ [] → FirstLine (held ++ more) (take len held) (drop (len + 1) held ++ more)
line_last held more len len_is some none end =
    let text_is : held ++ more ≡ held = ap (λ l. held ++ l) end ∙ append-nil held in
    let full : held ++ more ≡ [] → ⊥ = λ empty. omega (arith, some, len_is, ap length (sym text_is ∙ empty)) in (
      full,
      (
        None,
        subst (λ t. IsFirstByte (is_byte line_feed) t None) (sym text_is) none,
        (take_all len held (omega (arith, len_is)) ∙ sym text_is, ap (λ l. l ++ more) (drop_of_length-le held (omega (arith, len_is))) ∙ end),
      ),
    )

first_line : (held more : List ℕ) (len : ℕ) → HasLine held (Some more) (Some len) → FirstLine (held ++ more) (take len held) (drop (len + 1) held ++ more) × ¬ IsLong (held ++ more)
first_line held more len (short, inl found) = (line_at held more len found, short_at held more len found short)
first_line held more len (short, inr (len_is, some, none, end)) =
    (line_last held more len len_is some none end, λ long. omega (arith, long.0, short, len_is, length-append held more, ap length end))

-- ---- what is read

-- the text that is left stays as it is
pub text_kept : (old new : Option (List ℕ)) (held then : List ℕ) → ReadsOn old new held then → Keeps (prepend_known held old) (prepend_known then new)
text_kept None new held then read = tt
text_kept (Some text) None held then (more, is, gives) = absurd gives
text_kept (Some text) (Some rest) held then (more, is, gives) = ap (λ l. l ++ rest) is ∙ append_assoc held more rest ∙ ap (λ l. held ++ l) (sym gives)

-- ---- lines that are passed over

-- none
goes_nowhere : (old : Option (List ℕ)) → Goes (λ text rest. LinesTo text [] rest) old old
goes_nowhere None = tt
goes_nowhere (Some text) = refl

pub passes_none : (n : ℕ) (old : Option (List ℕ)) → n ≤ max_count → PassesLines n n old old []
passes_none n old most = ([], omega (arith, most), All-nil (λ line. length line ≤ max_line_bytes), refl, goes_nowhere old)

-- the text that is left stays as it is
goes_on : (lines : List (List ℕ)) (old mid new : Option (List ℕ)) → Goes (λ text rest. LinesTo text lines rest) old mid → Keeps mid new → Goes (λ text rest. LinesTo text lines rest) old new
goes_on lines None mid new goes kept = tt
goes_on lines (Some text) None new goes kept = absurd goes
goes_on lines (Some text) (Some rest) None goes kept = absurd kept
goes_on lines (Some text) (Some rest) (Some later) goes kept = subst (LinesTo text lines) (sym kept) goes

pub passes_kept : (n m k : ℕ) (old mid new : Option (List ℕ)) (items : List LineItem) → PassesLines n m old mid items → k ≡ m → Keeps mid new → PassesLines n k old new items
passes_kept n m k old mid new items (lines, count, short, are, goes) same kept = (lines, same ∙ count, short, are, goes_on lines old mid new goes kept)

-- the line at hand is passed over too
goes_past : (lines : List (List ℕ)) (old rest : Option (List ℕ)) (held : List ℕ) (len : ℕ) → Goes (λ text rest. LinesTo text lines rest) old (prepend_known held rest)
    → HasLine held rest (Some len) → Goes (λ text rest. LinesTo text (lines ++ take len held ∷ []) rest) old (prepend_known (drop (len + 1) held) rest)
goes_past lines None rest held len goes line = tt
goes_past lines (Some text) None held len goes line = absurd goes
goes_past lines (Some text) (Some more) held len goes line =
    let behind = drop (len + 1) held ++ more in
    lines_more lines (take len held ∷ []) text (held ++ more) behind goes (behind, (first_line held more len line).0, refl)

pub passes_line : (n m k : ℕ) (old rest now : Option (List ℕ)) (held : List ℕ) (len : ℕ) (items : List LineItem) → PassesLines n m old (prepend_known held rest) [] → k ≡ min (m + 1) max_count
    → HasLine held rest (Some len) → Gives m (take len held) items → now ≡ prepend_known (drop (len + 1) held) rest → PassesLines n k old now items
passes_line n m k old rest now held len items (lines, count, short, are, goes) next line here left =
    let one : length (take len held) ≤ max_line_bytes = omega (arith, line.0, length-take len held) in
    let all = lines ++ take len held ∷ [] in (
      all,
      omega (arith, next, count, length-append lines (take len held ∷ [])),
      All-push (λ line. length line ≤ max_line_bytes) lines (take len held) short one,
      items_more n m lines (take len held ∷ []) [] items are (omega (arith, count)) (one_line m (take len held) items here),
      subst (Goes (λ text rest. LinesTo text all rest) old) (sym left) (goes_past lines old rest held len goes line),
    )

-- ---- what is answered of it

pub long_next : (rest : Option (List ℕ)) (held : List ℕ) → IsLong held → IfSome (prepend_known held rest) IsLong
long_next None held long = tt
long_next (Some more) held long =
    (omega (arith, long.0, length-append held more), none_in_more held more (max_line_bytes + 1) (omega (arith, long.0)) long.1)

pub end_next : (rest : Option (List ℕ)) (held : List ℕ) → HasLine held rest None → IsAtEnd (prepend_known held rest)
end_next None held line = line.1
end_next (Some more) held line = ap (λ l. l ++ more) line.0 ∙ line.1

-- a line that is not read, and so not answered
abbrev pub IsUnread : ℕ → Bool → Option (List ℕ) → List ℕ → ReadFault → Type 0
IsUnread n some rest held fault = (answered (Err fault) ≡ []) × (is_item (Err fault) ≡ false) × IsNext n some (prepend_known held rest) held (Err fault)

pub unfinished_next : (n : ℕ) (some : Bool) (rest : Option (List ℕ)) (held : List ℕ) (error : LineError) → IsUnfinished n held error → IsUnread n some rest held (read_fault error)
unfinished_next n some rest held (LongLine k) is = (refl, refl, (is.0, long_next rest held is.1))
unfinished_next n some rest held (Input error) is = (refl, refl, (is.0.0, is.1))
unfinished_next n some rest held OutOfMemory is = (refl, refl, tt)
