-- An input, its lines and their limits.
use Rattle.std.proofs.Common.{◌≡◌, ◌≢◌, ℕ, ◌<◌, inl, inr, List, [], ◌∷◌, ◌++◌, length, refl, sym, ap, ap₂, ◌⊎◌, ◌∙◌, append_assoc, append-nil, All, arith, ◌+◌, ◌≤◌, get_or, subst, length-append}
use Rattle.std.proofs.lemmas.Bool.{ne_eqb, cases_eq}
use Rattle.std.proofs.lemmas.List.{get_or_append_left, get_or_at}
use Rattle.std.proofs.lemmas.List.Elements.{All-nil, All-cons, All-head, All-tail, All-append, All-push, All-drop}
use Rattle.std.proofs.Math.Seq.{drop-append_seam}
use Rattle.std.specs.Prelude.{codes}
use Rattle.geoarrow_fields.proofs.Terms.{Command, InputFault, AnswersUntil, Means, Bytes, lines_of, ended_lines, line_feed, IsLine, IsSplit, max_lines, max_line_bytes, IsWithinLimits, IsPastLimit, Stops, IsAt}

-- ---- an input and its lines

-- a line that a line feed ends is the first of the lines
pub lines_of-line : (line rest : Bytes) → IsLine line → lines_of (line ++ (line_feed ∷ rest)) ≡ line ∷ lines_of rest
lines_of-line [] rest h = refl
lines_of-line (byte ∷ line) rest h =
    rw (ne_eqb byte line_feed (All-head (λ b. b ≢ line_feed) byte line h), lines_of-line line rest (All-tail (λ b. b ≢ line_feed) byte line h)) refl

-- what no line feed ends is a line of its own
pub lines_of-last : (rest : Bytes) → IsLine rest → 0 < length rest → lines_of rest ≡ rest ∷ []
lines_of-last [] h some = absurd (omega arith)
lines_of-last (byte ∷ []) h some = rw (ne_eqb byte line_feed (All-head (λ b. b ≢ line_feed) byte [] h)) refl
lines_of-last (byte ∷ (next ∷ rest)) h some =
    let more = lines_of-last (next ∷ rest) (All-tail (λ b. b ≢ line_feed) byte (next ∷ rest) h) (omega arith) in
    rw (ne_eqb byte line_feed (All-head (λ b. b ≢ line_feed) byte (next ∷ rest) h), more) refl

-- the lines of lines put together, and of what comes after them
lines_of-ended : (lines : List Bytes) (later : Bytes) → All IsLine lines → lines_of (ended_lines lines ++ later) ≡ lines ++ lines_of later
lines_of-ended [] later h = refl
lines_of-ended (line ∷ lines) later h =
    rw (append_assoc, lines_of-line line (ended_lines lines ++ later) (All-head IsLine line lines h), lines_of-ended lines later (All-tail IsLine line lines h)) refl

lines_of-split : (input : Bytes) (lines : List Bytes) (later : Bytes) → IsSplit input lines later → lines_of input ≡ lines ++ lines_of later
lines_of-split input lines later split = ap lines_of split.joined ∙ lines_of-ended lines later split.each

pub ended_lines-push : (lines : List Bytes) (line rest : Bytes) → ended_lines (lines ++ line ∷ []) ++ rest ≡ ended_lines lines ++ (line ++ (line_feed ∷ rest))
ended_lines-push [] line rest = append_assoc line (line_feed ∷ []) rest
ended_lines-push (first ∷ lines) line rest = simp (append_assoc, ended_lines-push lines line rest)

-- what the law of `lines` says
pub lines_of_ended : (lines : List Bytes) → All IsLine lines → lines_of (ended_lines lines) ≡ lines
lines_of_ended lines h = ap lines_of (sym (append-nil (ended_lines lines))) ∙ lines_of-ended lines [] h ∙ append-nil lines

pub lines_of_both : (lines : List Bytes) (rest : Bytes) → All IsLine lines → IsLine rest → 0 < length rest → lines_of (ended_lines lines ++ rest) ≡ lines ++ rest ∷ []
lines_of_both lines rest h line some = lines_of-ended lines rest h ∙ ap (λ l. lines ++ l) (lines_of-last rest line some)

pub split_every : (input : Bytes) → (lines : List Bytes) × (rest : Bytes) × IsSplit input lines rest × IsLine rest
split_every [] = ([], [], record { joined = refl; each = All-nil IsLine }, All-nil (λ b. b ≢ line_feed))
split_every (byte ∷ bytes) = after (cases_eq byte line_feed) (split_every bytes)
  where
    after : (byte ≡ line_feed) ⊎ (byte ≢ line_feed) → (lines : List Bytes) × (rest : Bytes) × IsSplit bytes lines rest × IsLine rest
        → (lines : List Bytes) × (rest : Bytes) × IsSplit (byte ∷ bytes) lines rest × IsLine rest
    after (inl feed) (lines, rest, split, line) =
        ([] ∷ lines, rest, record { joined = ap₂ (λ b l. b ∷ l) feed split.joined; each = All-cons IsLine [] lines (All-nil (λ b. b ≢ line_feed)) split.each }, line)
    after (inr other) ([], rest, split, line) = ([], byte ∷ rest, record { joined = ap (λ l. byte ∷ l) split.joined; each = split.each }, All-cons (λ b. b ≢ line_feed) byte rest other line)
    after (inr other) (begun ∷ lines, rest, split, line) =
        let longer = All-cons (λ b. b ≢ line_feed) byte begun other (All-head IsLine begun lines split.each) in
        ((byte ∷ begun) ∷ lines, rest, record { joined = ap (λ l. byte ∷ l) split.joined; each = All-cons IsLine (byte ∷ begun) lines longer (All-tail IsLine begun lines split.each) }, line)

-- ---- where an input is stopped

abbrev pub IsShort : Bytes → Type 0
IsShort line = length line ≤ max_line_bytes

-- before all of it
abbrev pub stops_first : (input : Bytes) → Stops (IsAt 0 input) input
stops_first input = record {
  lines = [];
  later = input;
  split = record { joined = refl; each = All-nil IsLine };
  within = record { few = omega arith; short = All-nil IsShort };
  cause = (refl, refl);
}

-- at the same place, where more comes
abbrev pub stops_longer : (count : ℕ) (later input more : Bytes) → Stops (IsAt count later) input → Stops (IsAt count (later ++ more)) (input ++ more)
stops_longer count later input more stop = record {
  lines = stop.lines;
  later = stop.later ++ more;
  split = record { joined = ap (λ l. l ++ more) stop.split.joined ∙ append_assoc (ended_lines stop.lines) stop.later more; each = stop.split.each };
  within = stop.within;
  cause = (stop.cause.0, ap (λ l. l ++ more) stop.cause.1);
}

-- one line later
abbrev pub stops_next : (count : ℕ) (later input line rest : Bytes) → Stops (IsAt count later) input → later ≡ line ++ (line_feed ∷ rest) → IsLine line → (count < max_lines) × IsShort line
    → Stops (IsAt (count + 1) rest) input
stops_next count later input line rest stop joined is fits = record {
  lines = stop.lines ++ line ∷ [];
  later = rest;
  split = record {
    joined = stop.split.joined ∙ ap (λ l. ended_lines stop.lines ++ l) (stop.cause.1 ∙ joined) ∙ sym (ended_lines-push stop.lines line rest);
    each = All-push IsLine stop.lines line stop.split.each is;
  };
  within = record { few = omega (arith, stop.cause.0, fits.0, length-append stop.lines (line ∷ [])); short = All-push IsShort stop.lines line stop.within.short fits.1 };
  cause = (omega (arith, stop.cause.0, length-append stop.lines (line ∷ [])), refl);
}

-- for a cause
abbrev pub stops_for : (Cause : ℕ → Bytes → Type 0) (count : ℕ) (later input : Bytes) → Stops (IsAt count later) input → Cause count later → Stops Cause input
stops_for Cause count later input stop cause = record { lines = stop.lines; later = stop.later; split = stop.split; within = stop.within; cause = rw (stop.cause.0, stop.cause.1) cause }

-- what comes then has these lines, which are within the limits, so all are
pub stops_last : (count : ℕ) (later input : Bytes) (last : List Bytes) → lines_of later ≡ last → (count + length last ≤ max_lines) × All IsShort last → (stop : Stops (IsAt count later) input)
    → IsWithinLimits (lines_of input) × (lines_of input ≡ stop.lines ++ last)
stops_last count later input last same fits stop =
    let lines : lines_of input ≡ stop.lines ++ last = lines_of-split input stop.lines stop.later stop.split ∙ ap (λ l. stop.lines ++ lines_of l) stop.cause.1 ∙ ap (λ l. stop.lines ++ l) same in (
      rw lines (record {
        few = omega (arith, fits.0, stop.cause.0, length-append stop.lines last);
        short = All-append IsShort stop.lines last stop.within.short fits.1;
      }),
      lines,
    )

-- ---- what is past a limit

-- a line that comes is
pub limit_passed : (count : ℕ) (later line tail : Bytes) → later ≡ line ++ tail → IsLine line → 0 < length later → (count ≡ max_lines) ⊎ (max_line_bytes < length line) → IsPastLimit count later
limit_passed count later line tail joined is some (inl many) = inl (many, some)
limit_passed count later line tail joined is some (inr long) = inr (record { begun = line; rest = tail; joined = joined; line = is; long = long })

-- a line that a line feed ends within its limit is past none
pub line_inside : (count : ℕ) (later line tail : Bytes) → later ≡ line ++ (line_feed ∷ tail) → (count < max_lines) × IsShort line → ¬ IsPastLimit count later
line_inside count later line tail joined fits (inl (many, some)) = omega (arith, fits.0, many)
line_inside count later line tail joined fits (inr long) =
    let at : length line < length long.begun = omega (arith, fits.1, long.long) in
    long.line (length line) 0 at
    (sym (get_or_append_left long.begun long.rest 0 (length line) at) ∙ ap (λ l. get_or l (length line) 0) (sym long.joined ∙ joined) ∙ get_or_at line line_feed tail 0 (length line) refl)

-- nor is what has come of one
pub begun_inside : (count : ℕ) (later : Bytes) → (0 < length later → count < max_lines) → IsShort later → ¬ IsPastLimit count later
begun_inside count later room short (inl (many, some)) = let few : count < max_lines = room some in omega arith
begun_inside count later room short (inr long) = omega (arith, long.long, ap length long.joined, length-append long.begun long.rest)

-- ---- an input is within the limits, or passes one

-- a line that comes is past one, or goes on within them
goes_on : (input : Bytes) (count : ℕ) (later line tail : Bytes) → Stops (IsAt count later) input → later ≡ line ++ tail → IsLine line → 0 < length later
    → ((count < max_lines) × IsShort line → IsWithinLimits (lines_of input) ⊎ Stops IsPastLimit input) → IsWithinLimits (lines_of input) ⊎ Stops IsPastLimit input
goes_on input count later line tail stop joined is some on =
    let passes : (count ≡ max_lines) ⊎ (max_line_bytes < length line) → IsWithinLimits (lines_of input) ⊎ Stops IsPastLimit input =
    λ past. inr (stops_for IsPastLimit count later input stop (limit_passed count later line tail joined is some past)) in
    grind (arith, on, passes, stop.cause.0, stop.within.few)

walks : (input : Bytes) (count : ℕ) (lines : List Bytes) (rest : Bytes) → Stops (IsAt count (ended_lines lines ++ rest)) input → All IsLine lines → IsLine rest
    → IsWithinLimits (lines_of input) ⊎ Stops IsPastLimit input
walks input count [] [] stop each is = inl (stops_last count [] input [] refl (omega (arith, stop.cause.0, stop.within.few), All-nil IsShort) stop).0
walks input count [] (byte ∷ bytes) stop each is =
    let rest = byte ∷ bytes in
    goes_on input count rest rest [] stop (sym (append-nil rest)) is (omega arith)
    (λ fits. inl (stops_last count rest input (rest ∷ []) (lines_of-last rest is (omega arith)) (omega (arith, fits.0), All-cons IsShort rest [] fits.1 (All-nil IsShort)) stop).0)
walks input count (line ∷ lines) rest stop each is =
    let here = All-head IsLine line lines each in
    let later = ended_lines lines ++ rest in
    let joined : ended_lines (line ∷ lines) ++ rest ≡ line ++ (line_feed ∷ later) = append_assoc line (line_feed ∷ ended_lines lines) rest in
    goes_on input count _ line (line_feed ∷ later) stop joined here (omega (arith, ap length joined, length-append line (line_feed ∷ later)))
    (λ fits. walks input (count + 1) lines rest (stops_next count _ input line later stop joined here fits) (All-tail IsLine line lines each) is)

pub either : (input : Bytes) → IsWithinLimits (lines_of input) ⊎ Stops IsPastLimit input
either input =
    let (lines, rest, split, is) = split_every input in
    walks input 0 lines rest (subst (λ l. Stops (IsAt 0 l) input) split.joined (stops_first input)) split.each is

-- and not both: the next line fits
next_fits : (lines : List Bytes) (line : Bytes) (others : List Bytes) → IsWithinLimits (lines ++ line ∷ others) → (length lines < max_lines) × IsShort line
next_fits lines line others within = (
  omega (arith, within.few, length-append lines (line ∷ others)),
  All-head IsShort line others (rw drop-append_seam at (All-drop IsShort (length lines) (lines ++ line ∷ others) within.short)),
)

pub never_both : (input : Bytes) → IsWithinLimits (lines_of input) → ¬ Stops IsPastLimit input
never_both input within passes = inside (split_every passes.later) passes.cause
  where
    lines : (later : List Bytes) → lines_of passes.later ≡ later → IsWithinLimits (passes.lines ++ later)
    lines later same = rw (lines_of-split input passes.lines passes.later passes.split, same) at within

    inside : (lines : List Bytes) × (rest : Bytes) × IsSplit passes.later lines rest × IsLine rest → ¬ IsPastLimit (length passes.lines) passes.later
    inside (line ∷ others, rest, split, is) =
        line_inside _ _ line _ (split.joined ∙ append_assoc line (line_feed ∷ ended_lines others) rest)
        (next_fits passes.lines line (others ++ lines_of rest) (lines _ (lines_of-split passes.later (line ∷ others) rest split)))
    inside ([], [], split, is) = begun_inside _ _ (λ some. absurd (omega (arith, ap length split.joined))) (omega (arith, ap length split.joined))
    inside ([], byte ∷ bytes, split, is) =
        let fits = next_fits passes.lines (byte ∷ bytes) [] (lines _ (ap lines_of split.joined ∙ lines_of-last (byte ∷ bytes) is (omega arith))) in
        begun_inside _ _ (λ some. fits.0) (rw split.joined fits.1)

-- ---- past a limit, where more comes

past_longer : (count : ℕ) (later more : Bytes) → IsPastLimit count later → IsPastLimit count (later ++ more)
past_longer count later more (inl (many, some)) = inl (many, omega (arith, some, length-append later more))
past_longer count later more (inr long) = inr (record {
  begun = long.begun;
  rest = long.rest ++ more;
  joined = ap (λ l. l ++ more) long.joined ∙ append_assoc long.begun long.rest more;
  line = long.line;
  long = long.long;
})

abbrev stops_past : (input more : Bytes) → Stops IsPastLimit input → Stops IsPastLimit (input ++ more)
stops_past input more stop = record {
  lines = stop.lines;
  later = stop.later ++ more;
  split = record { joined = ap (λ l. l ++ more) stop.split.joined ∙ append_assoc (ended_lines stop.lines) stop.later more; each = stop.split.each };
  within = stop.within;
  cause = past_longer (length stop.lines) stop.later more stop.cause;
}

pub fault_longer : (command : Command) (input more output : Bytes) → AnswersUntil IsPastLimit command (codes "error input\n") input output
    → Means command InputFault (input ++ more) output
fault_longer command input more output (stop, answered) =
    let longer = stops_past input more stop in
    (record { lines = longer.lines; later = longer.later; split = longer.split; within = longer.within; cause = inl longer.cause }, answered)
