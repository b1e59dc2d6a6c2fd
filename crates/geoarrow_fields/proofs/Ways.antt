-- What a writer holds grows; a run under way, line by line, and its ends. Over plain variables.
use Rattle.std.proofs.Common.{◌≡◌, ◌≢◌, ◌⊎◌, inl, inr, ℕ, min, List, [], ◌∷◌, ◌++◌, ◌-◌, ◌+◌, ◌<◌, ◌≤◌, true, eqb, length, take, drop, get_or, All, Option, Some, None, Result, Ok, Err, IfErr, codes, refl, sym, ap, ◌∙◌, subst, append_assoc, append-nil, length-append, length-take, drop-cons, take_all, add-one, arith}
use Rattle.std.specs.Prelude.{⊤}
use Rattle.std.specs.Result.{IsErrAnd}
use Rattle.std.specs.Io.KnownBytes.{Appends, Keeps, IsAtEnd}
use Rattle.std.proofs.KnownBytes.{Appends-trans, Appends-nil, Appends-kept, Consumes-nil, Consumes-trans, Consumes-kept, Keeps-refl}
use Rattle.std.proofs.lemmas.Bool.{eq-eqb, eqb-true}
use Rattle.std.proofs.lemmas.List.{take-append-drop, take_rest, get_or-take}
use Rattle.std.proofs.lemmas.List.Elements.{All-from_get_or, All-nil, All-cons, All-append}
use Rattle.memchr.specs.Find.{is_byte, IsFirstByte}
use Rattle.line_reader.specs.Lines.{max_count, HasLine, HasNoFeed, IsLast}
use Rattle.line_reader.specs.Sources.{ReadsOn}
use Rattle.geoarrow_fields.proofs.Terms.{Command, Bytes, line_feed, Answers, Answered, AnswersLine, AppendsSome, FrontOf, Moves, Passes, Breaks, Done, OutputFault, Fault, Input, NoMemory, Output, lines_of, max_lines, IsBegunLine, IsPastLimit, Means, ReadsAndWrites, IsAt, IsCause, AnswersUntil, HasCome, IsMeant, IsStopped}
use Rattle.geoarrow_fields.proofs.Limits.{IsShort, lines_of-last, stops_first, stops_longer, stops_next, stops_for, stops_last, line_inside, begun_inside}
use Rattle.geoarrow_fields.proofs.Feeds.{found_line, found_length, found_parts, none_line}

-- ---- faults, and what a writer holds

-- what follows from a fault that is handed on
pub handed_on : {T E : Type 0} (P : E → Type 0) (r : Result T E) (x : E) → IsErrAnd r (λ e. e ≡ x) → P x → IfErr r P
handed_on P r x is h = grind arith

-- an answer to a line, with its line feed, answers that line
module _ (command : Command) (line answer text : Bytes) (is : Answers command line answer) (fed : text ≡ answer ++ (line_feed ∷ [])) where
  answered_line : AnswersLine command line text
  unfolding Answered
  answered_line = (answer, [], is, fed, refl)

  -- that comes behind what is held
  module _ (before grown : Bytes) (old new : Option Bytes) (joined : grown ≡ before ++ text) where
    pub answer_passes : (after : Bytes) → Moves grown after old new → Passes (AnswersLine command line) before after old new
    answer_passes after moved = (text, answered_line, rw joined at moved)

    answer_breaks_off : AppendsSome (FrontOf (λ whole. grown ≡ whole)) old new → (left : Bytes) × Passes (AnswersLine command line) before left old new
    answer_breaks_off (front, (back, whole), written) = (back, answer_passes back (front, written, whole))

    pub answer_stopped : {T : Type 0} (after : Bytes) (r : Result T Fault) → IfErr r (λ fault. (fault ≡ Output) × AppendsSome (FrontOf (λ whole. grown ≡ whole)) old new)
        → IfErr r (λ fault. Breaks fault (AnswersLine command line) before after old new)
    answer_stopped after (Ok x) h = tt
    answer_stopped after (Err fault) (is, part) = rw is (answer_breaks_off part)

pub answered_none : (command : Command) (last : Bytes) → Answered command last [] last
unfolding Answered
answered_none command last = refl

pub answered_after : (command : Command) (last : Bytes) (a b : List Bytes) (x y : Bytes) → Answered command [] a x → Answered command last b y
    → Answered command last (a ++ b) (x ++ y)
unfolding Answered
answered_after command last [] b x y first second = subst (λ l. Answered command last b (l ++ y)) (sym first) second
answered_after command last (line ∷ a) b x y first second =
    let (answer, rest, is, joined, others) = first in
    (answer, rest ++ y, is, ap (λ l. l ++ y) joined ∙ append_assoc answer (line_feed ∷ rest) y, answered_after command last a b rest y others second)

-- a part of the text is written, and then some of its rest
pub write_goes_on : (text rest : Bytes) (n : ℕ) (old mid new : Option Bytes) → AppendsSome (λ done. text ≡ done ++ rest) old mid → Appends mid new (take n rest)
    → AppendsSome (λ done. text ≡ done ++ take (length rest - n) (drop n rest)) old new
write_goes_on text rest n old mid new (done, split, before) more =
    (done ++ take n rest, rw (append_assoc, take_rest, take-append-drop) split, Appends-trans old mid new done (take n rest) before more)

-- of two texts the first is written, or a front part of it
pub front_of_first : (first last : Bytes) (old new : Option Bytes) → AppendsSome (FrontOf (λ whole. first ≡ whole)) old new → AppendsSome (FrontOf (λ whole. first ++ last ≡ whole)) old new
front_of_first first last old new (front, (back, is), written) = (front, (back ++ last, ap (λ l. l ++ last) is ∙ append_assoc front back last), written)

-- and then a front part of the last
pub front_of_last : (first last : Bytes) (old mid new : Option Bytes) → Appends old mid first → AppendsSome (FrontOf (λ whole. last ≡ whole)) mid new → AppendsSome (FrontOf (λ whole. first ++ last ≡ whole)) old new
front_of_last first last old mid new before (front, (back, is), written) =
    (first ++ front, (back, ap (λ l. first ++ l) is ∙ sym (append_assoc first front back)), Appends-trans old mid new first front before written)

-- what is held stays held, or is written whole
pub stays_held : (held : Bytes) (out : Option Bytes) → Moves held held out out
stays_held held out = ([], Appends-nil out, refl)

pub moves_all : (before after : Bytes) (old new : Option Bytes) → Appends old new before → after ≡ [] → Moves before after old new
moves_all before after old new written none = (before, written, sym (append-nil before) ∙ ap (λ l. before ++ l) (sym none))

-- ---- a run goes on

-- by more that it writes
pub writes : (Before After : Bytes → Bytes → Type 0) (More : Bytes → Type 0) {i j o p q : Option Bytes} → ((input output more : Bytes) → Before input output → More more → After input (output ++ more))
    → ReadsAndWrites Before i j o p → AppendsSome More p q → ReadsAndWrites After i j o q
writes Before After More {i} {j} {o} {p} {q} join run (more, is, grown) = record {
  input = run.input;
  output = run.output ++ more;
  consumed = run.consumed;
  written = Appends-trans o p q run.output more run.written grown;
  is = join run.input run.output more run.is is;
}

-- or by a front part of it
pub writes_front : (Before After : Bytes → Bytes → Type 0) (More : Bytes → Type 0) {i j o p q : Option Bytes} → ((input output more : Bytes) → Before input output → More more → After input (output ++ more))
    → ReadsAndWrites Before i j o p → AppendsSome (FrontOf More) p q → ReadsAndWrites (λ input. FrontOf (After input)) i j o q
writes_front Before After More join =
    writes Before (λ input. FrontOf (After input)) (FrontOf More) (λ input output more is part. (part.0, rw append_assoc (join input output (more ++ part.0) is part.1)))

-- or by more that comes behind what is held
pub passes : (Before After : Bytes → Bytes → Type 0) (More : Bytes → Type 0) (before after : Bytes) {i j o p q : Option Bytes} → ((input output more : Bytes) → Before input output → More more → After input (output ++ more))
    → ReadsAndWrites (λ input output. Before input (output ++ before)) i j o p → Passes More before after p q → ReadsAndWrites (λ input output. After input (output ++ after)) i j o q
passes Before After More before after {i} {j} {o} {p} {q} join run (more, is, (written, grown, split)) =
    let same : (run.output ++ before) ++ more ≡ (run.output ++ written) ++ after =
    append_assoc run.output before more ∙ ap (λ l. run.output ++ l) split ∙ sym (append_assoc run.output written after) in record {
      input = run.input;
      output = run.output ++ written;
      consumed = run.consumed;
      written = Appends-trans o p q run.output written run.written grown;
      is = subst (After run.input) same (join run.input (run.output ++ before) more run.is is);
    }

-- what is not written is left
pub cut_off : (Form : Bytes → Bytes → Type 0) (left : Bytes) {i j o p : Option Bytes} → ReadsAndWrites (λ input output. Form input (output ++ left)) i j o p
    → ReadsAndWrites (λ input front. (back : Bytes) × Form input (front ++ back)) i j o p
cut_off Form left run = record { input = run.input; output = run.output; consumed = run.consumed; written = run.written; is = (left, run.is) }

-- nothing has come yet
pub way_starts : (command : Command) (count : ℕ) (begun held : Bytes) (i o : Option Bytes) → count ≡ 0 → begun ≡ [] → held ≡ [] → HasCome command count begun held i i o o
way_starts command count begun held i o zero none empty =
    rw (zero, none, empty) (record { input = []; output = []; consumed = Consumes-nil i; written = Appends-nil o; is = (stops_first [], answered_none command []) })

module _ (command : Command) {count : ℕ} {later : Bytes} (held : Bytes) {i j o p : Option Bytes} (way : HasCome command count later held i j o p) where
  -- more of the input is read
  pub way_reads : (k : Option Bytes) (n : ℕ) (now : Bytes) → ReadsOn j k later now → n ≡ count → HasCome command n now held i k o p
  way_reads k n now (piece, is, read) same = rw (is, same) (record {
    input = way.input ++ piece;
    output = way.output;
    consumed = Consumes-trans i j k way.input piece way.consumed read;
    written = way.written;
    is = (stops_longer count later way.input piece way.is.0, way.is.1);
  })

  -- it ends there, with a last text
  way_stops : (Cause : ℕ → Bytes → Type 0) (last : Bytes) (q : Option Bytes) → Cause count later → Keeps p q
      → ReadsAndWrites (λ input output. AnswersUntil Cause command last input (output ++ (held ++ last))) i j o q
  way_stops Cause last q cause written =
      let lines = way.is.0.lines in
      let answers : Answered command last (lines ++ []) ((way.output ++ held) ++ last) = answered_after command last lines [] (way.output ++ held) last way.is.1 (answered_none command last) in record {
        input = way.input;
        output = way.output;
        consumed = way.consumed;
        written = Appends-kept o p q way.output way.written written;
        is = (stops_for Cause count later way.input way.is.0 cause, subst (Answered command last lines) (append_assoc way.output held last) (subst (λ l. Answered command last l ((way.output ++ held) ++ last)) (append-nil lines) answers));
      }

  way_keeps : (after : Bytes) (q : Option Bytes) → ¬ IsPastLimit count later → (after ≡ held) × Keeps p q → IsStopped command NoMemory after i j o q
  way_keeps after q inside (same, kept) = rw same (way_stops (λ n l. ¬ IsPastLimit n l) (codes "error memory\n") q inside kept)

  pub way_stopped : (fault : Fault) → IsCause fault count later → IsStopped command fault held i j o p
  way_stopped Input cause = way_stops (λ n l. IsPastLimit n l ⊎ IsBegunLine l) (codes "error input\n") p cause (Keeps-refl p)
  way_stopped NoMemory inside = way_keeps held p inside (refl, Keeps-refl p)
  way_stopped Output is = absurd is

  -- all lines have come
  module _ (last : List Bytes) (after : Bytes) (q : Option Bytes) (same : lines_of later ≡ last) (fits : (count + length last ≤ max_lines) × All IsShort last) where
    all : (input output more : Bytes) → AnswersUntil (IsAt count later) command [] input output → Answered command [] last more → Means command Done input (output ++ more)
    all input output more (stop, answers) answered =
        let (within, lines) = stops_last count later input last same fits stop in
        (within, rw lines (answered_after command [] stop.lines last output more answers answered))

    way_done : (left : Bytes) → Passes (Answered command [] last) held left p q → IsMeant command Done left i j o q
    way_done left = passes (AnswersUntil (IsAt count later) command []) (Means command Done) (Answered command [] last) held left all way

    way_done_breaks : (fault : Fault) → IsAtEnd j → ¬ IsPastLimit count later → Breaks fault (Answered command [] last) held after p q → IsStopped command fault after i j o q
    way_done_breaks Input end inside broken = absurd broken
    way_done_breaks NoMemory end inside kept = way_keeps after q inside kept
    way_done_breaks Output end inside (left, part) = (Done, (λ _. end, cut_off (Means command Done) left (way_done left part)))

  -- nothing comes any more
  pub way_ends : count ≤ max_lines → later ≡ [] → IsMeant command Done held i j o p
  way_ends few none =
      way_done [] held p (ap lines_of none) (omega (arith, few), All-nil IsShort) held ([], answered_none command [], ([], Appends-nil p, append-nil held))

  -- a line comes
  module _ (len : ℕ) (few : count < max_lines) (line : HasLine later j (Some len)) (after : Bytes) (q : Option Bytes) where
    -- that a line feed ends
    module _ (found : IsFirstByte (is_byte line_feed) later (Some len)) where
      next : (input output more : Bytes) → AnswersUntil (IsAt count later) command [] input output → AnswersLine command (take len later) more
          → AnswersUntil (IsAt (count + 1) (drop (len + 1) later)) command [] input (output ++ more)
      next input output more (stop, answers) answered = (
        stops_next count later input (take len later) (drop (len + 1) later) stop (found_parts later len found) (found_line later len found) (few, omega (arith, line.0, found_length later len found)),
        answered_after command [] stop.lines (take len later ∷ []) output more answers answered,
      )

      line_answered : Passes (AnswersLine command (take len later)) held after p q → HasCome command (count + 1) (drop (len + 1) later) after i j o q
      line_answered =
          passes (AnswersUntil (IsAt count later) command []) (AnswersUntil (IsAt (count + 1) (drop (len + 1) later)) command []) (AnswersLine command (take len later)) held after next way

      front : (input output more : Bytes) → AnswersUntil (IsAt count later) command [] input output → AnswersLine command (take len later) more → Means command OutputFault input (output ++ more)
      front input output more come answered =
          let (stop, answers) = next input output more come answered in
          (stops_for (λ n l. ⊤) (count + 1) (drop (len + 1) later) input stop tt, answers)

      line_breaks : (fault : Fault) → Breaks fault (AnswersLine command (take len later)) held after p q → IsStopped command fault after i j o q
      line_breaks Input broken = absurd broken
      line_breaks NoMemory kept =
          way_keeps after q (line_inside count later (take len later) (drop (len + 1) later) (found_parts later len found) (few, omega (arith, line.0, found_length later len found))) kept
      line_breaks Output (left, part) = (
        OutputFault,
        (
          λ is. let no : ⊥ = cc in absurd no,
          cut_off (Means command OutputFault) left (passes (AnswersUntil (IsAt count later) command []) (Means command OutputFault) (AnswersLine command (take len later)) held left front way part),
        ),
      )

    -- that is the last, which none ends
    module _ (same : len ≡ length later) (some : 0 < len) (none : HasNoFeed later) where
      last_is : take len later ≡ later
      last_is = take_all len later (omega (arith, same))

      last_lines : lines_of later ≡ later ∷ []
      last_lines = lines_of-last later (none_line later none) (omega (arith, same, some))

      last_fits : (count + 1 ≤ max_lines) × All IsShort (later ∷ [])
      last_fits = (omega (arith, few), All-cons IsShort later [] (omega (arith, same, line.0)) (All-nil IsShort))

      last_answered : Passes (AnswersLine command (take len later)) held after p q → IsMeant command Done after i j o q
      last_answered answer = way_done (later ∷ []) after q last_lines last_fits after (rw last_is at answer)

      last_breaks : (fault : Fault) → IsAtEnd j → Breaks fault (AnswersLine command (take len later)) held after p q → IsStopped command fault after i j o q
      last_breaks fault end broken =
          way_done_breaks (later ∷ []) after q last_lines last_fits fault end (begun_inside count later (λ _. few) (omega (arith, same, line.0))) (rw last_is at broken)

    -- and is answered, or not
    pub way_breaks : (fault : Fault) → Breaks fault (AnswersLine command (take len later)) held after p q → IsStopped command fault after i j o q
    way_breaks = by line.1
      where
        by : IsFirstByte (is_byte line_feed) later (Some len) ⊎ IsLast later j len
            → (fault : Fault) → Breaks fault (AnswersLine command (take len later)) held after p q → IsStopped command fault after i j o q
        by (inl found) = line_breaks found
        by (inr (same, some, none, end)) = λ fault. last_breaks same some none fault end

    pub way_answers : (n : ℕ) (now : Bytes) → n ≡ min (count + 1) max_count → now ≡ drop (len + 1) later → len < length later
        → Passes (AnswersLine command (take len later)) held after p q → HasCome command n now after i j o q
    way_answers n now counted is more answer = let same : n ≡ count + 1 = omega (arith, counted, few) in rw (same, is) (by line.1 answer)
      where
        by : IsFirstByte (is_byte line_feed) later (Some len) ⊎ IsLast later j len
            → Passes (AnswersLine command (take len later)) held after p q → HasCome command (count + 1) (drop (len + 1) later) after i j o q
        by (inl found) = line_answered found
        by (inr (same, some, none, end)) = absurd (omega (arith, more, same))

    pub way_answers_last : length later ≤ len → Passes (AnswersLine command (take len later)) held after p q → IsMeant command Done after i j o q × IsAtEnd j
    way_answers_last whole answer = by line.1
      where
        by : IsFirstByte (is_byte line_feed) later (Some len) ⊎ IsLast later j len → IsMeant command Done after i j o q × IsAtEnd j
        by (inl found) = absurd (omega (arith, whole, found.0.high))
        by (inr (same, some, none, end)) = (last_answered same some none answer, end)
