-- Bytes in which a search finds a line feed, or none.
use Rattle.std.proofs.Common.{Bool, false, not, ◌≡◌, ◌≢◌, ◌⊎◌, inl, inr, ℕ, suc, ◌+◌, ◌-◌, ◌<◌, ◌≤◌, true, eqb, [], ◌∷◌, ◌++◌, length, take, drop, get_or, None, Some, refl, sym, ap, ◌∙◌, subst, append-nil, drop-cons, length-drop, length-take, take_all, add-one, arith}
use Rattle.std.specs.Prelude.{MatchBool}
use Rattle.std.proofs.lemmas.Bool.{eq-eqb, eqb-true}
use Rattle.std.proofs.lemmas.List.{take-append-drop, take_rest, get_or-take}
use Rattle.std.proofs.lemmas.List.Elements.{All-from_get_or, All-nil, All-cons}
use Rattle.memchr.specs.Find.{is_byte, IsFirstByte}
use Rattle.line_reader.specs.Lines.{HasNoFeed, IsLong}
use Rattle.geoarrow_fields.proofs.Terms.{Bytes, line_feed, lines_of, max_lines, max_line_bytes, IsLine, IsWithinLimits, IsPastLimit, Stops, IsAt}
use Rattle.geoarrow_fields.proofs.Limits.{IsShort, lines_of-last, stops_next, stops_for, stops_last, limit_passed, never_both}

-- what stands before a place up to which no line feed stands is of one line
line_before : (bytes : Bytes) (at : ℕ) → at ≤ length bytes → ((k : ℕ) → k < at → eqb (get_or bytes k 0) line_feed ≢ true) → IsLine (take at bytes)
line_before bytes at within h =
    All-from_get_or (λ b. b ≢ line_feed) (take at bytes) 0
    (λ k lt is. let less : k < at = omega (arith, length-take at bytes) in h k less (eq-eqb _ line_feed (sym (get_or-take at bytes k 0 less) ∙ is)))

pub none_line : (bytes : Bytes) → HasNoFeed bytes → IsLine bytes
none_line bytes none = subst IsLine (take_all (length bytes) bytes (omega arith)) (line_before bytes (length bytes) (omega arith) (λ k lt. none k (omega arith) lt))

-- a line that is too long is past a limit
pub long_past : (count : ℕ) (bytes : Bytes) → IsLong bytes → IsPastLimit count bytes
long_past count bytes (long, none) =
    let front = take (max_line_bytes + 1) bytes in
    inr (record {
      begun = front;
      rest = drop (max_line_bytes + 1) bytes;
      joined = sym (take-append-drop (max_line_bytes + 1) bytes);
      line = line_before bytes (max_line_bytes + 1) (omega (arith, long)) (λ k lt. none k (omega arith) lt);
      long = omega (arith, long, length-take (max_line_bytes + 1) bytes);
    })

-- a line feed is found
module _ (bytes : Bytes) (at : ℕ) (found : IsFirstByte (is_byte line_feed) bytes (Some at)) where
  pub found_line : IsLine (take at bytes)
  found_line = line_before bytes at (omega (arith, found.0.high)) (λ k lt. found.0.before k (omega arith) lt)

  pub found_length : length (take at bytes) ≡ at
  found_length = omega (arith, found.0.high, length-take at bytes)

  pub found_parts : bytes ≡ take at bytes ++ (line_feed ∷ drop (at + 1) bytes)
  found_parts =
      let next : suc at ≡ at + 1 = omega arith in
      let here : drop at bytes ≡ line_feed ∷ drop (suc at) bytes = drop-cons bytes at 0 found.0.high ∙ ap (λ b. b ∷ drop (suc at) bytes) (eqb-true _ line_feed found.1) in
      sym (take-append-drop at bytes) ∙ ap (λ l. take at bytes ++ l) (here ∙ ap (λ n. line_feed ∷ drop n bytes) next)

  -- in what comes of an input
  module _ (count : ℕ) (input : Bytes) (stop : Stops (IsAt count bytes) input) where
    pub line_past : (count ≡ max_lines) ⊎ (max_line_bytes < at) → ¬ IsWithinLimits (lines_of input)
    line_past past within =
        let some : 0 < length bytes = omega (arith, found.0.high) in
        never_both input within
        (stops_for IsPastLimit count bytes input stop (limit_passed count bytes (take at bytes) (line_feed ∷ drop (at + 1) bytes) found_parts found_line some (rw found_length past)))

    pub line_next : (count < max_lines) × (at ≤ max_line_bytes) → Stops (IsAt (count + 1) (take (length bytes - (at + 1)) (drop (at + 1) bytes))) input
    line_next fits = rw (take_rest bytes (at + 1)) (stops_next count bytes input (take at bytes) (drop (at + 1) bytes) stop found_parts found_line (rw found_length fits))

-- no more line feed is found
module _ (bytes : Bytes) (none : HasNoFeed bytes) (count : ℕ) (input : Bytes) (stop : Stops (IsAt count bytes) input) where
  pub end_within : count ≤ max_lines → length bytes ≡ 0 → IsWithinLimits (lines_of input)
  end_within few empty = (stops_last count bytes input [] (ap lines_of (nil_of bytes empty)) (omega (arith, few), All-nil IsShort) stop).0
    where
      nil_of : (l : Bytes) → length l ≡ 0 → l ≡ []
      nil_of [] is = refl
      nil_of (b ∷ l) is = absurd (omega arith)

  last_within : 0 < length bytes → (count < max_lines) × (length bytes ≤ max_line_bytes) → IsWithinLimits (lines_of input)
  last_within some (few, short) =
      (stops_last count bytes input (bytes ∷ []) (lines_of-last bytes (none_line bytes none) some) (omega (arith, few), All-cons IsShort bytes [] short (All-nil IsShort)) stop).0

  last_past : 0 < length bytes → (count ≡ max_lines) ⊎ (max_line_bytes < length bytes) → ¬ IsWithinLimits (lines_of input)
  last_past some past within =
      never_both input within (stops_for IsPastLimit count bytes input stop (limit_passed count bytes bytes [] (sym (append-nil bytes)) (none_line bytes none) some past))

  pub last_decided : 0 < length bytes → (past : Bool) → MatchBool past ((count ≡ max_lines) ⊎ (max_line_bytes < length bytes)) ((count < max_lines) × (length bytes ≤ max_line_bytes))
      → MatchBool (not past) (IsWithinLimits (lines_of input)) (¬ IsWithinLimits (lines_of input))
  last_decided some true past = last_past some past
  last_decided some false fits = last_within some fits
