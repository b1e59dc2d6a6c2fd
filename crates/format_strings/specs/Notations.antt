-- The notations of the types that a format string says and that are none of the 26 data types:
-- decimals, times, timestamps, durations, intervals, and binary values of one size.
use Rattle.std.specs.Prelude.{◌≡◌, ℕ, ◌^◌, pos, Bool, List, [], ◌∷◌, codes, bytes_eq, find, length}
use Rattle.std.specs.Prelude.{Option, Some, None, option_map, ◌==◌, if◌then◌else◌}
use Rattle.std.specs.Option.{option_and_then}
use Rattle.arrow_values.specs.Tree.{Text}
use Rattle.arrow_kinds.specs.Types.{named_text}
use Rattle.arrow_kinds.specs.declared.kind.Named as named
use Rattle.arrow_kinds.specs.declared.kind.Named.TheVariants.{Decimal, Time, Timestamp, Duration}
use Rattle.arrow_kinds.specs.declared.kind.Named.TheVariants.{Interval, FixedSizeBinary}
use Rattle.arrow_kinds.specs.declared.kind.Kind.TheVariants.{Named}
use Rattle.format_strings.specs.Numbers.{number_in, cut}
use Rattle.format_strings.specs.Formats.{format_by}
use Rattle.format_strings.specs.Reading.{or_else, decimal_by}

-- the text is the notation of a type of that kind with that time zone, and a format string says the
-- same type; the zone is empty where there is none
pub record IsNotation (text : Text) (kind : named.Named) (zone : Text) : Type 0 where
  pub is : named_text kind zone ≡ text
  pub format : Text
  pub says : format_by (Named kind) zone [] ≡ Some format

-- ---- the same, as it is read

-- what stands behind such a text, and before such a byte
abbrev pub behind : Text → Text → Option Text
behind [] text = Some text
behind (c ∷ front) [] = None
behind (c ∷ front) (b ∷ text) = if b == c then behind front text else None

abbrev pub before : ℕ → Text → Option Text
before c [] = None
before c (b ∷ []) = if b == c then Some [] else None
before c (b ∷ d ∷ text) = option_map (λ t. b ∷ t) (before c (d ∷ text))

unfoldable pub between : Text → ℕ → Text → Option Text
between front c text = option_and_then (before c) (behind front text)

-- a type of a unit
abbrev pub unit_kinds : List named.Named
unit_kinds =
    Time 0 ∷ Time 1 ∷ Time 2 ∷ Time 3 ∷ Timestamp 0 ∷ Timestamp 1 ∷ Timestamp 2 ∷ Timestamp 3 ∷
    Duration 0 ∷ Duration 1 ∷ Duration 2 ∷ Duration 3 ∷ Interval 0 ∷ Interval 1 ∷ Interval 2 ∷ []

abbrev pub is_noted : Text → named.Named → Bool
is_noted text kind = bytes_eq text (named_text kind [])

abbrev pub unit_noted : Text → Option named.Named
unit_noted text = find (is_noted text) unit_kinds

-- a decimal: its width, and behind a parenthesis its precision and its scale
abbrev pub places_noted : Text → Text → Option named.Named
places_noted width text =
    option_and_then (λ p. option_and_then (λ scale. decimal_by p.0 scale width)
    (behind (codes " ") p.1)) (cut 44 text)

unfoldable pub decimal_noted : Text → Option named.Named
decimal_noted text =
    option_and_then (λ p. places_noted p.0 p.1)
    (option_and_then (cut 40) (between (codes "decimal") 41 text))

unfoldable pub binary_noted : Text → Option named.Named
binary_noted text =
    option_map (λ n. FixedSizeBinary (pos n))
    (option_and_then (number_in (2 ^ 31)) (between (codes "fixed_size_binary[") 93 text))

-- a timestamp with a time zone: its unit, and behind a comma the zone
abbrev pub unit_in : Text → Option ℕ
unit_in text =
    if bytes_eq text (codes "s") then Some 0 else
    if bytes_eq text (codes "ms") then Some 1 else
    if bytes_eq text (codes "us") then Some 2 else
    if bytes_eq text (codes "ns") then Some 3 else None

abbrev pub with_zone_noted : Text → ℕ → Option (named.Named × Text)
with_zone_noted zone unit = if length zone == 0 then None else Some (Timestamp unit, zone)

abbrev pub zone_noted : Text → Text → Option (named.Named × Text)
zone_noted unit text =
    option_and_then (λ zone. option_and_then (with_zone_noted zone) (unit_in unit))
    (behind (codes " tz=") text)

unfoldable pub zoned_noted : Text → Option (named.Named × Text)
zoned_noted text =
    option_and_then (λ p. zone_noted p.0 p.1)
    (option_and_then (cut 44) (between (codes "timestamp[") 93 text))

abbrev pub bare_noted : Text → Option named.Named
bare_noted text = or_else (unit_noted text) (or_else (decimal_noted text) (binary_noted text))

-- the kind and the time zone whose notation a text is; none of any other text
unfoldable pub notation_in : Text → Option (named.Named × Text)
notation_in text = or_else (option_map (λ kind. (kind, [])) (bare_noted text)) (zoned_noted text)
