-- Just the notations are read, each as its kind and its time zone.
use Rattle.std.proofs.Common.{◌≡◌, ◌≢◌, ℕ, ◌<◌, ◌^◌, ℤ, pos, negsuc, Bool, true, false, cond}
use Rattle.std.proofs.Common.{inl, inr, List, [], ◌∷◌, ◌++◌, length, codes, find, bytes_eq}
use Rattle.std.proofs.Common.{Option, Some, None, MatchOption, option_map, option_and_then, Bor}
use Rattle.std.proofs.Common.{decimal, refl, sym, ap, subst, ◌∙◌, eqb, ltb, arith, lit≤, lit<}
use Rattle.std.proofs.Common.{append_assoc, drop, ◌+◌}
use Rattle.std.specs.Fmt.{signed_decimal}
use Rattle.std.specs.List.{list_all}
use Rattle.std.specs.Option.{option_map_or}
use Rattle.std.specs.Str.Pattern.{FindsCharSuffix, FindsTextPrefix}
use Rattle.std.proofs.lemmas.Bool.{cases_Bool, cases_eq, ne_eqb, eqb-true, eq-eqb, ltb-true}
use Rattle.std.proofs.lemmas.Bool.{lt-ltb, and_parts, true≢false}
use Rattle.std.proofs.lemmas.Option.{cond_some, same_Some, none-some}
use Rattle.std.proofs.lemmas.Str.Pattern.{strip_suffix_char}
use Rattle.arrow_values.specs.Tree.{Text}
use Rattle.arrow_kinds.specs.Types.{named_text, unit_word}
use Rattle.arrow_kinds.specs.declared.kind.Named as named
use Rattle.arrow_kinds.specs.declared.kind.Named.TheVariants.{Decimal, Time, Timestamp, Duration}
use Rattle.arrow_kinds.specs.declared.kind.Named.TheVariants.{Interval, FixedSizeBinary}
use Rattle.arrow_kinds.specs.declared.kind.Kind.TheVariants.{Named}
use Rattle.format_strings.specs.Numbers.{is_byte, number_in, cut}
use Rattle.format_strings.specs.Formats.{with_unit, with_zone, word_of, with_size, decimal_format}
use Rattle.format_strings.specs.Formats.{decimal_text, wide_text, are_places, format_by, alone}
use Rattle.format_strings.specs.Reading.{or_else, places_in, decimal_by}
use Rattle.format_strings.specs.Notations.{IsNotation, behind, before, between, unit_kinds}
use Rattle.format_strings.specs.Notations.{is_noted, unit_noted, places_noted, decimal_noted}
use Rattle.format_strings.specs.Notations.{binary_noted, unit_in, with_zone_noted, zone_noted}
use Rattle.format_strings.specs.Notations.{zoned_noted, bare_noted, notation_in}
use Rattle.format_strings.proofs.Parsed.{cut_at}
use Rattle.format_strings.proofs.Written.{number_of_decimal, decimal_of_number, small_byte, no_such}
use Rattle.format_strings.proofs.Forth.{units, intervals, places_read, picked, are_two, mapped}
use Rattle.format_strings.proofs.Forth.{alone_is}
use Rattle.format_strings.proofs.Back.{either, bound, chosen, same_text, parts, IsPlaces}
use Rattle.format_strings.proofs.Back.{places_are, are}

-- ---- what stands between texts
none_unless : {A : Type 0} (o : Option A) → ((x : A) → o ≢ Some x) → o ≡ None
none_unless None h = refl
none_unless (Some x) h = absurd (h x refl)

behind_at : (front rest : Text) → behind front (front ++ rest) ≡ Some rest
behind_at [] rest = refl
behind_at (c ∷ front) rest = rw (eq-eqb c c refl) (behind_at front rest)

behind_is : (front text rest : Text) → behind front text ≡ Some rest → text ≡ front ++ rest
behind_is [] text rest e = same_Some text rest e
behind_is (c ∷ front) [] rest e = absurd (none-some rest e)
behind_is (c ∷ front) (b ∷ text) rest e =
    let p = picked (eqb b c) (behind front text) rest e in
    rw (eqb-true b c p.0) (ap (λ t. c ∷ t) (behind_is front text rest p.1))

before_at : (c : ℕ) (x : Text) → before c (x ++ c ∷ []) ≡ Some x
before_at c [] = rw (eq-eqb c c refl) refl
before_at c (b ∷ []) = rw (eq-eqb c c refl) refl
before_at c (b ∷ d ∷ x) = ap (option_map (λ t. b ∷ t)) (before_at c (d ∷ x))

before_is : (c : ℕ) (text x : Text) → before c text ≡ Some x → text ≡ x ++ c ∷ []
before_is c [] x e = absurd (none-some x e)
before_is c (b ∷ []) x e =
    let p = picked (eqb b c) (Some []) x e in
    rw (← same_Some [] x p.1) (ap (λ d. d ∷ []) (eqb-true b c p.0))
before_is c (b ∷ d ∷ text) x e =
    let m = mapped (λ t. b ∷ t) (before c (d ∷ text)) x e in
    rw (← m.2) (ap (λ t. b ∷ t) (before_is c (d ∷ text) m.0 m.1))

between_at : (front : Text) (c : ℕ) (x : Text) → between front c (front ++ (x ++ c ∷ [])) ≡ Some x
unfolding between
between_at front c x =
    ap (option_and_then (before c)) (behind_at front (x ++ c ∷ [])) ∙ before_at c x

between_is : (front : Text) (c : ℕ) (text x : Text) → between front c text ≡ Some x
    → text ≡ front ++ (x ++ c ∷ [])
unfolding between
between_is front c text x e =
    let b = bound (before c) (behind front text) x e in
    behind_is front text b.0 b.1 ∙ ap (λ t. front ++ t) (before_is c b.0 x b.2)

-- by the clauses of `strip_prefix` and `strip_suffix`
abbrev Stripped : (Option ℕ → Type 0) → Text → Option (Bor Text) → Type 0
Stripped finds text r =
    MatchOption r (finds None) (λ x. (n : ℕ) × finds (Some n) × (x.now ≡ drop n text)
    × (length x.now + n ≡ length text))

pub behind_front : (front text : Text) (r : Option (Bor Text))
    → Stripped (FindsTextPrefix front text) text r → option_map (λ t. t.now) r ≡ behind front text
behind_front front text None h =
    sym (none_unless (behind front text) (λ rest e. h rest (behind_is front text rest e)))
behind_front front text (Some x) h =
    sym (ap (behind front) (h.1.1 ∙ ap (λ t. front ++ t) (sym h.2)) ∙ behind_at front x.now)

abbrev Ended : ℕ → Text → Option (Bor Text) → Type 0
Ended c text r =
    MatchOption r ((front : Text) → text ≢ front ++ c ∷ []) (λ x. text ≡ x.now ++ c ∷ [])

before_end : (c : ℕ) (text : Text) (r : Option (Bor Text)) → Ended c text r
    → option_map (λ t. t.now) r ≡ before c text
before_end c text None h =
    sym (none_unless (before c text) (λ x e. h x (before_is c text x e)))
before_end c text (Some x) h = sym (ap (before c) h ∙ before_at c x.now)

pub between_ends : (front : Text) (c : ℕ) (text rest : Text) (r : Option (Bor Text))
    → behind front text ≡ Some rest → Ended c rest r
    → option_map (λ t. t.now) r ≡ between front c text
unfolding between
between_ends front c text rest r e h =
    before_end c rest r h ∙ sym (ap (option_and_then (before c)) e)

-- ---- what is read is the notation of what is read
abbrev HasFormat : named.Named → Text → Type 0
HasFormat kind zone = (format : Text) × (format_by (Named kind) zone [] ≡ Some format)

noted : (text : Text) (kind : named.Named) (zone : Text) → text ≡ named_text kind zone
    → HasFormat kind zone → IsNotation text kind zone
noted text kind zone is h = record { is = sym is; format = h.0; says = h.1 }

-- a type of a unit
abbrev has_format : named.Named → Bool
has_format kind = option_map_or (λ f. true) (format_by (Named kind) [] []) false

some_format : (o : Option Text) → option_map_or (λ f. true) o false ≡ true → (format : Text)
    × (o ≡ Some format)
some_format None e = absurd (true≢false (sym e))
some_format (Some format) e = (format, refl)

each_found : (text : Text) (kinds : List named.Named) → list_all has_format kinds ≡ true
    → (kind : named.Named) → find (is_noted text) kinds ≡ Some kind
    → (is_noted text kind ≡ true) × (has_format kind ≡ true)
each_found text [] all kind e = absurd (none-some kind e)
each_found text (k ∷ kinds) all kind e =
    let q = and_parts (has_format k) (list_all has_format kinds) all in
    elim (cases_Bool (is_noted text k)) [
      | inl is ↦ (let same : k ≡ kind = same_Some k kind (rw is at e) in
          subst (λ (n : named.Named). (is_noted text n ≡ true) × (has_format n ≡ true)) same
          (is, q.0))
      | inr other ↦ each_found text kinds q.1 kind (rw other at e)
    ]

unit_is : (text : Text) (kind : named.Named) → unit_noted text ≡ Some kind → IsNotation text kind []
unit_is text kind e =
    let f = each_found text unit_kinds refl kind e in
    noted text kind [] (same_text text (named_text kind []) f.0) (some_format _ f.1)

-- a decimal
width_is : (w : ℕ) (word : Text) → number_in 257 word ≡ Some w → word ≡ decimal w
width_is w word e = (decimal_of_number 257 w word (lit≤ tt) e).0

is_128 : codes "128" ≡ decimal 128
unfolding number_in
is_128 = width_is 128 (codes "128") refl

is_32 : codes "32" ≡ decimal 32
unfolding number_in
is_32 = width_is 32 (codes "32") refl

is_64 : codes "64" ≡ decimal 64
unfolding number_in
is_64 = width_is 64 (codes "64") refl

is_256 : codes "256" ≡ decimal 256
unfolding number_in
is_256 = width_is 256 (codes "256") refl

record IsWide (precision scale width : Text) (kind : named.Named) : Type 0 where
  w : ℕ
  is_width : width ≡ decimal w
  places : IsPlaces precision scale w kind
  format : Text
  says : decimal_format w places.p places.s ≡ Some format

wide_at : (precision scale width word : Text) (w : ℕ) (kind : named.Named) → word ≡ decimal w
    → ((p : ℕ) (s : ℤ) → are_places p s ≡ true
    → (format : Text) × (decimal_format w p s ≡ Some format))
    → (bytes_eq width word ≡ true) × (places_in precision scale w ≡ Some kind)
    → IsWide precision scale width kind
wide_at precision scale width word w kind is formats h =
    let q = places_are precision scale w kind h.1 in
    let f = formats q.p q.s (are q.p q.s q.low q.byte) in
    record {
      w = w;
      is_width = same_text width word h.0 ∙ is;
      places = q;
      format = f.0;
      says = f.1;
    }

wide_is : (precision scale width : Text) (kind : named.Named)
    → decimal_by precision scale width ≡ Some kind → IsWide precision scale width kind
wide_is precision scale width kind e =
    let places = places_in precision scale in
    elim (chosen (bytes_eq width (codes "128")) (places 128) _ kind e) [
      | inl h ↦ wide_at precision scale width (codes "128") 128 kind is_128
          (λ p s a. (decimal_text p s, rw a refl)) h
      | inr f ↦ elim (chosen (bytes_eq width (codes "32")) (places 32) _ kind f) [
        | inl h ↦ wide_at precision scale width (codes "32") 32 kind is_32
            (λ p s a. (wide_text p s (codes "32"), rw a refl)) h
        | inr g ↦ elim (chosen (bytes_eq width (codes "64")) (places 64) _ kind g) [
          | inl h ↦ wide_at precision scale width (codes "64") 64 kind is_64
              (λ p s a. (wide_text p s (codes "64"), rw a refl)) h
          | inr i ↦ elim (chosen (bytes_eq width (codes "256")) (places 256) None kind i) [
            | inl h ↦ wide_at precision scale width (codes "256") 256 kind is_256
                (λ p s a. (wide_text p s (codes "256"), rw a refl)) h
            | inr j ↦ absurd (none-some kind j)
          ]
        ]
      ]
    ]

-- as it is cut
abbrev decimal_cut : Text → Text → Text → Text
decimal_cut width precision scale =
    codes "decimal" ++ ((width ++ 40 ∷ (precision ++ 44 ∷ 32 ∷ scale)) ++ 41 ∷ [])

decimal_joined : (width precision scale : Text) → decimal_cut width precision scale ≡ codes
    "decimal" ++ (width ++ (codes "(" ++ (precision ++ (codes ", " ++ (scale ++ codes ")")))))
decimal_joined width precision scale =
    ap (λ t. codes "decimal" ++ t)
    (append_assoc width (40 ∷ (precision ++ 44 ∷ 32 ∷ scale)) (41 ∷ [])
    ∙ ap (λ t. width ++ 40 ∷ t) (append_assoc precision (44 ∷ 32 ∷ scale) (41 ∷ [])))

decimal_made : (width precision scale : Text) (kind : named.Named)
    → IsWide precision scale width kind
    → (decimal_cut width precision scale ≡ named_text kind []) × HasFormat kind []
decimal_made width precision scale kind h =
    let q = h.places in
    subst (λ (n : named.Named). (decimal_cut width precision scale ≡ named_text n [])
    × HasFormat n []) (sym q.is) (
      rw (h.is_width, q.is_precision, q.is_scale)
          (decimal_joined (decimal h.w) (decimal q.p) (signed_decimal q.s)),
      (h.format, h.says),
    )

decimal_is : (text : Text) (kind : named.Named) → decimal_noted text ≡ Some kind
    → IsNotation text kind []
unfolding decimal_noted
decimal_is text kind e =
    let b = bound (λ p. places_noted p.0 p.1) _ kind e in
    let d = bound (cut 40) (between (codes "decimal") 41 text) b.0 b.1 in
    let q = bound _ (cut 44 b.0.1) kind b.2 in
    let r = bound (λ scale. decimal_by q.0.0 scale b.0.0) (behind (codes " ") q.0.1) kind q.2 in
    let inner : d.0 ≡ b.0.0 ++ 40 ∷ (q.0.0 ++ 44 ∷ 32 ∷ r.0) =
    parts 40 d.0 b.0 d.2
    ∙ ap (λ t. b.0.0 ++ 40 ∷ t) (parts 44 b.0.1 q.0 q.1
    ∙ ap (λ t. q.0.0 ++ 44 ∷ t) (behind_is (codes " ") q.0.1 r.0 r.1)) in
    let made = decimal_made b.0.0 q.0.0 r.0 kind (wide_is q.0.0 r.0 b.0.0 kind r.2) in
    noted text kind [] (between_is (codes "decimal") 41 text d.0 d.1
    ∙ ap (λ t. codes "decimal" ++ (t ++ 41 ∷ [])) inner ∙ made.0) made.1

-- binary values of one size
binary_is : (text : Text) (kind : named.Named) → binary_noted text ≡ Some kind
    → IsNotation text kind []
unfolding binary_noted
binary_is text kind e =
    let m = mapped (λ n. FixedSizeBinary (pos n)) _ kind e in
    let b = bound (number_in (2 ^ 31)) (between (codes "fixed_size_binary[") 93 text) m.0 m.1 in
    let d = decimal_of_number (2 ^ 31) m.0 b.0 (lit≤ tt) b.2 in
    subst (λ (n : named.Named). IsNotation text n []) m.2
    (noted text (FixedSizeBinary (pos m.0)) []
    (between_is (codes "fixed_size_binary[") 93 text b.0 b.1
    ∙ ap (λ t. codes "fixed_size_binary[" ++ (t ++ 93 ∷ [])) d.0)
    (codes "w:" ++ decimal m.0, rw (lt-ltb m.0 (2 ^ 31) d.1) refl))

-- a timestamp with a time zone
abbrev IsUnit : Text → ℕ → Type 0
IsUnit text unit =
    (text ≡ unit_word unit) × ((zone : Text) → HasFormat (Timestamp unit) zone)

unit_at : (text word : Text) (u unit : ℕ) → IsUnit word u → (bytes_eq text word ≡ true)
    × (Some u ≡ Some unit) → IsUnit text unit
unit_at text word u unit is h =
    subst (λ (n : ℕ). IsUnit text n) (same_Some u unit h.1)
    (same_text text word h.0 ∙ is.0, is.1)

unit_word_is : (text : Text) (unit : ℕ) → unit_in text ≡ Some unit → IsUnit text unit
unit_word_is text unit e =
    elim (chosen (bytes_eq text (codes "s")) (Some 0) _ unit e) [
      | inl h ↦ unit_at text (codes "s") 0 unit (refl, λ zone. (_, refl)) h
      | inr f ↦ elim (chosen (bytes_eq text (codes "ms")) (Some 1) _ unit f) [
        | inl h ↦ unit_at text (codes "ms") 1 unit (refl, λ zone. (_, refl)) h
        | inr g ↦ elim (chosen (bytes_eq text (codes "us")) (Some 2) _ unit g) [
          | inl h ↦ unit_at text (codes "us") 2 unit (refl, λ zone. (_, refl)) h
          | inr i ↦ elim (chosen (bytes_eq text (codes "ns")) (Some 3) None unit i) [
            | inl h ↦ unit_at text (codes "ns") 3 unit (refl, λ zone. (_, refl)) h
            | inr j ↦ absurd (none-some unit j)
          ]
        ]
      ]
    ]

abbrev Noted : Type 0
Noted = named.Named × Text

not_empty : (b : Bool) (o : Option Noted) (p : Noted) → cond b None o ≡ Some p → (b ≡ false)
    × (o ≡ Some p)
not_empty true o p e = absurd (none-some p e)
not_empty false o p e = (refl, e)

-- as it is cut
abbrev zoned_cut : Text → Text → Text
zoned_cut unit zone = codes "timestamp[" ++ ((unit ++ 44 ∷ (codes " tz=" ++ zone)) ++ 93 ∷ [])

zoned_joined : (unit : ℕ) (zone : Text) → eqb (length zone) 0 ≡ false
    → zoned_cut (unit_word unit) zone ≡ named_text (Timestamp unit) zone
zoned_joined unit zone some = rw some
    (ap (λ t. codes "timestamp[" ++ t)
    (append_assoc (unit_word unit) (44 ∷ (codes " tz=" ++ zone)) (93 ∷ [])))

zoned_made : (text : Text) (unit : ℕ) (zone : Text) (p : Noted) → IsUnit text unit
    → with_zone_noted zone unit ≡ Some p
    → (zoned_cut text zone ≡ named_text p.0 p.1) × HasFormat p.0 p.1
zoned_made text unit zone p h e =
    let s = not_empty (eqb (length zone) 0) (Some (Timestamp unit, zone)) p e in
    subst (λ (n : Noted). (zoned_cut text zone ≡ named_text n.0 n.1) × HasFormat n.0 n.1)
    (same_Some (Timestamp unit, zone) p s.1)
    (ap (λ t. zoned_cut t zone) h.0 ∙ zoned_joined unit zone s.0, h.1 zone)

zoned_is : (text : Text) (p : Noted) → zoned_noted text ≡ Some p → IsNotation text p.0 p.1
unfolding zoned_noted
zoned_is text p e =
    let b = bound (λ q. zone_noted q.0 q.1) _ p e in
    let d = bound (cut 44) (between (codes "timestamp[") 93 text) b.0 b.1 in
    let q = bound _ (behind (codes " tz=") b.0.1) p b.2 in
    let r = bound (with_zone_noted q.0) (unit_in b.0.0) p q.2 in
    let made = zoned_made b.0.0 r.0 q.0 p (unit_word_is b.0.0 r.0 r.1) r.2 in
    let inner : d.0 ≡ b.0.0 ++ 44 ∷ (codes " tz=" ++ q.0) =
    parts 44 d.0 b.0 d.2 ∙ ap (λ t. b.0.0 ++ 44 ∷ t) (behind_is (codes " tz=") b.0.1 q.0 q.1) in
    noted text p.0 p.1 (between_is (codes "timestamp[") 93 text d.0 d.1
    ∙ ap (λ t. codes "timestamp[" ++ (t ++ 93 ∷ [])) inner ∙ made.0) made.1

pub bare_is : (text : Text) (kind : named.Named) → bare_noted text ≡ Some kind
    → IsNotation text kind []
bare_is text kind e = elim (either (unit_noted text) _ kind e) [
  | inl f ↦ unit_is text kind f
  | inr more ↦ elim (either (decimal_noted text) (binary_noted text) kind more) [
    | inl f ↦ decimal_is text kind f
    | inr f ↦ binary_is text kind f
  ]
]

abbrev bare_pair : named.Named → Noted
bare_pair kind = (kind, [])

pair_is : (text : Text) (p : Noted) → notation_in text ≡ Some p → IsNotation text p.0 p.1
unfolding notation_in
pair_is text p e =
    elim (either (option_map bare_pair (bare_noted text)) (zoned_noted text) p e) [
      | inl f ↦ (let m = mapped bare_pair (bare_noted text) p f in
          subst (λ (n : Noted). IsNotation text n.0 n.1) m.2 (bare_is text m.0 m.1))
      | inr f ↦ zoned_is text p f
    ]

pub read_is_notation : (text : Text) (kind : named.Named) (zone : Text)
    → notation_in text ≡ Some (kind, zone) → IsNotation text kind zone
read_is_notation text kind zone e = pair_is text (kind, zone) e

-- ---- a notation is read as what it is the notation of
abbrev IsRead : named.Named → Text → Text → Type 0
IsRead kind said zone = notation_in (named_text kind said) ≡ Some (kind, zone)

times : (unit : ℕ) (said format : Text) → with_unit (codes "tt") unit ≡ Some format
    → IsRead (Time unit) said []
unfolding notation_in
times unit said format e =
    units (λ u x. IsRead (Time u) said []) (codes "tt") refl refl refl refl unit format e

durations : (unit : ℕ) (said format : Text) → with_unit (codes "tD") unit ≡ Some format
    → IsRead (Duration unit) said []
unfolding notation_in
durations unit said format e =
    units (λ u x. IsRead (Duration u) said []) (codes "tD") refl refl refl refl unit format e

interval_read : (unit : ℕ) (said format : Text) → word_of (Named (Interval unit)) ≡ Some format
    → IsRead (Interval unit) said []
unfolding notation_in
interval_read unit said format e =
    intervals (λ u x. IsRead (Interval u) said []) refl refl refl unit format e

-- a timestamp
stamps_alone : (unit : ℕ) (format : Text) → with_unit (codes "ts") unit ≡ Some format
    → IsRead (Timestamp unit) [] []
unfolding notation_in
stamps_alone unit format e =
    units (λ u x. IsRead (Timestamp u) [] []) (codes "ts") refl refl refl refl unit format e

at_zoned : (word zone : Text) (unit : ℕ) → eqb (length zone) 0 ≡ false
    → option_and_then (λ q. zone_noted q.0 q.1) (cut 44 (word ++ 44 ∷ (codes " tz=" ++ zone)))
    ≡ with_zone_noted zone unit
    → zoned_noted (zoned_cut word zone) ≡ Some (Timestamp unit, zone)
unfolding zoned_noted
at_zoned word zone unit some e =
    rw (between_at (codes "timestamp[") 93 (word ++ 44 ∷ (codes " tz=" ++ zone)))
    (e ∙ rw some refl)

joined_read : (unit : ℕ) (zone : Text) → eqb (length zone) 0 ≡ false
    → notation_in (zoned_cut (unit_word unit) zone) ≡ Some (Timestamp unit, zone)
    → IsRead (Timestamp unit) zone zone
joined_read unit zone some e =
    let read = λ (t : Text). notation_in t ≡ Some (Timestamp unit, zone) in
    subst read (zoned_joined unit zone some) e

stamps_zoned : (unit : ℕ) (zone format : Text) → eqb (length zone) 0 ≡ false
    → with_unit (codes "ts") unit ≡ Some format → IsRead (Timestamp unit) zone zone
unfolding notation_in decimal_noted binary_noted between cut
stamps_zoned unit zone format some e =
    units (λ u x. IsRead (Timestamp u) zone zone) (codes "ts")
    (joined_read 0 zone some (at_zoned (codes "s") zone 0 some refl))
    (joined_read 1 zone some (at_zoned (codes "ms") zone 1 some refl))
    (joined_read 2 zone some (at_zoned (codes "us") zone 2 some refl))
    (joined_read 3 zone some (at_zoned (codes "ns") zone 3 some refl)) unit format e

stamps : (unit : ℕ) (zone format : Text) → with_unit (codes "ts") unit ≡ Some format
    → IsRead (Timestamp unit) zone zone
stamps unit [] format e = stamps_alone unit format e
stamps unit (z ∷ zs) format e =
    stamps_zoned unit (z ∷ zs) format (ne_eqb (length (z ∷ zs)) 0 (omega arith)) e

-- binary values of one size
at_binary : (x : Text) (kind : named.Named)
    → binary_noted (codes "fixed_size_binary[" ++ x) ≡ Some kind
    → notation_in (codes "fixed_size_binary[" ++ x) ≡ Some (kind, [])
unfolding notation_in decimal_noted between
at_binary x kind e = rw e refl

binaries : (z : ℤ) (said format : Text) → with_size (codes "w:") z ≡ Some format
    → IsRead (FixedSizeBinary z) said []
unfolding binary_noted
binaries (negsuc n) said format e = absurd (none-some format e)
binaries (pos n) said format e =
    let s = cond_some (ltb n (2 ^ 31)) (codes "w:" ++ decimal n) format e in
    at_binary (decimal n ++ 93 ∷ []) (FixedSizeBinary (pos n))
    (rw (
      between_at (codes "fixed_size_binary[") 93 (decimal n),
      number_of_decimal (2 ^ 31) n (lit≤ tt) (ltb-true n (2 ^ 31) s.0),
    ) refl)

-- a decimal
at_decimal : (x : Text) (kind : named.Named) → decimal_noted (codes "decimal" ++ x) ≡ Some kind
    → notation_in (codes "decimal" ++ x) ≡ Some (kind, [])
unfolding notation_in
at_decimal x kind e = rw e refl

cut_read : (w p : ℕ) (scale : Text) → w < 2 ^ 64 → p < 128
    → decimal_noted (decimal_cut (decimal w) (decimal p) scale) ≡ decimal_by (decimal p) scale
    (decimal w)
unfolding decimal_noted
cut_read w p scale wide low =
    rw (
      between_at (codes "decimal") 41 (decimal w ++ 40 ∷ (decimal p ++ 44 ∷ 32 ∷ scale)),
      cut_at 40 (decimal w) (decimal p ++ 44 ∷ 32 ∷ scale) (no_such 40 w wide (lit< tt)),
      cut_at 44 (decimal p) (32 ∷ scale) (no_such 44 p (small_byte p (omega arith)) (lit< tt)),
    ) refl

decimal_at : (w : ℕ) (word : Text) (p : ℕ) (s : ℤ) (said : Text) → word ≡ decimal w → w < 2 ^ 64
    → p < 128 → decimal_by (decimal p) (signed_decimal s) word ≡ Some (Decimal w p s)
    → IsRead (Decimal w p s) said []
decimal_at w word p s said is wide low e =
    let read = cut_read w p (signed_decimal s) wide low
    ∙ ap (decimal_by (decimal p) (signed_decimal s)) (sym is) ∙ e in
    subst (λ (t : Text). notation_in t ≡ Some (Decimal w p s, []))
    (decimal_joined (decimal w) (decimal p) (signed_decimal s))
    (at_decimal _ (Decimal w p s) read)

decimals : (w p : ℕ) (s : ℤ) (said format : Text) → decimal_format w p s ≡ Some format
    → IsRead (Decimal w p s) said []
decimals w p s said format e =
    let c = picked (are_places p s) _ format e in
    let q = are_two p s c.0 in
    elim (cases_eq w 128) [
      | inl z ↦ rw z (decimal_at 128 (codes "128") p s said is_128 (lit< tt) q.0
          (places_read 128 p s q.0 q.1))
      | inr n0 ↦ elim (cases_eq w 32) [
        | inl z ↦ rw z (decimal_at 32 (codes "32") p s said is_32 (lit< tt) q.0
            (places_read 32 p s q.0 q.1))
        | inr n1 ↦ elim (cases_eq w 64) [
          | inl z ↦ rw z (decimal_at 64 (codes "64") p s said is_64 (lit< tt) q.0
              (places_read 64 p s q.0 q.1))
          | inr n2 ↦ elim (cases_eq w 256) [
            | inl z ↦ rw z (decimal_at 256 (codes "256") p s said is_256 (lit< tt) q.0
                (places_read 256 p s q.0 q.1))
            | inr n3 ↦ absurd (none-some format
                (rw (ne_eqb w 128 n0, ne_eqb w 32 n1, ne_eqb w 64 n2, ne_eqb w 256 n3) at c.1))
          ]
        ]
      ]
    ]

-- without a time zone
bare_read : (kind : named.Named) (zone format : Text) (o : Option Text)
    → alone zone [] o ≡ Some format → (o ≡ Some format → IsRead kind zone [])
    → IsRead kind zone zone
bare_read kind zone format o e f =
    let a = alone_is zone [] o format e in
    f a.2 ∙ ap (λ z. Some (kind, z)) (sym a.0)

kind_read : (kind : named.Named) (zone format : Text)
    → format_by (Named kind) zone [] ≡ Some format → IsRead kind zone zone
kind_read (Time u) zone format e =
    bare_read (Time u) zone format (word_of (Named (Time u))) e (times u zone format)
kind_read (Duration u) zone format e =
    bare_read (Duration u) zone format (word_of (Named (Duration u))) e (durations u zone format)
kind_read (Interval u) zone format e =
    bare_read (Interval u) zone format (word_of (Named (Interval u))) e
    (interval_read u zone format)
kind_read (FixedSizeBinary z) zone format e =
    bare_read (FixedSizeBinary z) zone format (with_size (codes "w:") z) e (binaries z zone format)
kind_read (Decimal w p s) zone format e =
    bare_read (Decimal w p s) zone format (decimal_format w p s) e (decimals w p s zone format)
kind_read (Timestamp u) zone format e =
    let m = mapped (λ f. f ++ (codes ":" ++ zone)) (with_unit (codes "ts") u) format e in
    stamps u zone m.0 m.1

pub notation_is_read : (text : Text) (kind : named.Named) (zone : Text)
    → IsNotation text kind zone → notation_in text ≡ Some (kind, zone)
notation_is_read text kind zone h =
    subst (λ (t : Text). notation_in t ≡ Some (kind, zone)) h.is
    (kind_read kind zone h.format h.says)

-- by the calls
pub zoned_alone : (text : Text) (r : Option (named.Named × Bor Text)) → bare_noted text ≡ None
    → option_map (λ p. (p.0, p.1.now)) r ≡ zoned_noted text
    → option_map (λ p. (p.0, p.1.now)) r ≡ notation_in text
unfolding notation_in
zoned_alone text r none is = rw none is

pub exact_by : (text : Text) (r : Option (named.Named × Bor Text))
    → option_map (λ p. (p.0, p.1.now)) r ≡ notation_in text
    → MatchOption r ((kind : named.Named) (zone : Text) → ¬ (IsNotation text kind zone))
    (λ p. IsNotation text p.0 p.1.now)
exact_by text None is =
    λ kind zone h. none-some (kind, zone) (is ∙ notation_is_read text kind zone h)
exact_by text (Some p) is = read_is_notation text p.0 p.1.now (sym is)
