-- What a format string says, as it is read.
use Rattle.std.specs.Prelude.{ℕ, ◌^◌, ℤ, pos, Bool, false, List, [], ◌∷◌, codes, bytes_eq, find}
use Rattle.std.specs.Prelude.{Option, Some, None, option_map, if◌then◌else◌}
use Rattle.std.specs.Option.{option_and_then, option_map_or, unwrap_or}
use Rattle.arrow_values.specs.Tree.{Text}
use Rattle.arrow_values.specs.declared.tree.DataType.TheVariants.{Null, Boolean, Int8, Int16, Int32}
use Rattle.arrow_values.specs.declared.tree.DataType.TheVariants.{Int64, UInt8, UInt16, UInt32}
use Rattle.arrow_values.specs.declared.tree.DataType.TheVariants.{UInt64, Float16, Float32, Float64}
use Rattle.arrow_values.specs.declared.tree.DataType.TheVariants.{Date32, Date64, Binary}
use Rattle.arrow_values.specs.declared.tree.DataType.TheVariants.{LargeBinary, BinaryView, Utf8}
use Rattle.arrow_values.specs.declared.tree.DataType.TheVariants.{LargeUtf8, Utf8View}
use Rattle.arrow_values.specs.declared.tree.UnionMode.TheVariants.{Sparse, Dense}
use Rattle.arrow_columns.specs.declared.nested.ListForm.TheVariants.{Small, Large, Fixed}
use Rattle.arrow_kinds.specs.declared.kind.Named as named
use Rattle.arrow_kinds.specs.declared.kind.Named.TheVariants.{Decimal, Time, Timestamp, Duration}
use Rattle.arrow_kinds.specs.declared.kind.Named.TheVariants.{Interval, FixedSizeBinary}
use Rattle.arrow_kinds.specs.declared.kind.Kind.{Kind}
use Rattle.arrow_kinds.specs.declared.kind.Kind.TheVariants.{Plain, Named, List as ListOf, Struct}
use Rattle.arrow_kinds.specs.declared.kind.Kind.TheVariants.{Union, Map, RunEndEncoded, ListView}
use Rattle.arrow_kinds.specs.declared.kind.Kind.TheVariants.{LargeListView}
use Rattle.format_strings.specs.Numbers.{number_in, byte_in, cut, ids_in}
use Rattle.format_strings.specs.Formats.{Said, word_of}
use Rattle.format_strings.specs.declared.read.Format.{Format}

-- the kinds of type whose format strings have no parameters
abbrev pub plain_kinds : List Kind
plain_kinds =
    Plain Null ∷ Plain Boolean ∷ Plain Int8 ∷ Plain UInt8 ∷ Plain Int16 ∷ Plain UInt16 ∷ Plain Int32
    ∷ Plain UInt32 ∷
    Plain Int64 ∷ Plain UInt64 ∷ Plain Float16 ∷ Plain Float32 ∷ Plain Float64 ∷ Plain Binary ∷
    Plain LargeBinary ∷
    Plain BinaryView ∷ Plain Utf8 ∷ Plain LargeUtf8 ∷ Plain Utf8View ∷ Plain Date32 ∷ Plain Date64 ∷
    []

abbrev pub timed_kinds : List Kind
timed_kinds =
    Named (Time 0) ∷ Named (Time 1) ∷ Named (Time 2) ∷ Named (Time 3) ∷ Named (Duration 0) ∷ Named
    (Duration 1) ∷
    Named (Duration 2) ∷ Named (Duration 3) ∷ Named (Interval 0) ∷ Named (Interval 1) ∷ Named
    (Interval 2) ∷ []

abbrev pub nested_kinds : List Kind
nested_kinds =
    ListOf Small ∷ ListOf Large ∷ ListView ∷ LargeListView ∷ Struct ∷ Map ∷ RunEndEncoded ∷ []

abbrev pub is_word : Text → Kind → Bool
is_word text kind = option_map_or (bytes_eq text) (word_of kind) false

abbrev pub or_else : {A : Type 0} → Option A → Option A → Option A
or_else (Some x) o = Some x
or_else None o = o

-- without parameters
unfoldable pub word_kind : Text → Option Kind
word_kind text = or_else (find (is_word text) plain_kinds)
    (or_else (find (is_word text) timed_kinds) (find (is_word text) nested_kinds))

-- a decimal, of what stands behind `d:`
abbrev pub places_in : Text → Text → ℕ → Option named.Named
places_in precision scale width =
    option_and_then (λ p. option_map (Decimal width p) (byte_in scale)) (number_in 128 precision)

abbrev pub decimal_by : Text → Text → Text → Option named.Named
decimal_by precision scale width =
    if bytes_eq width (codes "128") then places_in precision scale 128 else
    if bytes_eq width (codes "32") then places_in precision scale 32 else
    if bytes_eq width (codes "64") then places_in precision scale 64 else
    if bytes_eq width (codes "256") then places_in precision scale 256 else None

unfoldable pub decimal_in : Text → Option named.Named
decimal_in text = option_and_then (λ p. let q = unwrap_or (cut 44 p.1) (p.1, codes "128") in
    decimal_by p.0 q.0 q.1) (cut 44 text)

abbrev pub size_in : Text → Option ℕ
size_in text = number_in (2 ^ 31) text

-- with parameters, of what stands before and behind the first colon
abbrev pub sized_kind : Text → Text → Option Kind
sized_kind front text =
    if bytes_eq front (codes "d") then option_map Named (decimal_in text) else
    if bytes_eq front (codes "w") then
    option_map (λ n. Named (FixedSizeBinary (pos n))) (size_in text) else
    if bytes_eq front (codes "+w") then option_map (λ n. ListOf (Fixed (pos n))) (size_in text) else
    None

abbrev pub timestamp_kind : Text → Option Kind
timestamp_kind front =
    if bytes_eq front (codes "tss") then Some (Named (Timestamp 0)) else
    if bytes_eq front (codes "tsm") then Some (Named (Timestamp 1)) else
    if bytes_eq front (codes "tsu") then Some (Named (Timestamp 2)) else
    if bytes_eq front (codes "tsn") then Some (Named (Timestamp 3)) else None

abbrev pub union_kind : Text → Option Kind
union_kind front =
    if bytes_eq front (codes "+ud") then Some (Union Dense) else
    if bytes_eq front (codes "+us") then Some (Union Sparse) else None

abbrev pub bare : Kind → Said
bare kind = record { kind = kind; zone = []; ids = [] }

abbrev pub zoned : Text → Kind → Said
zoned zone kind = record { kind = kind; zone = zone; ids = [] }

abbrev pub with_ids_of : Kind → List ℤ → Said
with_ids_of kind ids = record { kind = kind; zone = []; ids = ids }

abbrev pub union_said : Text → Option Kind → Option Said
union_said text None = None
union_said text (Some kind) = option_map (with_ids_of kind) (ids_in text)

unfoldable pub said_behind : Text → Text → Option Said
said_behind front text = or_else (option_map bare (sized_kind front text))
    (or_else (option_map (zoned text) (timestamp_kind front)) (union_said text (union_kind front)))

abbrev pub said_by : Option (Text × Text) → Option Said
said_by None = None
said_by (Some p) = said_behind p.0 p.1

-- what a format string says; none of any other text
unfoldable pub said_in : Text → Option Said
said_in text = or_else (option_map bare (word_kind text)) (said_by (cut 58 text))

-- what was read
abbrev pub said_of : Format → Said
said_of f = record { kind = f.kind; zone = f.zone.now; ids = f.ids.items }
