-- The values of keys in the metadata of a file.
use Rattle.std.specs.Prelude.{Bool, List, [], ◌∷◌, Option, Some, None, option_map, find, codes, if◌then◌else◌}
use Rattle.std.specs.Str.{is_utf8, bytes_eq}
use Rattle.std.proofs.Common.{◌≡◌, refl}
use Rattle.arrow_values.specs.Tree.{Text}
use Rattle.parquet_footer.specs.Spelled.{Spelled}
use Rattle.parquet_footer.specs.Footer.{Pairing}
use Rattle.parquet_columns.specs.declared.keys.TheConstants.{ARROW_SCHEMA_KEY}

abbrev pub schema_key : Text
schema_key = codes "ARROW:schema"

-- the constant of the code is this key
pub schema_key-is-constant : ARROW_SCHEMA_KEY.now ≡ schema_key
schema_key-is-constant = refl

-- the later of two values, where there are some
abbrev pub later : {A : Type 0} → Option A → Option A → Option A
later (Some value) before = Some value
later None before = before

-- the value of a pair, if the key is its own
abbrev pub value_under : Text → Pairing → Option Spelled
value_under key p = if bytes_eq p.key.bytes key then p.value else None

-- the value of a key, which need not be UTF-8: the last one, where several pairs of the key have a value
abbrev pub value_of : Text → List Pairing → Option Spelled
value_of key [] = None
value_of key (p ∷ ps) = later (value_of key ps) (value_under key p)

-- a pair has the key, with a value or without
abbrev pub has_key : Text → Pairing → Bool
has_key key p = bytes_eq p.key.bytes key

-- what stands at a key: its value, or where pairs have the key and none has a value the empty text, where the key of the first begins
abbrev pub no_value : Pairing → Spelled
no_value p = record { bytes = []; byte = p.key.byte }

abbrev pub value_or_empty : Text → List Pairing → Option Spelled
value_or_empty key ps = later (value_of key ps) (option_map no_value (find (has_key key) ps))

-- a key and a value that are both UTF-8
abbrev pub text_in : Spelled → Option Text
text_in t = if is_utf8 t.bytes then Some t.bytes else None

abbrev pub pair_by : Option Text → Option Text → Option (Text × Text)
pair_by (Some key) (Some value) = Some (key, value)
pair_by (Some key) None = None
pair_by None value = None

abbrev pub value_text : Option Spelled → Option Text
value_text None = None
value_text (Some value) = text_in value

abbrev pub text_pair : Pairing → Option (Text × Text)
text_pair p = pair_by (text_in p.key) (value_text p.value)

-- the text at a key: the last value that is UTF-8
abbrev pub under : Text → Option (Text × Text) → Option Text
under key None = None
under key (Some p) = if bytes_eq p.0 key then Some p.1 else None

abbrev pub text_at : Text → List Pairing → Option Text
text_at key [] = None
text_at key (p ∷ ps) = later (text_at key ps) (under key (text_pair p))
