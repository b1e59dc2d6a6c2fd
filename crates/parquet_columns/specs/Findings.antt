-- What is found in the footer of a Parquet file whose columns are read (docs/FORMAT.md, 4.5).
use Rattle.std.specs.Prelude.{ℕ, ◌&&◌, nat_lt, Bool, true, List, [], ◌∷◌, ◌++◌, length, map, flat_map, codes, Option, Some, None, option_map, string_bytes, if◌then◌else◌}
use Rattle.std.specs.Fmt.{decimal}
use Rattle.std.specs.Str.{bytes_eq}
use Rattle.base64.specs.declared.decode.DecodeError.{DecodeError}
use Rattle.base64.specs.declared.decode.DecodeError.TheVariants.{InvalidByte, InvalidLength, InvalidLastSymbol, InvalidPadding}
use Rattle.arrow_values.specs.Tree.{Text}
use Rattle.arrow_columns.specs.Types.{ColumnTree}
use Rattle.arrow_ipc.specs.Rules as ipc
use Rattle.parquet_footer.specs.Spelled.{Spelled}
use Rattle.parquet_footer.specs.Footer.{Pairing}
use Rattle.parquet_columns.specs.Keys.{schema_key, value_under, value_of}
use Rattle.parquet_columns.specs.declared.code.FileCode.{FileCode}
use Rattle.parquet_columns.specs.declared.code.FileCode.TheVariants.{ArrowSchemaUnreadable, ArrowSchemaNames, RepeatedKey}
use Rattle.parquet_columns.specs.declared.code.FilePart.TheVariants.{Footer, StoredText, StoredMessage}
use Rattle.parquet_columns.specs.declared.finding.FilePlace.{FilePlace}
use Rattle.parquet_columns.specs.declared.finding.FileFinding.{FileFinding}
use Rattle.parquet_columns.specs.declared.stored.StoredFault.{StoredFault}
use Rattle.parquet_columns.specs.declared.stored.StoredFault.TheVariants.{Encoding, Broken, Budget}

pub record Finding : Type 0 where
  pub code : FileCode
  pub column : Option Text
  pub path : List Text
  pub place : FilePlace
  pub found : Option Text
  pub wanted : Option Text

abbrev pub finding : FileFinding → Finding
finding f = record {
  code = f.code;
  column = option_map string_bytes f.column;
  path = map string_bytes f.path.items;
  place = f.place;
  found = option_map string_bytes f.found;
  wanted = option_map string_bytes f.wanted;
}

-- one that is in no column
abbrev pub of_file : FileCode → FilePlace → Option Text → Option Text → Finding
of_file code place found wanted = record { code = code; column = None; path = []; place = place; found = found; wanted = wanted }

-- ---- a stored schema that is not read: what is wrong, and where in the text or in the message that it spells

abbrev pub stored_message : StoredFault → Text
stored_message (Encoding error) = codes "a text that is no base64"
stored_message (Broken fault) = ipc.rule_message fault.rule
stored_message (Budget at) = codes "more is to be read than eight times its bytes"

abbrev pub encoding_byte : DecodeError → Option ℕ
encoding_byte (InvalidByte at byte) = Some at
encoding_byte (InvalidLength at) = Some at
encoding_byte (InvalidLastSymbol at symbol value) = Some at
encoding_byte InvalidPadding = None

abbrev pub stored_place : StoredFault → FilePlace
stored_place (Encoding error) = record { part = StoredText; byte = encoding_byte error }
stored_place (Broken fault) = record { part = StoredMessage; byte = Some fault.at }
stored_place (Budget at) = record { part = StoredMessage; byte = Some at }

abbrev pub unreadable : StoredFault → Finding
unreadable fault = of_file ArrowSchemaUnreadable (stored_place fault) (Some (stored_message fault)) None

-- ---- a stored schema of other columns: the first name that is another, and the element's; none where there are no more

abbrev pub first_other : List ColumnTree → List ColumnTree → Option (Option Text × Option Text)
first_other [] [] = None
first_other [] (d ∷ ds) = Some (None, Some d.name)
first_other (c ∷ cs) [] = Some (Some c.name, None)
first_other (c ∷ cs) (d ∷ ds) = if bytes_eq c.name d.name then first_other cs ds else Some (Some c.name, Some d.name)

abbrev pub other_names : Option Text × Option Text → Finding
other_names p = of_file ArrowSchemaNames (record { part = StoredMessage; byte = None }) p.0 p.1

-- ---- a key of several values: how many, and whether they differ; at the last

abbrev pub each : Option Spelled → List Spelled
each None = []
each (Some value) = value ∷ []

abbrev pub values_in : Text → Pairing → List Spelled
values_in key p = each (value_under key p)

abbrev pub values_of : Text → List Pairing → List Spelled
values_of key ps = flat_map (values_in key) ps

abbrev pub all_same : Spelled → List Spelled → Bool
all_same v [] = true
all_same v (w ∷ ws) = bytes_eq w.bytes v.bytes && all_same v ws

abbrev pub values_text : ℕ → Bool → Text
values_text count same = decimal count ++ (if same then codes " values, which are equal" else codes " values, which differ")

abbrev pub several : Text → List Spelled → Spelled → Finding
several key vs last = of_file RepeatedKey (record { part = Footer; byte = Some last.byte }) (Some (values_text (length vs) (all_same last vs))) (Some key)

abbrev pub repeated_by : Text → List Spelled → Option Spelled → List Finding
repeated_by key vs None = []
repeated_by key vs (Some last) = if nat_lt 1 (length vs) then several key vs last ∷ [] else []

abbrev pub repeated : List Pairing → Text → List Finding
repeated ps key = repeated_by key (values_of key ps) (value_of key ps)

abbrev pub geo_key : Text
geo_key = codes "geo"

abbrev pub repeated_keys : List Pairing → List Finding
repeated_keys ps = repeated ps geo_key ++ repeated ps schema_key
