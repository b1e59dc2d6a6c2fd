-- What is found of keys that stand several times among the entries of metadata of a schema (docs/FORMAT.md, 4.5).
use Rattle.std.specs.Prelude.{ℕ, Bool, true, ◌&&◌, ◌*◌, nat_le, nat_lt, List, [], ◌∷◌, ◌++◌, length, flat_map, Option, None, Some, Result, Ok, Err, if◌then◌else◌}
use Rattle.std.specs.Str.{bytes_eq}
use Rattle.arrow_values.specs.Tree.{Text}
use Rattle.arrow_values.specs.Texts.{name_key, metadata_key}
use Rattle.arrow_columns.specs.Types.{ColumnTree}
use Rattle.arrow_ipc.specs.Entries.{EntriesTree, entries_of_message}
use Rattle.arrow_ipc.specs.Schema.{message_in}
use Rattle.arrow_ipc.specs.declared.fault.IpcFault.{IpcFault}
use Rattle.parquet_columns.specs.declared.code.FileCode.TheVariants.{RepeatedKey}
use Rattle.parquet_columns.specs.declared.code.FilePart.{FilePart}
use Rattle.parquet_columns.specs.declared.code.FilePart.TheVariants.{File}
use Rattle.parquet_columns.specs.Findings.{Finding, values_text, geo_key}

-- the texts of a key, in their order
abbrev pub text_under : Text → Text × Text → List Text
text_under key e = if bytes_eq e.0 key then e.1 ∷ [] else []

abbrev pub texts_under : Text → List (Text × Text) → List Text
texts_under key es = flat_map (text_under key) es

-- texts that are all that one; that are all one
abbrev pub all_are : Text → List Text → Bool
all_are t [] = true
all_are t (u ∷ us) = bytes_eq u t && all_are t us

abbrev pub are_equal : List Text → Bool
are_equal [] = true
are_equal (t ∷ ts) = all_are t ts

-- of a key that has several texts: how many, and whether they differ
abbrev pub several_texts : FilePart → Option Text → Text → List Text → Finding
several_texts part column key ts = record {
  code = RepeatedKey;
  column = column;
  path = [];
  place = record { part = part; byte = None };
  found = Some (values_text (length ts) (are_equal ts));
  wanted = Some key;
}

abbrev pub repeated_by : FilePart → Option Text → Text → List Text → List Finding
repeated_by part column key ts = if nat_lt 1 (length ts) then several_texts part column key ts ∷ [] else []

abbrev pub repeated_in : FilePart → Option Text → List (Text × Text) → Text → List Finding
repeated_in part column es key = repeated_by part column key (texts_under key es)

-- of a column: of the keys of its extension type
abbrev pub repeated_on : FilePart → Text → List (Text × Text) → List Finding
repeated_on part name es = repeated_in part (Some name) es name_key ++ repeated_in part (Some name) es metadata_key

-- of the columns, each with the entries at its place
abbrev pub repeated_columns : FilePart → List ColumnTree → List (List (Text × Text)) → List Finding
repeated_columns part [] ess = []
repeated_columns part (c ∷ cs) [] = []
repeated_columns part (c ∷ cs) (es ∷ ess) = repeated_on part c.name es ++ repeated_columns part cs ess

-- and of the schema itself: of the key geo
abbrev pub repeated_entries : FilePart → List ColumnTree → EntriesTree → List Finding
repeated_entries part cs e = repeated_columns part cs e.columns ++ repeated_in File None e.schema geo_key

-- the entries of the columns of a message, where they take no more than eight times its bytes; none where they are not read
abbrev pub entries_within : ℕ → Result (EntriesTree × ℕ) IpcFault → List (List (Text × Text))
entries_within size (Ok e) = if nat_le e.1 (8 * size) then e.0.columns else []
entries_within size (Err fault) = []

abbrev pub message_entries : Result (List ℕ) IpcFault → List (List (Text × Text))
message_entries (Ok bytes) = entries_within (length bytes) (entries_of_message bytes)
message_entries (Err fault) = []

abbrev pub stored_entries : List ℕ → List (List (Text × Text))
stored_entries bytes = message_entries (message_in bytes)
