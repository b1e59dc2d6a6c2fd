-- What private clauses say: what is known on the way from tokens to a field, and which tokens its metadata member has.
use Rattle.std.specs.Prelude.{◌≡◌, ◌≢◌, length, ℤ, Bool, List, [], ◌∷◌, map, IsTrue, Option, Some, None, option_and_then, option_map, codes, String, string_bytes}
use Rattle.std.specs.declared.alloc.Global.{Global}
use Rattle.std.specs.List.{list_all}
use Rattle.json.specs.Tree.{members_tokens}
use Rattle.json.specs.Written.{Written}
use Rattle.serde_json.specs.Data.{Data, array, object, no_items, item, Members, no_members, member}
use Rattle.serde_json.specs.Find.{get_member, as_str, as_bool}
use Rattle.serde_json.specs.Read.{of_json}
use Rattle.serde_json.specs.Written.{outline, members_outline}
use Rattle.arrow_values.specs.Tree.{Text, Metadata, Tree, FieldTree}
use Rattle.arrow_values.specs.Union.{is_type_id}
use Rattle.arrow_values.specs.View.{tree, texts_of}
use Rattle.arrow_columns.specs.Types.{ColumnTree}
use Rattle.field_lines.specs.FieldOfValue.{under, metadata_of_value, field_from, type_of_value, id_of_value, keyed_type, field_of_value, fields_of_value}
use Rattle.field_lines.specs.ColumnOfValue.{other_of_value, column_type, column_from}
use Rattle.field_lines.specs.declared.parts.Parts.{Parts}
use Rattle.field_lines.specs.Line.{texts_value, with_metadata}
use Rattle.value_tokens.specs.Adds.{Adds}

-- a type, and the notation of another type, of which a value says one at most
abbrev pub Types : Type 0
Types = Option Tree × Option Text

abbrev pub types_of_value : Data → Types
types_of_value d = (type_of_value d, other_of_value d)

abbrev pub types_of_members : Members → Types
types_of_members ms = types_of_value (object ms)

-- the parts of a field or a column, each where it is there
pub record PartsTree : Type 0 where
  pub name : Option Text
  pub nullable : Option Bool
  pub types : Types
  pub metadata : Option Metadata

-- the parts that the members of an object say
abbrev pub parts_in : Members → PartsTree
parts_in ms = record {
  name = under as_str (codes "name") ms;
  nullable = under as_bool (codes "nullable") ms;
  types = (under type_of_value (codes "type") ms, under other_of_value (codes "type") ms);
  metadata = metadata_of_value (get_member (codes "metadata") ms);
}

-- the field and the column of parts
abbrev pub field_of_parts : PartsTree → Option FieldTree
field_of_parts p = field_from p.name p.nullable p.types.0 p.metadata

abbrev pub column_of_parts : PartsTree → Option ColumnTree
column_of_parts p = column_from p.name p.nullable (column_type p.types.0 p.types.1) p.metadata

-- the parts that were read
abbrev pub parts_tree : Parts → PartsTree
parts_tree p = record {
  name = option_map (λ n. n.now) p.name;
  nullable = p.nullable;
  types = (option_map tree p.data_type, option_map (λ n. n.now) p.notation);
  metadata = option_map (λ m. texts_of m.entries) p.metadata;
}

-- the type that a value says at the one key of an object
abbrev pub keyed_at : Text → Data → Option Tree
keyed_at k d = keyed_type k (field_of_value d) (fields_of_value d)

-- neither of two keys
abbrev pub IsNeither : Text → Text → Text → Type 0
IsNeither m n k = (k ≢ m) × (k ≢ n)

-- a type id and a field
abbrev pub pair_read : Data → Option (ℤ × FieldTree)
pair_read (array (item i (item d no_items))) = option_and_then (λ id. option_map (λ f. (id, f)) (field_of_value d)) (id_of_value i)
pair_read _ = None

-- ids and fields of a union's members: as many of one as of the other, each id 0 to 127
abbrev pub AreMemberParts : List ℤ → List FieldTree → Type 0
AreMemberParts ids fields = (length ids ≡ length fields) × IsTrue (list_all is_type_id ids)

-- the values of an object's keys as slots: the text, or none where the value is no text
abbrev pub slots_in : Members → List (Text × Option Text)
slots_in no_members = []
slots_in (member k d ms) = (k, as_str d) ∷ slots_in ms

-- the slots of a map's entries
abbrev pub slots_of : List (String Global × Option (String Global)) → List (Text × Option Text)
slots_of es = map (λ e. (string_bytes e.0, option_map string_bytes e.1)) es

-- the texts, where each slot holds one
abbrev pub texts_kept : List (Text × Option Text) → Option Metadata
texts_kept [] = Some []
texts_kept (e ∷ es) = option_and_then (λ text. option_map (λ texts. (e.0, text) ∷ texts) (texts_kept es)) e.1

-- a metadata member was added before those that follow, unless it is empty, and its texts are read back
pub record PrintsMetadata (m : Metadata) (old new : Written) : Type 0 where
  pub adds : (ms : Members) (end : Written) → Adds (members_tokens (members_outline ms)) new end → Adds (members_tokens (members_outline (with_metadata m ms))) old end
  pub reads_back : of_json (outline (object (texts_value m))) ≡ Some (object (texts_value m))
