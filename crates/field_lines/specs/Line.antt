-- The JSON value of a field, the line of a field, and the field that a line denotes.
--
-- The value has no ignored key and no empty metadata, and its keys in the order of their bytes. It is lean (`Lean`), and
-- no other lean value denotes the field (`laws`).
use Rattle.std.specs.Prelude.{[], ◌∷◌, Bool, if◌then◌else◌, Option, None, option_and_then, codes}
use Rattle.std.specs.Str.{is_utf8}
use Rattle.serde_json.specs.Data.{Data, boolean, number, string, array, object, Items, no_items, item, Members, no_members, member}
use Rattle.serde_json.specs.Find.{of_integer}
use Rattle.serde_json.specs.Read.{read}
use Rattle.serde_json.specs.Written.{compact_text}
use Rattle.arrow_values.specs.Tree.{Text, Metadata, Tree, plain, list, large_list, fixed_size_list, struct, union, FieldTrees, no_fields, field, MemberTrees, no_members as no_union_members, member as union_member, FieldTree}
use Rattle.arrow_columns.specs.Notation.{plain_name}
use Rattle.field_lines.specs.Names.{mode_name}
use Rattle.field_lines.specs.FieldOfValue.{field_of_value}

abbrev pub texts_value : Metadata → Members
texts_value [] = no_members
texts_value (e ∷ es) = member e.0 (string e.1) (texts_value es)

-- the metadata before the other keys, unless it is empty
abbrev pub with_metadata : Metadata → Members → Members
with_metadata [] ms = ms
with_metadata (e ∷ es) ms = member (codes "metadata") (object (texts_value (e ∷ es))) ms

-- a field of these parts
abbrev pub parts_value : Text → Data → Bool → Metadata → Data
parts_value n type b m = object (with_metadata m (member (codes "name") (string n) (member (codes "nullable") (boolean b) (member (codes "type") type no_members))))

-- an object of one key, and of two
abbrev pub one_key : Text → Data → Data
one_key k d = object (member k d no_members)

abbrev pub two_keys : Text → Data → Text → Data → Data
two_keys k d l e = object (member k d (member l e no_members))

abbrev mutual
  pub type_value : Tree → Data
  type_value (plain p) = string (plain_name p)
  type_value (list n t b m) = one_key (codes "list") (parts_value n (type_value t) b m)
  type_value (large_list n t b m) = one_key (codes "large_list") (parts_value n (type_value t) b m)
  type_value (fixed_size_list n t b m s) = two_keys (codes "fixed_size_list") (parts_value n (type_value t) b m) (codes "size") (number (of_integer s))
  type_value (struct fs) = one_key (codes "struct") (array (fields_value fs))
  type_value (union ms mode) = two_keys (codes "mode") (string (mode_name mode)) (codes "union") (array (members_value ms))

  pub fields_value : FieldTrees → Items
  fields_value no_fields = no_items
  fields_value (field n t b m fs) = item (parts_value n (type_value t) b m) (fields_value fs)

  pub members_value : MemberTrees → Items
  members_value no_union_members = no_items
  members_value (union_member i n t b m ms) = item (array (item (number (of_integer i)) (item (parts_value n (type_value t) b m) no_items))) (members_value ms)

abbrev pub value_of_field : FieldTree → Data
value_of_field f = parts_value f.name (type_value f.tree) f.nullable f.metadata

-- a field of these parts whose type is another: an object with the single key `other`, at which its notation stands
abbrev pub other_value : Text → Text → Bool → Metadata → Data
other_value n notation b m = parts_value n (one_key (codes "other") (string notation)) b m

-- the line of a field: its value as compact JSON
abbrev pub line_of_field : FieldTree → Text
line_of_field f = compact_text (value_of_field f)

-- a line is UTF-8 that reads as one JSON value
abbrev pub field_of_line : Text → Option FieldTree
field_of_line line = option_and_then field_of_value (if is_utf8 line then read line else None)
