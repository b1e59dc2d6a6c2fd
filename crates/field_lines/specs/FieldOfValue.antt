-- The field that a JSON value denotes. An object has its members in the order of their keys, each key once.
use Rattle.std.specs.Prelude.{ℤ, pos, negsuc, ◌&&◌, List, [], ◌∷◌, Bool, if◌then◌else◌, Option, Some, None, option_and_then, option_map, codes, bytes_eq, int_le}
use Rattle.serde_json.specs.Data.{Data, string, array, object, Items, no_items, item, Members, no_members, member}
use Rattle.serde_json.specs.Find.{get_member, as_str, as_bool, as_number, as_integer, as_object}
use Rattle.arrow_values.specs.declared.tree.UnionMode.{UnionMode}
use Rattle.arrow_values.specs.Tree.{Text, Metadata, Tree, plain, list, large_list, fixed_size_list, struct, union, FieldTrees, no_fields, field, MemberTrees, no_members as no_union_members, member as union_member, FieldTree, field_tree}
use Rattle.arrow_values.specs.Union.{is_type_id, are_distinct}
use Rattle.field_lines.specs.Names.{plain_named, mode_named}

-- what stands at a key, read by f
abbrev pub under : {A : Type 0} → (Data → Option A) → Text → Members → Option A
under f key ms = option_and_then f (get_member key ms)

-- the whole number that a value is
abbrev pub integer_of : Data → Option ℤ
integer_of d = option_and_then as_integer (as_number d)

-- the number, where it has the property
abbrev pub kept : (ℤ → Bool) → ℤ → Option ℤ
kept p z = if p z then Some z else None

-- a size of 32 bits
abbrev pub is_size : ℤ → Bool
is_size z = int_le (negsuc 2147483647) z && int_le z (pos 2147483647)

-- the size of a fixed size list
abbrev pub size_of_value : Data → Option ℤ
size_of_value d = option_and_then (kept is_size) (integer_of d)

-- a type id
abbrev pub id_of_value : Data → Option ℤ
id_of_value d = option_and_then (kept is_type_id) (integer_of d)

-- a union's mode
abbrev pub mode_of_value : Data → Option UnionMode
mode_of_value d = option_and_then mode_named (as_str d)

-- an object of texts
abbrev pub texts_in : Members → Option Metadata
texts_in no_members = Some []
texts_in (member k d ms) = option_and_then (λ text. option_map (λ texts. (k, text) ∷ texts) (texts_in ms)) (as_str d)

-- the metadata of a field: an object of texts, or nothing
abbrev pub metadata_of_value : Option Data → Option Metadata
metadata_of_value None = Some []
metadata_of_value (Some d) = option_and_then texts_in (as_object d)

-- the field of these parts, where each is there
abbrev pub field_from : Option Text → Option Bool → Option Tree → Option Metadata → Option FieldTree
field_from name nullable tree metadata = option_and_then (λ n. option_and_then (λ b. option_and_then (λ t. option_map (λ m. field_tree n t b m) metadata) tree) nullable) name

abbrev pub list_of : FieldTree → Tree
list_of f = list f.name f.tree f.nullable f.metadata

abbrev pub large_list_of : FieldTree → Tree
large_list_of f = large_list f.name f.tree f.nullable f.metadata

abbrev pub fixed_size_list_of : FieldTree → ℤ → Tree
fixed_size_list_of f size = fixed_size_list f.name f.tree f.nullable f.metadata size

abbrev pub field_before : FieldTree → FieldTrees → FieldTrees
field_before f fs = field f.name f.tree f.nullable f.metadata fs

abbrev pub member_before : ℤ → FieldTree → MemberTrees → MemberTrees
member_before id f ms = union_member id f.name f.tree f.nullable f.metadata ms

-- the type ids of members
abbrev pub tree_ids : MemberTrees → List ℤ
tree_ids no_union_members = []
tree_ids (union_member i n t b m ms) = i ∷ tree_ids ms

-- the union of these members, where each id stands once
abbrev pub union_of : UnionMode → MemberTrees → Option Tree
union_of mode ms = if are_distinct (tree_ids ms) then Some (union ms mode) else None

-- two keys of an object are these
abbrev pub are_keys : Text → Text → Text → Text → Bool
are_keys key other k l = bytes_eq key k && bytes_eq other l

-- the type of an object of this one key, by the field or the fields that stand there
abbrev pub keyed_type : Text → Option FieldTree → Option FieldTrees → Option Tree
keyed_type key f fs = if bytes_eq key (codes "list") then option_map list_of f else (if bytes_eq key (codes "large_list") then option_map large_list_of f else (if bytes_eq key (codes "struct") then option_map struct fs else None))

abbrev mutual
  -- a field is an object with a name, a nullability, a type and perhaps metadata; its other keys are ignored
  pub field_of_value : Data → Option FieldTree
  field_of_value (object ms) = field_from (under as_str (codes "name") ms) (under as_bool (codes "nullable") ms) (type_in ms) (metadata_of_value (get_member (codes "metadata") ms))
  field_of_value _ = None

  -- the type at the key `type`
  pub type_in : Members → Option Tree
  type_in no_members = None
  type_in (member k d ms) = if bytes_eq (codes "type") k then type_of_value d else type_in ms

  -- a type is the word of a plain type, or an object of just these keys
  pub type_of_value : Data → Option Tree
  type_of_value (string word) = option_map plain (plain_named word)
  type_of_value (object (member key d no_members)) = keyed_type key (field_of_value d) (fields_of_value d)
  type_of_value (object (member key d (member other e no_members))) = if are_keys key other (codes "fixed_size_list") (codes "size") then option_and_then (λ f. option_map (fixed_size_list_of f) (size_of_value e)) (field_of_value d) else (if are_keys key other (codes "mode") (codes "union") then option_and_then (λ mode. option_and_then (union_of mode) (members_of_value e)) (mode_of_value d) else None)
  type_of_value _ = None

  -- the fields of a struct: a list of fields
  pub fields_of_value : Data → Option FieldTrees
  fields_of_value (array ds) = fields_in ds
  fields_of_value _ = None

  pub fields_in : Items → Option FieldTrees
  fields_in no_items = Some no_fields
  fields_in (item d ds) = option_and_then (λ f. option_map (field_before f) (fields_in ds)) (field_of_value d)

  -- the members of a union: a list of pairs of type id and field
  pub members_of_value : Data → Option MemberTrees
  members_of_value (array ds) = members_in ds
  members_of_value _ = None

  pub members_in : Items → Option MemberTrees
  members_in no_items = Some no_union_members
  members_in (item (array (item i (item d no_items))) ds) = option_and_then (λ id. option_and_then (λ f. option_map (member_before id f) (members_in ds)) (field_of_value d)) (id_of_value i)
  members_in (item _ ds) = None
