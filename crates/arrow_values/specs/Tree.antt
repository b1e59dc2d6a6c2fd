-- Arrow's data types and fields as finite trees.
use Rattle.std.specs.Prelude.{ℕ, suc, max, ℤ, Bool, List}
use Rattle.arrow_values.specs.declared.tree.UnionMode.{UnionMode}

-- the bytes of a text
abbrev pub Text : Type 0
Text = List ℕ

-- a finite map from text to text: its entries, in the order of the keys
abbrev pub Metadata : Type 0
Metadata = List (Text × Text)

-- the types with no parts
pub data Plain : Type 0 where
  null : Plain
  boolean : Plain
  int8 : Plain
  int16 : Plain
  int32 : Plain
  int64 : Plain
  uint8 : Plain
  uint16 : Plain
  uint32 : Plain
  uint64 : Plain
  float16 : Plain
  float32 : Plain
  float64 : Plain
  date32 : Plain
  date64 : Plain
  binary : Plain
  large_binary : Plain
  binary_view : Plain
  utf8 : Plain
  large_utf8 : Plain
  utf8_view : Plain

-- A field inside a tree stands as its four parts: name, tree, nullability, metadata.
mutual
  pub data Tree : Type 0 where
    plain : Plain → Tree
    list : Text → Tree → Bool → Metadata → Tree
    large_list : Text → Tree → Bool → Metadata → Tree
    fixed_size_list : Text → Tree → Bool → Metadata → ℤ → Tree
    struct : FieldTrees → Tree
    union : MemberTrees → UnionMode → Tree

  pub data FieldTrees : Type 0 where
    no_fields : FieldTrees
    field : Text → Tree → Bool → Metadata → FieldTrees → FieldTrees

  pub data MemberTrees : Type 0 where
    no_members : MemberTrees
    member : ℤ → Text → Tree → Bool → Metadata → MemberTrees → MemberTrees

pub record FieldTree : Type 0 where
  pub name : Text
  pub tree : Tree
  pub nullable : Bool
  pub metadata : Metadata

-- how deep a tree is
abbrev mutual
  pub depth : Tree → ℕ
  depth (plain p) = 0
  depth (list n t b m) = suc (depth t)
  depth (large_list n t b m) = suc (depth t)
  depth (fixed_size_list n t b m s) = suc (depth t)
  depth (struct fs) = suc (fields_depth fs)
  depth (union ms mode) = suc (members_depth ms)

  pub fields_depth : FieldTrees → ℕ
  fields_depth no_fields = 0
  fields_depth (field n t b m fs) = max (suc (depth t)) (fields_depth fs)

  pub members_depth : MemberTrees → ℕ
  members_depth no_members = 0
  members_depth (member i n t b m ms) = max (suc (depth t)) (members_depth ms)

-- a field from its parts
abbrev pub field_tree : Text → Tree → Bool → Metadata → FieldTree
field_tree n t b m = record { name = n; tree = t; nullable = b; metadata = m }

-- the members of a union: type ids and fields
abbrev pub Members : Type 0
Members = List (ℤ × FieldTree)
