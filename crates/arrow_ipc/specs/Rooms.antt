-- Which types a message can hold, and how many bytes a schema takes at most.
use Rattle.std.specs.Prelude.{◌≡◌, ℕ, ◌+◌, ◌*◌, ◌^◌, ◌<◌, ◌≤◌, ◌⊎◌, Result, Ok, Err, ℤ, pos, negsuc, Bool, true, false, ◌&&◌, List, [], ◌∷◌, length, nat_lt}
use Rattle.std.specs.declared.vec.Vec.{Vec}
use Rattle.std.specs.declared.alloc.Global.{Global}
use Rattle.arrow_values.specs.Tree.{Text, Metadata, Tree, plain, list, large_list, fixed_size_list, struct, union, FieldTrees, no_fields, field, MemberTrees, no_members, member, depth}
use Rattle.arrow_columns.specs.Types.{TypeTree, known, other, ColumnTree}
use Rattle.arrow_ipc.specs.Schema.{SchemaTree}
use Rattle.arrow_ipc.specs.Shapes.{member_ids, are_ids, tag_of, bytes_of, has_table}
use Rattle.arrow_ipc.specs.declared.write.WriteError.{WriteError}
use Rattle.arrow_ipc.specs.declared.write.WriteError.TheVariants.{Column, TooLarge, OutOfMemory}

abbrev pub is_size : ℤ → Bool
is_size (pos n) = nat_lt n (2 ^ 31)
is_size (negsuc n) = false

-- the sizes of lists are not negative, and the type ids of unions are ones that the format has
abbrev mutual
  pub is_sound : Tree → Bool
  is_sound (plain p) = true
  is_sound (list n t b m) = is_sound t
  is_sound (large_list n t b m) = is_sound t
  is_sound (fixed_size_list n t b m s) = is_size s && is_sound t
  is_sound (struct fs) = are_sound fs
  is_sound (union ms mode) = are_ids [] (member_ids ms) && members_sound ms

  pub are_sound : FieldTrees → Bool
  are_sound no_fields = true
  are_sound (field n t b m fs) = is_sound t && are_sound fs

  pub members_sound : MemberTrees → Bool
  members_sound no_members = true
  members_sound (member i n t b m ms) = is_sound t && members_sound ms

-- entries of metadata, each with its offset
abbrev pub entry_room : Text × Text → ℕ
entry_room e = 48 + length e.0 + length e.1

abbrev pub texts_room : Metadata → ℕ
texts_room [] = 12
texts_room (e ∷ es) = 4 + entry_room e + texts_room es

-- a type's table
abbrev pub table_room : Tree → ℕ
table_room (union ms mode) = 36 + 4 * length (member_ids ms)
table_room _ = 24

-- the columns that a type nests, each with its offset
abbrev mutual
  pub nested_room : Tree → ℕ
  nested_room (plain p) = 12
  nested_room (list n t b m) = 76 + length n + (table_room t + nested_room t) + texts_room m
  nested_room (large_list n t b m) = 76 + length n + (table_room t + nested_room t) + texts_room m
  nested_room (fixed_size_list n t b m s) = 76 + length n + (table_room t + nested_room t) + texts_room m
  nested_room (struct fs) = fields_room fs
  nested_room (union ms mode) = members_room ms

  pub fields_room : FieldTrees → ℕ
  fields_room no_fields = 12
  fields_room (field n t b m fs) = 64 + length n + (table_room t + nested_room t) + texts_room m + fields_room fs

  pub members_room : MemberTrees → ℕ
  members_room no_members = 12
  members_room (member i n t b m ms) = 64 + length n + (table_room t + nested_room t) + texts_room m + members_room ms

-- a column of any type, with so many bytes of texts
abbrev pub room_of_type : TypeTree → ℕ → ℕ
room_of_type (known t) texts = 60 + (table_room t + nested_room t) + texts
room_of_type (other s f ids ps) texts = 60 + texts

abbrev pub column_room : Text → Tree → Metadata → ℕ
column_room n t m = room_of_type (known t) (length n + texts_room m)

-- a schema in a stream
abbrev pub room_of : ColumnTree → ℕ
room_of c = room_of_type c.data_type (length c.name + texts_room c.metadata)

abbrev pub columns_room : List ColumnTree → ℕ
columns_room [] = 12
columns_room (c ∷ cs) = 4 + room_of c + columns_room cs

abbrev pub schema_room : SchemaTree → ℕ
schema_room s = 72 + columns_room s.columns + texts_room s.metadata

-- why a block is not written
abbrev pub Refuses : WriteError → Type 0 → ℕ → Type 0
Refuses (Column i) unfit room = unfit
Refuses TooLarge unfit room = 2 ^ 31 ≤ room
Refuses OutOfMemory unfit room = Unit {0}

-- that block was made, or why not
abbrev pub Makes : List ℕ → Result (Vec ℕ Global) WriteError → Type 0
Makes block (Ok b) = (b.items ≡ block) × (length block < 2 ^ 31)
Makes block (Err e) = Refuses e ⊥ (length block)

-- and where only what is sound has a block
abbrev pub MakesSound : Bool → List ℕ → Result (Vec ℕ Global) WriteError → Type 0
MakesSound sound block (Ok b) = (sound ≡ true) × ((b.items ≡ block) × (length block < 2 ^ 31))
MakesSound sound block (Err e) = Refuses e (sound ≡ false) (length block)

-- a type's tag and table
abbrev pub IsTable : Tree → Result (ℕ × Vec ℕ Global) WriteError → Type 0
IsTable t (Ok p) = (p.0 ≡ tag_of t) × MakesSound (has_table t) (bytes_of t) (Ok p.1)
IsTable t (Err e) = Refuses e (has_table t ≡ false) (length (bytes_of t))

-- a block was made of which that is so, in so much room; or why not
abbrev pub Gives : (List ℕ → Type 0) → Type 0 → ℕ → Result (Vec ℕ Global) WriteError → Type 0
Gives P unfit room (Ok b) = P b.items × (length b.items ≤ room)
Gives P unfit room (Err e) = Refuses e unfit room

-- a type that no message can hold where so many levels are left
abbrev pub IsUnfit : ℕ → Tree → Type 0
IsUnfit levels t = (is_sound t ≡ false) ⊎ (levels ≤ depth t)

-- columns of which one is unfit
abbrev pub IsUnfitType : ℕ → TypeTree → Type 0
IsUnfitType levels (known t) = IsUnfit levels t
IsUnfitType levels (other s f ids ps) = Unit {0}

abbrev pub AreUnfit : ℕ → List ColumnTree → Type 0
AreUnfit levels [] = ⊥
AreUnfit levels (c ∷ cs) = IsUnfitType levels c.data_type ⊎ AreUnfit levels cs
