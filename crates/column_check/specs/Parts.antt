-- The parts of a data type: its coordinates and their numbers, its unions, and the fields below it, each with the names of the child fields on the way to it.
use Rattle.std.specs.Prelude.{Bool, List, [], ◌∷◌, ◌++◌, map, Option, None, Some, if◌then◌else◌}
use Rattle.std.specs.List.{filter}
use Rattle.arrow_values.specs.Tree.{Text, Metadata, Tree, plain, list, large_list, fixed_size_list, struct, union, FieldTrees, no_fields, field, MemberTrees, no_members, member}
use Rattle.arrow_values.specs.declared.tree.UnionMode.{UnionMode}
use Rattle.arrow_columns.specs.Types.{TypeTree, known, other, PartTrees, no_parts, part}
use Rattle.arrow_columns.specs.declared.nested.ListForm.TheVariants.{Fixed}
use Rattle.arrow_columns.specs.declared.other.Form.TheVariants.{List as ListOf, Struct}
use Rattle.geoarrow_layout.specs.Shapes.{names_of}
use Rattle.geoarrow_layout.specs.declared.names.ExtensionName.{ExtensionName}

-- the names of child fields, outermost first
abbrev pub Names : Type 0
Names = List Text

-- parts that lie below a field of that name
abbrev pub below : {X : Type 0} → Text → List (Names × X) → List (Names × X)
below name parts = map (λ x. (name ∷ x.0, x.1)) parts

-- the separated coordinates and boxes in a data type, from left to right, each by the names of its
-- fields: its structs that lie in no other, nor in a fixed size list
abbrev mutual
  pub separated_in : Tree → List (Names × Names)
  separated_in (plain p) = []
  separated_in (list n t b m) = below n (separated_in t)
  separated_in (large_list n t b m) = below n (separated_in t)
  separated_in (fixed_size_list n t b m size) = []
  separated_in (struct fs) = ([], names_of fs) ∷ []
  separated_in (union ms mode) = separated_among ms

  pub separated_among : MemberTrees → List (Names × Names)
  separated_among no_members = []
  separated_among (member i n t b m ms) = below n (separated_in t) ++ separated_among ms

-- the numbers of a separated coordinate or a box
abbrev pub numbers_of : FieldTrees → List (Names × TypeTree)
numbers_of no_fields = []
numbers_of (field n t b m fs) = (n ∷ [], known t) ∷ numbers_of fs

-- the numbers of the coordinates and boxes in a data type, from left to right, each with its type:
-- what stands in its structs, and in its fixed size lists, that lie in no other
abbrev mutual
  pub numbers_in : Tree → List (Names × TypeTree)
  numbers_in (plain p) = []
  numbers_in (list n t b m) = below n (numbers_in t)
  numbers_in (large_list n t b m) = below n (numbers_in t)
  numbers_in (fixed_size_list n t b m size) = (n ∷ [], known t) ∷ []
  numbers_in (struct fs) = numbers_of fs
  numbers_in (union ms mode) = numbers_among ms

  pub numbers_among : MemberTrees → List (Names × TypeTree)
  numbers_among no_members = []
  numbers_among (member i n t b m ms) = below n (numbers_in t) ++ numbers_among ms

-- so in any type: what stands in structs and fixed size lists of parts, and below other lists
abbrev pub part_numbers : PartTrees → List (Names × TypeTree)
part_numbers no_parts = []
part_numbers (part n t b m ps) = (n ∷ [], t) ∷ part_numbers ps

abbrev mutual
  pub type_numbers : TypeTree → List (Names × TypeTree)
  type_numbers (known t) = numbers_in t
  type_numbers (other s (ListOf (Fixed size)) ids ps) = part_numbers ps
  type_numbers (other s (ListOf form) ids ps) = below_parts ps
  type_numbers (other s Struct ids ps) = part_numbers ps
  type_numbers (other s f ids ps) = []

  pub below_parts : PartTrees → List (Names × TypeTree)
  below_parts no_parts = []
  below_parts (part n t b m ps) = below n (type_numbers t) ++ below_parts ps

-- a field, and the parts below it
abbrev pub and_below : {X : Type 0} → Text → X → List (Names × X) → List (Names × X)
and_below name x parts = (name ∷ [], x) ∷ below name parts

-- the metadata of the fields below a data type, from left to right, a field before those below it
abbrev mutual
  pub fields_in : Tree → List (Names × Metadata)
  fields_in (plain p) = []
  fields_in (list n t b m) = and_below n m (fields_in t)
  fields_in (large_list n t b m) = and_below n m (fields_in t)
  fields_in (fixed_size_list n t b m size) = and_below n m (fields_in t)
  fields_in (struct fs) = fields_of fs
  fields_in (union ms mode) = members_of ms

  pub fields_of : FieldTrees → List (Names × Metadata)
  fields_of no_fields = []
  fields_of (field n t b m fs) = and_below n m (fields_in t) ++ fields_of fs

  pub members_of : MemberTrees → List (Names × Metadata)
  members_of no_members = []
  members_of (member i n t b m ms) = and_below n m (fields_in t) ++ members_of ms

-- whether a field is nullable, and the parts below it, unless it is
abbrev pub or_below : Text → Bool → List (Names × Bool) → List (Names × Bool)
or_below name nullable parts = (name ∷ [], nullable) ∷ (if nullable then [] else below name parts)

-- whether the fields below a data type are nullable, from left to right, but for the members of unions, and for the fields below a nullable one
abbrev mutual
  pub nullable_in : Tree → List (Names × Bool)
  nullable_in (plain p) = []
  nullable_in (list n t b m) = or_below n b (nullable_in t)
  nullable_in (large_list n t b m) = or_below n b (nullable_in t)
  nullable_in (fixed_size_list n t b m size) = or_below n b (nullable_in t)
  nullable_in (struct fs) = nullable_of fs
  nullable_in (union ms mode) = nullable_among ms

  pub nullable_of : FieldTrees → List (Names × Bool)
  nullable_of no_fields = []
  nullable_of (field n t b m fs) = or_below n b (nullable_in t) ++ nullable_of fs

  pub nullable_among : MemberTrees → List (Names × Bool)
  nullable_among no_members = []
  nullable_among (member i n t b m ms) = below n (nullable_in t) ++ nullable_among ms

-- the modes of the unions in a data type, from left to right, a union before those in it
abbrev mutual
  pub unions_in : Tree → List (Names × UnionMode)
  unions_in (plain p) = []
  unions_in (list n t b m) = below n (unions_in t)
  unions_in (large_list n t b m) = below n (unions_in t)
  unions_in (fixed_size_list n t b m size) = below n (unions_in t)
  unions_in (struct fs) = unions_of fs
  unions_in (union ms mode) = ([], mode) ∷ unions_among ms

  pub unions_of : FieldTrees → List (Names × UnionMode)
  unions_of no_fields = []
  unions_of (field n t b m fs) = below n (unions_in t) ++ unions_of fs

  pub unions_among : MemberTrees → List (Names × UnionMode)
  unions_among no_members = []
  unions_among (member i n t b m ms) = below n (unions_in t) ++ unions_among ms

-- ---- places

-- a place: the names of the child fields from the column down to it; or where it is in the extension metadata, as a JSON pointer; what
-- stands there, as it is shown; and the extension name whose layout is wanted there, if one is
abbrev pub Spot : Type 0
Spot = Names × Option Text × Option Text × Option ExtensionName

-- below a column, with what is shown
abbrev pub spot_at : Names → Text → Spot
spot_at way text = (way, None, Some text, None)

-- in the extension metadata, with what is shown
abbrev pub spot_in : Text → Option Text → Spot
spot_in pointer text = ([], Some pointer, text, None)

-- the places of the parts that pass the test, with what is shown of each
abbrev pub spots_of : {X : Type 0} → (X → Bool) → (X → Text) → List (Names × X) → List Spot
spots_of test shown parts = map (λ x. spot_at x.0 (shown x.1)) (filter (λ x. test x.1) parts)
