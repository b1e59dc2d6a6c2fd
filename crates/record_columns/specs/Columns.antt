-- The columns of records (docs/FORMAT.md, 6): what a structure becomes, by what those became that
-- lie right in it, which are its children and behind them its dictionary.
use Rattle.std.specs.Prelude.{◌≡◌, ℕ, ◌-◌, ◌/◌, ◌%◌, Bool, true, not, ◌&&◌, List, [], length}
use Rattle.std.specs.Prelude.{Option, Some, None, Result, Ok, Err, codes, bytes_eq, ◌==◌}
use Rattle.std.specs.Prelude.{if◌then◌else◌}
use Rattle.arrow_values.specs.Tree.{Text, Metadata}
use Rattle.arrow_values.specs.declared.tree.DataType.{DataType}
use Rattle.arrow_values.specs.declared.tree.DataType.TheVariants.{Int8, Int16, Int32, Int64, UInt8}
use Rattle.arrow_values.specs.declared.tree.DataType.TheVariants.{UInt16, UInt32, UInt64}
use Rattle.arrow_columns.specs.Types.{TypeTree, ColumnTree}
use Rattle.arrow_columns.specs.Nested.{only}
use Rattle.arrow_kinds.specs.Types.{type_of, with_dictionary}
use Rattle.arrow_kinds.specs.declared.kind.Kind.{Kind}
use Rattle.arrow_kinds.specs.declared.kind.Kind.TheVariants.{Plain, Named, Union}
use Rattle.format_strings.specs.Formats.{Said}
use Rattle.format_strings.specs.Reading.{said_in}
use Rattle.record_wire.specs.Fault.{◌>>=◌, kept, within}
use Rattle.record_wire.specs.Record.{Structure}
use Rattle.record_wire.specs.Write.{text_of}
use Rattle.record_wire.specs.Trees.{head_at, root_at, steps, ValueOf, put_next}
use Rattle.record_wire.specs.declared.fault.Fault.{Fault}
use Rattle.record_wire.specs.declared.fault.Rule.{Rule}
use Rattle.record_wire.specs.declared.fault.Rule.TheVariants.{Format, Children}
use Rattle.record_columns.specs.Texts.{texts_in}

abbrev pub or_rule : {A : Type 0} → Rule → Option A → Result A Rule
or_rule rule None = Err rule
or_rule rule (Some x) = Ok x

-- flags (Arrow, "The Arrow C data interface"): 1 the order of a dictionary's values is that of its
-- integers, 2 values may be null
abbrev pub is_ordered : ℕ → Bool
is_ordered flags = flags % 2 == 1

abbrev pub is_nullable : ℕ → Bool
is_nullable flags = (flags / 2) % 2 == 1

-- a type that nests nothing has no children, and a union as many as type ids; what the others must
-- have says `type_of`
abbrev pub takes : Kind → ℕ → ℕ → Bool
takes (Plain data_type) ids children = children == 0
takes (Named named) ids children = children == 0
takes (Union mode) ids children = children == ids
takes kind ids children = true

-- the type that a format string says of these children
unfoldable pub own_type : Said → List ColumnTree → Result TypeTree Rule
own_type said cs = do
  _ ← kept (takes said.kind (length said.ids) (length cs)) Children
  or_rule Children (type_of said.kind said.zone said.ids cs)

abbrev pub integers_of : Kind → Option DataType
integers_of (Plain Int8) = Some Int8
integers_of (Plain Int16) = Some Int16
integers_of (Plain Int32) = Some Int32
integers_of (Plain Int64) = Some Int64
integers_of (Plain UInt8) = Some UInt8
integers_of (Plain UInt16) = Some UInt16
integers_of (Plain UInt32) = Some UInt32
integers_of (Plain UInt64) = Some UInt64
integers_of kind = None

-- of a structure with a dictionary the format string says the integers by which its values are
-- looked up. These have no children, so that the dictionary lies in it alone
unfoldable pub dictionary_type : Kind → Bool → List ColumnTree → Result TypeTree Rule
dictionary_type kind ordered cs = do
  integers ← or_rule Format (integers_of kind)
  values ← or_rule Children (only cs)
  Ok (with_dictionary (Some (record { integers = integers; ordered = ordered })) values.data_type)

abbrev pub type_by : Structure → Said → List ColumnTree → Result TypeTree Rule
type_by s said cs =
    if s.has_dictionary then dictionary_type said.kind (is_ordered s.flags) cs else
    own_type said cs

-- a structure as a column
unfoldable pub column_of : ValueOf ColumnTree
column_of s cs = do
  said ← or_rule Format (said_in s.format)
  data_type ← type_by s said cs
  metadata ← texts_in s.metadata
  Ok (record {
    name = text_of s.name;
    data_type = data_type;
    nullable = is_nullable s.flags;
    metadata = metadata;
  })

-- a structure as a schema, whose columns are its children
unfoldable pub columns_of : Structure → List ColumnTree → Result (List ColumnTree) Rule
columns_of s cs = do
  _ ← kept (bytes_eq s.format (codes "+s") && not s.has_dictionary) Format
  Ok cs

-- those that wait for the last structure, with the bytes of its record
unfoldable pub waiting_at : List ℕ → Result ((List ColumnTree × List ℕ) × List ℕ) Fault
waiting_at bytes = do
  head ← within bytes (head_at bytes)
  steps (put_next column_of) (head.0 - 1) ([], []) head.1

-- what is made of the last structure, in which all others lie
abbrev pub LastAs : Type 0 → Type 0
LastAs A = Structure → List ColumnTree → Result A Rule

unfoldable pub last_as : {A : Type 0} → LastAs A → List ℕ → Result A Fault
last_as make bytes = do
  all ← waiting_at bytes
  last ← root_at all.0.1 all.1
  within all.1 (make last all.0.0)

abbrev pub columns_at : List ℕ → Result (List ColumnTree) Fault
columns_at bytes = last_as columns_of bytes

abbrev pub column_at : List ℕ → Result ColumnTree Fault
column_at bytes = last_as column_of bytes

-- a structure as a schema with its metadata
unfoldable pub schema_of : LastAs (List ColumnTree × Metadata)
schema_of s cs = do
  columns ← columns_of s cs
  metadata ← texts_in s.metadata
  Ok (columns, metadata)

abbrev pub schema_at : List ℕ → Result (List ColumnTree × Metadata) Fault
schema_at bytes = last_as schema_of bytes

-- that is made of a whole tree; where it breaks a rule of its own, in the record at the front of
-- some bytes
abbrev pub IsMadeOf : {A : Type 0} → LastAs A → Result (Structure × List ColumnTree) Fault
    → Result A Fault → Type 0
IsMadeOf make (Ok whole) made = (last : List ℕ) × (made ≡ within last (make whole.0 whole.1))
IsMadeOf make (Err fault) made = made ≡ Err fault
