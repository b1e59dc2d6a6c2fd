-- A column's type, from its kind and its children.
use Rattle.std.specs.Prelude.{ℕ, ℤ, true, List, [], ◌∷◌, ◌++◌, nat_lt, length, map, codes, Option, Some, None, ◌==◌, if◌then◌else◌}
use Rattle.std.specs.List.{zip}
use Rattle.std.specs.Fmt.{decimal, signed_decimal}
use mir.Val.{bool_byte}
use Rattle.arrow_values.specs.Tree.{Text, union}
use Rattle.arrow_values.specs.View.{tree, member_trees}
use Rattle.arrow_values.specs.declared.tree.UnionMode.{UnionMode}
use Rattle.arrow_columns.specs.Types.{TypeTree, known, leaf, ColumnTree}
use Rattle.arrow_columns.specs.Notation.{plain_word, nested_text, sized_text, member_text, union_word, type_text, column_text}
use Rattle.arrow_columns.specs.Nested.{only, list_type, all_known, known_fields, nested_type, struct_type}
use Rattle.arrow_columns.specs.declared.nested.ListForm.{ListForm}
use Rattle.arrow_columns.specs.declared.other.Form as form
use Rattle.arrow_kinds.specs.declared.kind.Named as named
use Rattle.arrow_kinds.specs.declared.kind.Named.TheVariants.{Decimal, Time, Timestamp, Duration, Interval, FixedSizeBinary}
use Rattle.arrow_kinds.specs.declared.kind.Kind.{Kind}
use Rattle.arrow_kinds.specs.declared.kind.Kind.TheVariants.{Plain, Named, List as ListOf, Struct, Union, Map, RunEndEncoded, ListView, LargeListView}
use Rattle.arrow_kinds.specs.declared.kind.Index.{Index}

abbrev pub unit_word : ℕ → Text
unit_word unit = if unit == 0 then codes "s" else if unit == 1 then codes "ms" else if unit == 2 then codes "us" else codes "ns"

abbrev pub decimal_text : ℕ → ℕ → ℤ → Text
decimal_text width precision scale = codes "decimal" ++ (decimal width ++ (codes "(" ++ (decimal precision ++ (codes ", " ++ (signed_decimal scale ++ codes ")")))))

-- a type of so many units, with a time zone where it has one
abbrev pub timed_text : Text → ℕ → Text → Text
timed_text word unit zone = if length zone == 0 then word ++ (codes "[" ++ (unit_word unit ++ codes "]")) else word ++ (codes "[" ++ (unit_word unit ++ (codes ", tz=" ++ (zone ++ codes "]"))))

abbrev pub interval_text : ℕ → Text
interval_text unit = if unit == 0 then codes "month_interval" else if unit == 1 then codes "day_time_interval" else codes "month_day_nano_interval"

-- the types that have a text in place of a data type
abbrev pub named_text : named.Named → Text → Text
named_text (Decimal width precision scale) zone = decimal_text width precision scale
named_text (Time unit) zone = timed_text (if nat_lt unit 2 then codes "time32" else codes "time64") unit []
named_text (Timestamp unit) zone = timed_text (codes "timestamp") unit zone
named_text (Duration unit) zone = timed_text (codes "duration") unit []
named_text (Interval unit) zone = interval_text unit
named_text (FixedSizeBinary size) zone = sized_text (codes "fixed_size_binary") size

-- a dictionary of values of a type
abbrev pub dictionary_text : Index → Text → Text
dictionary_text index values =
    codes "dictionary<values=" ++ (values ++ (codes ", indices=" ++ (plain_word (tree index.integers) ++ (codes ", ordered=" ++ (decimal (bool_byte index.ordered) ++ codes ">")))))

abbrev pub dictionary_values : TypeTree → ColumnTree
dictionary_values t = record { name = codes "values"; data_type = t; nullable = true; metadata = [] }

abbrev pub with_dictionary : Option Index → TypeTree → TypeTree
with_dictionary None t = t
with_dictionary (Some index) t = nested_type (dictionary_text index (type_text t)) form.TheVariants.Dictionary [] (dictionary_values t ∷ [])

-- a union of children under their type ids
abbrev pub member_part : ℤ × ColumnTree → Text
member_part m = member_text (column_text m.1) m.0

abbrev pub member_parts : List ℤ → List ColumnTree → List Text
member_parts ids cs = map member_part (zip ids cs)

abbrev pub union_type : UnionMode → List ℤ → List ColumnTree → TypeTree
union_type mode ids cs = if all_known cs then known (union (member_trees (zip ids (known_fields cs))) mode) else nested_type (nested_text (union_word mode) (member_parts ids cs)) (form.TheVariants.Union mode) ids cs

-- a type of a form that is never a data type, with so many children
abbrev pub others : form.Form → Text → ℕ → List ColumnTree → Option TypeTree
others f word count cs = if length cs == count then Some (nested_type (nested_text word (map column_text cs)) f [] cs) else None

abbrev pub listed : ListForm → Option ColumnTree → Option TypeTree
listed form None = None
listed form (Some c) = Some (list_type form c)

-- none where the number of children is wrong
unfoldable pub type_of : Kind → Text → List ℤ → List ColumnTree → Option TypeTree
type_of (Plain d) zone ids cs = Some (known (tree d))
type_of (Named n) zone ids cs = Some (leaf (named_text n zone))
type_of (ListOf form) zone ids cs = listed form (only cs)
type_of Struct zone ids cs = Some (struct_type cs)
type_of (Union mode) zone ids cs = Some (union_type mode ids cs)
type_of Map zone ids cs = others form.TheVariants.Map (codes "map") 1 cs
type_of RunEndEncoded zone ids cs = others form.TheVariants.RunEndEncoded (codes "run_end_encoded") 2 cs
type_of ListView zone ids cs = others form.TheVariants.ListView (codes "list_view") 1 cs
type_of LargeListView zone ids cs = others form.TheVariants.LargeListView (codes "large_list_view") 1 cs
