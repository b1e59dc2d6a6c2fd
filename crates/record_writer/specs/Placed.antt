-- A column with all that lies in it, in the order in which their records are written: each behind
-- those that lie in it.
use Rattle.std.specs.Prelude.{ℕ, ◌+◌, List, [], ◌∷◌, ◌++◌}
use Rattle.arrow_values.specs.Tree.{Tree, plain, list, large_list, fixed_size_list, struct, union}
use Rattle.arrow_values.specs.Tree.{FieldTrees, no_fields, field, MemberTrees, no_members, member}
use Rattle.arrow_values.specs.Tree.{field_tree}
use Rattle.arrow_columns.specs.Types.{TypeTree, known, other, ColumnTree}
use Rattle.arrow_columns.specs.Column.{column_of}

-- a column, and in how many structures it lies
pub record Placed : Type 0 where
  pub level : ℕ
  pub column : ColumnTree

abbrev pub at : ℕ → ColumnTree → Placed
at level c = record { level = level; column = c }

-- what lies in a data type, from a level on
abbrev mutual
  pub within : ℕ → Tree → List Placed
  within l (plain p) = []
  within l (list n t b m) = within (l + 1) t ++ at l (column_of (field_tree n t b m)) ∷ []
  within l (large_list n t b m) = within (l + 1) t ++ at l (column_of (field_tree n t b m)) ∷ []
  within l (fixed_size_list n t b m s) =
      within (l + 1) t ++ at l (column_of (field_tree n t b m)) ∷ []
  within l (struct fs) = fields_within l fs
  within l (union ms mode) = members_within l ms

  pub fields_within : ℕ → FieldTrees → List Placed
  fields_within l no_fields = []
  fields_within l (field n t b m fs) =
      (within (l + 1) t ++ at l (column_of (field_tree n t b m)) ∷ []) ++ fields_within l fs

  pub members_within : ℕ → MemberTrees → List Placed
  members_within l no_members = []
  members_within l (member i n t b m ms) =
      (within (l + 1) t ++ at l (column_of (field_tree n t b m)) ∷ []) ++ members_within l ms

-- of a type that is none of the 26, nothing that lies in it
abbrev pub within_type : ℕ → TypeTree → List Placed
within_type l (known t) = within l t
within_type l (other s f ids ps) = []

-- a column behind what lies in it
abbrev pub placed : ℕ → ColumnTree → List Placed
placed l c = within_type (l + 1) c.data_type ++ at l c ∷ []

-- columns of one level, one after the other
abbrev pub all_placed : ℕ → List ColumnTree → List Placed
all_placed l [] = []
all_placed l (c ∷ cs) = placed l c ++ all_placed l cs
