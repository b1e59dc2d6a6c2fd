-- What a line can say: sizes of 32 bits, and unions whose ids are 0 to 127, each once.
use Rattle.std.specs.Prelude.{IsTrue}
use Rattle.arrow_values.specs.Tree.{Tree, plain, list, large_list, fixed_size_list, struct, union, FieldTrees, no_fields, field, MemberTrees, no_members, member}
use Rattle.arrow_values.specs.Union.{are_type_ids}
use Rattle.field_lines.specs.FieldOfValue.{is_size, tree_ids}

abbrev mutual
  pub HasLineForm : Tree → Type 0
  HasLineForm (plain p) = Unit {0}
  HasLineForm (list n t b m) = HasLineForm t
  HasLineForm (large_list n t b m) = HasLineForm t
  HasLineForm (fixed_size_list n t b m s) = HasLineForm t × IsTrue (is_size s)
  HasLineForm (struct fs) = FieldsHaveLineForm fs
  HasLineForm (union ms mode) = MembersHaveLineForm ms × IsTrue (are_type_ids (tree_ids ms))

  pub FieldsHaveLineForm : FieldTrees → Type 0
  FieldsHaveLineForm no_fields = Unit {0}
  FieldsHaveLineForm (field n t b m fs) = HasLineForm t × FieldsHaveLineForm fs

  pub MembersHaveLineForm : MemberTrees → Type 0
  MembersHaveLineForm no_members = Unit {0}
  MembersHaveLineForm (member i n t b m ms) = HasLineForm t × MembersHaveLineForm ms
