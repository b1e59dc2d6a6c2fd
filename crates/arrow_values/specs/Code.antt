-- Trees have codes: trees of numbers, different ones of different trees.
use Rattle.std.specs.Prelude.{◌≡◌, ℕ, ℤ, Bool, List, [], ◌∷◌, get_or}
use Rattle.std.proofs.Common.{refl, ap, ap₂}
use Rattle.std.specs.Coded.{Coded, code_by, coded×, coded_ℕ, coded_bool, coded_ℤ, coded_list}
use base.Stored.{Gv, gnil, gnum, gcons, coded_via}
use denote.Enum.Bare.{tag_one}
use denote.Enum.Declared.{tag_of}
use Rattle.arrow_values.specs.declared.tree.UnionMode.{UnionMode}
use Rattle.arrow_values.specs.contracts.tree.UnionMode.{the_type}
use Rattle.arrow_values.specs.Tree.{Text, Metadata, Plain, null, boolean, int8, int16, int32, int64, uint8, uint16, uint32, uint64, float16, float32, float64, date32, date64, binary, large_binary, binary_view, utf8, large_utf8, utf8_view, Tree, plain, list, large_list, fixed_size_list, struct, union, FieldTrees, no_fields, field, MemberTrees, no_members, member, FieldTree, field_tree}

abbrev pub plain_code : Plain → ℕ
plain_code null = 0
plain_code boolean = 1
plain_code int8 = 2
plain_code int16 = 3
plain_code int32 = 4
plain_code int64 = 5
plain_code uint8 = 6
plain_code uint16 = 7
plain_code uint32 = 8
plain_code uint64 = 9
plain_code float16 = 10
plain_code float32 = 11
plain_code float64 = 12
plain_code date32 = 13
plain_code date64 = 14
plain_code binary = 15
plain_code large_binary = 16
plain_code binary_view = 17
plain_code utf8 = 18
plain_code large_utf8 = 19
plain_code utf8_view = 20

abbrev pub plain_from : ℕ → Plain
plain_from n = get_or (null ∷ boolean ∷ int8 ∷ int16 ∷ int32 ∷ int64 ∷ uint8 ∷ uint16 ∷ uint32 ∷ uint64 ∷ float16 ∷ float32 ∷ float64 ∷ date32 ∷ date64 ∷ binary ∷ large_binary ∷ binary_view ∷ utf8 ∷ large_utf8 ∷ utf8_view ∷ []) n null

pub plain_from-code : (p : Plain) → plain_from (plain_code p) ≡ p
plain_from-code null = refl
plain_from-code _ = refl

abbrev pub text_code : Coded Text
text_code = coded_list coded_ℕ

-- the name, the nullability and the metadata of a field, whose data type stands beside them
abbrev rest_code : Coded (Text × (Bool × Metadata))
rest_code = coded× text_code (coded× coded_bool (coded_list (coded× text_code text_code)))

abbrev plain_coded : Coded Plain
plain_coded = code_by ℕ coded_ℕ plain_code plain_from plain_from-code

-- a mode by the place of its variant
abbrev mode_coded : Coded UnionMode
mode_coded = coded_via coded_ℕ (tag_of the_type) (tag_one the_type tt)

-- a tree by its sort and its parts
abbrev mutual
  pub tree_to : Tree → Gv
  tree_to (plain p) = gcons gnil (plain_coded.code p)
  tree_to (list n t b m) = gcons (gnum 0) (gcons (tree_to t) (rest_code.code (n, (b, m))))
  tree_to (large_list n t b m) = gcons (gcons gnil gnil) (gcons (tree_to t) (rest_code.code (n, (b, m))))
  tree_to (fixed_size_list n t b m s) = gcons (gcons (gnum 0) (coded_ℤ.code s)) (gcons (tree_to t) (rest_code.code (n, (b, m))))
  tree_to (struct fs) = gcons (gcons (gcons gnil gnil) gnil) (fields_to fs)
  tree_to (union ms u) = gcons (gcons (gcons gnil (gnum 0)) (mode_coded.code u)) (members_to ms)

  pub fields_to : FieldTrees → Gv
  fields_to no_fields = gnil
  fields_to (field n t b m fs) = gcons (gcons (tree_to t) (rest_code.code (n, (b, m)))) (fields_to fs)

  pub members_to : MemberTrees → Gv
  members_to no_members = gnil
  members_to (member i n t b m ms) = gcons (gcons (coded_ℤ.code i) (gcons (tree_to t) (rest_code.code (n, (b, m))))) (members_to ms)

-- a field's tree and its other parts tell it
field_inj : (f g : FieldTree) → f.tree ≡ g.tree → rest_code.code (f.name, (f.nullable, f.metadata)) ≡ rest_code.code (g.name, (g.nullable, g.metadata)) → f ≡ g
field_inj f g s e =
    let r = rest_code.inj (f.name, (f.nullable, f.metadata)) (g.name, (g.nullable, g.metadata)) e in
    λ i. record { name = (r i).0; tree = s i; nullable = (r i).1.0; metadata = (r i).1.1 }

mutual
  pub tree_inj : (t u : Tree) → tree_to t ≡ tree_to u → t ≡ u
  tree_inj (plain p) (plain q) e = ap plain (plain_coded.inj p q cc)
  tree_inj (list n t b m) (list o u c k) e = ap (λ f. list f.name f.tree f.nullable f.metadata) (field_inj (field_tree n t b m) (field_tree o u c k) (tree_inj t u cc) cc)
  tree_inj (large_list n t b m) (large_list o u c k) e = ap (λ f. large_list f.name f.tree f.nullable f.metadata) (field_inj (field_tree n t b m) (field_tree o u c k) (tree_inj t u cc) cc)
  tree_inj (fixed_size_list n t b m x) (fixed_size_list o u c k y) e =
      let f = field_inj (field_tree n t b m) (field_tree o u c k) (tree_inj t u cc) cc in
      let z = coded_ℤ.inj x y cc in
      λ i. fixed_size_list (f i).name (f i).tree (f i).nullable (f i).metadata (z i)
  tree_inj (struct fs) (struct gs) e = ap struct (fields_inj fs gs cc)
  tree_inj (union ms u) (union ns v) e = ap₂ union (members_inj ms ns cc) (mode_coded.inj u v cc)
  tree_inj _ _ e = cc

  fields_inj : (fs gs : FieldTrees) → fields_to fs ≡ fields_to gs → fs ≡ gs
  fields_inj no_fields no_fields e = refl
  fields_inj (field n t b m fs) (field o u c k gs) e =
      ap₂ (λ f. field f.name f.tree f.nullable f.metadata) (field_inj (field_tree n t b m) (field_tree o u c k) (tree_inj t u cc) cc) (fields_inj fs gs cc)
  fields_inj _ _ e = cc

  members_inj : (ms ns : MemberTrees) → members_to ms ≡ members_to ns → ms ≡ ns
  members_inj no_members no_members e = refl
  members_inj (member x n t b m ms) (member y o u c k ns) e =
      let f = field_inj (field_tree n t b m) (field_tree o u c k) (tree_inj t u cc) cc in
      let z = coded_ℤ.inj x y cc in
      ap₂ (λ (a : ℤ × FieldTree). member a.0 a.1.name a.1.tree a.1.nullable a.1.metadata) (λ i. (z i, f i)) (members_inj ms ns cc)
  members_inj _ _ e = cc

abbrev pub tree_code : Coded Tree
tree_code = record { code = tree_to; inj = tree_inj }

-- a field is stored as the tuple of its parts
abbrev pub field_code : Coded FieldTree
field_code =
    code_by (Tree × (Text × (Bool × Metadata))) (coded× tree_code rest_code)
    (λ f. (f.tree, (f.name, (f.nullable, f.metadata)))) (λ p. record { name = p.1.0; tree = p.0; nullable = p.1.1.0; metadata = p.1.1.1 }) (λ _. refl)

abbrev pub fields_code : Coded (List FieldTree)
fields_code = coded_list field_code

abbrev pub members_code : Coded (List (ℤ × FieldTree))
members_code = coded_list (coded× coded_ℤ field_code)
