-- The types of columns as finite trees, of which a leaf may be any type of Arrow.
use Rattle.std.specs.Prelude.{◌≡◌, ℕ, suc, max, ℤ, pos, Bool, List, [], ◌∷◌, get_or}
use Rattle.std.proofs.Common.{refl, ap}
use Rattle.std.specs.Coded.{Coded, code_by, coded×, coded_ℕ, coded_bool, coded_ℤ, coded_list}
use base.Stored.{Gv, gnil, gnum, gcons}
use Rattle.arrow_values.specs.Tree.{Text, Metadata, Tree}
use Rattle.arrow_values.specs.Code.{text_code, tree_code}
use Rattle.arrow_columns.specs.declared.nested.ListForm.TheVariants.{Small, Large, Fixed}
use Rattle.arrow_columns.specs.declared.other.Form.{Form}
use Rattle.arrow_columns.specs.declared.other.Form.TheVariants.{Leaf, List as ListOf, ListView, LargeListView, Struct, Union, Map, RunEndEncoded, Dictionary}
use Rattle.arrow_values.specs.declared.tree.UnionMode.TheVariants.{Sparse, Dense}

-- A type is a data type with all that is nested in it, or another: its notation, its form, the type ids of a union, and its parts.
mutual
  pub data TypeTree : Type 0 where
    known : Tree → TypeTree
    other : Text → Form → List ℤ → PartTrees → TypeTree

  -- a part stands as its name, type, nullability and metadata
  pub data PartTrees : Type 0 where
    no_parts : PartTrees
    part : Text → TypeTree → Bool → Metadata → PartTrees → PartTrees

-- a type that is known by its notation alone
abbrev pub leaf : Text → TypeTree
leaf text = other text Leaf [] no_parts

pub record ColumnTree : Type 0 where
  pub name : Text
  pub data_type : TypeTree
  pub nullable : Bool
  pub metadata : Metadata

abbrev pub part_trees : List ColumnTree → PartTrees
part_trees [] = no_parts
part_trees (c ∷ cs) = part c.name c.data_type c.nullable c.metadata (part_trees cs)

-- how deep a type is, above data types
abbrev mutual
  pub type_depth : TypeTree → ℕ
  type_depth (known t) = 0
  type_depth (other s f ids ps) = suc (parts_depth ps)

  pub parts_depth : PartTrees → ℕ
  parts_depth no_parts = 0
  parts_depth (part n t b m ps) = max (suc (type_depth t)) (parts_depth ps)

abbrev pub column_depth : ColumnTree → ℕ
column_depth c = type_depth c.data_type

abbrev pub columns_depth : List ColumnTree → ℕ
columns_depth cs = parts_depth (part_trees cs)

-- codes, by which two types are told apart
abbrev pub form_to : Form → ℕ × ℤ
form_to Leaf = (0, pos 0)
form_to (ListOf Small) = (1, pos 0)
form_to (ListOf Large) = (2, pos 0)
form_to (ListOf (Fixed size)) = (3, size)
form_to ListView = (4, pos 0)
form_to LargeListView = (5, pos 0)
form_to Struct = (6, pos 0)
form_to (Union Sparse) = (7, pos 0)
form_to (Union Dense) = (8, pos 0)
form_to Map = (9, pos 0)
form_to RunEndEncoded = (10, pos 0)
form_to Dictionary = (11, pos 0)

abbrev pub form_from : ℕ × ℤ → Form
form_from p = get_or (Leaf ∷ ListOf Small ∷ ListOf Large ∷ ListOf (Fixed p.1) ∷ ListView ∷ LargeListView ∷ Struct ∷ Union Sparse ∷ Union Dense ∷ Map ∷ RunEndEncoded ∷ Dictionary ∷ []) p.0 Leaf

pub form_from-to : (f : Form) → form_from (form_to f) ≡ f
form_from-to Leaf = refl
form_from-to (ListOf Small) = refl
form_from-to (ListOf Large) = refl
form_from-to (ListOf (Fixed size)) = refl
form_from-to ListView = refl
form_from-to LargeListView = refl
form_from-to Struct = refl
form_from-to (Union Sparse) = refl
form_from-to (Union Dense) = refl
form_from-to Map = refl
form_from-to RunEndEncoded = refl
form_from-to Dictionary = refl

abbrev form_code : Coded Form
form_code = code_by (ℕ × ℤ) (coded× coded_ℕ coded_ℤ) form_to form_from form_from-to

abbrev head_code : Coded (Text × (Form × List ℤ))
head_code = coded× text_code (coded× form_code (coded_list coded_ℤ))

-- the name, the nullability and the metadata of a part, whose type stands beside them
abbrev rest_code : Coded (Text × (Bool × Metadata))
rest_code = coded× text_code (coded× coded_bool (coded_list (coded× text_code text_code)))

abbrev mutual
  pub type_to : TypeTree → Gv
  type_to (known t) = gcons gnil (tree_code.code t)
  type_to (other s f ids ps) = gcons (gnum 0) (gcons (head_code.code (s, (f, ids))) (parts_to ps))

  pub parts_to : PartTrees → Gv
  parts_to no_parts = gnil
  parts_to (part n t b m ps) = gcons (gcons (type_to t) (rest_code.code (n, (b, m)))) (parts_to ps)

mutual
  pub type_inj : (t u : TypeTree) → type_to t ≡ type_to u → t ≡ u
  type_inj (known t) (known u) e = ap known (tree_code.inj t u cc)
  type_inj (other s f ids ps) (other r g ns qs) e =
      let h = head_code.inj (s, (f, ids)) (r, (g, ns)) cc in
      let p = parts_inj ps qs cc in
      λ i. other (h i).0 (h i).1.0 (h i).1.1 (p i)
  type_inj _ _ e = cc

  parts_inj : (ps qs : PartTrees) → parts_to ps ≡ parts_to qs → ps ≡ qs
  parts_inj no_parts no_parts e = refl
  parts_inj (part n t b m ps) (part o u c k qs) e =
      let h = rest_code.inj (n, (b, m)) (o, (c, k)) cc in
      let s = type_inj t u cc in
      let p = parts_inj ps qs cc in
      λ i. part (h i).0 (s i) (h i).1.0 (h i).1.1 (p i)
  parts_inj _ _ e = cc

abbrev type_code : Coded TypeTree
type_code = record { code = type_to; inj = type_inj }

abbrev pub column_code : Coded ColumnTree
column_code =
    code_by (TypeTree × (Text × (Bool × Metadata))) (coded× type_code rest_code)
    (λ c. (c.data_type, (c.name, (c.nullable, c.metadata)))) (λ p. record { name = p.1.0; data_type = p.0; nullable = p.1.1.0; metadata = p.1.1.1 }) (λ _. refl)
