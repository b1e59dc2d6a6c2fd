-- What groups stand for, by how many elements are below them.
use Rattle.std.proofs.Common.{◌≡◌, ◌≢◌, ◌||◌, ℕ, Bool, true, false, String, Global, List, [], ◌∷◌, ◌++◌, length, get_or, map, codes, Result, Ok, Err, IfOk, refl, sym, ap, ◌∙◌, subst, arith}
use Rattle.std.proofs.lemmas.Bool.{false≢true}
use Rattle.std.proofs.lemmas.List.{append_cancel_right, map_push, length-map}
use Rattle.std.proofs.lemmas.Slice.Eq.{bytes_eq-Decides}
use Rattle.std.specs.Str.{bytes_eq}
use Rattle.std.specs.Str.Lossy.{utf8_lossy}
use Rattle.arrow_values.specs.Tree.{Text, Metadata}
use Rattle.arrow_values.specs.View.{texts_of}
use Rattle.arrow_columns.specs.Column.{column_tree}
use Rattle.arrow_columns.specs.Types.{TypeTree, ColumnTree}
use Rattle.arrow_columns.specs.Nested.{list_type}
use Rattle.arrow_columns.specs.declared.column.SchemaColumn.{SchemaColumn}
use Rattle.arrow_columns.specs.declared.nested.ListForm.TheVariants.{Small}
use Rattle.parquet_footer.specs.declared.element.Repetition.{Repetition}
use Rattle.parquet_footer.specs.declared.element.Repetition.TheVariants.{Required, Optional, Repeated, Unknown}
use Rattle.parquet_columns.specs.declared.fault.SchemaRule.TheVariants.{List as ListRule, Map as MapRule}
use Rattle.parquet_columns.specs.declared.nodes.Node.{Node}
use Rattle.parquet_columns.specs.Nodes.{NodeTree, typed, wrapper, group, node_tree, shape_type, is_optional, is_repeated, plain_column, column_by, column_of, one_shape, group_shape, is_item_name, item_by, list_of, list_shape, is_group, map_type, map_of, map_shape}

abbrev pub with_parts : Text → Bool → TypeTree → Metadata → ColumnTree
with_parts name nullable t metadata = record { name = name; data_type = t; nullable = nullable; metadata = metadata }

-- one more column
pub column_next : (xs : List Node) (x : Node) → map column_of (map node_tree (xs ++ x ∷ [])) ≡ map column_of (map node_tree xs) ++ column_of (node_tree x) ∷ []
column_next xs x = rw (map_push node_tree xs x) (map_push column_of (map node_tree xs) (node_tree x))

-- the one item of a list
pub one_item : (xs : List Node) (x : Node) → length xs ≡ 1 → x ≡ get_or xs 0 x → xs ≡ x ∷ []
one_item [] x one is = absurd (omega (arith, one))
one_item (y ∷ []) x one is = ap (λ (z : Node). z ∷ []) (let same : y ≡ x = cc (is) in same)
one_item (y ∷ z ∷ zs) x one is = absurd (omega (arith, one))

module _ (xs : List Node) where
  module _ (x : Node) (alone : xs ≡ x ∷ []) where
    pub one_group : group_shape (map node_tree xs) ≡ one_shape (node_tree x).repetition (column_of (node_tree x))
    one_group = rw alone refl

    pub one_list : (at : ℕ) (list : Text) → list_shape at list (map node_tree xs) ≡ list_of at list (node_tree x)
    one_list at list = rw alone refl

    pub one_map : (at : ℕ) → map_shape at (map node_tree xs) ≡ map_of at (node_tree x)
    one_map at = rw alone refl

several_group : (ns : List NodeTree) → length ns ≢ 1 → group_shape ns ≡ group (map column_of ns)
several_group [] not = refl
several_group (n ∷ []) not = absurd (not refl)
several_group (n ∷ m ∷ ns) not = refl

several_list : (at : ℕ) (list : Text) (ns : List NodeTree) → length ns ≢ 1 → list_shape at list ns ≡ Err (record { rule = ListRule; at = at })
several_list at list [] not = refl
several_list at list (n ∷ []) not = absurd (not refl)
several_list at list (n ∷ m ∷ ns) not = refl

several_map : (at : ℕ) (ns : List NodeTree) → length ns ≢ 1 → map_shape at ns ≡ Err (record { rule = MapRule; at = at })
several_map at [] not = refl
several_map at (n ∷ []) not = absurd (not refl)
several_map at (n ∷ m ∷ ns) not = refl

module _ (xs same : List Node) (are : same ≡ xs) (not : length same ≢ 1) where
  count : length (map node_tree xs) ≢ 1
  count = λ one. not (ap length are ∙ (sym (length-map xs node_tree) ∙ one))

  pub other_group : group_shape (map node_tree xs) ≡ group (map column_of (map node_tree same))
  other_group = several_group (map node_tree xs) count ∙ ap (λ ys. group (map column_of (map node_tree ys))) (sym are)

  pub no_list : (at : ℕ) (list : Text) → list_shape at list (map node_tree xs) ≡ Err (record { rule = ListRule; at = at })
  no_list at list = several_list at list (map node_tree xs) count

  pub no_map : (at : ℕ) → map_shape at (map node_tree xs) ≡ Err (record { rule = MapRule; at = at })
  no_map at = several_map at (map node_tree xs) count

-- ---- columns and shapes by what was made

pub made_plain : (name text : Text) (nullable : Bool) (t : TypeTree) (entries : List (String Global × String Global)) → text ≡ utf8_lossy name → entries ≡ []
    → with_parts text nullable t (texts_of entries) ≡ plain_column name nullable t
made_plain name text nullable t entries same none = rw (same, none) refl

same_tests : (a b : Bool) → (a ≡ true → b ≡ true) → (b ≡ true → a ≡ true) → a ≡ b
same_tests true b f g = sym (f refl)
same_tests false true f g = g refl
same_tests false false f g = refl

-- a name is that of the item, if the list's name is what stands before the ending
module _ (list name : Text) (other : bytes_eq name (codes "array") ≡ false) where
  by_ending : bytes_eq name (list ++ codes "_tuple") ≡ is_item_name list name
  by_ending = sym (ap (λ b. b || bytes_eq name (list ++ codes "_tuple")) other)

  pub named_by : (front : Text) → name ≡ front ++ codes "_tuple" → bytes_eq front list ≡ is_item_name list name
  named_by front is =
      let one = bytes_eq-Decides front list in
      let whole = bytes_eq-Decides name (list ++ codes "_tuple") in
      same_tests _ _ (λ e. whole.1 (is ∙ ap (λ xs. xs ++ codes "_tuple") (one.0 e))) (λ e. one.1 (append_cancel_right front list (codes "_tuple") (sym is ∙ whole.0 e))) ∙ by_ending

  pub named_otherwise : ((front : Text) → name ≢ front ++ codes "_tuple") → false ≡ is_item_name list name
  named_otherwise never = same_tests _ _ (λ e. absurd (false≢true e)) (λ e. absurd (never list ((bytes_eq-Decides name (list ++ codes "_tuple")).0 e))) ∙ by_ending

pub kept_item : (list name : Text) (c : ColumnTree) → is_item_name list name ≡ false → c ≡ item_by list name (wrapper c)
kept_item list name c is = rw is refl

not_optional : (r : Repetition) → is_repeated r ≡ true → is_optional r ≡ false
not_optional Required is = absurd (false≢true is)
not_optional Optional is = absurd (false≢true is)
not_optional Repeated is = refl
not_optional (Unknown n) is = refl

module _ (name : Text) (r : Repetition) (t : TypeTree) (c : ColumnTree) (nullable : Bool) (optional : nullable ≡ is_optional r) (is : c ≡ plain_column name nullable t) where
  pub single_by : is_repeated r ≡ false → c ≡ column_by name r t
  single_by none =
      let by : column_by name r t ≡ plain_column name (is_optional r) t = rw none refl in
      is ∙ ap (λ b. plain_column name b t) optional ∙ sym by

  pub repeated_by : {E : Type 0} (list : TypeTree) (made : Result SchemaColumn E) → is_repeated r ≡ true → list ≡ list_type Small c → IfOk made (λ m. column_tree m ≡ plain_column name false list)
      → IfOk made (λ m. column_tree m ≡ column_by name r t)
  repeated_by list made repeated list_is told =
      let by : column_by name r t ≡ plain_column name false (list_type Small (plain_column name false t)) = rw repeated refl in
      let item : c ≡ plain_column name false t = is ∙ ap (λ b. plain_column name b t) (optional ∙ not_optional r repeated) in
      let e : plain_column name false list ≡ column_by name r t = ap (plain_column name false) (list_is ∙ ap (list_type Small) item) ∙ sym by in
      subst (λ x. IfOk made (λ m. column_tree m ≡ x)) e told

module _ (r : Repetition) (c d : ColumnTree) where
  pub lone_shape : is_repeated r ≡ false → c ≡ d → wrapper c ≡ one_shape r d
  lone_shape none same = rw (same, none) refl

  pub repeated_shape : (cs : List ColumnTree) → is_repeated r ≡ true → c ≡ d → cs ≡ c ∷ [] → group cs ≡ one_shape r d
  repeated_shape cs is same are = rw (are, same, is) refl

module _ (at : ℕ) (list : Text) (n : NodeTree) where
  pub not_repeated : is_repeated n.repetition ≡ false → list_of at list n ≡ Err (record { rule = ListRule; at = at })
  not_repeated none = rw none refl

  pub list_is : (item : ColumnTree) (t : TypeTree) → is_repeated n.repetition ≡ true → item ≡ item_by list n.name n.shape → t ≡ list_type Small item → list_of at list n ≡ Ok (typed t)
  list_is item t is item_is t_is = rw (is, t_is, item_is) refl

pub map_is : (at : ℕ) (n : NodeTree) (entries t : TypeTree) → is_repeated n.repetition ≡ true → is_group n.shape ≡ true → entries ≡ shape_type n.shape → t ≡ map_type n.name entries
    → map_of at n ≡ Ok (typed t)
map_is at n entries t is grouped entries_is t_is = rw (is, grouped, t_is, entries_is) refl

pub column_more : (xs : List Node) (x : Node) (cs ds : List SchemaColumn) (c : SchemaColumn) → map column_tree cs ≡ map column_of (map node_tree xs) → ds ≡ cs ++ c ∷ [] → column_tree c ≡ column_of (node_tree x)
    → map column_tree ds ≡ map column_of (map node_tree (xs ++ x ∷ []))
column_more xs x cs ds c so_far is same =
    ap (map column_tree) is ∙ map_push column_tree cs c ∙ ap (λ ts. ts ++ column_tree c ∷ []) so_far ∙ ap (λ t. map column_of (map node_tree xs) ++ t ∷ []) same ∙ sym (column_next xs x)
