-- Columns as fields, and the one column.
use Rattle.std.proofs.Common.{◌≡◌, List, [], ◌∷◌, ◌++◌, ◌<◌, length, Some, None, refl, map, arith}
use Rattle.arrow_columns.specs.Types.{TypeTree, known, other, ColumnTree}
use Rattle.arrow_columns.specs.Column.{type_tree, column_tree}
use Rattle.arrow_columns.specs.declared.column.SchemaColumn.{SchemaColumn}
use Rattle.arrow_values.specs.Tree.{FieldTree}
use Rattle.arrow_columns.specs.Nested.{known_field, known_fields, only}

put : (c : ColumnTree) (t : TypeTree) (fs gs : List FieldTree) → known_field c t (fs ++ gs) ≡ known_field c t fs ++ gs
put c (known t) fs gs = refl
put c (other s f ids ps) fs gs = refl

-- the one item of a list
pub only_one : {A B : Type 0} (f : A → B) (xs ys : List A) (x : A) → xs ≡ ys ++ x ∷ [] → ys ≡ [] → only (map f xs) ≡ Some (f x)
only_one f xs ys x e none = rw (e, none) refl

pub only_more : {A B : Type 0} (f : A → B) (xs ys : List A) (x : A) → xs ≡ ys ++ x ∷ [] → 0 < length ys → only (map f xs) ≡ None
only_more f xs [] x e some = absurd (omega arith)
only_more f xs (y ∷ []) x e some = rw e refl
only_more f xs (y ∷ z ∷ ys) x e some = rw e refl

-- one more field
pub field_next : (xs : List SchemaColumn) (c : SchemaColumn) → known_fields (map column_tree (xs ++ c ∷ [])) ≡ known_fields (map column_tree xs) ++ known_fields (column_tree c ∷ [])
field_next [] c = refl
field_next (x ∷ xs) c = rw (field_next xs c) (put (column_tree x) (type_tree x.data_type) (known_fields (map column_tree xs)) (known_fields (column_tree c ∷ [])))

pub only_item : {A : Type 0} (xs ys : List A) (x : A) → xs ≡ ys ++ x ∷ [] → ys ≡ [] → only xs ≡ Some x
only_item xs ys x e none = rw (e, none) refl

pub only_items : {A : Type 0} (xs ys : List A) (x : A) → xs ≡ ys ++ x ∷ [] → 0 < length ys → only xs ≡ None
only_items xs [] x e some = absurd (omega arith)
only_items xs (y ∷ []) x e some = rw e refl
only_items xs (y ∷ z ∷ ys) x e some = rw e refl
