-- What the tests of the code compute is what the specs say.
use Rattle.std.proofs.Common.{◌≡◌, List, [], ◌∷◌, ◌&&◌, refl, ap, String, Global, string_bytes, bytes_eq}
use Rattle.std.specs.Bool.{beq}
use Rattle.std.specs.Cmp.Lexicographic.{pointwise}
use Rattle.std.specs.Coded.{coded×}
use Rattle.arrow_values.specs.Tree.{FieldTree, Members}
use Rattle.arrow_values.specs.Code.{text_code, fields_to, members_to}
use Rattle.arrow_values.specs.View.{field_trees, member_trees, texts_of}
use Rattle.arrow_values.specs.Equal.{same_tree, tree_eq, field_eq, member_eq, metadata_eq, field_lists_eq, member_lists_eq, same_text, same_int, same_bool, same_list}

pub fields_same : (fs gs : List FieldTree) → field_lists_eq fs gs ≡ same_tree (fields_to (field_trees fs)) (fields_to (field_trees gs))
fields_same (f ∷ fs) (g ∷ gs) = ap (λ b. field_eq f g && b) (fields_same fs gs)
fields_same [] [] = refl
fields_same _ _ = refl

pub members_same : (ms ns : Members) → member_lists_eq ms ns ≡ same_tree (members_to (member_trees ms)) (members_to (member_trees ns))
members_same (m ∷ ms) (n ∷ ns) = ap (λ b. member_eq m n && b) (members_same ms ns)
members_same [] [] = refl
members_same _ _ = refl

pub texts_same : (es fs : List (String Global × String Global))
    → pointwise (λ e f. bytes_eq (string_bytes e.0) (string_bytes f.0) && bytes_eq (string_bytes e.1) (string_bytes f.1)) es fs ≡ metadata_eq (texts_of es) (texts_of fs)
texts_same (e ∷ es) (f ∷ fs) = rw (same_text (string_bytes e.0) (string_bytes f.0), same_text (string_bytes e.1) (string_bytes f.1), texts_same es fs) refl
texts_same [] [] = refl
texts_same _ _ = refl

pub field_same : (f g : FieldTree) → field_eq f g ≡ (tree_eq f.tree g.tree && (bytes_eq f.name g.name && (beq f.nullable g.nullable && metadata_eq f.metadata g.metadata)))
field_same f g = rw (same_text f.name g.name, same_bool f.nullable g.nullable, same_list (coded× text_code text_code) f.metadata g.metadata) refl

-- equal fields have equal parts
pub same_parts : (f g : FieldTree) → f ≡ g → (f.name ≡ g.name) × (f.tree ≡ g.tree) × (f.nullable ≡ g.nullable) × (f.metadata ≡ g.metadata)
same_parts f g e = (ap (λ h. h.name) e, ap (λ h. h.tree) e, ap (λ h. h.nullable) e, ap (λ h. h.metadata) e)

-- for `grind`
pub ruleset same_lists = (fields_same, members_same, same_int)
