-- When two values are equal: their codes are.
use Rattle.std.specs.Prelude.{◌≡◌, ◌==◌, ◌&&◌, ℤ, Bool, true, false, List}
use Rattle.std.specs.Bool.{Decides, beq}
use Rattle.std.specs.Cmp.{booleans_Decides, signed_Decides}
use Rattle.std.specs.Cmp.Lexicographic.{pointwise, pointwise_decides, bytes_decides}
use Rattle.std.specs.Coded.{Coded, coded_bool, coded_ℤ, coded_list, coded×}
use Rattle.std.specs.Ordering.{int_eq}
use Rattle.std.specs.Str.{bytes_eq}
use Rattle.std.proofs.Common.{refl, ap, ap₂}
use Rattle.std.proofs.lemmas.Bool.Decides.{Decides-eqb, Decides-and, Decides-like, same_from_decides}
use base.Stored.{Gv, gnil, gnum, gcons}
use Rattle.arrow_values.specs.Tree.{Text, Metadata, Tree, FieldTree, Members}
use Rattle.arrow_values.specs.Code.{text_code, tree_code, field_code}

-- whether both trees of numbers are the same
abbrev pub same_tree : Gv → Gv → Bool
same_tree gnil gnil = true
same_tree (gnum m) (gnum n) = m == n
same_tree (gcons a b) (gcons c d) = same_tree a c && same_tree b d
same_tree _ _ = false

same_tree-Decides : (a b : Gv) → Decides (same_tree a b) (a ≡ b)
same_tree-Decides gnil gnil = (λ h. refl, λ p. refl)
same_tree-Decides (gnum m) (gnum n) = Decides-like _ (λ p. ap gnum p) (λ p. cc) (Decides-eqb m n)
same_tree-Decides (gcons a b) (gcons c d) =
    Decides-like _ (λ p. ap₂ gcons p.0 p.1) (λ p. (cc, cc)) (Decides-and _ _ (same_tree-Decides a c) (same_tree-Decides b d))
same_tree-Decides _ _ = (λ h. cc, λ p. cc)

-- a value of any kind that has codes is the same where its code is
abbrev pub code_eq : {A : Type 0} → Coded A → A → A → Bool
code_eq c x y = same_tree (c.code x) (c.code y)

pub code_decides : {A : Type 0} (c : Coded A) (x y : A) → Decides (code_eq c x y) (x ≡ y)
code_decides c x y = Decides-like _ (c.inj x y) (λ p. ap c.code p) (same_tree-Decides _ _)

abbrev pub tree_eq : Tree → Tree → Bool
tree_eq = code_eq tree_code

pub tree_decides : (t u : Tree) → Decides (tree_eq t u) (t ≡ u)
tree_decides = code_decides tree_code

abbrev pub field_eq : FieldTree → FieldTree → Bool
field_eq = code_eq field_code

pub field_decides : (f g : FieldTree) → Decides (field_eq f g) (f ≡ g)
field_decides = code_decides field_code

abbrev pub member_eq : ℤ × FieldTree → ℤ × FieldTree → Bool
member_eq = code_eq (coded× coded_ℤ field_code)

abbrev pub metadata_eq : Metadata → Metadata → Bool
metadata_eq = pointwise (code_eq (coded× text_code text_code))

abbrev pub field_lists_eq : List FieldTree → List FieldTree → Bool
field_lists_eq = pointwise field_eq

pub field_lists_decide : (fs gs : List FieldTree) → Decides (field_lists_eq fs gs) (fs ≡ gs)
field_lists_decide = pointwise_decides field_decides

abbrev pub member_lists_eq : Members → Members → Bool
member_lists_eq = pointwise member_eq

pub member_lists_decide : (ms ns : Members) → Decides (member_lists_eq ms ns) (ms ≡ ns)
member_lists_decide = pointwise_decides (code_decides (coded× coded_ℤ field_code))

-- the tests of codes answer as the code does that compares the values
pub same_text : (s t : Text) → code_eq text_code s t ≡ bytes_eq s t
same_text s t = same_from_decides _ _ (code_decides text_code s t) (bytes_decides s t)

pub same_int : (y z : ℤ) → code_eq coded_ℤ y z ≡ int_eq y z
same_int y z = same_from_decides _ _ (code_decides coded_ℤ y z) (signed_Decides y z)

pub same_bool : (b c : Bool) → code_eq coded_bool b c ≡ beq b c
same_bool b c = same_from_decides _ _ (code_decides coded_bool b c) (booleans_Decides b c)

pub same_list : {A : Type 0} (c : Coded A) (xs ys : List A) → code_eq (coded_list c) xs ys ≡ pointwise (code_eq c) xs ys
same_list c xs ys = same_from_decides _ _ (code_decides (coded_list c) xs ys) (pointwise_decides (code_decides c) xs ys)

-- for `grind`
pub ruleset codes = (same_text, same_int, same_bool)
