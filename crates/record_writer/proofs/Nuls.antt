-- Format strings have no NUL.
use Rattle.std.proofs.Common.{◌≡◌, ℕ, suc, ◌<◌, ◌^◌, ◌==◌, ℤ, pos, negsuc, Bool, true, false, not}
use Rattle.std.proofs.Common.{◌&&◌, List, [], ◌∷◌, ◌++◌, nat_lt, refl, arith, lt_of_lt_of_le, lit≤}
use Rattle.std.specs.Prelude.{codes}
use Rattle.std.specs.Fmt.{decimal}
use Rattle.std.specs.Option.{unwrap_or}
use Rattle.std.proofs.Common.{Option, Some, None, option_and_then, cond, inl, inr}
use Rattle.std.proofs.lemmas.Bool.{cases_Bool, ne_eqb, ltb-true, and_parts}
use Rattle.std.proofs.lemmas.List.Folds.{list_any-append}
use Rattle.arrow_values.specs.Tree.{Text, Plain, null, boolean, int8, int16, int32, int64, uint8}
use Rattle.arrow_values.specs.Tree.{uint16, uint32, uint64, float16, float32, float64, date32}
use Rattle.arrow_values.specs.Tree.{date64, binary, large_binary, binary_view, utf8, large_utf8}
use Rattle.arrow_values.specs.Tree.{utf8_view, Tree, plain, list, large_list, fixed_size_list}
use Rattle.arrow_values.specs.Tree.{struct, union}
use Rattle.arrow_values.specs.Union.{has, ids_of}
use Rattle.arrow_values.specs.View.{member_list}
use Rattle.arrow_values.specs.declared.tree.UnionMode.{UnionMode}
use Rattle.arrow_values.specs.declared.tree.UnionMode.TheVariants.{Sparse, Dense}
use Rattle.arrow_columns.specs.Types.{TypeTree, known, other}
use Rattle.format_strings.specs.Numbers.{are_ids, more_ids, ids_text}
use Rattle.format_strings.specs.Formats.{format_of, with_size, with_ids, union_front}
use Rattle.format_strings.specs.Notations.{notation_in}
use Rattle.format_strings.proofs.Parsed.{HasNone}
use Rattle.format_strings.proofs.Written.{no_such}
use Rattle.record_wire.specs.Record.{has_nul}
use Rattle.record_writer.specs.Formats.{said_of, said_with, without_nul, noted_format, is_leaf}
use Rattle.record_writer.specs.Formats.{format_in}

none_any : (bs : List ℕ) → HasNone 0 bs → has_nul bs ≡ false
none_any [] h = refl
none_any (b ∷ bs) h =
    let first : (b == 0) ≡ false = ne_eqb b 0 (h 0 (omega arith)) in
    rw first (none_any bs (λ i lt. h (suc i) (omega (arith, lt))))

both_none : (a b : Text) → has_nul a ≡ false → has_nul b ≡ false → has_nul (a ++ b) ≡ false
both_none a b x y = rw (list_any-append (λ (c : ℕ). c == 0) a b, x, y) refl

digits_none : (n : ℕ) → n < 2 ^ 31 → has_nul (decimal n) ≡ false
digits_none n small =
    none_any (decimal n) (no_such 0 n (lt_of_lt_of_le small (lit≤ tt)) (omega arith))

size_by : (n : ℕ) (b : Bool) → nat_lt n (2 ^ 31) ≡ b
    → has_nul (unwrap_or (with_size (codes "+w:") (pos n)) []) ≡ false
size_by n true e =
    rw e (both_none (codes "+w:") (decimal n) refl (digits_none n (ltb-true n (2 ^ 31) e)))
size_by n false e = rw e refl

size_none : (s : ℤ) → has_nul (unwrap_or (with_size (codes "+w:") s) []) ≡ false
size_none (pos n) = size_by n (nat_lt n (2 ^ 31)) refl
size_none (negsuc n) = refl

abbrev is_new : ℕ → List ℤ → Bool
is_new n before = nat_lt n 128 && not (has (pos n) before)

more_none : (before is : List ℤ) → are_ids before is ≡ true → has_nul (more_ids is) ≡ false
more_none before [] good = refl
more_none before (negsuc n ∷ is) good = absurd (cc)
more_none before (pos n ∷ is) good =
    let new = and_parts (is_new n before) (are_ids (before ++ pos n ∷ []) is) good in
    let low = and_parts (nat_lt n 128) (not (has (pos n) before)) new.0 in
    let small : n < 128 = ltb-true n 128 low.0 in
    both_none (decimal n) (more_ids is) (digits_none n (lt_of_lt_of_le small (lit≤ tt)))
    (more_none (before ++ pos n ∷ []) is new.1)

ids_none : (is : List ℤ) → are_ids [] is ≡ true → has_nul (ids_text is) ≡ false
ids_none [] good = refl
ids_none (i ∷ is) good = more_none [] (i ∷ is) good

front_none : (mode : UnionMode) → has_nul (union_front mode) ≡ false
front_none Dense = refl
front_none Sparse = refl

union_by : (mode : UnionMode) (is : List ℤ) (b : Bool) → are_ids [] is ≡ b
    → has_nul (unwrap_or (with_ids is (union_front mode)) []) ≡ false
union_by mode is true e =
    rw e (both_none (union_front mode) (ids_text is) (front_none mode) (ids_none is e))
union_by mode is false e = rw e refl

plain_none : (p : Plain) → has_nul (unwrap_or (format_of (said_of (plain p))) []) ≡ false
plain_none null = refl
plain_none boolean = refl
plain_none int8 = refl
plain_none int16 = refl
plain_none int32 = refl
plain_none int64 = refl
plain_none uint8 = refl
plain_none uint16 = refl
plain_none uint32 = refl
plain_none uint64 = refl
plain_none float16 = refl
plain_none float32 = refl
plain_none float64 = refl
plain_none date32 = refl
plain_none date64 = refl
plain_none binary = refl
plain_none large_binary = refl
plain_none binary_view = refl
plain_none utf8 = refl
plain_none large_utf8 = refl
plain_none utf8_view = refl

tree_none : (t : Tree) → has_nul (unwrap_or (format_of (said_of t)) []) ≡ false
tree_none (plain p) = plain_none p
tree_none (list n t b m) = refl
tree_none (large_list n t b m) = refl
tree_none (fixed_size_list n t b m s) = size_none s
tree_none (struct fs) = refl
tree_none (union ms mode) =
    let is = ids_of (member_list ms) in union_by mode is (are_ids [] is) refl

kept_none : (o : Option Text) → has_nul (unwrap_or (without_nul o) []) ≡ false
kept_none None = refl
kept_none (Some text) =
    elim (cases_Bool (has_nul text)) [ inl one ↦ rw one refl | inr none ↦ rw none none ]

leaf_none : (s : Text) (b : Bool)
    → has_nul (unwrap_or (cond b (noted_format s) None) []) ≡ false
leaf_none s true = kept_none (option_and_then (λ p. format_of (said_with p)) (notation_in s))
leaf_none s false = refl

pub format_none : (t : TypeTree) → has_nul (unwrap_or (format_in t) []) ≡ false
format_none (known t) = tree_none t
format_none (other s f ids ps) = leaf_none s (is_leaf f ids ps)
