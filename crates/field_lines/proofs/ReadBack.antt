-- The line of a field is read back as that field, and a field that a line denotes has its texts and its metadata as a value holds them.
use Rattle.std.proofs.Common.{◌≡◌, ◌≤◌, [], ◌∷◌, Bool, true, cond, Option, Some, None, IfSome, option_and_then, option_map, codes, String, Global, string_bytes, string_cmp, is_lt, Less, refl, ap, ◌∙◌, subst, arith}
use Rattle.field_lines.proofs.Terms.{AllByRecursion, keys_of, is_utf8, and_from, IsUtf8-string_bytes, is_utf8-from_IsUtf8, IfSome_then, Data, object, Members, no_members, member, depth, get_member, as_str, read, of_json, max_depth, compact_text, outline, Text, Metadata, Tree, FieldTree, texts_of, comes_first, is_held, members_are_held, held_parts, field_from, metadata_of_value, texts_in, type_in, field_of_value, texts_value, value_of_field, line_of_field, field_of_line, HasLineForm}
use Rattle.std.specs.List.Sorted.{IsStrictlySortedBy}
use Rattle.field_lines.proofs.Prints.{Texts}
use Rattle.field_lines.proofs.Lean.{chained, texts_say}
use Rattle.field_lines.proofs.TokenMembers.{get_member-at}
use Rattle.field_lines.proofs.Round.{value_is, texts_whole}
use Rattle.field_lines.proofs.Held.{read_held, members_back, held_read_back}
use Rattle.field_lines.proofs.Compact.{compact_utf8}

-- ---- the line is read back

pub line_back : (f : FieldTree) → HasLineForm f.tree → is_held (value_of_field f) ≡ true → depth (value_of_field f) ≤ max_depth → field_of_line (line_of_field f) ≡ Some f
line_back f form held shallow = let v = value_of_field f in
    let is = value_is f in
    ap (λ b. option_and_then field_of_value (cond b (read (compact_text v)) None)) (compact_utf8 v held) ∙ ap (option_and_then field_of_value) (held_read_back v held is.1 shallow) ∙ is.2 form

-- ---- texts in the order of their keys are read back

before_all : (k : String Global) (es : Texts) → AllByRecursion (λ l. string_cmp k l ≡ Less) (keys_of es) → comes_first (string_bytes k) (texts_value (texts_of es)) ≡ true
before_all k [] h = refl
before_all k (e ∷ es) h = ap is_lt h.0

texts_ordered : (texts : Texts) → IsStrictlySortedBy string_cmp (keys_of texts) → members_are_held (texts_value (texts_of texts)) ≡ true
unfolding IsStrictlySortedBy
texts_ordered [] h = refl
texts_ordered (e ∷ es) h = let utf8 = λ (s : String Global). is_utf8-from_IsUtf8 (string_bytes s) (IsUtf8-string_bytes s) in
    and_from _ _ (before_all e.0 es h.0) (and_from _ _ (utf8 e.0) (and_from _ _ (utf8 e.1) (texts_ordered es h.1)))

pub texts_read_back : (texts : Texts) → IsStrictlySortedBy string_cmp (keys_of texts) → of_json (outline (object (texts_value (texts_of texts)))) ≡ Some (object (texts_value (texts_of texts)))
texts_read_back texts h = ap (option_map object) (members_back (texts_value (texts_of texts)) (texts_ordered texts h) (texts_whole (texts_of texts))).0

-- ---- what a line denotes is held

member_held : (k : Text) (ms : Members) → members_are_held ms ≡ true → IfSome (get_member k ms) (λ d. is_held d ≡ true)
member_held k no_members h = tt
member_held k (member l e ms) h = let p = held_parts l e ms h in
    let at = get_member-at k l e ms in
    let rest = member_held k ms p.3 in
    grind arith

text_held : (d : Data) → is_held d ≡ true → IfSome (as_str d) (λ s. is_utf8 s ≡ true)
text_held d h = grind arith

abbrev HoldsTexts : Metadata → Type 0
HoldsTexts m = members_are_held (texts_value m) ≡ true

texts_held : (o : Option Data) → IfSome o (λ d. is_held d ≡ true) → IfSome (metadata_of_value o) HoldsTexts
texts_held None h = refl
texts_held (Some (object ms)) h = IfSome_then (texts_in ms) (texts_say ms) (λ m is. subst (λ l. members_are_held l ≡ true) is h)
texts_held (Some _) h = tt

abbrev IsHeldField : FieldTree → Type 0
IsHeldField f = (is_utf8 f.name ≡ true) × HoldsTexts f.metadata

from_held : (n : Option Text) (b : Option Bool) (t : Option Tree) (m : Option Metadata) → IfSome n (λ s. is_utf8 s ≡ true) → IfSome m HoldsTexts → IfSome (field_from n b t m) IsHeldField
from_held n b t m name metadata = grind arith

field_held : (d : Data) → is_held d ≡ true → IfSome (field_of_value d) IsHeldField
field_held (object ms) h = from_held _ _ (type_in ms) _ (chained _ as_str (get_member (codes "name") ms) (member_held (codes "name") ms h) text_held)
    (texts_held (get_member (codes "metadata") ms) (member_held (codes "metadata") ms h))
field_held _ h = tt

pub line_held : (line : Text) (f : FieldTree) → field_of_line line ≡ Some f → (is_utf8 f.name ≡ true) × (members_are_held (texts_value f.metadata) ≡ true)
line_held line f is = grind (arith, read_held, field_held)
