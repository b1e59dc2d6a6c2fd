use Rattle.std.proofs.Common.{arith, ◌≡◌, ◌↔◌, ◌<◌, ◌≤◌, ℕ, Bool, true, false, Option, None, Some, inl, inr}
use Rattle.std.specs.Str.{IsUtf8}
use mir.Val.{bool_byte}
use Rattle.field_makers.specs.declared.new_column.NewColumn.{NewColumn}
use Rattle.geoarrow_fields.specs.Lines.{Bytes}
use Rattle.geoarrow_c.specs.MadeLines.{IsAsked, SaysNone}
use Rattle.geoarrow_c.proofs.made_lines.asked_of.Goals as goal

-- what is none of those that a word may stand for
none_is : {A : Type 0} {Is : A → Type 0} (r : Option A) → r ≡ None → ((a : A) → (r ≡ Some a) ↔ Is a) → (a : A) → Is a → ⊥
none_is r is exact a h = let there : r ≡ Some a = (exact a).1 h in cc

-- a number that stands for neither
too_large : (n : ℕ) (r : Option Bool) → r ≡ None → ((b : Bool) → (r ≡ Some b) ↔ (n ≡ bool_byte b)) → 1 < n
too_large n r is exact =
    let not_0 : n ≡ 0 → ⊥ = none_is {Is = λ b. n ≡ bool_byte b} r is exact false in
    let not_1 : n ≡ 1 → ⊥ = none_is {Is = λ b. n ≡ bool_byte b} r is exact true in
    omega arith

byte_small : (b : Bool) → bool_byte b ≤ 1
byte_small true = omega arith
byte_small false = omega arith

-- what says a column says something
says : {name kind : Bytes} {n : ℕ} {crs type edges : Bytes} (new : NewColumn) → IsUtf8 name → IsUtf8 crs → IsAsked name kind n crs type edges new
    → SaysNone name kind n crs type edges → ⊥
says new u v asked (inl none) = none u
says new u v asked (inr (inl none)) = none v
says new u v asked (inr (inr (inl none))) = none new.kind asked.has_kind
says {n = n} new u v asked (inr (inr (inr (inl large)))) =
    let small : bool_byte new.nullable ≤ 1 = byte_small new.nullable in
    let is : n ≡ bool_byte new.nullable = asked.is_nullable in
    omega arith
says new u v asked (inr (inr (inr (inr (inl none))))) = none new.crs_type asked.has_type
says new u v asked (inr (inr (inr (inr (inr none))))) = none new.edges asked.has_edges

both : {name kind : Bytes} {n : ℕ} {crs type edges : Bytes} {new : NewColumn} → IsUtf8 name → IsUtf8 crs → IsAsked name kind n crs type edges new
    → IsAsked name kind n crs type edges new × (SaysNone name kind n crs type edges → ⊥)
both {new = new} u v asked = (asked, says new u v asked)

pub returns-in_default-nullable_of : goal.returns-in_default-nullable_of
returns-in_default-nullable_of c =
    inr (inr (inr (inl (too_large c.args.nullable c.nullable_of.result c.in_default-nullable_of.is c.nullable_of.ensures))))

pub returns : goal.returns
returns c = both c.in-Ok.ensures.cases.1 c.in-Ok-from_utf8.ensures.cases.1 (record {
  has_name = c.in-Ok.ensures.cases.0;
  has_kind = (c.kind_of.ensures c.in-Some.kind).0 c.in-Some.is;
  is_nullable = (c.nullable_of.ensures c.in-Some-nullable_of.nullable).0 c.in-Some-nullable_of.is;
  has_crs = rw c.in-Ok-from_utf8.ensures.cases.0 at c.crs_of.ensures;
  has_type = (c.crs_type_of.ensures c.in-Some-crs_type_of.crs_type).0 c.in-Some-crs_type_of.is;
  has_edges = (c.edges_of.ensures c.in-Some-edges_of.edges).0 c.in-Some-edges_of.is;
})
