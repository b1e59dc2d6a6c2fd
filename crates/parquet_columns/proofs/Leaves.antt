-- The type of a leaf, by the first of its parts that there is.
use Rattle.std.proofs.Common.{◌≡◌, ℕ, ℤ, Option, Some, None, option_map, true, false, refl}
use Rattle.arrow_values.specs.Tree.{Text, Tree, Plain, plain, null}
use Rattle.arrow_columns.specs.Types.{known, leaf}
use Rattle.parquet_footer.specs.declared.element.PhysicalType.{PhysicalType}
use Rattle.parquet_columns.specs.declared.meaning.Meaning.{Meaning}
use Rattle.parquet_columns.specs.Leaf.{clock_text, decimal_text, plain_of, fixed_type, is_null, first_type, leaf_type}

plain_first : (t : Tree) (o : Option Plain) (length : ℤ) → Some t ≡ option_map plain o → first_type None None o length ≡ known t
plain_first t None length is = absurd (cc)
plain_first t (Some p) length is = cc

plain_last : (o : Option Plain) (length : ℤ) → None ≡ option_map plain o → first_type None None o length ≡ fixed_type length
plain_last None length none = refl
plain_last (Some p) length none = absurd (cc)

module _ (physical : PhysicalType) (m : Meaning) (length : ℤ) where
  pub all_null : (digits : Option (ℕ × ℕ)) → is_null m ≡ true → leaf_type physical m length digits ≡ known (plain null)
  unfolding leaf_type
  all_null digits is = rw is refl

  module _ (some : is_null m ≡ false) where
    pub a_clock : (digits : Option (ℕ × ℕ)) (text : Text) → clock_text physical m ≡ Some text → leaf_type physical m length digits ≡ leaf text
    unfolding leaf_type
    a_clock digits text is = rw (some, is) refl

    module _ (no_clock : clock_text physical m ≡ None) where
      pub a_decimal : (digits : ℕ × ℕ) → leaf_type physical m length (Some digits) ≡ leaf (decimal_text digits.0 digits.1)
      unfolding leaf_type
      a_decimal digits = rw (some, no_clock) refl

      pub a_plain : (t : Tree) → Some t ≡ option_map plain (plain_of physical m length) → leaf_type physical m length None ≡ known t
      unfolding leaf_type
      a_plain t is = rw (some, no_clock) (plain_first t (plain_of physical m length) length is)

      pub no_plain : None ≡ option_map plain (plain_of physical m length) → leaf_type physical m length None ≡ fixed_type length
      unfolding leaf_type
      no_plain none = rw (some, no_clock) (plain_last (plain_of physical m length) length none)
