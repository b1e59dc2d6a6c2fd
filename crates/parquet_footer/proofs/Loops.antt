-- Fields and items one after the other, as loops pass them.
use Rattle.std.proofs.Common.{◌≡◌, ℕ, zero, suc, ◌+◌, ◌-◌, ◌<◌, ◌≤◌, List, length, Result, Ok, Err, true, false, refl, sym, ◌∙◌, arith, ◌==◌, if◌then◌else◌}
use Rattle.std.proofs.lemmas.Bool.{ne_eqb}
use Rattle.parquet_footer.specs.declared.fault.Fault.{Fault}
use Rattle.parquet_footer.specs.declared.fault.FooterRule.TheVariants.{End, Depth}
use Rattle.parquet_footer.specs.Fault.{◌>>=◌, broken, Returns}
use Rattle.parquet_footer.specs.Wire.{field_at}
use Rattle.parquet_footer.specs.Skip.{fields_at, items_past, plain_past, over, struct_past, pair_past, nested_past, is_plain, value_past}

pub told : {X Y : Type 0} (view : X → Y) (read : Result Y Fault) (r : Result X Fault) (e : Fault) → r ≡ Err e → read ≡ Err e → Returns view r read
told view read (Ok x) e is f = absurd (cc)
told view read (Err d) e is f = cc

pub known : {Y : Type 0} (read : Result Y Fault) (e d : Fault) → d ≡ e → read ≡ Err e → read ≡ Err d
known read e d same f = cc

-- behind i fields of count, which are the rest of all
module _ {S : Type 0} (step : S → ℕ → ℕ → List ℕ → Result (S × List ℕ) Fault) (count i last : ℕ) (state : S) (bytes : List ℕ) (all : Result (S × List ℕ) Fault) (so_far : fields_at step (count - i) last state bytes ≡ all) where
  module _ (more : i < count) where
    here : all ≡ (field_at last bytes >>= λ field. if field.1 == 0 then Ok (state, field.2) else (step state field.0 field.1 field.2 >>= λ next. fields_at step (count - (i + 1)) field.0 next.0 next.1))
    unfolding fields_at
    here =
        let next : count - i ≡ suc (count - (i + 1)) = omega arith in
        sym so_far ∙ rw next refl

    pub no_field : (e : Fault) → field_at last bytes ≡ Err e → all ≡ Err e
    no_field e is = here ∙ rw is refl

    module _ (id kind : ℕ) (value : List ℕ) (field : field_at last bytes ≡ Ok (id, kind, value)) where
      pub ended : kind ≡ 0 → all ≡ Ok (state, value)
      ended none = here ∙ rw (field, none) refl

      pub no_value : 0 < kind → (e : Fault) → step state id kind value ≡ Err e → all ≡ Err e
      no_value some e is = here ∙ rw (field, ne_eqb kind 0 (omega arith), is) refl

      pub goes_on : 0 < kind → (next : S) (rest : List ℕ) → step state id kind value ≡ Ok (next, rest) → fields_at step (count - (i + 1)) id next rest ≡ all
      goes_on some next rest is = sym (here ∙ rw (field, ne_eqb kind 0 (omega arith), is) refl)

  pub no_end : count ≤ i → all ≡ Err (broken End bytes)
  unfolding fields_at
  no_end none =
      let last : count - i ≡ 0 = omega arith in
      sym so_far ∙ rw last refl

-- behind i items of count, which are the rest of all
module _ (item : List ℕ → Result (List ℕ) Fault) (count i : ℕ) (bytes : List ℕ) (all : Result (List ℕ) Fault) (so_far : items_past item (count - i) bytes ≡ all) where
  module _ (more : i < count) where
    next : count - i ≡ suc (count - (i + 1))
    next = omega arith

    pub one_more : (rest : List ℕ) → item bytes ≡ Ok rest → items_past item (count - (i + 1)) rest ≡ all
    unfolding items_past
    one_more rest is =
        let one : items_past item (count - i) bytes ≡ items_past item (count - (i + 1)) rest = rw (next, is) refl in
        sym one ∙ so_far

    pub no_item : (e : Fault) → item bytes ≡ Err e → all ≡ Err e
    unfolding items_past
    no_item e is =
        let one : items_past item (count - i) bytes ≡ Err e = rw (next, is) refl in
        sym so_far ∙ one

  pub no_more : count ≤ i → all ≡ Ok bytes
  unfolding items_past
  no_more none =
      let last : count - i ≡ 0 = omega arith in
      sym so_far ∙ rw last refl

pub has_no_parts : (levels kind : ℕ) (bytes : List ℕ) → is_plain kind ≡ true → value_past levels kind bytes ≡ plain_past kind bytes
unfolding value_past
has_no_parts zero kind bytes e = rw e refl
has_no_parts (suc levels) kind bytes e = rw e refl

module _ (levels kind : ℕ) (bytes : List ℕ) where
  pub too_deep : levels ≡ 0 → is_plain kind ≡ false → value_past levels kind bytes ≡ Err (broken Depth bytes)
  unfolding value_past
  too_deep none e = rw (none, e) refl

  pub is_nested : (m : ℕ) → levels ≡ suc m → is_plain kind ≡ false → value_past levels kind bytes ≡ nested_past (value_past m) kind bytes
  unfolding value_past
  is_nested m more e = rw (more, e) refl

-- a struct, by its fields
module _ (value : ℕ → List ℕ → Result (List ℕ) Fault) (bytes : List ℕ) where
  pub struct_is : (rest : List ℕ) → fields_at (over value) (length bytes) 0 tt bytes ≡ Ok (tt, rest) → struct_past value bytes ≡ Ok rest
  unfolding struct_past
  struct_is rest e = rw e refl

  pub struct_fails : (e : Fault) → fields_at (over value) (length bytes) 0 tt bytes ≡ Err e → struct_past value bytes ≡ Err e
  unfolding struct_past
  struct_fails e is = rw is refl

  pub over_is : (id kind : ℕ) (rest : List ℕ) → value kind bytes ≡ Ok rest → over value tt id kind bytes ≡ Ok (tt, rest)
  over_is id kind rest e = rw e refl

  pub over_fails : (id kind : ℕ) (e : Fault) → value kind bytes ≡ Err e → over value tt id kind bytes ≡ Err e
  over_fails id kind e is = rw is refl

  pub pair_is : (key other : ℕ) (rest behind : List ℕ) → value key bytes ≡ Ok rest → value other rest ≡ Ok behind → pair_past value key other bytes ≡ Ok behind
  pair_is key other rest behind e f = rw (e, f) refl

  pub pair_fails : (key other : ℕ) (e : Fault) → value key bytes ≡ Err e → pair_past value key other bytes ≡ Err e
  pair_fails key other e is = rw is refl

  pub pair_fails_later : (key other : ℕ) (rest : List ℕ) (e : Fault) → value key bytes ≡ Ok rest → value other rest ≡ Err e → pair_past value key other bytes ≡ Err e
  pair_fails_later key other rest e first is = rw (first, is) refl
