use Rattle.std.proofs.Common.{◌≡◌, ℕ, ℤ, pos, negsuc, [], ◌∷◌, true, Some, option_map, int_lt, SFits, w64, OnOk, refl, sym, ap, ◌∙◌, subst, arith, rules}
use Rattle.std.proofs.lemmas.Result.{on_ok_weaker}
use Rattle.std.specs.Fmt.{signed_decimal}
use mir.Val.{to_z, of_z}
use Rattle.json.specs.Token.{number as number_token}
use Rattle.serde_json.specs.Data.{Num, unsigned, negative, number}
use Rattle.serde_json.specs.Find.{as_u64, as_i64}
use Rattle.serde_json.specs.Number.{num_of, is_valid}
use Rattle.serde_json.specs.Read.{number_of}
use Rattle.serde_json.specs.View.{number_view}
use Rattle.serde_json.specs.declared.number.N.{N}
use Rattle.serde_json.specs.declared.number.N.TheVariants.{PosInt, NegInt, Float}
use Rattle.serde_json.proofs.Numbers.{number_of-decimal, number_of-negative}
use Rattle.value_tokens.specs.Adds.{Adds, Prints}
use Rattle.value_tokens.proofs.Adding.{added}
use Rattle.value_tokens.proofs.print.print_number.Goals as goal

unsigned_seen : (x : Num) (n : ℕ) → as_u64 x ≡ Some n → unsigned n ≡ x
unsigned_seen (unsigned k) n is = cc
unsigned_seen _ n is = absurd (cc)

negative_seen : (x : N) (z : ℤ) → is_valid x ≡ true → ((n : ℕ) → as_u64 (num_of x) ≡ Some n → ⊥) → as_i64 (num_of x) ≡ Some z → (negative z ≡ num_of x) × (int_lt z (pos 0) ≡ true)
negative_seen (PosInt n) z valid none is = absurd (none n refl)
negative_seen (NegInt y) z valid none is = let same : y ≡ z = cc in (ap negative (sym same), subst (λ z. int_lt z (pos 0) ≡ true) same valid)
negative_seen (Float x) z valid none is = absurd (cc)

below_zero : (z : ℤ) → int_lt z (pos 0) ≡ true → SFits w64 z → number_of (signed_decimal z) ≡ Some (negative z)
below_zero (pos n) e fits = absurd (grind arith)
below_zero (negsuc n) e fits = number_of-negative n (grind arith)

pub returns-in-Some : goal.returns-in-Some
returns-in-Some c =
    let n = c.in-Some.n in
    let seen = unsigned_seen (number_view c.args.number.now) n (sym c.as_u64.ensures ∙ c.in-Some.is) in
    on_ok_weaker c.u64.result (λ a. subst (λ x. Prints (number x) c.args.out.now c.u64.new.self) seen
    (record { adds = a; reads_back = ap (option_map number) (number_of-decimal n (omega arith)) })) (added c.u64.result _ _ _ c.u64.ensures)

pub returns-in-Some-as_i64 : goal.returns-in-Some-as_i64
returns-in-Some-as_i64 c =
    let z = c.in-Some-as_i64.n in
    let x = c.args.number.now in
    let same : to_z w64 (of_z w64 z) ≡ z = search rules in
    let text = subst (λ z. OnOk c.i64.result (Adds (number_token (signed_decimal z) ∷ []) c.args.out.now c.i64.new.self)) same (added c.i64.result _ _ _ c.i64.ensures) in
    let seen = negative_seen x.n z x.valid (λ n e. c.in_default.not-Some n (c.as_u64.ensures ∙ e)) (sym c.as_i64.ensures ∙ c.in-Some-as_i64.is) in
    on_ok_weaker c.i64.result (λ a. subst (λ y. Prints (number y) c.args.out.now c.i64.new.self) seen.0
    (record { adds = a; reads_back = ap (option_map number) (below_zero z seen.1 (search rules)) })) text
