use Rattle.std.proofs.Common.{◌≡◌, pos, true, false, eqb, length, Some, None, to_z, w8, lit<}
use Rattle.std.proofs.Common.{le_of_eq, sym, arith}
use Rattle.std.proofs.lemmas.Int.{ints}
use Rattle.std.proofs.lemmas.Iterator.Consumers.{YieldsList-turn, YieldsList-end}
use Rattle.std.proofs.lemmas.Iterator.Splits.{YieldsList-from_str_split}
use Rattle.std.proofs.lemmas.List.{length_push}
use Rattle.arrow_values.specs.Union.{has}
use Rattle.format_strings.specs.Numbers.{number_in}
use Rattle.format_strings.proofs.Parsed.{id_lost, id_twice, id_more, id_end}
use Rattle.format_strings.proofs.numbers.ids_in.Goals as goal

pub returns-in_default : goal.returns-in_default
returns-in_default c =
    let t = YieldsList-turn (YieldsList-from_str_split 44 c.args.text.now (lit< tt) (cc) (cc) (cc))
    c.ids.yielded _ c.ids.yielded_by _ _ c.in-Some.part c.in-Some.is c.next.ensures.steps in
    let some : eqb (length c.args.text.now) 0 ≡ false = cc in
    let none : number_in 128 c.in-Some.part.now ≡ None = cc in
    id_lost c.args.text.now c.ids.ids.items (length c.ids.yielded) some c.ids.invariant.rest
    c.in-Some.part.now t none

pub returns-then-has : goal.returns-then-has
returns-then-has c =
    let t = YieldsList-turn (YieldsList-from_str_split 44 c.args.text.now (lit< tt) (cc) (cc) (cc))
    c.ids.yielded _ c.ids.yielded_by _ _ c.in-Some.part c.in-Some.is c.next.ensures.steps in
    let some : eqb (length c.args.text.now) 0 ≡ false = cc in
    let one : number_in 128 c.in-Some.part.now ≡ Some c.in-Some-number_in.id = cc in
    let old : has (pos c.in-Some-number_in.id) c.ids.ids.items ≡ true = cc in
    id_twice c.args.text.now c.ids.ids.items (length c.ids.yielded) some c.ids.invariant.rest
    c.in-Some.part.now c.in-Some-number_in.id t one old

pub ids-preserved : goal.ids-preserved
ids-preserved c =
    let t = YieldsList-turn (YieldsList-from_str_split 44 c.args.text.now (lit< tt) (cc) (cc) (cc))
    c.ids.yielded _ c.ids.yielded_by _ _ c.in-Some.part c.in-Some.is c.next.ensures.steps in
    let some : eqb (length c.args.text.now) 0 ≡ false = cc in
    let one : number_in 128 c.in-Some.part.now ≡ Some c.in-Some-number_in.id = cc in
    let new : has (pos c.in-Some-number_in.id) c.ids.ids.items ≡ false = cc in
    let small : to_z w8 c.in-Some-number_in.id ≡ pos c.in-Some-number_in.id =
    omega (arith, ints, c.in-Some-number_in.ensures.below) in
    let more = id_more c.args.text.now c.ids.ids.items (length c.ids.yielded) some
    c.ids.invariant.rest c.in-Some.part.now c.in-Some-number_in.id t one new in
    record {
      can = tt;
      finite = tt;
      rest =
          rw (c.in_ok-push.ensures.items, length_push c.ids.yielded c.in-Some.part, small) more;
    }

pub returns : goal.returns
returns c =
    let t = YieldsList-end (YieldsList-from_str_split 44 c.args.text.now (lit< tt) (cc) (cc) (cc))
    c.ids.yielded _ c.ids.yielded_by _ _ c.in-None.is c.next.ensures.steps in
    let some : eqb (length c.args.text.now) 0 ≡ false = cc in
    id_end c.args.text.now c.ids.ids.items (length c.ids.yielded) some c.ids.invariant.rest
    (le_of_eq (sym t.1))
