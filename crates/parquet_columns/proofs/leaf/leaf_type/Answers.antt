use Rattle.std.proofs.Common.{ap, sym, ◌∙◌}
use Rattle.std.proofs.lemmas.Int.{to_z-of_z}
use Rattle.arrow_columns.specs.Types.{leaf}
use Rattle.parquet_columns.specs.Leaf.{leaf_type}
use Rattle.parquet_columns.proofs.Leaves.{all_null, a_clock, a_decimal, a_plain, no_plain}
use Rattle.parquet_columns.proofs.leaf.leaf_type.Goals as goal

pub returns-then-is_null : goal.returns-then-is_null
returns-then-is_null c =
    let a = c.args in
    sym (all_null a.physical a.meaning a.length a.digits (sym c.is_null.ensures ∙ c.if-is_null.true))

pub returns-in-Some : goal.returns-in-Some
returns-in-Some c =
    let a = c.args in
    let some = sym c.is_null.ensures ∙ c.if-is_null.false in
    let is = a_clock a.physical a.meaning a.length some a.digits _ (sym (rw c.in-Some.is at c.clock_text.ensures)) in
    c.leaf.ensures ∙ ap leaf c.in_ok-text.ensures.ok ∙ sym is

pub returns-in-Some-digits : goal.returns-in-Some-digits
returns-in-Some-digits c =
    let a = c.args in
    let some = sym c.is_null.ensures ∙ c.if-is_null.false in
    let no_clock = sym (rw c.in_default.is at c.clock_text.ensures) in
    let is = a_decimal a.physical a.meaning a.length some no_clock (c.in-Some-digits.precision, c.in-Some-digits.scale) in
    c.leaf-in-Some-digits.ensures ∙ ap leaf c.in_ok-text-2.ensures ∙ sym is ∙ ap (leaf_type a.physical a.meaning a.length) (sym c.in-Some-digits.is)

pub returns-in-Some-plain_of : goal.returns-in-Some-plain_of
returns-in-Some-plain_of c =
    let a = c.args in
    let some = sym c.is_null.ensures ∙ c.if-is_null.false in
    let no_clock = sym (rw c.in_default.is at c.clock_text.ensures) in
    let plain = simp (to_z-of_z, c.ranges.length) at c.plain_of.ensures in
    let is = a_plain a.physical a.meaning a.length some no_clock _ (rw c.in-Some-plain_of.is at plain) in
    sym is ∙ ap (leaf_type a.physical a.meaning a.length) (sym c.in_default-digits.is)

pub returns-in-None : goal.returns-in-None
returns-in-None c =
    let a = c.args in
    let some = sym c.is_null.ensures ∙ c.if-is_null.false in
    let no_clock = sym (rw c.in_default.is at c.clock_text.ensures) in
    let plain = simp (to_z-of_z, c.ranges.length) at c.plain_of.ensures in
    let fixed = simp (to_z-of_z, c.ranges.length) at c.fixed_type.ensures in
    rw (c.in_default-digits.is, no_plain a.physical a.meaning a.length some no_clock (rw c.in-None.is at plain)) fixed
