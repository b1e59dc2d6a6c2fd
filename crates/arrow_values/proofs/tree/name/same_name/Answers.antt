use Rattle.std.proofs.Common.{◌≡◌, ap, sym, ◌∙◌, rules}
use denote.Enum.Bare.{same_true}
use Rattle.arrow_values.specs.contracts.tree.fixed_name.FixedName.{the_type}
use Rattle.std.specs.Cmp.Lexicographic.{bytes_decides}
use Rattle.arrow_values.specs.Name.{fixed_text, name_bytes}
use Rattle.arrow_values.proofs.tree.name.same_name.Goals as goal

pub returns-then-eq : goal.returns-then-eq
returns-then-eq c =
    let one : c.in-Fixed-Fixed.x ≡ c.in-Fixed-Fixed.y = same_true the_type (search rules) _ _ (sym c.if-eq.ensures) in
    let text : name_bytes c.args.a.now ≡ name_bytes c.args.b.now = ap name_bytes c.in-Fixed-Fixed.is-0 ∙ ap fixed_text one ∙ sym (ap name_bytes c.in-Fixed-Fixed.is-1) in
    sym ((bytes_decides (name_bytes c.args.a.now) (name_bytes c.args.b.now)).1 text)
