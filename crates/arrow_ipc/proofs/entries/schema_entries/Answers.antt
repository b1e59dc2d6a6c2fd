use Rattle.std.proofs.Common.{◌≡◌, ℕ, ◌*◌, ◌-◌, length, Ok, ap, arith}
use Rattle.arrow_ipc.specs.Schema.{head_at}
use Rattle.arrow_ipc.specs.Entries.{entries_tree, schema_entries}
use Rattle.arrow_ipc.specs.declared.entries.SchemaEntries.{SchemaEntries}
use Rattle.arrow_ipc.proofs.entries.schema_entries.Goals as goal

pub returns : goal.returns
unfolding schema_entries
returns c =
    let led : c.args.place ≡ Ok c.in_ok-place.field-0 = grind arith in
    let headed : head_at c.args.bytes.now c.in_ok-place.field-0 ≡ Ok c.in_ok-head.head = grind arith in
    let low = c.in_ok-columns_entries.ensures.0 in
    let e : SchemaEntries = record { columns = c.in_ok-columns_entries.field-0; schema = c.in_ok-entries_at.field-0 } in
    (8 * length c.args.bytes.now - c.entries_at.new.budget, omega (arith, low, c.in_ok-entries_at.ensures.0), rw (led, headed, c.in_ok-columns_entries.ensures.1, c.in_ok-entries_at.ensures.1) (ap (λ (n : ℕ). Ok (entries_tree e, n)) (omega (arith, low, c.in_ok-entries_at.ensures.0))))
