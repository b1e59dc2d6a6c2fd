use Rattle.std.proofs.Common.{◌≡◌, ℕ, ◌*◌, ◌-◌, length, Ok, ap, arith}
use Rattle.arrow_ipc.specs.Schema.{schema_tree, head_at, schema_at}
use Rattle.arrow_ipc.specs.declared.schema.Schema.{Schema}
use Rattle.arrow_ipc.proofs.schema.read_flatbuffer.Goals as goal

pub returns : goal.returns
unfolding schema_at
returns c =
    let led : c.args.place ≡ Ok c.in_ok-place.field-0 = grind arith in
    let headed : head_at c.args.bytes.now c.in_ok-place.field-0 ≡ Ok c.in_ok-head.head = grind arith in
    let low = c.in_ok-read_columns.ensures.0 in
    let s : Schema = record { columns = c.in_ok-read_columns.field-0; metadata = c.in_ok-read_texts.field-0; endianness = c.in_ok-head.head.endianness } in
    (8 * length c.args.bytes.now - c.read_texts.new.budget, omega (arith, low, c.in_ok-read_texts.ensures.0), rw (led, headed, c.in_ok-read_columns.ensures.1, c.in_ok-read_texts.ensures.1) (ap (λ (n : ℕ). Ok (schema_tree s, n)) (omega (arith, low, c.in_ok-read_texts.ensures.0))))
