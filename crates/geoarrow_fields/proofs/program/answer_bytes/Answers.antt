use Rattle.geoarrow_fields.proofs.Outcomes.{written}
use Rattle.geoarrow_fields.proofs.program.answer_bytes.Goals as goal

pub returns : goal.returns
returns c = (
  written _ _ c.args.input.now _ _ _
      (rw (c.new-output.ensures.items, c.new-errors.ensures.items) at c.answer_all-end.ensures),
  c.exit_status-status.ensures,
)
