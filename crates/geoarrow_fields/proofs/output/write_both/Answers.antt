use Rattle.geoarrow_fields.proofs.Ways.{front_of_first, front_of_last}
use Rattle.geoarrow_fields.proofs.output.write_both.Goals as goal

pub returns-in_err-write_whole-clause-part : goal.returns-in_err-write_whole-clause-part
returns-in_err-write_whole-clause-part g c =
    front_of_first c.args.first.now c.args.last.now _ _ c.write_whole.ensures.part

pub returns-clause-part : goal.returns-clause-part
returns-clause-part g c =
    front_of_last c.args.first.now c.args.last.now _ _ _ c.in_ok-write_whole.ensures.ok
    c.write_whole-2.ensures.part
