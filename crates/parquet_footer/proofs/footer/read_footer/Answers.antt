use Rattle.std.proofs.Common.{arith}
use Rattle.parquet_footer.proofs.Bounds.{fault_within}
use Rattle.parquet_footer.proofs.footer.read_footer.Goals as goal

pub returns-in-Err-Fault-clause-read : goal.returns-in-Err-Fault-clause-read
returns-in-Err-Fault-clause-read c =
    let is = rw c.in-Err-Fault.field-0-is at c.in-Err-Fault.ensures.read in
    let low = fault_within c.args.bytes.now _ is in
    (c.in-Err-Fault.field-0-0.left, is, omega (arith, low))
