use Rattle.std.proofs.Common.{◌≡◌, drop}
use Rattle.std.specs.List.{list_all}
use Rattle.crs_identity.specs.Forms.{is_name_byte}
use Rattle.crs_identity.proofs.form.is_name.Given as goal

abbrev pub invariant-loop-b : goal.invariant-loop-b
invariant-loop-b l = list_all is_name_byte (drop l.b-index l.bytes) ≡ list_all is_name_byte l.bytes
