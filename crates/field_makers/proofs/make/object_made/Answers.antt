use Rattle.std.proofs.Common.{◌≡◌, IfOk, string_bytes, subst}
use Rattle.field_makers.proofs.Written.{crs_is, object_written}
use Rattle.field_makers.proofs.make.object_made.Goals as goal

pub metadata_text-requires : goal.metadata_text-requires
metadata_text-requires c = crs_is c.args.new.now.crs c.requires.0

pub returns : goal.returns
returns c = subst (λ s. IfOk c.metadata_text.result (λ text. string_bytes text ≡ s)) (object_written c.args.new.now c.requires.0) c.metadata_text.ensures.text
