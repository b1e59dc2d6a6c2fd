use Rattle.std.proofs.Common.{Err, refl, ◌∙◌}
use Rattle.serde_json.specs.Data.{no_members}
use Rattle.value_tokens.specs.Next.{next_members}
use Rattle.value_tokens.proofs.Turns.{after_some}
use Rattle.geoarrow_meta.proofs.Objects.{of_text, flips, refused, ends}
use Rattle.geoarrow_meta.proofs.crs_text.members_end.Goals as goal

pub returns-in-Ok : goal.returns-in-Ok
returns-in-Ok c =
    let read = after_some (next_members 125 no_members c.args.reader.now) c.skip_members.new.reader (c.in-Ok.ensures.ok no_members) in
    flips c.is_none.result c.next.result c.is_none.ensures ∙ ends c.args.reader.now c.skip_members.new.reader c.next.new.self read.0 c.next.result read.1 c.next.ensures.value

pub returns-in-Err : goal.returns-in-Err
returns-in-Err c =
    refused c.args.reader.now (of_text (Err c.in-Err.field-0) c.in-Err.field-0 refl (λ is. c.in-Err.ensures.text is no_members) c.in-Err.ensures.never_memory)
