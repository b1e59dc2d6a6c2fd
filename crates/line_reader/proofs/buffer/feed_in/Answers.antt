use Rattle.std.proofs.Common.{Some, None, subst}
use Rattle.memchr.specs.Find.{is_byte, IsFirstByte}
use Rattle.line_reader.specs.Lines.{line_feed}
use Rattle.line_reader.proofs.Held.{found_at, none_there}
use Rattle.line_reader.proofs.buffer.feed_in.Goals as goal

pub returns-in-Some : goal.returns-in-Some
returns-in-Some c =
    found_at c.args.bytes.now c.args.seen c.requires c.in-Some.at (subst (λ l. IsFirstByte (is_byte line_feed) l (Some c.in-Some.at)) c.rest_of.ensures c.in-Some.ensures)

pub returns-in-None : goal.returns-in-None
returns-in-None c = none_there c.args.bytes.now c.args.seen c.requires (subst (λ l. IsFirstByte (is_byte line_feed) l None) c.rest_of.ensures c.in-None.ensures)
