use Rattle.std.proofs.Common.{◌≡◌, inl}
use Rattle.line_reader.specs.Lines.{held, passed}
use Rattle.geoarrow_fields.proofs.Feeds.{long_past}
use Rattle.geoarrow_fields.proofs.reading.fault_of.Goals as goal

pub returns-in-LongLine : goal.returns-in-LongLine
returns-in-LongLine c = inl (long_past (passed c.args.lines.now) (held c.args.lines.now) (rw c.in-LongLine.is at c.requires.unfinished).1)
