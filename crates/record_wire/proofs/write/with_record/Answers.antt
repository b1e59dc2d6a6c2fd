use Rattle.std.proofs.Common.{rules}
use Rattle.record_wire.specs.Record.{structure}
use Rattle.record_wire.proofs.Written.{sound_reads_back}
use Rattle.record_wire.proofs.write.with_record.Goals as goal

pub returns-clause-read : goal.returns-clause-read
returns-clause-read c =
    sound_reads_back (structure c.args.one.now) (record {
      children = search rules;
      flags = search rules;
      level = search rules;
      size = search rules;
      no_nuls = search rules;
      format = search rules;
      name = search rules;
    })
