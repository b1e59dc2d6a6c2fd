use Rattle.arrow_values.specs.View.{texts_of}
use Rattle.record_writer.proofs.Entries.{Written}
use Rattle.record_writer.proofs.texts.metadata_of.Given as goal

abbrev pub invariant-entries : goal.invariant-entries
invariant-entries l =
    Written l.bytes.items (texts_of l.key-iterator) (texts_of l.initial.key-iterator)
