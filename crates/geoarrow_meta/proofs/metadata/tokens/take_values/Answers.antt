use Rattle.std.proofs.Common.{Some, arith}
use Rattle.geoarrow_meta.specs.Read.{present}
use Rattle.geoarrow_meta.proofs.KeyedValues.{crs_type_taken, edges_taken}
use Rattle.geoarrow_meta.proofs.metadata.tokens.take_values.Goals as goal

pub values-preserved-then-str_eq-2 : goal.values-preserved-then-str_eq-2
values-preserved-then-str_eq-2 c =
    let read = c.in_ok-take_word-in-crs_type.ensures.ok in
    crs_type_taken c.values.invariant c.in-Some-2.key.now c.next_key.new.self (grind arith) read.1 c.in-crs_type.is (c.crs_type_of-found.ensures (present (Some read.0)) read.2)

pub values-preserved-then-str_eq-3 : goal.values-preserved-then-str_eq-3
values-preserved-then-str_eq-3 c =
    let read = c.in_ok-take_word-in-edges.ensures.ok in
    edges_taken c.values.invariant c.in-Some-2.key.now c.next_key.new.self (grind arith) read.1 c.in-edges.is (c.edges_of-found.ensures (present (Some read.0)) read.2)
