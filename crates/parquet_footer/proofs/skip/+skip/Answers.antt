use Rattle.std.proofs.Common.{length, arith}
use Rattle.parquet_footer.specs.Skip.{over, pair_past, value_past}
use Rattle.parquet_footer.proofs.Loops.{told, known, no_field, ended, no_value, goes_on, no_end, one_more, no_item, no_more, struct_is, struct_fails, over_is, over_fails, pair_is, pair_fails, pair_fails_later}
use Rattle.parquet_footer.proofs.skip.+skip.Goals as goal

pub struct_past-returns-in_err-id : goal.struct_past-returns-in_err-id
struct_past-returns-in_err-id t c =
    let l = c.fields in
    let bytes = c.args.bytes.now in
    let v = value_past c.args.levels in
    told (λ x. x.now) _ c.from_residual.result c.in_err-id.field-0.0 (grind arith)
    (struct_fails v bytes _ (no_field (over v) (length bytes) l.i l.last tt l.rest.now _ l.invariant c.fields-test.true _ c.in_err-id.ensures))

pub struct_past-returns-then-kind-eq0 : goal.struct_past-returns-then-kind-eq0
struct_past-returns-then-kind-eq0 t c =
    let l = c.fields in
    let bytes = c.args.bytes.now in
    let v = value_past c.args.levels in
    let f = c.in_ok-id in
    struct_is v bytes f.value.now (ended (over v) (length bytes) l.i l.last tt l.rest.now _ l.invariant c.fields-test.true f.id f.kind f.value.now f.ensures c.if-kind-eq0.true)

pub struct_past-returns-in_err-rest : goal.struct_past-returns-in_err-rest
struct_past-returns-in_err-rest t c =
    let l = c.fields in
    let bytes = c.args.bytes.now in
    let v = value_past c.args.levels in
    let f = c.in_ok-id in
    told (λ x. x.now) _ c.from_residual-in_err-rest.result c.in_err-rest.field-0.0 (grind arith)
    (struct_fails v bytes _ (no_value (over v) (length bytes) l.i l.last tt l.rest.now _ l.invariant c.fields-test.true f.id f.kind f.value.now f.ensures (omega arith) _ (over_fails v f.value.now f.id f.kind _ c.in_err-rest.ensures)))

pub struct_past-fields-preserved : goal.struct_past-fields-preserved
struct_past-fields-preserved t c =
    let l = c.fields in
    let bytes = c.args.bytes.now in
    let v = value_past c.args.levels in
    let f = c.in_ok-id in
    goes_on (over v) (length bytes) l.i l.last tt l.rest.now _ l.invariant c.fields-test.true f.id f.kind f.value.now f.ensures (omega arith) tt _ (over_is v f.value.now f.id f.kind _ c.in_ok-rest.ensures)

pub struct_past-returns : goal.struct_past-returns
struct_past-returns t c =
    let l = c.fields in
    let bytes = c.args.bytes.now in
    let v = value_past c.args.levels in
    known _ _ _ c.broken.ensures (struct_fails v bytes _ (no_end (over v) (length bytes) l.i l.last tt l.rest.now _ l.invariant c.fields-test.false))

pub items_past-returns-in_err-rest : goal.items_past-returns-in_err-rest
items_past-returns-in_err-rest t c =
    let l = c.items in
    let item = value_past c.args.levels c.args.kind in
    told (λ x. x.now) _ c.from_residual.result c.in_err-rest.field-0.0 (grind arith) (no_item item c.args.count l.i l.rest.now _ l.invariant c.items-test.true _ c.in_err-rest.ensures)

pub items_past-items-preserved : goal.items_past-items-preserved
items_past-items-preserved t c =
    let l = c.items in
    one_more (value_past c.args.levels c.args.kind) c.args.count l.i l.rest.now _ l.invariant c.items-test.true _ c.in_ok-rest.ensures

pub items_past-returns : goal.items_past-returns
items_past-returns t c =
    let l = c.items in
    no_more (value_past c.args.levels c.args.kind) c.args.count l.i l.rest.now _ l.invariant c.items-test.false

pub pairs_past-returns-in_err-value : goal.pairs_past-returns-in_err-value
pairs_past-returns-in_err-value t c =
    let l = c.pairs in
    let v = value_past c.args.levels in
    told (λ x. x.now) _ c.from_residual.result c.in_err-value.field-0.0 (grind arith)
    (no_item (pair_past v c.args.key c.args.other) c.args.count l.i l.rest.now _ l.invariant c.pairs-test.true _ (pair_fails v l.rest.now c.args.key c.args.other _ c.in_err-value.ensures))

pub pairs_past-returns-in_err-rest : goal.pairs_past-returns-in_err-rest
pairs_past-returns-in_err-rest t c =
    let l = c.pairs in
    let v = value_past c.args.levels in
    told (λ x. x.now) _ c.from_residual-in_err-rest.result c.in_err-rest.field-0.0 (grind arith)
    (no_item (pair_past v c.args.key c.args.other) c.args.count l.i l.rest.now _ l.invariant c.pairs-test.true _ (pair_fails_later v l.rest.now c.args.key c.args.other _ _ c.in_ok-value.ensures c.in_err-rest.ensures))

pub pairs_past-pairs-preserved : goal.pairs_past-pairs-preserved
pairs_past-pairs-preserved t c =
    let l = c.pairs in
    let v = value_past c.args.levels in
    one_more (pair_past v c.args.key c.args.other) c.args.count l.i l.rest.now _ l.invariant c.pairs-test.true _ (pair_is v l.rest.now c.args.key c.args.other _ _ c.in_ok-value.ensures c.in_ok-rest.ensures)

pub pairs_past-returns : goal.pairs_past-returns
pairs_past-returns t c =
    let l = c.pairs in
    no_more (pair_past (value_past c.args.levels) c.args.key c.args.other) c.args.count l.i l.rest.now _ l.invariant c.pairs-test.false
