use Rattle.std.proofs.Common.{length, arith}
use Rattle.parquet_footer.specs.Fields.{spots, noting}
use Rattle.parquet_footer.proofs.Loops.{told, known, no_field, ended, no_value, goes_on, no_end}
use Rattle.parquet_footer.proofs.Notes.{pair_by, step_fails, first_fails, second_fails, step_is}
use Rattle.parquet_footer.proofs.fields.pair_at.Goals as goal

pub returns-in_err-id : goal.returns-in_err-id
returns-in_err-id c =
    let l = c.fields in
    let bytes = c.args.bytes.now in
    let step = noting c.args.one c.args.other in
    told (λ x. ((spots x.0, spots x.1), x.2.now)) _ c.from_residual.result c.in_err-id.field-0.0 (grind arith)
    (pair_by c.args.one c.args.other bytes _ (no_field step (length bytes) l.i l.last (spots l.first, spots l.second) l.rest.now _ l.invariant c.fields-test.true _ c.in_err-id.ensures))

pub returns-then-kind-eq0 : goal.returns-then-kind-eq0
returns-then-kind-eq0 c =
    let l = c.fields in
    let bytes = c.args.bytes.now in
    let step = noting c.args.one c.args.other in
    let f = c.in_ok-id in
    pair_by c.args.one c.args.other bytes _ (ended step (length bytes) l.i l.last (spots l.first, spots l.second) l.rest.now _ l.invariant c.fields-test.true f.id f.kind f.value.now f.ensures c.if-kind-eq0.true)

pub returns-in_err-rest : goal.returns-in_err-rest
returns-in_err-rest c =
    let l = c.fields in
    let bytes = c.args.bytes.now in
    let step = noting c.args.one c.args.other in
    let f = c.in_ok-id in
    told (λ x. ((spots x.0, spots x.1), x.2.now)) _ c.from_residual-in_err-rest.result c.in_err-rest.field-0.0 (grind arith)
    (pair_by c.args.one c.args.other bytes _ (no_value step (length bytes) l.i l.last (spots l.first, spots l.second) l.rest.now _ l.invariant c.fields-test.true f.id f.kind f.value.now f.ensures (omega arith) _ (step_fails c.args.one c.args.other f.id f.kind f.value.now (spots l.first) (spots l.second) _ c.in_err-rest.ensures)))

pub returns-in_err-first : goal.returns-in_err-first
returns-in_err-first c =
    let l = c.fields in
    let bytes = c.args.bytes.now in
    let step = noting c.args.one c.args.other in
    let f = c.in_ok-id in
    told (λ x. ((spots x.0, spots x.1), x.2.now)) _ c.from_residual-in_err-first.result c.in_err-first.field-0.0 (grind arith)
    (pair_by c.args.one c.args.other bytes _ (no_value step (length bytes) l.i l.last (spots l.first, spots l.second) l.rest.now _ l.invariant c.fields-test.true f.id f.kind f.value.now f.ensures (omega arith) _ (first_fails c.args.one c.args.other f.id f.kind f.value.now (spots l.first) (spots l.second) _ c.in_ok-rest.ensures _ c.in_err-first.ensures)))

pub returns-in_err-second : goal.returns-in_err-second
returns-in_err-second c =
    let l = c.fields in
    let bytes = c.args.bytes.now in
    let step = noting c.args.one c.args.other in
    let f = c.in_ok-id in
    told (λ x. ((spots x.0, spots x.1), x.2.now)) _ c.from_residual-in_err-second.result c.in_err-second.field-0.0 (grind arith)
    (pair_by c.args.one c.args.other bytes _ (no_value step (length bytes) l.i l.last (spots l.first, spots l.second) l.rest.now _ l.invariant c.fields-test.true f.id f.kind f.value.now f.ensures (omega arith) _ (second_fails c.args.one c.args.other f.id f.kind f.value.now (spots l.first) (spots l.second) _ c.in_ok-rest.ensures _ _ c.in_ok-first.ensures c.in_err-second.ensures)))

pub fields-preserved : goal.fields-preserved
fields-preserved c =
    let l = c.fields in
    let bytes = c.args.bytes.now in
    let step = noting c.args.one c.args.other in
    let f = c.in_ok-id in
    goes_on step (length bytes) l.i l.last (spots l.first, spots l.second) l.rest.now _ l.invariant c.fields-test.true f.id f.kind f.value.now f.ensures (omega arith) (spots c.in_ok-first.first, spots c.in_ok-second.second) c.in_ok-rest.rest.now
    (step_is c.args.one c.args.other f.id f.kind f.value.now (spots l.first) (spots l.second) _ c.in_ok-rest.ensures _ _ c.in_ok-first.ensures c.in_ok-second.ensures)

pub returns : goal.returns
returns c =
    let l = c.fields in
    let bytes = c.args.bytes.now in
    known _ _ _ c.broken.ensures (pair_by c.args.one c.args.other bytes _ (no_end (noting c.args.one c.args.other) (length bytes) l.i l.last (spots l.first, spots l.second) l.rest.now _ l.invariant c.fields-test.false))
