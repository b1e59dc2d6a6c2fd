use Rattle.geoarrow_layout.proofs.Lemmas.{◌≡◌, refl, sym, ◌∙◌, ap, ◌&&◌, take_all, arith, w16, place_in, known_names, is_float64, length_names, adds_bit, no_bits, fields_seen_more}
use Rattle.geoarrow_layout.proofs.summary.struct_bottom.Goals as goal

pub loop-field-init : goal.loop-field-init
loop-field-init c = record { bits = no_bits (λ i. ⊥) (λ i h. h); floats = refl }

pub loop-field-preserved : goal.loop-field-preserved
loop-field-preserved c =
    let x = c.field-item.result in
    let place = c.name_place.ensures.place ∙ ap (λ n. place_in n known_names) c.name.ensures in
    fields_seen_more _ _ _ _ _ c.loop-field.field-index x c.loop-field-test.true c.field-item.is
    (adds_bit w16 _ _ (λ i. place_in x.name known_names ≡ i) (omega arith) (sym place) (λ i e. sym e ∙ sym place))
    (ap (λ b. c.loop-field.all_float64 && b) (c.is_float64-all_float64.ensures.value ∙ ap is_float64 c.data_type.ensures))
    c.loop-field.invariant

pub returns : goal.returns
returns c =
    let seen = rw (take_all _ _ c.loop-field-test.false) at c.loop-field.invariant in
    (sym (length_names c.args.fields.now), seen.bits, seen.floats)
