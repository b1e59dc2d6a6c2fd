use Rattle.std.proofs.Common.{rules, arith, ◌≡◌, ◌-◌, [], ◌∷◌, ◌++◌, Some, None, Err, IsTrue, option_map, option_and_then, subst₂, refl, sym, ap, ap₂, ◌∙◌}
use Rattle.field_lines.proofs.Terms.{IfOk-weaker, array, object, struct, zip, parse_map, string, no_items, item, no_members, is_type_id, texts_of, field_before, field_of_value, types_of_value, field_of_parts, fields_of_value, members_of_value, AreMemberParts, pair_read, value-object, members_over, items_over, no_value, object_too_deep, after_some}
use Rattle.std.proofs.lemmas.Int.{to_z-of_z}
use Rattle.field_lines.proofs.TokenMembers.{text_refused, member_takes, takes_key, part_other, parts_no_key, parts_no_member, only_no_key, only_no_member, only_none, two_no_key, two_no_value, two_none, parts_go_on, parts_end, of_parts, field_of_parts_in, no_types, only_starts, only_ends, types_other, types_known, only_go_on, only_spoiled, keyed_alone, first_read, second_read, two_spoiled, of_fixed_size_list, of_union, no_type_of}
use Rattle.field_lines.proofs.TokenItems.{array_read, item_takes, item_none, taken_cut, pair_before, item_turn, item_taken, taken_start, taken_go_on, taken_end, taken_spoiled, members_in-pair, zip_push, parts_push}
use Rattle.value_tokens.proofs.Beginnings.{passed, next_string, no_object, no_text, object_read}
use Rattle.field_lines.proofs.tokens.+take.Goals as goal

pub take_fixed_size_list-keys-preserved : goal.take_fixed_size_list-keys-preserved
take_fixed_size_list-keys-preserved t c = second_read (refl, refl) c.keys.invariant (rw (c.in-Some.is, c.in-size.is)) c.in_ok-size-in-size.ensures.ok c.in_ok-next-in-size.ensures.value

pub take_fixed_size_list-keys-preserved-then-str_eq : goal.take_fixed_size_list-keys-preserved-then-str_eq
take_fixed_size_list-keys-preserved-then-str_eq t c = first_read (refl, refl) c.keys.invariant (rw (c.in-Some.is, c.in-fixed_size_list.is)) c.in_ok-field-in-fixed_size_list.ensures.ok c.in_ok-next-in-fixed_size_list.ensures.value

pub take_fixed_size_list-returns-in_default-key-clause-ok : goal.take_fixed_size_list-returns-in_default-key-clause-ok
take_fixed_size_list-returns-in_default-key-clause-ok t c = let of = of_fixed_size_list {q = c.args.first.now} (search rules) in
    IfOk-weaker c.take_no_type.result _ _ (λ o h. rw h.0 (two_spoiled c.keys.invariant (ap (option_map (λ s. s.now)) c.in-Some.is) h.1
    (λ ms a b. no_type_of ms (c.in_default-key.not-fixed_size_list, c.in_default-key.not-size) of.0 a b b (λ d _ _. of.1 d)))) c.take_no_type.ensures.ok

pub take_fixed_size_list-returns-in_default-key-clause-text : goal.take_fixed_size_list-returns-in_default-key-clause-text
take_fixed_size_list-returns-in_default-key-clause-text t c refused = two_none c.keys.invariant (ap (option_map (λ s. s.now)) c.in-Some.is) (c.take_no_type.ensures.text refused)

pub take_fixed_size_list-returns-in_err-field-in-fixed_size_list-clause-text : goal.take_fixed_size_list-returns-in_err-field-in-fixed_size_list-clause-text
take_fixed_size_list-returns-in_err-field-in-fixed_size_list-clause-text t c =
    text_refused c.from_residual.ensures.1 (λ e. two_no_value c.keys.invariant (ap (option_map (λ s. s.now)) c.in-Some.is) (c.in_err-field-in-fixed_size_list.ensures.text (ap Err e)))

pub take_fixed_size_list-returns-in_err-size-in-size-clause-text : goal.take_fixed_size_list-returns-in_err-size-in-size-clause-text
take_fixed_size_list-returns-in_err-size-in-size-clause-text t c =
    text_refused c.from_residual-in_err-size-in-size.ensures.1 (λ e. two_no_value c.keys.invariant (ap (option_map (λ s. s.now)) c.in-Some.is) (c.in_err-size-in-size.ensures.text (ap Err e)))

pub take_fixed_size_list-keys-smaller-then-str_eq : goal.take_fixed_size_list-keys-smaller-then-str_eq
take_fixed_size_list-keys-smaller-then-str_eq t c = takes_key c.args.depth c.keys.reader c.take_boxed.new.reader c.next_key.new.self c.in_ok-field-in-fixed_size_list.ensures.ok c.in_ok-next-in-fixed_size_list.ensures.value

pub take_fixed_size_list-returns-in_err-next-in-fixed_size_list-clause-text : goal.take_fixed_size_list-returns-in_err-next-in-fixed_size_list-clause-text
take_fixed_size_list-returns-in_err-next-in-fixed_size_list-clause-text t c _ =
    two_no_key c.keys.invariant (ap (option_map (λ s. s.now)) c.in-Some.is) c.in_ok-field-in-fixed_size_list.ensures.ok c.in_err-next-in-fixed_size_list.ensures.value

pub take_fixed_size_list-returns-in_err-next-in-size-clause-text : goal.take_fixed_size_list-returns-in_err-next-in-size-clause-text
take_fixed_size_list-returns-in_err-next-in-size-clause-text t c _ = two_no_key c.keys.invariant (ap (option_map (λ s. s.now)) c.in-Some.is) c.in_ok-size-in-size.ensures.ok c.in_err-next-in-size.ensures.value

pub take_union-keys-preserved : goal.take_union-keys-preserved
take_union-keys-preserved t c = (second_read (refl, refl) c.keys.invariant.0 (rw (c.in-Some.is, c.in-union.is)) c.in_ok-members-in-union.ensures.ok c.in_ok-next-in-union.ensures.value, c.in_ok-members-in-union.ensures.parts)

pub take_union-keys-preserved-then-str_eq : goal.take_union-keys-preserved-then-str_eq
take_union-keys-preserved-then-str_eq t c = (first_read (refl, refl) c.keys.invariant.0 (rw (c.in-Some.is, c.in-mode.is)) c.in_ok-mode-in-mode.ensures.ok c.in_ok-next-in-mode.ensures.value, c.keys.invariant.1)

pub take_union-returns-in_default-key-clause-ok : goal.take_union-returns-in_default-key-clause-ok
take_union-returns-in_default-key-clause-ok t c = let of = of_union {q = c.args.first.now} (search rules) in
    IfOk-weaker c.take_no_type.result _ _ (λ o h. rw h.0 (two_spoiled c.keys.invariant.0 (ap (option_map (λ s. s.now)) c.in-Some.is) h.1
    (λ ms a b. no_type_of ms of.0 (c.in_default-key.not-mode, c.in_default-key.not-union) b a b (λ d _ _. of.1 d)))) c.take_no_type.ensures.ok

pub take_union-returns-in_default-key-clause-text : goal.take_union-returns-in_default-key-clause-text
take_union-returns-in_default-key-clause-text t c refused = two_none c.keys.invariant.0 (ap (option_map (λ s. s.now)) c.in-Some.is) (c.take_no_type.ensures.text refused)

pub take_union-returns-in_err-mode-in-mode-clause-text : goal.take_union-returns-in_err-mode-in-mode-clause-text
take_union-returns-in_err-mode-in-mode-clause-text t c = text_refused c.from_residual.ensures.1 (λ e. two_no_value c.keys.invariant.0 (ap (option_map (λ s. s.now)) c.in-Some.is) (c.in_err-mode-in-mode.ensures.text (ap Err e)))

pub take_union-returns-in_err-members-in-union-clause-text : goal.take_union-returns-in_err-members-in-union-clause-text
take_union-returns-in_err-members-in-union-clause-text t c =
    text_refused c.from_residual-in_err-members-in-union.ensures.1 (λ e. two_no_value c.keys.invariant.0 (ap (option_map (λ s. s.now)) c.in-Some.is) (c.in_err-members-in-union.ensures.text (ap Err e)))

pub take_union-keys-smaller : goal.take_union-keys-smaller
take_union-keys-smaller t c = takes_key c.args.depth c.keys.reader c.take_members.new.reader c.next_key-in-union.new.self c.in_ok-members-in-union.ensures.ok c.in_ok-next-in-union.ensures.value

pub take_union-returns-in_err-next-in-mode-clause-text : goal.take_union-returns-in_err-next-in-mode-clause-text
take_union-returns-in_err-next-in-mode-clause-text t c _ = two_no_key c.keys.invariant.0 (ap (option_map (λ s. s.now)) c.in-Some.is) c.in_ok-mode-in-mode.ensures.ok c.in_err-next-in-mode.ensures.value

pub take_union-returns-in_err-next-in-union-clause-text : goal.take_union-returns-in_err-next-in-union-clause-text
take_union-returns-in_err-next-in-union-clause-text t c _ = two_no_key c.keys.invariant.0 (ap (option_map (λ s. s.now)) c.in-Some.is) c.in_ok-members-in-union.ensures.ok c.in_err-next-in-union.ensures.value

pub take_fields-items-preserved : goal.take_fields-items-preserved
take_fields-items-preserved t c = taken_go_on c.items.invariant field_before field_of_value (λ x xs. refl) (λ d ds. refl) (rw c.in-Some-2.is at c.in_ok-field.ensures.ok) c.in_ok-push-in-Some-2.ensures.items (grind arith)

pub take_fields-items-smaller : goal.take_fields-items-smaller
take_fields-items-smaller t c = item_takes c.in-Some.below c.items.reader c.take_field.new.reader c.in_ok-field.ensures.ok (grind arith)

pub take_fields-returns-clause-ok : goal.take_fields-returns-clause-ok
take_fields-returns-clause-ok t c = array_read fields_of_value _ _ _ _ _ _ (rw c.in-Some.is at c.in_ok-below.ensures.ok).0 (taken_end c.items.invariant refl (grind arith))

pub take_fields-returns-in-None-clause-ok : goal.take_fields-returns-in-None-clause-ok
take_fields-returns-in-None-clause-ok t c =
    array_read fields_of_value _ _ _ _ _ _ (rw c.in-Some.is at c.in_ok-below.ensures.ok).0 (taken_spoiled c.items.invariant field_before field_of_value (λ x xs. refl) (λ d ds. refl) (rw c.in-None.is at c.in_ok-field.ensures.ok) c.in_ok-skip_items-in-None.ensures.ok (grind arith))

pub take_members-pairs-init : goal.take_members-pairs-init
take_members-pairs-init t c = (taken_start (ap₂ zip c.new-ids.ensures.items c.new-fields.ensures.items), rw (c.new-ids.ensures.items, c.new-fields.ensures.items) (refl, refl))

pub take_members-pairs-preserved : goal.take_members-pairs-preserved
take_members-pairs-preserved t c = let l = c.pairs in
    let ids : c.push-in-Some-2.new.self.items ≡ l.ids.items ++ (c.in-Some-2.id ∷ []) = search (rules, to_z-of_z) in
    let fields = c.in_ok-push-in-Some-2.ensures.items in
    let good : IsTrue (is_type_id c.in-Some-2.id) = rw c.in-Some-2.is at c.in_ok-id.ensures.id in (
      taken_go_on l.invariant.0 pair_before pair_read (λ x xs. refl) members_in-pair (rw c.in-Some-2.is at c.in_ok-id.ensures.ok) (ap₂ zip ids fields ∙ zip_push l.ids.items l.fields.items _ _ l.invariant.1.0) (grind arith),
      subst₂ AreMemberParts (sym ids) (sym fields) (parts_push _ _ _ _ l.invariant.1 good),
    )

pub take_members-pairs-smaller : goal.take_members-pairs-smaller
take_members-pairs-smaller t c = item_takes c.in-Some.below c.pairs.reader c.take_pair.new.reader c.in_ok-id.ensures.ok (grind arith)

pub take_members-returns-clause-ok : goal.take_members-returns-clause-ok
take_members-returns-clause-ok t c = array_read members_of_value _ _ _ _ _ _ (rw c.in-Some.is at c.in_ok-below.ensures.ok).0 (taken_end c.pairs.invariant.0 refl (grind arith))

pub take_members-returns-in-None-clause-ok : goal.take_members-returns-in-None-clause-ok
take_members-returns-in-None-clause-ok t c =
    array_read members_of_value _ _ _ _ _ _ (rw c.in-Some.is at c.in_ok-below.ensures.ok).0 (taken_spoiled c.pairs.invariant.0 pair_before pair_read (λ x xs. refl) members_in-pair (rw c.in-None.is at c.in_ok-id.ensures.ok) c.in_ok-skip_items-in-None.ensures.ok (grind arith))

pub take_boxed-returns-in_ok-new-in-Some-clause-ok : goal.take_boxed-returns-in_ok-new-in-Some-clause-ok
take_boxed-returns-in_ok-new-in-Some-clause-ok t c = rw (c.in_ok-new-in-Some.ensures.ok, ← c.in-Some.is) c.in_ok-field.ensures.ok

pub take_boxed-returns-in-None-clause-ok : goal.take_boxed-returns-in-None-clause-ok
take_boxed-returns-in-None-clause-ok t c = rw c.in-None.is at c.in_ok-field.ensures.ok

pub take_keyed-returns-in-Some-clause-ok : goal.take_keyed-returns-in-Some-clause-ok
take_keyed-returns-in-Some-clause-ok t c = let read = rw c.in-Some.is at c.in_ok-fields-in-struct.ensures.ok in
    rw (c.in-struct.is, c.from.ensures) (read.0, read.1, ap (option_map struct) read.2)

pub take_keyed-returns-in-None-clause-ok : goal.take_keyed-returns-in-None-clause-ok
take_keyed-returns-in-None-clause-ok t c = let read = rw c.in-None.is at c.in_ok-fields-in-struct.ensures.ok in
    rw c.in-struct.is (read.0, read.1, ap (option_map struct) read.2)

pub take_only-only-preserved : goal.take_only-only-preserved
take_only-only-preserved t c = only_go_on c.only.invariant (rw c.in-Some.is at c.in_ok-key.ensures.value) c.differ.ensures c.if-differ.false c.in_ok-data_type-2.ensures.ok

pub take_only-only-smaller : goal.take_only-only-smaller
take_only-only-smaller t c = member_takes c.args.depth c.only.reader c.next_key.new.self c.take_keyed-in-Some.new.reader _ _ (rw c.in-Some.is at c.in_ok-key.ensures.value) c.in_ok-data_type-2.ensures.ok.1

pub take_only-returns-in_err-key-clause-text : goal.take_only-returns-in_err-key-clause-text
take_only-returns-in_err-key-clause-text t c _ = only_no_key c.only.invariant c.in_err-key.ensures.value

pub take_only-returns-then-differ-clause-text : goal.take_only-returns-then-differ-clause-text
take_only-returns-then-differ-clause-text t c refused = only_none c.only.invariant (rw c.in-Some.is at c.in_ok-key.ensures.value) (c.take_no_type.ensures.text refused)

pub take_only-returns-in_err-data_type-2-clause-text : goal.take_only-returns-in_err-data_type-2-clause-text
take_only-returns-in_err-data_type-2-clause-text t c = text_refused c.from_residual-in_err-data_type-2.ensures.1
    (λ e. only_no_member c.only.invariant (rw c.in-Some.is at c.in_ok-key.ensures.value) (c.in_err-data_type-2.ensures.text (ap Err e)))

pub take_parts-parts-init : goal.take_parts-parts-init
take_parts-parts-init t c = let none = ap (λ es. Some (texts_of es)) c.new.ensures.empty in
    record { found = no_members; decides = refl; at_name = refl; at_nullable = refl; at_types = refl; at_metadata = none }

pub take_parts-parts-preserved : goal.take_parts-parts-preserved
take_parts-parts-preserved t c = let d = after_some _ _ c.in_ok-skip_value-in_default-key.ensures.ok in
    let n = c.in_default-key in
    parts_go_on c.parts.invariant (rw c.in-Some.is at c.in_ok-key.ensures.value) d.1 (part_other _ n.not-name) (part_other _ n.not-nullable) (part_other _ n.not-type) (part_other _ n.not-metadata)

pub take_parts-parts-preserved-then-str_eq : goal.take_parts-parts-preserved-then-str_eq
take_parts-parts-preserved-then-str_eq t c = let read = c.in_ok-name-in-name.ensures.ok in
    parts_go_on c.parts.invariant (rw (c.in-Some.is, c.in-name.is) at c.in_ok-key.ensures.value) read.1 read.2 refl refl refl

pub take_parts-parts-preserved-then-str_eq-2 : goal.take_parts-parts-preserved-then-str_eq-2
take_parts-parts-preserved-then-str_eq-2 t c = let read = c.in_ok-nullable-in-nullable.ensures.ok in
    parts_go_on c.parts.invariant (rw (c.in-Some.is, c.in-nullable.is) at c.in_ok-key.ensures.value) read.1 refl read.2 refl refl

pub take_parts-parts-preserved-then-str_eq-3 : goal.take_parts-parts-preserved-then-str_eq-3
take_parts-parts-preserved-then-str_eq-3 t c = let read = c.in_ok-types-in-type.ensures.ok in
    parts_go_on c.parts.invariant (rw (c.in-Some.is, c.in-type.is) at c.in_ok-key.ensures.value) read.1 refl refl read.2 refl

pub take_parts-parts-preserved-then-str_eq-4 : goal.take_parts-parts-preserved-then-str_eq-4
take_parts-parts-preserved-then-str_eq-4 t c = let read = c.in_ok-metadata-in-metadata.ensures.ok in
    parts_go_on c.parts.invariant (rw (c.in-Some.is, c.in-metadata.is) at c.in_ok-key.ensures.value) read.1 refl refl refl read.2

pub take_parts-parts-smaller-then-str_eq-3 : goal.take_parts-parts-smaller-then-str_eq-3
take_parts-parts-smaller-then-str_eq-3 t c = member_takes c.args.depth c.parts.reader c.next_key.new.self c.take_type.new.reader _ _ (rw c.in-Some.is at c.in_ok-key.ensures.value) c.in_ok-types-in-type.ensures.ok.1

pub take_parts-returns-in_err-key-clause-text : goal.take_parts-returns-in_err-key-clause-text
take_parts-returns-in_err-key-clause-text t c _ = parts_no_key c.parts.invariant c.in_err-key.ensures.value

pub take_parts-returns-in_err-name-in-name-clause-text : goal.take_parts-returns-in_err-name-in-name-clause-text
take_parts-returns-in_err-name-in-name-clause-text t c = text_refused c.from_residual-in_err-name-in-name.ensures.1
    (λ e. parts_no_member c.parts.invariant (rw c.in-Some.is at c.in_ok-key.ensures.value) (c.in_err-name-in-name.ensures.text (ap Err e)))

pub take_parts-returns-in_err-nullable-in-nullable-clause-text : goal.take_parts-returns-in_err-nullable-in-nullable-clause-text
take_parts-returns-in_err-nullable-in-nullable-clause-text t c = text_refused c.from_residual-in_err-nullable-in-nullable.ensures.1
    (λ e. parts_no_member c.parts.invariant (rw c.in-Some.is at c.in_ok-key.ensures.value) (c.in_err-nullable-in-nullable.ensures.text (ap Err e)))

pub take_parts-returns-in_err-types-in-type-clause-text : goal.take_parts-returns-in_err-types-in-type-clause-text
take_parts-returns-in_err-types-in-type-clause-text t c = text_refused c.from_residual-in_err-types-in-type.ensures.1
    (λ e. parts_no_member c.parts.invariant (rw c.in-Some.is at c.in_ok-key.ensures.value) (c.in_err-types-in-type.ensures.text (ap Err e)))

pub take_parts-returns-in_err-metadata-in-metadata-clause-text : goal.take_parts-returns-in_err-metadata-in-metadata-clause-text
take_parts-returns-in_err-metadata-in-metadata-clause-text t c = text_refused c.from_residual-in_err-metadata-in-metadata.ensures.1
    (λ e. parts_no_member c.parts.invariant (rw c.in-Some.is at c.in_ok-key.ensures.value) (c.in_err-metadata-in-metadata.ensures.text (ap Err e)))

pub take_parts-returns-in_err-skip_value-in_default-key-clause-text : goal.take_parts-returns-in_err-skip_value-in_default-key-clause-text
take_parts-returns-in_err-skip_value-in_default-key-clause-text t c = text_refused c.from_residual-in_err-skip_value-in_default-key.ensures.1
    (λ e. parts_no_member c.parts.invariant (rw c.in-Some.is at c.in_ok-key.ensures.value) (c.in_err-skip_value-in_default-key.ensures.text (ap Err e)))

pub take_pair-returns-then-not-take_end_array-clause-ok : goal.take_pair-returns-then-not-take_end_array-clause-ok
take_pair-returns-then-not-take_end_array-clause-ok t c = let one = item_taken c.in-Some.below c.open_array.new.reader c.in_ok-id.ensures.ok (rw c.if-take_end_array.false at c.take_end_array.ensures) in
    let two = item_taken c.in-Some.below c.take_id.new.reader c.in_ok-field.ensures.ok (rw c.if-take_end_array-2.false at c.take_end_array-2.ensures) in
    let d = after_some _ _ c.in_ok-skip_value.ensures.ok in
    let three = item_taken {f = λ d. d} c.in-Some.below c.take_field.new.reader (d.0, d.1, refl) (grind arith) in
    let ds = after_some _ _ c.in_ok-skip_items.ensures.ok in
    array_read pair_read _ _ _ _ _ _ (rw c.in-Some.is at c.in_ok-below.ensures.ok).0
    (item one.0 (item two.0 (item three.0 ds.0)), one.1 ∙ ap (parse_map (item one.0)) (two.1 ∙ ap (parse_map (item two.0)) (three.1 ∙ ap (parse_map (item three.0)) ds.1)), refl)

pub take_pair-returns-in_err-skip_value-clause-text : goal.take_pair-returns-in_err-skip_value-clause-text
take_pair-returns-in_err-skip_value-clause-text t c = let one = item_taken c.in-Some.below c.open_array.new.reader c.in_ok-id.ensures.ok (rw c.if-take_end_array.false at c.take_end_array.ensures) in
    let two = item_taken c.in-Some.below c.take_id.new.reader c.in_ok-field.ensures.ok (rw c.if-take_end_array-2.false at c.take_end_array-2.ensures) in
    text_refused c.from_residual-in_err-skip_value.ensures.1 (λ e. (rw c.in-Some.is at c.in_ok-below.ensures.ok).0
    ∙ ap (parse_map array) (one.1 ∙ ap (parse_map (item one.0)) (two.1 ∙ ap (parse_map (item two.0)) (item_none _ _ (c.in_err-skip_value.ensures.text (ap Err e)) (grind arith)))))

pub take_pair-returns-in_err-skip_items-clause-text : goal.take_pair-returns-in_err-skip_items-clause-text
take_pair-returns-in_err-skip_items-clause-text t c = let one = item_taken c.in-Some.below c.open_array.new.reader c.in_ok-id.ensures.ok (rw c.if-take_end_array.false at c.take_end_array.ensures) in
    let two = item_taken c.in-Some.below c.take_id.new.reader c.in_ok-field.ensures.ok (rw c.if-take_end_array-2.false at c.take_end_array-2.ensures) in
    let d = after_some _ _ c.in_ok-skip_value.ensures.ok in
    let three = item_taken {f = λ d. d} c.in-Some.below c.take_field.new.reader (d.0, d.1, refl) (grind arith) in
    text_refused c.from_residual-in_err-skip_items.ensures.1 (λ e. (rw c.in-Some.is at c.in_ok-below.ensures.ok).0
    ∙ ap (parse_map array) (one.1 ∙ ap (parse_map (item one.0)) (two.1 ∙ ap (parse_map (item two.0)) (three.1 ∙ ap (parse_map (item three.0)) (c.in_err-skip_items.ensures.text (ap Err e))))))

pub take_pair-returns-then-take_end_array-clause-ok : goal.take_pair-returns-then-take_end_array-clause-ok
take_pair-returns-then-take_end_array-clause-ok t c = array_read pair_read _ _ _ _ _ _ (rw c.in-Some.is at c.in_ok-below.ensures.ok).0 (no_items, items_over _ _ _ (rw c.if-take_end_array.true at c.take_end_array.ensures), refl)

pub take_pair-returns-then-take_end_array-2-clause-ok : goal.take_pair-returns-then-take_end_array-2-clause-ok
take_pair-returns-then-take_end_array-2-clause-ok t c = let one = item_taken c.in-Some.below c.open_array.new.reader c.in_ok-id.ensures.ok (rw c.if-take_end_array.false at c.take_end_array.ensures) in
    array_read pair_read _ _ _ _ _ _ (rw c.in-Some.is at c.in_ok-below.ensures.ok).0 (item one.0 no_items, one.1 ∙ ap (parse_map (item one.0)) (items_over _ _ _ (rw c.if-take_end_array-2.true at c.take_end_array-2.ensures)), refl)

pub take_pair-returns-clause-ok : goal.take_pair-returns-clause-ok
take_pair-returns-clause-ok t c = let id = c.in_ok-id.ensures.ok in
    let field = c.in_ok-field.ensures.ok in
    array_read pair_read _ _ _ _ _ _ (rw c.in-Some.is at c.in_ok-below.ensures.ok).0
    (item id.0 (item field.0 no_items), grind (arith, item_turn), c.pair_of.ensures.pair ∙ ap₂ (λ i f. option_and_then (λ id. option_map (λ g. (id, g)) f) i) id.2 field.2)

pub take_pair-returns-in_err-id-clause-text : goal.take_pair-returns-in_err-id-clause-text
take_pair-returns-in_err-id-clause-text t c = text_refused c.from_residual-in_err-id.ensures.1
    (λ e. (rw c.in-Some.is at c.in_ok-below.ensures.ok).0 ∙ ap (parse_map array) (item_none _ _ (c.in_err-id.ensures.text (ap Err e)) (rw c.if-take_end_array.false at c.take_end_array.ensures)))

pub take_pair-returns-in_err-field-clause-text : goal.take_pair-returns-in_err-field-clause-text
take_pair-returns-in_err-field-clause-text t c = let one = item_taken c.in-Some.below c.open_array.new.reader c.in_ok-id.ensures.ok (rw c.if-take_end_array.false at c.take_end_array.ensures) in
    text_refused c.from_residual-in_err-field.ensures.1 (λ e. (rw c.in-Some.is at c.in_ok-below.ensures.ok).0
    ∙ ap (parse_map array) (one.1 ∙ ap (parse_map (item one.0)) (item_none _ _ (c.in_err-field.ensures.text (ap Err e)) (rw c.if-take_end_array-2.false at c.take_end_array-2.ensures))))

pub take_fields-returns-in_err-field-clause-text : goal.take_fields-returns-in_err-field-clause-text
take_fields-returns-in_err-field-clause-text t c = text_refused c.from_residual-in_err-field.ensures.1
    (λ e. (rw c.in-Some.is at c.in_ok-below.ensures.ok).0 ∙ ap (parse_map array) (c.items.invariant.refused (item_none _ _ (c.in_err-field.ensures.text (ap Err e)) (grind arith))))

pub take_fields-returns-in_err-skip_items-in-None-clause-text : goal.take_fields-returns-in_err-skip_items-in-None-clause-text
take_fields-returns-in_err-skip_items-in-None-clause-text t c = text_refused c.from_residual-in_err-skip_items-in-None.ensures.1
    (λ e. (rw c.in-Some.is at c.in_ok-below.ensures.ok).0 ∙ ap (parse_map array) (taken_cut c.items.invariant c.in_ok-field.ensures.ok (c.in_err-skip_items-in-None.ensures.text (ap Err e)) (grind arith)))

pub take_members-returns-in_err-id-clause-text : goal.take_members-returns-in_err-id-clause-text
take_members-returns-in_err-id-clause-text t c = text_refused c.from_residual-in_err-id.ensures.1
    (λ e. (rw c.in-Some.is at c.in_ok-below.ensures.ok).0 ∙ ap (parse_map array) (c.pairs.invariant.0.refused (item_none _ _ (c.in_err-id.ensures.text (ap Err e)) (grind arith))))

pub take_members-returns-in_err-skip_items-in-None-clause-text : goal.take_members-returns-in_err-skip_items-in-None-clause-text
take_members-returns-in_err-skip_items-in-None-clause-text t c = text_refused c.from_residual-in_err-skip_items-in-None.ensures.1
    (λ e. (rw c.in-Some.is at c.in_ok-below.ensures.ok).0 ∙ ap (parse_map array) (taken_cut c.pairs.invariant.0 c.in_ok-id.ensures.ok (c.in_err-skip_items-in-None.ensures.text (ap Err e)) (grind arith)))

pub take_type-returns-in_err-token-clause-text : goal.take_type-returns-in_err-token-clause-text
take_type-returns-in_err-token-clause-text t c = grind (arith, no_value)

pub take_type-returns-in-BeginObject-clause-text : goal.take_type-returns-in-BeginObject-clause-text
take_type-returns-in-BeginObject-clause-text t c = grind (arith, object_too_deep)

pub take_parts-returns-clause-ok : goal.take_parts-returns-clause-ok
take_parts-returns-clause-ok t c = parts_end c.parts.invariant (grind arith)

pub take_type-returns-in-String-clause-ok : goal.take_type-returns-in-String-clause-ok
take_type-returns-in-String-clause-ok t c = (string c.in-String.word.now, grind (arith, next_string), ap (λ t. (t, None)) c.plain_named.ensures)

pub take_type-returns-in-BeginObject-2-clause-ok : goal.take_type-returns-in-BeginObject-2-clause-ok
take_type-returns-in-BeginObject-2-clause-ok t c = IfOk-weaker _ _ _ (λ o. object_read types_of_value _ (c.args.depth - 1) _ c.next.new.self c.take_types.new.reader _ (grind (arith, value-object))) c.take_types.ensures.ok

pub take_type-returns-in_ok-skip_rest-in_default-clause-ok : goal.take_type-returns-in_ok-skip_rest-in_default-clause-ok
take_type-returns-in_ok-skip_rest-in_default-clause-ok t c = let token = c.in_ok-token.token in
    let (d, is, begins) = passed c.args.depth token c.args.reader.now c.next.new.self c.skip_rest.new.reader (grind arith) c.in_ok-skip_rest-in_default.ensures.ok in
    (d, is, no_types d (no_object token d begins c.in_default.not-BeginObject) (no_text token d begins c.in_default.not-String))

pub take_type-returns-in-BeginObject-2-clause-text : goal.take_type-returns-in-BeginObject-2-clause-text
take_type-returns-in-BeginObject-2-clause-text t c = grind (arith, value-object)

pub take_only-only-init : goal.take_only-only-init
take_only-only-init t c = only_starts c.in_ok-data_type.ensures.ok

pub take_only-returns-then-differ-clause-ok : goal.take_only-returns-then-differ-clause-ok
take_only-returns-then-differ-clause-ok t c = IfOk-weaker c.take_no_type.result _ _
    (λ o h. rw h.0 (only_spoiled c.only.invariant (keyed_alone (search rules)) (rw c.in-Some.is at c.in_ok-key.ensures.value) c.differ.ensures c.if-differ.true h.1)) c.take_no_type.ensures.ok

pub take_members_of_field-returns-clause-ok : goal.take_members_of_field-returns-clause-ok
take_members_of_field-returns-clause-ok t c = of_parts field_of_parts (λ ms. field_of_value (object ms)) c.args.depth _ field_of_parts_in c.in_ok-parts.ensures.ok c.in_ok-field_of.ensures

pub take_only-returns-clause-ok : goal.take_only-returns-clause-ok
take_only-returns-clause-ok t c = (_, only_ends c.only.invariant (grind arith), c.only.invariant.answers)

pub take_types-returns-in_default-clause-ok : goal.take_types-returns-in_default-clause-ok
take_types-returns-in_default-clause-ok t c = (no_members, members_over c.args.depth no_members c.args.reader.now c.next_key.new.self (grind arith), refl)

pub take_types-returns-in_ok-take_notation-in-other-clause-ok : goal.take_types-returns-in_ok-take_notation-in-other-clause-ok
take_types-returns-in_ok-take_notation-in-other-clause-ok t c = types_other c.args.depth _ (rw (c.in-Some.is, c.in-other.is) at c.in_ok-key.ensures.value) c.in_ok-take_notation-in-other.ensures.ok

pub take_types-returns-in_ok-take_keys-in_default-key-clause-ok : goal.take_types-returns-in_ok-take_keys-in_default-key-clause-ok
take_types-returns-in_ok-take_keys-in_default-key-clause-ok t c =
    types_known c.args.depth _ (rw c.in-Some.is at c.in_ok-key.ensures.value) c.in_default-key.not-other c.in_ok-take_keys-in_default-key.ensures.ok
