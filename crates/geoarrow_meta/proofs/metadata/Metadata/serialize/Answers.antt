use Rattle.std.proofs.Common.{if◌then◌else◌, None, Some, option_map, sym, ap, ◌∙◌, subst}
use Rattle.serde_json.specs.Read.{max_depth}
use Rattle.serde_json.specs.Written.{compact_text}
use Rattle.value_tokens.proofs.Printed.{printed, reads_back}
use Rattle.geoarrow_meta.specs.Read.{DenotesMetadata}
use Rattle.geoarrow_meta.specs.Written.{meta_value, normal, written, IsReadBack, NestsWithin}
use Rattle.geoarrow_meta.proofs.Stands.{denotes_normal, nests_within}
use Rattle.geoarrow_meta.proofs.metadata.Metadata.serialize.Goals as goal

pub returns : goal.returns
returns c =
    let m = c.args.self.now in
    let d = written m.crs.value m.crs.crs_type m.edges in
    let is = ap (λ bare. if bare then None else Some d) (sym c.if-is_bare.false ∙ c.is_bare.ensures.bare) in
    let text = ap Some (printed d (c.new-out.ensures.before ∙ c.in_ok-with_capacity.ensures.items) c.new-out.ensures.tokens c.in_ok-print_object.ensures c.text_of.ensures.text) ∙ ap (option_map compact_text) is in
    let back = subst (λ o. NestsWithin max_depth o → IsReadBack o) is (reads_back d c.new-out.ensures.tokens c.in_ok-print_object.ensures c.text_of.ensures.reads_back) in
    let stands = λ (back : IsReadBack (meta_value m)).
    subst (λ o. DenotesMetadata o (normal m)) (sym text) (denotes_normal m c.is_bare.ensures.valid back) in
    record { text = text; read_back = back; reads_as = stands; nested = λ shallow. stands (back (nests_within m shallow)) }
