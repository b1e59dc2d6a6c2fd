use Rattle.std.proofs.Common.{◌≡◌, map, take}
use Rattle.std.specs.BTreeSet.{contains_text}
use Rattle.std.specs.List.{list_any}
use Rattle.json.specs.Value.{value_view}
use Rattle.arrow_values.specs.Tree.{Text}
use Rattle.geoparquet.specs.Findings.{finding}
use Rattle.geoparquet.specs.TypeRules.{is_new_type, is_text}
use Rattle.geoparquet.specs.declared.code.GeoCode.TheVariants.{Types}
use Rattle.geoparquet.proofs.Items.{FoundTo}
use Rattle.geoparquet.proofs.types.add_items.Given as goal

abbrev pub invariant-loop-index : goal.invariant-loop-index
invariant-loop-index l = record {
  so_far : FoundTo is_new_type Types l.key l.place (map value_view l.items) (map finding l.fn.findings.items) l.index (map finding l.findings.items);
  texts : (s : Text) → contains_text l.before s ≡ list_any (is_text s) (take l.index (map value_view l.items));
}
