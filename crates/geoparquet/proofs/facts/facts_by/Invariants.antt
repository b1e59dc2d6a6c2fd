use Rattle.std.proofs.Common.{◌≡◌, map, take}
use Rattle.json.specs.Value.{value_view}
use Rattle.arrow_values.specs.Tree.{Text}
use Rattle.geoparquet.specs.GeoColumns.{left_for, value_in}
use Rattle.geoparquet.proofs.FactLists.{FactsFrom, tree_of}
use Rattle.geoparquet.proofs.facts.facts_by.Given as goal

-- the facts so far, and the members that are left for the columns to come
abbrev pub invariant-columns : goal.invariant-columns
invariant-columns l = record {
  left : (name : Text) → value_in l.members name ≡ left_for (value_view l.value) (map tree_of (take l.it-index l.all)) name;
  so_far : FactsFrom (value_view l.value) l.all l.it-index l.made.items;
}
