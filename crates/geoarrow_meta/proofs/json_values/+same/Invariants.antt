use Rattle.std.proofs.Common.{◌≡◌, false, drop}
use Rattle.std.specs.Slice.Iter.{iter_rest}
use Rattle.serde_json.specs.Data.{array, object}
use Rattle.serde_json.specs.View.{items_view, members_view}
use Rattle.serde_json.specs.Written.{items_have_float, members_have_float}
use Rattle.geoarrow_meta.specs.Code.{same}
use Rattle.geoarrow_meta.proofs.json_values.+same.Given as goal

-- what is left on either side decides
abbrev pub invariant-same_arrays-loop-x : goal.invariant-same_arrays-loop-x
invariant-same_arrays-loop-x l = record {
  decides : same (array (items_view l.a.items)) (array (items_view l.b.items)) ≡ same (array (items_view (drop l.x-index l.x-items))) (array (items_view (iter_rest l.others)));
  first : items_have_float (items_view (drop l.x-index l.x-items)) ≡ false;
  second : items_have_float (items_view (iter_rest l.others)) ≡ false;
}

abbrev pub invariant-same_objects-loop-key : goal.invariant-same_objects-loop-key
invariant-same_objects-loop-key l = record {
  decides : same (object (members_view l.a.entries)) (object (members_view l.b.entries)) ≡ same (object (members_view l.key-iterator)) (object (members_view l.others));
  first : members_have_float (members_view l.key-iterator) ≡ false;
  second : members_have_float (members_view l.others) ≡ false;
}
