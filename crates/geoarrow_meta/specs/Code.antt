-- JSON values have codes: trees of numbers, different ones of different values. So two values are the same where their codes are.
use Rattle.std.specs.Prelude.{◌≡◌, Bool, refl}
use Rattle.std.specs.Bool.{Decides}
use Rattle.std.specs.Coded.{Coded, coded_bool, coded_ℤ}
use Rattle.std.proofs.Common.{ap, ap₂}
use base.Stored.{Gv, gnil, gnum, gcons, coded_float}
use Rattle.arrow_values.specs.Code.{text_code}
use Rattle.arrow_values.specs.Equal.{code_eq, code_decides}
use Rattle.serde_json.specs.Data.{Num, unsigned, negative, float, Data, null, boolean, number, string, array, object, Items, no_items, item, Members, no_members, member}

abbrev num_to : Num → Gv
num_to (unsigned n) = gnum n
num_to (negative z) = gcons gnil (coded_ℤ.code z)
num_to (float x) = gcons (gnum 0) (coded_float.code x)

num_inj : (m n : Num) → num_to m ≡ num_to n → m ≡ n
num_inj (unsigned m) (unsigned n) p = cc
num_inj (negative y) (negative z) p = ap negative (coded_ℤ.inj y z cc)
num_inj (float x) (float y) p = ap float (coded_float.inj x y cc)
num_inj _ _ p = cc

-- a JSON value by its sort and its parts
abbrev mutual
  data_to : Data → Gv
  data_to null = gnil
  data_to (boolean b) = gcons gnil (coded_bool.code b)
  data_to (number n) = gcons (gnum 0) (num_to n)
  data_to (string s) = gcons (gcons gnil gnil) (text_code.code s)
  data_to (array ds) = gcons (gcons gnil (gnum 0)) (items_to ds)
  data_to (object ms) = gcons (gcons (gnum 0) gnil) (members_to ms)

  items_to : Items → Gv
  items_to no_items = gnil
  items_to (item d ds) = gcons (data_to d) (items_to ds)

  members_to : Members → Gv
  members_to no_members = gnil
  members_to (member k d ms) = gcons (text_code.code k) (gcons (data_to d) (members_to ms))

mutual
  pub data_inj : (d e : Data) → data_to d ≡ data_to e → d ≡ e
  data_inj null null p = refl
  data_inj (boolean b) (boolean c) p = ap boolean (coded_bool.inj b c cc)
  data_inj (number m) (number n) p = ap number (num_inj m n cc)
  data_inj (string s) (string t) p = ap string (text_code.inj s t cc)
  data_inj (array ds) (array es) p = ap array (items_inj ds es cc)
  data_inj (object ms) (object ns) p = ap object (members_inj ms ns cc)
  data_inj _ _ p = cc

  items_inj : (ds es : Items) → items_to ds ≡ items_to es → ds ≡ es
  items_inj no_items no_items p = refl
  items_inj (item d ds) (item e es) p = ap₂ item (data_inj d e cc) (items_inj ds es cc)
  items_inj _ _ p = cc

  members_inj : (ms ns : Members) → members_to ms ≡ members_to ns → ms ≡ ns
  members_inj no_members no_members p = refl
  members_inj (member k d ms) (member l e ns) p =
      let t = text_code.inj k l cc in
      let v = data_inj d e cc in
      let r = members_inj ms ns cc in
      λ i. member (t i) (v i) (r i)
  members_inj _ _ p = cc

abbrev pub data_code : Coded Data
data_code = record { code = data_to; inj = data_inj }

-- whether both are the same JSON value
abbrev pub same : Data → Data → Bool
same = code_eq data_code

pub same_decides : (d e : Data) → Decides (same d e) (d ≡ e)
same_decides = code_decides data_code
