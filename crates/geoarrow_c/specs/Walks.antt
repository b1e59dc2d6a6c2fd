-- How the walk over the structures of a schema ended, and what is told where it broke off (docs/FORMAT.md, 2.8).
use Rattle.std.specs.Prelude.{ℕ, ℤ, pos, negsuc, None, codes}
use Rattle.arrow_values.specs.Tree.{Text}
use Rattle.column_files.specs.Refusals.{Told}
use Rattle.column_files.specs.declared.refusal.Place.{Place}
use Rattle.column_files.specs.declared.refusal.Place.TheVariants.{File, Column}
use Rattle.geoarrow_c.specs.declared.walk.Walk.{Walk}
use Rattle.geoarrow_c.specs.declared.walk.Walk.TheVariants.{Done, OutOfMemory, Broken}
use Rattle.geoarrow_c.specs.declared.walk.WalkRule.{WalkRule}
use Rattle.geoarrow_c.specs.declared.walk.WalkRule.TheVariants as rules

abbrev pub rule_number : WalkRule → ℕ
rule_number rules.Size = 2
rule_number rules.Depth = 3
rule_number rules.Null = 4
rule_number rules.Released = 5
rule_number rules.Format = 6
rule_number rules.Count = 7
rule_number rules.Children = 8
rule_number rules.Metadata = 9

abbrev pub walk_number : Walk → ℕ
walk_number Done = 0
walk_number OutOfMemory = 1
walk_number (Broken rule) = rule_number rule

abbrev pub walk_message : WalkRule → Text
walk_message rules.Size = codes "more than 4000000 structures, or than 2^28 bytes of texts"
walk_message rules.Depth = codes "structures that are nested too deep"
walk_message rules.Null = codes "a structure that is NULL"
walk_message rules.Released = codes "a structure that is released"
walk_message rules.Format = codes "a format that is NULL"
walk_message rules.Count = codes "a number of children that is negative, or more than 2^28"
walk_message rules.Children = codes "children that are NULL"
walk_message rules.Metadata = codes "a negative number in metadata"

abbrev pub walk_wanted : WalkRule → Text
walk_wanted rules.Size = codes "at most 4000000 structures, and 2^28 bytes of texts"
walk_wanted rules.Depth = codes "at most 61 levels"
walk_wanted rules.Null = codes "a structure"
walk_wanted rules.Released = codes "a structure that is not released"
walk_wanted rules.Format = codes "a format string of Arrow's C data interface"
walk_wanted rules.Count = codes "0 to 2^28 children"
walk_wanted rules.Children = codes "a list of as many children"
walk_wanted rules.Metadata = codes "counts and lengths that are not negative"

abbrev pub walk_told : WalkRule → Place → Told
walk_told rule place = record {
  code = codes "BadSchema";
  place = place;
  found = walk_message rule;
  expected = walk_wanted rule;
  help = None;
}

-- a column; or none, where the number is negative
abbrev pub place_in : ℤ → Place
place_in (pos index) = Column index
place_in (negsuc n) = File
