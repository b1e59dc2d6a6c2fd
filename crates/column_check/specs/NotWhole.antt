-- The first number of a CRS that is not whole, and where it stands (docs/FORMAT.md, 1.6 and 2.6).
use Rattle.std.specs.Prelude.{ℕ, ◌+◌, Bool, codes, Option, None, Some, if◌then◌else◌}
use Rattle.json.specs.Json.{Json, number, array, object, Items, no_items, item, Members, no_members, member}
use Rattle.serde_json.specs.Read.{of_json}
use Rattle.arrow_values.specs.Tree.{Text}
use Rattle.geoarrow_meta.specs.Read.{some_has_float}
use Rattle.crs_identity.specs.Equality.{has_key}
use Rattle.column_check.specs.Parts.{spot_in}
use Rattle.column_check.specs.Places.{member_place, item_place}
use Rattle.column_check.specs.Said.{Said}
use Rattle.column_check.specs.Shown.{shown}
use Rattle.column_check.specs.declared.code.WarningCode.TheVariants.{CrsNotWhole}
use Rattle.column_check.specs.declared.not_whole.Place.{Place, Crs, Member', Item'}

-- the number with that text is not whole
abbrev pub is_not_whole : Text → Bool
is_not_whole s = some_has_float (of_json (number s))

-- a number at a place, which is shown as it is written, if it is not whole
abbrev pub of_number : Text → Text → Option Said
of_number place s = if is_not_whole s then Some (CrsNotWhole, spot_in place (Some (shown s)), 0) else None

abbrev pub or_later : Option Said → Option Said → Option Said
or_later None later = later
or_later (Some first) later = Some first

-- what is found of a member, unless its key stands again: of the members with one key only the last one is read
abbrev pub unless_again : Bool → Option Said → Option Said
unless_again again None = None
unless_again again (Some first) = if again then None else Some first

-- of what stands at a place
abbrev mutual
  pub first_not_whole : Text → Json → Option Said
  first_not_whole place (number s) = of_number place s
  first_not_whole place (array js) = first_of_items place 0 js
  first_not_whole place (object ms) = first_of_members place ms
  first_not_whole place j = None

  pub first_of_items : Text → ℕ → Items → Option Said
  first_of_items place n no_items = None
  first_of_items place n (item j js) = or_later (first_not_whole (item_place place n) j) (first_of_items place (n + 1) js)

  pub first_of_members : Text → Members → Option Said
  first_of_members place no_members = None
  first_of_members place (member k j ms) = or_later (unless_again (has_key k ms) (first_not_whole (member_place place k) j)) (first_of_members place ms)

-- of a CRS
abbrev pub not_whole_in : Option Json → Option Said
not_whole_in None = None
not_whole_in (Some j) = first_not_whole (codes "/crs") j

-- ---- as the search goes down, which writes the place of what it finds alone

abbrev pub place_text : Place → Text
place_text Crs = codes "/crs"
place_text (Member' p above key) = member_place (place_text above) key.now
place_text (Item' p above index) = item_place (place_text above) index
