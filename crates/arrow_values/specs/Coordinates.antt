-- How many numbers a coordinate has.
use Rattle.std.specs.Prelude.{ℕ}
use Rattle.arrow_values.specs.declared.coordinates.Dimensions.{Dimensions}
use Rattle.arrow_values.specs.declared.coordinates.Dimensions.TheVariants.{Xy, Xyz, Xym, Xyzm, Unknown}

abbrev pub dimensions_size : Dimensions → ℕ
dimensions_size Xy = 2
dimensions_size Xyz = 3
dimensions_size Xym = 3
dimensions_size Xyzm = 4
dimensions_size (Unknown n) = n
