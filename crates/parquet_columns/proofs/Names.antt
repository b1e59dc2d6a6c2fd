-- Names that are compared one after the other.
use Rattle.std.proofs.Common.{◌≡◌, ◌<◌, true, false, List, [], ◌∷◌, length, Some, None, refl, arith}
use Rattle.std.specs.Str.{bytes_eq}
use Rattle.arrow_columns.specs.Types.{ColumnTree}
use Rattle.parquet_columns.specs.Findings.{first_other}

pub differ : (c d : ColumnTree) (cs ds : List ColumnTree) → bytes_eq c.name d.name ≡ false → first_other (c ∷ cs) (d ∷ ds) ≡ Some (Some c.name, Some d.name)
differ c d cs ds not = rw not refl

pub agree : (c d : ColumnTree) (cs ds : List ColumnTree) → bytes_eq c.name d.name ≡ true → first_other (c ∷ cs) (d ∷ ds) ≡ first_other cs ds
agree c d cs ds is = rw is refl
