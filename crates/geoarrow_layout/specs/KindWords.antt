-- The words of kinds, of coordinate types and of dimensions.
use Rattle.std.specs.Prelude.{drop}
use Rattle.geoarrow_layout.specs.Words.{Text, Option, Some, None, codes, length, CoordType, Interleaved, Separated, Dimension, Kind, Wkb, Wkt, Large, View}
use Rattle.geoarrow_layout.specs.Kinds.{dimension_name, name_of}

-- the word of a kind: what stands behind `geoarrow.` in its extension name, with the width of well-known binary and text if it is not the plain one
abbrev pub kind_word : Kind → Text
kind_word (Wkb Large) = codes "large_wkb"
kind_word (Wkb View) = codes "wkb_view"
kind_word (Wkt Large) = codes "large_wkt"
kind_word (Wkt View) = codes "wkt_view"
kind_word k = drop (length (codes "geoarrow.")) (name_of k)

-- the word of a coordinate type, if there is one
abbrev pub coord_type_word : Option CoordType → Text
coord_type_word (Some Interleaved) = codes "interleaved"
coord_type_word (Some Separated) = codes "separated"
coord_type_word None = codes "-"

-- the word of a dimension, if there is one
abbrev pub dimension_word : Option Dimension → Text
dimension_word (Some d) = dimension_name d
dimension_word None = codes "-"
