-- Whether the type of a stored field fits an element (docs/FORMAT.md, 4.5), by the type that the element is compared by.
use Rattle.std.specs.Prelude.{ℕ, Bool, true, false, ◌&&◌, ◌==◌, Option, Some, None}
use Rattle.std.specs.Str.{bytes_eq}
use Rattle.arrow_values.specs.Tree.{Text, null, boolean, int8, int16, int32, int64, uint8, uint16, uint32, uint64, float16, float32, float64, date32, date64, binary, large_binary, binary_view, utf8, large_utf8, utf8_view, Plain, Tree, plain, list, large_list, fixed_size_list, struct, union, FieldTrees, no_fields, field}
use Rattle.arrow_columns.specs.Types.{TypeTree}
use Rattle.arrow_columns.specs.Outlines.{outline}
use Rattle.arrow_columns.specs.declared.outline.Outline.TheVariants.{Storage}
use Rattle.parquet_columns.specs.declared.fits.Sort.{Sort}
use Rattle.parquet_columns.specs.declared.fits.Sort.TheVariants.{Bytes, Half, Single, Double, List, Struct, Other}

-- the sorts of types: bytes and texts, the three floats, lists, structs, and all others
abbrev pub plain_sort : Plain → Sort
plain_sort null = Other
plain_sort boolean = Other
plain_sort int8 = Other
plain_sort int16 = Other
plain_sort int32 = Other
plain_sort int64 = Other
plain_sort uint8 = Other
plain_sort uint16 = Other
plain_sort uint32 = Other
plain_sort uint64 = Other
plain_sort float16 = Half
plain_sort float32 = Single
plain_sort float64 = Double
plain_sort date32 = Other
plain_sort date64 = Other
plain_sort binary = Bytes
plain_sort large_binary = Bytes
plain_sort binary_view = Bytes
plain_sort utf8 = Bytes
plain_sort large_utf8 = Bytes
plain_sort utf8_view = Bytes

abbrev pub sort_of : Tree → Sort
sort_of (plain p) = plain_sort p
sort_of (list n t b m) = List
sort_of (large_list n t b m) = List
sort_of (fixed_size_list n t b m s) = List
sort_of (struct fs) = Struct
sort_of (union ms mode) = Other

-- sorts are the same where their places in the list are
abbrev pub place_of : Sort → ℕ
place_of Bytes = 0
place_of Half = 1
place_of Single = 2
place_of Double = 3
place_of List = 4
place_of Struct = 5
place_of Other = 6

abbrev pub are_same : Sort → Sort → Bool
are_same a b = place_of a == place_of b

-- the type of the items of a list, and the fields of a struct
abbrev pub item_of : Tree → Option Tree
item_of (plain p) = None
item_of (list n t b m) = Some t
item_of (large_list n t b m) = Some t
item_of (fixed_size_list n t b m s) = Some t
item_of (struct fs) = None
item_of (union ms mode) = None

abbrev pub fields_of : Tree → Option FieldTrees
fields_of (plain p) = None
fields_of (list n t b m) = None
fields_of (large_list n t b m) = None
fields_of (fixed_size_list n t b m s) = None
fields_of (struct fs) = Some fs
fields_of (union ms mode) = None

abbrev pub holds : {A : Type 0} → (A → Bool) → Option A → Bool
holds test None = false
holds test (Some x) = test x

abbrev mutual
  -- the stored type is of the element's sort; the items of a list fit, and so does each field of a struct, in order and with its name
  pub fits : Tree → Tree → Bool
  fits (plain p) s = are_same (plain_sort p) (sort_of s)
  fits (list n t b m) s = holds (fits t) (item_of s)
  fits (large_list n t b m) s = holds (fits t) (item_of s)
  fits (fixed_size_list n t b m z) s = holds (fits t) (item_of s)
  fits (struct fs) s = holds (fields_fit fs) (fields_of s)
  fits (union ms mode) s = are_same Other (sort_of s)

  pub fields_fit : FieldTrees → FieldTrees → Bool
  fields_fit no_fields no_fields = true
  fields_fit no_fields (field o u c k gs) = false
  fields_fit (field n t b m fs) no_fields = false
  fields_fit (field n t b m fs) (field o u c k gs) = bytes_eq n o && fits t u && fields_fit fs gs

-- types are compared as Parquet stores them: views of lists are lists, and dictionaries of bytes and texts are their values
abbrev pub type_fits : TypeTree → TypeTree → Bool
type_fits t s = fits (outline Storage t) (outline Storage s)
