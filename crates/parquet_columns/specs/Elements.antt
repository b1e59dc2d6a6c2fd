-- What is found of the elements of a schema (docs/FORMAT.md, 4.5).
use Rattle.std.specs.Prelude.{ℕ, ℤ, ◌==◌, ◌&&◌, Bool, true, false, List, [], ◌∷◌, ◌++◌, codes, Option, Some, None, is_some, ◌||◌, if◌then◌else◌}
use Rattle.std.specs.Fmt.{signed_decimal}
use Rattle.std.specs.Str.{bytes_eq}
use Rattle.arrow_values.specs.Tree.{Text}
use Rattle.parquet_footer.specs.declared.logical.Algorithm.{Algorithm}
use Rattle.parquet_footer.specs.declared.logical.Algorithm.TheVariants.{Unknown}
use Rattle.parquet_footer.specs.Logical.{Logical, geometry, geography}
use Rattle.parquet_footer.specs.Element.{Element}
use Rattle.parquet_footer.specs.Footer.{Pairing}
use Rattle.parquet_columns.specs.Keys.{text_at}
use Rattle.parquet_columns.specs.Geometry.{colon_parts, is_geometry_type, is_repeated}
use Rattle.parquet_columns.specs.Levels.{Level, open_of, entered, column_in, path_in, is_below}
use Rattle.parquet_columns.specs.Values.{compact_of}
use Rattle.parquet_columns.specs.Storage.{is_group, storage_of, is_stored, storage_text}
use Rattle.parquet_columns.specs.TypeNames.{type_name, physical_name}
use Rattle.parquet_columns.specs.declared.annotation.Annotation.{Annotation}
use Rattle.parquet_columns.specs.declared.annotation.Annotation.TheVariants.{Plain, List as ListGroup, Map as MapGroup}
use Rattle.parquet_columns.specs.Annotation.{annotation_of}
use Rattle.parquet_columns.specs.declared.code.FileCode.{FileCode}
use Rattle.parquet_columns.specs.declared.code.FileCode.TheVariants.{EmptyGroup, LogicalTypeInvalid, UnknownAlgorithm, CrsKeyMissing, NestedGeometry}
use Rattle.parquet_columns.specs.declared.code.FilePart.TheVariants.{Elements}
use Rattle.parquet_columns.specs.declared.finding.FilePlace.{FilePlace}
use Rattle.parquet_columns.specs.Findings.{Finding}

-- where an element is: at its byte; and by the groups that it is in, from a column on
abbrev pub at_element : Element → FilePlace
at_element e = record { part = Elements; byte = Some e.byte }

abbrev pub of_element : FileCode → List Level → Element → Text → Option Text → Finding
of_element code ls e found wanted = record {
  code = code;
  column = Some (column_in ls e.storage.name.bytes);
  path = path_in ls (Some e.storage.name.bytes);
  place = at_element e;
  found = Some found;
  wanted = wanted;
}

-- a group of no children that is neither a LIST nor a MAP, of which `ElementInvalid` is found
abbrev pub is_zero : Option ℕ → Bool
is_zero None = false
is_zero (Some n) = n == 0

abbrev pub is_plain_group : Annotation → Bool
is_plain_group Plain = true
is_plain_group ListGroup = false
is_plain_group MapGroup = false

abbrev pub is_empty_group : Element → Bool
is_empty_group e = is_group e.storage.physical_type && (is_zero e.num_children && is_plain_group (annotation_of e))

abbrev pub empty_group : List Level → Element → List Finding
empty_group ls e = if is_empty_group e then of_element EmptyGroup ls e (codes "0 children") None ∷ [] else []

-- a logical or converted type on a physical type that it does not go with
abbrev pub on_text : Element → Text
on_text e = type_name e ++ (codes " on " ++ physical_name e.storage.physical_type)

abbrev pub invalid_type : List Level → Element → Finding
invalid_type ls e = of_element LogicalTypeInvalid ls e (on_text e) (Some (storage_text (storage_of e)))

-- a GEOGRAPHY whose algorithm is not known
abbrev pub algorithm_number : Option Algorithm → Option ℤ
algorithm_number (Some (Unknown number)) = Some number
algorithm_number _ = None

abbrev pub logical_number : Option Logical → Option ℤ
logical_number (Some (geography crs algorithm)) = algorithm_number algorithm
logical_number _ = None

abbrev pub unknown_by : List Level → Element → Option ℤ → List Finding
unknown_by ls e None = []
unknown_by ls e (Some number) = of_element UnknownAlgorithm ls e (signed_decimal number) None ∷ []

abbrev pub unknown_algorithm : List Level → Element → List Finding
unknown_algorithm ls e = unknown_by ls e (logical_number e.logical_type)

-- the key of a CRS projjson:KEY of a geometry type, which has no value that is PROJJSON
abbrev pub logical_crs : Option Logical → Option Text
logical_crs (Some (geometry crs)) = crs
logical_crs (Some (geography crs algorithm)) = crs
logical_crs _ = None

abbrev pub key_in : Option (Text × Text) → Option Text
key_in None = None
key_in (Some p) = if bytes_eq p.0 (codes "projjson") then Some p.1 else None

abbrev pub key_of : Option Text → Option Text
key_of None = None
key_of (Some crs) = key_in (colon_parts crs)

abbrev pub missing_by : List Pairing → List Level → Element → Option Text → List Finding
missing_by pairs ls e None = []
missing_by pairs ls e (Some key) = if is_some (compact_of (text_at key pairs)) then [] else of_element CrsKeyMissing ls e key None ∷ []

abbrev pub missing_key : List Pairing → List Level → Element → List Finding
missing_key pairs ls e = missing_by pairs ls e (key_of (logical_crs e.logical_type))

-- a geometry type below a column, or of a REPEATED element: the type, and the CRS if it names one
abbrev pub crs_part : Option Text → Text
crs_part None = []
crs_part (Some crs) = codes "(" ++ (crs ++ codes ")")

abbrev pub geometry_text : Element → Text
geometry_text e = type_name e ++ crs_part (logical_crs e.logical_type)

abbrev pub is_nested : List Level → Element → Bool
is_nested ls e = is_geometry_type e.logical_type && (is_below ls || is_repeated e.storage.repetition)

abbrev pub nested_geometry : List Level → Element → List Finding
nested_geometry ls e = if is_nested ls e then of_element NestedGeometry ls e (geometry_text e) None ∷ [] else []

-- a type is looked into where it goes with the physical type
abbrev pub geometry_findings : List Pairing → List Level → Element → List Finding
geometry_findings pairs ls e = unknown_algorithm ls e ++ (missing_key pairs ls e ++ nested_geometry ls e)

abbrev pub type_findings : List Pairing → List Level → Element → List Finding
type_findings pairs ls e = if is_stored (storage_of e) e then geometry_findings pairs ls e else invalid_type ls e ∷ []

abbrev pub element_findings : List Pairing → List Level → Element → List Finding
element_findings pairs ls e = empty_group ls e ++ type_findings pairs ls e

-- those of all elements behind the root, which are in those groups
unfoldable pub findings_from : List Pairing → List Level → List Element → List Finding
findings_from pairs ls [] = []
findings_from pairs ls (e ∷ es) = element_findings pairs (open_of ls) e ++ findings_from pairs (entered (open_of ls) e) es

abbrev pub findings_below : List Pairing → List Element → List Finding
findings_below pairs [] = []
findings_below pairs (root ∷ es) = findings_from pairs [] es
