-- The codes of what may be found in the footer of a Parquet file, how much each weighs, and its words (docs/FORMAT.md, 4.5).
use Rattle.std.specs.Prelude.{codes}
use Rattle.arrow_values.specs.Tree.{Text}
use Rattle.parquet_footer.specs.declared.code.Severity.{Severity}
use Rattle.parquet_footer.specs.declared.code.Severity.TheVariants.{Error, Warning, Note}
use Rattle.parquet_columns.specs.declared.code.FileCode.{FileCode}
use Rattle.parquet_columns.specs.declared.code.FileCode.TheVariants.{ArrowSchemaUnreadable, ArrowSchemaNames, ArrowSchemaContradicts, GeoNotInFooter, ElementInvalid, EmptyGroup, LogicalTypeInvalid, UnknownAlgorithm, CrsKeyMissing, NestedGeometry, NoGeoMetadata, RepeatedKey, ByteOrderMark}
use Rattle.parquet_columns.specs.declared.code.FilePart.{FilePart}
use Rattle.parquet_columns.specs.declared.code.FilePart.TheVariants.{Footer, StoredText, StoredMessage, Elements, Field, File}

abbrev pub code_of : FileCode → Text
code_of ArrowSchemaUnreadable = codes "ArrowSchemaUnreadable"
code_of ArrowSchemaNames = codes "ArrowSchemaNames"
code_of ArrowSchemaContradicts = codes "ArrowSchemaContradicts"
code_of GeoNotInFooter = codes "GeoNotInFooter"
code_of ElementInvalid = codes "ElementInvalid"
code_of EmptyGroup = codes "EmptyGroup"
code_of LogicalTypeInvalid = codes "LogicalTypeInvalid"
code_of UnknownAlgorithm = codes "UnknownAlgorithm"
code_of CrsKeyMissing = codes "CrsKeyMissing"
code_of NestedGeometry = codes "NestedGeometry"
code_of NoGeoMetadata = codes "NoGeoMetadata"
code_of RepeatedKey = codes "RepeatedKey"
code_of ByteOrderMark = codes "ByteOrderMark"

abbrev pub severity_of : FileCode → Severity
severity_of ArrowSchemaUnreadable = Error
severity_of ArrowSchemaNames = Warning
severity_of ArrowSchemaContradicts = Error
severity_of GeoNotInFooter = Warning
severity_of ElementInvalid = Error
severity_of EmptyGroup = Warning
severity_of LogicalTypeInvalid = Error
severity_of UnknownAlgorithm = Warning
severity_of CrsKeyMissing = Error
severity_of NestedGeometry = Warning
severity_of NoGeoMetadata = Warning
severity_of RepeatedKey = Warning
severity_of ByteOrderMark = Note

-- when a code is found
abbrev pub rule_of : FileCode → Text
rule_of ArrowSchemaUnreadable = codes "the value of ARROW:schema is no base64, or no message of a schema"
rule_of ArrowSchemaNames = codes "the columns at ARROW:schema have other names than the elements, another number or another order"
rule_of ArrowSchemaContradicts = codes "the type of a field at ARROW:schema does not fit the element, of a column that may hold geometries"
rule_of GeoNotInFooter = codes "geo stands in the metadata of the schema at ARROW:schema, and has no value in the footer"
rule_of ElementInvalid = codes "an element of the column breaks a rule of the schema"
rule_of EmptyGroup = codes "a group has no children"
rule_of LogicalTypeInvalid = codes "a logical or converted type stands on a physical type that it does not go with"
rule_of UnknownAlgorithm = codes "the algorithm of a GEOGRAPHY has a number other than 0 to 4"
rule_of CrsKeyMissing = codes "the CRS of a geometry type is projjson:KEY, and KEY has no value that is a JSON object"
rule_of NestedGeometry = codes "an element below a column, or one that is REPEATED, is GEOMETRY or GEOGRAPHY"
rule_of NoGeoMetadata = codes "a key is geo but for the case of its letters, and geo has no value"
rule_of RepeatedKey = codes "geo, ARROW:schema or an extension key of a field stands several times with a value"
rule_of ByteOrderMark = codes "lines begin with a byte order mark"

-- what is expected where a code is found
abbrev pub expected_of : FileCode → Text
expected_of ArrowSchemaUnreadable = codes "an Arrow schema in base64"
expected_of ArrowSchemaNames = codes "the names of the elements, in their order"
expected_of ArrowSchemaContradicts = codes "a type that the element has"
expected_of GeoNotInFooter = codes "geo among the keys of the footer"
expected_of ElementInvalid = codes "an element that keeps the rule"
expected_of EmptyGroup = codes "children"
expected_of LogicalTypeInvalid = codes "the physical type of that type"
expected_of UnknownAlgorithm = codes "0 to 4, spherical, vincenty, thomas, andoyer or karney"
expected_of CrsKeyMissing = codes "a key whose value is PROJJSON"
expected_of NestedGeometry = codes "a column at the root that is not REPEATED"
expected_of NoGeoMetadata = codes "geo"
expected_of RepeatedKey = codes "one value of the key"
expected_of ByteOrderMark = codes "lines without one"

-- what helps
abbrev pub help_of : FileCode → Text
help_of ArrowSchemaUnreadable = codes "The columns are those of the elements; remove the key or write it anew."
help_of ArrowSchemaNames = codes "The columns are those of the elements; remove the key or write it anew."
help_of ArrowSchemaContradicts = codes "Readers that follow the stored schema cannot read the column; its type here is that of the element."
help_of GeoNotInFooter = codes "Readers of GeoParquet look in the footer; it is not used here."
help_of ElementInvalid = codes "The column is not read, the others are."
help_of EmptyGroup = codes "It is a struct of no fields."
help_of LogicalTypeInvalid = codes "Other readers refuse the file; the type is ignored here."
help_of UnknownAlgorithm = codes "The edges are not known, and the element says none."
help_of CrsKeyMissing = codes "The CRS is not known, and the element says none."
help_of NestedGeometry = codes "GeoParquet takes columns at the root alone."
help_of NoGeoMetadata = codes "Readers of GeoParquet look for geo in small letters; it is not used here."
help_of RepeatedKey = codes "The last counts here; other readers take the first."
help_of ByteOrderMark = codes "It is passed over."

-- where a finding is, as reports have it
abbrev pub part_text : FilePart → Text
part_text Footer = codes "footer"
part_text StoredText = codes "ARROW:schema"
part_text StoredMessage = codes "ARROW:schema"
part_text Elements = codes "elements"
part_text Field = codes "field"
part_text File = codes "file"
