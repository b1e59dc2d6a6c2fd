-- The codes of what may be found in the metadata of GeoParquet, and how much each weighs (docs/FORMAT.md, 5).
use Rattle.std.specs.Prelude.{codes}
use Rattle.arrow_values.specs.Tree.{Text}
use Rattle.column_check.specs.declared.code.Severity.{Severity}
use Rattle.column_check.specs.declared.code.Severity.TheVariants.{Error, Warning, Note}
use Rattle.geoparquet.specs.declared.code.GeoCode.{GeoCode}
use Rattle.geoparquet.specs.declared.code.GeoCode.TheVariants.{NoMetadata, NotJson, NotObject, RepeatedKey, Version, OldVersion, NewVersion, Columns, ColumnMissing, ColumnRepeated, Member, ColumnUndeclared, PrimaryColumn, Encoding, Layout, Types, TypesVersion, TypesContradict, Crs, CrsMalformed, Edges, Orientation, Epoch, Bbox, BboxOrder, BboxRange, BboxDimension, Covering, CoveringName, CoveringColumn, CoveringType, CoveringShape, CoveringAbsent, EncodingContradicts, CrsContradicts, CrsNotCompared, EdgesContradict, EdgesOnProjected}

abbrev pub code_of : GeoCode → Text
code_of NoMetadata = codes "NoGeoMetadata"
code_of NotJson = codes "GeoNotJson"
code_of NotObject = codes "GeoNotObject"
code_of RepeatedKey = codes "RepeatedKey"
code_of Version = codes "GeoVersion"
code_of OldVersion = codes "GeoOldVersion"
code_of NewVersion = codes "GeoNewVersion"
code_of Columns = codes "GeoColumns"
code_of ColumnMissing = codes "GeoColumnMissing"
code_of ColumnRepeated = codes "GeoColumnRepeated"
code_of Member = codes "GeoMember"
code_of ColumnUndeclared = codes "GeoColumnUndeclared"
code_of PrimaryColumn = codes "GeoPrimaryColumn"
code_of Encoding = codes "GeoEncoding"
code_of Layout = codes "GeoLayout"
code_of Types = codes "GeoTypes"
code_of TypesVersion = codes "GeoTypesVersion"
code_of TypesContradict = codes "TypesContradict"
code_of Crs = codes "GeoCrs"
code_of CrsMalformed = codes "CrsMalformed"
code_of Edges = codes "GeoEdges"
code_of Orientation = codes "GeoOrientation"
code_of Epoch = codes "GeoEpoch"
code_of Bbox = codes "GeoBbox"
code_of BboxOrder = codes "GeoBboxOrder"
code_of BboxRange = codes "GeoBboxRange"
code_of BboxDimension = codes "GeoBboxDimension"
code_of Covering = codes "GeoCovering"
code_of CoveringName = codes "GeoCoveringName"
code_of CoveringColumn = codes "GeoCoveringColumn"
code_of CoveringType = codes "GeoCoveringType"
code_of CoveringShape = codes "GeoCoveringShape"
code_of CoveringAbsent = codes "GeoCoveringAbsent"
code_of EncodingContradicts = codes "EncodingContradicts"
code_of CrsContradicts = codes "CrsContradicts"
code_of CrsNotCompared = codes "CrsNotCompared"
code_of EdgesContradict = codes "EdgesContradict"
code_of EdgesOnProjected = codes "EdgesOnProjected"

abbrev pub severity_of : GeoCode → Severity
severity_of NoMetadata = Warning
severity_of NotJson = Error
severity_of NotObject = Error
severity_of RepeatedKey = Warning
severity_of Version = Error
severity_of OldVersion = Warning
severity_of NewVersion = Note
severity_of Columns = Error
severity_of ColumnMissing = Error
severity_of ColumnRepeated = Error
severity_of Member = Error
severity_of ColumnUndeclared = Warning
severity_of PrimaryColumn = Error
severity_of Encoding = Error
severity_of Layout = Error
severity_of Types = Error
severity_of TypesVersion = Error
severity_of TypesContradict = Error
severity_of Crs = Error
severity_of CrsMalformed = Error
severity_of Edges = Error
severity_of Orientation = Error
severity_of Epoch = Error
severity_of Bbox = Error
severity_of BboxOrder = Error
severity_of BboxRange = Warning
severity_of BboxDimension = Warning
severity_of Covering = Error
severity_of CoveringName = Error
severity_of CoveringColumn = Error
severity_of CoveringType = Error
severity_of CoveringShape = Warning
severity_of CoveringAbsent = Note
severity_of EncodingContradicts = Error
severity_of CrsContradicts = Error
severity_of CrsNotCompared = Note
severity_of EdgesContradict = Error
severity_of EdgesOnProjected = Warning
