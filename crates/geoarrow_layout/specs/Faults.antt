-- The faults of data types, as errors of Arrow.
use Rattle.geoarrow_layout.specs.Words.{Text, codes, ArrowError, ExternalError', LayoutFault, UnexpectedType, BadInterleavedName, BadSize, BadFieldNames, BadFieldCount, MixedWidths, BadTypeId, MemberDimension, EmptyUnion, SeveralCoordTypes, SeveralDimensions}
use Rattle.arrow_values.specs.Errors.{IsSchemaOf, IsInvalidOf}

-- the message of a fault
abbrev pub fault_text : LayoutFault → Text
fault_text UnexpectedType = codes "unexpected data type"
fault_text BadInterleavedName = codes "unknown interleaved field name"
fault_text BadSize = codes "list size differs from the field name"
fault_text BadFieldNames = codes "unexpected field names"
fault_text BadFieldCount = codes "unexpected number of fields"
fault_text MixedWidths = codes "list widths differ"
fault_text BadTypeId = codes "unexpected type id"
fault_text MemberDimension = codes "member dimension differs from its type id"
fault_text EmptyUnion = codes "union has no members"
fault_text SeveralCoordTypes = codes "several coordinate types in union"
fault_text SeveralDimensions = codes "several dimensions in union"

-- the error of a fault, with its message: for `BadSize` an `ExternalError` of `InvalidGeoArrow`, for any other a `SchemaError`
abbrev pub IsErrorOfFault : LayoutFault → ArrowError → Type 0
IsErrorOfFault BadSize (ExternalError' p inner) = IsInvalidOf (fault_text BadSize) inner
IsErrorOfFault BadSize _ = ⊥
IsErrorOfFault fault e = IsSchemaOf (fault_text fault) e
