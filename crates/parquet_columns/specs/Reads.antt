-- Which columns a footer denotes, and a file, and what is found in it; or why they denote none.
use Rattle.std.specs.Prelude.{◌≡◌, ℕ, Bool, ◌+◌, ◌-◌, ◌≤◌, ◌<◌, List, [], ◌∷◌, ◌++◌, length, take, drop, map, Option, Some, None, Result, Ok, Err, ⊤, ◌||◌, ◌==◌, nat_lt, if◌then◌else◌}
use Rattle.std.specs.Borrow.{Bor}
use Rattle.arrow_values.specs.Tree.{Text, Metadata}
use Rattle.arrow_values.specs.Texts.{text_of, text_at}
use Rattle.arrow_values.specs.View.{texts_of}
use Rattle.arrow_columns.specs.Column.{column_tree}
use Rattle.arrow_columns.specs.Types.{ColumnTree}
use Rattle.json.specs.Json.{Json}
use Rattle.parquet_footer.specs.Spelled.{Spelled}
use Rattle.parquet_footer.specs.Element.{Element}
use Rattle.parquet_footer.specs.Footer.{Contents, Pairing, footer_at}
use Rattle.parquet_footer.specs.Findings as texts
use Rattle.parquet_footer.specs.Tail.{length_at}
use Rattle.parquet_footer.specs.declared.fault.Fault as footers
use Rattle.parquet_footer.specs.declared.fault.FooterError.{FooterError}
use Rattle.parquet_footer.specs.declared.fault.FooterError.TheVariants.{NotParquet, Invalid}
use Rattle.parquet_columns.specs.Columns.{FaultTree, ColumnTrees, column_trees, columns_of, compared_columns}
use Rattle.parquet_columns.specs.Invalid.{invalid_elements}
use Rattle.parquet_columns.specs.declared.columns.ElementColumns.{ElementColumns}
use Rattle.parquet_columns.specs.declared.fault.ElementFault as elements
use Rattle.parquet_columns.specs.Keys.{schema_key, value_of, value_or_empty}
use Rattle.parquet_columns.specs.Budget.{budget}
use Rattle.parquet_columns.specs.Geometry.{root_children, marked_columns}
use Rattle.parquet_columns.specs.Claims.{claims, made_bytes}
use Rattle.parquet_columns.specs.Layouts.{RootElement, root_element, root_layouts, joined}
use Rattle.parquet_columns.specs.Findings.{Finding, finding, of_file, first_other, other_names, unreadable, geo_key, repeated_keys}
use Rattle.parquet_columns.specs.GeoKeys.{other_geo_findings}
use Rattle.parquet_columns.specs.Resolved.{Resolution, resolved, resolved_columns, resolved_findings, resolved_refuted}
use Rattle.parquet_columns.specs.GeoNames.{json_of, geo_text}
use Rattle.parquet_columns.specs.Elements.{findings_below}
use Rattle.parquet_columns.specs.declared.code.FileCode.TheVariants.{GeoNotInFooter}
use Rattle.parquet_columns.specs.declared.code.FilePart.TheVariants.{StoredMessage}
use Rattle.parquet_columns.specs.Stored.{AreStored}
use Rattle.parquet_columns.specs.declared.stored.Stored.{Stored}
use Rattle.parquet_columns.specs.declared.stored.Stored.TheVariants.{Schema, Unreadable}
use Rattle.parquet_columns.specs.declared.footer.FooterColumns.{FooterColumns}
use Rattle.parquet_columns.specs.declared.footer.Unmarked.{Unmarked}
use Rattle.parquet_columns.specs.declared.error.SchemaError.{SchemaError}
use Rattle.parquet_columns.specs.declared.error.SchemaError.TheVariants.{Footer, Length, Elements, Budget, OutOfMemory}

-- what is made of the elements: their columns, or why their tree has no shape
abbrev pub IsBuilt : Result ColumnTrees elements.ElementFault → Result ElementColumns SchemaError → Type 0
IsBuilt there (Ok made) = there ≡ Ok (column_trees made)
IsBuilt there (Err (Elements fault)) = there ≡ Err fault
IsBuilt there (Err OutOfMemory) = ⊤
IsBuilt there (Err _) = ⊥

-- columns, what is known of their elements, of stored columns whether the elements refute their names, and what is found
pub record Read : Type 0 where
  pub columns : List ColumnTree
  pub elements : List RootElement
  pub refuted : List Bool
  pub findings : List Finding

abbrev pub read_of : FooterColumns → Read
read_of r = record { columns = map column_tree r.columns.items; elements = map root_element r.elements.items; refuted = r.refuted.items; findings = map finding r.findings.items }

-- columns before the geometry types of their elements are looked at, and what is found
pub record Choice : Type 0 where
  pub columns : List ColumnTree
  pub findings : List Finding
  pub refuted : List Bool

abbrev pub choice : Unmarked → Choice
choice r = record { columns = map column_tree r.columns.items; findings = map finding r.findings.items; refuted = r.refuted.items }

-- columns of elements, and what is found
abbrev pub unresolved : List ColumnTree → List Finding → Choice
unresolved cs fs = record { columns = cs; findings = fs; refuted = [] }

-- stored columns by their elements, with what was found of them before
abbrev pub with_found : List Resolution → List Finding → Choice
with_found rs found = record { columns = resolved_columns rs; findings = resolved_findings rs ++ found; refuted = resolved_refuted rs }

-- two names, without where they lie
abbrev pub names_seen : Option (Bor Text) × Option (Bor Text) → Option Text × Option Text
names_seen p = (text_of p.0, text_of p.1)

-- the columns of a stored schema, each as far as it fits its element, if their names are those of the elements' columns, with what was found of them before;
-- else these
abbrev pub by_names : Option (Option Text × Option Text) → Option Json → List Element → List ColumnTree → List Finding → List ColumnTree → Choice
by_names None geo es stored found cs = with_found (resolved geo (root_children es) cs (compared_columns es) stored) found
by_names (Some names) geo es stored found cs = unresolved cs (other_names names ∷ [])

-- the key geo in the metadata of a stored schema, which the footer does not have
abbrev pub geo_by : Option Text → Option Spelled → List Finding
geo_by None value = []
geo_by (Some text) None = of_file GeoNotInFooter (record { part = StoredMessage; byte = None }) None None ∷ []
geo_by (Some text) (Some value) = []

abbrev pub geo_beside : Metadata → List Pairing → List Finding
geo_beside m pairs = geo_by (text_at geo_key m) (value_or_empty geo_key pairs)

abbrev pub and_found : Choice → List Finding → Choice
and_found read fs = record { columns = read.columns; findings = read.findings ++ fs; refuted = read.refuted }

-- by what is stored, beside the columns of the elements
abbrev pub chosen : Contents → Option Stored → List ColumnTree → Choice
chosen c None cs = unresolved cs []
chosen c (Some (Schema s found)) cs = and_found
    (by_names (first_other (map column_tree s.columns.items) cs) (json_of (geo_text c.key_value_metadata)) c.schema (map column_tree s.columns.items) (map finding found.items) cs)
    (geo_beside (texts_of s.metadata.entries) c.key_value_metadata)
chosen c (Some (Unreadable fault)) cs = unresolved cs (unreadable fault ∷ [])

-- how many bytes the extension metadata have that are made of geometry types, those that the columns are given and those beside their own
abbrev pub made_of : Contents → List ColumnTree → ℕ
made_of c cs = made_bytes c.key_value_metadata (root_children c.schema) cs

-- columns of geometry types have the extension that their elements denote, or the elements say it beside them; and what is found of columns that are not
-- read, of the elements and of keys comes behind
abbrev pub found_with : Contents → List FaultTree → List Finding
found_with c faults = invalid_elements c.schema faults ++ findings_below c.key_value_metadata c.schema ++ (other_geo_findings c.key_value_metadata ++ repeated_keys c.key_value_metadata)

abbrev pub read_with : Contents → List FaultTree → Choice → Read
read_with c faults read = record {
  columns = marked_columns c.key_value_metadata (root_children c.schema) read.columns;
  elements = joined (claims c.key_value_metadata (root_children c.schema) read.columns) (root_layouts c.schema);
  refuted = read.refuted;
  findings = read.findings ++ found_with c faults;
}

-- what is read of a footer of so many bytes, by the columns that are chosen, within the budget
abbrev pub IsReadWith : ℕ → Contents → List FaultTree → Choice → Result FooterColumns SchemaError → Type 0
IsReadWith n c faults read (Ok r) = (made_of c read.columns ≤ budget n) × (read_of r ≡ read_with c faults read)
IsReadWith n c faults read (Err Budget) = budget n < made_of c read.columns
IsReadWith n c faults read (Err OutOfMemory) = ⊤
IsReadWith n c faults read (Err _) = ⊥

-- by what is stored
abbrev pub IsReadBy : ℕ → Contents → ColumnTrees → Result FooterColumns SchemaError → Type 0
IsReadBy n c made r =
    (stored : Option Stored) × AreStored (value_of schema_key c.key_value_metadata) stored × IsReadWith n c made.faults (chosen c stored made.columns) r

-- what is read of a footer of so many bytes, by the elements of its schema
abbrev pub IsFooterRead : ℕ → Contents → Result FooterColumns SchemaError → Type 0
IsFooterRead n c (Err OutOfMemory) = ⊤
IsFooterRead n c (Err (Elements fault)) = columns_of c.schema ≡ Err fault
IsFooterRead n c r = (made : ColumnTrees) × (columns_of c.schema ≡ Ok made) × IsReadBy n c made r

-- the footer at the end of a file: its length and the magic stand behind it, in eight bytes
abbrev pub footer_before : List ℕ → Result ℕ FooterError → Result (List ℕ) SchemaError
footer_before front (Err error) = Err (Footer error)
footer_before front (Ok size) = if (size == 0) || nat_lt (length front) size then Err Length else Ok (drop (length front - size) front)

unfoldable pub footer_in : List ℕ → Result (List ℕ) SchemaError
footer_in bytes =
    if nat_lt (length bytes) 8 then Err (Footer NotParquet) else
    footer_before (take (length bytes - 8) bytes) (length_at (drop (length bytes - 8) bytes))

-- what is read of the bytes of a footer: the columns of its contents; or which rule they break, and where
abbrev pub IsParsed : List ℕ → Result Contents footers.Fault → Result FooterColumns SchemaError → Type 0
IsParsed bytes (Ok c) r = IsFooterRead (length bytes) c r
IsParsed bytes (Err fault) (Err OutOfMemory) = ⊤
IsParsed bytes (Err fault) (Err (Footer (Invalid rule offset))) = (rule ≡ fault.rule) × (offset + fault.left ≡ length bytes)
IsParsed bytes (Err fault) r = ⊥

-- what is read of a file, by the footer at its end
abbrev pub IsFileRead : Result (List ℕ) SchemaError → Result FooterColumns SchemaError → Type 0
IsFileRead (Err error) r = r ≡ Err error
IsFileRead (Ok footer) r = IsParsed footer (footer_at footer) r

-- what stands at a key in that footer, which has contents
abbrev pub IsValueRead : Text → Result (List ℕ) SchemaError → Option Spelled → Type 0
IsValueRead key found value =
    (footer : List ℕ) × (c : Contents) × (found ≡ Ok footer) × (footer_at footer ≡ Ok c) × (value ≡ value_or_empty key c.key_value_metadata)

-- what is found of the texts in that footer
abbrev pub AreTextsRead : Result (List ℕ) SchemaError → List texts.Finding → Type 0
AreTextsRead found fs =
    (footer : List ℕ) × (c : Contents) × (found ≡ Ok footer) × (footer_at footer ≡ Ok c) × (fs ≡ texts.findings_of c.schema c.key_value_metadata)
