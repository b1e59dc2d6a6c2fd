-- What a file of a format that is not read is, and what to try with it (docs/FORMAT.md, 2.7).
use Rattle.std.specs.Prelude.{Option, None, Some, codes}
use Rattle.arrow_values.specs.Tree.{Text as Words}
use Rattle.column_files.specs.declared.foreign.Foreign.{Foreign}
use Rattle.column_files.specs.declared.foreign.Foreign.TheVariants.{Feather, Sqlite, FlatGeobuf, Shapefile, Gzip, Zstd, Bzip2, Xz, Zip, Orc, Avro, DuckDb, Hdf5, NetCdf, Tiff, Pdf, PmTiles, Utf16, JsonArray, LfsPointer, Html, Xml, Text, Unknown}

abbrev pub format_name : Foreign → Words
format_name Feather = codes "a Feather file of version 1"
format_name Sqlite = codes "a GeoPackage or SQLite database"
format_name FlatGeobuf = codes "a FlatGeobuf file"
format_name Shapefile = codes "a Shapefile"
format_name Gzip = codes "a file compressed by gzip"
format_name Zstd = codes "a file compressed by zstd"
format_name Bzip2 = codes "a file compressed by bzip2"
format_name Xz = codes "a file compressed by xz"
format_name Zip = codes "a zip archive"
format_name Orc = codes "an ORC file"
format_name Avro = codes "an Avro file"
format_name DuckDb = codes "a DuckDB database"
format_name Hdf5 = codes "an HDF5 file"
format_name NetCdf = codes "a netCDF file"
format_name Tiff = codes "a TIFF image"
format_name Pdf = codes "a PDF document"
format_name PmTiles = codes "a PMTiles archive"
format_name Utf16 = codes "text in UTF-16"
format_name JsonArray = codes "a JSON array"
format_name LfsPointer = codes "a Git LFS pointer"
format_name Html = codes "an HTML page"
format_name Xml = codes "an XML document"
format_name Text = codes "text"
format_name Unknown = codes "bytes of no known format"

-- what converts files for GIS, and for tables
abbrev ogr2ogr : Words
ogr2ogr = codes "Try ogr2ogr out.parquet FILE"

abbrev to_parquet : Words
to_parquet = codes "Convert it to Parquet"

abbrev pub format_help : Foreign → Option Words
format_help Feather = Some (codes "Write it anew: pyarrow.feather.read_table, then write_feather")
format_help Sqlite = Some ogr2ogr
format_help FlatGeobuf = Some ogr2ogr
format_help Shapefile = Some ogr2ogr
format_help Gzip = Some (codes "Try gzip -dc FILE | geoarrow_check -")
format_help Zstd = Some (codes "Try zstd -dc FILE | geoarrow_check -")
format_help Bzip2 = Some (codes "Try bzip2 -dc FILE | geoarrow_check -")
format_help Xz = Some (codes "Try xz -dc FILE | geoarrow_check -")
format_help Zip = Some (codes "Unzip it, and check what is in it")
format_help Orc = Some to_parquet
format_help Avro = Some to_parquet
format_help DuckDb = Some to_parquet
format_help Hdf5 = None
format_help NetCdf = None
format_help Tiff = None
format_help Pdf = None
format_help PmTiles = None
format_help Utf16 = Some (codes "Try iconv -f UTF-16 -t UTF-8 FILE | geoarrow_check -")
format_help JsonArray = Some (codes "Try jq -c '.[]' FILE | geoarrow_check -")
format_help LfsPointer = Some (codes "Try git lfs pull")
format_help Html = Some (codes "A download may have given a page in place of the file")
format_help Xml = Some (codes "A download may have given an error in place of the file")
format_help Text = Some (codes "Lines have one JSON object each")
format_help Unknown = None
