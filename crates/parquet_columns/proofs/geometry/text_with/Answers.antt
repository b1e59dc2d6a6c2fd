use Rattle.std.proofs.Common.{◌≡◌, IfOk, string_bytes, subst, sym}
use Rattle.arrow_values.specs.Texts.{text_of}
use Rattle.parquet_columns.specs.Geometry.{crs_in, text_with}
use Rattle.parquet_columns.specs.Typed.{IsTyped, IsNamed}
use Rattle.parquet_columns.proofs.Named.{written_text}
use Rattle.parquet_columns.proofs.geometry.text_with.Goals as goal

pub metadata_text-requires : goal.metadata_text-requires
metadata_text-requires c =
    let pairs = c.args.values.now in
    let is : IsTyped (c.in-Written.written, c.in-Written.crs_type) (crs_in pairs (text_of c.args.crs)) =
    subst (λ n. IsNamed pairs n (crs_in pairs (text_of c.args.crs))) c.in-Written.is (c.in_ok-named.ensures pairs) in
    is.value

pub returns-in-Written-clause-text : goal.returns-in-Written-clause-text
returns-in-Written-clause-text c =
    let pairs = c.args.values.now in
    let is : IsTyped (c.in-Written.written, c.in-Written.crs_type) (crs_in pairs (text_of c.args.crs)) =
    subst (λ n. IsNamed pairs n (crs_in pairs (text_of c.args.crs))) c.in-Written.is (c.in_ok-named.ensures pairs) in
    written_text (crs_in pairs (text_of c.args.crs)) c.in-Written.written c.in-Written.crs_type c.args.edges c.metadata_text.result is c.metadata_text.ensures.text

pub returns-in-Keyed-clause-text : goal.returns-in-Keyed-clause-text
returns-in-Keyed-clause-text c =
    let pairs = c.args.values.now in
    let is = subst (λ n. IsNamed pairs n (crs_in pairs (text_of c.args.crs))) c.in-Keyed.is (c.in_ok-named.ensures pairs) in
    subst (λ t. IfOk c.keyed_text.result (λ made. string_bytes made ≡ text_with t c.args.edges)) (sym is) c.keyed_text.ensures.text
