-- The text of metadata is read as the object.
use Rattle.std.proofs.Common.{◌≡◌, ℕ, List, [], ◌∷◌, ◌++◌, codes, Option, Some, None, option_map, option_and_then, refl, sym, ap, ◌∙◌, arith}
use Rattle.std.proofs.lemmas.List.{append-nil}
use Rattle.json.specs.Token.{Token, begin_object, end_object, key, string}
use Rattle.json.specs.Lex.{tokens}
use Rattle.json.specs.Json.{value, parse_map, if_last}
use Rattle.json.specs.Tree.{json_tokens}
use Rattle.json.proofs.Unique.Spelling.{value-json_tokens_back}
use Rattle.json.proofs.Nesting.{value-depth}
use Rattle.json.proofs.Printed.Trees.{value-json_tokens}
use Rattle.serde_json.specs.Data.{Data, object, Members, no_members, put}
use Rattle.serde_json.specs.Data as tree
use Rattle.serde_json.specs.Read.{of_json, converted, read}
use Rattle.value_tokens.specs.Next.{next_value, next_members}
use Rattle.value_tokens.proofs.Turns.{converted_some, value-object, member_read, members_over}
use Rattle.value_tokens.proofs.Beginnings.{next_string, next_null}
use Rattle.geoarrow_meta.specs.declared.edges.Edges.{Edges}
use Rattle.geoarrow_meta.specs.declared.crs.crs_type.CrsType.{CrsType}
use Rattle.geoarrow_meta.specs.Read.{crs_type_text, edges_text}
use Rattle.geoarrow_meta.specs.declared.crs_text.WrittenCrs.{WrittenCrs}
use Rattle.geoarrow_meta.specs.declared.crs_text.WrittenCrs.TheVariants.{Absent, Text, Json}
use Rattle.geoarrow_meta.specs.CrsText.{IsCrs}
use Rattle.geoarrow_meta.specs.MetadataText.{crs_tokens, string_tokens, metadata_tokens, metadata_data}

-- a value that is JSON by itself is the next one where other tokens follow
followed : (ts rest : List Token) (d : Data) → next_value 126 ts ≡ Some (d, []) → next_value 126 (ts ++ rest) ≡ Some (d, rest)
followed ts rest d e =
    let j = converted_some of_json (value 126 ts) d [] e in
    let spelled : ts ≡ json_tokens j.0 = value-json_tokens_back 126 ts [] j.0 j.1 ∙ append-nil (json_tokens j.0) in
    ap (λ us. next_value 126 (us ++ rest)) spelled ∙ ap (converted of_json) (value-json_tokens j.0 126 rest (value-depth 126 ts [] j.0 j.1)) ∙ ap (option_map (λ x. (x, rest))) j.2

pub crs_next : (crs : WrittenCrs) (rest : List Token) (d : Data) → IsCrs crs d → next_value 126 (crs_tokens crs ++ rest) ≡ Some (d, rest)
crs_next Absent rest d is = next_null 126 rest ∙ ap (λ x. Some (x, rest)) (sym is)
crs_next (Text s) rest d is = next_string 126 s.now rest ∙ ap (λ x. Some (x, rest)) (sym is)
crs_next (Json s) rest d is = followed (tokens s.now) rest d is

-- the members with a text at the key, if there is one
abbrev put_text : List ℕ → Option (List ℕ) → Members → Members
put_text k None ms = ms
put_text k (Some s) ms = put k (tree.string s) ms

text_next : (k : List ℕ) (s : Option (List ℕ)) (old : Members) (rest : List Token) → next_members 126 old (string_tokens k s ++ rest) ≡ next_members 126 (put_text k s old) rest
text_next k None old rest = refl
text_next k (Some s) old rest = member_read 126 old k (key k ∷ string s ∷ rest) (string s ∷ rest) rest (tree.string s) refl (next_string 126 s rest)

in_order : (d : Data) (t : Option CrsType) (e : Option Edges)
    → object (put_text (codes "edges") (option_map edges_text e) (put_text (codes "crs_type") (option_map crs_type_text t) (put (codes "crs") d no_members))) ≡ metadata_data d t e
in_order d None None = refl
in_order d None (Some e) = refl
in_order d (Some t) None = refl
in_order d (Some t) (Some e) = refl

whole : (text : List ℕ) (d : Data) → next_value 127 (tokens text) ≡ Some (d, []) → read text ≡ Some d
whole text d e =
    let j = converted_some of_json (value 127 (tokens text)) d [] e in
    ap (λ o. option_and_then of_json (option_and_then (λ p. if_last p.0 p.1) o)) j.1 ∙ j.2

pub reads : (crs : WrittenCrs) (d : Data) (t : Option CrsType) (e : Option Edges) (text : List ℕ) → IsCrs crs d → tokens text ≡ metadata_tokens (crs_tokens crs) t e → read text ≡ Some (metadata_data d t e)
reads crs d t e text is are =
    let last = end_object ∷ [] in
    let edges = string_tokens (codes "edges") (option_map edges_text e) ++ last in
    let types = string_tokens (codes "crs_type") (option_map crs_type_text t) ++ edges in
    let ts = crs_tokens crs ++ types in
    let one = put (codes "crs") d no_members in
    let two = put_text (codes "crs_type") (option_map crs_type_text t) one in
    let three = put_text (codes "edges") (option_map edges_text e) two in
    let opened : next_value 127 (begin_object ∷ key (codes "crs") ∷ ts) ≡ parse_map object (next_members 126 no_members (key (codes "crs") ∷ ts)) = value-object 127 (key (codes "crs") ∷ ts) (omega arith) in
    let named : next_members 126 no_members (key (codes "crs") ∷ ts) ≡ next_members 126 one types = member_read 126 no_members (codes "crs") (key (codes "crs") ∷ ts) ts types d refl (crs_next crs types d is) in
    let closed : next_members 126 three last ≡ Some (three, []) = members_over 126 three last [] refl in
    let members = named ∙ text_next (codes "crs_type") (option_map crs_type_text t) one edges ∙ text_next (codes "edges") (option_map edges_text e) two last ∙ closed in
    whole text (metadata_data d t e) (ap (next_value 127) are ∙ opened ∙ ap (parse_map object) members ∙ ap (λ x. Some (x, [])) (in_order d t e))
