-- What stands at the three keys, as members are put in one after another.
use Rattle.std.proofs.Common.{◌≡◌, List, false, bytes_eq, cond, Option, None, Some, codes, refl, ◌∙◌, arith}
use Rattle.std.proofs.lemmas.Slice.Eq.{bytes_eq-Decides}
use Rattle.json.specs.Token.{Token}
use Rattle.json.specs.Json.{read_key}
use Rattle.serde_json.specs.Data.{Data, null, string, object, Members, no_members, put}
use Rattle.serde_json.specs.Find.{as_null, as_str, get_member}
use Rattle.arrow_values.specs.Tree.{Text}
use Rattle.value_tokens.specs.Next.{next_value, next_members}
use Rattle.value_tokens.proofs.Turns.{member_read}
use Rattle.value_tokens.proofs.Presence.{get_member-put_at}
use Rattle.geoarrow_meta.specs.declared.edges.Edges.{Edges}
use Rattle.geoarrow_meta.specs.declared.crs.crs_type.CrsType.{CrsType}
use Rattle.geoarrow_meta.specs.Read.{crs_type_data, edges_data, present}
use Rattle.geoarrow_meta.specs.KeyValues.{IsNamed, AreValuesOf}

-- ---- words

-- where no text stands, no name does
pub no_name : {A : Type 0} (text : A → Text) (found : Option Data) → IsNamed string None found → IsNamed (λ a. string (text a)) None found
no_name text found other None e = other None e
no_name text found other (Some a) e = other (Some (text a)) e

-- a value that is neither null nor a text
pub no_word : (d : Data) → as_null d ≡ None → as_str d ≡ None → IsNamed string None (present (Some d))
no_word null e f o is = cc
no_word (string s) e f o is = cc
no_word _ e f None is = cc
no_word _ e f (Some s) is = cc

-- ---- a member that is put

differs : (q k : Text) → (k ≡ q → ⊥) → bytes_eq q k ≡ false
differs q k other = grind (arith, bytes_eq-Decides q k)

-- what is found at a key once a value stands at k
abbrev put_at : Text → Text → Data → Members → Option Data
put_at q k d found = present (cond (bytes_eq q k) (Some d) (get_member q found))

-- ---- the members that are taken so far

pub record AreValuesSoFar (depth : _) (all left : List Token) (crs : Option Data) (crs_type : Option (Option CrsType)) (edges : Option (Option Edges)) : Type 0 where
  pub found : Members
  pub decides : next_members depth no_members all ≡ next_members depth found left
  pub values : AreValuesOf (object found) crs crs_type edges

-- before the first member
pub none_yet : (depth : _) (all : List Token) → AreValuesSoFar depth all all None (Some None) (Some None)
none_yet depth all = record { found = no_members; decides = refl; values = record { at_crs = refl; at_crs_type = refl; at_edges = refl } }

module _ {depth : _} {all left : List Token} {crs : Option Data} {crs_type : Option (Option CrsType)} {edges : Option (Option Edges)}
    (way : AreValuesSoFar depth all left crs crs_type edges) (k : Text) (s : List Token) (named : read_key left ≡ Some (Some k, s)) where
  module _ {d : Data} {r : List Token} (read : next_value depth s ≡ Some (d, r)) where
    goes_on : {crs : Option Data} {crs_type : Option (Option CrsType)} {edges : Option (Option Edges)} → crs ≡ put_at (codes "crs") k d way.found
        → IsNamed crs_type_data crs_type (put_at (codes "crs_type") k d way.found) → IsNamed edges_data edges (put_at (codes "edges") k d way.found) → AreValuesSoFar depth all r crs crs_type edges
    goes_on crs crs_type edges = record {
      found = put k d way.found;
      decides = way.decides ∙ member_read depth way.found k left s r d named read;
      values = record {
        at_crs = rw (get_member-put_at (codes "crs") k d way.found) crs;
        at_crs_type = rw (get_member-put_at (codes "crs_type") k d way.found) crs_type;
        at_edges = rw (get_member-put_at (codes "edges") k d way.found) edges;
      };
    }

    -- of one of the three keys
    pub crs_taken : {crs : Option Data} → k ≡ codes "crs" → crs ≡ present (Some d) → AreValuesSoFar depth all r crs crs_type edges
    crs_taken is crs = goes_on (rw is crs) (rw is way.values.at_crs_type) (rw is way.values.at_edges)

    pub crs_type_taken : {crs_type : Option (Option CrsType)} → k ≡ codes "crs_type" → IsNamed crs_type_data crs_type (present (Some d)) → AreValuesSoFar depth all r crs crs_type edges
    crs_type_taken is crs_type = goes_on (rw is way.values.at_crs) (rw is crs_type) (rw is way.values.at_edges)

    pub edges_taken : {edges : Option (Option Edges)} → k ≡ codes "edges" → IsNamed edges_data edges (present (Some d)) → AreValuesSoFar depth all r crs crs_type edges
    edges_taken is edges = goes_on (rw is way.values.at_crs) (rw is way.values.at_crs_type) (rw is edges)

    -- and of another
    pub passed : (k ≡ codes "crs" → ⊥) → (k ≡ codes "crs_type" → ⊥) → (k ≡ codes "edges" → ⊥) → AreValuesSoFar depth all r crs crs_type edges
    passed a b c = goes_on (rw (differs (codes "crs") k a) way.values.at_crs) (rw (differs (codes "crs_type") k b) way.values.at_crs_type) (rw (differs (codes "edges") k c) way.values.at_edges)
