-- What stands at a key of a JSON value: as it is written, and as it is read.
use Rattle.std.proofs.Common.{◌≡◌, Bool, true, false, Option, None, Some, is_some, cond, bytes_eq, option_map, refl, sym, ap, ◌∙◌, arith}
use Rattle.std.proofs.lemmas.Option.{option_and_then_some}
use Rattle.json.specs.Json as json
use Rattle.json.specs.Find as find
use Rattle.serde_json.specs.Data.{Data, null, boolean, number, string, array, object, Members, no_members, put}
use Rattle.serde_json.specs.Find.{as_object}
use Rattle.serde_json.specs.Read.{of_json, of_items, of_members, number_of}
use Rattle.arrow_values.specs.Tree.{Text}
use Rattle.value_tokens.specs.Values.{is_object}
use Rattle.geoarrow_meta.specs.declared.edges.Edges.{Edges}
use Rattle.geoarrow_meta.specs.declared.edges.Edges.TheVariants.{Andoyer, Karney, Spherical, Thomas, Vincenty}
use Rattle.geoarrow_meta.specs.Read.{edges_text, edges_data}
use Rattle.geoarrow_meta.specs.KeyValues.{IsNamed}
use Rattle.column_check.specs.Metadata.{unless_null, is_planar, unless_planar}

-- a value that is there, and not null
there : (o : Option json.Json) (j : json.Json) → unless_null o ≡ Some j → o ≡ Some j
there None j h = absurd cc
there (Some json.null) j h = absurd cc
there (Some (json.boolean b)) j h = h
there (Some (json.number s)) j h = h
there (Some (json.string s)) j h = h
there (Some (json.array js)) j h = h
there (Some (json.object ms)) j h = h

-- ---- objects

mapped : {A : Type 0} (f : A → Data) (b : Bool) (o : Option A) (d : Data) → ((a : A) → is_some (as_object (f a)) ≡ b) → option_map f o ≡ Some d → is_some (as_object d) ≡ b
mapped f b None d h read = absurd cc
mapped f b (Some a) d h read = let same : f a ≡ d = cc in ap (λ x. is_some (as_object x)) (sym same) ∙ h a

-- an object is read as one, and nothing else is
pub object_read : (j : json.Json) (d : Data) → of_json j ≡ Some d → is_some (as_object d) ≡ is_object j
object_read json.null d read = grind arith
object_read (json.boolean b) d read = grind arith
object_read (json.number s) d read = mapped number false (number_of s) d (λ n. refl) read
object_read (json.string s) d read = grind arith
object_read (json.array js) d read = mapped array false (of_items js) d (λ ds. refl) read
object_read (json.object ms) d read = mapped object true (of_members ms no_members) d (λ ms. refl) read

-- ---- members that were read

last_read : (o : Option json.Json) (b : Bool) (i j : json.Json) (d : Data) → of_json i ≡ Some d → (o ≡ Some j → ⊥) → find.later_or o (cond b (Some i) None) ≡ Some j → of_json j ≡ None → ⊥
last_read (Some l) b i j d here later is none = later is
last_read None true i j d here later is none = absurd cc
last_read None false i j d here later is none = absurd cc

member_read : (q : Text) (js : json.Members) (found ms : Members) (j : json.Json) → of_members js found ≡ Some ms → find.get_member q js ≡ Some j → of_json j ≡ None → ⊥
member_read q json.no_members found ms j read is none = absurd cc
member_read q (json.member k i js) found ms j read is none =
    option_and_then_some (λ d. of_members js (put k d found)) (of_json i) ms read
    (λ d here next. last_read (find.get_member q js) (bytes_eq k q) i j d here (λ later. member_read q js (put k d found) ms j next later none) is none)

members_read : (q : Text) (js : json.Members) (o : Option Members) (d : Data) (j : json.Json) → of_members js no_members ≡ o → option_map object o ≡ Some d → find.get_member q js ≡ Some j → of_json j ≡ None → ⊥
members_read q js None d j read whole is none = absurd cc
members_read q js (Some ms) d j read whole is none = member_read q js no_members ms j read is none

-- of a value that is read, each member is
at_read : (q : Text) (i : json.Json) (d : Data) (j : json.Json) → of_json i ≡ Some d → find.get q i ≡ Some j → of_json j ≡ None → ⊥
at_read q json.null d j read is none = absurd cc
at_read q (json.boolean b) d j read is none = absurd cc
at_read q (json.number s) d j read is none = absurd cc
at_read q (json.string s) d j read is none = absurd cc
at_read q (json.array js) d j read is none = absurd cc
at_read q (json.object js) d j read is none = members_read q js (of_members js no_members) d j refl read is none

-- ---- words

not_mapped : {A : Type 0} (f : A → Data) (s : Text) (o : Option A) → ((a : A) → string s ≡ f a → ⊥) → Some (string s) ≡ option_map f o → ⊥
not_mapped f s None h is = absurd cc
not_mapped f s (Some a) h is = h a cc

other : (j : json.Json) → find.as_str j ≡ None → (of_json j ≡ None → ⊥) → IsNamed string None (of_json j)
other j no_text reads None is = reads (sym is)
other json.null no_text reads (Some s) is = absurd cc
other (json.boolean b) no_text reads (Some s) is = absurd cc
other (json.number n) no_text reads (Some s) is = not_mapped number s (number_of n) (λ a e. absurd cc) is
other (json.string t) no_text reads (Some s) is = absurd cc
other (json.array js) no_text reads (Some s) is = not_mapped array s (of_items js) (λ a e. absurd cc) is
other (json.object ms) no_text reads (Some s) is = not_mapped object s (of_members ms no_members) (λ a e. absurd cc) is

-- at a key where no text stands is no text, once the value is read
pub no_word : (q : Text) (i : json.Json) (d : Data) (j : json.Json) → of_json i ≡ Some d → unless_null (find.get q i) ≡ Some j → find.as_str j ≡ None → IsNamed string None (of_json j)
no_word q i d j read is no_text = other j no_text (at_read q i d j read (there (find.get q i) j is))

-- where no text stands, no name does
pub no_name : {A : Type 0} (text : A → Text) (found : Option Data) → IsNamed string None found → IsNamed (λ a. string (text a)) None found
no_name text found other None e = other None e
no_name text found other (Some a) e = other (Some (text a)) e

-- ---- edges

-- edges of the format are not planar by name
pub edges_stand : (e : Edges) → unless_planar (Some (edges_data e)) ≡ Some (edges_data e)
edges_stand Andoyer = refl
edges_stand Karney = refl
edges_stand Spherical = refl
edges_stand Thomas = refl
edges_stand Vincenty = refl

-- where no text stands, no edges do
pub no_edges : (found : Option Data) → IsNamed string None found → IsNamed edges_data None (unless_planar found)
no_edges None other = absurd (other None refl)
no_edges (Some (string s)) other = absurd (other (Some s) refl)
no_edges (Some null) other = no_name edges_text (Some null) other
no_edges (Some (boolean b)) other = no_name edges_text (Some (boolean b)) other
no_edges (Some (number n)) other = no_name edges_text (Some (number n)) other
no_edges (Some (array ds)) other = no_name edges_text (Some (array ds)) other
no_edges (Some (object ms)) other = no_name edges_text (Some (object ms)) other

pub not_planar : (found : Option Data) → IsNamed string None found → false ≡ is_planar found
not_planar None other = refl
not_planar (Some (string s)) other = absurd (other (Some s) refl)
not_planar (Some null) other = refl
not_planar (Some (boolean b)) other = refl
not_planar (Some (number n)) other = refl
not_planar (Some (array ds)) other = refl
not_planar (Some (object ms)) other = refl
