-- Reading trees whose numbers are texts, one layer after another.
use Rattle.std.proofs.Common.{◌≡◌, ℕ, List, [], ◌∷◌, ◌++◌, Option, Some, None, option_map, option_and_then, Less, Equal, Greater, nat_cmp, refl, sym, ap, ◌∙◌}
use Rattle.std.proofs.lemmas.Map.Lookups.{exact_bytes}
use Rattle.std.specs.Cmp.Lexicographic.{slice_cmp}
use Rattle.std.specs.Ordering.{match_ordering}
use Rattle.std.specs.Str.{IsUtf8}
use Rattle.std.specs.declared.cmp.Ordering.{Ordering}
use Rattle.json.specs.Json as json
use Rattle.json.specs.Lex.{tokens}
use Rattle.serde_json.specs.Data.{Data, Items, item, Members, no_members, member, put}
use Rattle.serde_json.specs.Read as serde_json
use Rattle.serde_json.specs.Read.{of_json, of_items, of_members, max_depth}
use Rattle.n1ql_value.specs.declared.datum.Datum.{Datum}
use Rattle.n1ql_value.specs.Names.{with_pair}
use Rattle.n1ql_json.specs.Reads.{value_read, items_read, members_read, number_checked, read_of}
use Rattle.n1ql_json.proofs.Members.{Pair, moved}
use Rattle.n1ql_json.proofs.Outcomes.{reads_as}
use Rattle.std.specs.Prelude.{Ok}

abbrev pick : {A : Type 0} → A → Option A → A
pick a None = a
pick a (Some b) = b

-- ---- items

read_before : (o : Option Data) (rest : Option Items) (d : Datum) → option_and_then value_read o ≡ Some d
    → option_and_then items_read (option_and_then (λ j. option_map (item j) rest) o) ≡ option_map (λ (ds : List Datum). d ∷ ds) (option_and_then items_read rest)
read_before None rest d e = absurd (cc)
read_before (Some j) None d e = refl
read_before (Some j) (Some js) d e = rw e

-- an item that is read joins the values
pub item_turn : (front : List Datum) (j : json.Json) (js : json.Items) (d : Datum) → option_and_then value_read (of_json j) ≡ Some d
    → option_map (λ (ds : List Datum). front ++ ds) (option_and_then items_read (of_items (json.item j js))) ≡ option_map (λ (ds : List Datum). (front ++ d ∷ []) ++ ds) (option_and_then items_read (of_items js))
item_turn front j js d e =
    ap (option_map (λ (ds : List Datum). front ++ ds)) (read_before (of_json j) (of_items js) d e) ∙ moved front [] d (option_and_then items_read (of_items js))

-- ---- members

first_pair : (l : List ℕ) (o : Option Datum) (r : Option (List Pair)) (ps : List Pair) → option_and_then (λ (x : Datum). option_map (λ (rest : List Pair). (l, x) ∷ rest) r) o ≡ Some ps
    → (w : Datum) × (qs : List Pair) × (o ≡ Some w) × (r ≡ Some qs) × ((l, w) ∷ qs ≡ ps)
first_pair l None r ps h = absurd (cc)
first_pair l (Some w) None ps h = absurd (cc)
first_pair l (Some w) (Some qs) ps h = (w, qs, refl, refl, ap (pick ((l, w) ∷ qs)) h)

put_by : (k l : List ℕ) (d e : Data) (v w : Datum) (ms : Members) (qs : List Pair) → value_read d ≡ Some v → value_read e ≡ Some w → members_read ms ≡ Some qs → members_read (put k d ms) ≡ Some (with_pair k v qs)
    → (o : Ordering) → slice_cmp nat_cmp k l ≡ o
    → members_read (match_ordering o (member k d (member l e ms)) (member l d ms) (member l e (put k d ms))) ≡ Some (match_ordering o ((k, v) ∷ (l, w) ∷ qs) ((k, v) ∷ qs) ((l, w) ∷ with_pair k v qs))
put_by k l d e v w ms qs dv ew is later Less c = rw (dv, ew, is)
put_by k l d e v w ms qs dv ew is later Equal c = rw (dv, is) (ap (λ (n : List ℕ). Some ((n, v) ∷ qs)) (sym (exact_bytes k l c)))
put_by k l d e v w ms qs dv ew is later Greater c = rw (ew, later)

-- a member that is put among others is read as a pair that is put among theirs
put_read : (k : List ℕ) (d : Data) (v : Datum) → value_read d ≡ Some v → (ms : Members) (ps : List Pair) → members_read ms ≡ Some ps → members_read (put k d ms) ≡ Some (with_pair k v ps)
put_read k d v dv no_members ps is = rw dv (ap (λ (qs : List Pair). Some (with_pair k v qs)) (ap (pick []) is))
put_read k d v dv (member l e ms) ps is =
    let first = first_pair l (value_read e) (members_read ms) ps is in
    put_by k l d e v first.0 ms first.1 dv first.2 first.3 (put_read k d v dv ms first.1 first.3) (slice_cmp nat_cmp k l) refl
    ∙ ap (λ (qs : List Pair). Some (with_pair k v qs)) first.4

put_turn : (k : List ℕ) (ms : json.Members) (found : Members) (ps : List Pair) (v : Datum) → members_read found ≡ Some ps → (o : Option Data) → option_and_then value_read o ≡ Some v
    → (next : Members) × (option_and_then (λ d. of_members ms (put k d found)) o ≡ of_members ms next) × (members_read next ≡ Some (with_pair k v ps))
put_turn k ms found ps v is None e = absurd (cc)
put_turn k ms found ps v is (Some d) e = (put k d found, refl, put_read k d v e found ps is)

-- a member that is read joins those found before
pub member_turn : (k : List ℕ) (j : json.Json) (ms : json.Members) (found : Members) (ps : List Pair) (v : Datum) → members_read found ≡ Some ps → option_and_then value_read (of_json j) ≡ Some v
    → (next : Members) × (of_members (json.member k j ms) found ≡ of_members ms next) × (members_read next ≡ Some (with_pair k v ps))
member_turn k j ms found ps v is e = put_turn k ms found ps v is (of_json j) e

-- ---- the whole text

whole_by : (bytes : List ℕ) (d : Datum) → IsUtf8 bytes → (o : Option Data) → serde_json.read bytes ≡ o → option_and_then value_read o ≡ Some d → read_of bytes ≡ Ok d
whole_by bytes d utf8 None is e = absurd (cc)
whole_by bytes d utf8 (Some j) is e = reads_as bytes j utf8 is ∙ ap number_checked e

-- a text whose tree stands for a value is read as that value
pub whole_read : (bytes : List ℕ) (tree : json.Json) (d : Datum) → IsUtf8 bytes → option_and_then (λ p. json.if_last p.0 p.1) (json.value max_depth (tokens bytes)) ≡ Some tree
    → option_and_then value_read (of_json tree) ≡ Some d → read_of bytes ≡ Ok d
whole_read bytes tree d utf8 is e = whole_by bytes d utf8 (of_json tree) (ap (option_and_then of_json) is) e
