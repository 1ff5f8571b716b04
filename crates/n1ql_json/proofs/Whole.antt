-- The text of a value is UTF-8, and JSON that reads as what was written.
use Rattle.std.proofs.Common.{◌≡◌, ◌≤◌, ◌<◌, ◌^◌, ℕ, ℤ, suc, max, pos, negsuc, List, [], ◌∷◌, ◌++◌, map, Bool, true, false, Some, decimal, option_map, option_and_then, IsUtf8, Less, Equal, Greater, nat_cmp, refl, sym, ap, ap₂, ◌∙◌, subst, arith, append_assoc, append-nil}
use Rattle.std.specs.Prelude.{⊤, nat_lt}
use Rattle.std.specs.Str.{is_utf8}
use Rattle.std.specs.Ordering.{is_lt, ordering_reverse}
use Rattle.std.specs.declared.cmp.Ordering.{Ordering}
use Rattle.std.specs.Cmp.Lexicographic.{slice_cmp}
use Rattle.std.proofs.lemmas.Bool.{and_parts, false≢true}
use Rattle.std.proofs.lemmas.Bool.Decides.{nat_tests}
use Rattle.std.proofs.lemmas.Cmp.{nat_list_cmp_total}
use Rattle.std.proofs.lemmas.Fmt.{IsAscii-decimal}
use Rattle.std.proofs.lemmas.Str.{IsUtf8-append, IsUtf8-nil, IsUtf8-from_ascii, IsUtf8-from_is_utf8}
use Rattle.json.specs.Json as json
use Rattle.json.specs.Lex.{tokens}
use Rattle.json.specs.Print.{quoted}
use Rattle.json.specs.Tree as tree
use Rattle.json.specs.Tree.{HasNumbers, ItemsHaveNumbers, MembersHaveNumbers, json_tokens}
use Rattle.json.proofs.Printed.Decimals.{IsNumber-decimal, IsNumber-signed_decimal}
use Rattle.json.proofs.Printed.Tokens.{tokens-print}
use Rattle.json.proofs.Printed.Trees.{value-json_tokens, ArePrintable-json_tokens}
use Rattle.json.proofs.Printed.Utf8.{IsUtf8-quoted, IsUtf8-boolean, IsUtf8-are_ascii}
use Rattle.serde_json.specs.Data.{Data, null, boolean, number, string, array, object, Items, no_items, item, Members, no_members, member, put, depth as json_depth, items_depth, members_depth}
use Rattle.serde_json.specs.Find.{of_integer}
use Rattle.serde_json.specs.Read.{max_depth, of_json, of_items, of_members, read}
use Rattle.serde_json.specs.View.{items_of}
use Rattle.serde_json.specs.Written.{outline, items_outline, members_outline, compact_text, items_text, members_text, comma_if}
use Rattle.serde_json.proofs.Numbers.{number_of-decimal, number_of-negative}
use Rattle.serde_json.proofs.Texts.{print-outline}
use Rattle.n1ql_value.specs.declared.datum.Datum.{Datum, fold-roll-Datum}
use Rattle.n1ql_value.specs.declared.datum.Datum.TheOpen.{Datum-F}
use Rattle.n1ql_value.specs.declared.datum.Datum.TheFolds.{map-Datum}
use Rattle.n1ql_value.specs.Names.{NamesGrow}
use Rattle.n1ql_json.specs.Json.{json_of, json_layer, json_pair, members_with, text_of}
use Rattle.n1ql_json.specs.ReadBack.{IsReadBack}
use Rattle.n1ql_json.specs.Valid.{all_true, is_int64, is_below_first, names_grow, is_pair, is_value_layer, is_value}
use Rattle.n1ql_json.proofs.Floats.{json_of-roll, by_layers}
use Rattle.n1ql_json.proofs.Held.{pair_test}
use Rattle.n1ql_json.proofs.Back.{read_back}

-- ---- as deep as the value

mutual
  depth-outline : (d : Data) → tree.depth (outline d) ≡ json_depth d
  depth-outline null = refl
  depth-outline (boolean b) = refl
  depth-outline (number n) = refl
  depth-outline (string s) = refl
  depth-outline (array ds) = ap suc (depth-items_outline ds)
  depth-outline (object ms) = ap suc (depth-members_outline ms)

  depth-items_outline : (ds : Items) → tree.items_depth (items_outline ds) ≡ items_depth ds
  depth-items_outline no_items = refl
  depth-items_outline (item d ds) = ap₂ max (depth-outline d) (depth-items_outline ds)

  depth-members_outline : (ms : Members) → tree.members_depth (members_outline ms) ≡ members_depth ms
  depth-members_outline no_members = refl
  depth-members_outline (member k d ms) = ap₂ max (depth-outline d) (depth-members_outline ms)

-- ---- the members go in one after another

abbrev Pairs : Type 0
Pairs = List (List ℕ × Data)

below_middle : (x : List ℕ × Data) (done : Pairs) (p : List ℕ × Data) (rest : Pairs) → NamesGrow (x ∷ (done ++ p ∷ rest)) → slice_cmp nat_cmp x.0 p.0 ≡ Less
below_middle x [] p rest g = g.0
below_middle x (y ∷ done) p rest g = nat_list_cmp_total.trans x.0 y.0 p.0 g.0 (below_middle y done p rest g.1)

put_end : (done : Pairs) (p : List ℕ × Data) (rest : Pairs) → NamesGrow (done ++ p ∷ rest) → put p.0 p.1 (members_with done) ≡ members_with (done ++ p ∷ [])
put_end [] p rest g = refl
put_end (x ∷ done) p rest g =
    let above : slice_cmp nat_cmp p.0 x.0 ≡ Greater = nat_list_cmp_total.antisymm p.0 x.0 ∙ ap ordering_reverse (below_middle x done p rest g) in
    rw above (ap (member x.0 x.1) (put_end done p rest g.1))

AreRead : Pairs → Type 0
AreRead [] = ⊤
AreRead (p ∷ ps) = (of_json (outline p.1) ≡ Some p.1) × AreRead ps

abbrev outlined : Pairs → json.Members
outlined ps = members_outline (members_with ps)

of_members-outline : (done rest : Pairs) → NamesGrow (done ++ rest) → AreRead rest → of_members (outlined rest) (members_with done) ≡ Some (members_with (done ++ rest))
unfolding AreRead
of_members-outline done [] g h = ap (λ ps. Some (members_with ps)) (sym (append-nil done))
of_members-outline done (p ∷ rest) g h =
    let moved : (done ++ p ∷ []) ++ rest ≡ done ++ p ∷ rest = append_assoc done (p ∷ []) rest in
    ap (option_and_then (λ d. of_members (outlined rest) (put p.0 d (members_with done)))) h.0
    ∙ (ap (of_members (outlined rest)) (put_end done p rest g)
    ∙ (of_members-outline (done ++ p ∷ []) rest (subst NamesGrow (sym moved) g) h.1 ∙ ap (λ ps. Some (members_with ps)) moved))

is_lt-less : (o : Ordering) → is_lt o ≡ true → o ≡ Less
is_lt-less Less e = refl
is_lt-less Equal e = absurd (false≢true e)
is_lt-less Greater e = absurd (false≢true e)

NamesGrow-from_test : (ps : List (List ℕ × Datum)) → names_grow (map pair_test ps) ≡ true → NamesGrow (map json_pair ps)
NamesGrow-from_test [] h = tt
NamesGrow-from_test (p ∷ []) h = (tt, tt)
NamesGrow-from_test (p ∷ q ∷ ps) h =
    let both = and_parts (is_below_first p.0 (map pair_test (q ∷ ps))) _ h in
    (is_lt-less _ both.0, NamesGrow-from_test (q ∷ ps) both.1)

-- ---- what is shown of the JSON of each value

record IsWritten (d : Data) : Type 0 where
  numbers : HasNumbers (outline d)
  reads : of_json (outline d) ≡ Some d
  utf8 : IsUtf8 (compact_text d)

small : (n b : ℕ) → nat_lt n b ≡ true → n < b
small n b h = grind (arith, nat_tests)

written_int : (z : ℤ) → is_int64 z ≡ true → IsWritten (number (of_integer z))
written_int (pos n) h =
    let below : n < 2 ^ 63 = small n (2 ^ 63) h in
    let fits : n < 2 ^ 64 = omega arith in
    record { numbers = IsNumber-decimal n fits; reads = ap (option_map number) (number_of-decimal n fits); utf8 = IsUtf8-from_ascii (decimal n) (IsAscii-decimal n fits) }
written_int (negsuc n) h =
    let below : n < 2 ^ 63 = small n (2 ^ 63) h in
    let fits : suc n < 2 ^ 64 = omega arith in
    record {
      numbers = IsNumber-signed_decimal (negsuc n) below;
      reads = ap (option_map number) (number_of-negative n below);
      utf8 = IsUtf8-append (45 ∷ []) (decimal (suc n)) (IsUtf8-are_ascii (45 ∷ []) refl) (IsUtf8-from_ascii (decimal (suc n)) (IsAscii-decimal (suc n) fits));
    }

abbrev Shown : Datum → Type 0
Shown d = is_value d ≡ true → IsWritten (json_of d)

abbrev Kept : Type 0
Kept = (d : Datum) × Shown d

abbrev whole : Kept → Datum
whole e = e.0

abbrev whole_pair : List ℕ × Kept → List ℕ × Datum
whole_pair p = (p.0, p.1.0)

comma-utf8 : (later : Bool) → IsUtf8 (comma_if later)
comma-utf8 true = IsUtf8-are_ascii (44 ∷ []) refl
comma-utf8 false = IsUtf8-nil

byte_before : (x : ℕ) (bs : List ℕ) → IsUtf8 (x ∷ []) → IsUtf8 bs → IsUtf8 (x ∷ bs)
byte_before x bs u v = IsUtf8-append (x ∷ []) bs u v

abbrev jsons : List Kept → Items
jsons es = items_of (map json_of (map whole es))

record AreWritten (ds : Items) : Type 0 where
  numbers : ItemsHaveNumbers (items_outline ds)
  reads : of_items (items_outline ds) ≡ Some ds
  utf8 : (later : Bool) → IsUtf8 (items_text later ds)

items_written : (es : List Kept) → all_true (map is_value (map whole es)) ≡ true → AreWritten (jsons es)
items_written [] h = record { numbers = tt; reads = refl; utf8 = λ later. IsUtf8-are_ascii (93 ∷ []) refl }
items_written (e ∷ es) h =
    let both = and_parts (is_value e.0) _ h in
    let here = e.1 both.0 in
    let rest = items_written es both.1 in
    record {
      numbers = (here.numbers, rest.numbers);
      reads = ap (option_and_then (λ d. option_map (item d) (of_items (items_outline (jsons es))))) here.reads ∙ ap (option_map (item (json_of e.0))) rest.reads;
      utf8 = λ later. IsUtf8-append (comma_if later) _ (comma-utf8 later) (IsUtf8-append (compact_text (json_of e.0)) _ here.utf8 (rest.utf8 true));
    }

abbrev json_pairs : List (List ℕ × Kept) → Pairs
json_pairs es = map json_pair (map whole_pair es)

record MembersAreWritten (ps : Pairs) : Type 0 where
  numbers : MembersHaveNumbers (outlined ps)
  reads : AreRead ps
  utf8 : (later : Bool) → IsUtf8 (members_text later (members_with ps))

members_written : (es : List (List ℕ × Kept)) → all_true (map is_pair (map pair_test (map whole_pair es))) ≡ true → MembersAreWritten (json_pairs es)
unfolding AreRead
members_written [] h = record { numbers = tt; reads = tt; utf8 = λ later. IsUtf8-are_ascii (125 ∷ []) refl }
members_written (e ∷ es) h =
    let both = and_parts (is_pair (pair_test (whole_pair e))) _ h in
    let named = and_parts (is_utf8 e.0) (is_value e.1.0) both.0 in
    let here = e.1.1 named.1 in
    let rest = members_written es both.1 in
    record {
      numbers = (here.numbers, rest.numbers);
      reads = (here.reads, rest.reads);
      utf8 = λ later.
          IsUtf8-append (comma_if later) _ (comma-utf8 later)
          (IsUtf8-append (quoted e.0) _ (IsUtf8-quoted e.0 (IsUtf8-from_is_utf8 e.0 named.0))
          (byte_before 58 _ (IsUtf8-are_ascii (58 ∷ []) refl) (IsUtf8-append (compact_text (json_of e.1.0)) _ here.utf8 (rest.utf8 true))));
    }

layer_written : (y : Datum-F Kept) → is_value_layer (map-Datum Datum Bool is_value (map-Datum Kept Datum whole y)) ≡ true → IsWritten (json_layer (map-Datum Datum Data json_of (map-Datum Kept Datum whole y)))
layer_written Datum-F.Missing h = record { numbers = tt; reads = refl; utf8 = IsUtf8-are_ascii _ refl }
layer_written Datum-F.Null h = record { numbers = tt; reads = refl; utf8 = IsUtf8-are_ascii _ refl }
layer_written (Datum-F.Bool b) h = record { numbers = tt; reads = refl; utf8 = IsUtf8-boolean b }
layer_written (Datum-F.Int z) h = written_int z h
layer_written (Datum-F.Text t) h = record { numbers = tt; reads = refl; utf8 = IsUtf8-quoted t (IsUtf8-from_is_utf8 t h) }
layer_written (Datum-F.Array es) h =
    let w = items_written es h in
    record { numbers = w.numbers; reads = ap (option_map array) w.reads; utf8 = byte_before 91 _ (IsUtf8-are_ascii (91 ∷ []) refl) (w.utf8 false) }
layer_written (Datum-F.Object es) h =
    let both = and_parts (names_grow (map pair_test (map whole_pair es))) _ h in
    let w = members_written es both.1 in
    record {
      numbers = w.numbers;
      reads = ap (option_map object) (of_members-outline [] (json_pairs es) (NamesGrow-from_test (map whole_pair es) both.0) w.reads);
      utf8 = byte_before 123 _ (IsUtf8-are_ascii (123 ∷ []) refl) (w.utf8 false);
    }

written : (d : Datum) → is_value d ≡ true → IsWritten (json_of d)
written = by_layers Shown (λ y h.
    let x = map-Datum Kept Datum whole y in
    subst IsWritten (sym (json_of-roll x)) (layer_written y (sym (fold-roll-Datum Bool is_value_layer x) ∙ h)))

read_tokens : (text : List ℕ) (d : Data) → tokens text ≡ json_tokens (outline d) → tree.depth (outline d) ≤ max_depth → of_json (outline d) ≡ Some d → read text ≡ Some d
read_tokens text d same shallow reads =
    ap (λ ts. option_and_then of_json (option_and_then (λ p. json.if_last p.0 p.1) (json.value max_depth ts))) (same ∙ sym (append-nil _))
    ∙ (ap (λ r. option_and_then of_json (option_and_then (λ p. json.if_last p.0 p.1) r)) (value-json_tokens (outline d) max_depth [] shallow) ∙ reads)

-- the text of each value that a program can hold is read back
pub is_read_back : (d : Datum) → is_value d ≡ true → IsReadBack d
is_read_back d held =
    let j = json_of d in
    let w = written d held in
    let same : tokens (compact_text j) ≡ json_tokens (outline j) = ap tokens (sym (print-outline j)) ∙ tokens-print (json_tokens (outline j)) (ArePrintable-json_tokens (outline j) w.numbers) in
    read_back d (text_of d) refl w.utf8 (λ shallow. read_tokens (compact_text j) j same (omega (arith, depth-outline j)) w.reads) held
