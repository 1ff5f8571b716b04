-- What a line after the header that is read says.
use Rattle.std.proofs.Common.{◌≡◌, ℕ, ◌<◌, ◌≤◌, Bool, true, false, cond, not, List, [], ◌∷◌, length, map, Option, Some, None, Result, Ok, Err, ℤ, pos, negsuc, refl, arith, subst, leb}
use borrow.Author.Tests.{ltb-true}
use Rattle.std.specs.Prelude.{◌&&◌, codes, int_le, int_lt, unsigned_abs}
use Rattle.std.specs.List.{AllByRecursion}
use Rattle.std.specs.Option.{option_map_or, is_some, ok_or}
use Rattle.std.proofs.lemmas.Bool.{leb-true}
use Rattle.std.proofs.lemmas.List.{length-map}
use Rattle.n1ql_value.specs.declared.datum.Datum.{Datum}
use Rattle.n1ql_value.specs.declared.value.Value.{Value}
use Rattle.n1ql_value.specs.declared.value.Value.TheVariants.{Missing, Null, Bool as Flag, Int, Text, Array, Object}
use Rattle.n1ql_value.specs.Datum.{value_of}
use Rattle.n1ql_value.specs.Limits.{max_id_bytes, max_spans, max_ranges}
use Rattle.scan_history.specs.declared.kind.Kind.{Kind}
use Rattle.scan_history.specs.declared.kind.Kind.TheVariants as kinds
use Rattle.scan_history.specs.Sound.{IsRange, IsSpan, AreSpans, IsWithinBounds, IsTurn}
use Rattle.script_text.specs.declared.reader.format.form.Form.{Form}
use Rattle.script_text.specs.declared.reader.format.form.Form.TheVariants.{Upsert, Delete, Ddl, Scan, Query, Client, Project, Deliver, Lose, Publish, Rewind}
use Rattle.script_text.specs.declared.reader.script.item.Item.{Item}
use Rattle.script_text.specs.declared.reader.script.item.Item.TheVariants as item
use Rattle.script_text.specs.declared.reader.format.member_kind.MemberKind.TheVariants as kind
use Rattle.script_text.specs.declared.reader.format.sizes.Sizes.{Sizes}
use Rattle.script_text.specs.Members.{Members, value_at, text_at, each_item}
use Rattle.script_text.specs.SpanForms.{range_of_value, span_of_value, spans_of_value, is_span_within, are_spans_within}
use Rattle.script_text.specs.Rows.{in_range, is_number_below, form_of, row_of, has_shape, has_needed, is_within}
use Rattle.script_text.specs.Commands.{command_of}
use Rattle.script_text.specs.Turns.{turn_of}
use Rattle.script_text.specs.Items.{item_of, item_checked, item_by_form, item_of_line, members_of, and_then}
use Rattle.script_text.proofs.Bounds.{both, Admits, count_in}
use Rattle.script_text.proofs.HeaderBounds.{needed_text_bounds, shape-needed}
use Rattle.script_text.proofs.RequestBounds.{rewound-length, demand-sized}

incl_bounds : (b d e : Bool) → cond b 0 (cond d 1 (cond e 2 3)) ≤ 3
incl_bounds true d e = omega arith
incl_bounds false true e = omega arith
incl_bounds false false true = omega arith
incl_bounds false false false = omega arith

range_fits : (v : Value) → IsRange (range_of_value v)
range_fits v = incl_bounds _ _ _

ranges_fit : (ds : List Datum) → AllByRecursion IsRange (map (λ d. range_of_value (value_of d)) ds)
ranges_fit [] = tt
ranges_fit (d ∷ ds) = (range_fits (value_of d), ranges_fit ds)

span_fits : (v : Value) → is_span_within v ≡ true → IsSpan (span_of_value v)
span_fits (Array ds) e =
    let few = leb-true (length ds) max_ranges (both _ _ e).0 in
    let same : length (map (λ d. range_of_value (value_of d)) ds) ≡ length ds = length-map ds (λ d. range_of_value (value_of d)) in
    (omega arith, ranges_fit ds)
span_fits Missing e = cc
span_fits Null e = cc
span_fits (Flag b) e = cc
span_fits (Int z) e = cc
span_fits (Text t) e = cc
span_fits (Object ps) e = cc

each_span_fits : (ds : List Datum) → each_item is_span_within ds ≡ true → AllByRecursion IsSpan (map (λ d. span_of_value (value_of d)) ds)
each_span_fits [] e = tt
each_span_fits (d ∷ ds) e = let p = both (is_span_within (value_of d)) (each_item is_span_within ds) e in (span_fits (value_of d) p.0, each_span_fits ds p.1)

spans_fit : (v : Value) → are_spans_within v ≡ true → AreSpans (spans_of_value v)
spans_fit (Array ds) e =
    let p = both (leb (length ds) max_spans) (each_item is_span_within ds) e in
    let few = leb-true (length ds) max_spans p.0 in
    let same : length (map (λ d. span_of_value (value_of d)) ds) ≡ length ds = length-map ds (λ d. span_of_value (value_of d)) in
    (omega arith, each_span_fits ds p.1)
spans_fit Missing e = cc
spans_fit Null e = cc
spans_fit (Flag b) e = cc
spans_fit (Int z) e = cc
spans_fit (Text t) e = cc
spans_fit (Object ps) e = cc

spans_found : (sizes : Sizes) (found : Option Value) → Admits sizes kind.Spans found → AreSpans (option_map_or spans_of_value found ([] ∷ []))
unfolding in_range
spans_found sizes None e = (omega arith, ((omega arith, tt), tt))
spans_found sizes (Some v) e = spans_fit v e

int_below : (n : ℕ) (z : ℤ) → (int_le (pos 0) z && int_lt z (pos n)) ≡ true → unsigned_abs z < n
int_below n (pos m) e = ltb-true m n (both (int_le (pos 0) (pos m)) (int_lt (pos m) (pos n)) e).1
int_below n (negsuc m) e = cc

number_below : (n : ℕ) (v : Value) → is_number_below n v ≡ true → count_in 0 (Some v) < n
number_below n (Int z) e = int_below n z e
number_below n Missing e = cc
number_below n Null e = cc
number_below n (Flag b) e = cc
number_below n (Text t) e = cc
number_below n (Array ds) e = cc
number_below n (Object ps) e = cc

client_below : (sizes : Sizes) (found : Option Value) → is_some found ≡ true → Admits sizes kind.Client found → count_in 0 found < sizes.clients
unfolding in_range
client_below sizes None stands e = cc
client_below sizes (Some v) stands e = number_below sizes.clients v e

vbucket_below : (sizes : Sizes) (found : Option Value) → is_some found ≡ true → Admits sizes kind.VBucket found → count_in 0 found < sizes.vbuckets
unfolding in_range
vbucket_below sizes None stands e = cc
vbucket_below sizes (Some v) stands e = number_below sizes.vbuckets v e

-- so no number is above theirs
pub number_most : (end : ℕ) (found : Option Value) → option_map_or (is_number_below end) found true ≡ true → count_in 0 found ≤ end
number_most end None e = omega arith
number_most end (Some v) e = let below = number_below end v e in omega (arith, below)

-- the client and the vBucket of a turn are in their ranges
pub turn_client : (sizes : Sizes) (form : Form) (members : Members) → form ≡ Client → is_within sizes (row_of form) members ≡ true
    → option_map_or (is_number_below sizes.clients) (value_at (codes "c") members) true ≡ true
unfolding is_within row_of in_range
turn_client sizes form members is e =
    let within : is_within sizes (row_of Client) members ≡ true = subst (λ f. is_within sizes (row_of f) members ≡ true) is e in
    (both _ _ (both _ _ within).1).0

pub turn_vbucket : (sizes : Sizes) (form : Form) (members : Members) → form ≡ Project → is_within sizes (row_of form) members ≡ true
    → option_map_or (is_number_below sizes.vbuckets) (value_at (codes "vb") members) true ≡ true
unfolding is_within row_of in_range
turn_vbucket sizes form members is e =
    let within : is_within sizes (row_of Project) members ≡ true = subst (λ f. is_within sizes (row_of f) members ≡ true) is e in
    (both _ _ (both _ _ within).1).0

-- what a line says is within bounds
abbrev pub ItemFits : Sizes → Item → Type 0
ItemFits sizes (item.Command client command) = (client < sizes.clients) × IsWithinBounds sizes.vbuckets command
ItemFits sizes (item.Turn turn) = IsTurn sizes.vbuckets sizes.clients turn

same_ok : (a b : Item) (r : Result Item Kind) → r ≡ Ok a → r ≡ Ok b → a ≡ b
same_ok a b r e f = cc

-- what a form says, by its row
form_fits : (sizes : Sizes) (form : Form) (members : Members) (found : Item) → has_needed (row_of form) members ≡ true
    → is_within sizes (row_of form) members ≡ true → ok_or (item_of sizes.vbuckets form members) kinds.Unbuilt ≡ Ok found → ItemFits sizes found
unfolding row_of is_within item_of command_of turn_of
form_fits sizes Upsert members found stands within e =
    let s = both _ _ stands in
    let w = both _ _ within in
    let s2 = both _ _ (both _ _ s.1).1 in
    let w2 = both _ _ (both _ _ w.1).1 in
    subst (ItemFits sizes) (same_ok _ found _ refl e)
    (client_below sizes (value_at (codes "c") members) s.0 w.0, needed_text_bounds sizes 1 max_id_bytes [] (value_at (codes "id") members) s2.0 w2.0)
form_fits sizes Delete members found stands within e =
    let s = both _ _ stands in
    let w = both _ _ within in
    let s2 = both _ _ (both _ _ s.1).1 in
    let w2 = both _ _ (both _ _ w.1).1 in
    subst (ItemFits sizes) (same_ok _ found _ refl e)
    (client_below sizes (value_at (codes "c") members) s.0 w.0, needed_text_bounds sizes 1 max_id_bytes [] (value_at (codes "id") members) s2.0 w2.0)
form_fits sizes Ddl members found stands within e =
    let s = both _ _ stands in
    let w = both _ _ within in
    subst (ItemFits sizes) (same_ok _ found _ refl e) (client_below sizes (value_at (codes "c") members) s.0 w.0, tt)
form_fits sizes Scan members found stands within e =
    let s = both _ _ stands in
    let w = both _ _ within in
    let w3 = both _ _ (both _ _ (both _ _ w.1).1).1 in
    subst (ItemFits sizes) (same_ok _ found _ refl e)
    (client_below sizes (value_at (codes "c") members) s.0 w.0, (spans_found sizes (value_at (codes "spans") members) w3.0, demand-sized sizes.vbuckets members))
form_fits sizes Query members found stands within e = cc
form_fits sizes Client members found stands within e =
    let s = both _ _ (both _ _ stands).1 in
    let w = both _ _ (both _ _ within).1 in
    subst (ItemFits sizes) (same_ok _ found _ refl e) (client_below sizes (value_at (codes "c") members) s.0 w.0)
form_fits sizes Project members found stands within e =
    let s = both _ _ (both _ _ stands).1 in
    let w = both _ _ (both _ _ within).1 in
    subst (ItemFits sizes) (same_ok _ found _ refl e) (vbucket_below sizes (value_at (codes "vb") members) s.0 w.0)
form_fits sizes Deliver members found stands within e = subst (ItemFits sizes) (same_ok _ found _ refl e) tt
form_fits sizes Lose members found stands within e = subst (ItemFits sizes) (same_ok _ found _ refl e) tt
form_fits sizes Publish members found stands within e = subst (ItemFits sizes) (same_ok _ found _ refl e) tt
form_fits sizes Rewind members found stands within e = subst (ItemFits sizes) (same_ok _ found _ refl e) (rewound-length sizes.vbuckets members)

-- each test in turn passed
item_tests : (shape within : Bool) (made : Result Item Kind) (item : Item)
    → cond (not shape) (Err kinds.Shape) (cond (not within) (Err kinds.Range) made) ≡ Ok item → (shape ≡ true) × (within ≡ true) × (made ≡ Ok item)
item_tests false within made item e = cc
item_tests true false made item e = cc
item_tests true true made item e = (refl, refl, e)

item_checked-fits : (sizes : Sizes) (form : Form) (members : Members) (found : Item) → item_checked sizes form members ≡ Ok found → ItemFits sizes found
unfolding item_checked
item_checked-fits sizes form members found e =
    let p = item_tests (has_shape (row_of form) members) (is_within sizes (row_of form) members) (ok_or (item_of sizes.vbuckets form members) kinds.Unbuilt) found e in
    form_fits sizes form members found (shape-needed (row_of form) members p.0) p.1 p.2

after_form : (sizes : Sizes) (members : Members) (form : Option Form) (found : Item)
    → and_then (λ f. item_checked sizes f members) (ok_or form kinds.Shape) ≡ Ok found → ItemFits sizes found
after_form sizes members (Some form) found e = item_checked-fits sizes form members found e
after_form sizes members None found e = cc

after_members : (sizes : Sizes) (r : Result Members Kind) (found : Item) → and_then (item_by_form sizes) r ≡ Ok found → ItemFits sizes found
after_members sizes (Ok members) found e = after_form sizes members (form_of members) found e
after_members sizes (Err kind) found e = cc

pub item_of_line-fits : (sizes : Sizes) (line : List ℕ) (found : Item) → item_of_line sizes line ≡ Ok found → ItemFits sizes found
unfolding item_of_line
item_of_line-fits sizes line found e = after_members sizes (members_of line) found e
